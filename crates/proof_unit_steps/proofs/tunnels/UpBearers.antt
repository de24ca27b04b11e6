-- What a CU-UP's rows put for a bearer goes on the downlink and on the hop that the bearer names; and numbers are as long as the context says.
use Rattle.std.proofs.Common.{◌==◌, ℕ, Bool, true, false, not, ◌&&◌, ◌||◌, List, [], ◌∷◌, ◌++◌, Option, Some, None}
use Rattle.std.specs.Prelude.{if◌then◌else◌, nat_lt, filter}
use Rattle.gnb_types.specs.declared.names.Gnb.{Gnb}
use Rattle.gnb_types.specs.declared.names.NodeId.{NodeId}
use Rattle.gnb_types.specs.declared.names.NodeId.TheVariants.{CuCp, CuUp as up_id, Du as du_id, Core, Ue}
use Rattle.gnb_types.specs.declared.names.UeId.{UeId}
use Rattle.gnb_types.specs.declared.names.BearerId.{BearerId}
use Rattle.gnb_types.specs.declared.names.Dir.TheVariants.{Dl, Ul}
use Rattle.gnb_types.specs.declared.outputs.Tag.{Tag}
use Rattle.gnb_types.specs.declared.outputs.Tag.TheVariants.{Absent, Own, Same}
use Rattle.gnb_types.specs.declared.plans.SnStatus.{SnStatus}
use Rattle.gnb_types.specs.declared.reasons.DropReason.TheVariants.{Unexpected, Duplicate}
use Rattle.pdcp.specs.Near.{last_count}
use Rattle.pdcp_defs.specs.Senders.{numbered as with_next, has_room, may_restore, restored, confirmed_by}
use Rattle.pdcp_defs.specs.Receivers.{deliver as handed_up, received_bits, is_duplicate, stored}
use Rattle.unit_defs.specs.Ways.{packet_pdu, report_pdu, Content, packet_content, report_content, Load, fresh, numbered, end_marker, Taken, fresh_item, numbered_item, uplink_item, status_item, end_item, deliver, closed, Way, Answer, spent, ◌then◌, nothing, puts, drops, counts_spent, frames_spent}
use Rattle.unit_defs.specs.CuUpRecords.{DownlinkTunnel, SourceHop, CuUpBearer, TunnelKind, n3, f1u_uplink, forwarding_down, forwarding_up, CuUpScope}
use Rattle.unit_defs.specs.CuUpBearers.{last_frame, has_downlink, owed, thawed, no_uplink, bits_in, framed_on, framed, sent, sent_again, number_each, number_waiting, deliver_stored, put_down, forwarded_down, put_up, forwarded_up, begin_downlink, begin_where_known, switched, forward_numbered, forward_fresh, forward_late, frozen_to, with_status, resumed}
use Rattle.unit_defs.specs.CuUpItems.{took_fresh, closed_n3, n3_ended, restored_at, took_numbered, stored_at, passed_up, took_uplink, took_report, took_content, confirmed_if, lost_frames, took_delivery_status, up_hop_ends_if, uplink_ended, up_ended, took}
use Rattle.proof_unit_steps.proofs.packets.Answers.{all_map}
use Rattle.proof_unit_steps.specs.tunnel_names.Names.{Property, LoadNames, PutOn, OutputNames, AnswerNames}
use Rattle.proof_unit_steps.proofs.tunnel_names.Kept.{either as either_way, after as after_one}
use Rattle.proof_unit_steps.specs.tunnels.Units.{CuUpTeid, DuTeid, DownlinkNames, HopNames, BearerNames}

module _ {M C P : Type 0} {way : Way M C P} (is : Property way) (gnb : Gnb) (number : ℕ) where
  -- ---- what a CU-UP puts on a named tunnel

  on_downlink : (du : NodeId) (ue : UeId) (bearer : BearerId) (teid : ℕ) → DuTeid is.owners du ue bearer teid → PutOn is (up_id gnb number) du teid ue bearer Dl
  on_downlink (du_id g n) ue bearer teid p = p
  on_downlink (CuCp g) ue bearer teid p = absurd p
  on_downlink (up_id g n) ue bearer teid p = absurd p
  on_downlink Core ue bearer teid p = absurd p
  on_downlink (Ue u) ue bearer teid p = absurd p

  on_down : (peer : NodeId) (ue : UeId) (bearer : BearerId) (teid : ℕ) → CuUpTeid is.owners peer forwarding_down ue bearer teid
      → PutOn is (up_id gnb number) peer teid ue bearer Dl
  on_down (up_id g n) ue bearer teid p = p
  on_down (CuCp g) ue bearer teid p = absurd p
  on_down (du_id g n) ue bearer teid p = absurd p
  on_down Core ue bearer teid p = absurd p
  on_down (Ue u) ue bearer teid p = absurd p

  on_up : (peer : NodeId) (ue : UeId) (bearer : BearerId) (teid : ℕ) → CuUpTeid is.owners peer forwarding_up ue bearer teid
      → PutOn is (up_id gnb number) peer teid ue bearer Ul
  on_up (up_id g n) ue bearer teid p = p
  on_up (CuCp g) ue bearer teid p = absurd p
  on_up (du_id g n) ue bearer teid p = absurd p
  on_up Core ue bearer teid p = absurd p
  on_up (Ue u) ue bearer teid p = absurd p

  abbrev pub BearerAnswer : UeId → BearerId → Answer M P CuUpBearer → Type 0
  BearerAnswer ue bearer a = AnswerNames is (BearerNames is.owners ue bearer) (up_id gnb number) a

  module _ (at : CuUpScope) (long : is.owners.length at.ue at.sn) where
    abbrev Has : CuUpBearer → Type 0
    Has b = BearerNames is.owners at.ue at.bearer b

    abbrev Fits : Answer M P CuUpBearer → Type 0
    Fits a = BearerAnswer at.ue at.bearer a

    abbrev HasHop : Option SourceHop → Type 0
    HasHop h = HopNames is.owners at.ue at.bearer h

    either : (t : Bool) (x y : Answer M P CuUpBearer) → Fits x → Fits y → Fits (if t then x else y)
    either t x y p q = either_way is (up_id gnb number) Has t x y p q

    after : (a : Answer M P CuUpBearer) (f : CuUpBearer → Answer M P CuUpBearer) → Fits a → ((c : CuUpBearer) → Has c → Fits (f c)) → Fits (a then f)
    after a f p q = after_one is (up_id gnb number) Has Has a f p q

    -- ---- frames

    pub framed_fits : (poll restart : Bool) (pdu : Option P) (tag : Tag) (b : CuUpBearer) → Has b → Fits (framed way at poll restart pdu tag b)
    unfolding framed
    framed_fits poll restart pdu tag b p = by b.downlink p.0
      where
        by : (d : Option DownlinkTunnel) → DownlinkNames is.owners at.ue at.bearer d → Fits (framed_on way at b poll restart pdu tag d)
        by None q = (p, tt)
        by (Some d) q = either (nat_lt last_frame d.next) (spent frames_spent) _ tt ((q, p.1), ((on_downlink d.du at.ue at.bearer d.teid q, (at.sn, long)), tt))

    sent_fits : (count : ℕ) (x : List ℕ) (tag : Tag) (b : CuUpBearer) → Has b → Fits (sent way at count x tag b)
    unfolding sent
    sent_fits count x tag b p = framed_fits false b.restart (Some (way.write at.sn (packet_pdu count x))) tag b p

    sent_again_fits : (es : List (ℕ × List ℕ)) (b : CuUpBearer) → Has b → Fits (sent_again way at es b)
    unfolding sent_again
    sent_again_fits [] b p = (p, tt)
    sent_again_fits (e ∷ es) b p =
        after (sent way at e.0 e.1 (Own e.0) b) (sent_again way at es) (sent_fits e.0 e.1 (Own e.0) b p) (sent_again_fits es)

    number_each_fits : (ps : List (List ℕ)) (b : CuUpBearer) → Has b → Fits (number_each way at ps b)
    unfolding number_each
    number_each_fits [] b p = (p, tt)
    number_each_fits (x ∷ xs) b p =
        let on : CuUpBearer = record b { sender = with_next b.sender x; waiting = xs } in
        either (not (has_room at.sn at.quota b.sender)) (nothing b) _ (p, tt)
        (after (if nat_lt last_count b.sender.next then spent counts_spent else sent way at b.sender.next x (Own b.sender.next) on) (number_each way at xs)
        (either (nat_lt last_count b.sender.next) (spent counts_spent) (sent way at b.sender.next x (Own b.sender.next) on) tt
        (sent_fits b.sender.next x (Own b.sender.next) on p)) (number_each_fits xs))

    number_waiting_fits : (b : CuUpBearer) → Has b → Fits (number_waiting way at b)
    unfolding number_waiting
    number_waiting_fits b p =
        either (at.flags.frozen || at.flags.released || not (has_downlink b.downlink)) (nothing b) (number_each way at b.waiting b) (p, tt)
        (number_each_fits b.waiting b p)

    -- ---- what is delivered, and what goes to the target

    deliver_fits : (b : CuUpBearer) → Has b → Fits (deliver_stored way at b)
    unfolding deliver_stored
    deliver_fits b p =
        (p, all_map (OutputNames is (up_id gnb number)) (λ (e : ℕ × List ℕ). deliver at.ue at.bearer Ul e.0 e.1) (λ e. tt) (handed_up b.receiver).packets)

    down_fits : (tag : Tag) (load : Load P) (b : CuUpBearer) → LoadNames is.owners at.ue load → Has b → Fits (forwarded_down way at tag load b)
    unfolding forwarded_down
    down_fits tag load b says p = by b.hop p.1
      where
        by : (h : Option SourceHop) → HasHop h → Fits (put_down way at tag load b h)
        by None q = (p, tt)
        by (Some h) q = (p, ((on_down h.peer at.ue at.bearer h.down q.0, says), tt))

    up_fits : (tag : Tag) (load : Load P) (b : CuUpBearer) → LoadNames is.owners at.ue load → Has b → Fits (forwarded_up way at tag load b)
    unfolding forwarded_up
    up_fits tag load b says p = by b.hop p.1
      where
        by : (h : Option SourceHop) → HasHop h → Fits (put_up way at tag load b h)
        by None q = (p, tt)
        by (Some h) q = (p, ((on_up h.peer at.ue at.bearer h.up q.1, says), tt))

    -- ---- switch, freeze, SN status, resume

    begin_fits : (fmc : ℕ) (bits : List Bool) (b : CuUpBearer) → Has b → Fits (begin_downlink way at fmc bits b)
    unfolding begin_downlink
    begin_fits fmc bits b p =
        let report : Answer M P CuUpBearer = framed way at false false (Some (way.write at.sn (report_pdu fmc bits))) Absent b in
        after (report then (λ c. sent_again way at c.sender.unconfirmed c)) (number_waiting way at)
        (after report (λ c. sent_again way at c.sender.unconfirmed c) (framed_fits false false (Some (way.write at.sn (report_pdu fmc bits))) Absent b p)
        (λ c q. sent_again_fits c.sender.unconfirmed c q)) number_waiting_fits

    pub switched_fits : (du : NodeId) (teid : ℕ) (b : CuUpBearer) → DuTeid is.owners du at.ue at.bearer teid → Has b → Fits (switched way at du teid b)
    unfolding switched
    switched_fits du teid b there p =
        let on : CuUpBearer = record (thawed b) { downlink = Some (record { du = du; teid = teid; next = 0 }); restart = false } in
        after (deliver_stored way at on) (begin_where_known way at) (deliver_fits on (there, tt))
        (λ c q. either at.flags.may_serve (begin_downlink way at c.receiver.deliv (received_bits c.receiver) c) (nothing c)
        (begin_fits c.receiver.deliv (received_bits c.receiver) c q) (q, tt))

    numbered_fits : (es : List (ℕ × List ℕ)) (b : CuUpBearer) → Has b → Fits (forward_numbered way at es b)
    numbered_fits [] b p = (p, tt)
    numbered_fits (e ∷ es) b p =
        after (forwarded_down way at (Own e.0) (numbered at.sn e.0 e.1) b) (forward_numbered way at es) (down_fits (Own e.0) (numbered at.sn e.0 e.1) b long p)
        (numbered_fits es)

    fresh_fits : (ps : List (List ℕ)) (b : CuUpBearer) → Has b → Fits (forward_fresh way at ps b)
    fresh_fits [] b p = (p, tt)
    fresh_fits (x ∷ xs) b p = after (forwarded_down way at Absent (fresh x) b) (forward_fresh way at xs) (down_fits Absent (fresh x) b tt p) (fresh_fits xs)

    late_fits : (es : List (ℕ × List ℕ)) (b : CuUpBearer) → Has b → Fits (forward_late way at es b)
    late_fits [] b p = (p, tt)
    late_fits (e ∷ es) b p =
        after (forwarded_up way at (Own e.0) (numbered at.sn e.0 e.1) b) (forward_late way at es) (up_fits (Own e.0) (numbered at.sn e.0 e.1) b long p) (late_fits es)

    pub frozen_fits : (peer : NodeId) (down up : ℕ) (b : CuUpBearer) → CuUpTeid is.owners peer forwarding_down at.ue at.bearer down
        → CuUpTeid is.owners peer forwarding_up at.ue at.bearer up → Has b → Fits (frozen_to way at peer down up b)
    unfolding frozen_to
    frozen_fits peer down up b downs ups p =
        let on : CuUpBearer = record b { hop = Some (record { peer = peer; down = down; up = up; up_ended = false }); loss_while_frozen = false; taken_while_frozen = [] } in
        after (forward_numbered way at b.sender.unconfirmed on then (λ c. forward_fresh way at c.waiting c)) (λ c. forward_late way at c.receiver.stored c)
        (after (forward_numbered way at b.sender.unconfirmed on) (λ c. forward_fresh way at c.waiting c)
        (numbered_fits b.sender.unconfirmed on (p.0, (downs, ups))) (λ c q. fresh_fits c.waiting c q)) (λ c q. late_fits c.receiver.stored c q)

    pub status_fits : (s : SnStatus) (b : CuUpBearer) → Has b → Fits (with_status way at s b)
    unfolding with_status
    status_fits s b p =
        let on : CuUpBearer = record b { dl_next = s.dl_next; sender = record b.sender { next = s.dl_next }; receiver = record b.receiver { deliv = s.ul_first } } in
        either at.flags.arrived (deliver_stored way at on then begin_downlink way at s.ul_first (bits_in s.ul_received)) (nothing on)
        (after (deliver_stored way at on) (begin_downlink way at s.ul_first (bits_in s.ul_received)) (deliver_fits on p)
        (begin_fits s.ul_first (bits_in s.ul_received))) (p, tt)

    pub resumed_fits : (b : CuUpBearer) → Has b → Fits (resumed way at b)
    unfolding resumed
    resumed_fits b p =
        let on : CuUpBearer = record (thawed b) { restart = b.restart || b.loss_while_frozen } in
        after (sent_again way at (owed b) on then deliver_stored way at) (number_waiting way at)
        (after (sent_again way at (owed b) on) (deliver_stored way at) (sent_again_fits (owed b) on (p.0, tt)) deliver_fits) number_waiting_fits

    -- ---- items

    took_fresh_fits : (x : List ℕ) (b : CuUpBearer) → Has b → Fits (took_fresh way at x b)
    unfolding took_fresh
    took_fresh_fits x b p =
        let on : CuUpBearer = record b { waiting = b.waiting ++ x ∷ [] } in
        either at.flags.released (forwarded_down way at Absent (fresh x) b) _ (down_fits Absent (fresh x) b tt p)
        (either at.flags.frozen (forwarded_down way at Absent (fresh x) on) (number_waiting way at on) (down_fits Absent (fresh x) on tt p) (number_waiting_fits on p))

    n3_fits : (b : CuUpBearer) (h : Option SourceHop) → Has b → Fits (n3_ended way at b h)
    n3_fits b None p = (p, (tt, tt))
    n3_fits b (Some h) p = after (forwarded_down way at Absent end_marker b) (λ c. closed_n3 way c c.n3) (down_fits Absent end_marker b tt p) (λ c q. by c c.n3 q)
      where
        by : (c : CuUpBearer) (t : Option ℕ) → Has c → Fits (closed_n3 way c t)
        by c None q = (q, tt)
        by c (Some t) q = (q, (tt, tt))

    took_numbered_fits : (count : Option ℕ) (x : List ℕ) (b : CuUpBearer) → Has b → Fits (took_numbered way at count x b)
    unfolding took_numbered
    took_numbered_fits None x b p = (p, (tt, tt))
    took_numbered_fits (Some count) x b p =
        let on : CuUpBearer = record b { sender = restored b.sender count x } in
        either at.flags.released (forwarded_down way at Same (numbered at.sn count x) b) _ (down_fits Same (numbered at.sn count x) b long p)
        (either (may_restore at.sn at.quota b.sender count) (restored_at way at count x b) _
        (either at.flags.frozen _ (sent way at count x Same on)
        (down_fits Same (numbered at.sn count x) (record on { taken_while_frozen = b.taken_while_frozen ++ count ∷ [] }) long p) (sent_fits count x Same on p))
        (p, (tt, tt)))

    took_uplink_fits : (count : Option ℕ) (x : List ℕ) (b : CuUpBearer) → Has b → Fits (took_uplink way at count x b)
    unfolding took_uplink
    took_uplink_fits None x b p = (p, (tt, tt))
    took_uplink_fits (Some count) x b p =
        let on : CuUpBearer = record b { receiver = stored b.receiver count x } in
        either at.flags.released (passed_up way at count x b) _
        (either (nat_lt count b.receiver.deliv) (drops Duplicate b) (forwarded_up way at Same (numbered at.sn count x) b) (p, (tt, tt))
        (up_fits Same (numbered at.sn count x) b long p))
        (either (is_duplicate b.receiver count) (drops Duplicate b) (stored_at way at count x b) (p, (tt, tt))
        (either at.flags.frozen (forwarded_up way at Same (numbered at.sn count x) on) (deliver_stored way at on) (up_fits Same (numbered at.sn count x) on long p)
        (deliver_fits on p)))

    took_content_fits : (content : Content) (b : CuUpBearer) → Has b → Fits (took_content way at content b)
    unfolding took_report
    took_content_fits (packet_content count x) b p = took_uplink_fits count x b p
    took_content_fits (report_content fmc bits) b p = number_waiting_fits (record b { sender = confirmed_by b.sender fmc bits }) p

    lost_fits : (ranges : List (ℕ × ℕ)) (b : CuUpBearer) → Has b → Fits (lost_frames way at ranges b)
    lost_fits [] b p = (p, tt)
    lost_fits (range ∷ ranges) b p =
        either at.flags.frozen (nothing (record b { restart = true; loss_while_frozen = true })) (sent_again way at b.sender.unconfirmed (record b { restart = true })) (p, tt)
        (sent_again_fits b.sender.unconfirmed (record b { restart = true }) p)

    confirmed_bearer : (confirmed : Option ℕ) (b : CuUpBearer) → Has b → Has (confirmed_if way confirmed b)
    confirmed_bearer None b p = p
    confirmed_bearer (Some count) b p = p

    hop_fits : (h : Option SourceHop) (b : CuUpBearer) → HasHop h → Has b → Fits (up_hop_ends_if way at h b)
    hop_fits None b q p = (p, tt)
    hop_fits (Some h) b q p =
        either (not h.up_ended && no_uplink b.uplinks && (not at.flags.target || b.up_ended))
        (forwarded_up way at Absent end_marker (record b { hop = Some (record h { up_ended = true }) })) (nothing b)
        (up_fits Absent end_marker (record b { hop = Some (record h { up_ended = true }) }) tt (p.0, q)) (p, tt)

    uplink_fits : (teid : ℕ) (b : CuUpBearer) → Has b → Fits (uplink_ended way at teid b)
    unfolding uplink_ended
    uplink_fits teid b p =
        after (puts (closed teid) (record b { uplinks = filter (λ t. not (t == teid)) b.uplinks })) (λ c. up_hop_ends_if way at c.hop c) (p, (tt, tt))
        (λ c q. hop_fits c.hop c q.1 q)

    pub item_fits : (kind : TunnelKind) (teid : ℕ) (item : Taken P) (b : CuUpBearer) → Has b → Fits (took way at kind teid item b)
    unfolding took took_delivery_status up_ended
    item_fits n3 teid (fresh_item x) b p = took_fresh_fits x b p
    item_fits n3 teid end_item b p = n3_fits b b.hop p
    item_fits forwarding_down teid (fresh_item x) b p = took_fresh_fits x b p
    item_fits forwarding_down teid (numbered_item count x) b p = took_numbered_fits count x b p
    item_fits forwarding_down teid end_item b p = either b.down_ended (drops Unexpected b) (nothing (record b { down_ended = true })) (p, (tt, tt)) (p, tt)
    item_fits f1u_uplink teid (uplink_item content) b p = took_content_fits content b p
    item_fits f1u_uplink teid (status_item lost confirmed) b p =
        after (lost_frames way at lost (confirmed_if way confirmed b)) (number_waiting way at)
        (lost_fits lost (confirmed_if way confirmed b) (confirmed_bearer confirmed b p)) number_waiting_fits
    item_fits f1u_uplink teid end_item b p = uplink_fits teid b p
    item_fits forwarding_up teid (numbered_item count x) b p = took_uplink_fits count x b p
    item_fits forwarding_up teid end_item b p =
        either b.up_ended (drops Unexpected b) (up_hop_ends_if way at b.hop (record b { up_ended = true })) (p, (tt, tt))
        (hop_fits b.hop (record b { up_ended = true }) p.1 p)
    item_fits kind teid item b p = (p, (tt, tt))
