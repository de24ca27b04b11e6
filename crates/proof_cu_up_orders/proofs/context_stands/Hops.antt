-- Rows keep the hop of a bearer, but for a switch, a freeze and a resume.
use Rattle.std.proofs.Common.{◌≡◌, ◌==◌, ℕ, ◌+◌, Bool, true, false, not, ◌&&◌, ◌||◌, if◌then◌else◌, nat_lt, List, [], ◌∷◌, ◌++◌, filter, Option, Some, None, refl, sym, ap, ◌∙◌}
use Rattle.std.specs.Prelude.{is_some}
use Rattle.gnb_types.specs.declared.names.NodeId.{NodeId}
use Rattle.gnb_types.specs.declared.names.Dir.TheVariants.{Dl}
use Rattle.gnb_types.specs.declared.plans.SnStatus.{SnStatus}
use Rattle.gnb_types.specs.declared.outputs.Tag.{Tag}
use Rattle.gnb_types.specs.declared.outputs.Tag.TheVariants.{Absent, Own, Same}
use Rattle.gnb_types.specs.declared.reasons.DropReason.TheVariants.{Duplicate, Unexpected}
use Rattle.pdcp.specs.Near.{last_count}
use Rattle.pdcp_defs.specs.Senders.{numbered as with_next, has_room, may_restore, restored, confirmed_by}
use Rattle.pdcp_defs.specs.Receivers.{received_bits, is_duplicate, stored}
use Rattle.unit_defs.specs.Ways.{Content, packet_content, report_content, packet_pdu, report_pdu, Load, fresh, numbered, end_marker, frame, Taken, fresh_item, numbered_item, uplink_item, status_item, end_item, packet, closed, Way, Answer, gives, spent, with_outputs, ◌then◌, nothing, puts, drops, counts_spent, frames_spent}
use Rattle.unit_defs.specs.CuUpRecords.{DownlinkTunnel, SourceHop, CuUpBearer, TunnelKind, n3, f1u_uplink, forwarding_down, forwarding_up, CuUpScope}
use Rattle.unit_defs.specs.CuUpBearers.{has_downlink, thawed, bits_in, owed, no_uplink, last_frame, framed_on, framed, sent, sent_again, number_each, number_waiting, deliver_stored, put_down, forwarded_down, put_up, forwarded_up, with_uplink, begin_downlink, begin_where_known, switched, forward_numbered, forward_fresh, forward_late, frozen_to, with_status, resumed}
use Rattle.unit_defs.specs.CuUpItems.{took_fresh, closed_n3, n3_ended, restored_at, took_numbered, stored_at, passed_up, took_uplink, took_report, took_content, confirmed_if, lost_frames, took_delivery_status, up_hop_ends_if, uplink_ended, up_ended, took}

module _ {M C P : Type 0} (way : Way M C P) where
  -- the bearer has a hop then, or it has none
  abbrev pub HopIs : Bool → Answer M P CuUpBearer → Type 0
  HopIs h (gives outputs d) = is_some d.hop ≡ h
  HopIs h (spent counter) = Unit {0}

  module _ (at : CuUpScope) (h : Bool) where
    abbrev Has : CuUpBearer → Type 0
    Has b = is_some b.hop ≡ h

    abbrev Is : Answer M P CuUpBearer → Type 0
    Is a = HopIs h a

    either : (t : Bool) (x y : Answer M P CuUpBearer) → Is x → Is y → Is (if t then x else y)
    either true x y p q = p
    either false x y p q = q

    after : (a : Answer M P CuUpBearer) (f : CuUpBearer → Answer M P CuUpBearer) → Is a → ((c : CuUpBearer) → Has c → Is (f c)) → Is (a then f)
    after (spent k) f p q = tt
    after (gives os c) f p q = by (f c) (q c p)
      where
        by : (a : Answer M P CuUpBearer) → Is a → Is (with_outputs os a)
        by (spent k) i = tt
        by (gives more d) i = i

    pub hop_framed : (poll restart : Bool) (pdu : Option P) (tag : Tag) (b : CuUpBearer) → Has b → Is (framed way at poll restart pdu tag b)
    unfolding framed
    hop_framed poll restart pdu tag b p = by b.downlink
      where
        by : (d : Option DownlinkTunnel) → Is (framed_on way at b poll restart pdu tag d)
        by None = p
        by (Some d) = either (nat_lt last_frame d.next) (spent frames_spent)
            (puts (packet d.du d.teid at.ue at.bearer Dl tag (frame poll restart d.next pdu))
            (record b { downlink = Some (record d { next = d.next + 1 }); restart = b.restart && not restart })) tt p

    hop_sent : (count : ℕ) (x : List ℕ) (tag : Tag) (b : CuUpBearer) → Has b → Is (sent way at count x tag b)
    unfolding sent
    hop_sent count x tag b p = hop_framed false b.restart (Some (way.write at.sn (packet_pdu count x))) tag b p

    hop_again : (es : List (ℕ × List ℕ)) (b : CuUpBearer) → Has b → Is (sent_again way at es b)
    unfolding sent_again
    hop_again [] b p = p
    hop_again (e ∷ es) b p = after (sent way at e.0 e.1 (Own e.0) b) (sent_again way at es) (hop_sent e.0 e.1 (Own e.0) b p) (λ c q. hop_again es c q)

    hop_each : (ps : List (List ℕ)) (b : CuUpBearer) → Has b → Is (number_each way at ps b)
    unfolding number_each
    hop_each [] b p = p
    hop_each (x ∷ xs) b p =
        let on : CuUpBearer = record b { sender = with_next b.sender x; waiting = xs } in
        let one : Answer M P CuUpBearer = if nat_lt last_count b.sender.next then spent counts_spent else sent way at b.sender.next x (Own b.sender.next) on in
        either (not (has_room at.sn at.quota b.sender)) (nothing b) (one then number_each way at xs) p
        (after one (number_each way at xs)
        (either (nat_lt last_count b.sender.next) (spent counts_spent) (sent way at b.sender.next x (Own b.sender.next) on) tt
        (hop_sent b.sender.next x (Own b.sender.next) on p)) (λ c q. hop_each xs c q))

    hop_numbers : (b : CuUpBearer) → Has b → Is (number_waiting way at b)
    unfolding number_waiting
    hop_numbers b p =
        either (at.flags.frozen || at.flags.released || not (has_downlink b.downlink)) (nothing b) (number_each way at b.waiting b) p (hop_each b.waiting b p)

    hop_deliver : (b : CuUpBearer) → Has b → Is (deliver_stored way at b)
    unfolding deliver_stored
    hop_deliver b p = p

    hop_down : (tag : Tag) (load : Load P) (b : CuUpBearer) → Has b → Is (forwarded_down way at tag load b)
    unfolding forwarded_down
    hop_down tag load b p = by b.hop
      where
        by : (o : Option SourceHop) → Is (put_down way at tag load b o)
        by None = p
        by (Some hop) = p

    hop_up : (tag : Tag) (load : Load P) (b : CuUpBearer) → Has b → Is (forwarded_up way at tag load b)
    unfolding forwarded_up
    hop_up tag load b p = by b.hop
      where
        by : (o : Option SourceHop) → Is (put_up way at tag load b o)
        by None = p
        by (Some hop) = p

    -- ---- control

    pub hop_uplink : (teid : ℕ) (b : CuUpBearer) → Has b → Is (with_uplink way teid b)
    unfolding with_uplink
    hop_uplink teid b p = p

    hop_begins : (fmc : ℕ) (bits : List Bool) (b : CuUpBearer) → Has b → Is (begin_downlink way at fmc bits b)
    unfolding begin_downlink
    hop_begins fmc bits b p =
        let report : Answer M P CuUpBearer = framed way at false false (Some (way.write at.sn (report_pdu fmc bits))) Absent b in
        after (report then (λ c. sent_again way at c.sender.unconfirmed c)) (number_waiting way at)
        (after report (λ c. sent_again way at c.sender.unconfirmed c) (hop_framed false false (Some (way.write at.sn (report_pdu fmc bits))) Absent b p)
        (λ c q. hop_again c.sender.unconfirmed c q)) (λ c q. hop_numbers c q)

    pub hop_status : (s : SnStatus) (b : CuUpBearer) → Has b → Is (with_status way at s b)
    unfolding with_status
    hop_status s b p =
        let on : CuUpBearer = record b { dl_next = s.dl_next; sender = record b.sender { next = s.dl_next }; receiver = record b.receiver { deliv = s.ul_first } } in
        either at.flags.arrived (deliver_stored way at on then begin_downlink way at s.ul_first (bits_in s.ul_received)) (nothing on)
        (after (deliver_stored way at on) (begin_downlink way at s.ul_first (bits_in s.ul_received)) (hop_deliver on p)
        (λ c q. hop_begins s.ul_first (bits_in s.ul_received) c q)) p

    hop_numbered : (es : List (ℕ × List ℕ)) (b : CuUpBearer) → Has b → Is (forward_numbered way at es b)
    hop_numbered [] b p = p
    hop_numbered (e ∷ es) b p =
        after (forwarded_down way at (Own e.0) (numbered at.sn e.0 e.1) b) (forward_numbered way at es) (hop_down (Own e.0) (numbered at.sn e.0 e.1) b p)
        (λ c q. hop_numbered es c q)

    hop_fresh : (ps : List (List ℕ)) (b : CuUpBearer) → Has b → Is (forward_fresh way at ps b)
    hop_fresh [] b p = p
    hop_fresh (x ∷ xs) b p =
        after (forwarded_down way at Absent (fresh x) b) (forward_fresh way at xs) (hop_down Absent (fresh x) b p) (λ c q. hop_fresh xs c q)

    hop_late : (es : List (ℕ × List ℕ)) (b : CuUpBearer) → Has b → Is (forward_late way at es b)
    hop_late [] b p = p
    hop_late (e ∷ es) b p =
        after (forwarded_up way at (Own e.0) (numbered at.sn e.0 e.1) b) (forward_late way at es) (hop_up (Own e.0) (numbered at.sn e.0 e.1) b p)
        (λ c q. hop_late es c q)

    pub hop_after_freeze : (peer : NodeId) (down up : ℕ) (b : CuUpBearer) → true ≡ h → Is (frozen_to way at peer down up b)
    unfolding frozen_to
    hop_after_freeze peer down up b p =
        let on : CuUpBearer = record b { hop = Some (record { peer = peer; down = down; up = up; up_ended = false }); loss_while_frozen = false; taken_while_frozen = [] } in
        after (forward_numbered way at b.sender.unconfirmed on then (λ c. forward_fresh way at c.waiting c)) (λ c. forward_late way at c.receiver.stored c)
        (after (forward_numbered way at b.sender.unconfirmed on) (λ c. forward_fresh way at c.waiting c)
        (hop_numbered b.sender.unconfirmed on p) (λ c q. hop_fresh c.waiting c q)) (λ c q. hop_late c.receiver.stored c q)

    pub hop_after_switch : (du : NodeId) (teid : ℕ) (b : CuUpBearer) → false ≡ h → Is (switched way at du teid b)
    unfolding switched
    hop_after_switch du teid b p =
        let on : CuUpBearer = record (thawed b) { downlink = Some (record { du = du; teid = teid; next = 0 }); restart = false } in
        after (deliver_stored way at on) (begin_where_known way at) (hop_deliver on p)
        (λ c q. either at.flags.may_serve (begin_downlink way at c.receiver.deliv (received_bits c.receiver) c) (nothing c)
        (hop_begins c.receiver.deliv (received_bits c.receiver) c q) q)

    pub hop_after_resume : (b : CuUpBearer) → false ≡ h → Is (resumed way at b)
    unfolding resumed
    hop_after_resume b p =
        let on : CuUpBearer = record (thawed b) { restart = b.restart || b.loss_while_frozen } in
        after (sent_again way at (owed b) on then deliver_stored way at) (number_waiting way at)
        (after (sent_again way at (owed b) on) (deliver_stored way at) (hop_again (owed b) on p) (λ c q. hop_deliver c q)) (λ c q. hop_numbers c q)

    -- ---- items

    hop_took_fresh : (x : List ℕ) (b : CuUpBearer) → Has b → Is (took_fresh way at x b)
    unfolding took_fresh
    hop_took_fresh x b p =
        let on : CuUpBearer = record b { waiting = b.waiting ++ x ∷ [] } in
        either at.flags.released (forwarded_down way at Absent (fresh x) b)
        (if at.flags.frozen then forwarded_down way at Absent (fresh x) on else number_waiting way at on) (hop_down Absent (fresh x) b p)
        (either at.flags.frozen (forwarded_down way at Absent (fresh x) on) (number_waiting way at on) (hop_down Absent (fresh x) on p) (hop_numbers on p))

    hop_n3 : (b : CuUpBearer) (o : Option SourceHop) → Has b → Is (n3_ended way at b o)
    hop_n3 b None p = p
    hop_n3 b (Some hop) p = after (forwarded_down way at Absent end_marker b) (λ c. closed_n3 way c c.n3) (hop_down Absent end_marker b p) (λ c q. by c q c.n3)
      where
        by : (c : CuUpBearer) → Has c → (t : Option ℕ) → Is (closed_n3 way c t)
        by c q None = q
        by c q (Some t) = q

    hop_took_numbered : (count : Option ℕ) (x : List ℕ) (b : CuUpBearer) → Has b → Is (took_numbered way at count x b)
    unfolding took_numbered
    hop_took_numbered None x b p = p
    hop_took_numbered (Some count) x b p =
        let on : CuUpBearer = record b { sender = restored b.sender count x } in
        either at.flags.released (forwarded_down way at Same (numbered at.sn count x) b)
        (if may_restore at.sn at.quota b.sender count then restored_at way at count x b else drops Duplicate b)
        (hop_down Same (numbered at.sn count x) b p)
        (either (may_restore at.sn at.quota b.sender count) (restored_at way at count x b) (drops Duplicate b)
        (either at.flags.frozen (forwarded_down way at Same (numbered at.sn count x) (record on { taken_while_frozen = b.taken_while_frozen ++ count ∷ [] }))
        (sent way at count x Same on)
        (hop_down Same (numbered at.sn count x) (record on { taken_while_frozen = b.taken_while_frozen ++ count ∷ [] }) p) (hop_sent count x Same on p)) p)

    hop_took_uplink : (count : Option ℕ) (x : List ℕ) (b : CuUpBearer) → Has b → Is (took_uplink way at count x b)
    unfolding took_uplink
    hop_took_uplink None x b p = p
    hop_took_uplink (Some count) x b p =
        let on : CuUpBearer = record b { receiver = stored b.receiver count x } in
        either at.flags.released (passed_up way at count x b) (if is_duplicate b.receiver count then drops Duplicate b else stored_at way at count x b)
        (either (nat_lt count b.receiver.deliv) (drops Duplicate b) (forwarded_up way at Same (numbered at.sn count x) b) p
        (hop_up Same (numbered at.sn count x) b p))
        (either (is_duplicate b.receiver count) (drops Duplicate b) (stored_at way at count x b) p
        (either at.flags.frozen (forwarded_up way at Same (numbered at.sn count x) on) (deliver_stored way at on) (hop_up Same (numbered at.sn count x) on p)
        (hop_deliver on p)))

    hop_content : (content : Content) (b : CuUpBearer) → Has b → Is (took_content way at content b)
    unfolding took_report
    hop_content (packet_content count x) b p = hop_took_uplink count x b p
    hop_content (report_content fmc bits) b p = hop_numbers (record b { sender = confirmed_by b.sender fmc bits }) p

    hop_confirmed : (o : Option ℕ) (b : CuUpBearer) → Has b → Has (confirmed_if way o b)
    hop_confirmed None b p = p
    hop_confirmed (Some count) b p = p

    hop_lost : (ranges : List (ℕ × ℕ)) (b : CuUpBearer) → Has b → Is (lost_frames way at ranges b)
    hop_lost [] b p = p
    hop_lost (range ∷ ranges) b p =
        either at.flags.frozen (nothing (record b { restart = true; loss_while_frozen = true })) (sent_again way at b.sender.unconfirmed (record b { restart = true })) p
        (hop_again b.sender.unconfirmed (record b { restart = true }) p)

    hop_ends : (o : Option SourceHop) (b : CuUpBearer) → b.hop ≡ o → Has b → Is (up_hop_ends_if way at o b)
    hop_ends None b is p = p
    hop_ends (Some hop) b is p =
        let marked : CuUpBearer = record b { hop = Some (record hop { up_ended = true }) } in
        let has : Has marked = sym (ap (λ (o : Option SourceHop). is_some o) is) ∙ p in
        either (not hop.up_ended && no_uplink b.uplinks && (not at.flags.target || b.up_ended)) (forwarded_up way at Absent end_marker marked) (nothing b)
        (hop_up Absent end_marker marked has) p

    hop_uplink_ended : (teid : ℕ) (b : CuUpBearer) → Has b → Is (uplink_ended way at teid b)
    unfolding uplink_ended
    hop_uplink_ended teid b p =
        let on : CuUpBearer = record b { uplinks = filter (λ t. not (t == teid)) b.uplinks } in
        after (puts (closed teid) on) (λ c. up_hop_ends_if way at c.hop c) p (λ c q. hop_ends c.hop c refl q)

    pub hop_took : (kind : TunnelKind) (teid : ℕ) (item : Taken P) (b : CuUpBearer) → Has b → Is (took way at kind teid item b)
    unfolding took took_delivery_status up_ended
    hop_took n3 teid (fresh_item x) b p = hop_took_fresh x b p
    hop_took n3 teid end_item b p = hop_n3 b b.hop p
    hop_took forwarding_down teid (fresh_item x) b p = hop_took_fresh x b p
    hop_took forwarding_down teid (numbered_item count x) b p = hop_took_numbered count x b p
    hop_took forwarding_down teid end_item b p = either b.down_ended (drops Unexpected b) (nothing (record b { down_ended = true })) p p
    hop_took f1u_uplink teid (uplink_item content) b p = hop_content content b p
    hop_took f1u_uplink teid (status_item lost confirmed) b p =
        after (lost_frames way at lost (confirmed_if way confirmed b)) (number_waiting way at)
        (hop_lost lost (confirmed_if way confirmed b) (hop_confirmed confirmed b p)) (λ c q. hop_numbers c q)
    hop_took f1u_uplink teid end_item b p = hop_uplink_ended teid b p
    hop_took forwarding_up teid (numbered_item count x) b p = hop_took_uplink count x b p
    hop_took forwarding_up teid end_item b p =
        either b.up_ended (drops Unexpected b) (up_hop_ends_if way at b.hop (record b { up_ended = true })) p (hop_ends b.hop (record b { up_ended = true }) refl p)
    hop_took kind teid item b p = p
