-- The rows of another bearer put nothing on this one, and control messages are on none.
use Rattle.std.proofs.Common.{◌≡◌, ◌==◌, ℕ, ◌+◌, Bool, true, false, cond, not, ◌&&◌, ◌||◌, nat_lt, List, [], ◌∷◌, ◌++◌, map, filter, Option, Some, None, refl, ap, ◌∙◌}
use Rattle.std.specs.Prelude.{if◌then◌else◌}
use Rattle.std.specs.List.{flat_map}
use Rattle.std.proofs.lemmas.List.Elements.{filter-append}
use Rattle.gnb_types.specs.declared.names.NodeId.{NodeId}
use Rattle.gnb_types.specs.declared.names.UeId.{UeId}
use Rattle.gnb_types.specs.declared.names.BearerId.{BearerId}
use Rattle.gnb_types.specs.declared.names.Dir.{Dir}
use Rattle.gnb_types.specs.declared.names.Dir.TheVariants.{Dl, Ul}
use Rattle.gnb_types.specs.declared.plans.SnStatus.{SnStatus}
use Rattle.gnb_types.specs.declared.keys.Channel.{Channel}
use Rattle.gnb_types.specs.declared.outputs.Tag.{Tag}
use Rattle.gnb_types.specs.declared.outputs.Tag.TheVariants.{Absent, Own, Same}
use Rattle.gnb_types.specs.declared.reasons.DropReason.TheVariants.{Duplicate, Unexpected}
use Rattle.pdcp.specs.Near.{last_count}
use Rattle.pdcp_defs.specs.Senders.{numbered as with_next, has_room, may_restore, restored, confirmed_by}
use Rattle.pdcp_defs.specs.Receivers.{deliver as handed_up, received_bits, is_duplicate, stored}
use Rattle.transaction_defs.specs.Callers.{Begin, begun, running, spent as begins_no_more, begin, is_open, Due, repeats, expires}
use Rattle.unit_defs.specs.Ways.{packet_pdu, report_pdu, Content, packet_content, report_content, Load, fresh, numbered, frame, end_marker, Taken, fresh_item, numbered_item, uplink_item, status_item, end_item, Message, Output, packet, deliver, closed, Way, Answer, gives, spent, with_outputs, ◌then◌, nothing, puts, drops, frames_spent, counts_spent}
use Rattle.unit_defs.specs.Transactions.{Transactions, Waiting, is_empty, waits_at, with_waiting, begun_as, begin_request, ask, advance_with, advance, replied}
use Rattle.unit_defs.specs.CuUpRecords.{CuUpBearer, DownlinkTunnel, SourceHop, TunnelKind, n3, f1u_uplink, forwarding_down, forwarding_up, CuUpScope}
use Rattle.unit_defs.specs.CuUpBearers.{last_frame, thawed, owed, bits_in, no_uplink, has_downlink, framed_on, framed, sent, sent_again, number_each, number_waiting, delivered, deliver_stored, put_down, forwarded_down, put_up, forwarded_up, with_uplink, begin_downlink, begin_where_known, switched, forward_numbered, forward_fresh, forward_late, frozen_to, with_status, resumed}
use Rattle.unit_defs.specs.CuUpItems.{took_fresh, closed_n3, n3_ended, restored_at, took_numbered, passed_up, stored_at, took_uplink, took_report, took_content, confirmed_if, lost_frames, took_delivery_status, up_hop_ends_if, uplink_ended, up_ended, took}
use Rattle.unit_defs.specs.CuUp.{due_output}
use Rattle.proof_cu_up_orders.specs.context_orders.Shown.{is_bearer, is_on, on_bearer, IsOff}

module _ {M C P : Type 0} (way : Way M C P) (ue : UeId) (bearer : BearerId) where
  abbrev pub Off : {R : Type 0} → Answer M P R → Type 0
  Off a = IsOff ue bearer a

  pub off_if : {R : Type 0} (t : Bool) (x y : Answer M P R) → Off x → Off y → Off (if t then x else y)
  off_if true x y p q = p
  off_if false x y p q = q

  pub off_both : (os more : List (Output M P)) → on_bearer ue bearer os ≡ [] → on_bearer ue bearer more ≡ [] → on_bearer ue bearer (os ++ more) ≡ []
  off_both os more p q = filter-append (is_on ue bearer) os more ∙ (λ i. p i ++ q i)

  pub off_then : {R S : Type 0} (a : Answer M P R) (f : R → Answer M P S) → Off a → ((r : R) → Off (f r)) → Off (a then f)
  off_then {S = S} (gives os r) f p q = by (f r) (q r)
    where
      by : (b : Answer M P S) → Off b → Off (with_outputs os b)
      by (gives more s) h = off_both os more p h
      by (spent k) h = tt
  off_then (spent k) f p q = tt

  -- ---- control messages

  off_begun : (t : Transactions M C) (c : Channel) (w : Waiting C) (b : Begin M) → Off (begun_as way t c w b)
  off_begun t c w (begun instance after) = refl
  off_begun t c w running = refl
  off_begun t c w begins_no_more = tt

  off_begin : (t : Transactions M C) (c : Channel) (w : Waiting C) → Off (begin_request way t c w)
  unfolding begin_request
  off_begin t c w = off_begun t c w (begin t.caller c w.deadline)

  pub off_ask : (t : Transactions M C) (c : Channel) (w : Waiting C) → Off (ask way t c w)
  unfolding ask
  off_ask t c w = off_if (is_open t.caller c || not (is_empty (waits_at t c))) _ (begin_request way t c w) refl (off_begin t c w)

  off_advance_with : (t : Transactions M C) (c : Channel) (ws : List (Waiting C)) → Off (advance_with way t c ws)
  off_advance_with t c [] = refl
  off_advance_with t c (w ∷ ws) = off_begin (with_waiting t c ws) c w

  pub off_advance : (t : Transactions M C) (c : Channel) → Off (advance way t c)
  unfolding advance
  off_advance t c = off_if (is_open t.caller c) _ (advance_with way t c (waits_at t c)) refl (off_advance_with t c (waits_at t c))

  pub off_replied : (t : Transactions M C) (c : Channel) (m : Message C) → Off (replied way t c m)
  unfolding replied
  off_replied t c m = refl

  pub off_due : (ds : List (Due M)) → on_bearer ue bearer (flat_map (due_output way) ds) ≡ []
  off_due [] = refl
  off_due (repeats c m ∷ ds) = off_due ds
  off_due (expires c ∷ ds) = off_due ds

  pub off_closed : (teids : List ℕ) → on_bearer {M = M} {P = P} ue bearer (map (λ teid. closed teid) teids) ≡ []
  off_closed [] = refl
  off_closed (x ∷ xs) = off_closed xs

  -- an uplink that is added is opened, of whichever bearer
  pub off_uplink : (teid : ℕ) (b : CuUpBearer) → Off (with_uplink way teid b)
  unfolding with_uplink
  off_uplink teid b = refl

  -- ---- rows of another bearer

  module _ (at : CuUpScope) (other : is_bearer ue bearer at.ue at.bearer ≡ false) where
    abbrev Quiet : Answer M P CuUpBearer → Type 0
    Quiet a = Off a

    either : (t : Bool) (x y : Answer M P CuUpBearer) → Quiet x → Quiet y → Quiet (if t then x else y)
    either t x y p q = off_if t x y p q

    after : (a : Answer M P CuUpBearer) (f : CuUpBearer → Answer M P CuUpBearer) → Quiet a → ((c : CuUpBearer) → Quiet (f c)) → Quiet (a then f)
    after a f p q = off_then a f p q

    one : (to : NodeId) (teid : ℕ) (dir : Dir) (tag : Tag) (load : Load P) (b : CuUpBearer) → Quiet (puts (packet to teid at.ue at.bearer dir tag load) b)
    one to teid dir tag load b = ap (λ (t : Bool). cond t (packet to teid at.ue at.bearer dir tag load ∷ []) []) other

    pub off_framed : (poll restart : Bool) (pdu : Option P) (tag : Tag) (b : CuUpBearer) → Quiet (framed way at poll restart pdu tag b)
    unfolding framed
    off_framed poll restart pdu tag b = by b.downlink
      where
        by : (d : Option DownlinkTunnel) → Quiet (framed_on way at b poll restart pdu tag d)
        by None = refl
        by (Some d) = either (nat_lt last_frame d.next) (spent frames_spent) _ tt
            (one d.du d.teid Dl tag (frame poll restart d.next pdu) (record b { downlink = Some (record d { next = d.next + 1 }); restart = b.restart && not restart }))

    off_sent : (count : ℕ) (x : List ℕ) (tag : Tag) (b : CuUpBearer) → Quiet (sent way at count x tag b)
    unfolding sent
    off_sent count x tag b = off_framed false b.restart (Some (way.write at.sn (packet_pdu count x))) tag b

    off_again : (es : List (ℕ × List ℕ)) (b : CuUpBearer) → Quiet (sent_again way at es b)
    unfolding sent_again
    off_again [] b = refl
    off_again (e ∷ es) b = after (sent way at e.0 e.1 (Own e.0) b) (sent_again way at es) (off_sent e.0 e.1 (Own e.0) b) (off_again es)

    off_each : (ps : List (List ℕ)) (b : CuUpBearer) → Quiet (number_each way at ps b)
    unfolding number_each
    off_each [] b = refl
    off_each (x ∷ xs) b =
        let on : CuUpBearer = record b { sender = with_next b.sender x; waiting = xs } in
        either (not (has_room at.sn at.quota b.sender)) (nothing b) _ refl
        (after (if nat_lt last_count b.sender.next then spent counts_spent else sent way at b.sender.next x (Own b.sender.next) on) (number_each way at xs)
        (either (nat_lt last_count b.sender.next) (spent counts_spent) (sent way at b.sender.next x (Own b.sender.next) on) tt
        (off_sent b.sender.next x (Own b.sender.next) on)) (off_each xs))

    off_numbers : (b : CuUpBearer) → Quiet (number_waiting way at b)
    unfolding number_waiting
    off_numbers b =
        either (at.flags.frozen || at.flags.released || not (has_downlink b.downlink)) (nothing b) (number_each way at b.waiting b) refl (off_each b.waiting b)

    off_delivered : (es : List (ℕ × List ℕ)) → on_bearer ue bearer (delivered way at es) ≡ []
    off_delivered [] = refl
    off_delivered (e ∷ es) =
        ap (λ (t : Bool). cond t (deliver at.ue at.bearer Ul e.0 e.1 ∷ on_bearer ue bearer (delivered way at es)) (on_bearer ue bearer (delivered way at es))) other
        ∙ off_delivered es

    off_deliver : (b : CuUpBearer) → Quiet (deliver_stored way at b)
    unfolding deliver_stored
    off_deliver b = off_delivered (handed_up b.receiver).packets

    off_down : (tag : Tag) (load : Load P) (b : CuUpBearer) → Quiet (forwarded_down way at tag load b)
    unfolding forwarded_down
    off_down tag load b = by b.hop
      where
        by : (h : Option SourceHop) → Quiet (put_down way at tag load b h)
        by None = refl
        by (Some h) = one h.peer h.down Dl tag load b

    off_up : (tag : Tag) (load : Load P) (b : CuUpBearer) → Quiet (forwarded_up way at tag load b)
    unfolding forwarded_up
    off_up tag load b = by b.hop
      where
        by : (h : Option SourceHop) → Quiet (put_up way at tag load b h)
        by None = refl
        by (Some h) = one h.peer h.up Ul tag load b

    -- ---- switch, freeze, SN status, resume

    off_begins : (fmc : ℕ) (bits : List Bool) (b : CuUpBearer) → Quiet (begin_downlink way at fmc bits b)
    unfolding begin_downlink
    off_begins fmc bits b =
        let report : Answer M P CuUpBearer = framed way at false false (Some (way.write at.sn (report_pdu fmc bits))) Absent b in
        after (report then (λ c. sent_again way at c.sender.unconfirmed c)) (number_waiting way at)
        (after report (λ c. sent_again way at c.sender.unconfirmed c) (off_framed false false (Some (way.write at.sn (report_pdu fmc bits))) Absent b)
        (λ c. off_again c.sender.unconfirmed c)) off_numbers

    pub off_switched : (du : NodeId) (teid : ℕ) (b : CuUpBearer) → Quiet (switched way at du teid b)
    unfolding switched
    off_switched du teid b =
        let on : CuUpBearer = record (thawed b) { downlink = Some (record { du = du; teid = teid; next = 0 }); restart = false } in
        after (deliver_stored way at on) (begin_where_known way at) (off_deliver on)
        (λ c. either at.flags.may_serve (begin_downlink way at c.receiver.deliv (received_bits c.receiver) c) (nothing c)
        (off_begins c.receiver.deliv (received_bits c.receiver) c) refl)

    off_numbered : (es : List (ℕ × List ℕ)) (b : CuUpBearer) → Quiet (forward_numbered way at es b)
    off_numbered [] b = refl
    off_numbered (e ∷ es) b =
        after (forwarded_down way at (Own e.0) (numbered at.sn e.0 e.1) b) (forward_numbered way at es) (off_down (Own e.0) (numbered at.sn e.0 e.1) b)
        (off_numbered es)

    off_fresh : (ps : List (List ℕ)) (b : CuUpBearer) → Quiet (forward_fresh way at ps b)
    off_fresh [] b = refl
    off_fresh (x ∷ xs) b = after (forwarded_down way at Absent (fresh x) b) (forward_fresh way at xs) (off_down Absent (fresh x) b) (off_fresh xs)

    off_late : (es : List (ℕ × List ℕ)) (b : CuUpBearer) → Quiet (forward_late way at es b)
    off_late [] b = refl
    off_late (e ∷ es) b =
        after (forwarded_up way at (Own e.0) (numbered at.sn e.0 e.1) b) (forward_late way at es) (off_up (Own e.0) (numbered at.sn e.0 e.1) b) (off_late es)

    pub off_frozen : (peer : NodeId) (down up : ℕ) (b : CuUpBearer) → Quiet (frozen_to way at peer down up b)
    unfolding frozen_to
    off_frozen peer down up b =
        let on : CuUpBearer = record b { hop = Some (record { peer = peer; down = down; up = up; up_ended = false }); loss_while_frozen = false; taken_while_frozen = [] } in
        after (forward_numbered way at b.sender.unconfirmed on then (λ c. forward_fresh way at c.waiting c)) (λ c. forward_late way at c.receiver.stored c)
        (after (forward_numbered way at b.sender.unconfirmed on) (λ c. forward_fresh way at c.waiting c)
        (off_numbered b.sender.unconfirmed on) (λ c. off_fresh c.waiting c)) (λ c. off_late c.receiver.stored c)

    pub off_status : (s : SnStatus) (b : CuUpBearer) → Quiet (with_status way at s b)
    unfolding with_status
    off_status s b =
        let on : CuUpBearer = record b { dl_next = s.dl_next; sender = record b.sender { next = s.dl_next }; receiver = record b.receiver { deliv = s.ul_first } } in
        either at.flags.arrived (deliver_stored way at on then begin_downlink way at s.ul_first (bits_in s.ul_received)) (nothing on)
        (after (deliver_stored way at on) (begin_downlink way at s.ul_first (bits_in s.ul_received)) (off_deliver on)
        (off_begins s.ul_first (bits_in s.ul_received))) refl

    pub off_resumed : (b : CuUpBearer) → Quiet (resumed way at b)
    unfolding resumed
    off_resumed b =
        let on : CuUpBearer = record (thawed b) { restart = b.restart || b.loss_while_frozen } in
        after (sent_again way at (owed b) on then deliver_stored way at) (number_waiting way at)
        (after (sent_again way at (owed b) on) (deliver_stored way at) (off_again (owed b) on) off_deliver) off_numbers

    -- ---- items

    off_took_fresh : (x : List ℕ) (b : CuUpBearer) → Quiet (took_fresh way at x b)
    unfolding took_fresh
    off_took_fresh x b =
        let on : CuUpBearer = record b { waiting = b.waiting ++ x ∷ [] } in
        either at.flags.released (forwarded_down way at Absent (fresh x) b) _ (off_down Absent (fresh x) b)
        (either at.flags.frozen (forwarded_down way at Absent (fresh x) on) (number_waiting way at on) (off_down Absent (fresh x) on) (off_numbers on))

    off_n3 : (b : CuUpBearer) (h : Option SourceHop) → Quiet (n3_ended way at b h)
    off_n3 b None = refl
    off_n3 b (Some h) = after (forwarded_down way at Absent end_marker b) (λ c. closed_n3 way c c.n3) (off_down Absent end_marker b) (λ c. by c c.n3)
      where
        by : (c : CuUpBearer) (t : Option ℕ) → Quiet (closed_n3 way c t)
        by c None = refl
        by c (Some t) = refl

    off_took_numbered : (count : Option ℕ) (x : List ℕ) (b : CuUpBearer) → Quiet (took_numbered way at count x b)
    unfolding took_numbered
    off_took_numbered None x b = refl
    off_took_numbered (Some count) x b =
        let on : CuUpBearer = record b { sender = restored b.sender count x } in
        either at.flags.released (forwarded_down way at Same (numbered at.sn count x) b) _ (off_down Same (numbered at.sn count x) b)
        (either (may_restore at.sn at.quota b.sender count) (restored_at way at count x b) _
        (either at.flags.frozen _ (sent way at count x Same on)
        (off_down Same (numbered at.sn count x) (record on { taken_while_frozen = b.taken_while_frozen ++ count ∷ [] })) (off_sent count x Same on))
        refl)

    off_took_uplink : (count : Option ℕ) (x : List ℕ) (b : CuUpBearer) → Quiet (took_uplink way at count x b)
    unfolding took_uplink
    off_took_uplink None x b = refl
    off_took_uplink (Some count) x b =
        let on : CuUpBearer = record b { receiver = stored b.receiver count x } in
        either at.flags.released (passed_up way at count x b) _
        (either (nat_lt count b.receiver.deliv) (drops Duplicate b) (forwarded_up way at Same (numbered at.sn count x) b) refl
        (off_up Same (numbered at.sn count x) b))
        (either (is_duplicate b.receiver count) (drops Duplicate b) (stored_at way at count x b) refl
        (either at.flags.frozen (forwarded_up way at Same (numbered at.sn count x) on) (deliver_stored way at on) (off_up Same (numbered at.sn count x) on)
        (off_deliver on)))

    off_content : (content : Content) (b : CuUpBearer) → Quiet (took_content way at content b)
    unfolding took_report
    off_content (packet_content count x) b = off_took_uplink count x b
    off_content (report_content fmc bits) b = off_numbers (record b { sender = confirmed_by b.sender fmc bits })

    off_lost : (ranges : List (ℕ × ℕ)) (b : CuUpBearer) → Quiet (lost_frames way at ranges b)
    off_lost [] b = refl
    off_lost (range ∷ ranges) b =
        either at.flags.frozen (nothing (record b { restart = true; loss_while_frozen = true })) (sent_again way at b.sender.unconfirmed (record b { restart = true })) refl
        (off_again b.sender.unconfirmed (record b { restart = true }))

    off_hop : (h : Option SourceHop) (b : CuUpBearer) → Quiet (up_hop_ends_if way at h b)
    off_hop None b = refl
    off_hop (Some h) b =
        either (not h.up_ended && no_uplink b.uplinks && (not at.flags.target || b.up_ended))
        (forwarded_up way at Absent end_marker (record b { hop = Some (record h { up_ended = true }) })) (nothing b)
        (off_up Absent end_marker (record b { hop = Some (record h { up_ended = true }) })) refl

    off_uplink_ended : (teid : ℕ) (b : CuUpBearer) → Quiet (uplink_ended way at teid b)
    unfolding uplink_ended
    off_uplink_ended teid b =
        after (puts (closed teid) (record b { uplinks = filter (λ t. not (t == teid)) b.uplinks })) (λ c. up_hop_ends_if way at c.hop c) refl
        (λ c. off_hop c.hop c)

    pub off_took : (kind : TunnelKind) (teid : ℕ) (item : Taken P) (b : CuUpBearer) → Quiet (took way at kind teid item b)
    unfolding took took_delivery_status up_ended
    off_took n3 teid (fresh_item x) b = off_took_fresh x b
    off_took n3 teid end_item b = off_n3 b b.hop
    off_took forwarding_down teid (fresh_item x) b = off_took_fresh x b
    off_took forwarding_down teid (numbered_item count x) b = off_took_numbered count x b
    off_took forwarding_down teid end_item b = either b.down_ended (drops Unexpected b) (nothing (record b { down_ended = true })) refl refl
    off_took f1u_uplink teid (uplink_item content) b = off_content content b
    off_took f1u_uplink teid (status_item lost confirmed) b =
        after (lost_frames way at lost (confirmed_if way confirmed b)) (number_waiting way at) (off_lost lost (confirmed_if way confirmed b)) off_numbers
    off_took f1u_uplink teid end_item b = off_uplink_ended teid b
    off_took forwarding_up teid (numbered_item count x) b = off_took_uplink count x b
    off_took forwarding_up teid end_item b =
        either b.up_ended (drops Unexpected b) (up_hop_ends_if way at b.hop (record b { up_ended = true })) refl (off_hop b.hop (record b { up_ended = true }))
    off_took kind teid item b = refl
