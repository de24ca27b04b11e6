-- Each row of a bearer puts its own packets alone: frames, and what goes on, on the tunnels of its hop.
use Rattle.std.proofs.Common.{◌≡◌, ◌==◌, ℕ, ◌+◌, Bool, true, false, not, ◌&&◌, ◌||◌, nat_lt, List, [], ◌∷◌, ◌++◌, filter, Option, Some, None, refl, sym, ap, subst, ◌∙◌}
use Rattle.std.specs.Prelude.{if◌then◌else◌}
use Rattle.gnb_types.specs.declared.names.NodeId.{NodeId}
use Rattle.gnb_types.specs.declared.names.Dir.TheVariants.{Dl, Ul}
use Rattle.gnb_types.specs.declared.outputs.Tag.{Tag}
use Rattle.gnb_types.specs.declared.outputs.Tag.TheVariants.{Absent, Own, Same}
use Rattle.gnb_types.specs.declared.plans.SnStatus.{SnStatus}
use Rattle.gnb_types.specs.declared.reasons.DropReason.TheVariants.{Duplicate, Unexpected}
use Rattle.pdcp.specs.Near.{last_count}
use Rattle.pdcp_defs.specs.Senders.{numbered as with_next, has_room, may_restore, restored, confirmed_by}
use Rattle.pdcp_defs.specs.Receivers.{deliver as handed_up, is_duplicate, received_bits, stored}
use Rattle.unit_defs.specs.Ways.{packet_pdu, report_pdu, packet_content, report_content, Load, fresh, numbered, end_marker, Taken, fresh_item, numbered_item, uplink_item, status_item, end_item, closed, Way, Answer, gives, spent, with_outputs, ◌then◌, nothing, puts, drops, frames_spent, counts_spent}
use Rattle.unit_defs.specs.CuUpRecords.{CuUpScope, CuUpBearer, DownlinkTunnel, SourceHop, TunnelKind, n3, f1u_uplink, forwarding_down, forwarding_up}
use Rattle.unit_defs.specs.CuUpBearers.{last_frame, has_downlink, thawed, owed, bits_in, no_uplink, delivered, framed_on, framed, sent, sent_again, number_each, number_waiting, deliver_stored, put_down, forwarded_down, put_up, forwarded_up, with_uplink, begin_downlink, begin_where_known, switched, forward_numbered, forward_fresh, forward_late, frozen_to, with_status, resumed}
use Rattle.unit_defs.specs.CuUpItems.{took_fresh, closed_n3, n3_ended, restored_at, took_numbered, down_ended, stored_at, passed_up, took_uplink, took_report, confirmed_if, lost_frames, took_delivery_status, up_hop_ends_if, uplink_ended, up_ended, took}
use Rattle.intervals.proofs.Intervals.{all_append}
use Rattle.proof_cu_up_orders.specs.context_orders.Orders.{CuUpModel, ContextStep, on_switch, on_freeze, on_status, on_resume, kept_in, done}
use Rattle.proof_cu_up_orders.specs.context_orders.Orders as ups
use Rattle.proof_cu_up_orders.specs.bearer_lists.Puts.{HopEnds, ends_of, IsHopEnd, IsPutAt, IsOwnPut, AreOwnPuts, hop_after, PutsOwn}

module _ {M C P : Type 0} (way : Way M C P) (at : CuUpScope) (h : Option HopEnds) where
  abbrev Row : Type 0
  Row = Answer M P CuUpBearer

  abbrev IsThere : CuUpBearer → Type 0
  IsThere d = ends_of d.hop ≡ h

  -- what is put is so, and the hop is this then
  abbrev pub Goes : Row → Type 0
  Goes (gives os d) = AreOwnPuts at.ue at.bearer h os × IsThere d
  Goes (spent k) = Unit {0}

  goes_if : (t : Bool) (y z : Row) → Goes y → Goes z → Goes (if t then y else z)
  goes_if true y z p q = p
  goes_if false y z p q = q

  goes_then : (a : Row) (f : CuUpBearer → Row) → Goes a → ((d : CuUpBearer) → IsThere d → Goes (f d)) → Goes (a then f)
  goes_then (spent k) f p q = tt
  goes_then (gives os d) f p q = by (f d) (q d p.1)
    where
      by : (a : Row) → Goes a → Goes (with_outputs os a)
      by (spent k) g = tt
      by (gives more e) g = (all_append (IsOwnPut at.ue at.bearer h) os more p.0 g.0, g.1)

  stays : (d : CuUpBearer) → IsThere d → Goes (nothing d)
  stays d is = (tt, is)

  duplicate : (d : CuUpBearer) → IsThere d → Goes (drops Duplicate d)
  duplicate d is = ((tt, tt), is)

  unexpected : (d : CuUpBearer) → IsThere d → Goes (drops Unexpected d)
  unexpected d is = ((tt, tt), is)

  -- ---- frames

  goes_frame : (poll restart : Bool) (pdu : Option P) (tag : Tag) (d : CuUpBearer) → IsThere d → Goes (framed way at poll restart pdu tag d)
  unfolding framed
  goes_frame poll restart pdu tag d is = by d.downlink
    where
      by : (o : Option DownlinkTunnel) → Goes (framed_on way at d poll restart pdu tag o)
      by None = (tt, is)
      by (Some l) = goes_if (nat_lt last_frame l.next) (spent frames_spent) _ tt (((refl, refl, tt), tt), is)

  goes_sent : (count : ℕ) (packet : List ℕ) (tag : Tag) (d : CuUpBearer) → IsThere d → Goes (sent way at count packet tag d)
  unfolding sent
  goes_sent count packet tag d is = goes_frame false d.restart (Some (way.write at.sn (packet_pdu count packet))) tag d is

  goes_again : (es : List (ℕ × List ℕ)) (d : CuUpBearer) → IsThere d → Goes (sent_again way at es d)
  unfolding sent_again
  goes_again [] d is = stays d is
  goes_again (e ∷ es) d is = goes_then (sent way at e.0 e.1 (Own e.0) d) (sent_again way at es) (goes_sent e.0 e.1 (Own e.0) d is) (goes_again es)

  goes_each : (ps : List (List ℕ)) (d : CuUpBearer) → IsThere d → Goes (number_each way at ps d)
  unfolding number_each
  goes_each [] d is = stays d is
  goes_each (q ∷ qs) d is =
      let on : CuUpBearer = record d { sender = with_next d.sender q; waiting = qs } in
      goes_if (not (has_room at.sn at.quota d.sender)) (nothing d) _ (stays d is)
      (goes_then (if nat_lt last_count d.sender.next then spent counts_spent else sent way at d.sender.next q (Own d.sender.next) on)
      (number_each way at qs)
      (goes_if (nat_lt last_count d.sender.next) (spent counts_spent) (sent way at d.sender.next q (Own d.sender.next) on) tt
      (goes_sent d.sender.next q (Own d.sender.next) on is)) (goes_each qs))

  goes_numbers : (d : CuUpBearer) → IsThere d → Goes (number_waiting way at d)
  unfolding number_waiting
  goes_numbers d is =
      goes_if (at.flags.frozen || at.flags.released || not (has_downlink d.downlink)) (nothing d) (number_each way at d.waiting d) (stays d is)
      (goes_each d.waiting d is)

  all_delivered : (es : List (ℕ × List ℕ)) → AreOwnPuts {M = M} {P = P} at.ue at.bearer h (delivered way at es)
  all_delivered [] = tt
  all_delivered (e ∷ es) = (tt, all_delivered es)

  goes_deliver : (d : CuUpBearer) → IsThere d → Goes (deliver_stored way at d)
  unfolding deliver_stored
  goes_deliver d is = (all_delivered (handed_up d.receiver).packets, is)

  -- ---- what goes on

  goes_down : (tag : Tag) (load : Load P) (d : CuUpBearer) → ((to : NodeId) (teid : ℕ) → IsHopEnd h Dl to teid → IsPutAt h Dl to teid load) → IsThere d
      → Goes (forwarded_down way at tag load d)
  unfolding forwarded_down
  goes_down tag load d so is = by d.hop refl
    where
      by : (o : Option SourceHop) → d.hop ≡ o → Goes (put_down way at tag load d o)
      by None there = (tt, is)
      by (Some hop) there =
          let here : IsHopEnd h Dl hop.peer hop.down =
          subst (λ (e : Option HopEnds). IsHopEnd e Dl hop.peer hop.down) (ap ends_of (sym there) ∙ is) (refl, refl) in
          (((refl, refl, so hop.peer hop.down here), tt), is)

  goes_up : (tag : Tag) (load : Load P) (d : CuUpBearer) → ((to : NodeId) (teid : ℕ) → IsHopEnd h Ul to teid → IsPutAt h Ul to teid load) → IsThere d
      → Goes (forwarded_up way at tag load d)
  unfolding forwarded_up
  goes_up tag load d so is = by d.hop refl
    where
      by : (o : Option SourceHop) → d.hop ≡ o → Goes (put_up way at tag load d o)
      by None there = (tt, is)
      by (Some hop) there =
          let here : IsHopEnd h Ul hop.peer hop.up =
          subst (λ (e : Option HopEnds). IsHopEnd e Ul hop.peer hop.up) (ap ends_of (sym there) ∙ is) (refl, refl) in
          (((refl, refl, so hop.peer hop.up here), tt), is)

  -- ---- control

  goes_begin : (fmc : ℕ) (bits : List Bool) (d : CuUpBearer) → IsThere d → Goes (begin_downlink way at fmc bits d)
  unfolding begin_downlink
  goes_begin fmc bits d is =
      goes_then (framed way at false false (Some (way.write at.sn (report_pdu fmc bits))) Absent d then (λ c. sent_again way at c.sender.unconfirmed c))
      (number_waiting way at)
      (goes_then (framed way at false false (Some (way.write at.sn (report_pdu fmc bits))) Absent d) (λ c. sent_again way at c.sender.unconfirmed c)
      (goes_frame false false (Some (way.write at.sn (report_pdu fmc bits))) Absent d is) (λ c k. goes_again c.sender.unconfirmed c k)) goes_numbers

  goes_switched : (du : NodeId) (teid : ℕ) (b : CuUpBearer) → None ≡ h → Goes (switched way at du teid b)
  unfolding switched
  goes_switched du teid b is =
      let on : CuUpBearer = record (thawed b) { downlink = Some (record { du = du; teid = teid; next = 0 }); restart = false } in
      goes_then (deliver_stored way at on) (begin_where_known way at) (goes_deliver on is)
      (λ d k. goes_if at.flags.may_serve (begin_downlink way at d.receiver.deliv (received_bits d.receiver) d) (nothing d)
      (goes_begin d.receiver.deliv (received_bits d.receiver) d k) (stays d k))

  goes_resumed : (b : CuUpBearer) → None ≡ h → Goes (resumed way at b)
  unfolding resumed
  goes_resumed b is =
      let on : CuUpBearer = record (thawed b) { restart = b.restart || b.loss_while_frozen } in
      goes_then (sent_again way at (owed b) on then deliver_stored way at) (number_waiting way at)
      (goes_then (sent_again way at (owed b) on) (deliver_stored way at) (goes_again (owed b) on is) goes_deliver) goes_numbers

  goes_status : (s : SnStatus) (b : CuUpBearer) → IsThere b → Goes (with_status way at s b)
  unfolding with_status
  goes_status s b is =
      let on : CuUpBearer = record b {
        dl_next = s.dl_next;
        sender = record b.sender { next = s.dl_next };
        receiver = record b.receiver { deliv = s.ul_first };
      } in
      goes_if at.flags.arrived (deliver_stored way at on then begin_downlink way at s.ul_first (bits_in s.ul_received)) (nothing on)
      (goes_then (deliver_stored way at on) (begin_downlink way at s.ul_first (bits_in s.ul_received)) (goes_deliver on is)
      (goes_begin s.ul_first (bits_in s.ul_received))) (stays on is)

  goes_numbered : (es : List (ℕ × List ℕ)) (d : CuUpBearer) → IsThere d → Goes (forward_numbered way at es d)
  goes_numbered [] d is = stays d is
  goes_numbered (e ∷ es) d is =
      goes_then (forwarded_down way at (Own e.0) (numbered at.sn e.0 e.1) d) (forward_numbered way at es)
      (goes_down (Own e.0) (numbered at.sn e.0 e.1) d (λ to teid k. k) is) (goes_numbered es)

  goes_fresh : (ps : List (List ℕ)) (d : CuUpBearer) → IsThere d → Goes (forward_fresh way at ps d)
  goes_fresh [] d is = stays d is
  goes_fresh (p ∷ ps) d is =
      goes_then (forwarded_down way at Absent (fresh p) d) (forward_fresh way at ps) (goes_down Absent (fresh p) d (λ to teid k. k) is) (goes_fresh ps)

  goes_late : (es : List (ℕ × List ℕ)) (d : CuUpBearer) → IsThere d → Goes (forward_late way at es d)
  goes_late [] d is = stays d is
  goes_late (e ∷ es) d is =
      goes_then (forwarded_up way at (Own e.0) (numbered at.sn e.0 e.1) d) (forward_late way at es)
      (goes_up (Own e.0) (numbered at.sn e.0 e.1) d (λ to teid k. k) is) (goes_late es)

  goes_frozen : (peer : NodeId) (down up : ℕ) (b : CuUpBearer) → Some (record { peer = peer; down = down; up = up }) ≡ h
      → Goes (frozen_to way at peer down up b)
  unfolding frozen_to
  goes_frozen peer down up b is =
      let hop : SourceHop = record { peer = peer; down = down; up = up; up_ended = false } in
      let on : CuUpBearer = record b { hop = Some hop; loss_while_frozen = false; taken_while_frozen = [] } in
      goes_then (forward_numbered way at b.sender.unconfirmed on then (λ c. forward_fresh way at c.waiting c)) (λ c. forward_late way at c.receiver.stored c)
      (goes_then (forward_numbered way at b.sender.unconfirmed on) (λ c. forward_fresh way at c.waiting c) (goes_numbered b.sender.unconfirmed on is)
      (λ c k. goes_fresh c.waiting c k)) (λ c k. goes_late c.receiver.stored c k)

  -- ---- items

  module _ (b : CuUpBearer) (is : IsThere b) where
    goes_fresh_one : (packet : List ℕ) → Goes (took_fresh way at packet b)
    unfolding took_fresh
    goes_fresh_one packet =
        let on : CuUpBearer = record b { waiting = b.waiting ++ packet ∷ [] } in
        goes_if at.flags.released (forwarded_down way at Absent (fresh packet) b) _ (goes_down Absent (fresh packet) b (λ to teid k. k) is)
        (goes_if at.flags.frozen (forwarded_down way at Absent (fresh packet) on) (number_waiting way at on)
        (goes_down Absent (fresh packet) on (λ to teid k. k) is) (goes_numbers on is))

    goes_n3 : (o : Option SourceHop) → Goes (n3_ended way at b o)
    goes_n3 None = unexpected b is
    goes_n3 (Some hop) =
        goes_then (forwarded_down way at Absent end_marker b) (λ c. closed_n3 way c c.n3) (goes_down Absent end_marker b (λ to teid k. k) is)
        (λ d k. by d d.n3 k)
      where
        by : (d : CuUpBearer) (t : Option ℕ) → IsThere d → Goes (closed_n3 way d t)
        by d None k = (tt, k)
        by d (Some t) k = ((tt, tt), k)

    goes_numbered_one : (count : Option ℕ) (packet : List ℕ) → Goes (took_numbered way at count packet b)
    unfolding took_numbered
    goes_numbered_one None packet = duplicate b is
    goes_numbered_one (Some count) packet =
        let on : CuUpBearer = record b { sender = restored b.sender count packet } in
        goes_if at.flags.released (forwarded_down way at Same (numbered at.sn count packet) b) _
        (goes_down Same (numbered at.sn count packet) b (λ to teid k. k) is)
        (goes_if (may_restore at.sn at.quota b.sender count) (restored_at way at count packet b) (drops Duplicate b)
        (goes_if at.flags.frozen _ (sent way at count packet Same on)
        (goes_down Same (numbered at.sn count packet) (record on { taken_while_frozen = b.taken_while_frozen ++ count ∷ [] }) (λ to teid k. k) is)
        (goes_sent count packet Same on is)) (duplicate b is))

    goes_packet : (count : Option ℕ) (packet : List ℕ) → Goes (took_uplink way at count packet b)
    unfolding took_uplink
    goes_packet None packet = duplicate b is
    goes_packet (Some count) packet =
        let on : CuUpBearer = record b { receiver = stored b.receiver count packet } in
        goes_if at.flags.released (passed_up way at count packet b) _
        (goes_if (nat_lt count b.receiver.deliv) (drops Duplicate b) (forwarded_up way at Same (numbered at.sn count packet) b) (duplicate b is)
        (goes_up Same (numbered at.sn count packet) b (λ to teid k. k) is))
        (goes_if (is_duplicate b.receiver count) (drops Duplicate b) (stored_at way at count packet b) (duplicate b is)
        (goes_if at.flags.frozen (forwarded_up way at Same (numbered at.sn count packet) on) (deliver_stored way at on)
        (goes_up Same (numbered at.sn count packet) on (λ to teid k. k) is) (goes_deliver on is)))

    goes_lost : (lost : List (ℕ × ℕ)) (d : CuUpBearer) → IsThere d → Goes (lost_frames way at lost d)
    goes_lost [] d k = stays d k
    goes_lost (range ∷ ranges) d k =
        goes_if at.flags.frozen (nothing (record d { restart = true; loss_while_frozen = true }))
        (sent_again way at d.sender.unconfirmed (record d { restart = true })) (stays (record d { restart = true; loss_while_frozen = true }) k)
        (goes_again d.sender.unconfirmed (record d { restart = true }) k)

    confirmed_there : (delivered : Option ℕ) → IsThere (confirmed_if way delivered b)
    confirmed_there None = is
    confirmed_there (Some count) = is

    -- where the End Marker goes on, the hop is marked
    goes_hop : (d : CuUpBearer) (o : Option SourceHop) → d.hop ≡ o → IsThere d → Goes (up_hop_ends_if way at o d)
    goes_hop d None there k = stays d k
    goes_hop d (Some hop) there k =
        let marked : CuUpBearer = record d { hop = Some (record hop { up_ended = true }) } in
        goes_if (not hop.up_ended && no_uplink d.uplinks && (not at.flags.target || d.up_ended)) (forwarded_up way at Absent end_marker marked) (nothing d)
        (goes_up Absent end_marker marked (λ to teid k. k) (ap ends_of (sym there) ∙ k)) (stays d k)

    goes_uplink_end : (teid : ℕ) → Goes (uplink_ended way at teid b)
    unfolding uplink_ended
    goes_uplink_end teid =
        let on : CuUpBearer = record b { uplinks = filter (λ t. not (t == teid)) b.uplinks } in
        goes_then (puts (closed teid) on) (λ c. up_hop_ends_if way at c.hop c) ((tt, tt), is) (λ d k. goes_hop d d.hop refl k)

    goes_up_end : Goes (up_ended way at b)
    unfolding up_ended
    goes_up_end = goes_if b.up_ended (drops Unexpected b) _ (unexpected b is) (goes_hop (record b { up_ended = true }) b.hop refl is)

    goes_item : (kind : TunnelKind) (teid : ℕ) (item : Taken P) → Goes (took way at kind teid item b)
    unfolding took took_report took_delivery_status
    goes_item n3 teid (fresh_item packet) = goes_fresh_one packet
    goes_item n3 teid end_item = goes_n3 b.hop
    goes_item forwarding_down teid (fresh_item packet) = goes_fresh_one packet
    goes_item forwarding_down teid (numbered_item count packet) = goes_numbered_one count packet
    goes_item forwarding_down teid end_item =
        goes_if b.down_ended (drops Unexpected b) (nothing (record b { down_ended = true })) (unexpected b is) (stays (record b { down_ended = true }) is)
    goes_item f1u_uplink teid (uplink_item (packet_content count packet)) = goes_packet count packet
    goes_item f1u_uplink teid (uplink_item (report_content fmc bits)) = goes_numbers (record b { sender = confirmed_by b.sender fmc bits }) is
    goes_item f1u_uplink teid (status_item lost delivered) =
        goes_then (lost_frames way at lost (confirmed_if way delivered b)) (number_waiting way at)
        (goes_lost lost (confirmed_if way delivered b) (confirmed_there delivered)) goes_numbers
    goes_item f1u_uplink teid end_item = goes_uplink_end teid
    goes_item forwarding_up teid (numbered_item count packet) = goes_packet count packet
    goes_item forwarding_up teid end_item = goes_up_end
    goes_item kind teid item = unexpected b is

-- ---- an order

module _ {M C P : Type 0} (way : Way M C P) (p : CuUpModel) where
  in_model : (q : CuUpModel) (order : ContextStep P) (a : Answer M P CuUpBearer) → q.at.ue ≡ p.at.ue → q.at.bearer ≡ p.at.bearer
      → Goes way q.at (hop_after p order) a → PutsOwn p order (kept_in q a)
  in_model q order (spent k) e f h = tt
  in_model q order (gives os d) e f h = (
    subst (λ u. AreOwnPuts u p.at.bearer (hop_after p order) os) e (subst (λ b. AreOwnPuts q.at.ue b (hop_after p order) os) f h.0),
    h.1,
  )

  adds_put : (teid : ℕ) → Goes way p.at (ends_of p.bearer.hop) (with_uplink way teid p.bearer)
  unfolding with_uplink
  adds_put teid = ((tt, tt), refl)

  pub order_puts : (order : ContextStep P) → PutsOwn p order (done way order p)
  order_puts (ups.makes instance sn quota target teid) = (tt, refl)
  order_puts (ups.adds teid) = in_model p (ups.adds teid) (with_uplink way teid p.bearer) refl refl (adds_put teid)
  order_puts (ups.switches du teid) =
      in_model (on_switch p) (ups.switches du teid) (switched way (on_switch p).at du teid p.bearer) refl refl
      (goes_switched way (on_switch p).at None du teid p.bearer refl)
  order_puts (ups.freezes peer down up) =
      in_model (on_freeze p) (ups.freezes peer down up) (frozen_to way (on_freeze p).at peer down up p.bearer) refl refl
      (goes_frozen way (on_freeze p).at (Some (record { peer = peer; down = down; up = up })) peer down up p.bearer refl)
  order_puts (ups.knows status) =
      in_model (on_status p) (ups.knows status) (with_status way (on_status p).at status p.bearer) refl refl
      (goes_status way (on_status p).at (ends_of p.bearer.hop) status p.bearer refl)
  order_puts ups.resumes =
      in_model (on_resume p) ups.resumes (resumed way (on_resume p).at p.bearer) refl refl (goes_resumed way (on_resume p).at None p.bearer refl)
  order_puts ups.releases = (tt, refl)
  order_puts ups.closes = tt
  order_puts (ups.takes kind teid item) =
      in_model p (ups.takes kind teid item) (took way p.at kind teid item p.bearer) refl refl
      (goes_item way p.at (ends_of p.bearer.hop) p.bearer refl kind teid item)
  order_puts ups.polls =
      in_model p ups.polls (framed way p.at true false None Absent p.bearer) refl refl
      (goes_frame way p.at (ends_of p.bearer.hop) true false None Absent p.bearer refl)
