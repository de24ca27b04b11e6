-- Rows that put no frame.
use Rattle.std.proofs.Common.{◌≡◌, ◌==◌, ℕ, Bool, true, false, not, ◌&&◌, ◌||◌, nat_lt, List, [], ◌∷◌, ◌++◌, filter, Option, Some, None, refl, sym, ap, ◌∙◌, append_assoc}
use Rattle.std.specs.Prelude.{if◌then◌else◌}
use Rattle.gnb_types.specs.declared.names.NodeId.{NodeId}
use Rattle.gnb_types.specs.declared.names.Dir.TheVariants.{Dl}
use Rattle.gnb_types.specs.declared.outputs.Tag.{Tag}
use Rattle.gnb_types.specs.declared.outputs.Tag.TheVariants.{Absent, Own, Same}
use Rattle.gnb_types.specs.declared.reasons.DropReason.TheVariants.{Duplicate, Unexpected}
use Rattle.pdcp_defs.specs.Receivers.{deliver as handed_up, is_duplicate, stored}
use Rattle.unit_defs.specs.Ways.{Load, fresh, numbered, end_marker, Output, packet, closed, Way, Answer, gives, spent, with_outputs, ◌then◌, nothing, puts, drops}
use Rattle.unit_defs.specs.CuUpRecords.{CuUpScope, CuUpBearer, DownlinkTunnel, SourceHop}
use Rattle.unit_defs.specs.CuUpBearers.{no_uplink, delivered, deliver_stored, put_down, forwarded_down, put_up, forwarded_up, with_uplink, forward_numbered, forward_fresh, forward_late, frozen_to}
use Rattle.unit_defs.specs.CuUpItems.{closed_n3, n3_ended, stored_at, passed_up, took_uplink, up_hop_ends_if, uplink_ended, up_ended}
use Rattle.proof_cu_up_orders.specs.frame_rows.Shown.{frame_at, frames_of}

pub frames-append : {M P : Type 0} (xs ys : List (Output M P)) → frames_of (xs ++ ys) ≡ frames_of xs ++ frames_of ys
unfolding frames_of
frames-append [] ys = refl
frames-append (packet to teid ue bearer Dl tag load ∷ xs) ys =
    ap (λ zs. frame_at to teid load ++ zs) (frames-append xs ys) ∙ sym (append_assoc (frame_at to teid load) (frames_of xs) (frames_of ys))
frames-append (_ ∷ xs) ys = frames-append xs ys

module _ {M C P : Type 0} (way : Way M C P) (at : CuUpScope) (l : Option DownlinkTunnel) (r : Bool) where
  abbrev Row : Type 0
  Row = Answer M P CuUpBearer

  abbrev IsThere : CuUpBearer → Type 0
  IsThere d = (d.downlink ≡ l) × (d.restart ≡ r)

  -- no frame is put, and the downlink and the restart mark are these then
  abbrev pub Still : Row → Type 0
  Still (gives os d) = (frames_of os ≡ []) × IsThere d
  Still (spent k) = Unit {0}

  pub still_if : (t : Bool) (y z : Row) → Still y → Still z → Still (if t then y else z)
  still_if true y z p q = p
  still_if false y z p q = q

  still_then : (a : Row) (f : CuUpBearer → Row) → Still a → ((d : CuUpBearer) → IsThere d → Still (f d)) → Still (a then f)
  still_then (spent k) f p q = tt
  still_then (gives os d) f p q = by (f d) (q d p.1)
    where
      by : (a : Row) → Still a → Still (with_outputs os a)
      by (spent k) g = tt
      by (gives more e) g = (frames-append os more ∙ (λ i. p.0 i ++ g.0 i), g.1)

  pub stays : (d : CuUpBearer) → IsThere d → Still (nothing d)
  unfolding frames_of
  stays d is = (refl, is)

  pub duplicate : (d : CuUpBearer) → IsThere d → Still (drops Duplicate d)
  unfolding frames_of
  duplicate d is = (refl, is)

  pub unexpected : (d : CuUpBearer) → IsThere d → Still (drops Unexpected d)
  unfolding frames_of
  unexpected d is = (refl, is)

  -- ---- what goes on

  pub still_down : (tag : Tag) (load : Load P) (d : CuUpBearer) → ((to : NodeId) (teid : ℕ) → frame_at to teid load ≡ []) → IsThere d
      → Still (forwarded_down way at tag load d)
  unfolding forwarded_down frames_of
  still_down tag load d none is = by d.hop
    where
      by : (o : Option SourceHop) → Still (put_down way at tag load d o)
      by None = (refl, is)
      by (Some hop) = (ap (λ zs. zs ++ []) (none hop.peer hop.down), is)

  still_up : (tag : Tag) (load : Load P) (d : CuUpBearer) → IsThere d → Still (forwarded_up way at tag load d)
  unfolding forwarded_up frames_of
  still_up tag load d is = by d.hop
    where
      by : (o : Option SourceHop) → Still (put_up way at tag load d o)
      by None = (refl, is)
      by (Some hop) = (refl, is)

  pub none_delivered : (es : List (ℕ × List ℕ)) → frames_of {M = M} {P = P} (delivered way at es) ≡ []
  unfolding frames_of
  none_delivered [] = refl
  none_delivered (e ∷ es) = none_delivered es

  still_deliver : (d : CuUpBearer) → IsThere d → Still (deliver_stored way at d)
  unfolding deliver_stored
  still_deliver d is = (none_delivered (handed_up d.receiver).packets, is)

  -- ---- control

  pub adds_none : (teid : ℕ) (d : CuUpBearer) → IsThere d → Still (with_uplink way teid d)
  unfolding with_uplink frames_of
  adds_none teid d is = (refl, is)

  still_numbered : (es : List (ℕ × List ℕ)) (d : CuUpBearer) → IsThere d → Still (forward_numbered way at es d)
  still_numbered [] d is = stays d is
  still_numbered (e ∷ es) d is =
      still_then (forwarded_down way at (Own e.0) (numbered at.sn e.0 e.1) d) (forward_numbered way at es)
      (still_down (Own e.0) (numbered at.sn e.0 e.1) d (λ to teid. refl) is) (still_numbered es)

  still_fresh : (ps : List (List ℕ)) (d : CuUpBearer) → IsThere d → Still (forward_fresh way at ps d)
  still_fresh [] d is = stays d is
  still_fresh (p ∷ ps) d is =
      still_then (forwarded_down way at Absent (fresh p) d) (forward_fresh way at ps) (still_down Absent (fresh p) d (λ to teid. refl) is) (still_fresh ps)

  still_late : (es : List (ℕ × List ℕ)) (d : CuUpBearer) → IsThere d → Still (forward_late way at es d)
  still_late [] d is = stays d is
  still_late (e ∷ es) d is =
      still_then (forwarded_up way at (Own e.0) (numbered at.sn e.0 e.1) d) (forward_late way at es) (still_up (Own e.0) (numbered at.sn e.0 e.1) d is)
      (still_late es)

  pub still_frozen : (peer : NodeId) (down up : ℕ) (b : CuUpBearer) → IsThere b → Still (frozen_to way at peer down up b)
  unfolding frozen_to
  still_frozen peer down up b is =
      let hop : SourceHop = record { peer = peer; down = down; up = up; up_ended = false } in
      let on : CuUpBearer = record b { hop = Some hop; loss_while_frozen = false; taken_while_frozen = [] } in
      still_then (forward_numbered way at b.sender.unconfirmed on then (λ c. forward_fresh way at c.waiting c)) (λ c. forward_late way at c.receiver.stored c)
      (still_then (forward_numbered way at b.sender.unconfirmed on) (λ c. forward_fresh way at c.waiting c) (still_numbered b.sender.unconfirmed on is)
      (λ c k. still_fresh c.waiting c k)) (λ c k. still_late c.receiver.stored c k)

  -- ---- items

  module _ (b : CuUpBearer) (is : IsThere b) where
    pub still_n3 : (o : Option SourceHop) → Still (n3_ended way at b o)
    unfolding frames_of
    still_n3 None = unexpected b is
    still_n3 (Some hop) =
        still_then (forwarded_down way at Absent end_marker b) (λ c. closed_n3 way c c.n3) (still_down Absent end_marker b (λ to teid. refl) is)
        (λ d k. by d d.n3 k)
      where
        by : (d : CuUpBearer) (t : Option ℕ) → IsThere d → Still (closed_n3 way d t)
        by d None k = (refl, k)
        by d (Some t) k = (refl, k)

    pub still_packet : (count : Option ℕ) (one : List ℕ) → Still (took_uplink way at count one b)
    unfolding took_uplink
    still_packet None one = duplicate b is
    still_packet (Some count) one =
        let on : CuUpBearer = record b { receiver = stored b.receiver count one } in
        still_if at.flags.released (passed_up way at count one b) _
        (still_if (nat_lt count b.receiver.deliv) (drops Duplicate b) (forwarded_up way at Same (numbered at.sn count one) b) (duplicate b is)
        (still_up Same (numbered at.sn count one) b is))
        (still_if (is_duplicate b.receiver count) (drops Duplicate b) (stored_at way at count one b) (duplicate b is)
        (still_if at.flags.frozen (forwarded_up way at Same (numbered at.sn count one) on) (deliver_stored way at on)
        (still_up Same (numbered at.sn count one) on is) (still_deliver on is)))

    still_hop : (d : CuUpBearer) (o : Option SourceHop) → IsThere d → Still (up_hop_ends_if way at o d)
    still_hop d None k = stays d k
    still_hop d (Some hop) k =
        let marked : CuUpBearer = record d { hop = Some (record hop { up_ended = true }) } in
        still_if (not hop.up_ended && no_uplink d.uplinks && (not at.flags.target || d.up_ended)) (forwarded_up way at Absent end_marker marked) (nothing d)
        (still_up Absent end_marker marked k) (stays d k)

    pub still_uplink_end : (teid : ℕ) → Still (uplink_ended way at teid b)
    unfolding uplink_ended frames_of
    still_uplink_end teid =
        let on : CuUpBearer = record b { uplinks = filter (λ t. not (t == teid)) b.uplinks } in
        still_then (puts (closed teid) on) (λ c. up_hop_ends_if way at c.hop c) (refl, is) (λ d k. still_hop d d.hop k)

    pub still_up_end : Still (up_ended way at b)
    unfolding up_ended
    still_up_end = still_if b.up_ended (drops Unexpected b) _ (unexpected b is) (still_hop (record b { up_ended = true }) b.hop is)
