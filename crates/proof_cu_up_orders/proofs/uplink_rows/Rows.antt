-- The rows of a CU-UP on the uplink of one bearer, by what their orders do.
use Rattle.std.proofs.Common.{◌≡◌, ℕ, Bool, true, false, not, ◌&&◌, if◌then◌else◌, nat_lt, List, [], ◌∷◌, ◌++◌, map, Some, None, refl, sym, ap, subst, ◌∙◌, append_assoc}
use Rattle.gnb_types.specs.declared.reasons.DropReason.TheVariants.{Duplicate, Unexpected}
use Rattle.gnb_types.specs.declared.names.NodeId.{NodeId}
use Rattle.gnb_types.specs.declared.names.Dir.TheVariants.{Ul}
use Rattle.gnb_types.specs.declared.outputs.Tag.TheVariants.{Absent, Own, Same}
use Rattle.pdcp_defs.specs.Receivers.{is_duplicate, stored, deliver as handed_up}
use Rattle.unit_defs.specs.Ways.{Load, Output, packet, deliver, closed, Way, Answer, gives, ◌then◌, nothing, puts, drops}
use Rattle.unit_defs.specs.Ways as ways
use Rattle.unit_defs.specs.CuUpRecords.{CuUpBearer, SourceHop, CuUpScope}
use Rattle.unit_defs.specs.CuUpBearers.{forwarded_up, frozen_to, deliver_stored, delivered, no_uplink}
use Rattle.unit_defs.specs.CuUpItems.{took_uplink, uplink_ended, up_ended, up_hop_ends, up_hop_ends_if}
use Rattle.bearer_defs.specs.chain_defs.Orders.{frozen}
use Rattle.proof_cu_up_orders.proofs.chain_rows.Rows.{down, up, put_up_is, numbered_are, fresh_are, late_are}
use Rattle.bearer_defs.specs.uplink_defs.Models.{numbered, end_marker}
use Rattle.bearer_defs.specs.uplink_defs.Orders.{late, is_hop_up_done}
use Rattle.proof_cu_up_orders.specs.uplink_rows.Shown.{items_of, item_of, delivered_in, Gives, closed_at}

module _ {M P : Type 0} where
  pub items-append : (xs ys : List (Output M P)) → items_of (xs ++ ys) ≡ items_of xs ++ items_of ys
  unfolding items_of
  items-append [] ys = refl
  items-append (packet to teid ue bearer Ul tag load ∷ xs) ys =
      ap (λ zs. item_of load ++ zs) (items-append xs ys) ∙ sym (append_assoc (item_of load) (items_of xs) (items_of ys))
  items-append (_ ∷ xs) ys = items-append xs ys

  pub delivered-append : (xs ys : List (Output M P)) → delivered_in (xs ++ ys) ≡ delivered_in xs ++ delivered_in ys
  unfolding delivered_in
  delivered-append [] ys = refl
  delivered-append (deliver ue bearer Ul count p ∷ xs) ys = ap (λ zs. (count, p) ∷ zs) (delivered-append xs ys)
  delivered-append (_ ∷ xs) ys = delivered-append xs ys

module _ {M C P : Type 0} (way : Way M C P) (at : CuUpScope) where
  -- ---- what is delivered

  pub none_goes_on : (es : List (ℕ × List ℕ)) → items_of (delivered way at es) ≡ []
  unfolding items_of
  none_goes_on [] = refl
  none_goes_on (e ∷ es) = none_goes_on es

  pub all_delivered : (es : List (ℕ × List ℕ)) → delivered_in (delivered way at es) ≡ es
  unfolding delivered_in
  all_delivered [] = refl
  all_delivered (e ∷ es) = ap (λ ys. e ∷ ys) (all_delivered es)

  pub delivers : (b : CuUpBearer) → Gives [] (handed_up b.receiver).packets (record b { receiver = (handed_up b.receiver).after })
      (deliver_stored way at b)
  unfolding Gives deliver_stored
  delivers b = (none_goes_on (handed_up b.receiver).packets, all_delivered (handed_up b.receiver).packets, refl)

  -- ---- packets, by whether the context was released and is frozen, and whether they are duplicates or were delivered

  module _ (count : ℕ) (p : List ℕ) (b : CuUpBearer) where
    abbrev stores : CuUpBearer
    stores = record b { receiver = stored b.receiver count p }

    abbrev late_as : Bool → Answer M P CuUpBearer
    late_as l = if l then drops Duplicate b else forwarded_up way at Same (ways.numbered at.sn count p) b

    abbrev new_as : Bool → Answer M P CuUpBearer
    new_as f = if f then forwarded_up way at Same (ways.numbered at.sn count p) stores else deliver_stored way at stores

    abbrev taken_as : Bool → Bool → Bool → Bool → Answer M P CuUpBearer
    taken_as r f t l = if r then late_as l else (if t then drops Duplicate b else new_as f)

    taken_by : (r f t l : Bool) → at.flags.released ≡ r → at.flags.frozen ≡ f → is_duplicate b.receiver count ≡ t
        → nat_lt count b.receiver.deliv ≡ l → took_uplink way at (Some count) p b ≡ taken_as r f t l
    unfolding took_uplink
    taken_by r f t l is_r is_f is_t is_l i = taken_as (is_r i) (is_f i) (is_t i) (is_l i)

    pub takes_new : at.flags.released ≡ false → at.flags.frozen ≡ false → is_duplicate b.receiver count ≡ false
        → Gives [] (handed_up (stored b.receiver count p)).packets
        (record b { receiver = (handed_up (stored b.receiver count p)).after }) (took_uplink way at (Some count) p b)
    takes_new keeps unfrozen fresh = subst
        (λ a. Gives [] (handed_up (stored b.receiver count p)).packets (record b { receiver = (handed_up (stored b.receiver count p)).after }) a)
        (sym (taken_by false false false (nat_lt count b.receiver.deliv) keeps unfrozen fresh refl)) (delivers stores)

    pub relays_new : (hop : SourceHop) → b.hop ≡ Some hop → at.flags.released ≡ false → at.flags.frozen ≡ true
        → is_duplicate b.receiver count ≡ false
        → Gives (numbered count p ∷ []) [] (record b { receiver = stored b.receiver count p }) (took_uplink way at (Some count) p b)
    unfolding Gives items_of delivered_in up
    relays_new hop e keeps is_frozen fresh = subst (λ a. Gives (numbered count p ∷ []) [] stores a)
        (sym (taken_by false true false (nat_lt count b.receiver.deliv) keeps is_frozen fresh refl
        ∙ put_up_is way at Same (ways.numbered at.sn count p) stores hop e)) (refl, refl, refl)

    pub drops_old : at.flags.released ≡ false → is_duplicate b.receiver count ≡ true
        → Gives [] [] b (took_uplink way at (Some count) p b)
    unfolding Gives items_of delivered_in
    drops_old keeps old = subst (λ a. Gives [] [] b a)
        (sym (taken_by false at.flags.frozen true (nat_lt count b.receiver.deliv) keeps refl old refl)) (refl, refl, refl)

    pub passes_late : (hop : SourceHop) → b.hop ≡ Some hop → at.flags.released ≡ true → nat_lt count b.receiver.deliv ≡ false
        → Gives (numbered count p ∷ []) [] b (took_uplink way at (Some count) p b)
    unfolding Gives items_of delivered_in up
    passes_late hop e released above = subst (λ a. Gives (numbered count p ∷ []) [] b a)
        (sym (taken_by true at.flags.frozen (is_duplicate b.receiver count) false released refl refl above
        ∙ put_up_is way at Same (ways.numbered at.sn count p) b hop e)) (refl, refl, refl)

    pub drops_late : at.flags.released ≡ true → nat_lt count b.receiver.deliv ≡ true
        → Gives [] [] b (took_uplink way at (Some count) p b)
    unfolding Gives items_of delivered_in
    drops_late released below = subst (λ a. Gives [] [] b a)
        (sym (taken_by true at.flags.frozen (is_duplicate b.receiver count) true released refl refl below)) (refl, refl, refl)

  -- ---- End Markers

  over : (b : CuUpBearer) (hop : SourceHop) → (not hop.up_ended && no_uplink b.uplinks && is_hop_up_done at.flags b) ≡ true
      → up_hop_ends way at b hop
      ≡ gives (up way at (record hop { up_ended = true }) Absent ways.end_marker ∷ [])
      (record b { hop = Some (record hop { up_ended = true }) })
  over b hop is = rw is
      (put_up_is way at Absent ways.end_marker (record b { hop = Some (record hop { up_ended = true }) }) (record hop { up_ended = true }) refl)

  not_over : (b : CuUpBearer) (hop : SourceHop) → (not hop.up_ended && no_uplink b.uplinks && is_hop_up_done at.flags b) ≡ false
      → up_hop_ends way at b hop ≡ nothing b
  not_over b hop is = rw is

  pub uplink_ends_alone : (teid : ℕ) (b : CuUpBearer) → b.hop ≡ None → Gives [] [] (closed_at b teid) (uplink_ended way at teid b)
  unfolding uplink_ended Gives items_of delivered_in
  uplink_ends_alone teid b e = rw e (refl, refl, refl)

  module _ (teid : ℕ) (b : CuUpBearer) (hop : SourceHop) (e : b.hop ≡ Some hop) where
    abbrev c : CuUpBearer
    c = closed_at b teid

    pub last_uplink_ends : (not hop.up_ended && no_uplink (closed_at b teid).uplinks && is_hop_up_done at.flags b) ≡ true
        → Gives (end_marker ∷ []) [] (record (closed_at b teid) { hop = Some (record hop { up_ended = true }) }) (uplink_ended way at teid b)
    unfolding uplink_ended Gives items_of delivered_in up
    last_uplink_ends is = subst
        (λ a. Gives (end_marker ∷ []) [] (record c { hop = Some (record hop { up_ended = true }) }) (puts (closed teid) c then (λ d. a)))
        (sym ((λ i. up_hop_ends_if way at (e i) c) ∙ over c hop is)) (refl, refl, refl)

    pub uplink_ends : (not hop.up_ended && no_uplink (closed_at b teid).uplinks && is_hop_up_done at.flags b) ≡ false
        → Gives [] [] (closed_at b teid) (uplink_ended way at teid b)
    unfolding uplink_ended Gives items_of delivered_in
    uplink_ends is = subst (λ a. Gives [] [] c (puts (closed teid) c then (λ d. a)))
        (sym ((λ i. up_hop_ends_if way at (e i) c) ∙ not_over c hop is)) (refl, refl, refl)

  pub hop_ends_alone : (b : CuUpBearer) → b.up_ended ≡ false → b.hop ≡ None → Gives [] [] (record b { up_ended = true }) (up_ended way at b)
  unfolding up_ended Gives items_of delivered_in
  hop_ends_alone b open_ e = rw (open_, e) (refl, refl, refl)

  module _ (b : CuUpBearer) (hop : SourceHop) (open_ : b.up_ended ≡ false) (e : b.hop ≡ Some hop) where
    abbrev now : CuUpBearer
    now = record b { up_ended = true }

    hop_by : up_ended way at b ≡ up_hop_ends way at now hop
    unfolding up_ended
    hop_by i = if open_ i then drops Unexpected b else up_hop_ends_if way at (e i) now

    pub last_hop_ends : (not hop.up_ended && no_uplink b.uplinks && is_hop_up_done at.flags (record b { up_ended = true })) ≡ true
        → Gives (end_marker ∷ []) [] (record b { up_ended = true; hop = Some (record hop { up_ended = true }) }) (up_ended way at b)
    unfolding Gives items_of delivered_in up
    last_hop_ends is = subst (λ a. Gives (end_marker ∷ []) [] (record now { hop = Some (record hop { up_ended = true }) }) a)
        (sym (hop_by ∙ over now hop is)) (refl, refl, refl)

    pub hop_ends : (not hop.up_ended && no_uplink b.uplinks && is_hop_up_done at.flags (record b { up_ended = true })) ≡ false
        → Gives [] [] (record b { up_ended = true }) (up_ended way at b)
    unfolding Gives items_of delivered_in
    hop_ends is = subst (λ a. Gives [] [] now a) (sym (hop_by ∙ not_over now hop is)) (refl, refl, refl)

  -- ---- a freeze

  numbered_items : (es : List (ℕ × List ℕ)) (hop : SourceHop)
      → items_of (map (λ (e : ℕ × List ℕ). down way at hop (Own e.0) (ways.numbered at.sn e.0 e.1)) es) ≡ []
  unfolding items_of down
  numbered_items [] hop = refl
  numbered_items (x ∷ es) hop = numbered_items es hop

  fresh_items : (ps : List (List ℕ)) (hop : SourceHop) → items_of (map (λ p. down way at hop Absent (ways.fresh p)) ps) ≡ []
  unfolding items_of down
  fresh_items [] hop = refl
  fresh_items (x ∷ ps) hop = fresh_items ps hop

  late_items : (es : List (ℕ × List ℕ)) (hop : SourceHop)
      → items_of (map (λ (e : ℕ × List ℕ). up way at hop (Own e.0) (ways.numbered at.sn e.0 e.1)) es) ≡ map (λ e. numbered e.0 e.1) es
  unfolding items_of up
  late_items [] hop = refl
  late_items (x ∷ es) hop = ap (λ ys. numbered x.0 x.1 ∷ ys) (late_items es hop)

  numbered_none : (es : List (ℕ × List ℕ)) (hop : SourceHop)
      → delivered_in (map (λ (e : ℕ × List ℕ). down way at hop (Own e.0) (ways.numbered at.sn e.0 e.1)) es) ≡ []
  unfolding delivered_in down
  numbered_none [] hop = refl
  numbered_none (x ∷ es) hop = numbered_none es hop

  fresh_none : (ps : List (List ℕ)) (hop : SourceHop) → delivered_in (map (λ p. down way at hop Absent (ways.fresh p)) ps) ≡ []
  unfolding delivered_in down
  fresh_none [] hop = refl
  fresh_none (x ∷ ps) hop = fresh_none ps hop

  late_none : (es : List (ℕ × List ℕ)) (hop : SourceHop)
      → delivered_in (map (λ (e : ℕ × List ℕ). up way at hop (Own e.0) (ways.numbered at.sn e.0 e.1)) es) ≡ []
  unfolding delivered_in up
  late_none [] hop = refl
  late_none (x ∷ es) hop = late_none es hop

  abbrev hop_of : NodeId → ℕ → ℕ → SourceHop
  hop_of peer d u = record { peer = peer; down = d; up = u; up_ended = false }

  pub freezes : (peer : NodeId) (d u : ℕ) (b : CuUpBearer)
      → Gives (late b) [] (frozen b (hop_of peer d u)) (frozen_to way at peer d u b)
  unfolding Gives frozen_to
  freezes peer d u b =
      let hop = hop_of peer d u in
      let c : CuUpBearer = frozen b hop in
      let xs = map (λ (e : ℕ × List ℕ). down way at hop (Own e.0) (ways.numbered at.sn e.0 e.1)) b.sender.unconfirmed in
      let ys = map (λ p. down way at hop Absent (ways.fresh p)) b.waiting in
      let zs = map (λ (e : ℕ × List ℕ). up way at hop (Own e.0) (ways.numbered at.sn e.0 e.1)) b.receiver.stored in
      let i : items_of ((xs ++ ys) ++ zs) ≡ late b =
      items-append (xs ++ ys) zs ∙ ap (λ ws. ws ++ items_of zs) (items-append xs ys)
      ∙ rw (numbered_items b.sender.unconfirmed hop, fresh_items b.waiting hop, late_items b.receiver.stored hop) refl in
      let j : delivered_in ((xs ++ ys) ++ zs) ≡ [] =
      delivered-append (xs ++ ys) zs ∙ ap (λ ws. ws ++ delivered_in zs) (delivered-append xs ys)
      ∙ rw (numbered_none b.sender.unconfirmed hop, fresh_none b.waiting hop, late_none b.receiver.stored hop) refl in
      rw (
        numbered_are way at b.sender.unconfirmed c hop refl,
        fresh_are way at b.waiting c hop refl,
        late_are way at b.receiver.stored c hop refl,
      ) (i, j, refl)
