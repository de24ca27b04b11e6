-- The laws of one bearer's uplink, from what holds after every list of orders.
use Rattle.std.proofs.Common.{inl, inr, ◌≡◌, ◌⊎◌, ℕ, zero, suc, ◌+◌, ◌-◌, ◌<◌, ◌≤◌, max, Bool, true, false, nat_lt, cond, List, [], ◌∷◌, ◌++◌, length, take, Some, refl, sym, ap, subst, ◌∙◌, arith}
use Rattle.std.specs.Prelude.{is_some}
use Rattle.std.specs.List.{AllByRecursion, enumerate_from}
use Rattle.std.specs.Ordering.{nat_cmp, is_eq}
use Rattle.std.specs.Cmp.{tied_itself}
use Rattle.std.proofs.lemmas.Cmp.{nat_cmp_total}
use Rattle.std.proofs.lemmas.List.{take_all}
use Rattle.tables.specs.Tables.{find}
use Rattle.intervals.specs.Intervals.{segment, upto, reach}
use Rattle.intervals.proofs.Intervals.{all_append, all_upto, upto-length, reach-le}
use Rattle.law_downlink_order.specs.chain.Words.{IsInPlace}
use Rattle.law_downlink_order.proofs.chain.Facts.{pairs}
use Rattle.law_downlink_order.proofs.chain.Frames.{apart}
use Rattle.law_downlink_order.proofs.chain.Runs.{stream, agrees}
use Rattle.law_downlink_order.proofs.chain.Laws.{stream_at, first_ones}
use Rattle.bearer_defs.specs.uplink_defs.Models.{Item, numbered, end_marker, Model, initial}
use Rattle.bearer_defs.specs.uplink_defs.Orders.{ModelStep, run, offers_in}
use Rattle.bearer_defs.specs.uplink_defs.Assumptions.{AreKept}
use Rattle.bearer_defs.specs.uplink_defs.Places.{has, IsAt}
use Rattle.law_uplink_order.specs.uplink.Words.{DeliversInOrder, IsItemInPlace, CountsArePlaces, IsUnderWay, LosesNone, IsQuiet, HasDeliveredAll}
use Rattle.law_uplink_order.proofs.facts.Items.{IsRight, IsRightItem, stands-none}
use Rattle.law_uplink_order.proofs.facts.Receivers.{rises_has}
use Rattle.law_uplink_order.proofs.facts.Facts.{view, StationIs, Own, Beyond, Kept, Good}
use Rattle.law_uplink_order.proofs.uplink.Runs.{all_offered, kept_run, good_start}

-- ---- which COUNTs a sender holds

has_right : (i : ℕ) (xs ys : List (ℕ × List ℕ)) → has ys i ≡ true → has (xs ++ ys) i ≡ true
unfolding find
has_right i [] ys h = h
has_right i (x ∷ xs) ys h = by (is_eq (nat_cmp i x.0)) (has_right i xs ys h)
  where
    by : (t : Bool) → has (xs ++ ys) i ≡ true → is_some (cond t (Some x.1) (find nat_cmp (xs ++ ys) i)) ≡ true
    by true k = refl
    by false k = k

has_segment : (p : ℕ → List ℕ) (i a n : ℕ) → a ≤ i → i < a + n → has (segment (pairs p) a n) i ≡ true
unfolding segment find
has_segment p i a zero l o = absurd (omega arith)
has_segment p i a (suc n) l o = by (is_eq (nat_cmp i a)) refl (λ k. has_segment p i (a + 1) n k (omega arith))
  where
    by : (t : Bool) → is_eq (nat_cmp i a) ≡ t → (a + 1 ≤ i → has (segment (pairs p) (a + 1) n) i ≡ true)
        → is_some (cond t (Some (p a)) (find nat_cmp (segment (pairs p) (a + 1) n) i)) ≡ true
    by true t k = refl
    by false t k = k (far (nat_lt a i) refl)
      where
        far : (u : Bool) → nat_lt a i ≡ u → a + 1 ≤ i
        far true u = let e : a < i = grind arith in omega arith
        far false u =
            let e : i ≡ a = (let f : i ≤ a = grind arith in omega arith) in
            absurd (apart (subst (λ j. is_eq (nat_cmp j a) ≡ true) (sym e) (ap is_eq (tied_itself nat_cmp_total a))) t)

has_upto : (p : ℕ → List ℕ) (i a b : ℕ) → a ≤ i → i < b → has (upto (pairs p) a b) i ≡ true
unfolding upto
has_upto p i a b l o = has_segment p i a (b - a) l (omega arith)

module _ (x teid : ℕ) (os : List ModelStep) (kept : AreKept (initial x teid) os) where
  p : ℕ → List ℕ
  p = stream (offers_in os)

  s : Model
  s = run (initial x teid) os

  good : Good p s
  unfolding initial p s
  good = kept_run p (initial x teid) os (good_start p x teid) kept (agrees (offers_in os))

  k : Kept p s good.0 good.1
  k = good.2

  offered : s.offered ≡ length (offers_in os)
  unfolding initial s
  offered = all_offered (initial x teid) os ∙ omega arith

  few : good.0 ≤ length (offers_in os)
  few =
      let a = k.terminal.done_reached in
      let b = k.terminal.sends.reached_next in
      let c = k.terminal.sends.next_offered in
      let e = offered in omega arith

  as_many : length s.delivered ≡ good.0
  as_many = ap length k.terminal.delivered_are ∙ upto-length (pairs p) 0 good.0 ∙ omega arith

  first_delivered : s.delivered ≡ enumerate_from 0 (take good.0 (offers_in os))
  unfolding upto p
  first_delivered =
      let from : (i : ℕ) → p (0 + i) ≡ stream (offers_in os) i = λ i. (let e : 0 + i ≡ i = omega arith in ap p e) in
      let same : good.0 - 0 ≡ good.0 = omega arith in
      k.terminal.delivered_are ∙ ap (segment (pairs p) 0) same ∙ first_ones p (offers_in os) 0 good.0 from few

  pub delivers_in_order : DeliversInOrder (offers_in os) (run (initial x teid) os)
  unfolding DeliversInOrder s
  delivers_in_order = first_delivered ∙ ap (λ n. enumerate_from 0 (take n (offers_in os))) (sym as_many)

  -- ---- COUNTs are places

  in_place : (i : ℕ) → i < s.offered → IsInPlace (offers_in os) i (p i)
  unfolding p
  in_place i l = stream_at (offers_in os) i (let c = offered in omega arith)

  below_offered : (i : ℕ) → i < s.reached → i < s.offered
  below_offered i l = let b = k.terminal.sends.reached_next in let c = k.terminal.sends.next_offered in omega arith

  right_places : (es : List (ℕ × List ℕ)) → AllByRecursion (IsRight p s.reached) es
      → AllByRecursion (λ (e : ℕ × List ℕ). IsInPlace (offers_in os) e.0 e.1) es
  right_places [] h = tt
  right_places (e ∷ es) h = (in_place e.0 (below_offered e.0 h.0.0) ∙ ap (λ y. Some y) (sym h.0.1), right_places es h.1)

  item_places : (items : List Item) → AllByRecursion (IsRightItem p s.reached) items → AllByRecursion (IsItemInPlace (offers_in os)) items
  item_places [] h = tt
  item_places (numbered count packet ∷ items) h =
      (in_place count (below_offered count h.0.0) ∙ ap (λ y. Some y) (sym h.0.1), item_places items h.1)
  item_places (end_marker ∷ items) h = (tt, item_places items h.1)

  air_places : (n : ℕ) (es : List (ℕ × List ℕ)) → AllByRecursion (λ (e : ℕ × List ℕ). e.1 ≡ p e.0) es → reach n es ≤ s.offered
      → AllByRecursion (λ (e : ℕ × List ℕ). IsInPlace (offers_in os) e.0 e.1) es
  unfolding reach
  air_places n [] h l = tt
  air_places n (e ∷ es) h l =
      let below : e.0 < s.offered = (let a = reach-le (max n (e.0 + 1)) es in omega arith) in
      (in_place e.0 below ∙ ap (λ y. Some y) (sym h.0), air_places (max n (e.0 + 1)) es h.1 l)

  pub counts_are_places : CountsArePlaces (offers_in os) (run (initial x teid) os)
  unfolding s
  counts_are_places = record {
    unconfirmed =
        (let o = k.terminal.sends in
        subst (λ es. AllByRecursion (λ (e : ℕ × List ℕ). IsInPlace (offers_in os) e.0 e.1) es) (sym o.unconfirmed_are)
        (all_append (λ (e : ℕ × List ℕ). IsInPlace (offers_in os) e.0 e.1) o.early (upto (pairs p) s.reached s.terminal.sender.next)
        (right_places o.early o.early_right)
        (all_upto (λ (e : ℕ × List ℕ). IsInPlace (offers_in os) e.0 e.1) (pairs p) s.reached s.terminal.sender.next
        (λ i l. in_place i (let a = o.reached_next in let b = o.next_offered in omega arith)))));
    on_air = air_places s.reached s.air k.terminal.radio.packets
        (let a = k.terminal.radio.most in let b = k.terminal.sends.next_offered in omega arith);
    uplink = λ q i there. item_places ((s.members q).uplink i) (((k.each q).own there).tunnels.uplink_right i);
    forwarded = λ q there. item_places (s.members q).forwarded ((k.each q).own there).tunnels.right;
    stored = λ q there. right_places (s.members q).bearer.receiver.stored ((k.each q).own there).holds.right;
  }

  -- ---- none is lost

  pub loses_none : LosesNone (run (initial x teid) os)
  unfolding LosesNone IsUnderWay Beyond s
  loses_none i below none = by (nat_lt i s.reached) refl
    where
      found : (i < good.0) ⊎ ((r : ℕ) × (1 ≤ (good.1 r).rank) × IsAt s.station r (s.members r) i)
          → (i < length s.delivered) ⊎ ((r : ℕ) × IsAt s.station r (s.members r) i)
      found (inl l) = inl (let e = as_many in omega arith)
      found (inr (r, l, h)) = inr (r, h)

      by : (t : Bool) → nat_lt i s.reached ≡ t → (i < length s.delivered) ⊎ ((r : ℕ) × IsAt s.station r (s.members r) i)
      by true t = found (k.net i (grind arith))
      by false t =
          let o = k.terminal.sends in
          absurd (apart (subst (λ es. has es i ≡ true) (sym o.unconfirmed_are)
          (has_right i o.early (upto (pairs p) s.reached s.terminal.sender.next)
          (has_upto p i s.reached s.terminal.sender.next (grind arith) below))) none)

  -- ---- with nothing under way all is delivered

  none_unconfirmed : s.terminal.sender.unconfirmed ≡ [] → s.terminal.sender.next ≤ s.reached
  unfolding find
  none_unconfirmed empty = by (nat_lt s.reached s.terminal.sender.next) refl
    where
      by : (t : Bool) → nat_lt s.reached s.terminal.sender.next ≡ t → s.terminal.sender.next ≤ s.reached
      by true t =
          let o = k.terminal.sends in
          let l : s.reached < s.terminal.sender.next = grind arith in
          absurd (apart (subst (λ es. has es s.reached ≡ true) (sym o.unconfirmed_are)
          (has_right s.reached o.early (upto (pairs p) s.reached s.terminal.sender.next)
          (has_upto p s.reached s.reached s.terminal.sender.next (omega arith) l)))
          (subst (λ es. has es s.reached ≡ false) (sym empty) refl))
      by false t = grind arith

  none_waits : s.terminal.waiting ≡ [] → s.offered ≤ s.terminal.sender.next
  none_waits empty =
      let e : length (upto p s.terminal.sender.next s.offered) ≡ 0 =
      ap length (sym k.terminal.sends.waiting_are ∙ empty) in
      let f = upto-length p s.terminal.sender.next s.offered in omega arith

  all_done : IsQuiet s → s.reached ≤ good.0
  unfolding Beyond find
  all_done quiet = by (nat_lt good.0 s.reached) refl
    where
      next_one : (good.0 < good.0) ⊎ ((r : ℕ) × (1 ≤ (good.1 r).rank) × IsAt s.station r (s.members r) good.0) → ⊥
      next_one (inl l) = omega arith
      next_one (inr (r, l, (there, inl (inl h)))) = stands-none good.0 (s.members r).forwarded (quiet.forwarded r there) h
      next_one (inr (r, l, (there, inl (inr (t, open_, h))))) =
          stands-none good.0 ((s.members r).uplink t) (quiet.uplink r t there open_) h
      next_one (inr (r, l, (there, inr (at, h)))) = stored (s.members s.station).flags.may_serve refl
        where
          here : has (s.members s.station).bearer.receiver.stored good.0 ≡ true
          here = subst (λ q. has (s.members q).bearer.receiver.stored good.0 ≡ true) at h

          st : StationIs good.0 (s.members s.station) (good.1 s.station).rank
          st = (k.each s.station).station refl

          o : Own p (view s good.0) s.station (s.members s.station) (good.1 s.station).rank
          o = (k.each s.station).own st.there

          stored : (t : Bool) → (s.members s.station).flags.may_serve ≡ t → ⊥
          stored true known =
              let e = st.known known in
              let f = rises_has ((s.members s.station).bearer.receiver.deliv + 1) good.0 (s.members s.station).bearer.receiver.stored
              (o.holds.handed_up quiet.serves) here in omega arith
          stored false unknown = apart here (subst (λ es. has es good.0 ≡ false) (sym (o.holds.unknown unknown)) refl)

      by : (t : Bool) → nat_lt good.0 s.reached ≡ t → s.reached ≤ good.0
      by true t = absurd (next_one (k.net good.0 (grind arith)))
      by false t = grind arith

  pub delivers_all : IsQuiet (run (initial x teid) os) → HasDeliveredAll (offers_in os) (run (initial x teid) os)
  unfolding HasDeliveredAll s
  delivers_all quiet =
      let a = all_done quiet in
      let b = none_unconfirmed quiet.unconfirmed in
      let c = none_waits quiet.waiting in
      let e = offered in
      let l : length (offers_in os) ≤ good.0 = omega arith in
      first_delivered ∙ ap (enumerate_from 0) (take_all good.0 (offers_in os) l)
