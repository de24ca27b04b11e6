-- Packets that wait get COUNTs, and stand on the legs that serve.
use Rattle.std.proofs.Common.{◌≡◌, ℕ, suc, ◌+◌, ◌-◌, ◌<◌, ◌≤◌, Bool, true, false, cond, not, nat_lt, List, [], ◌∷◌, ◌++◌, drop, refl, sym, ap, ◌∙◌, subst, arith}
use Rattle.std.proofs.lemmas.Bool.Decides.{nat_tests}
use Rattle.gnb_types.specs.declared.names.SnBits.{SnBits}
use Rattle.pdcp.specs.Near.{last_count}
use Rattle.pdcp_defs.specs.Senders.{first, first_of, window, has_room, numbered}
use Rattle.pdcp_defs.specs.Receivers.{Receiver}
use Rattle.dup_defs.specs.declared.types.leg.Leg.{Leg}
use Rattle.dup_defs.specs.declared.types.leg.Leg.TheVariants as legs
use Rattle.dup_defs.specs.Senders.{DupSender, DupPut, DupNumbers, gives, spends, serves, all_on, puts_of, puts_first, number_each, number_waiting}
use Rattle.dup_defs.specs.dup_run_defs.Run.{LegItems, DupRun, items_of, with_items, added, with_put, with_puts}
use Rattle.law_dup.specs.events.Counted.{AreOf, AreCounted}
use Rattle.law_dup.specs.events.Kept.{WaitsFull, KeepsLeg, IsOpen, IsKept}
use Rattle.law_dup.proofs.events.Lists.{all_as, of_added, counted_added, counted_up, get_dropped, drop_one, drop_short}

-- ---- what is put, over a run with another entity

abbrev pub over : DupRun → DupSender → DupRun
over s e = record s { entity = e }

-- one packet more on the legs that serve
abbrev pub grown : Bool → Bool → ℕ → List ℕ → DupRun → DupRun
grown b c count packet s = record s { first = cond b (added s.first count packet) s.first; second = cond c (added s.second count packet) s.second }

one_put : (e : DupSender) (count : ℕ) (packet : List ℕ) (s : DupRun)
    → with_puts (puts_of e ((count, packet) ∷ [])) s ≡ grown (serves e legs.First) (serves e legs.Second) count packet s
one_put e count packet s = by (serves e legs.First) (serves e legs.Second)
  where
    es : List (ℕ × List ℕ)
    es = (count, packet) ∷ []

    by : (b c : Bool) → with_puts (cond b (all_on legs.First es) [] ++ cond c (all_on legs.Second es) []) s ≡ grown b c count packet s
    by true true = refl
    by true false = refl
    by false true = refl
    by false false = refl

pub puts_append : (xs ys : List DupPut) (s : DupRun) → with_puts (xs ++ ys) s ≡ with_puts ys (with_puts xs s)
puts_append [] ys s = refl
puts_append (x ∷ xs) ys s = puts_append xs ys (with_put s x)

put_over : (x : DupPut) (s : DupRun) (e : DupSender) → with_put (over s e) x ≡ over (with_put s x) e
put_over x s e = by x.leg
  where
    by : (leg : Leg) → with_items leg (added (items_of leg (over s e)) x.count x.packet) (over s e)
        ≡ over (with_items leg (added (items_of leg s) x.count x.packet) s) e
    by legs.First = refl
    by legs.Second = refl

pub puts_over : (xs : List DupPut) (s : DupRun) (e : DupSender) → with_puts xs (over s e) ≡ over (with_puts xs s) e
puts_over [] s e = refl
puts_over (x ∷ xs) s e = ap (with_puts xs) (put_over x s e) ∙ puts_over xs (with_put s x) e

-- ---- the least COUNT that nothing confirmed

pub first_low : (low next : ℕ) (es : List (ℕ × List ℕ)) → AreCounted low next es → first_of next es ≡ low
first_low low next [] is = sym is
first_low low next (e ∷ es) is = is.0

-- ---- a leg with one packet more

leg_more : (r : Receiver (List ℕ)) (low next : ℕ) (packet : List ℕ) (items : LegItems) (b : Bool) → KeepsLeg r low next b items
    → KeepsLeg r low (next + 1) b (cond b (added items next packet) items)
leg_more r low next packet items true leg = record {
  high = leg.high;
  above = leg.above;
  carried = leg.carried;
  came = leg.came;
  coming = counted_added leg.high next (next + 1) items.coming ((next, packet) ∷ []) leg.coming (refl, refl);
}
leg_more r low next packet items false leg = leg

of_if : (packets : List (List ℕ)) (next : ℕ) (packet : List ℕ) (items : LegItems) (b : Bool) → AreOf packets items.coming
    → AreOf packets ((next, packet) ∷ []) → AreOf packets (cond b (added items next packet) items).coming
of_if packets next packet items true all one = of_added packets items.coming ((next, packet) ∷ []) all one
of_if packets next packet items false all one = all

-- ---- numbering

module _ (sn : SnBits) (quota : ℕ) (packets : List (List ℕ)) where
  abbrev pub NumbersGood : DupRun → DupNumbers → Type 0
  NumbersGood s spends = Unit {0}
  NumbersGood s (gives puts after) = IsKept sn quota packets (with_puts puts (over s after))

  abbrev next_sender : DupSender → List ℕ → List (List ℕ) → DupSender
  next_sender e p ps = record e { sender = numbered e.sender p; waiting = ps }

  open_more : (e : DupSender) (s : DupRun) (p : List ℕ) (ps : List (List ℕ)) → IsOpen sn quota packets (over s e) → e.waiting ≡ p ∷ ps
      → has_room sn quota e.sender ≡ true → nat_lt last_count e.sender.next ≡ false
      → IsOpen sn quota packets (over (grown (serves e legs.First) (serves e legs.Second) e.sender.next p s) (next_sender e p ps))
  unfolding has_room first numbered
  open_more e s p ps base is room given =
      let n = e.sender.next in
      let rest = base.waiting ∙ is in
      let one : AreOf packets ((n, p) ∷ []) = (get_dropped packets n p ps rest, tt) in
      let low_is = first_low base.low n e.sender.unconfirmed base.unconfirmed in
      let under : n - first_of n e.sender.unconfirmed < window sn quota = grind (arith, nat_tests) in
      let few : n ≤ last_count = grind (arith, nat_tests) in
      let up = counted_up base.low n e.sender.unconfirmed base.unconfirmed in
      record {
        low = base.low;
        numbered = drop_short packets n p ps rest;
        waiting = (let same : suc n ≡ n + 1 = omega arith in subst (λ (k : ℕ). drop k packets ≡ ps) same (drop_one packets n p ps rest));
        counts = omega (arith, few);
        unconfirmed = counted_added base.low n (n + 1) e.sender.unconfirmed ((n, p) ∷ []) base.unconfirmed (refl, refl);
        held = of_added packets e.sender.unconfirmed ((n, p) ∷ []) base.held one;
        near = omega (arith, under, low_is, up);
        first = leg_more s.receiver base.low n p s.first (serves e legs.First) base.first;
        first_of = of_if packets n p s.first (serves e legs.First) base.first_of one;
        second = leg_more s.receiver base.low n p s.second (serves e legs.Second) base.second;
        second_of = of_if packets n p s.second (serves e legs.Second) base.second_of one;
        confirmed = base.confirmed;
        given = (let g = base.given in omega (arith, g));
        above = base.above;
        below = all_as (λ x. x.0 < n) (λ x. x.0 < n + 1) (λ x l. omega (arith, l)) s.receiver.stored base.below;
        stored = base.stored;
      }

  full_here : (e : DupSender) (s : DupRun) (p : List ℕ) (ps : List (List ℕ)) (base : IsOpen sn quota packets (over s e)) → e.waiting ≡ p ∷ ps
      → has_room sn quota e.sender ≡ false → IsKept sn quota packets (over s e)
  unfolding has_room first
  full_here e s p ps base is room =
      let n = e.sender.next in
      let low_is = first_low base.low n e.sender.unconfirmed base.unconfirmed in
      let most : window sn quota ≤ n - first_of n e.sender.unconfirmed = grind (arith, nat_tests) in
      let near = base.near in
      let up = counted_up base.low n e.sender.unconfirmed base.unconfirmed in
      record {
        base = base;
        full = subst (λ (w : List (List ℕ)). WaitsFull (base.low + window sn quota) n w) (sym is) (omega (arith, low_is, most, near, up));
      }

  pub number_good : (ws : List (List ℕ)) (e : DupSender) (s : DupRun) → IsOpen sn quota packets (over s e) → e.waiting ≡ ws
      → NumbersGood s (number_each sn quota ws e)
  number_good [] e s base is = record {
    base = base;
    full = subst (λ (w : List (List ℕ)). WaitsFull (base.low + window sn quota) e.sender.next w) (sym is) tt;
  }
  number_good (p ∷ ps) e s base is =
      by (has_room sn quota e.sender) (nat_lt last_count e.sender.next) refl refl
      (λ room given. number_good ps (next_sender e p ps) (with_puts (puts_of e ((e.sender.next, p) ∷ [])) s)
      (subst (λ (t : DupRun). IsOpen sn quota packets (over t (next_sender e p ps))) (sym (one_put e e.sender.next p s)) (open_more e s p ps base is room given)) refl)
    where
      puts : List DupPut
      puts = puts_of e ((e.sender.next, p) ∷ [])

      chain : (r : DupNumbers) → NumbersGood (with_puts puts s) r → NumbersGood s (puts_first puts r)
      chain spends good = tt
      chain (gives more after) good =
          subst (λ (t : DupRun). IsKept sn quota packets t)
          (sym (puts_append puts more (over s after) ∙ ap (with_puts more) (puts_over puts s after))) good

      by : (b c : Bool) → has_room sn quota e.sender ≡ b → nat_lt last_count e.sender.next ≡ c
          → (has_room sn quota e.sender ≡ true → nat_lt last_count e.sender.next ≡ false
          → NumbersGood (with_puts puts s) (number_each sn quota ps (next_sender e p ps)))
          → NumbersGood s
          (cond (not b) (gives [] e)
          (cond c spends (puts_first puts (number_each sn quota ps (next_sender e p ps)))))
      by false c room given again = full_here e s p ps base is room
      by true true room given again = tt
      by true false room given again = chain (number_each sn quota ps (next_sender e p ps)) (again room given)

  pub waiting_good : (e : DupSender) (s : DupRun) → IsOpen sn quota packets (over s e) → NumbersGood s (number_waiting sn quota e)
  unfolding number_waiting
  waiting_good e s base = number_good e.waiting e s base refl
