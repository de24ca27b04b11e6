-- Sound tallies stay sound, and the first COUNT of a sound one is the least that is shown.
use Rattle.std.proofs.Common.{◌≡◌, ◌<◌, ◌≤◌, ℕ, ◌+◌, ◌==◌, Bool, true, false, cond, List, [], ◌∷◌, Option, Some, None, refl, sym, ap, ◌∙◌, subst, arith}
use Rattle.std.proofs.lemmas.Bool.{eqb-false}
use Rattle.std.proofs.lemmas.Bool.Decides.{nat_tests}
use Rattle.std.specs.Prelude.{unwrap_or, nat_lt, Result, Ok, Err, OnOk, OnErr}
use Rattle.std.proofs.lemmas.Map.Keys.{sorted_from_strictly_increasing}
use Rattle.std.specs.declared.cmp.Ordering.{Ordering}
use Rattle.std.specs.declared.cmp.Ordering.TheVariants.{Less, Equal, Greater}
use Rattle.std.specs.Ordering.{nat_cmp, eq_by_cmp, is_eq}
use Rattle.std.specs.Cmp.{tied_itself}
use Rattle.std.specs.Map.{lookup}
use Rattle.std.proofs.lemmas.Cmp.{nat_cmp_total}
use Rattle.std.proofs.lemmas.Map.{lookup-none}
use Rattle.std.proofs.lemmas.Map.Entries.{none_below_head}
use Rattle.std.specs.BTreeMap.{is_at}
use Rattle.gnb_types.specs.declared.keys.EntityKey.{EntityKey}
use Rattle.gnb_types.specs.Orders.{entity_cmp}
use Rattle.gnb_types.proofs.Choices.{by_test}
use Rattle.gnb_types.proofs.OrderLemmas.{entity_total}
use Rattle.tables.specs.Tables.{find, put, without, at, first_entry, IsSorted}
use Rattle.tables.proofs.TableLaws.{find-put, find-without, sorted-put, sorted-without}
use Rattle.links.specs.declared.link_tallies.tallies.Tally.{Tally}
use Rattle.links.specs.link_tallies.Tallies.{Tallies, no_items, shown_more, with_times, shown_less, entered_by, left_by, key_in, times, least_shown, IsLeast}
use Rattle.links.specs.link_tallies.inside.Sound.{IsSound, AreSound}

abbrev IsPositive : List (ℕ × ℕ) → Type 0
IsPositive m = (c times : ℕ) → find nat_cmp m c ≡ Some times → 0 < times

positive_put : (m : List (ℕ × ℕ)) (c v : ℕ) → 0 < v → IsPositive m → IsPositive (put nat_cmp m c v)
positive_put m c v above all d n found = by (eq_by_cmp nat_cmp d c) (sym (find-put nat_cmp_total m c v d) ∙ found)
  where
    by : (b : Bool) → cond b (Some v) (find nat_cmp m d) ≡ Some n → 0 < n
    by true e = let same : v ≡ n = cc in subst (λ (k : ℕ). 0 < k) same above
    by false e = all d n e

positive_without : (m : List (ℕ × ℕ)) (c : ℕ) → IsPositive m → IsPositive (without nat_cmp m c)
positive_without m c all d n found = by (eq_by_cmp nat_cmp d c) (sym (find-without nat_cmp_total m c d) ∙ found)
  where
    by : (b : Bool) → cond b None (find nat_cmp m d) ≡ Some n → 0 < n
    by true e = absurd cc
    by false e = all d n e

sound_with_times : (m : List (ℕ × ℕ)) (c v i : ℕ) → IsSorted nat_cmp m → IsPositive m → IsSound (record { items = i; shown = with_times m c v })
sound_with_times m c v i sorted positive = by (v == 0) refl
  where
    by : (b : Bool) → (v == 0) ≡ b → IsSound (record { items = i; shown = cond b (without nat_cmp m c) (put nat_cmp m c v) })
    by true e = record { sorted = sorted-without nat_cmp_total m c sorted; shown = positive_without m c positive }
    by false e =
        let some : 0 < v = grind (arith, eqb-false) in
        record { sorted = sorted-put nat_cmp_total m c v sorted; shown = positive_put m c v some positive }

pub entered_sound : (tally : Tally) (count : Option ℕ) → IsSound tally → IsSound (entered_by tally count)
unfolding shown_more
entered_sound tally None s = record { sorted = s.sorted; shown = s.shown }
entered_sound tally (Some c) s = record {
  sorted = sorted-put nat_cmp_total tally.shown c (at nat_cmp 0 tally.shown c + 1) s.sorted;
  shown = positive_put tally.shown c (at nat_cmp 0 tally.shown c + 1) (omega arith) s.shown;
}

pub left_sound : (tally : Tally) (count : Option ℕ) → IsSound tally → IsSound (left_by tally count)
unfolding shown_less
left_sound tally None s = record { sorted = s.sorted; shown = s.shown }
left_sound tally (Some c) s = sound_with_times tally.shown c _ _ s.sorted s.shown

pub sound_put : (t : Tallies) (key : EntityKey) (tally : Tally) → IsSound tally → AreSound t → AreSound (put entity_cmp t key tally)
sound_put t key tally here all k other found = by (eq_by_cmp entity_cmp k key) (sym (find-put entity_total t key tally k) ∙ found)
  where
    by : (b : Bool) → cond b (Some tally) (find entity_cmp t k) ≡ Some other → IsSound other
    by true e = let same : tally ≡ other = cc in subst IsSound same here
    by false e = all k other e

pub none_sound : IsSound no_items
unfolding find
none_sound = record { sorted = sorted_from_strictly_increasing [] (λ k h. absurd (omega arith)); shown = λ c n e. absurd cc }

pub sound_at : (t : Tallies) (key : EntityKey) → AreSound t → IsSound (at entity_cmp no_items t key)
unfolding at
sound_at t key all = by (find entity_cmp t key) refl
  where
    by : (o : Option Tally) → find entity_cmp t key ≡ o → IsSound (unwrap_or o no_items)
    by None e = none_sound
    by (Some tally) e = all key tally e

first_positive : (e : ℕ × ℕ) (es : List (ℕ × ℕ)) → IsPositive (e ∷ es) → 0 < at nat_cmp 0 (e ∷ es) e.0
unfolding at find
first_positive e es positive =
    let found : find nat_cmp (e ∷ es) e.0 ≡ Some e.1 =
    ap (λ (r : Ordering). cond (is_eq r) (Some e.1) (lookup (is_at (nat_cmp e.0)) es)) (tied_itself nat_cmp_total e.0) in
    subst (λ (o : Option ℕ). 0 < unwrap_or o 0) (sym found) (positive e.0 e.1 found)

above_first : (e : ℕ × ℕ) (es : List (ℕ × ℕ)) (n : ℕ) → IsSorted nat_cmp (e ∷ es) → 0 < at nat_cmp 0 (e ∷ es) n → e.0 ≤ n
unfolding at find
above_first e es n sorted some = by_test (e.0 ≤ n) (nat_lt n e.0) below (λ t. grind (arith, nat_tests))
  where
    below : nat_lt n e.0 ≡ true → e.0 ≤ n
    below t =
        let less : nat_cmp n e.0 ≡ Less = ap (λ (b : Bool). cond b Less (cond (n == e.0) Equal Greater)) t in
        let none : lookup (is_at (nat_cmp n)) (e ∷ es) ≡ None =
        lookup-none (is_at (nat_cmp n)) (e ∷ es) (none_below_head nat_cmp_total n e es sorted less) in
        let nothing : 0 < 0 = subst (λ (o : Option ℕ). 0 < unwrap_or o 0) none some in
        absurd (omega arith)

first_is_least : (m : List (ℕ × ℕ)) → IsSorted nat_cmp m → IsPositive m → IsLeast (λ c. at nat_cmp 0 m c) (key_in (first_entry m))
unfolding at find first_entry
first_is_least [] sorted positive = λ c. refl
first_is_least (e ∷ es) sorted positive = (first_positive e es positive, λ n some. above_first e es n sorted some)

pub none_are_sound : (t : Tallies) → t ≡ [] → AreSound t
unfolding find
none_are_sound t e = subst AreSound (sym e) (λ key tally found. absurd cc)

-- a key gets a tally that an item entered, or left
pub entered_are_sound : (t : Tallies) (key : EntityKey) (tally new : Tally) (count : Option ℕ) → AreSound t → IsSound tally
    → new ≡ entered_by tally count → AreSound (put entity_cmp t key new)
entered_are_sound t key tally new count all here is = sound_put t key new (subst IsSound (sym is) (entered_sound tally count here)) all

-- an item enters, or there is no memory for it
pub tried_are_sound : {E : Type 0} (t : Tallies) (key : EntityKey) (tally new : Tally) (count : Option ℕ) (r : Result (Unit {0}) E) → AreSound t → IsSound tally
    → OnOk r (new ≡ entered_by tally count) → OnErr r (new ≡ tally) → AreSound (put entity_cmp t key new)
tried_are_sound t key tally new count (Ok u) all here ok err = entered_are_sound t key tally new count all here ok
tried_are_sound t key tally new count (Err e) all here ok err = sound_put t key new (subst IsSound (sym err) here) all

pub left_are_sound : (t : Tallies) (key : EntityKey) (tally new : Tally) (count : Option ℕ) → AreSound t → IsSound tally
    → new ≡ left_by tally count → AreSound (put entity_cmp t key new)
left_are_sound t key tally new count all here is = sound_put t key new (subst IsSound (sym is) (left_sound tally count here)) all

pub least_is : (t : Tallies) (key : EntityKey) → AreSound t → IsLeast (times t key) (least_shown t key)
unfolding times least_shown
least_is t key all =
    let tally = at entity_cmp no_items t key in
    let sound : IsSound tally = sound_at t key all in
    first_is_least tally.shown sound.sorted sound.shown

-- what the tally of a key shows, in tallies that a list shows
pub least_found : (inside t : Tallies) (key : EntityKey) (tally : Tally) (r : Option ℕ) → inside ≡ t → find entity_cmp inside key ≡ Some tally
    → r ≡ key_in (first_entry tally.shown) → r ≡ least_shown t key
unfolding least_shown at
least_found inside t key tally r same found is =
    is ∙ sym (ap (λ (o : Option Tally). key_in (first_entry (unwrap_or o no_items).shown)) (sym (ap (λ (m : Tallies). find entity_cmp m key) same) ∙ found))

pub least_absent : (inside t : Tallies) (key : EntityKey) → inside ≡ t → find entity_cmp inside key ≡ None → None ≡ least_shown t key
unfolding least_shown at first_entry
least_absent inside t key same absent =
    sym (ap (λ (o : Option Tally). key_in (first_entry (unwrap_or o no_items).shown)) (sym (ap (λ (m : Tallies). find entity_cmp m key) same) ∙ absent))

pub least_of_these : (inside t : Tallies) (key : EntityKey) (r : Option ℕ) → AreSound inside → inside ≡ t → r ≡ least_shown t key
    → IsLeast (times t key) r
least_of_these inside t key r all same is =
    subst (IsLeast (times t key)) (sym is) (least_is t key (subst AreSound same all))

pub begun_are_sound : (t : Tallies) (key : EntityKey) (none new : Tally) (count : Option ℕ) → AreSound t → none ≡ no_items
    → new ≡ entered_by none count → AreSound (put entity_cmp t key new)
begun_are_sound t key none new count all empty is = entered_are_sound t key none new count all (subst IsSound (sym empty) none_sound) is
