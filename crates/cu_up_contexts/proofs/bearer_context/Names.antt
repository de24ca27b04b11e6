-- Whether a list names the bearers of a context.
use Rattle.std.proofs.Common.{◌≡◌, ◌==◌, ◌&&◌, ℕ, zero, suc, ◌+◌, ◌-◌, ◌<◌, Bool, true, false, List, [], ◌∷◌, length, map, drop, get_or, refl, sym, ap, ◌∙◌, ◌≤◌, arith, drop-cons}
use Rattle.std.proofs.lemmas.Bool.Decides.{nat_tests}
use Rattle.std.proofs.lemmas.List.{drop_all}
use Rattle.gnb_types.specs.declared.names.BearerId.{BearerId}
use Rattle.unit_defs.specs.Messages.{are_bearers}
use Rattle.unit_defs.specs.CuUp.{bearers_from}
use Rattle.cu_up_bearer.specs.declared.bearers.bearer.Bearer.{Bearer}
use Rattle.cu_up_contexts.specs.bearer_context.Bearers.{numbered}

pub names_are : (n : ℕ) (bs : List Bearer) → map (λ e. e.0) (numbered n bs) ≡ bearers_from n (length bs)
names_are n [] = refl
names_are n (b ∷ bs) = ap (λ (ids : List BearerId). record { 0 = n } ∷ ids) (names_are (n + 1) bs)

pub other_count : (n m : ℕ) (ids : List BearerId) → (m ≡ length ids → ⊥) → are_bearers (bearers_from n m) ids ≡ false
other_count n zero [] other = absurd (other refl)
other_count n zero (id ∷ ids) other = refl
other_count n (suc m) [] other = refl
other_count n (suc m) (id ∷ ids) other =
    by (n == id.0) (other_count (n + 1) m ids (λ e. other (ap (λ k. suc k) e)))
  where
    by : (t : Bool) → are_bearers (bearers_from (n + 1) m) ids ≡ false → (t && are_bearers (bearers_from (n + 1) m) ids) ≡ false
    by true later = later
    by false later = refl

module _ {X : Type 0} (name : X → BearerId) (xs : List X) (d : X) (i n : ℕ) (within : i < length xs) where
  abbrev there : Bool
  there = are_bearers (bearers_from n (length xs - i)) (map name (drop i xs))

  abbrev first_is : Bool
  first_is = n == (name (get_or xs i d)).0

  opened_up : there ≡ (first_is && are_bearers (bearers_from (n + 1) (length xs - (i + 1))) (map name (drop (i + 1) xs)))
  opened_up =
      let left : length xs - i ≡ suc (length xs - (i + 1)) = omega (arith, within) in
      let next : suc i ≡ i + 1 = omega arith in
      ap (λ (m : ℕ). are_bearers (bearers_from n m) (map name (drop i xs))) left
      ∙ ap (λ (ys : List X). are_bearers (bearers_from n (suc (length xs - (i + 1)))) (map name ys)) (drop-cons xs i d within ∙ ap (λ (k : ℕ). get_or xs i d ∷ drop k xs) next)

  pub named_turn : (name (get_or xs i d)).0 ≡ n
      → are_bearers (bearers_from (n + 1) (length xs - (i + 1))) (map name (drop (i + 1) xs)) ≡ there
  named_turn same =
      let t : first_is ≡ true = grind (arith, nat_tests) in
      sym (opened_up ∙ ap (λ (b : Bool). b && are_bearers (bearers_from (n + 1) (length xs - (i + 1))) (map name (drop (i + 1) xs))) t)

  pub named_not : ((name (get_or xs i d)).0 ≡ n → ⊥) → there ≡ false
  named_not other =
      let t : first_is ≡ false = grind (arith, nat_tests) in
      opened_up ∙ ap (λ (b : Bool). b && are_bearers (bearers_from (n + 1) (length xs - (i + 1))) (map name (drop (i + 1) xs))) t

pub named_all : {X : Type 0} (name : X → BearerId) (xs : List X) (i n : ℕ) → length xs ≤ i
    → are_bearers (bearers_from n (length xs - i)) (map name (drop i xs)) ≡ true
named_all {X} name xs i n h =
    let none : length xs - i ≡ 0 = omega (arith, h) in
    ap (λ (m : ℕ). are_bearers (bearers_from n m) (map name (drop i xs))) none
    ∙ ap (λ (ys : List X). are_bearers [] (map name ys)) (drop_all i xs h)
