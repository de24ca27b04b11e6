-- The attached terminals and their bearers, and loops over lists.
use Rattle.std.proofs.Common.{◌≡◌, ℕ, ◌+◌, ◌-◌, ◌<◌, suc, ◌==◌, Bool, true, false, if◌then◌else◌, List, [], ◌∷◌, ◌++◌, length, map, drop, get_or, refl, sym, ◌∙◌, ap, arith, append_assoc, drop-cons, add-one}
use Rattle.std.specs.List.{flat_map, list_any}
use Rattle.gnb_types.specs.declared.names.UeId.{UeId}
use Rattle.gnb_types.specs.declared.names.BearerId.{BearerId}
use Rattle.gnb_types.specs.declared.plans.Plan.{Plan}
use Rattle.run_defs.specs.States.{Ending, goes, stops, told_before, ◌next◌}
use Rattle.run_defs.specs.Steps.{bearer_numbers}
use Rattle.run_defs.specs.Conditions.{state_at}
use Rattle.run_defs.specs.Settling.{bearers_of, move_by, move_each}
use Rattle.run_links.specs.Networks.{OctetState, OctetWorld}
use Rattle.world.specs.turns.Turns.{bearers_to, bearers_there, terminals_there, move_terminals}

-- ---- one part after another

pub next_same : {X S : Type 0} (o : Ending X S) (f g : S → Ending X S) → ((s : S) → f s ≡ g s) → (o next f) ≡ (o next g)
next_same (goes told after) f g same = ap (told_before told) (same after)
next_same (stops told why) f g same = refl

before_next : {X S : Type 0} (told : List X) (o : Ending X S) (f : S → Ending X S) → told_before told (o next f) ≡ (told_before told o next f)
before_next {X = X} {S = S} told (goes more after) f = before_told (f after)
  where
    before_told : (v : Ending X S) → told_before told (told_before more v) ≡ told_before (told ++ more) v
    before_told (goes last t) = ap (λ (l : List X). goes l t) (sym (append_assoc told more last))
    before_told (stops last why) = ap (λ (l : List X). stops l why) (sym (append_assoc told more last))
before_next told (stops more why) f = refl

pub next_next : {X S : Type 0} (o : Ending X S) (f g : S → Ending X S) → (o next (λ t. f t next g)) ≡ (o next f next g)
next_next (goes told t) f g = before_next told (f t) g
next_next (stops told why) f g = refl

-- ---- a loop over a list

pub drop_one : {X : Type 0} (xs : List X) (i : ℕ) (d : X) → i < length xs → drop i xs ≡ get_or xs i d ∷ drop (i + 1) xs
drop_one xs i d h = rw (add-one, drop-cons xs i d) refl

pub pushed : {X Y : Type 0} (f : X → List Y) (so_far after : List Y) (x : X) (xs : List X) → after ≡ so_far ++ f x
    → after ++ flat_map f xs ≡ so_far ++ flat_map f (x ∷ xs)
pushed {Y = Y} f so_far after x xs e =
    ap (λ (l : List Y). l ++ flat_map f xs) e ∙ append_assoc so_far (f x) (flat_map f xs)

abbrev pub of_terminal : UeId → BearerId → UeId × BearerId
of_terminal ue bearer = (ue, bearer)

pub numbered : (ue : UeId) (before count : ℕ) → before < count
    → map (of_terminal ue) (bearer_numbers (before + 1) (count - before))
    ≡ of_terminal ue (record { 0 = before + 1 }) ∷ map (of_terminal ue) (bearer_numbers (before + 1 + 1) (count - (before + 1)))
numbered ue before count h =
    let e : count - before ≡ suc (count - (before + 1)) = omega arith in
    ap (λ (n : ℕ). map (of_terminal ue) (bearer_numbers (before + 1) n)) e

-- ---- those that aren't gone

module _ (gone : List UeId) where
  abbrev pub plan_there : UeId × Plan → List (UeId × Plan)
  plan_there e = if list_any (λ u. u.0 == e.0.0) gone then [] else e ∷ []

  pub terminals_are : (plans : List (UeId × Plan)) → flat_map (λ e. terminals_there gone e.0) plans ≡ map (λ e. e.0) (flat_map plan_there plans)
  terminals_are [] = refl
  terminals_are (e ∷ es) =
      ap (λ (l : List UeId). terminals_there gone e.0 ++ l) (terminals_are es) ∙ by (list_any (λ u. u.0 == e.0.0) gone)
    where
      by : (b : Bool) → (if b then [] else e.0 ∷ []) ++ map (λ e. e.0) (flat_map plan_there es)
          ≡ map (λ e. e.0) ((if b then [] else e ∷ []) ++ flat_map plan_there es)
      by true = refl
      by false = refl

  pub bearers_are : (plans : List (UeId × Plan))
      → flat_map (λ e. bearers_there gone e.0 e.1.bearers) plans ≡ flat_map bearers_of (flat_map plan_there plans)
  bearers_are [] = refl
  bearers_are (e ∷ es) =
      ap (λ (l : List (UeId × BearerId)). bearers_there gone e.0 e.1.bearers ++ l) (bearers_are es) ∙ by (list_any (λ u. u.0 == e.0.0) gone)
    where
      by : (b : Bool) → (if b then [] else bearers_to e.0 e.1.bearers) ++ flat_map bearers_of (flat_map plan_there es)
          ≡ flat_map bearers_of ((if b then [] else e ∷ []) ++ flat_map plan_there es)
      by true = refl
      by false = refl

-- ---- the turns of terminals

pub moves_are : (world : OctetWorld) (es : List (UeId × Plan)) (s : OctetState) → move_terminals world (map (λ e. e.0) es) s ≡ move_each world es s
moves_are world [] s = refl
moves_are world (e ∷ es) s =
    next_same (move_by world e.0 s (state_at s e.0)) (move_terminals world (map (λ e. e.0) es)) (move_each world es) (moves_are world es)
