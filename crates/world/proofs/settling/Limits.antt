-- How many packets of bearers aren't delivered: of a list of bearers in place of that of its entities.
use Rattle.std.proofs.Common.{◌≡◌, ℕ, ◌+◌, List, [], ◌∷◌, map, refl, ◌∙◌, ap, arith}
use Rattle.std.specs.List.{flat_map, sum}
use Rattle.std.proofs.lemmas.List.Sums.{sum_by-cons}
use Rattle.gnb_types.specs.declared.names.UeId.{UeId}
use Rattle.gnb_types.specs.declared.names.BearerId.{BearerId}
use Rattle.gnb_types.specs.declared.names.Dir.TheVariants.{Dl, Ul}
use Rattle.gnb_types.specs.declared.keys.EntityKey.{EntityKey}
use Rattle.gnb_types.specs.declared.plans.Plan.{Plan}
use Rattle.run_defs.specs.States.{entity}
use Rattle.run_defs.specs.Steps.{entities_of}
use Rattle.run_defs.specs.Settling.{bearers_of, undelivered}
use Rattle.run_links.specs.Networks.{OctetState, OctetWorld}
use Rattle.world.proofs.radios.RadioLists.{entities, entities_are}
use Rattle.world.specs.settling.Bearers.{undelivered_of}

bearers_sum : (world : OctetWorld) (s : OctetState) (es : List (UeId × BearerId))
    → undelivered_of world s es ≡ sum (map (undelivered world s) (flat_map entities es))
bearers_sum world s [] = refl
bearers_sum world s (e ∷ es) =
    let a : ℕ = undelivered world s (entity e.0 e.1 Dl) in
    let b : ℕ = undelivered world s (entity e.0 e.1 Ul) in
    let ns : List ℕ = map (undelivered world s) (flat_map entities es) in
    sum_of a b (undelivered_of world s es) (sum ns) (sum (b ∷ ns)) (sum (a ∷ b ∷ ns)) (bearers_sum world s es) (sum_by-cons (λ n. n) b ns)
    (sum_by-cons (λ n. n) a (b ∷ ns))
  where
    sum_of : (a b n m p q : ℕ) → n ≡ m → p ≡ b + m → q ≡ a + p → a + b + n ≡ q
    sum_of a b n m p q h k l = omega arith

pub packets_are : (world : OctetWorld) (s : OctetState) (plans : List (UeId × Plan))
    → undelivered_of world s (flat_map bearers_of plans) ≡ sum (map (undelivered world s) (flat_map entities_of plans))
packets_are world s plans =
    bearers_sum world s (flat_map bearers_of plans)
    ∙ ap (λ (l : List EntityKey). sum (map (undelivered world s) l)) (entities_are plans)

-- two numbers are added to one, one after another
pub both_added : (n p packets down up d u : ℕ) → n ≡ p + up → p ≡ packets + down → down ≡ d → up ≡ u → n ≡ packets + d + u
both_added n p packets down up d u h k l m = omega arith
