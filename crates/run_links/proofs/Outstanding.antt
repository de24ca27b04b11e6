-- The first bearer and direction that is outstanding, of a list and of another one after it.
use Rattle.std.proofs.Common.{◌≡◌, ℕ, ◌+◌, ◌-◌, ◌<◌, suc, Bool, true, false, if◌then◌else◌, nat_lt, List, [], ◌∷◌, ◌++◌, Option, Some, refl, ◌∙◌, ap, arith}
use Rattle.std.specs.List.{flat_map}
use Rattle.gnb_types.specs.declared.names.UeId.{UeId}
use Rattle.gnb_types.specs.declared.plans.Plan.{Plan}
use Rattle.gnb_types.specs.declared.keys.EntityKey.{EntityKey}
use Rattle.pdcp.specs.Numbers.{half}
use Rattle.run_defs.specs.States.{Stop, outstanding, sn_of}
use Rattle.run_defs.specs.Steps.{span, first_outstanding, bearer_numbers, entities_of}
use Rattle.run_links.specs.Networks.{OctetState}
use Rattle.run_links.specs.Spans.{both_of, or_else}

pub or_else-after : (b : Bool) (x : Stop) (first second : Option Stop)
    → (if b then Some x else or_else first second) ≡ or_else (if b then Some x else first) second
or_else-after true x first second = refl
or_else-after false x first second = refl

pub first_append : (s : OctetState) (xs ys : List EntityKey)
    → first_outstanding s (xs ++ ys) ≡ or_else (first_outstanding s xs) (first_outstanding s ys)
first_append s [] ys = refl
first_append s (k ∷ ks) ys =
    let window : ℕ = half (sn_of s k.ue) in
    let far : Bool = nat_lt window (span s k) in
    let stop : Stop = outstanding k (span s k) window in
    ap (λ (o : Option Stop). if far then Some stop else o) (first_append s ks ys)
    ∙ or_else-after far stop (first_outstanding s ks) (first_outstanding s ys)

pub first_cons : (s : OctetState) (k : EntityKey) (ks : List EntityKey)
    → first_outstanding s (k ∷ ks) ≡ or_else (first_outstanding s (k ∷ [])) (first_outstanding s ks)
first_cons s k ks = first_append s (k ∷ []) ks

pub first_bearer : (s : OctetState) (ue : UeId) (k n : ℕ) → k < n
    → first_outstanding s (flat_map (both_of ue) (bearer_numbers (k + 1) (n - k)))
    ≡ or_else (first_outstanding s (both_of ue (record { 0 = k + 1 })))
    (first_outstanding s (flat_map (both_of ue) (bearer_numbers (k + 1 + 1) (n - (k + 1)))))
first_bearer s ue k n h =
    let e : n - k ≡ suc (n - (k + 1)) = omega arith in
    rw e (first_append s (both_of ue (record { 0 = k + 1 })) (flat_map (both_of ue) (bearer_numbers (k + 1 + 1) (n - (k + 1)))))

pub first_entry_of : (s : OctetState) (e : UeId × Plan) (es : List (UeId × Plan))
    → first_outstanding s (flat_map entities_of (e ∷ es))
    ≡ or_else (first_outstanding s (entities_of e)) (first_outstanding s (flat_map entities_of es))
first_entry_of s e es = first_append s (entities_of e) (flat_map entities_of es)
