-- Whether tunnels are those of the bearers 1, 2, 3 and so on, one after another.
use Rattle.std.proofs.Common.{◌≡◌, ℕ, suc, ◌+◌, ◌<◌, ◌≤◌, ◌==◌, Bool, true, false, ◌&&◌, List, ◌∷◌, drop, get_or, length, sym, ap, ◌∙◌, arith}
use Rattle.std.proofs.Math.Seq.{drop-cons}
use Rattle.std.proofs.lemmas.List.{drop_all}
use Rattle.gnb_types.specs.declared.plans.Tunnel.{Tunnel}
use Rattle.unit_defs.specs.Messages.{bearers_of, are_from}

module _ (n i : ℕ) (ts : List Tunnel) (d : Tunnel) (all : Bool) (within : i < length ts)
    (so_far : are_from n (bearers_of (drop i ts)) ≡ all) where
  split : (((get_or ts i d).bearer.0 == n) && are_from (n + 1) (bearers_of (drop (i + 1) ts))) ≡ all
  split =
      let next : suc i ≡ i + 1 = omega arith in
      let is : drop i ts ≡ get_or ts i d ∷ drop (i + 1) ts = drop-cons ts i d within ∙ ap (λ (j : ℕ). get_or ts i d ∷ drop j ts) next in
      ap (λ (xs : List Tunnel). are_from n (bearers_of xs)) (sym is) ∙ so_far

  pub first_goes : true ≡ ((get_or ts i d).bearer.0 == n) → are_from (n + 1) (bearers_of (drop (i + 1) ts)) ≡ all
  first_goes same = ap (λ (b : Bool). b && are_from (n + 1) (bearers_of (drop (i + 1) ts))) same ∙ split

  pub first_not : false ≡ ((get_or ts i d).bearer.0 == n) → false ≡ all
  first_not differs = ap (λ (b : Bool). b && are_from (n + 1) (bearers_of (drop (i + 1) ts))) differs ∙ split

pub first_ends : (n i : ℕ) (ts : List Tunnel) (all : Bool) → length ts ≤ i → are_from n (bearers_of (drop i ts)) ≡ all → true ≡ all
first_ends n i ts all past so_far = ap (λ (xs : List Tunnel). are_from n (bearers_of xs)) (sym (drop_all i ts past)) ∙ so_far
