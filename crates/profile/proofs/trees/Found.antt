-- Each type of the profile has its name in a module that agrees, and is written there as the profile has it.
use Rattle.std.proofs.Common.{◌≡◌, ℕ, zero, suc, List, [], ◌∷◌, Bool, true, false, cond, refl, subst}
use Rattle.std.specs.Prelude.{Option, Some, None, slice_get}
use Rattle.proof_aper.proofs.answers.NumberFacts.{by_cases}
use Rattle.asn1_syntax.specs.declared.assignments.assignment.Syntax.{Syntax}
use Rattle.message_defs.specs.profile_defs.Forms.{Form, name_of}
use Rattle.message_defs.specs.profile_defs.Agreement.{has_type, goes_before, placed, by_name, first_wrong, first_further, or_else, Agrees}

module _ (m : Syntax) where
  split : (b : Bool) (x : Option (List ℕ)) (name : List ℕ) → cond b x (Some name) ≡ None → (b ≡ true) × (x ≡ None)
  split true x name h = (refl, h)
  split false x name h = cc

  join : (b : Bool) (x : Option (List ℕ)) (name : List ℕ) → b ≡ true → x ≡ None → cond b x (Some name) ≡ None
  join true x name h k = k
  join false x name h k = cc

  none_placed : (t : Form) (ts : List Form) → first_wrong m (placed t ts) ≡ None → (has_type m t ≡ true) × (first_wrong m ts ≡ None)
  none_placed t [] h = split (has_type m t) None (name_of t) h
  none_placed t (u ∷ ts) h =
      by_cases (goes_before (name_of t) (name_of u))
      (λ b. first_wrong m (cond b (t ∷ u ∷ ts) (u ∷ placed t ts)) ≡ None → (has_type m t ≡ true) × (first_wrong m (u ∷ ts) ≡ None))
      (λ _ g. split (has_type m t) (first_wrong m (u ∷ ts)) (name_of t) g)
      (λ _ g.
      let here = split (has_type m u) (first_wrong m (placed t ts)) (name_of u) g in
      let later = none_placed t ts here.1 in
      (later.0, join (has_type m u) (first_wrong m ts) (name_of u) here.0 later.1)) h

  each_there : (ts : List Form) → first_wrong m (by_name ts) ≡ None → (n : ℕ) (t : Form) → slice_get ts n ≡ Some t → has_type m t ≡ true
  each_there [] h n t e = cc
  each_there (u ∷ ts) h zero t e =
      let same : u ≡ t = cc in
      subst (λ v. has_type m v ≡ true) same (none_placed u (by_name ts) h).0
  each_there (u ∷ ts) h (suc n) t e = each_there ts (none_placed u (by_name ts) h).1 n t e

  first_none : (a b : Option (List ℕ)) → or_else a b ≡ None → a ≡ None
  first_none None b h = refl
  first_none (Some name) b h = cc

  pub found : (ts : List Form) → Agrees ts m → (n : ℕ) (t : Form) → slice_get ts n ≡ Some t → has_type m t ≡ true
  found ts h = each_there ts (first_none (first_wrong m (by_name ts)) (first_further ts m.assignments) h)
