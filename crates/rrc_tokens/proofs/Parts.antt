-- A component of a token's body, by its number.
use Rattle.std.proofs.Common.{◌≡◌, ℕ, zero, suc, ◌-◌, ◌==◌, Bool, false, cond, refl, subst, sym, arith}
use Rattle.std.proofs.lemmas.Bool.Decides.{nat_tests}
use Rattle.aper_defs.specs.Values.{Value, Options, components, no_options, absent, present}
use Rattle.message_defs.specs.Places.{or_empty}
use Rattle.message_defs.specs.Tokens.{component_in, components_in}
use Rattle.message_values.specs.Parts.{option_at, part_at}

not_first : (n : ℕ) → (suc n == 0) ≡ false
not_first n = grind (arith, nat_tests)

later : (n : ℕ) (v : Value) (vs : Options) → cond (suc n == 0) v (component_in (suc n - 1) vs) ≡ component_in n vs
later n v vs =
    let before : suc n - 1 ≡ n = omega arith in
    subst (λ (b : Bool). cond b v (component_in (suc n - 1) vs) ≡ component_in n vs) (sym (not_first n))
    (subst (λ (m : ℕ). component_in m vs ≡ component_in n vs) (sym before) refl)

at : (n : ℕ) (vs : Options) → component_in n vs ≡ or_empty (option_at n vs)
at n no_options = refl
at zero (absent vs) = refl
at zero (present v vs) = refl
at (suc n) (absent vs) = rw (later n _ vs) (at n vs)
at (suc n) (present v vs) = rw (later n v vs) (at n vs)

pub component_is : (n : ℕ) (v : Value) → component_in n (components_in v) ≡ or_empty (part_at n v)
component_is n (components vs more) = at n vs
component_is n v = refl
