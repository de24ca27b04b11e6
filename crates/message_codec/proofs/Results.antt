-- What is answered, seen as something else.
use Rattle.std.proofs.Common.{◌≡◌, Result, subst}
use Rattle.std.specs.Prelude.{IfOk}

pub of_equal : {A B E : Type 0} (r : Result A E) (f : A → B) (x y : B) → x ≡ y → IfOk r (λ a. f a ≡ x) → IfOk r (λ a. f a ≡ y)
of_equal {A} {B} {E} r f x y same h = subst (λ (z : B). IfOk r (λ a. f a ≡ z)) same h
