-- A choice that a test which holds doesn't change.
use Rattle.std.proofs.Common.{◌≡◌, Bool, true, false, ◌&&◌, cond, refl}

pub cond-and-true : {X : Type 0} (b : Bool) (x y : X) → cond (b && true) x y ≡ cond b x y
cond-and-true true x y = refl
cond-and-true false x y = refl

pub over_where : (b : Bool) → b && true ≡ b
over_where true = refl
over_where false = refl
