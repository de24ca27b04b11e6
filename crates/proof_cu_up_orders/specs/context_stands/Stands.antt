-- What is always so of a bearer of a CU-UP: it has a hop exactly while it is frozen, and its context has its SN status then, and its
-- terminal came to it. That a released context is frozen isn't the unit's own: it is assumed of control.
use Rattle.std.specs.Prelude.{◌≡◌, ℕ, true, Option, Some, None, is_some}
use Rattle.unit_defs.specs.Ways.{Answer, gives, spent}
use Rattle.proof_cu_up_orders.specs.context_orders.Orders.{CuUpModel}

pub record Stands (p : CuUpModel) : Type 0 where
  pub hop : is_some p.bearer.hop ≡ p.at.flags.frozen
  pub status : p.at.flags.frozen ≡ true → p.at.flags.may_serve ≡ true
  pub arrived : p.at.flags.frozen ≡ true → p.at.flags.arrived ≡ true

abbrev pub StandsIn : Option CuUpModel → Type 0
StandsIn None = Unit {0}
StandsIn (Some p) = Stands p

abbrev pub StandsAfter : {M P : Type 0} → Answer M P (Option CuUpModel) → Type 0
StandsAfter (gives outputs p) = StandsIn p
StandsAfter (spent counter) = Unit {0}

-- it is of the same context before and after; where there was none before, of one whose instance is this
abbrev pub IsSame : ℕ → Option CuUpModel → Option CuUpModel → Type 0
IsSame next None None = Unit {0}
IsSame next None (Some q) = q.instance ≡ next
IsSame next (Some p) None = Unit {0}
IsSame next (Some p) (Some q) = q.instance ≡ p.instance

abbrev pub SameAfter : {M P : Type 0} → ℕ → Option CuUpModel → Answer M P (Option CuUpModel) → Type 0
SameAfter next p (gives outputs q) = IsSame next p q
SameAfter next p (spent counter) = Unit {0}
