-- What may still be asked of a bearer of a released context: what comes is taken, and passed on, until it ends.
use Rattle.std.specs.Prelude.{List}
use Rattle.std.specs.List.{AllByRecursion}
use Rattle.proof_cu_up_orders.specs.context_orders.Orders.{ContextStep, makes, adds, switches, freezes, resumes}

abbrev pub Passes : {P : Type 0} → ContextStep P → Type 0
Passes (makes instance sn quota target teid) = ⊥
Passes (adds teid) = ⊥
Passes (switches du teid) = ⊥
Passes (freezes peer down up) = ⊥
Passes resumes = ⊥
Passes order = Unit {0}

abbrev pub AllPass : {P : Type 0} → List (ContextStep P) → Type 0
AllPass orders = AllByRecursion Passes orders
