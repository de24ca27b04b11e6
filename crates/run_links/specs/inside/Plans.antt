-- Internal: each plan is kept under its own terminal.
use Rattle.std.specs.Prelude.{◌≡◌, List}
use Rattle.std.specs.List.{AllByRecursion}
use Rattle.gnb_types.specs.declared.names.UeId.{UeId}
use Rattle.gnb_types.specs.declared.plans.Plan.{Plan}

abbrev pub AreOwn : List (UeId × Plan) → Type 0
AreOwn plans = AllByRecursion (λ e. e.1.ue ≡ e.0) plans
