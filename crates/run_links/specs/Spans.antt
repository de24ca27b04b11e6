-- Internal: the span of a bearer, from what links keep.
use Rattle.std.specs.Prelude.{ℕ, min, List, [], ◌∷◌, Option, Some, None}
use Rattle.gnb_types.specs.declared.names.UeId.{UeId}
use Rattle.gnb_types.specs.declared.names.BearerId.{BearerId}
use Rattle.gnb_types.specs.declared.names.Dir.TheVariants.{Dl, Ul}
use Rattle.gnb_types.specs.declared.keys.EntityKey.{EntityKey}
use Rattle.run_defs.specs.States.{Stop, outstanding, entity}
use Rattle.run_links.specs.declared.spans.Outstanding.{Outstanding}

-- the lesser of a number and a COUNT, if there is one
abbrev pub lowered : ℕ → Option ℕ → ℕ
lowered n None = n
lowered n (Some count) = min n count

abbrev pub stop_of : Option Outstanding → Option Stop
stop_of None = None
stop_of (Some o) = Some (outstanding o.key o.span o.window)

-- both directions of a bearer
abbrev pub both_of : UeId → BearerId → List EntityKey
both_of ue bearer = entity ue bearer Dl ∷ entity ue bearer Ul ∷ []

-- the first stop, or else the second
abbrev pub or_else : Option Stop → Option Stop → Option Stop
or_else None second = second
or_else (Some stop) second = Some stop
