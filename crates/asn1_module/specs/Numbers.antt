-- Internal: what a module keeps so that no name is searched for twice.
use Rattle.std.specs.Prelude.{ℕ, List, Option, Some, None, slice_get, option_map}
use Rattle.asn1_syntax.specs.declared.assignments.assignment.Body.{Body}
use Rattle.asn1_syntax.specs.declared.assignments.assignment.Assignment.{Assignment}

-- what the assignment of a number stands for
abbrev pub body_at : List Assignment → Option ℕ → Option Body
body_at assignments None = None
body_at assignments (Some number) = option_map (λ (a : Assignment). a.body) (slice_get assignments number)

-- what a function finds in a body, where there is one
abbrev pub found_in : {X : Type 0} → (Body → Option X) → Option Body → Option X
found_in f None = None
found_in f (Some body) = f body
