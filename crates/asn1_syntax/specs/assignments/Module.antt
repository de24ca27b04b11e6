-- Which assignments are types.
use Rattle.std.specs.Prelude.{Bool, true, false}
use Rattle.asn1_syntax.specs.declared.assignments.assignment.Body.{Body}
use Rattle.asn1_syntax.specs.declared.assignments.assignment.Body.TheVariants as bodies
use Rattle.asn1_syntax.specs.declared.assignments.assignment.Assignment.{Assignment}

abbrev pub is_type_body : Body → Bool
is_type_body (bodies.Type definition) = true
is_type_body (bodies.IeSet rows) = false
is_type_body (bodies.ProcedureSet rows) = false

abbrev pub is_type : Assignment → Bool
is_type assignment = is_type_body assignment.body
