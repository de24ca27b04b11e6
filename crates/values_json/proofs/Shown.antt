-- What JSON of a module's type shows is a value that the codec takes.
use Rattle.std.proofs.Common.{ℕ, List, [], subst}
use Rattle.asn1_syntax.specs.declared.assignments.assignment.Syntax.{Syntax}
use Rattle.aper_defs.specs.Values.{Value}
use Rattle.aper_defs.specs.Membership.{Has}
use Rattle.aper_values.specs.types.Types.{tree}
use Rattle.json_defs.specs.type_defs.Types.{named}
use Rattle.proof_json.proofs.modules.Forgotten.{forgotten}
use Rattle.values_json.specs.Texts.{IsTextOf}

pub shown_has : (m : Syntax) (id : ℕ) (octets : List ℕ) (v : Value) → IsTextOf (named m id) octets v → Has [] (tree m id) v
shown_has m id octets v h = subst (λ t. Has [] t v) (forgotten m id) h.2.1
