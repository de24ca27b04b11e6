-- The laws of JSON, of the types of a module.
use Rattle.std.proofs.Common.{◌≡◌, ◌↔◌, ◌⊎◌, Some, ℕ, None, [], subst}
use Rattle.serde_json.specs.Data.{Data}
use Rattle.asn1_syntax.specs.declared.assignments.assignment.Syntax.{Syntax}
use Rattle.asn1_defs.specs.Modules.{IsModule}
use Rattle.aper_defs.specs.Fields.{Path}
use Rattle.aper_defs.specs.Values.{Value}
use Rattle.json_defs.specs.declared.fault.JsonFault.{JsonFault}
use Rattle.aper_defs.specs.Membership.{Has}
use Rattle.aper_values.specs.types.Types.{tree}
use Rattle.json_defs.specs.Json.{Json}
use Rattle.json_defs.specs.Readings.{value_of}
use Rattle.json_defs.specs.Demands.{demands, first_fault}
use Rattle.json_defs.specs.type_defs.Types.{named}
use Rattle.proof_json.proofs.lawful.Law.{exact, value_or_fault}
use Rattle.proof_json.proofs.modules.Forgotten.{forgotten}
use Rattle.proof_json.proofs.modules.Bounded.{bounded}

pub value_of_tree : (m : Syntax) (id : ℕ) (d : Data) (v : Value) → Json (named m id) d v → Has [] (tree m id) v
value_of_tree m id d v h = subst (λ t. Has [] t v) (forgotten m id) h.1

pub exact_of_module : (m : Syntax) (id : ℕ) (d : Data) (v : Value) → IsModule m
    → Json (named m id) d v ↔ ((first_fault (demands [] (named m id) d) ≡ None) × (v ≡ value_of (named m id) d))
exact_of_module m id d v is = exact (named m id) d v (bounded m id is)

pub value_or_fault_of_module : (m : Syntax) (id : ℕ) (d : Data) → IsModule m
    → Json (named m id) d (value_of (named m id) d)
    ⊎ ((fault : JsonFault × Path) × (first_fault (demands [] (named m id) d) ≡ Some fault))
value_or_fault_of_module m id d is = value_or_fault (named m id) d (bounded m id is)
