-- JSON of which no demand of a module's type fails shows a value that the codec takes.
use Rattle.std.proofs.Common.{◌≡◌, ℕ, None, [], sym, subst}
use Rattle.serde_json.specs.Data.{Data}
use Rattle.asn1_syntax.specs.declared.assignments.assignment.Syntax.{Syntax}
use Rattle.asn1_defs.specs.Modules.{IsModule}
use Rattle.aper_defs.specs.Values.{Value}
use Rattle.aper_defs.specs.Membership.{Has}
use Rattle.aper_values.specs.types.Types.{tree}
use Rattle.json_defs.specs.Json.{Json}
use Rattle.json_defs.specs.Readings.{value_of}
use Rattle.json_defs.specs.Demands.{demands, first_fault}
use Rattle.json_defs.specs.type_defs.Types.{named}
use Rattle.proof_json.proofs.lawful.Law.{value_read}
use Rattle.proof_json.proofs.modules.Forgotten.{forgotten}
use Rattle.proof_json.proofs.modules.Bounded.{bounded}

module _ (m : Syntax) (id : ℕ) (d : Data) (is : IsModule m) (none : first_fault (demands [] (named m id) d) ≡ None) where
  pub read_json : (v : Value) → v ≡ value_of (named m id) d → Json (named m id) d v
  read_json v e = subst (λ (w : Value). Json (named m id) d w) (sym e) (value_read (named m id) d (bounded m id is) none)

  pub read_has : (v : Value) → v ≡ value_of (named m id) d → Has [] (tree m id) v
  read_has v e = subst (λ t. Has [] t v) (forgotten m id) (read_json v e).1
