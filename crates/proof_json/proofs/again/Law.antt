-- What is printed of a value of a module's type is read again as that value.
use Rattle.std.proofs.Common.{◌≡◌, ℕ, ◌≤◌, None, [], sym, subst, arith}
use Rattle.serde_json.specs.Data.{depth}
use Rattle.serde_json.specs.Read.{max_depth}
use Rattle.asn1_syntax.specs.declared.assignments.assignment.Syntax.{Syntax}
use Rattle.asn1_defs.specs.Modules.{IsModule}
use Rattle.aper_defs.specs.Values.{Value}
use Rattle.aper_defs.specs.Membership.{Has}
use Rattle.aper_values.specs.types.Types.{tree}
use Rattle.json_defs.specs.Named.{tree_of}
use Rattle.json_defs.specs.Json.{Json}
use Rattle.json_defs.specs.Readings.{value_of}
use Rattle.json_defs.specs.Demands.{demands, first_fault}
use Rattle.json_defs.specs.shown_defs.Printed.{shown_as}
use Rattle.json_defs.specs.type_defs.Types.{named}
use Rattle.proof_json.proofs.shown.Law.{printed_is, read_again}
use Rattle.proof_json.proofs.again.Depth.{never_too_deep, printed_depth}
use Rattle.proof_json.proofs.modules.Forgotten.{forgotten}
use Rattle.proof_json.proofs.modules.Bounded.{bounded}
use Rattle.proof_json.proofs.again.Apart.{apart}
use Rattle.proof_json.proofs.again.Nesting.{low}

has : (m : Syntax) (id : ℕ) (v : Value) → Has [] (tree m id) v → Has [] (tree_of (named m id)) v
has m id v h = subst (λ t. Has [] t v) (sym (forgotten m id)) h

pub shown : (m : Syntax) (id : ℕ) (v : Value) → IsModule m → Has [] (tree m id) v → Json (named m id) (shown_as (named m id) v) v
shown m id v is h = printed_is (named m id) v (apart m id is) (has m id v h)

pub again : (m : Syntax) (id : ℕ) (v : Value) → IsModule m → Has [] (tree m id) v
    → (first_fault (demands [] (named m id) (shown_as (named m id) v)) ≡ None) × (value_of (named m id) (shown_as (named m id) v) ≡ v)
again m id v is h = read_again (named m id) v (apart m id is) (bounded m id is) (has m id v h)

pub shallow : (m : Syntax) (id : ℕ) (v : Value) → IsModule m → depth (shown_as (named m id) v) ≤ 121
shallow m id v is = omega (arith, printed_depth (named m id) v, low m id is)

pub readable : (m : Syntax) (id : ℕ) (v : Value) → IsModule m → depth (shown_as (named m id) v) ≤ max_depth
readable m id v is = never_too_deep (named m id) v (omega (arith, low m id is))
