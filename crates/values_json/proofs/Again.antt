-- A printed text that is read as its tree again shows the value that was printed.
use Rattle.std.proofs.Common.{ℕ, List, []}
use Rattle.asn1_syntax.specs.declared.assignments.assignment.Syntax.{Syntax}
use Rattle.asn1_defs.specs.Modules.{IsModule}
use Rattle.aper_defs.specs.Values.{Value}
use Rattle.aper_defs.specs.Membership.{Has}
use Rattle.aper_values.specs.types.Types.{tree}
use Rattle.proof_json.proofs.again.Law.{shown, readable}
use Rattle.json_defs.specs.shown_defs.Printed.{shown_as}
use Rattle.json_defs.specs.type_defs.Types.{named}
use Rattle.values_json.specs.Texts.{IsReadAgain, IsTextOf}

pub text_again : (m : Syntax) (id : ℕ) (v : Value) (text : List ℕ) → IsModule m → Has [] (tree m id) v
    → IsReadAgain text (shown_as (named m id) v) → IsTextOf (named m id) text v
text_again m id v text is h again = (shown_as (named m id) v, again.again (readable m id v is), shown m id v is h)
