-- Texts of JSON, as octets: which value of a type they show, or what is wrong with them.
use Rattle.std.specs.Prelude.{◌≡◌, ◌≤◌, [], List, ℕ, Some, Result, Err}
use Rattle.std.specs.Str.{IsUtf8}
use Rattle.serde_json.specs.Data.{Data, depth}
use Rattle.serde_json.specs.Read.{max_depth, read as read_text}
use Rattle.aper_defs.specs.Fields.{Path}
use Rattle.aper_defs.specs.Values as seen
use Rattle.aper_values.specs.declared.value.Value.{Value}
use Rattle.aper.specs.PathText.{path_text}
use Rattle.json_defs.specs.declared.fault.JsonFault.{JsonFault}
use Rattle.json_defs.specs.declared.fault.JsonFault.TheVariants as faults
use Rattle.json_defs.specs.Named.{Named}
use Rattle.json_defs.specs.Json.{Json}
use Rattle.json_defs.specs.Demands.{demands, first_fault}
use Rattle.values_json.specs.declared.error.JsonError.{JsonError}
use Rattle.values_json.specs.declared.error.JsonError.TheVariants.{NotJson, Shape, Range}

-- UTF-8 that `serde_json` reads as this tree
abbrev pub IsJson : List ℕ → Data → Type 0
IsJson octets d = IsUtf8 octets × (read_text octets ≡ Some d)

abbrev pub IsNoJson : List ℕ → Type 0
IsNoJson octets = (d : Data) → IsJson octets d → ⊥

-- They are read as this tree again, where it is no deeper than those that `serde_json` reads.
pub record IsReadAgain (octets : List ℕ) (d : Data) : Type 0 where
  pub again : depth d ≤ max_depth → IsJson octets d

-- JSON of a value of the type
abbrev pub IsTextOf : Named → List ℕ → seen.Value → Type 0
IsTextOf t octets v = (d : Data) × IsJson octets d × Json t d v

-- JSON of which a demand of the type fails; the first is told, with the text of the way to its member
abbrev pub HasFault : Named → List ℕ → JsonFault → List ℕ → Type 0
HasFault t octets fault path =
    (d : Data) × (way : Path) × IsJson octets d × (first_fault (demands [] t d) ≡ Some (fault, way)) × (path ≡ path_text way)

-- ---- what an answer says

abbrev pub OnNotJson : Result Value JsonError → Type 0 → Type 0
OnNotJson (Err NotJson) P = P
OnNotJson result P = Unit {0}

abbrev pub OnFault : Result Value JsonError → (JsonFault → List ℕ → Type 0) → Type 0
OnFault (Err (Shape path)) P = P faults.Shape path
OnFault (Err (Range path)) P = P faults.Range path
OnFault result P = Unit {0}
