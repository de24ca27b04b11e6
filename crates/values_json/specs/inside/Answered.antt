-- What each step from a text to a value gives.
use Rattle.std.specs.Prelude.{◌≡◌, List, [], ℕ, Some, None, Result, Ok, Err}
use Rattle.serde_json.specs.declared.value.Value.{Value as Json}
use Rattle.serde_json.specs.View.{view as json}
use Rattle.aper_defs.specs.Fields.{Path}
use Rattle.aper_defs.specs.Values as seen
use Rattle.aper_values.specs.declared.value.Value.{Value}
use Rattle.aper_values.specs.Views.{view}
use Rattle.aper.specs.PathText.{path_text}
use Rattle.json_defs.specs.declared.fault.JsonFault.{JsonFault}
use Rattle.json_defs.specs.declared.fault.JsonFault.TheVariants as faults
use Rattle.json_defs.specs.Demands.{Demand, first_fault}
use Rattle.values_json.specs.declared.error.JsonError.{JsonError}
use Rattle.values_json.specs.declared.error.JsonError.TheVariants.{NotJson, Shape, Range, Memory}
use Rattle.values_json.specs.Texts.{IsJson, IsNoJson}

abbrev pub IsTreeOf : List ℕ → Result Json JsonError → Type 0
IsTreeOf text (Ok d) = IsJson text (json d)
IsTreeOf text (Err NotJson) = IsNoJson text
IsTreeOf text (Err Memory) = Unit {0}
IsTreeOf text (Err (Shape path)) = ⊥
IsTreeOf text (Err (Range path)) = ⊥

-- the first of these demands that fails, from the whole value on
abbrev pub IsFirst : (Path → List Demand) → JsonFault → List ℕ → Type 0
IsFirst of fault path = (way : Path) × (first_fault (of []) ≡ Some (fault, way)) × (path ≡ path_text way)

abbrev pub IsRefusedAs : (Path → List Demand) → JsonError → Type 0
IsRefusedAs of NotJson = ⊥
IsRefusedAs of (Shape path) = IsFirst of faults.Shape path
IsRefusedAs of (Range path) = IsFirst of faults.Range path
IsRefusedAs of Memory = Unit {0}

abbrev pub IsAnswered : (Path → List Demand) → seen.Value → Result Value JsonError → Type 0
IsAnswered of v (Ok x) = (first_fault (of []) ≡ None) × (view x ≡ v)
IsAnswered of v (Err error) = IsRefusedAs of error
