-- JSON of a type, with the value that it shows or the fault that is told of it.
use Rattle.std.specs.Prelude.{ℕ, List, [], ◌∷◌, Bool, Option, Some, None}
use Rattle.asn1_syntax.specs.declared.types.definition.Size.{Size}
use Rattle.serde_json.specs.Data.{Data}
use Rattle.aper_defs.specs.Fields.{Path}
use Rattle.aper_defs.specs.Values.{Value}
use Rattle.json_defs.specs.declared.fault.JsonFault.{JsonFault}
use Rattle.json_defs.specs.Named.{Named}
use Rattle.json_defs.specs.Json.{Json}
use Rattle.json_defs.specs.Readings.{value_of}
use Rattle.json_defs.specs.Demands.{demands, first_fault}

pub record ShownRow : Type 0 where
  pub t : Named
  pub json : Data
  pub v : Value

pub record FaultRow : Type 0 where
  pub t : Named
  pub json : Data
  pub fault : JsonFault
  pub path : Path

abbrev pub shows : Named → Data → Value → ShownRow
shows t json v = record { t = t; json = json; v = v }

abbrev pub fails : Named → Data → JsonFault → Path → FaultRow
fails t json fault path = record { t = t; json = json; fault = fault; path = path }

abbrev pub size : ℕ → ℕ → Bool → Size
size low high extensible = record { low = low; high = high; extensible = extensible }

abbrev pub AreShown : List ShownRow → Type 0
AreShown [] = Unit {0}
AreShown (r ∷ rows) = Json r.t r.json r.v × AreShown rows

-- the value that is read, where no demand fails
abbrev pub value_unless : Option (JsonFault × Path) → Value → Option Value
value_unless None v = Some v
value_unless (Some fault) v = None

abbrev pub read_value : ShownRow → Option Value
read_value r = value_unless (first_fault (demands [] r.t r.json)) (value_of r.t r.json)

abbrev pub told_value : ShownRow → Option Value
told_value r = Some r.v

abbrev pub found_fault : FaultRow → Option (JsonFault × Path)
found_fault r = first_fault (demands [] r.t r.json)

abbrev pub told_fault : FaultRow → Option (JsonFault × Path)
told_fault r = Some (r.fault, r.path)
