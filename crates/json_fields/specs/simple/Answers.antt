-- Internal: what a reader of JSON answers, by the demands of what it reads; the way to a fault is told from there on.
use Rattle.std.specs.Prelude.{◌≡◌, ℕ, ◌-◌, List, [], ◌++◌, length, map, true, false, Option, Some, None, Result, Ok, Err}
use Rattle.std.specs.Borrow.{Bor}
use Rattle.serde_json.specs.Data.{Data, array, item, no_items}
use Rattle.serde_json.specs.declared.value.Value.{Value}
use Rattle.serde_json.specs.View.{view, items_view}
use Rattle.asn1_syntax.specs.declared.types.definition.Extensible.{Extensible}
use Rattle.asn1_syntax.specs.types.Members.{additions_of, all_parts}
use Rattle.aper_values.specs.types.Types.{is_extensible}
use Rattle.aper_defs.specs.Fields.{Path}
use Rattle.aper_frames.specs.Paths.{step_view}
use Rattle.json_defs.specs.declared.fault.JsonFault.{JsonFault}
use Rattle.json_defs.specs.Demands.{Demand, first_fault, is_name, is_past}
use Rattle.json_defs.specs.Readings.{index_in}
use Rattle.json_fields.specs.declared.simple.refusal.Refusal.{Refusal}
use Rattle.json_fields.specs.declared.simple.refusal.Refusal.TheVariants.{Fault, Memory}

-- the first demand that fails is told, with the way to its member
abbrev pub Tells : (Path → List Demand) → Refusal → Type 0
Tells of (Fault fault path) = (p : Path) → first_fault (of p) ≡ Some (fault, map step_view path.items ++ p)
Tells of Memory = Unit {0}

-- no demand fails and this holds of what was read, or the first that fails is told
abbrev pub Reads : {X : Type 0} → (Path → List Demand) → (X → Type 0) → Result X Refusal → Type 0
Reads of P (Ok x) = ((p : Path) → first_fault (of p) ≡ None) × P x
Reads of P (Err refusal) = Tells of refusal

-- this fault, where it was asked
abbrev pub IsHere : JsonFault → Refusal → Type 0
IsHere fault (Fault told path) = (told ≡ fault) × (path.items ≡ [])
IsHere fault Memory = ⊥

-- the two of a list of two, none where it isn't one
abbrev pub IsPair : Data → Option (Bor Value × Bor Value) → Type 0
IsPair d None = (room : ℕ) → is_past room d ≡ false
IsPair d (Some both) = d ≡ array (item (view both.0.now) (item (view both.1.now) no_items))

abbrev pub AreTwo : List Value → Option (Bor Value × Bor Value) → Type 0
AreTwo vs both = IsPair (array (items_view vs)) both

-- the index that JSON shows of an ENUMERATED, none where it shows none
abbrev pub IsIndex : Extensible (List ℕ) → Data → Option ℕ → Type 0
IsIndex names d None = is_name (all_parts names) (is_extensible names) (64 - length (additions_of names.additions)) d ≡ false
IsIndex names d (Some i) = (is_name (all_parts names) (is_extensible names) (64 - length (additions_of names.additions)) d ≡ true)
    × (i ≡ index_in (all_parts names) d)
