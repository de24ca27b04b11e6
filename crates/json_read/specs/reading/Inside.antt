-- Internal: what ties the readers of JSON together.
use Rattle.std.specs.Prelude.{ℕ, ◌≤◌, List, [], ◌∷◌, length, Option, Some, None}
use Rattle.serde_json.specs.Data.{Data, Members}
use Rattle.serde_json.specs.Find.{as_array}
use Rattle.asn1_syntax.specs.declared.types.definition.TypeId.{TypeId}
use Rattle.asn1_syntax.specs.declared.types.definition.Component.{Component}
use Rattle.asn1_syntax.specs.declared.types.definition.Extensible.{Extensible}
use Rattle.asn1_syntax.specs.types.Members.{additions_of}
use Rattle.aper_defs.specs.Fields.{Path}
use Rattle.aper_defs.specs.Values.{Value, Options}
use Rattle.json_defs.specs.Named.{Named}
use Rattle.json_defs.specs.Members.{Text, items_in, member_of, value_key}
use Rattle.json_defs.specs.Readings.{value_of, raw_of, additions_in, added_in}
use Rattle.json_defs.specs.Demands.{Demand, demands, each_added, open_demands, added_demands, known_member, raw_member}
use Rattle.json_defs.specs.type_defs.Types.{parts_with}
use Rattle.json_fields.specs.declared.types.form.NamedForm.{NamedForm}
use Rattle.json_fields.specs.declared.types.form.NamedForm.TheVariants as forms

-- so many parts as a module's types have at most
abbrev pub ArePartsFew : {T : Type 0} → Extensible T → Type 0
ArePartsFew parts = (length parts.root ≤ 256) × (length (additions_of parts.additions) ≤ 64)

abbrev pub IsFormSmall : NamedForm → Type 0
IsFormSmall (forms.Enumerated names) = ArePartsFew names.now
IsFormSmall (forms.Choice members) = ArePartsFew members.now
IsFormSmall (forms.Sequence members) = Unit {0}
IsFormSmall (forms.SequenceOf size element) = Unit {0}
IsFormSmall (forms.Container rows) = Unit {0}
IsFormSmall (forms.Pdu rows) = Unit {0}
IsFormSmall forms.Boolean = Unit {0}
IsFormSmall (forms.Integer low high extensible) = Unit {0}
IsFormSmall (forms.BitString size) = Unit {0}
IsFormSmall (forms.OctetString size) = Unit {0}
IsFormSmall (forms.PrintableString size) = Unit {0}

-- the list of additions: what it demands, what open types demand later, and the additions
abbrev pub listed : (ℕ → Named) → List Component → Data → Path → List Demand
listed of parts d p = added_demands p (λ ds. each_added p (parts_with of parts) ds) d

abbrev pub opened : (ℕ → Named) → List Component → Data → Path → List Demand
opened of parts d p = open_demands p (parts_with of parts) (items_in (as_array d))

abbrev pub added : (ℕ → Named) → List Component → Data → Options
added of parts d = additions_in (λ ds. added_in (parts_with of parts) ds) (Some d)

-- what a row or a name gives a type, or octets
abbrev pub contents_demands : (ℕ → Named) → Option TypeId → Path → List Text → Members → List Demand
contents_demands of None p keys ms = raw_member p keys ms
contents_demands of (Some id) p keys ms =
    known_member p keys ms (of id.number) (demands p (of id.number) (member_of value_key ms))

abbrev pub contents_read : (ℕ → Named) → Option TypeId → Members → Value
contents_read of None ms = raw_of ms
contents_read of (Some id) ms = value_of (of id.number) (member_of value_key ms)
