-- The law, by induction over types.
use Rattle.std.proofs.Common.{◌≡◌, ◌↔◌, ◌⊎◌, Option, Some, None, [], refl, sym, subst, ◌∙◌, inl, inr}
use Rattle.serde_json.specs.Data.{Data}
use Rattle.aper_defs.specs.Fields.{Path}
use Rattle.aper_defs.specs.Values.{Value}
use Rattle.json_defs.specs.declared.fault.JsonFault.{JsonFault}
use Rattle.json_defs.specs.Named.{Named, NamedParts, NamedRows, NamedProcedures, NamedOutcome, boolean, integer, enumerated, bit_string, octet_string, printable_string, sequence, choice, sequence_of, container, pdu, no_parts, part, no_rows, row, no_procedures, procedure, no_outcome, outcome}
use Rattle.json_defs.specs.Bounds.{IsBounded, ArePartsBounded, AreRowsBounded, AreProceduresBounded, IsOutcomeBounded}
use Rattle.json_defs.specs.Json.{Json}
use Rattle.json_defs.specs.Readings.{value_of}
use Rattle.json_defs.specs.Demands.{demands, first_fault}
use Rattle.proof_json.proofs.values.Holding.{none_fails, all_hold, Lawful, AreLawful, AreRowsLawful, AreProceduresLawful, IsOutcomeLawful}
use Rattle.proof_json.proofs.values.Simple.{boolean_lawful, integer_lawful, enumerated_lawful, bits_lawful, octets_lawful, text_lawful}
use Rattle.proof_json.proofs.values.Sequences.{sequence_lawful}
use Rattle.proof_json.proofs.choices.Choices.{choice_lawful}
use Rattle.proof_json.proofs.lawful.Lists.{list_lawful}
use Rattle.proof_json.proofs.lawful.Containers.{container_lawful}
use Rattle.proof_json.proofs.lawful.Pdus.{pdu_lawful}

mutual
  unfolding IsBounded ArePartsBounded AreRowsBounded AreProceduresBounded IsOutcomeBounded

  pub lawful : (t : Named) → IsBounded t → Lawful t
  lawful boolean b = boolean_lawful
  lawful (integer low high extensible) b = integer_lawful low high extensible
  lawful (enumerated root additions extensible) b = enumerated_lawful root additions extensible b
  lawful (bit_string size) b = bits_lawful size
  lawful (octet_string size) b = octets_lawful size
  lawful (printable_string size) b = text_lawful size
  lawful (sequence extensible root additions) b =
      sequence_lawful root additions (parts_lawful root b.0) (parts_lawful additions b.1) extensible
  lawful (choice extensible root additions) b =
      choice_lawful extensible root additions (parts_lawful root b.1) (parts_lawful additions b.2) b.0
  lawful (sequence_of size t) b = list_lawful t (lawful t b) size
  lawful (container rows) b = container_lawful rows (rows_lawful rows b)
  lawful (pdu procedures) b = pdu_lawful procedures (procedures_lawful procedures b)

  parts_lawful : (parts : NamedParts) → ArePartsBounded parts → AreLawful parts
  parts_lawful no_parts b = tt
  parts_lawful (part name optional t others) b = (lawful t b.0, parts_lawful others b.1)

  rows_lawful : (rows : NamedRows) → AreRowsBounded rows → AreRowsLawful rows
  rows_lawful no_rows b = tt
  rows_lawful (row id mandatory t others) b = (lawful t b.0, rows_lawful others b.1)

  procedures_lawful : (rows : NamedProcedures) → AreProceduresBounded rows → AreProceduresLawful rows
  procedures_lawful no_procedures b = tt
  procedures_lawful (procedure code initiating successful unsuccessful others) b =
      (outcome_lawful initiating b.0, outcome_lawful successful b.1, outcome_lawful unsuccessful b.2, procedures_lawful others b.3)

  outcome_lawful : (o : NamedOutcome) → IsOutcomeBounded o → IsOutcomeLawful o
  outcome_lawful no_outcome b = tt
  outcome_lawful (outcome t) b = lawful t b

-- ---- the laws
pub value_read : (t : Named) (d : Data) → IsBounded t → first_fault (demands [] t d) ≡ None → Json t d (value_of t d)
value_read t d b h = (lawful t b).forth [] d (all_hold (demands [] t d) h)

pub no_fault : (t : Named) (d : Data) (v : Value) → IsBounded t → Json t d v → first_fault (demands [] t d) ≡ None
no_fault t d v b h = none_fails (demands [] t d) ((lawful t b).back [] d v h.0 h.1)

pub exact : (t : Named) (d : Data) (v : Value) → IsBounded t
    → Json t d v ↔ ((first_fault (demands [] t d) ≡ None) × (v ≡ value_of t d))
exact t d v b = (
  λ h. (no_fault t d v b h, (lawful t b).one d v h.0),
  λ h. subst (λ (w : Value). Json t d w) (sym h.1) (value_read t d b h.0),
)

pub value_or_fault : (t : Named) (d : Data) → IsBounded t
    → Json t d (value_of t d) ⊎ ((fault : JsonFault × Path) × (first_fault (demands [] t d) ≡ Some fault))
value_or_fault t d b = by_fault (first_fault (demands [] t d)) refl
  where
    by_fault : (o : Option (JsonFault × Path)) → first_fault (demands [] t d) ≡ o
        → Json t d (value_of t d) ⊎ ((fault : JsonFault × Path) × (first_fault (demands [] t d) ≡ Some fault))
    by_fault None h = inl (value_read t d b h)
    by_fault (Some fault) h = inr (fault, h)

pub not_both : (t : Named) (d : Data) (v : Value) (fault : JsonFault × Path) → IsBounded t → Json t d v
    → first_fault (demands [] t d) ≡ Some fault → ⊥
not_both t d v fault b h g = let e = sym (no_fault t d v b h) ∙ g in cc
