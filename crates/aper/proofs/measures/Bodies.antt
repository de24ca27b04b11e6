-- Bodies of information elements and messages, and alternatives, by what their rows give.
use Rattle.std.proofs.Common.{◌≡◌, ℕ, zero, suc, ◌-◌, ◌<◌, ◌≤◌, ◌==◌, cond, Bool, true, false, List, [], ◌∷◌, ◌++◌, length, get_or, Option, Some, None, sym, subst, arith}
use Rattle.std.specs.Prelude.{nat_lt}
use Rattle.bits_core.specs.Bits.{pad_of}
use Rattle.asn1_syntax.specs.declared.types.definition.TypeId.{TypeId}
use Rattle.asn1_syntax.specs.declared.types.definition.Component.{Component}
use Rattle.asn1_syntax.specs.declared.assignments.assignment.IeRow.{IeRow}
use Rattle.asn1_syntax.specs.declared.assignments.assignment.ProcedureRow.{ProcedureRow}
use Rattle.aper_defs.specs.Trees.{Tree, Procedures, choice, pdu}
use Rattle.aper_defs.specs.Values.{Value, chosen, message}
use Rattle.aper_defs.specs.Fields.{Path, Field, asked, flag, small}
use Rattle.aper_defs.specs.Fields as fields
use Rattle.aper_defs.specs.Bits.{open_fields}
use Rattle.aper_defs.specs.Parts.{index_fields}
use Rattle.aper_defs.specs.Layouts.{layout, raw_fields, alternative_fields, added_fields, row_fields, body_fields, outcome_fields, message_head}
use Rattle.aper_defs.specs.Membership.{Has, HasAlternative, HasAdded, HasRow, HasBody, HasOutcome, FitsOpen, IsRaw, Either, is_index_of}
use Rattle.proof_aper.proofs.answers.NumberFacts.{by_cases, is_below, is_not_below}
use Rattle.aper_values.specs.types.Types.{parts_of, rows_of, outcome_of, procedures_of}
use Rattle.aper_fields.specs.widths.Ends.{passed, Ends}
use Rattle.aper_fields.specs.members.Rows.{row_type, outcome_type, message_type}
use Rattle.aper_fields.proofs.members.ChoiceLemmas.{parts_count}
use Rattle.aper.specs.measuring.Measured.{Measured, ValueMeasured, RawMeasured, InsideMeasured}
use Rattle.aper.proofs.measuring.HeadLemmas.{head_end, past_end}
use Rattle.aper.proofs.measures.Turns.{both_measured, value_at, open_at, raw_at}

module _ (of : ℕ → Tree) where
  -- ---- the body of an information element
  pub row_measured : (id : ℕ) (rows : List IeRow) (v : Value) (old : ℕ) (r : Option ℕ) → InsideMeasured of (row_type id rows) v old r
      → Measured (λ p. HasRow p (rows_of of rows) id v) (λ p. row_fields p (rows_of of rows) id v) old r
  unfolding row_type HasRow row_fields
  row_measured id [] v old r h = raw_at (λ p. fields.element id ∷ p) v old r h
  row_measured id (row ∷ rows) v old r h =
      let t = of row.definition.number in
      by_cases (row.id == id) (λ b. InsideMeasured of (cond b (Some row.definition) (row_type id rows)) v old r
      → Measured (λ p. Either b (Has (fields.element id ∷ p) t v × FitsOpen (fields.element id ∷ p) (layout (fields.element id ∷ p) t v))
      (HasRow p (rows_of of rows) id v))
      (λ p. cond b (open_fields p (fields.element id ∷ p) (layout (fields.element id ∷ p) t v)) (row_fields p (rows_of of rows) id v)) old r)
      (λ e k. open_at (λ p. fields.element id ∷ p) t v old r k)
      (λ e k. row_measured id rows v old r k) h

  -- ---- the body of a message
  outcome_measured : (index : ℕ) (x : Option TypeId) (v : Value) (old : ℕ) (r : Option ℕ) → InsideMeasured of x v old r
      → Measured (λ p. HasOutcome p index (outcome_of of x) v) (λ p. outcome_fields p index (outcome_of of x) v) old r
  unfolding HasOutcome outcome_fields
  outcome_measured index None v old r h = raw_at (λ p. fields.outcome index ∷ p) v old r h
  outcome_measured index (Some t) v old r h = open_at (λ p. fields.outcome index ∷ p) (of t.number) v old r h

  abbrev has_outcome : ℕ → Value → Option TypeId → Path → Type 0
  has_outcome index v x p = HasOutcome p index (outcome_of of x) v

  abbrev fields_of : ℕ → Value → Option TypeId → Path → List Field
  fields_of index v x p = outcome_fields p index (outcome_of of x) v

  procedure_measured : (index : ℕ) (row : ProcedureRow) (v : Value) (old : ℕ) (r : Option ℕ) → InsideMeasured of (outcome_type index row) v old r
      → Measured (λ p. Either (index == 0) (has_outcome index v (Some row.initiating) p)
      (Either (index == 1) (has_outcome index v row.successful p) (has_outcome index v row.unsuccessful p)))
      (λ p. cond (index == 0) (fields_of index v (Some row.initiating) p)
      (cond (index == 1) (fields_of index v row.successful p) (fields_of index v row.unsuccessful p))) old r
  procedure_measured index row v old r h =
      by_cases (index == 0) (λ b. InsideMeasured of (cond b (Some row.initiating) (cond (index == 1) row.successful row.unsuccessful)) v old r
      → Measured (λ p. Either b (has_outcome index v (Some row.initiating) p)
      (Either (index == 1) (has_outcome index v row.successful p) (has_outcome index v row.unsuccessful p)))
      (λ p. cond b (fields_of index v (Some row.initiating) p)
      (cond (index == 1) (fields_of index v row.successful p) (fields_of index v row.unsuccessful p))) old r)
      (λ e k. outcome_measured index (Some row.initiating) v old r k)
      (λ e k. by_cases (index == 1) (λ b. InsideMeasured of (cond b row.successful row.unsuccessful) v old r
      → Measured (λ p. Either b (has_outcome index v row.successful p) (has_outcome index v row.unsuccessful p))
      (λ p. cond b (fields_of index v row.successful p) (fields_of index v row.unsuccessful p)) old r)
      (λ f n. outcome_measured index row.successful v old r n)
      (λ f n. outcome_measured index row.unsuccessful v old r n) k) h

  pub body_measured : (index code : ℕ) (rows : List ProcedureRow) (v : Value) (old : ℕ) (r : Option ℕ)
      → InsideMeasured of (message_type index code rows) v old r
      → Measured (λ p. HasBody p (procedures_of of rows) index code v) (λ p. body_fields p (procedures_of of rows) index code v) old r
  unfolding message_type HasBody body_fields HasOutcome outcome_fields
  body_measured index code [] v old r h = raw_at (λ p. fields.outcome index ∷ p) v old r h
  body_measured index code (row ∷ rows) v old r h =
      by_cases (row.code == code) (λ b. InsideMeasured of (cond b (outcome_type index row) (message_type index code rows)) v old r
      → Measured (λ p. Either b (Either (index == 0) (has_outcome index v (Some row.initiating) p)
      (Either (index == 1) (has_outcome index v row.successful p) (has_outcome index v row.unsuccessful p)))
      (HasBody p (procedures_of of rows) index code v))
      (λ p. cond b (cond (index == 0) (fields_of index v (Some row.initiating) p)
      (cond (index == 1) (fields_of index v row.successful p) (fields_of index v row.unsuccessful p)))
      (body_fields p (procedures_of of rows) index code v)) old r)
      (λ e k. procedure_measured index row v old r k)
      (λ e k. body_measured index code rows v old r k) h

  -- ---- alternatives
  pub root_measured : (parts : List Component) (i : ℕ) (c : Component) (v : Value) (old : ℕ) (r : Option ℕ) → i < length parts
      → c ≡ get_or parts i c → ValueMeasured (of c.definition.number) v old r
      → Measured (λ p. HasAlternative p (parts_of of parts) i v) (λ p. alternative_fields p (parts_of of parts) i v) old r
  unfolding HasAlternative alternative_fields
  root_measured [] i c v old r less is h = absurd (omega arith)
  root_measured (x ∷ parts) zero c v old r less is h =
      value_at (λ p. fields.component x.name ∷ p) (of x.definition.number) v old r
      (subst (λ (y : Component). ValueMeasured (of y.definition.number) v old r) is h)
  root_measured (x ∷ parts) (suc i) c v old r less is h = root_measured parts i c v old r (omega arith) is h

  module _ (e : Bool) (root additions : List Component) (i : ℕ) (v : Value) where
    abbrev type : Tree
    type = choice e (parts_of of root) (parts_of of additions)

    pub index_wrong : (old : ℕ) → is_index_of (length root) e i ≡ false → ValueMeasured type (chosen i v) old None
    unfolding Has
    index_wrong old none p h =
        let is : is_index_of (length root) e i ≡ true = subst (λ (n : ℕ). is_index_of n e i ≡ true) (parts_count of root) h.0 in
        let both : ⊥ = cc in both

    choice_measured : (old mid : ℕ) (r : Option ℕ) (b : Bool) → nat_lt i (length root) ≡ b → is_index_of (length root) e i ≡ true
        → Ends old mid (λ p. index_fields p (length root) e i)
        → Measured (λ p. Either b (HasAlternative p (parts_of of root) i v) (HasAdded p (parts_of of additions) (i - length root) v))
        (λ p. cond b (alternative_fields p (parts_of of root) i v) (added_fields p (parts_of of additions) (i - length root) v)) mid r
        → ValueMeasured type (chosen i v) old r
    unfolding Has layout
    choice_measured old mid r b test is_one ends body =
        subst (λ (n : ℕ). Measured (λ p. (is_index_of n e i ≡ true)
        × Either (nat_lt i n) (HasAlternative p (parts_of of root) i v) (HasAdded p (parts_of of additions) (i - n) v))
        (λ p. index_fields p n e i
        ++ cond (nat_lt i n) (alternative_fields p (parts_of of root) i v) (added_fields p (parts_of of additions) (i - n) v)) old r)
        (sym (parts_count of root))
        (both_measured (λ p. is_index_of (length root) e i ≡ true)
        (λ p. Either (nat_lt i (length root)) (HasAlternative p (parts_of of root) i v) (HasAdded p (parts_of of additions) (i - length root) v))
        (λ p. index_fields p (length root) e i)
        (λ p. cond (nat_lt i (length root)) (alternative_fields p (parts_of of root) i v) (added_fields p (parts_of of additions) (i - length root) v))
        old mid r (λ p. is_one, ends)
        (subst (λ c. Measured (λ p. Either c (HasAlternative p (parts_of of root) i v) (HasAdded p (parts_of of additions) (i - length root) v))
        (λ p. cond c (alternative_fields p (parts_of of root) i v) (added_fields p (parts_of of additions) (i - length root) v)) mid r)
        (sym test) body))

    pub root_chosen : (old mid : ℕ) (r : Option ℕ) (c : Component) → i < length root → c ≡ get_or root i c → is_index_of (length root) e i ≡ true
        → Ends old mid (λ p. index_fields p (length root) e i) → ValueMeasured (of c.definition.number) v mid r
        → ValueMeasured type (chosen i v) old r
    root_chosen old mid r c less is is_one ends body =
        choice_measured old mid r true (is_below i (length root) less) is_one ends (root_measured root i c v mid r less is body)

    pub added_chosen : (old mid : ℕ) (r : Option ℕ) → length root ≤ i → is_index_of (length root) e i ≡ true
        → Ends old mid (λ p. index_fields p (length root) e i)
        → Measured (λ p. HasAdded p (parts_of of additions) (i - length root) v) (λ p. added_fields p (parts_of of additions) (i - length root) v) mid r
        → ValueMeasured type (chosen i v) old r
    added_chosen old mid r past is_one ends body =
        choice_measured old mid r false (is_not_below i (length root) past) is_one ends body

-- ---- messages
module _ (procedures : Procedures) (index code criticality : ℕ) (v : Value) where
  abbrev known_has : Path → Type 0
  known_has p = (code < 256) × (criticality ≤ 2) × HasBody p procedures index code v

  abbrev past_has : Type 0
  past_has = (index < 67) × (code ≡ 0) × (criticality ≡ 0) × IsRaw v

  abbrev known_fields : Path → List Field
  known_fields p = message_head p index code criticality ++ body_fields p procedures index code v

  abbrev past_fields : Path → List Field
  past_fields p = (asked p flag 1 ∷ asked p (small fields.index) (index - 3) ∷ []) ++ raw_fields p p v

  chosen_measured : (old : ℕ) (r : Option ℕ) (b : Bool) → nat_lt index 3 ≡ b
      → Measured (λ p. Either b (known_has p) past_has) (λ p. cond b (known_fields p) (past_fields p)) old r
      → ValueMeasured (pdu procedures) (message index code criticality v) old r
  unfolding Has layout
  chosen_measured old r b test h =
      subst (λ c. Measured (λ p. Either c (known_has p) past_has) (λ p. cond c (known_fields p) (past_fields p)) old r) (sym test) h

  known_both : (old : ℕ) (r : Option ℕ) → code < 256 → criticality ≤ 2
      → Measured (λ p. HasBody p procedures index code v) (λ p. body_fields p procedures index code v)
      (passed (passed (passed old 3) (pad_of (passed old 3))) 10) r
      → Measured known_has known_fields old r
  known_both old None one two h = λ p k. h p k.2
  known_both old (Some new) one two h = (
    λ p. (one, two, h.0 p),
    (both_measured (λ p. Unit {0}) (λ p. HasBody p procedures index code v) (λ p. message_head p index code criticality)
        (λ p. body_fields p procedures index code v) old (passed (passed (passed old 3) (pad_of (passed old 3))) 10) (Some new)
        (λ p. tt, head_end old index code criticality) h).1,
  )

  pub known_measured : (old : ℕ) (r : Option ℕ) → index < 3 → code < 256 → criticality ≤ 2
      → Measured (λ p. HasBody p procedures index code v) (λ p. body_fields p procedures index code v)
      (passed (passed (passed old 3) (pad_of (passed old 3))) 10) r
      → ValueMeasured (pdu procedures) (message index code criticality v) old r
  known_measured old r few one two h = chosen_measured old r true (is_below index 3 few) (known_both old r one two h)

  past_both : (old : ℕ) (r : Option ℕ) → index < 67 → code ≡ 0 → criticality ≡ 0 → RawMeasured v (passed old 8) r
      → Measured (λ p. past_has) past_fields old r
  past_both old None one two three h = λ p k. h k.3
  past_both old (Some new) one two three h = (
    λ p. (one, two, three, h.0),
    (both_measured (λ p. Unit {0}) (λ p. IsRaw v) (λ p. asked p flag 1 ∷ asked p (small fields.index) (index - 3) ∷ []) (λ p. raw_fields p p v)
        old (passed old 8) (Some new) (λ p. tt, past_end old (index - 3)) (raw_at (λ p. p) v (passed old 8) (Some new) h)).1,
  )

  pub past_measured : (old : ℕ) (r : Option ℕ) → 3 ≤ index → index < 67 → code ≡ 0 → criticality ≡ 0 → RawMeasured v (passed old 8) r
      → ValueMeasured (pdu procedures) (message index code criticality v) old r
  past_measured old r many one two three h = chosen_measured old r false (is_not_below index 3 many) (past_both old r one two three h)

  -- heads that no message has
  pub criticality_wrong : (old : ℕ) → index < 3 → 2 < criticality → ValueMeasured (pdu procedures) (message index code criticality v) old None
  criticality_wrong old few many = chosen_measured old None true (is_below index 3 few) (λ p k. absurd (omega (arith, k.1, many)))

  pub past_wrong : (old : ℕ) → 3 ≤ index → ((index < 67) → (code ≡ 0) → (criticality ≡ 0) → ⊥)
      → ValueMeasured (pdu procedures) (message index code criticality v) old None
  past_wrong old many h = chosen_measured old None false (is_not_below index 3 many) (λ p k. h k.0 k.1 k.2)
