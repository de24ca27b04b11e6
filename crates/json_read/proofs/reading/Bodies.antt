-- What rows of sets and of procedures give.
use Rattle.std.proofs.Common.{◌≡◌, ℕ, ◌==◌, List, [], ◌∷◌, cond, Option, Some, None, refl}
use Rattle.serde_json.specs.Data.{Members}
use Rattle.asn1_syntax.specs.declared.types.definition.TypeId.{TypeId}
use Rattle.asn1_syntax.specs.declared.assignments.assignment.IeRow.{IeRow}
use Rattle.asn1_syntax.specs.declared.assignments.assignment.ProcedureRow.{ProcedureRow}
use Rattle.aper_defs.specs.Fields.{Path}
use Rattle.aper_fields.specs.members.Rows.{row_type, outcome_type, message_type}
use Rattle.json_defs.specs.Named.{Named}
use Rattle.json_defs.specs.Members.{value_key, member_of}
use Rattle.json_defs.specs.Shown.{element_keys, body_keys}
use Rattle.json_defs.specs.Readings.{value_of, row_in, body_in, told_in}
use Rattle.json_defs.specs.Demands.{demands, known_member, row_demands, body_demands, outcome_demands}
use Rattle.json_defs.specs.type_defs.Types.{rows_with, outcome_with, procedures_with}
use Rattle.proof_json.proofs.values.Holding.{by_cases}
use Rattle.json_read.specs.reading.Inside.{contents_demands, contents_read}

module _ (of : ℕ → Named) (ms : Members) where
  -- ---- information elements
  pub row_asked : (rows : List IeRow) (id : ℕ) (p : Path)
      → row_demands p (rows_with of rows) id ms ≡ contents_demands of (row_type id rows) p element_keys ms
  unfolding row_type row_demands
  row_asked [] id p = refl
  row_asked (r ∷ rows) id p =
      by_cases (r.id == id) (λ b. cond b (known_member p element_keys ms (of r.definition.number) (demands p (of r.definition.number) (member_of value_key ms)))
      (row_demands p (rows_with of rows) id ms)
      ≡ contents_demands of (cond b (Some r.definition) (row_type id rows)) p element_keys ms)
      (λ _. refl) (λ _. row_asked rows id p)

  pub row_read : (rows : List IeRow) (id : ℕ) → row_in (rows_with of rows) id ms ≡ contents_read of (row_type id rows) ms
  unfolding row_type row_in
  row_read [] id = refl
  row_read (r ∷ rows) id =
      by_cases (r.id == id) (λ b. cond b (value_of (of r.definition.number) (member_of value_key ms)) (row_in (rows_with of rows) id ms)
      ≡ contents_read of (cond b (Some r.definition) (row_type id rows)) ms)
      (λ _. refl) (λ _. row_read rows id)

  -- ---- messages
  outcome_asked : (o : Option TypeId) (p : Path) → outcome_demands p (outcome_with of o) ms ≡ contents_demands of o p body_keys ms
  unfolding outcome_demands
  outcome_asked None p = refl
  outcome_asked (Some id) p = refl

  outcome_read : (o : Option TypeId) → told_in (outcome_with of o) ms ≡ contents_read of o ms
  unfolding told_in
  outcome_read None = refl
  outcome_read (Some id) = refl

  one_asked : (r : ProcedureRow) (index : ℕ) (p : Path)
      → cond (index == 0) (outcome_demands p (outcome_with of (Some r.initiating)) ms)
      (cond (index == 1) (outcome_demands p (outcome_with of r.successful) ms) (outcome_demands p (outcome_with of r.unsuccessful) ms))
      ≡ contents_demands of (outcome_type index r) p body_keys ms
  one_asked r index p =
      by_cases (index == 0) (λ b. cond b (outcome_demands p (outcome_with of (Some r.initiating)) ms)
      (cond (index == 1) (outcome_demands p (outcome_with of r.successful) ms) (outcome_demands p (outcome_with of r.unsuccessful) ms))
      ≡ contents_demands of (cond b (Some r.initiating) (cond (index == 1) r.successful r.unsuccessful)) p body_keys ms)
      (λ _. outcome_asked (Some r.initiating) p)
      (λ _. by_cases (index == 1) (λ b. cond b (outcome_demands p (outcome_with of r.successful) ms) (outcome_demands p (outcome_with of r.unsuccessful) ms)
      ≡ contents_demands of (cond b r.successful r.unsuccessful) p body_keys ms)
      (λ _. outcome_asked r.successful p) (λ _. outcome_asked r.unsuccessful p))

  one_read : (r : ProcedureRow) (index : ℕ)
      → cond (index == 0) (told_in (outcome_with of (Some r.initiating)) ms)
      (cond (index == 1) (told_in (outcome_with of r.successful) ms) (told_in (outcome_with of r.unsuccessful) ms))
      ≡ contents_read of (outcome_type index r) ms
  one_read r index =
      by_cases (index == 0) (λ b. cond b (told_in (outcome_with of (Some r.initiating)) ms)
      (cond (index == 1) (told_in (outcome_with of r.successful) ms) (told_in (outcome_with of r.unsuccessful) ms))
      ≡ contents_read of (cond b (Some r.initiating) (cond (index == 1) r.successful r.unsuccessful)) ms)
      (λ _. outcome_read (Some r.initiating))
      (λ _. by_cases (index == 1) (λ b. cond b (told_in (outcome_with of r.successful) ms) (told_in (outcome_with of r.unsuccessful) ms)
      ≡ contents_read of (cond b r.successful r.unsuccessful) ms)
      (λ _. outcome_read r.successful) (λ _. outcome_read r.unsuccessful))

  pub body_asked : (rows : List ProcedureRow) (index code : ℕ) (p : Path)
      → body_demands p (procedures_with of rows) index code ms ≡ contents_demands of (message_type index code rows) p body_keys ms
  unfolding message_type body_demands
  body_asked [] index code p = refl
  body_asked (r ∷ rows) index code p =
      by_cases (r.code == code) (λ b. cond b (cond (index == 0) (outcome_demands p (outcome_with of (Some r.initiating)) ms)
      (cond (index == 1) (outcome_demands p (outcome_with of r.successful) ms) (outcome_demands p (outcome_with of r.unsuccessful) ms)))
      (body_demands p (procedures_with of rows) index code ms)
      ≡ contents_demands of (cond b (outcome_type index r) (message_type index code rows)) p body_keys ms)
      (λ _. one_asked r index p) (λ _. body_asked rows index code p)

  pub body_read : (rows : List ProcedureRow) (index code : ℕ)
      → body_in (procedures_with of rows) index code ms ≡ contents_read of (message_type index code rows) ms
  unfolding message_type body_in
  body_read [] index code = refl
  body_read (r ∷ rows) index code =
      by_cases (r.code == code) (λ b. cond b (cond (index == 0) (told_in (outcome_with of (Some r.initiating)) ms)
      (cond (index == 1) (told_in (outcome_with of r.successful) ms) (told_in (outcome_with of r.unsuccessful) ms)))
      (body_in (procedures_with of rows) index code ms)
      ≡ contents_read of (cond b (outcome_type index r) (message_type index code rows)) ms)
      (λ _. one_read r index) (λ _. body_read rows index code)
