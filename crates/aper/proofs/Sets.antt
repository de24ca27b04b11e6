-- The sets of a module's types give each id once. Where each leaves an id, they are as the laws of refusals want them.
use Rattle.std.proofs.Common.{◌≡◌, ℕ, zero, suc, ◌+◌, ◌<◌, ◌≤◌, ◌==◌, nat_lt, cond, List, [], ◌∷◌, length, Bool, true, false, refl, sym, ap, subst, ◌∙◌, arith}
use Rattle.std.specs.Prelude.{Option, Some, None, map}
use Rattle.asn1_tokens.specs.Words.{is_text}
use Rattle.asn1_syntax.specs.declared.types.definition.TypeId.{TypeId}
use Rattle.asn1_syntax.specs.declared.types.definition.Component.{Component}
use Rattle.asn1_syntax.specs.declared.types.definition.Definition.{Definition}
use Rattle.asn1_syntax.specs.declared.types.definition.Definition.TheVariants as types
use Rattle.asn1_syntax.specs.types.Members.{additions_of}
use Rattle.asn1_syntax.specs.declared.assignments.assignment.Body.{Body}
use Rattle.asn1_syntax.specs.declared.assignments.assignment.Body.TheVariants as bodies
use Rattle.asn1_syntax.specs.declared.assignments.assignment.IeRow.{IeRow}
use Rattle.asn1_syntax.specs.declared.assignments.assignment.ProcedureRow.{ProcedureRow}
use Rattle.asn1_syntax.specs.declared.assignments.assignment.Assignment.{Assignment}
use Rattle.asn1_syntax.specs.declared.assignments.assignment.Syntax.{Syntax}
use Rattle.proof_asn1.proofs.reading.Readings.{read_of}
use Rattle.asn1_defs.specs.Targets.{find_type, ie_rows, ie_rows_of, procedure_rows, definition_at, all_of}
use Rattle.asn1_defs.specs.Modules.{IsModule}
use Rattle.proof_asn1_modules.specs.asn1_proof_module.Proper.{Each, IsNew, AreOnce, ie_id, IsBodyWithin}
use Rattle.proof_asn1_modules.proofs.asn1_proof_module.ModuleBounds.{proper}
use Rattle.aper_defs.specs.Trees.{Tree, slots, has_slot}
use Rattle.aper_defs.specs.loose_defs.Sets.{AreOwnIds, IsSet, LeavesId, EachSet, EachSetOfParts, EachSetOfRows, EachSetOfProcedures, EachSetOfOutcome, HasSets, LeavesIds}
use Rattle.proof_aper.proofs.answers.NumberFacts.{by_cases, below, not_below, same, is_same}
use Rattle.aper_values.specs.types.Types.{parts_of, rows_of, outcome_of, procedures_of, named_tree, definition_tree, tree_by, tree}

-- ---- numbers below a bound, each once, are no more than the bound
true_not_false : true ≡ false → ⊥
true_not_false h = cc

abbrev without : ℕ → List ℕ → List ℕ
without n [] = []
without n (x ∷ xs) = cond (x == n) xs (x ∷ without n xs)

differs : (x n : ℕ) → (x ≡ n → ⊥) → x < suc n → x < n
differs x n h fits =
    by_cases (nat_lt x n) (λ b. x < n) (λ e. below x n e)
    (λ e. absurd (h (omega (arith, not_below x n e, fits))))

not_same : (x n : ℕ) → (x == n) ≡ false → x ≡ n → ⊥
not_same x n h e = true_not_false (sym (is_same x n e) ∙ h)

shorter : (n : ℕ) (xs : List ℕ) → length xs ≤ suc (length (without n xs))
shorter n [] = omega arith
shorter n (x ∷ xs) =
    by_cases (x == n) (λ b. suc (length xs) ≤ suc (length (cond b xs (x ∷ without n xs))))
    (λ e. omega arith) (λ e. omega (arith, shorter n xs))

new_without : (y n : ℕ) (xs : List ℕ) → IsNew y xs → IsNew y (without n xs)
new_without y n [] h = tt
new_without y n (x ∷ xs) h =
    by_cases (x == n) (λ b. IsNew y (cond b xs (x ∷ without n xs))) (λ e. h.1) (λ e. (h.0, new_without y n xs h.1))

once_without : (n : ℕ) (xs : List ℕ) → AreOnce xs → AreOnce (without n xs)
once_without n [] h = tt
once_without n (x ∷ xs) h =
    by_cases (x == n) (λ b. AreOnce (cond b xs (x ∷ without n xs))) (λ e. h.1)
    (λ e. (new_without x n xs h.0, once_without n xs h.1))

-- a number that is none of these is above them where one above it is
others_below : (n : ℕ) (xs : List ℕ) → IsNew n xs → Each (λ x. x < suc n) xs → Each (λ x. x < n) xs
others_below n [] new h = tt
others_below n (x ∷ xs) new h = (differs x n new.0 h.0, others_below n xs new.1 h.1)

moved_new : (x n : ℕ) (xs : List ℕ) → x ≡ n → IsNew x xs → IsNew n xs
moved_new x n xs e h = subst (λ (y : ℕ). IsNew y xs) e h

without_below : (n : ℕ) (xs : List ℕ) → AreOnce xs → Each (λ x. x < suc n) xs → Each (λ x. x < n) (without n xs)
without_below n [] once h = tt
without_below n (x ∷ xs) once h =
    by_cases (x == n) (λ b. Each (λ y. y < n) (cond b xs (x ∷ without n xs)))
    (λ e. others_below n xs (moved_new x n xs (same x n e) once.0) h.1)
    (λ e. (differs x n (not_same x n e) h.0, without_below n xs once.1 h.1))

few_below : (n : ℕ) (xs : List ℕ) → AreOnce xs → Each (λ x. x < n) xs → length xs ≤ n
few_below zero [] once h = omega arith
few_below zero (x ∷ xs) once h = absurd (omega (arith, h.0))
few_below (suc n) xs once h =
    omega (arith, shorter n xs, few_below n (without n xs) (once_without n xs once) (without_below n xs once h))

-- ---- the ids of a set
abbrev RowsWithin : List IeRow → Type 0
RowsWithin rows = Each (λ id. id < 65536) (map ie_id rows) × AreOnce (map ie_id rows)

module _ (of : ℕ → Tree) where
  none_there : (id : ℕ) (rows : List IeRow) → IsNew id (map ie_id rows) → has_slot id (slots (rows_of of rows)) ≡ false
  none_there id [] h = refl
  none_there id (row ∷ rows) h =
      by_cases (row.id == id) (λ b. cond b true (has_slot id (slots (rows_of of rows))) ≡ false)
      (λ e. absurd (h.0 (same row.id id e))) (λ e. none_there id rows h.1)

  is_new : (id : ℕ) (rows : List IeRow) → has_slot id (slots (rows_of of rows)) ≡ false → IsNew id (map ie_id rows)
  is_new id [] h = tt
  is_new id (row ∷ rows) h = go (row.id == id) refl h (λ g. is_new id rows g)
    where
      go : (b : Bool) → (row.id == id) ≡ b → cond b true (has_slot id (slots (rows_of of rows))) ≡ false
          → (has_slot id (slots (rows_of of rows)) ≡ false → IsNew id (map ie_id rows))
          → (row.id ≡ id → ⊥) × IsNew id (map ie_id rows)
      go true e g more = absurd (true_not_false g)
      go false e g more = (not_same row.id id e, more g)

  own_ids : (rows : List IeRow) → RowsWithin rows → AreOwnIds (slots (rows_of of rows))
  own_ids [] h = tt
  own_ids (row ∷ rows) h = (h.0.0, none_there row.id rows h.1.0, own_ids rows (h.0.1, h.1.1))

  slot_count : (rows : List IeRow) → length (slots (rows_of of rows)) ≡ length (map ie_id rows)
  slot_count [] = refl
  slot_count (row ∷ rows) = ap suc (slot_count rows)

  is_set : (rows : List IeRow) → RowsWithin rows → LeavesId (slots (rows_of of rows)) → IsSet (slots (rows_of of rows))
  is_set rows h left =
      let all : suc (length (map ie_id rows)) ≤ 65536 =
      few_below 65536 (left.free ∷ map ie_id rows) (is_new left.free rows left.free_is, h.1) (left.free_fits, h.0) in record {
        own = own_ids rows h;
        few = omega (arith, all, slot_count rows);
        free = left.free;
        free_fits = left.free_fits;
        free_is = left.free_is;
      }

body_rows : (body : Body) → IsBodyWithin body → RowsWithin (all_of (ie_rows_of body))
body_rows (bodies.Type definition) h = (tt, tt)
body_rows (bodies.IeSet rows) h = h
body_rows (bodies.ProcedureSet rows) h = (tt, tt)

rows_within : (name : List ℕ) (names : List Assignment) → Each (λ a. IsBodyWithin a.body) names → RowsWithin (all_of (ie_rows name names))
unfolding ie_rows
rows_within name [] h = (tt, tt)
rows_within name (a ∷ names) h =
    by_cases (is_text a.name name) (λ b. RowsWithin (all_of (cond b (ie_rows_of a.body) (ie_rows name names))))
    (λ e. body_rows a.body h.0) (λ e. rows_within name names h.1)

-- ---- types, by those that they lead to
module _ (of : ℕ → Tree) (each : (n : ℕ) → LeavesIds (of n) → HasSets (of n)) where
  parts_sets : (cs : List Component) → EachSetOfParts LeavesId (parts_of of cs) → EachSetOfParts IsSet (parts_of of cs)
  unfolding EachSetOfParts
  parts_sets [] h = tt
  parts_sets (c ∷ cs) h = (each c.definition.number h.0, parts_sets cs h.1)

  row_sets : (rows : List IeRow) → EachSetOfRows LeavesId (rows_of of rows) → EachSetOfRows IsSet (rows_of of rows)
  unfolding EachSetOfRows
  row_sets [] h = tt
  row_sets (row ∷ rows) h = (each row.definition.number h.0, row_sets rows h.1)

  outcome_sets : (o : Option TypeId) → EachSetOfOutcome LeavesId (outcome_of of o) → EachSetOfOutcome IsSet (outcome_of of o)
  unfolding EachSetOfOutcome
  outcome_sets None h = tt
  outcome_sets (Some id) h = each id.number h

  procedure_sets : (rows : List ProcedureRow) → EachSetOfProcedures LeavesId (procedures_of of rows)
      → EachSetOfProcedures IsSet (procedures_of of rows)
  unfolding EachSetOfProcedures EachSetOfOutcome
  procedure_sets [] h = tt
  procedure_sets (row ∷ rows) h =
      (each row.initiating.number h.0, outcome_sets row.successful h.1, outcome_sets row.unsuccessful h.2, procedure_sets rows h.3)

  named_sets : (o : Option TypeId) → LeavesIds (named_tree of o) → HasSets (named_tree of o)
  unfolding EachSet
  named_sets None h = tt
  named_sets (Some id) h = each id.number h

  definition_sets : (names : List Assignment) → Each (λ a. IsBodyWithin a.body) names → (d : Definition)
      → LeavesIds (definition_tree names of d) → HasSets (definition_tree names of d)
  unfolding EachSet
  definition_sets names within types.Boolean h = tt
  definition_sets names within (types.Integer low high extensible) h = tt
  definition_sets names within (types.Enumerated parts) h = tt
  definition_sets names within (types.BitString size) h = tt
  definition_sets names within (types.OctetString size) h = tt
  definition_sets names within (types.PrintableString size) h = tt
  definition_sets names within (types.Sequence members) h =
      (parts_sets members.root h.0, parts_sets (additions_of members.additions) h.1)
  definition_sets names within (types.Choice members) h =
      (parts_sets members.root h.0, parts_sets (additions_of members.additions) h.1)
  definition_sets names within (types.SequenceOf size element) h = each element.number h
  definition_sets names within (types.Reference name) h = named_sets (find_type name names) h
  definition_sets names within (types.IeContainer set) h = (
    is_set of (all_of (ie_rows set names)) (rows_within set names within) h.0,
    row_sets (all_of (ie_rows set names)) h.1,
  )
  definition_sets names within (types.Pdu set) h = procedure_sets (all_of (procedure_rows set names)) h

sets_by : (m : Syntax) → Each (λ a. IsBodyWithin a.body) m.assignments → (steps id : ℕ) → LeavesIds (tree_by steps m id) → HasSets (tree_by steps m id)
unfolding tree_by EachSet
sets_by m within zero id h = tt
sets_by m within (suc steps) id h =
    definition_sets (tree_by steps m) (sets_by m within steps) m.assignments within (definition_at m id) h

pub tree_sets : (m : Syntax) (id : ℕ) → IsModule m → LeavesIds (tree m id) → HasSets (tree m id)
unfolding tree
tree_sets m id is h =
    sets_by m (proper is.text m (read_of is.text m is.is)).sets (length m.nodes + length m.assignments + 1) id h
