-- What values are printed as, by rows, names and parts.
use Rattle.std.proofs.Common.{◌≡◌, ℕ, zero, suc, ◌+◌, ◌-◌, ◌<◌, ◌≤◌, ◌==◌, List, [], ◌∷◌, length, drop, get_or, min, Bool, true, false, Option, Some, None, is_some, cond, refl, sym, ap, ◌∙◌, arith}
use Rattle.std.proofs.lemmas.List.{drop_all}
use Rattle.std.specs.Prelude.{nat_lt}
use Rattle.serde_json.specs.Data.{no_items, item, no_members, array}
use Rattle.asn1_syntax.specs.declared.types.definition.Size.{Size}
use Rattle.asn1_syntax.specs.declared.types.definition.TypeId.{TypeId}
use Rattle.asn1_syntax.specs.declared.types.definition.Component.{Component}
use Rattle.asn1_syntax.specs.declared.types.definition.Extensible.{Extensible}
use Rattle.asn1_syntax.specs.declared.assignments.assignment.IeRow.{IeRow}
use Rattle.asn1_syntax.specs.declared.assignments.assignment.ProcedureRow.{ProcedureRow}
use Rattle.aper_defs.specs.Values as seen
use Rattle.aper_values.specs.declared.value.Value.{Value}
use Rattle.aper_values.specs.Views.{view, options_view}
use Rattle.aper_fields.specs.members.Rows.{part_type, row_type, outcome_type, message_type}
use Rattle.json_defs.specs.Named.{Named, NamedRows, NamedProcedures, sequence_of, container, pdu}
use Rattle.json_defs.specs.Members.{code_key, outcomes}
use Rattle.json_defs.specs.shown_defs.Printed.{name_at, one_member, past_shown, shown_as, items_shown, elements_shown, added_shown, row_shown, contents_shown, outcome_shown, body_shown}
use Rattle.json_defs.specs.type_defs.Types.{parts_with, rows_with, outcome_with, procedures_with}
use Rattle.proof_json.proofs.values.Holding.{apart, by_cases}
use Rattle.proof_json.proofs.values.Words.{same, is_same}
use Rattle.json_fields.specs.types.Forms.{sequence_named}
use Rattle.values_json.specs.order.Listed.{listed, AreComponents}
use Rattle.values_json.specs.pieces.Bodies.{contents_as}
use Rattle.values_json.specs.printing.Inside.{inside_shown, added_one, place_shown, sequence_shown}

-- ---- what rows give
module _ (of : ℕ → Named) where
  pub row_is : (rows : List IeRow) (id : ℕ) (v : seen.Value) → row_shown (rows_with of rows) id v
      ≡ contents_as (is_some (row_type id rows)) (inside_shown of (row_type id rows) v)
  unfolding row_type row_shown
  row_is [] id v = refl
  row_is (r ∷ rows) id v =
      by_cases (r.id == id) (λ b. cond b (contents_as true (shown_as (of r.definition.number) v)) (row_shown (rows_with of rows) id v)
      ≡ contents_as (is_some (cond b (Some r.definition) (row_type id rows))) (inside_shown of (cond b (Some r.definition) (row_type id rows)) v))
      (λ _. refl) (λ _. row_is rows id v)

  outcome_is : (o : Option TypeId) (v : seen.Value) → outcome_shown (outcome_with of o) v
      ≡ contents_as (is_some o) (inside_shown of o v)
  unfolding outcome_shown
  outcome_is None v = refl
  outcome_is (Some id) v = refl

  message_is : (r : ProcedureRow) (index : ℕ) (v : seen.Value)
      → cond (index == 0) (outcome_shown (outcome_with of (Some r.initiating)) v)
      (cond (index == 1) (outcome_shown (outcome_with of r.successful) v) (outcome_shown (outcome_with of r.unsuccessful) v))
      ≡ contents_as (is_some (outcome_type index r)) (inside_shown of (outcome_type index r) v)
  message_is r index v =
      by_cases (index == 0) (λ b. cond b (outcome_shown (outcome_with of (Some r.initiating)) v)
      (cond (index == 1) (outcome_shown (outcome_with of r.successful) v) (outcome_shown (outcome_with of r.unsuccessful) v))
      ≡ contents_as (is_some (cond b (Some r.initiating) (cond (index == 1) r.successful r.unsuccessful)))
      (inside_shown of (cond b (Some r.initiating) (cond (index == 1) r.successful r.unsuccessful)) v))
      (λ _. outcome_is (Some r.initiating) v)
      (λ _. by_cases (index == 1) (λ b. cond b (outcome_shown (outcome_with of r.successful) v) (outcome_shown (outcome_with of r.unsuccessful) v)
      ≡ contents_as (is_some (cond b r.successful r.unsuccessful)) (inside_shown of (cond b r.successful r.unsuccessful) v))
      (λ _. outcome_is r.successful v) (λ _. outcome_is r.unsuccessful v))

  pub body_is : (rows : List ProcedureRow) (index code : ℕ) (v : seen.Value) → contents_shown (procedures_with of rows) index code v
      ≡ contents_as (is_some (message_type index code rows)) (inside_shown of (message_type index code rows) v)
  unfolding message_type contents_shown
  body_is [] index code v = refl
  body_is (r ∷ rows) index code v =
      by_cases (r.code == code) (λ b. cond b (cond (index == 0) (outcome_shown (outcome_with of (Some r.initiating)) v)
      (cond (index == 1) (outcome_shown (outcome_with of r.successful) v) (outcome_shown (outcome_with of r.unsuccessful) v)))
      (contents_shown (procedures_with of rows) index code v)
      ≡ contents_as (is_some (cond b (outcome_type index r) (message_type index code rows)))
      (inside_shown of (cond b (outcome_type index r) (message_type index code rows)) v))
      (λ _. message_is r index v) (λ _. body_is rows index code v)

  -- ---- additions
  added_turn : (ps : List Component) (i : ℕ) (o : Option Value) (vs : List (Option Value))
      → added_shown (parts_with of (drop i ps)) (options_view (o ∷ vs))
      ≡ item (added_one of (part_type i ps) o) (added_shown (parts_with of (drop (suc i) ps)) (options_view vs))
  unfolding added_shown
  added_turn [] zero None vs = refl
  added_turn [] zero (Some v) vs = refl
  added_turn [] (suc i) None vs = refl
  added_turn [] (suc i) (Some v) vs = refl
  added_turn (p ∷ ps) zero None vs = refl
  added_turn (p ∷ ps) zero (Some v) vs = refl
  added_turn (p ∷ ps) (suc i) o vs = added_turn ps i o vs

  pub added_step : (ps : List Component) (i : ℕ) (o : Option Value) (vs : List (Option Value))
      → added_shown (parts_with of (drop i ps)) (options_view (o ∷ vs))
      ≡ item (added_one of (part_type i ps) o) (added_shown (parts_with of (drop (i + 1) ps)) (options_view vs))
  added_step ps i o vs =
      added_turn ps i o vs
      ∙ ap (λ (n : ℕ). item (added_one of (part_type i ps) o) (added_shown (parts_with of (drop n ps)) (options_view vs)))
      (let e : suc i ≡ i + 1 = omega arith in e)

  added_none : (ps : List Component) → added_shown (parts_with of ps) seen.no_options ≡ no_items
  unfolding added_shown
  added_none [] = refl
  added_none (p ∷ ps) = refl

  pub added_end : (ps : List Component) (i : ℕ) (vs : List (Option Value)) → length vs ≤ i
      → added_shown (parts_with of (drop i ps)) (options_view (drop i vs)) ≡ no_items
  added_end ps i vs h =
      ap (λ (ws : List (Option Value)). added_shown (parts_with of (drop i ps)) (options_view ws)) (drop_all i vs h) ∙ added_none (drop i ps)

  -- ---- components
  pub places_shown : (ps : List Component) (vs : List (Option Value)) → AreComponents of ps vs (place_shown of ps vs)
  places_shown [] vs i q v small part lt is = absurd (omega (arith, small))
  places_shown (p ∷ ps) [] i q v small part lt is = absurd (omega (arith, lt))
  places_shown (p ∷ ps) (w ∷ vs) zero q v small part lt is =
      ap (λ (o : Option Value). added_one of (Some p.definition) o) (sym is)
      ∙ ap (λ (y : Component). shown_as (of y.definition.number) (view v)) (sym part)
  places_shown (p ∷ ps) (w ∷ vs) (suc i) q v small part lt is = places_shown ps vs i q v (omega (arith, small)) part (omega (arith, lt)) is

  -- as they come
  listed_none : (ps : List Component) → listed (parts_with of ps) seen.no_options ≡ no_members
  listed_none [] = refl
  listed_none (p ∷ ps) = refl

  pub listed_end : (ps : List Component) (vs : List (Option Value)) (i : ℕ) → min (length ps) (length vs) ≤ i
      → listed (parts_with of (drop i ps)) (options_view (drop i vs)) ≡ no_members
  listed_end ps vs i h =
      by_less (length ps) (length vs) i h
      (λ (most : length ps ≤ i). ap (λ (qs : List Component). listed (parts_with of qs) (options_view (drop i vs))) (drop_all i ps most))
      (λ (most : length vs ≤ i). ap (λ (ws : List (Option Value)). listed (parts_with of (drop i ps)) (options_view ws)) (drop_all i vs most)
      ∙ listed_none (drop i ps))
    where
      by_less : (a b i : ℕ) {X : Type 0} → min a b ≤ i → (a ≤ i → X) → (b ≤ i → X) → X
      by_less zero b i e f g = f (omega arith)
      by_less (suc a) zero i e f g = g (omega arith)
      by_less (suc a) (suc b) zero e f g = absurd (omega (arith, e))
      by_less (suc a) (suc b) (suc i) e f g = by_less a b i (omega (arith, e)) (λ h. f (omega (arith, h))) (λ h. g (omega (arith, h)))

-- ---- what each kind of value is printed as
pub list_is : (size : Option Size) (t : Named) (vs : seen.Values) → shown_as (sequence_of size t) (seen.list vs) ≡ array (items_shown (λ v. shown_as t v) vs)
unfolding shown_as
list_is size t vs = refl

pub container_is : (rows : NamedRows) (ies : seen.Ies) → shown_as (container rows) (seen.elements ies)
    ≡ array (elements_shown (λ id v. row_shown rows id v) ies)
unfolding shown_as
container_is rows ies = refl

pub message_printed : (rows : NamedProcedures) (index code criticality : ℕ) (v : seen.Value) → nat_lt index 3 ≡ true
    → one_member (name_at outcomes index) (body_shown code_key code criticality (contents_shown rows index code v))
    ≡ shown_as (pdu rows) (seen.message index code criticality v)
unfolding shown_as
message_printed rows index code criticality v h =
    sym (ap (λ (b : Bool). cond b (one_member (name_at outcomes index) (body_shown code_key code criticality (contents_shown rows index code v)))
    (past_shown (index - 3) v)) h)

pub sequence_is : (of : ℕ → Named) (members : Extensible Component) (root more : seen.Options)
    → sequence_shown of members root more ≡ shown_as (sequence_named of members) (seen.components root more)
unfolding shown_as
sequence_is of members root more = refl

pub none_more : (vs : List (Option Value)) → length vs ≡ 0 → seen.has_options (options_view vs) ≡ false
none_more [] h = refl
none_more (None ∷ vs) h = absurd (omega (arith, h))
none_more (Some v ∷ vs) h = absurd (omega (arith, h))

pub some_more : (vs : List (Option Value)) → (length vs ≡ 0 → ⊥) → seen.has_options (options_view vs) ≡ true
some_more [] h = absurd (h refl)
some_more (None ∷ vs) h = refl
some_more (Some v ∷ vs) h = refl

pub is_zero : (n : ℕ) → (n == 0) ≡ true → n ≡ 0
is_zero n h = same n 0 h

pub is_not_zero : (n : ℕ) → (n == 0) ≡ false → n ≡ 0 → ⊥
is_not_zero n h e = apart (sym h ∙ is_same n 0 e)

pub same_item : {A : Type 0} (xs : List A) (i : ℕ) (x y : A) → i < length xs → get_or xs i x ≡ get_or xs i y
same_item [] i x y lt = absurd (omega arith)
same_item (z ∷ xs) zero x y lt = refl
same_item (z ∷ xs) (suc i) x y lt = same_item xs i x y (omega arith)
