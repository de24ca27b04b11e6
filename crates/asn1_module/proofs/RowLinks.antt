-- The numbers in the rows and assignments of a module that is read are those of its types.
use Rattle.std.proofs.Common.{◌≡◌, ℕ, ◌+◌, ◌<◌, ◌≤◌, List, [], ◌∷◌, ◌++◌, length, Bool, refl, sym, subst, arith}
use Rattle.std.specs.Prelude.{Ok, Option, Some, None}
use Rattle.gnb_types.proofs.Choices.{chosen}
use Rattle.asn1_tokens.specs.declared.token.Word.{Word}
use Rattle.asn1_tokens.specs.declared.token.Word.TheVariants as words
use Rattle.asn1_tokens.specs.declared.token.Sign.TheVariants as signs
use Rattle.asn1_tokens.specs.Stream.{items_of, first_place}
use Rattle.asn1_syntax.specs.declared.types.definition.TypeId.{TypeId}
use Rattle.asn1_syntax.specs.declared.types.definition.Node.{Node}
use Rattle.asn1_syntax.specs.types.Reading.{Left, begins_with}
use Rattle.asn1_syntax.specs.types.inside.Reading.{word_at, sign_at, repeat_at}
use Rattle.asn1_syntax.specs.types.inside.Types.{type_at}
use Rattle.asn1_syntax.specs.declared.assignments.assignment.IeRow.{IeRow}
use Rattle.asn1_syntax.specs.declared.assignments.assignment.ProcedureRow.{ProcedureRow}
use Rattle.asn1_syntax.specs.declared.assignments.assignment.Body.{Body}
use Rattle.asn1_syntax.specs.declared.assignments.assignment.Body.TheVariants as bodies
use Rattle.asn1_syntax.specs.declared.assignments.assignment.Assignment.{Assignment}
use Rattle.asn1_syntax.specs.declared.assignments.assignment.Syntax.{Syntax}
use Rattle.asn1_syntax.specs.assignments.inside.Rows.{new_number_at, criticality_at, presence_at, has_id, has_code, ie_row_at, outcome_at, messages_at, procedure_row_at}
use Rattle.asn1_syntax.specs.assignments.inside.Sets.{Rows, rows_with, set_goes_on_at, ie_turn_at, procedure_turn_at, set_start_at, ie_set_at, procedure_set_at}
use Rattle.asn1_syntax.specs.assignments.inside.Module.{Parts, new_assignment_at, ie_body_at, procedure_body_at, type_body_at, body_at, assignment_at, module_turn_at, header_at, no_assignments, assignments_at, syntax_at, syntax_of}
use Rattle.asn1_defs.specs.Links.{AreOrdered, OptionBelow, IesBelow, ProceduresBelow, BodyBelow, BodiesBelow, OptionFrom, IesFrom, ProceduresFrom, BodyFrom, AreParted, IsLinked}
use Rattle.asn1_module.proofs.LinkLemmas.{type_ok, bind_ok, ok_same}
use Rattle.asn1_module.proofs.TypeCount.{repeat_keeps}

option_up : (n m : ℕ) (o : Option TypeId) → n ≤ m → OptionBelow n o → OptionBelow m o
option_up n m None h ok = tt
option_up n m (Some id) h ok = omega (arith, ok)

ies_up : (n m : ℕ) (rows : List IeRow) → n ≤ m → IesBelow n rows → IesBelow m rows
ies_up n m [] h ok = tt
ies_up n m (row ∷ rows) h ok = (omega (arith, ok.0), ies_up n m rows h ok.1)

procedures_up : (n m : ℕ) (rows : List ProcedureRow) → n ≤ m → ProceduresBelow n rows → ProceduresBelow m rows
procedures_up n m [] h ok = tt
procedures_up n m (row ∷ rows) h ok = ((omega (arith, ok.0.0), (option_up n m row.successful h ok.0.1.0, option_up n m row.unsuccessful h ok.0.1.1)), procedures_up n m rows h ok.1)

body_up : (n m : ℕ) (body : Body) → n ≤ m → BodyBelow n body → BodyBelow m body
body_up n m (bodies.Type definition) h ok = omega (arith, ok)
body_up n m (bodies.IeSet rows) h ok = ies_up n m rows h ok
body_up n m (bodies.ProcedureSet rows) h ok = procedures_up n m rows h ok

bodies_up : (n m : ℕ) (assignments : List Assignment) → n ≤ m → BodiesBelow n assignments → BodiesBelow m assignments
bodies_up n m [] h ok = tt
bodies_up n m (a ∷ assignments) h ok = (body_up n m a.body h ok.0, bodies_up n m assignments h ok.1)

ies_push : (n : ℕ) (rows : List IeRow) (row : IeRow) → IesBelow n rows → row.definition.number < n → IesBelow n (rows ++ row ∷ [])
ies_push n [] row ok lt = (lt, tt)
ies_push n (r ∷ rows) row ok lt = (ok.0, ies_push n rows row ok.1 lt)

procedures_push : (n : ℕ) (rows : List ProcedureRow) (row : ProcedureRow) → ProceduresBelow n rows → (row.initiating.number < n) × (OptionBelow n row.successful × OptionBelow n row.unsuccessful) → ProceduresBelow n (rows ++ row ∷ [])
procedures_push n [] row ok lt = (lt, tt)
procedures_push n (r ∷ rows) row ok lt = (ok.0, procedures_push n rows row ok.1 lt)

bodies_push : (n : ℕ) (assignments : List Assignment) (a : Assignment) → BodiesBelow n assignments → BodyBelow n a.body → BodiesBelow n (assignments ++ a ∷ [])
bodies_push n [] a ok below = (below, tt)
bodies_push n (b ∷ assignments) a ok below = (ok.0, bodies_push n assignments a ok.1 below)

option_from : (n m : ℕ) (o : Option TypeId) → n ≤ m → OptionFrom m o → OptionFrom n o
option_from n m None h ok = tt
option_from n m (Some id) h ok = omega (arith, ok)

ies_from_push : (n : ℕ) (rows : List IeRow) (row : IeRow) → IesFrom n rows → n ≤ row.definition.number → IesFrom n (rows ++ row ∷ [])
ies_from_push n [] row ok from = (from, tt)
ies_from_push n (r ∷ rows) row ok from = (ok.0, ies_from_push n rows row ok.1 from)

procedures_from_push : (n : ℕ) (rows : List ProcedureRow) (row : ProcedureRow) → ProceduresFrom n rows → (n ≤ row.initiating.number) × (OptionFrom n row.successful × OptionFrom n row.unsuccessful) → ProceduresFrom n (rows ++ row ∷ [])
procedures_from_push n [] row ok from = (from, tt)
procedures_from_push n (r ∷ rows) row ok from = (ok.0, procedures_from_push n rows row ok.1 from)

-- where the types of the last assignment end
last_end : ℕ → List Assignment → ℕ
last_end n [] = n
last_end n (a ∷ assignments) = last_end a.end assignments

last_end_push : (n : ℕ) (assignments : List Assignment) (a : Assignment) → last_end n (assignments ++ a ∷ []) ≡ a.end
unfolding last_end
last_end_push n [] a = refl
last_end_push n (b ∷ assignments) a = last_end_push b.end assignments a

parted_push : (n : ℕ) (assignments : List Assignment) (a : Assignment) → AreParted n assignments → BodyFrom (last_end n assignments) a.body → BodyBelow a.end a.body → AreParted n (assignments ++ a ∷ [])
unfolding last_end
parted_push n [] a ok from below = (from, below, tt)
parted_push n (b ∷ assignments) a ok from below = (ok.0, ok.1, parted_push b.end assignments a ok.2 from below)

record IeOk (least : ℕ) (r : IeRow × List Node × Left) : Type 0 where
  ordered : AreOrdered 0 r.1
  below : r.0.definition.number < length r.1
  from : least ≤ r.0.definition.number
  grown : least ≤ length r.1

ie_ok : (turns : ℕ) (rows : List IeRow) (nodes : List Node) (ts : Left) (r : IeRow × List Node × Left) → ie_row_at turns rows nodes ts ≡ Ok r → AreOrdered 0 nodes → IeOk (length nodes) r
unfolding ie_row_at
ie_ok turns rows nodes ts r h ordered =
    let a = bind_ok (sign_at signs.LeftBrace ts) _ r h in
    let b = bind_ok (word_at words.Id a.0) _ r a.2 in
    let id = bind_ok (new_number_at (λ id. has_id id rows) 65535 b.0) _ r b.2 in
    let c = bind_ok (word_at words.Criticality id.0.1) _ r id.2 in
    let criticality = bind_ok (criticality_at c.0) _ r c.2 in
    let d = bind_ok (word_at words.Type criticality.0.1) _ r criticality.2 in
    let definition = bind_ok (type_at turns nodes d.0) _ r d.2 in
    let e = bind_ok (word_at words.Presence definition.0.2) _ r definition.2 in
    let presence = bind_ok (presence_at e.0) _ r e.2 in
    let f = bind_ok (sign_at signs.RightBrace presence.0.1) _ r presence.2 in
    let ok = type_ok turns nodes d.0 definition.0 definition.1 ordered in
    subst (IeOk (length nodes)) (ok_same _ _ f.2) (record { ordered = ok.ordered; below = ok.below; from = ok.from; grown = ok.grown })

record OutcomeOk (least : ℕ) (r : Option TypeId × List Node × Left) : Type 0 where
  ordered : AreOrdered 0 r.1
  below : OptionBelow (length r.1) r.0
  from : OptionFrom least r.0
  grown : least ≤ length r.1

outcome_ok : (turns : ℕ) (word : Word) (nodes : List Node) (ts : Left) (r : Option TypeId × List Node × Left) → outcome_at turns word nodes ts ≡ Ok r → AreOrdered 0 nodes → OutcomeOk (length nodes) r
unfolding outcome_at
outcome_ok turns word nodes ts r h ordered =
    chosen (begins_with word ts) _ _ (Ok r) h (OutcomeOk (length nodes) r)
    (λ _ h.
    let a = bind_ok (word_at word ts) _ r h in
    let b = bind_ok (word_at words.Outcome a.0) _ r a.2 in
    let definition = bind_ok (type_at turns nodes b.0) _ r b.2 in
    let ok = type_ok turns nodes b.0 definition.0 definition.1 ordered in
    subst (OutcomeOk (length nodes)) (ok_same _ _ definition.2) (record { ordered = ok.ordered; below = ok.below; from = ok.from; grown = ok.grown }))
    (λ _ h. subst (OutcomeOk (length nodes)) (ok_same _ _ h) (record { ordered = ordered; below = tt; from = tt; grown = omega arith }))

record MessagesOk (least : ℕ) (r : TypeId × Option TypeId × Option TypeId × List Node × Left) : Type 0 where
  ordered : AreOrdered 0 r.3
  below : (r.0.number < length r.3) × (OptionBelow (length r.3) r.1 × OptionBelow (length r.3) r.2)
  from : (least ≤ r.0.number) × (OptionFrom least r.1 × OptionFrom least r.2)
  grown : least ≤ length r.3

messages_ok : (turns : ℕ) (nodes : List Node) (ts : Left) (r : TypeId × Option TypeId × Option TypeId × List Node × Left) → messages_at turns nodes ts ≡ Ok r → AreOrdered 0 nodes → MessagesOk (length nodes) r
unfolding messages_at
messages_ok turns nodes ts r h ordered =
    let a = bind_ok (word_at words.Initiating ts) _ r h in
    let b = bind_ok (word_at words.Message a.0) _ r a.2 in
    let initiating = bind_ok (type_at turns nodes b.0) _ r b.2 in
    let successful = bind_ok (outcome_at turns words.Successful initiating.0.1 initiating.0.2) _ r initiating.2 in
    let unsuccessful = bind_ok (outcome_at turns words.Unsuccessful successful.0.1 successful.0.2) _ r successful.2 in
    let first = type_ok turns nodes b.0 initiating.0 initiating.1 ordered in
    let second = outcome_ok turns words.Successful initiating.0.1 initiating.0.2 successful.0 successful.1 first.ordered in
    let third = outcome_ok turns words.Unsuccessful successful.0.1 successful.0.2 unsuccessful.0 unsuccessful.1 second.ordered in
    subst (MessagesOk (length nodes)) (ok_same _ _ unsuccessful.2)
    (record {
      ordered = third.ordered;
      below = (omega (arith, first.below, second.grown, third.grown), (option_up _ _ successful.0.0 third.grown second.below, third.below));
      from = (first.from, (option_from _ _ successful.0.0 first.grown second.from, option_from _ _ unsuccessful.0.0 (omega (arith, first.grown, second.grown)) third.from));
      grown = omega (arith, first.grown, second.grown, third.grown);
    })

record ProcedureOk (least : ℕ) (r : ProcedureRow × List Node × Left) : Type 0 where
  ordered : AreOrdered 0 r.1
  below : (r.0.initiating.number < length r.1) × (OptionBelow (length r.1) r.0.successful × OptionBelow (length r.1) r.0.unsuccessful)
  from : (least ≤ r.0.initiating.number) × (OptionFrom least r.0.successful × OptionFrom least r.0.unsuccessful)
  grown : least ≤ length r.1

procedure_ok : (turns : ℕ) (rows : List ProcedureRow) (nodes : List Node) (ts : Left) (r : ProcedureRow × List Node × Left) → procedure_row_at turns rows nodes ts ≡ Ok r → AreOrdered 0 nodes → ProcedureOk (length nodes) r
unfolding procedure_row_at
procedure_ok turns rows nodes ts r h ordered =
    let a = bind_ok (sign_at signs.LeftBrace ts) _ r h in
    let messages = bind_ok (messages_at turns nodes a.0) _ r a.2 in
    let b = bind_ok (word_at words.Procedure messages.0.4) _ r messages.2 in
    let c = bind_ok (word_at words.Code b.0) _ r b.2 in
    let code = bind_ok (new_number_at (λ code. has_code code rows) 255 c.0) _ r c.2 in
    let d = bind_ok (word_at words.Criticality code.0.1) _ r code.2 in
    let criticality = bind_ok (criticality_at d.0) _ r d.2 in
    let e = bind_ok (sign_at signs.RightBrace criticality.0.1) _ r criticality.2 in
    let ok = messages_ok turns nodes a.0 messages.0 messages.1 ordered in
    subst (ProcedureOk (length nodes)) (ok_same _ _ e.2) (record { ordered = ok.ordered; below = ok.below; from = ok.from; grown = ok.grown })

record IesOk (least : ℕ) (s : Rows IeRow) : Type 0 where
  ordered : AreOrdered 0 s.nodes
  below : IesBelow (length s.nodes) s.rows
  from : IesFrom least s.rows
  grown : least ≤ length s.nodes

ie_turn_ok : (least turns : ℕ) (s : Rows IeRow) (ts : Left) (t : Bool × Rows IeRow × Left) → ie_turn_at turns s ts ≡ Ok t → IesOk least s → IesOk least t.1
unfolding ie_turn_at
ie_turn_ok least turns s ts t h ok =
    let row = bind_ok (ie_row_at turns s.rows s.nodes ts) _ t h in
    let more = bind_ok (set_goes_on_at row.0.2) _ t row.2 in
    let new = ie_ok turns s.rows s.nodes ts row.0 row.1 ok.ordered in
    subst (λ (x : Bool × Rows IeRow × Left). IesOk least x.1) (ok_same _ _ more.2)
    (record {
      ordered = new.ordered;
      below = ies_push (length row.0.1) s.rows row.0.0 (ies_up _ _ s.rows new.grown ok.below) new.below;
      from = ies_from_push least s.rows row.0.0 ok.from (omega (arith, ok.grown, new.from));
      grown = omega (arith, new.grown, ok.grown);
    })

ie_set_ok : (turns : ℕ) (nodes : List Node) (ts : Left) (r : Rows IeRow × Left) → ie_set_at turns nodes ts ≡ Ok r → AreOrdered 0 nodes → IesOk (length nodes) r.0
unfolding ie_set_at
ie_set_ok turns nodes ts r h ordered =
    let a = bind_ok (set_start_at ts) _ r h in
    repeat_keeps (ie_turn_at turns) (IesOk (length nodes)) (ie_turn_ok (length nodes) turns) turns (rows_with [] nodes) a.0 r a.2 (record { ordered = ordered; below = tt; from = tt; grown = omega arith })

record ProceduresOk (least : ℕ) (s : Rows ProcedureRow) : Type 0 where
  ordered : AreOrdered 0 s.nodes
  below : ProceduresBelow (length s.nodes) s.rows
  from : ProceduresFrom least s.rows
  grown : least ≤ length s.nodes

procedure_turn_ok : (least turns : ℕ) (s : Rows ProcedureRow) (ts : Left) (t : Bool × Rows ProcedureRow × Left) → procedure_turn_at turns s ts ≡ Ok t → ProceduresOk least s → ProceduresOk least t.1
unfolding procedure_turn_at
procedure_turn_ok least turns s ts t h ok =
    let row = bind_ok (procedure_row_at turns s.rows s.nodes ts) _ t h in
    let more = bind_ok (set_goes_on_at row.0.2) _ t row.2 in
    let new = procedure_ok turns s.rows s.nodes ts row.0 row.1 ok.ordered in
    subst (λ (x : Bool × Rows ProcedureRow × Left). ProceduresOk least x.1) (ok_same _ _ more.2)
    (record {
      ordered = new.ordered;
      below = procedures_push (length row.0.1) s.rows row.0.0 (procedures_up _ _ s.rows new.grown ok.below) new.below;
      from = procedures_from_push least s.rows row.0.0 ok.from
          (omega (arith, ok.grown, new.from.0), (option_from _ _ row.0.0.successful ok.grown new.from.1.0, option_from _ _ row.0.0.unsuccessful ok.grown new.from.1.1));
      grown = omega (arith, new.grown, ok.grown);
    })

procedure_set_ok : (turns : ℕ) (nodes : List Node) (ts : Left) (r : Rows ProcedureRow × Left) → procedure_set_at turns nodes ts ≡ Ok r → AreOrdered 0 nodes → ProceduresOk (length nodes) r.0
unfolding procedure_set_at
procedure_set_ok turns nodes ts r h ordered =
    let a = bind_ok (set_start_at ts) _ r h in
    repeat_keeps (procedure_turn_at turns) (ProceduresOk (length nodes)) (procedure_turn_ok (length nodes) turns) turns (rows_with [] nodes) a.0 r a.2 (record { ordered = ordered; below = tt; from = tt; grown = omega arith })

record BodyOk (least : ℕ) (r : Body × List Node × Left) : Type 0 where
  ordered : AreOrdered 0 r.1
  below : BodyBelow (length r.1) r.0
  from : BodyFrom least r.0
  grown : least ≤ length r.1

ie_body_ok : (turns : ℕ) (nodes : List Node) (ts : Left) (r : Body × List Node × Left) → ie_body_at turns nodes ts ≡ Ok r → AreOrdered 0 nodes → BodyOk (length nodes) r
unfolding ie_body_at
ie_body_ok turns nodes ts r h ordered =
    let a = bind_ok (word_at words.ProtocolIes ts) _ r h in
    let set = bind_ok (ie_set_at turns nodes a.0) _ r a.2 in
    let ok = ie_set_ok turns nodes a.0 set.0 set.1 ordered in
    subst (BodyOk (length nodes)) (ok_same _ _ set.2) (record { ordered = ok.ordered; below = ok.below; from = ok.from; grown = ok.grown })

procedure_body_ok : (turns : ℕ) (nodes : List Node) (ts : Left) (r : Body × List Node × Left) → procedure_body_at turns nodes ts ≡ Ok r → AreOrdered 0 nodes → BodyOk (length nodes) r
unfolding procedure_body_at
procedure_body_ok turns nodes ts r h ordered =
    let a = bind_ok (word_at words.ElementaryProcedure ts) _ r h in
    let set = bind_ok (procedure_set_at turns nodes a.0) _ r a.2 in
    let ok = procedure_set_ok turns nodes a.0 set.0 set.1 ordered in
    subst (BodyOk (length nodes)) (ok_same _ _ set.2) (record { ordered = ok.ordered; below = ok.below; from = ok.from; grown = ok.grown })

type_body_ok : (turns : ℕ) (nodes : List Node) (ts : Left) (r : Body × List Node × Left) → type_body_at turns nodes ts ≡ Ok r → AreOrdered 0 nodes → BodyOk (length nodes) r
unfolding type_body_at
type_body_ok turns nodes ts r h ordered =
    let a = bind_ok (sign_at signs.Assignment ts) _ r h in
    let definition = bind_ok (type_at turns nodes a.0) _ r a.2 in
    let ok = type_ok turns nodes a.0 definition.0 definition.1 ordered in
    subst (BodyOk (length nodes)) (ok_same _ _ definition.2) (record { ordered = ok.ordered; below = ok.below; from = ok.from; grown = ok.grown })

body_ok : (turns : ℕ) (nodes : List Node) (ts : Left) (r : Body × List Node × Left) → body_at turns nodes ts ≡ Ok r → AreOrdered 0 nodes → BodyOk (length nodes) r
unfolding body_at
body_ok turns nodes ts r h ordered =
    chosen (begins_with words.ProtocolIes ts) _ _ (Ok r) h (BodyOk (length nodes) r)
    (λ _ h. ie_body_ok turns nodes ts r h ordered)
    (λ _ h. chosen (begins_with words.ElementaryProcedure ts) _ _ (Ok r) h (BodyOk (length nodes) r)
    (λ _ h. procedure_body_ok turns nodes ts r h ordered)
    (λ _ h. type_body_ok turns nodes ts r h ordered))

record PartsOk (s : Parts) : Type 0 where
  ordered : AreOrdered 0 s.nodes
  below : BodiesBelow (length s.nodes) s.assignments
  parted : AreParted 0 s.assignments
  ends : last_end 0 s.assignments ≡ length s.nodes

assignment_ok : (turns : ℕ) (s : Parts) (ts : Left) (r : Parts × Left) → assignment_at turns s ts ≡ Ok r → PartsOk s → PartsOk r.0
unfolding assignment_at
assignment_ok turns s ts r h ok =
    let name = bind_ok (new_assignment_at s.assignments ts) _ r h in
    let body = bind_ok (body_at turns s.nodes name.0.1) _ r name.2 in
    let new = body_ok turns s.nodes name.0.1 body.0 body.1 ok.ordered in
    let a : Assignment = record { name = name.0.0; place = (first_place ts).start; body = body.0.0; end = length body.0.1 } in
    subst (λ (x : Parts × Left). PartsOk x.0) (ok_same _ _ body.2)
    (record {
      ordered = new.ordered;
      below = bodies_push (length body.0.1) s.assignments a (bodies_up _ _ s.assignments new.grown ok.below) new.below;
      parted = parted_push 0 s.assignments a ok.parted (subst (λ (n : ℕ). BodyFrom n body.0.0) (sym ok.ends) new.from) new.below;
      ends = last_end_push 0 s.assignments a;
    })

module_turn_ok : (turns : ℕ) (s : Parts) (ts : Left) (t : Bool × Parts × Left) → module_turn_at turns s ts ≡ Ok t → PartsOk s → PartsOk t.1
unfolding module_turn_at
module_turn_ok turns s ts t h ok =
    chosen (begins_with words.End ts) _ _ (Ok t) h (PartsOk t.1)
    (λ _ h. subst (λ (x : Bool × Parts × Left). PartsOk x.1) (ok_same _ _ h) ok)
    (λ _ h.
    let next = bind_ok (assignment_at turns s ts) _ t h in
    subst (λ (x : Bool × Parts × Left). PartsOk x.1) (ok_same _ _ next.2) (assignment_ok turns s ts next.0 next.1 ok))

syntax_linked : (turns : ℕ) (ts : Left) (s : Syntax) → syntax_at turns ts ≡ Ok s → IsLinked s
unfolding syntax_at assignments_at last_end
syntax_linked turns ts s h =
    let header = bind_ok (header_at ts) _ s h in
    let parts = bind_ok (repeat_at (module_turn_at turns) turns (no_assignments []) header.0.1) _ s header.2 in
    let ok = repeat_keeps (module_turn_at turns) PartsOk (module_turn_ok turns) turns (no_assignments []) header.0.1 parts.0 parts.1 (record { ordered = tt; below = tt; parted = tt; ends = refl }) in
    subst IsLinked (ok_same _ _ parts.2) (record { types = ok.ordered; assignments = ok.below; parts = ok.parted })

-- each number in a module that was read is that of one of its types
pub linked : (text : List ℕ) (s : Syntax) → syntax_of text ≡ Ok s → IsLinked s
linked text s h = syntax_linked (length text + 1) (items_of text) s h
