-- Sets and modules that are read are within the bounds, and give each name, id and code once.
use Rattle.std.proofs.lemmas.List.{map-append}
use Rattle.std.proofs.Common.{◌≡◌, ℕ, ◌+◌, ◌≤◌, ◌<◌, List, [], ◌∷◌, ◌++◌, length, map, Bool, false, ◌&&◌, sym, subst, arith, Option}
use Rattle.std.specs.Prelude.{Ok, ◌==◌}
use Rattle.gnb_types.proofs.Choices.{by_choice}
use Rattle.asn1_tokens.specs.declared.token.Word.{Word}
use Rattle.asn1_tokens.specs.declared.token.Word.TheVariants as words
use Rattle.asn1_tokens.specs.declared.token.Sign.TheVariants as signs
use Rattle.asn1_tokens.specs.Words.{is_text}
use Rattle.asn1_tokens.specs.Stream.{items_of, first_place}
use Rattle.asn1_syntax.specs.declared.types.definition.TypeId.{TypeId}
use Rattle.asn1_syntax.specs.declared.types.definition.Node.{Node}
use Rattle.asn1_syntax.specs.types.Reading.{Left, begins_with, begins_with_sign}
use Rattle.asn1_syntax.specs.types.inside.Reading.{word_at, sign_at, upper_at}
use Rattle.asn1_syntax.specs.declared.assignments.assignment.IeRow.{IeRow}
use Rattle.asn1_syntax.specs.declared.assignments.assignment.ProcedureRow.{ProcedureRow}
use Rattle.asn1_syntax.specs.declared.assignments.assignment.Body.{Body}
use Rattle.asn1_syntax.specs.declared.assignments.assignment.Assignment.{Assignment}
use Rattle.asn1_syntax.specs.declared.assignments.assignment.Syntax.{Syntax}
use Rattle.asn1_syntax.specs.assignments.inside.Rows.{new_number_at, criticality_at, presence_at, has_id, ie_row_at, outcome_at, has_code, messages_at, procedure_row_at}
use Rattle.asn1_syntax.specs.assignments.inside.Sets.{set_goes_on_at, Rows, rows_with, ie_turn_at, procedure_turn_at, set_start_at, ie_set_at, procedure_set_at}
use Rattle.asn1_syntax.specs.assignments.inside.Module.{Parts, has_all_types, is_assigned, new_assignment_at, ie_body_at, procedure_body_at, type_body_at, body_at, assignment_at, module_turn_at, header_at, no_assignments, assignments_at, syntax_at, syntax_of}
use Rattle.proof_asn1.proofs.asn1_proof_syntax.Gives.{Gives, ok, no_value, and_gives, Next, repeat_gives}
use Rattle.proof_asn1_modules.specs.asn1_proof_module.Proper.{IsNew, AreOnce, Each, ie_id, procedure_code, IsBodyWithin, name_of, IsProper}
use Rattle.proof_asn1_modules.proofs.asn1_proof_module.Parts.{once_put, each_put, new_of, text_differs, number_differs}
use Rattle.proof_asn1_modules.proofs.asn1_proof_module.TypeBounds.{any_value, natural_within, NodesWithin, type_within}

new_number_within : (taken : ℕ → Bool) (high : ℕ) (ts : Left) → Gives (λ (a : ℕ × Left). (a.0 ≤ high) × (taken a.0 ≡ false)) (new_number_at taken high ts)
unfolding new_number_at
new_number_within taken high ts = and_gives (natural_within 0 high ts) (λ number h.
    by_choice (Gives (λ (a : ℕ × Left). (a.0 ≤ high) × (taken a.0 ≡ false))) (taken number.0) _ _ (λ _. no_value) (λ t. ok (h.1, t)))

-- ---- rows

-- a row whose number is within the bounds and new, with the types in it
abbrev RowWithin : {R : Type 0} → (R → ℕ) → ℕ → List R → R × List Node × Left → Type 0
RowWithin number limit rows a = ((number a.0 < limit) × IsNew (number a.0) (map number rows)) × NodesWithin a.1

ie_row_within : (turns : ℕ) (rows : List IeRow) (nodes : List Node) (ts : Left) → NodesWithin nodes → Gives (RowWithin ie_id 65536 rows) (ie_row_at turns rows nodes ts)
unfolding ie_row_at
ie_row_within turns rows nodes ts n = and_gives (any_value (sign_at signs.LeftBrace ts)) (λ a _.
    and_gives (any_value (word_at words.Id a)) (λ b _.
    and_gives (new_number_within (λ id. has_id id rows) 65535 b) (λ id h.
    and_gives (any_value (word_at words.Criticality id.1)) (λ c _.
    and_gives (any_value (criticality_at c)) (λ criticality _.
    and_gives (any_value (word_at words.Type criticality.1)) (λ d _.
    and_gives (type_within turns nodes d n) (λ definition m.
    and_gives (any_value (word_at words.Presence definition.2)) (λ e _.
    and_gives (any_value (presence_at e)) (λ presence _.
    and_gives (any_value (sign_at signs.RightBrace presence.1)) (λ f _.
    ok ((omega (arith, h.0), new_of (λ row. row.id == id.0) ie_id id.0 (λ row. number_differs row.id id.0) rows h.1), m)))))))))))

abbrev OptionWithin : Option TypeId × List Node × Left → Type 0
OptionWithin a = NodesWithin a.1

outcome_within : (turns : ℕ) (w : Word) (nodes : List Node) (ts : Left) → NodesWithin nodes → Gives OptionWithin (outcome_at turns w nodes ts)
unfolding outcome_at
outcome_within turns w nodes ts n = by_choice (Gives OptionWithin) (begins_with w ts) _ _
    (λ _. and_gives (any_value (word_at w ts)) (λ a _.
    and_gives (any_value (word_at words.Outcome a)) (λ b _.
    and_gives (type_within turns nodes b n) (λ definition m. ok m))))
    (λ _. ok n)

messages_within : (turns : ℕ) (nodes : List Node) (ts : Left) → NodesWithin nodes → Gives (λ (a : TypeId × Option TypeId × Option TypeId × List Node × Left). NodesWithin a.3) (messages_at turns nodes ts)
unfolding messages_at
messages_within turns nodes ts n = and_gives (any_value (word_at words.Initiating ts)) (λ a _.
    and_gives (any_value (word_at words.Message a)) (λ b _.
    and_gives (type_within turns nodes b n) (λ initiating m.
    and_gives (outcome_within turns words.Successful initiating.1 initiating.2 m) (λ good g.
    and_gives (outcome_within turns words.Unsuccessful good.1 good.2 g) (λ bad h. ok h)))))

procedure_row_within : (turns : ℕ) (rows : List ProcedureRow) (nodes : List Node) (ts : Left) → NodesWithin nodes → Gives (RowWithin procedure_code 256 rows) (procedure_row_at turns rows nodes ts)
unfolding procedure_row_at
procedure_row_within turns rows nodes ts n = and_gives (any_value (sign_at signs.LeftBrace ts)) (λ a _.
    and_gives (messages_within turns nodes a n) (λ messages m.
    and_gives (any_value (word_at words.Procedure messages.4)) (λ b _.
    and_gives (any_value (word_at words.Code b)) (λ c _.
    and_gives (new_number_within (λ code. has_code code rows) 255 c) (λ code h.
    and_gives (any_value (word_at words.Criticality code.1)) (λ d _.
    and_gives (any_value (criticality_at d)) (λ criticality _.
    and_gives (any_value (sign_at signs.RightBrace criticality.1)) (λ e _.
    ok ((omega (arith, h.0), new_of (λ row. row.code == code.0) procedure_code code.0 (λ row. number_differs row.code code.0) rows h.1), m)))))))))

-- ---- sets

abbrev RowsWithin : {R : Type 0} → (R → ℕ) → ℕ → Rows R → Left → Type 0
RowsWithin number limit rows ts = (Each (λ n. n < limit) (map number rows.rows) × AreOnce (map number rows.rows)) × NodesWithin rows.nodes

row_put : {R : Type 0} (number : R → ℕ) (limit : ℕ) (rows : List R) (row : R) (nodes : List Node) (us : Left) → (Each (λ n. n < limit) (map number rows) × AreOnce (map number rows)) → RowWithin number limit rows (row, nodes, us) → RowsWithin number limit (rows_with (rows ++ row ∷ []) nodes) us
row_put number limit rows row nodes us so_far new = (
  subst (λ (ns : List ℕ). Each (λ n. n < limit) ns × AreOnce ns) (sym (map-append number rows (row ∷ []))) (each_put (λ n. n < limit) (map number rows) (number row) so_far.0 new.0.0, once_put (map number rows) (number row) so_far.1 new.0.1),
  new.1,
)

ie_turn_within : (turns : ℕ) (so_far : Rows IeRow) (ts : Left) → RowsWithin ie_id 65536 so_far ts → Gives (Next (RowsWithin ie_id 65536) (RowsWithin ie_id 65536)) (ie_turn_at turns so_far ts)
unfolding ie_turn_at
ie_turn_within turns so_far ts p = and_gives (ie_row_within turns so_far.rows so_far.nodes ts p.1) (λ row r.
    and_gives (any_value (set_goes_on_at row.2)) (λ more _.
    ok (λ _. row_put ie_id 65536 so_far.rows row.0 row.1 more.1 p.0 r, λ _. row_put ie_id 65536 so_far.rows row.0 row.1 more.1 p.0 r)))

procedure_turn_within : (turns : ℕ) (so_far : Rows ProcedureRow) (ts : Left) → RowsWithin procedure_code 256 so_far ts → Gives (Next (RowsWithin procedure_code 256) (RowsWithin procedure_code 256)) (procedure_turn_at turns so_far ts)
unfolding procedure_turn_at
procedure_turn_within turns so_far ts p = and_gives (procedure_row_within turns so_far.rows so_far.nodes ts p.1) (λ row r.
    and_gives (any_value (set_goes_on_at row.2)) (λ more _.
    ok (λ _. row_put procedure_code 256 so_far.rows row.0 row.1 more.1 p.0 r, λ _. row_put procedure_code 256 so_far.rows row.0 row.1 more.1 p.0 r)))

abbrev SetWithin : {R : Type 0} → (R → ℕ) → ℕ → Rows R × Left → Type 0
SetWithin number limit a = RowsWithin number limit a.0 a.1

ie_set_within : (turns : ℕ) (nodes : List Node) (ts : Left) → NodesWithin nodes → Gives (SetWithin ie_id 65536) (ie_set_at turns nodes ts)
unfolding ie_set_at
ie_set_within turns nodes ts n = and_gives (any_value (set_start_at ts)) (λ a _.
    repeat_gives (ie_turn_at turns) (RowsWithin ie_id 65536) (RowsWithin ie_id 65536) (ie_turn_within turns) turns (rows_with [] nodes) a ((tt, tt), n))

procedure_set_within : (turns : ℕ) (nodes : List Node) (ts : Left) → NodesWithin nodes → Gives (SetWithin procedure_code 256) (procedure_set_at turns nodes ts)
unfolding procedure_set_at
procedure_set_within turns nodes ts n = and_gives (any_value (set_start_at ts)) (λ a _.
    repeat_gives (procedure_turn_at turns) (RowsWithin procedure_code 256) (RowsWithin procedure_code 256) (procedure_turn_within turns) turns (rows_with [] nodes) a ((tt, tt), n))

-- ---- assignments

abbrev BodyWithin : Body × List Node × Left → Type 0
BodyWithin a = IsBodyWithin a.0 × NodesWithin a.1

body_within : (turns : ℕ) (nodes : List Node) (ts : Left) → NodesWithin nodes → Gives BodyWithin (body_at turns nodes ts)
unfolding body_at ie_body_at procedure_body_at type_body_at
body_within turns nodes ts n = by_choice (Gives BodyWithin) (begins_with words.ProtocolIes ts) _ _
    (λ _. and_gives (any_value (word_at words.ProtocolIes ts)) (λ a _. and_gives (ie_set_within turns nodes a n) (λ set h. ok h)))
    (λ _. by_choice (Gives BodyWithin) (begins_with words.ElementaryProcedure ts) _ _
    (λ _. and_gives (any_value (word_at words.ElementaryProcedure ts)) (λ a _. and_gives (procedure_set_within turns nodes a n) (λ set h. ok h)))
    (λ _. and_gives (any_value (sign_at signs.Assignment ts)) (λ a _. and_gives (type_within turns nodes a n) (λ definition m. ok (tt, m)))))

new_assignment_within : (assignments : List Assignment) (ts : Left) → Gives (λ (a : List ℕ × Left). IsNew a.0 (map name_of assignments)) (new_assignment_at assignments ts)
unfolding new_assignment_at
new_assignment_within assignments ts = and_gives (any_value (upper_at ts)) (λ name _.
    by_choice (Gives (λ (a : List ℕ × Left). IsNew a.0 (map name_of assignments))) (begins_with_sign signs.Assignment name.1 && has_all_types assignments) _ _ (λ _. no_value)
    (λ _. by_choice (Gives (λ (a : List ℕ × Left). IsNew a.0 (map name_of assignments))) (is_assigned name.0 assignments) _ _ (λ _. no_value)
    (λ h. ok (new_of (λ other. is_text other.name name.0) name_of name.0 (λ a. text_differs a.name name.0) assignments h))))

-- the assignments so far
abbrev SoFar : Parts → Left → Type 0
SoFar parts ts = NodesWithin parts.nodes × Each (λ assignment. IsBodyWithin assignment.body) parts.assignments × AreOnce (map name_of parts.assignments)

abbrev SoFarAt : Parts × Left → Type 0
SoFarAt a = SoFar a.0 a.1

assignment_put : (so_far : Parts) (new : Assignment) (nodes : List Node) (us : Left) → SoFar so_far us → NodesWithin nodes → IsBodyWithin new.body → IsNew new.name (map name_of so_far.assignments) → SoFar (record { assignments = so_far.assignments ++ new ∷ []; nodes = nodes }) us
assignment_put so_far new nodes us p n body is_new = (
  n,
  each_put (λ (assignment : Assignment). IsBodyWithin assignment.body) so_far.assignments new p.1 body,
  subst AreOnce (sym (map-append name_of so_far.assignments (new ∷ []))) (once_put (map name_of so_far.assignments) new.name p.2 is_new),
)

assignment_within : (turns : ℕ) (so_far : Parts) (ts : Left) → SoFar so_far ts → Gives SoFarAt (assignment_at turns so_far ts)
unfolding assignment_at
assignment_within turns so_far ts p = and_gives (new_assignment_within so_far.assignments ts) (λ name new.
    and_gives (body_within turns so_far.nodes name.1 p.0) (λ body b.
    ok (assignment_put so_far (record { name = name.0; place = (first_place ts).start; body = body.0; end = length body.1 }) body.1 body.2 p b.1 b.0 new)))

module_turn_within : (turns : ℕ) (so_far : Parts) (ts : Left) → SoFar so_far ts → Gives (Next SoFar SoFar) (module_turn_at turns so_far ts)
unfolding module_turn_at
module_turn_within turns so_far ts p = by_choice (Gives (Next SoFar SoFar)) (begins_with words.End ts) _ _
    (λ _. ok (λ _. p, λ _. p))
    (λ _. and_gives (assignment_within turns so_far ts p) (λ following q. ok (λ _. q, λ _. q)))

syntax_within : (turns : ℕ) (ts : Left) → Gives IsProper (syntax_at turns ts)
unfolding syntax_at assignments_at
syntax_within turns ts = and_gives (any_value (header_at ts)) (λ header _.
    and_gives (repeat_gives (module_turn_at turns) SoFar SoFar (module_turn_within turns) turns (no_assignments []) header.1 (tt, tt, tt)) (λ parts p.
    ok (record { types = p.0; sets = p.1; names = p.2 })))

pub proper : (text : List ℕ) (s : Syntax) → syntax_of text ≡ Ok s → IsProper s
proper text s h = value (subst (Gives IsProper) h (syntax_within (length text + 1) (items_of text)))
  where
    value : Gives IsProper (Ok s) → IsProper s
    value (ok p) = p
