-- What modules mean that were read.
use Rattle.std.proofs.Common.{◌≡◌, ℕ, ◌+◌, List, [], ◌∷◌, ◌++◌, length, true, ◌&&◌, subst, sym}
use Rattle.std.proofs.lemmas.List.{append_assoc, append-nil}
use Rattle.std.specs.Prelude.{Result, Ok}
use Rattle.gnb_types.proofs.Choices.{by_choice}
use Rattle.asn1_tokens.specs.declared.token.Word.{Word}
use Rattle.asn1_tokens.specs.declared.token.Word.TheVariants as words
use Rattle.asn1_tokens.specs.declared.token.Sign.TheVariants as signs
use Rattle.asn1_tokens.specs.declared.token.Token.TheVariants as tokens
use Rattle.asn1_tokens.specs.Stream.{items_of, first_place, others}
use Rattle.asn1_syntax.specs.declared.types.fault.Fault.{Fault}
use Rattle.asn1_syntax.specs.declared.types.definition.Node.{Node}
use Rattle.asn1_syntax.specs.types.Reading.{Left, begins_with, begins_with_sign}
use Rattle.asn1_syntax.specs.declared.assignments.assignment.IeRow.{IeRow}
use Rattle.asn1_syntax.specs.declared.assignments.assignment.ProcedureRow.{ProcedureRow}
use Rattle.asn1_syntax.specs.declared.assignments.assignment.Body.{Body}
use Rattle.asn1_syntax.specs.declared.assignments.assignment.Body.TheVariants as bodies
use Rattle.asn1_syntax.specs.declared.assignments.assignment.Assignment.{Assignment}
use Rattle.asn1_syntax.specs.declared.assignments.assignment.Syntax.{Syntax}
use Rattle.asn1_syntax.specs.assignments.inside.Sets.{Rows as SoFar}
use Rattle.asn1_syntax.specs.assignments.inside.Module.{Parts, has_all_types, is_assigned, new_assignment_at, ie_body_at, procedure_body_at, type_body_at, body_at, assignment_at, module_turn_at, header_at, no_assignments, assignments_at, syntax_at, syntax_of}
use Rattle.proof_asn1.proofs.asn1_proof_syntax.Gives.{Gives, ok, no_value, and_gives}
use Rattle.proof_asn1.proofs.asn1_proof_syntax.Exact.{a_word}
use Rattle.asn1_defs.specs.ItemMeanings.{The, is, start_of}
use Rattle.asn1_defs.specs.RowMeanings.{AnIe, AProcedure}
use Rattle.asn1_defs.specs.ModuleMeanings.{MeansBody, a_type, ie_set, procedure_set, MeansAssignments, none, one, MeansModule, a_module}
use Rattle.proof_asn1.proofs.values.Taken.{the_word_gives, the_sign_gives, the_upper_gives}
use Rattle.proof_asn1.proofs.values.NameTaken.{Turned, repeat_means}
use Rattle.proof_asn1.proofs.values.TypeTaken.{type_gives}
use Rattle.proof_asn1.proofs.values.SetTaken.{ASet, a_set, ie_set_gives, procedure_set_gives}

-- ---- what a name stands for

abbrev IsBody : List Node → Left → Body × List Node × Left → Type 0
IsBody nodes ts a = MeansBody nodes ts a.0 a.1 a.2

ie_body_gives : (turns : ℕ) (nodes : List Node) (ts : Left) → Gives (IsBody nodes ts) (ie_body_at turns nodes ts)
unfolding ie_body_at
ie_body_gives turns nodes ts = and_gives (the_word_gives words.ProtocolIes ts) (λ a t. and_gives (ie_set_gives turns nodes a) (λ set m. ok (go a t set m)))
  where
    go : (a : Left) → The (tokens.Word words.ProtocolIes) ts a → (set : SoFar IeRow × Left) → ASet AnIe nodes a set → IsBody nodes ts (bodies.IeSet set.0.rows, set.0.nodes, set.1)
    go a t1 set (a_set t2 t3 m) = ie_set t1 t2 t3 m

procedure_body_gives : (turns : ℕ) (nodes : List Node) (ts : Left) → Gives (IsBody nodes ts) (procedure_body_at turns nodes ts)
unfolding procedure_body_at
procedure_body_gives turns nodes ts = and_gives (the_word_gives words.ElementaryProcedure ts) (λ a t. and_gives (procedure_set_gives turns nodes a) (λ set m. ok (go a t set m)))
  where
    go : (a : Left) → The (tokens.Word words.ElementaryProcedure) ts a → (set : SoFar ProcedureRow × Left) → ASet AProcedure nodes a set → IsBody nodes ts (bodies.ProcedureSet set.0.rows, set.0.nodes, set.1)
    go a t1 set (a_set t2 t3 m) = procedure_set t1 t2 t3 m

type_body_gives : (turns : ℕ) (nodes : List Node) (ts : Left) → Gives (IsBody nodes ts) (type_body_at turns nodes ts)
unfolding type_body_at
type_body_gives turns nodes ts = and_gives (the_sign_gives signs.Assignment ts) (λ a t. and_gives (type_gives turns nodes a) (λ definition m. ok (a_type t m)))

body_gives : (turns : ℕ) (nodes : List Node) (ts : Left) → Gives (IsBody nodes ts) (body_at turns nodes ts)
unfolding body_at
body_gives turns nodes ts = by_choice (Gives (IsBody nodes ts)) (begins_with words.ProtocolIes ts) _ _
    (λ _. ie_body_gives turns nodes ts)
    (λ _. by_choice (Gives (IsBody nodes ts)) (begins_with words.ElementaryProcedure ts) _ _
    (λ _. procedure_body_gives turns nodes ts)
    (λ _. type_body_gives turns nodes ts))

-- ---- assignments

new_assignment_gives : (assignments : List Assignment) (ts : Left) → Gives (λ (a : List ℕ × Left). The (tokens.Upper a.0) ts a.1) (new_assignment_at assignments ts)
unfolding new_assignment_at
new_assignment_gives assignments ts = and_gives (the_upper_gives ts) (λ name t.
    by_choice (Gives (λ (a : List ℕ × Left). The (tokens.Upper a.0) ts a.1)) (begins_with_sign signs.Assignment name.1 && has_all_types assignments) _ _ (λ _. no_value)
    (λ _. by_choice (Gives (λ (a : List ℕ × Left). The (tokens.Upper a.0) ts a.1)) (is_assigned name.0 assignments) _ _ (λ _. no_value) (λ _. ok t)))

-- all parts, where these are read before, with the word END behind them
data AreParts (so_far : Parts) (ts : Left) : Parts → Left → Type 0 where
  are_parts : {assignments : List Assignment} {nodes : List Node} {rest : Left} → MeansAssignments so_far.nodes ts assignments nodes (first_place rest).end → AreParts so_far ts (record { assignments = so_far.assignments ++ assignments; nodes = nodes }) rest

-- an assignment is put before what stands behind it
abbrev Assigned : Parts → Left → Parts × Left → Type 0
Assigned so_far ts a = (every : Parts) (rest : Left) → AreParts a.0 a.1 every rest → AreParts so_far ts every rest

assigned : (so_far : Parts) (ts us vs : Left) (name : List ℕ) (body : Body) (inside : List Node) → The (tokens.Upper name) ts us → MeansBody so_far.nodes us body inside vs
    → Assigned so_far ts (record { assignments = so_far.assignments ++ record { name = name; place = start_of ts; body = body; end = length inside } ∷ []; nodes = inside }, vs)
assigned so_far ts us vs name body inside t m _ rest (are_parts {assignments} {nodes} later) =
    subst (λ all. AreParts so_far ts (record { assignments = all; nodes = nodes }) rest) (sym (append_assoc so_far.assignments (record { name = name; place = start_of ts; body = body; end = length inside } ∷ []) assignments)) (are_parts (one t m later))

assignment_gives : (turns : ℕ) (so_far : Parts) (ts : Left) → Gives (Assigned so_far ts) (assignment_at turns so_far ts)
unfolding assignment_at
assignment_gives turns so_far ts = and_gives (new_assignment_gives so_far.assignments ts) (λ name t.
    and_gives (body_gives turns so_far.nodes name.1) (λ body m. ok (λ every rest later. assigned so_far ts name.1 body.2 name.0 body.0 body.1 t m every rest later)))

-- none is left
no_more : (so_far : Parts) (ts us : Left) → The (tokens.Word words.End) ts us → AreParts so_far ts so_far ts
no_more so_far ts us t = subst (λ all. AreParts so_far ts (record { assignments = all; nodes = so_far.nodes }) ts) (append-nil so_far.assignments) (are_parts (none t))

the_word_first : (w : Word) (ts : Left) → begins_with w ts ≡ true → The (tokens.Word w) ts (others ts)
the_word_first w [] h = cc
the_word_first w (p ∷ ps) h = is (a_word w p.token h)

module_turn_gives : (turns : ℕ) (so_far : Parts) (ts : Left) → Gives (Turned AreParts so_far ts) (module_turn_at turns so_far ts)
unfolding module_turn_at
module_turn_gives turns so_far ts = by_choice (Gives (Turned AreParts so_far ts)) (begins_with words.End ts) _ _
    (λ h. ok (record { goes = λ e. cc; ended = λ _. no_more so_far ts (others ts) (the_word_first words.End ts h) }))
    (λ _. and_gives (assignment_gives turns so_far ts) (λ following put. ok (record { goes = λ _ every rest later. put every rest later; ended = λ e. cc })))

-- ---- modules

-- the items up to the word BEGIN
data Header (ts : Left) (a : List ℕ × Left) : Type 0 where
  header : {b c d e f : Left} → The (tokens.Upper a.0) ts b → The (tokens.Word words.Definitions) b c → The (tokens.Word words.Automatic) c d → The (tokens.Word words.Tags) d e → The (tokens.Sign signs.Assignment) e f → The (tokens.Word words.Begin) f a.1 → Header ts a

header_gives : (ts : Left) → Gives (Header ts) (header_at ts)
unfolding header_at
header_gives ts = and_gives (the_upper_gives ts) (λ name t1.
    and_gives (the_word_gives words.Definitions name.1) (λ a t2.
    and_gives (the_word_gives words.Automatic a) (λ b t3.
    and_gives (the_word_gives words.Tags b) (λ c t4.
    and_gives (the_sign_gives signs.Assignment c) (λ d t5.
    and_gives (the_word_gives words.Begin d) (λ e t6. ok (header t1 t2 t3 t4 t5 t6)))))))

module_so : (ts : Left) (head : List ℕ × Left) (parts : Parts × Left) → Header ts head → AreParts (no_assignments []) head.1 parts.0 parts.1 → MeansModule ts (record { name = head.0; assignments = parts.0.assignments; nodes = parts.0.nodes; end = (first_place parts.1).end })
module_so ts head (_, rest) (header t1 t2 t3 t4 t5 t6) (are_parts m) = a_module t1 t2 t3 t4 t5 t6 m

syntax_gives : (turns : ℕ) (ts : Left) → Gives (MeansModule ts) (syntax_at turns ts)
unfolding syntax_at assignments_at
syntax_gives turns ts = and_gives (header_gives ts) (λ head t.
    and_gives (repeat_means (module_turn_at turns) AreParts (module_turn_gives turns) turns (no_assignments []) head.1) (λ parts m. ok (module_so ts head parts t m)))

value_of : {A : Type 0} {P : A → Type 0} (r : Result A Fault) (a : A) → r ≡ Ok a → Gives P r → P a
value_of {P} r a e g = value (subst (Gives P) e g)
  where
    value : Gives P (Ok a) → P a
    value (ok p) = p

-- what is read of a text is what its items mean
pub module_means : (text : List ℕ) (s : Syntax) → syntax_of text ≡ Ok s → MeansModule (items_of text) s
module_means text s h = value_of (syntax_of text) s h (syntax_gives (length text + 1) (items_of text))
