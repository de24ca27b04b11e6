-- Modules and their assignments.
use Rattle.std.proofs.Common.{◌≡◌, ℕ, ◌+◌, List, [], ◌∷◌, ◌++◌, map, suc, zero, Bool, true, false, cond, ◌&&◌, refl, sym, ap, ◌∙◌, subst, arith, nat_le}
use Rattle.std.specs.Prelude.{Result, Ok}
use Rattle.std.specs.List.{count_by}
use Rattle.gnb_types.proofs.Choices.{by_choice}
use Rattle.asn1_tokens.specs.declared.token.Word.TheVariants as words
use Rattle.asn1_tokens.specs.declared.token.Sign.TheVariants as signs
use Rattle.asn1_tokens.specs.declared.token.Token.{Token}
use Rattle.asn1_tokens.specs.declared.token.Token.TheVariants as tokens
use Rattle.asn1_tokens.specs.Words.{is_text}
use Rattle.asn1_syntax.specs.declared.types.fault.Fault.{Fault}
use Rattle.asn1_syntax.specs.declared.types.definition.Node.{Node}
use Rattle.asn1_syntax.specs.types.Reading.{Left, is_sign_token, begins_with, begins_with_sign}
use Rattle.asn1_syntax.specs.types.inside.Reading.{◌>>=◌, upper_at, repeat_at}
use Rattle.asn1_syntax.specs.types.Members.{has_name}
use Rattle.asn1_syntax.specs.declared.assignments.assignment.Body.{Body}
use Rattle.asn1_syntax.specs.declared.assignments.assignment.Body.TheVariants as bodies
use Rattle.asn1_syntax.specs.declared.assignments.assignment.Assignment.{Assignment}
use Rattle.asn1_syntax.specs.assignments.Module.{is_type_body, is_type}
use Rattle.asn1_syntax.specs.assignments.inside.Module.{Parts, has_all_types, is_assigned, new_assignment_at, ie_body_at, procedure_body_at, type_body_at, body_at, assignment_at, module_turn_at, header_at, no_assignments, assignments_at}
use Rattle.asn1_defs.specs.Spelling.{tokens_of}
use Rattle.asn1_defs.specs.Repetitions.{begins_assignment, assigned, types_assigned}
use Rattle.asn1_defs.specs.ItemFaults.{defines_type, passes_bound, is_repeated}
use Rattle.proof_asn1.specs.items.JudgedItems.{bounds, twice}
use Rattle.proof_asn1.proofs.items.Views.{Same, map_snoc, any_map, count_snoc}
use Rattle.proof_asn1.proofs.items.Runs.{Run, and_then, done, wrong, refused, took, word_then, sign_then, upper_first, upper_then}
use Rattle.proof_asn1.proofs.items.TypeRuns.{type_run}
use Rattle.proof_asn1.proofs.items.RowRuns.{bind_assoc, Shut, ie_set_run, procedure_set_run}

abbrev name_of : Assignment → List ℕ
name_of assignment = assignment.name

-- before an assignment, or the end: these were assigned
pub record Between (assignments : List Assignment) (before : List Token) : Type 0 where
  pub ends : begins_assignment before ≡ true
  pub names : assigned before ≡ map name_of assignments
  pub types : types_assigned before ≡ count_by is_type assignments

-- ---- the name of an assignment

defines_same : (us : Left) → defines_type (tokens_of us) ≡ begins_with_sign signs.Assignment us
defines_same [] = refl
defines_same (p ∷ ps) = go p.token
  where
    go : (t : Token) → defines_type (t ∷ tokens_of ps) ≡ is_sign_token signs.Assignment t
    go (tokens.Sign signs.Assignment) = refl
    go (tokens.Sign signs.Ellipsis) = refl
    go (tokens.Sign signs.Range) = refl
    go (tokens.Sign signs.LeftBrace) = refl
    go (tokens.Sign signs.RightBrace) = refl
    go (tokens.Sign signs.LeftParenthesis) = refl
    go (tokens.Sign signs.RightParenthesis) = refl
    go (tokens.Sign signs.Comma) = refl
    go (tokens.Sign signs.Bar) = refl
    go (tokens.Upper name) = refl
    go (tokens.Lower name) = refl
    go (tokens.Number value) = refl
    go (tokens.Word found) = refl
    go tokens.OutOfProfile = refl
    go tokens.Nothing = refl
    go tokens.EndOfText = refl

passes_same : (assignments : List Assignment) (before : List Token) (name : List ℕ) (us : Left) → Between assignments before → passes_bound before (tokens.Upper name) (tokens_of us) ≡ begins_with_sign signs.Assignment us && has_all_types assignments
unfolding passes_bound
passes_same assignments before name us between = ap (λ (b : Bool). b && (defines_type (tokens_of us) && nat_le 1000 (types_assigned before))) between.ends
    ∙ ap (λ (b : Bool). b && nat_le 1000 (types_assigned before)) (defines_same us)
    ∙ ap (λ (n : ℕ). begins_with_sign signs.Assignment us && nat_le 1000 n) between.types

repeated_same : (assignments : List Assignment) (before : List Token) (name : List ℕ) → Between assignments before → is_repeated before (tokens.Upper name) ≡ is_assigned name assignments
unfolding is_repeated
repeated_same assignments before name between = ap (λ (b : Bool). b && has_name name (assigned before)) between.ends
    ∙ ap (has_name name) between.names
    ∙ any_map (λ other. is_text other name) name_of assignments

new_assignment_then : {A : Type 0} {rest : A → Left} {Post : A → List Token → Type 0} {before : List Token} {g : List ℕ × Left → Result A Fault} (assignments : List Assignment) (ts : Left) → Between assignments before → ((a : List ℕ × Left) → Run (tokens.Upper a.0 ∷ before) a.1 rest Post (g a)) → Run before ts rest Post (new_assignment_at assignments ts >>= g)
unfolding new_assignment_at
new_assignment_then {rest} {Post} {before} {g} assignments ts between on = subst (Run before ts rest Post) (bind_assoc (upper_at ts) _ g) (upper_first ts (λ a stands.
    by_choice (λ (r : Result (List ℕ × Left) Fault). Run before ts rest Post (r >>= g)) (begins_with_sign signs.Assignment a.1 && has_all_types assignments) _ _
    (λ h. wrong stands refl (bounds (passes_same assignments before a.0 a.1 between ∙ h)))
    (λ h. by_choice (λ (r : Result (List ℕ × Left) Fault). Run before ts rest Post (r >>= g)) (is_assigned a.0 assignments) _ _
    (λ k. wrong stands refl (twice (passes_same assignments before a.0 a.1 between ∙ h) (repeated_same assignments before a.0 between ∙ k)))
    (λ k. took stands refl (passes_same assignments before a.0 a.1 between ∙ h) (repeated_same assignments before a.0 between ∙ k) (on a)))))

-- ---- what a name stands for

-- behind what a name stands for; the name is in the items before
record Meant (outer : List Token) (body : Body) (after : List Token) : Type 0 where
  ends : begins_assignment after ≡ true
  names : assigned after ≡ assigned outer
  types : types_assigned after ≡ types_assigned outer + cond (is_type_body body) 1 0

set_meant : (outer after : List Token) (body : Body) → is_type_body body ≡ false → Shut outer after → Meant outer body after
set_meant outer after body is shut = record { ends = shut.ends; names = shut.names; types = omega (arith, shut.types, ap {B = ℕ} (λ (b : Bool). cond b 1 0) is) }

type_meant : (name : List ℕ) (before after : List Token) (body : Body) → is_type_body body ≡ true → Same (tokens.Sign signs.Assignment ∷ tokens.Upper name ∷ before) after → Meant (tokens.Upper name ∷ before) body after
unfolding assigned types_assigned
type_meant name before after body is same = record { ends = same.ends; names = same.names; types = omega (arith, same.types, ap {B = ℕ} (λ (b : Bool). cond b 1 0) is) }

abbrev Meaning : List ℕ → List Token → Left → Result (Body × List Node × Left) Fault → Type 0
Meaning name before ts r = Run (tokens.Upper name ∷ before) ts (λ (a : Body × List Node × Left). a.2) (λ a after. Meant (tokens.Upper name ∷ before) a.0 after) r

ie_body_run : (turns : ℕ) (nodes : List Node) (name : List ℕ) (before : List Token) (ts : Left) → Meaning name before ts (ie_body_at turns nodes ts)
unfolding ie_body_at
ie_body_run turns nodes name before ts = word_then words.ProtocolIes ts (λ a.
    and_then (ie_set_run turns nodes (tokens.Upper name ∷ before) a) (λ set after shut. done (bodies.IeSet set.0.rows, set.0.nodes, set.1) (set_meant _ after _ refl shut)))

procedure_body_run : (turns : ℕ) (nodes : List Node) (name : List ℕ) (before : List Token) (ts : Left) → Meaning name before ts (procedure_body_at turns nodes ts)
unfolding procedure_body_at
procedure_body_run turns nodes name before ts = word_then words.ElementaryProcedure ts (λ a.
    and_then (procedure_set_run turns nodes (tokens.Upper name ∷ before) a) (λ set after shut. done (bodies.ProcedureSet set.0.rows, set.0.nodes, set.1) (set_meant _ after _ refl shut)))

type_body_run : (turns : ℕ) (nodes : List Node) (name : List ℕ) (before : List Token) (ts : Left) → Meaning name before ts (type_body_at turns nodes ts)
unfolding type_body_at
type_body_run turns nodes name before ts = sign_then signs.Assignment ts refl (λ a.
    and_then (type_run turns nodes _ a refl) (λ definition after same. done (bodies.Type definition.0, definition.1, definition.2) (type_meant name before after _ refl same)))

body_run : (turns : ℕ) (nodes : List Node) (name : List ℕ) (before : List Token) (ts : Left) → Meaning name before ts (body_at turns nodes ts)
unfolding body_at
body_run turns nodes name before ts = by_choice (Meaning name before ts) (begins_with words.ProtocolIes ts) _ _
    (λ _. ie_body_run turns nodes name before ts)
    (λ _. by_choice (Meaning name before ts) (begins_with words.ElementaryProcedure ts) _ _
    (λ _. procedure_body_run turns nodes name before ts)
    (λ _. type_body_run turns nodes name before ts))

-- ---- assignments

one_more : (assignments : List Assignment) (new : Assignment) (before after : List Token) → Between assignments before → Meant (tokens.Upper new.name ∷ before) new.body after → Between (assignments ++ new ∷ []) after
unfolding assigned types_assigned
one_more assignments new before after between meant = record {
  ends = meant.ends;
  names = meant.names ∙ ap (λ (b : Bool). cond b (assigned before ++ new.name ∷ []) (assigned before)) between.ends ∙ ap (λ (l : List (List ℕ)). l ++ new.name ∷ []) between.names ∙ sym (map_snoc name_of assignments new);
  types = omega (arith, meant.types, between.types, count_snoc is_type assignments new);
}

assignment_run : (turns : ℕ) (so_far : Parts) (before : List Token) (ts : Left) → Between so_far.assignments before → Run before ts (λ a. a.1) (λ a after. Between a.0.assignments after) (assignment_at turns so_far ts)
unfolding assignment_at
assignment_run turns so_far before ts between = new_assignment_then so_far.assignments ts between (λ name.
    and_then (body_run turns so_far.nodes name.0 before name.1) (λ body after meant. done (_, body.2) (one_more so_far.assignments _ before after between meant)))

-- Behind the assignments stands the word END.
assigning_run : (most turns : ℕ) (state : Parts) (before : List Token) (ts : Left) → Between state.assignments before → Run before ts (λ (a : Parts × Left). a.1) (λ a _. begins_with words.End a.1 ≡ true) (repeat_at (module_turn_at most) turns state ts)
unfolding repeat_at module_turn_at
assigning_run most zero state before ts between = refused ts
assigning_run most (suc turns) state before ts between = by_choice (λ (r : Result (Bool × Parts × Left) Fault). Run before ts (λ (a : Parts × Left). a.1) (λ a _. begins_with words.End a.1 ≡ true) (r >>= λ t. cond t.0 (repeat_at (module_turn_at most) turns t.1 t.2) (Ok (t.1, t.2)))) (begins_with words.End ts) _ _
    (λ h. done (state, ts) h)
    (λ _. subst (Run before ts (λ (a : Parts × Left). a.1) (λ a _. begins_with words.End a.1 ≡ true)) (bind_assoc (assignment_at most state ts) _ _)
    (and_then (assignment_run most state before ts between) (λ following after more. assigning_run most turns following.0 after following.1 more)))

pub assignments_run : (turns : ℕ) (nodes : List Node) (before : List Token) (ts : Left) → Between [] before → Run before ts (λ a. a.1) (λ a _. begins_with words.End a.1 ≡ true) (assignments_at turns nodes ts)
unfolding assignments_at
assignments_run turns nodes before ts between = assigning_run turns turns (no_assignments nodes) before ts between

header_end : (name : List ℕ) → Between [] (tokens.Word words.Begin ∷ tokens.Sign signs.Assignment ∷ tokens.Word words.Tags ∷ tokens.Word words.Automatic ∷ tokens.Word words.Definitions ∷ tokens.Upper name ∷ [])
unfolding assigned types_assigned
header_end name = record { ends = refl; names = refl; types = refl }

pub header_run : (ts : Left) → Run [] ts (λ a. a.1) (λ _ after. Between [] after) (header_at ts)
unfolding header_at
header_run ts = upper_then ts refl (λ name.
    word_then words.Definitions name.1 (λ a.
    word_then words.Automatic a (λ b.
    word_then words.Tags b (λ c.
    sign_then signs.Assignment c refl (λ d.
    word_then words.Begin d (λ e. done (name.0, e) (header_end name.0)))))))
