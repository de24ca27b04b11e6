-- Modules and their assignments.
use Rattle.std.proofs.Common.{◌≡◌, ℕ, ◌+◌, List, [], ◌∷◌, ◌++◌, length, true, ◌&&◌, refl, ap, ◌∙◌, subst}
use Rattle.std.specs.Prelude.{Result, Ok}
use Rattle.gnb_types.proofs.Choices.{by_choice}
use Rattle.asn1_tokens.specs.declared.token.Word.TheVariants as words
use Rattle.asn1_tokens.specs.declared.token.Sign.TheVariants as signs
use Rattle.asn1_tokens.specs.declared.token.Token.{Token}
use Rattle.asn1_tokens.specs.declared.token.Token.TheVariants as tokens
use Rattle.asn1_tokens.specs.Stream.{Placed, items_of, first_token, first_place}
use Rattle.asn1_syntax.specs.declared.types.fault.Fault.{Fault}
use Rattle.asn1_syntax.specs.declared.types.definition.Node.{Node}
use Rattle.asn1_syntax.specs.types.Reading.{Left, begins_with, begins_with_sign}
use Rattle.asn1_syntax.specs.declared.assignments.assignment.Body.{Body}
use Rattle.asn1_syntax.specs.declared.assignments.assignment.Assignment.{Assignment}
use Rattle.asn1_syntax.specs.declared.assignments.assignment.Syntax.{Syntax}
use Rattle.asn1_syntax.specs.assignments.inside.Module.{Parts, has_all_types, is_assigned, new_assignment_at, ie_body_at, procedure_body_at, type_body_at, body_at, assignment_at, module_turn_at, header_at, no_assignments, assignments_at, syntax_at, syntax_of}
use Rattle.asn1_defs.specs.Links.{AreOrdered}
use Rattle.asn1_module.proofs.RowLinks.{linked}
use Rattle.law_asn1.specs.text.Written.{Written, upper, texts_of, body_text, assignment_text, assignments_text, header_text, IsWrittenSo}
use Rattle.proof_asn1.proofs.asn1_proof_syntax.Gives.{Gives, ok, no_value, and_gives, Next, repeat_gives}
use Rattle.proof_asn1.proofs.asn1_proof_syntax.Exact.{a_word}
use Rattle.law_asn1.proofs.text.Taken.{Taken, ◌then◌, nothing_taken, written_as, word_gives, sign_gives, upper_gives}
use Rattle.law_asn1.proofs.text.TypeTexts.{Grows, grows_then, grows_not, type_gives}
use Rattle.law_asn1.proofs.text.RowTexts.{ie_set_gives, procedure_set_gives}

new_assignment_gives : (assignments : List Assignment) (ts : List Placed) → Gives (λ (a : List ℕ × Left). Taken (upper a.0) ts a.1) (new_assignment_at assignments ts)
unfolding new_assignment_at
new_assignment_gives assignments ts = and_gives (upper_gives ts) (λ name t.
    by_choice (Gives (λ (a : List ℕ × Left). Taken (upper a.0) ts a.1)) (begins_with_sign signs.Assignment name.1 && has_all_types assignments) _ _ (λ _. no_value)
    (λ _. by_choice (Gives (λ (a : List ℕ × Left). Taken (upper a.0) ts a.1)) (is_assigned name.0 assignments) _ _ (λ _. no_value) (λ _. ok t)))

-- ---- what a name stands for

abbrev BodyFacts : List Node → List Node → List Placed → Body × List Node × Left → Type 0
BodyFacts all old ts a = Grows old a.1 × (Grows a.1 all → Taken (body_text (texts_of all) a.0) ts a.2)

body_gives : (all : List Node) → AreOrdered 0 all → (turns : ℕ) (nodes : List Node) (ts : List Placed) → Gives (BodyFacts all nodes ts) (body_at turns nodes ts)
unfolding body_at ie_body_at procedure_body_at type_body_at
body_gives all ordered turns nodes ts = by_choice (Gives (BodyFacts all nodes ts)) (begins_with words.ProtocolIes ts) _ _
    (λ _. and_gives (word_gives words.ProtocolIes ts) (λ a t1. and_gives (ie_set_gives all ordered turns nodes a) (λ set t2. ok (t2.0, λ up. t1 then t2.1 up))))
    (λ _. by_choice (Gives (BodyFacts all nodes ts)) (begins_with words.ElementaryProcedure ts) _ _
    (λ _. and_gives (word_gives words.ElementaryProcedure ts) (λ a t1. and_gives (procedure_set_gives all ordered turns nodes a) (λ set t2. ok (t2.0, λ up. t1 then t2.1 up))))
    (λ _. and_gives (sign_gives signs.Assignment ts) (λ a t1. and_gives (type_gives all ordered turns nodes a) (λ definition t2. ok (t2.0, λ up. t1 then t2.1 up)))))

-- ---- assignments

assignments_put : (texts : List Written) (assignments : List Assignment) (new : Assignment) (tail : List Token) → assignments_text texts assignments (assignment_text texts new tail) ≡ assignments_text texts (assignments ++ new ∷ []) tail
unfolding assignments_text
assignments_put texts [] new tail = refl
assignments_put texts (a ∷ assignments) new tail = ap (λ (t : List Token). assignment_text texts a t) (assignments_put texts assignments new tail)

-- the assignments so far were taken
abbrev SoFar : List Node → List Placed → Parts → Left → Type 0
SoFar all start parts ts = Grows parts.nodes all → Taken (assignments_text (texts_of all) parts.assignments) start ts

abbrev AtEnd : List Node → List Placed → Parts → Left → Type 0
AtEnd all start parts ts = SoFar all start parts ts × (begins_with words.End ts ≡ true)

assignment_gives : (all : List Node) → AreOrdered 0 all → (turns : ℕ) (start : List Placed) (so_far : Parts) (ts : List Placed) → SoFar all start so_far ts → Gives (λ (a : Parts × Left). SoFar all start a.0 a.1) (assignment_at turns so_far ts)
unfolding assignment_at
assignment_gives all ordered turns start so_far ts p = and_gives (new_assignment_gives so_far.assignments ts) (λ name t1.
    and_gives (body_gives all ordered turns so_far.nodes name.1) (λ body t2.
    ok (λ up. written_as (assignments_text (texts_of all) (so_far.assignments ++ record { name = name.0; place = (first_place ts).start; body = body.0; end = length body.1 } ∷ []))
    (assignments_put (texts_of all) so_far.assignments (record { name = name.0; place = (first_place ts).start; body = body.0; end = length body.1 }))
    (p (grows_then so_far.nodes body.1 all t2.0 up) then t1 then t2.1 up))))

module_turn_gives : (all : List Node) → AreOrdered 0 all → (turns : ℕ) (start : List Placed) (so_far : Parts) (ts : List Placed) → SoFar all start so_far ts → Gives (Next (SoFar all start) (AtEnd all start)) (module_turn_at turns so_far ts)
unfolding module_turn_at
module_turn_gives all ordered turns start so_far ts p = by_choice (Gives (Next (SoFar all start) (AtEnd all start))) (begins_with words.End ts) _ _
    (λ h. ok (λ e. cc, λ e. (p, h)))
    (λ h. and_gives (assignment_gives all ordered turns start so_far ts p) (λ following q. ok (λ e. q, λ e. cc)))

header_gives : (ts : List Placed) → Gives (λ (a : List ℕ × Left). Taken (header_text a.0) ts a.1) (header_at ts)
unfolding header_at
header_gives ts = and_gives (upper_gives ts) (λ name t1.
    and_gives (word_gives words.Definitions name.1) (λ a t2.
    and_gives (word_gives words.Automatic a) (λ b t3.
    and_gives (word_gives words.Tags b) (λ c t4.
    and_gives (sign_gives signs.Assignment c) (λ d t5.
    and_gives (word_gives words.Begin d) (λ e t6. ok (t1 then t2 then t3 then t4 then t5 then t6)))))))

-- the items before the word END
abbrev ModuleFacts : List Node → List Placed → Syntax → Type 0
ModuleFacts all ts s = Grows s.nodes all → (us : List Placed) × Taken (λ t. header_text s.name (assignments_text (texts_of all) s.assignments t)) ts us × (begins_with words.End us ≡ true) × (s.end ≡ (first_place us).end)

syntax_gives : (all : List Node) → AreOrdered 0 all → (turns : ℕ) (ts : List Placed) → Gives (ModuleFacts all ts) (syntax_at turns ts)
unfolding syntax_at assignments_at assignments_text
syntax_gives all ordered turns ts = and_gives (header_gives ts) (λ header t1.
    and_gives (repeat_gives (module_turn_at turns) (SoFar all header.1) (AtEnd all header.1) (λ so_far us p. module_turn_gives all ordered turns header.1 so_far us p) turns (no_assignments []) header.1 (λ _. nothing_taken header.1)) (λ parts t2.
    ok (λ up. (parts.1, t1 then t2.0 up, t2.1, refl))))

-- ---- a module's text

value_of : {A : Type 0} {P : A → Type 0} (r : Result A Fault) (a : A) → r ≡ Ok a → Gives P r → P a
value_of {P} r a is g = value (subst (Gives P) is g)
  where
    value : Gives P (Ok a) → P a
    value (ok p) = p

at_end : (us : List Placed) → first_token us ≡ tokens.Word words.End → (p : Placed) × (ps : List Placed) × (us ≡ p ∷ ps) × (p.token ≡ tokens.Word words.End)
at_end [] is = cc
at_end (p ∷ ps) is = (p, ps, refl, is)

pub written_so : (text : List ℕ) (s : Syntax) → syntax_of text ≡ Ok s → IsWrittenSo text s
written_so text s h =
    let found = value_of (syntax_of text) s h (syntax_gives s.nodes (linked text s h).types (length text + 1) (items_of text)) (grows_not s.nodes) in
    let last = at_end found.0 (a_word words.End (first_token found.0) found.2) in
    record {
      front = found.1.front;
      last = last.0;
      rest = last.1;
      items = found.1.split ∙ ap (λ (us : List Placed). found.1.front ++ us) last.2;
      written = found.1.said (last.0.token ∷ []) ∙ ap (λ (t : Token). header_text s.name (assignments_text (texts_of s.nodes) s.assignments (t ∷ []))) last.3;
      ends = found.3 ∙ ap (λ (us : List Placed). (first_place us).end) last.2;
    }
