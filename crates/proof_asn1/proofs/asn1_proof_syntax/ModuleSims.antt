-- Modules and their assignments.
use Rattle.std.proofs.Common.{◌≡◌, ℕ, ◌<◌, List, [], ◌∷◌, length, Bool, true, false, cond, ◌&&◌, refl, ap, ◌∙◌, inl, inr, arith, Some, None}
use Rattle.std.specs.Prelude.{Result, Ok}
use Rattle.gnb_types.proofs.Choices.{by_test, by_choice}
use Rattle.asn1_tokens.specs.declared.token.Word.TheVariants as words
use Rattle.asn1_tokens.specs.declared.token.Sign.TheVariants as signs
use Rattle.asn1_tokens.specs.declared.token.Token.{Token}
use Rattle.asn1_tokens.specs.Stream.{Placed, first_token}
use Rattle.asn1_syntax.specs.declared.types.fault.ModuleReason.TheVariants as reasons
use Rattle.asn1_syntax.specs.declared.types.fault.Fault.{Fault}
use Rattle.asn1_syntax.specs.declared.types.definition.Node.{Node}
use Rattle.asn1_syntax.specs.types.Reading.{Left, begins_with, begins_with_sign}
use Rattle.asn1_syntax.specs.types.inside.Reading.{◌>>=◌, fault_at}
use Rattle.asn1_syntax.specs.declared.assignments.assignment.Body.{Body}
use Rattle.asn1_syntax.specs.declared.assignments.assignment.Body.TheVariants as bodies
use Rattle.asn1_syntax.specs.declared.assignments.assignment.Assignment.{Assignment}
use Rattle.asn1_syntax.specs.assignments.inside.Module.{Parts, has_all_types, is_assigned, new_assignment_at, ie_body_at, procedure_body_at, type_body_at, body_at, assignment_at, module_turn_at, header_at, no_assignments, assignments_at}
use Rattle.asn1_defs.specs.Grammar.{AnUpper, TheWord, TheSign, fits, Assignments, Meaning, IeRows, ProcedureRows, AType, Symbol, Item, Whole, word, sign, open_brace, productions}
use Rattle.proof_asn1.proofs.grammar.Predict.{chosen}
use Rattle.proof_asn1.proofs.asn1_proof_syntax.Sim.{Sim, goes, and_so, first, next, fits_word, chosen_one, chosen_other, word_sim, sign_sim, upper_sim, done, expands, misused, part_of, repeat_sim, Turns}
use Rattle.proof_asn1.proofs.asn1_proof_syntax.TypeSims.{type_sim}
use Rattle.proof_asn1.proofs.asn1_proof_syntax.RowSims.{ie_set_sim, procedure_set_sim}

new_assignment_sim : (assignments : List Assignment) (symbols : List Symbol) (ts : List Placed) → Sim 1 (Item AnUpper ∷ symbols) ts (λ _. symbols) (λ a. a.1) (new_assignment_at assignments ts)
unfolding new_assignment_at
new_assignment_sim assignments symbols ts = and_so (upper_sim symbols ts) (λ name e steps le.
    by_choice (Sim 1 (Item AnUpper ∷ symbols) ts (λ _. symbols) (λ a. a.1)) (begins_with_sign signs.Assignment name.1 && has_all_types assignments) _ _
    (λ _. misused (fault_at reasons.Bounds ts) steps le refl (inl refl))
    (λ _. by_choice (Sim 1 (Item AnUpper ∷ symbols) ts (λ _. symbols) (λ a. a.1)) (is_assigned name.0 assignments) _ _
    (λ _. misused (fault_at reasons.Twice ts) steps le refl (inr refl))
    (λ _. goes steps le)))

-- ---- what a name stands for

abbrev Bodies : List Symbol → List Symbol → List Placed → Result (Body × List Node × Left) Fault → Type 0
Bodies from symbols ts r = Sim 1 from ts (λ (a : Body × List Node × Left). symbols) (λ a. a.2) r

ie_body_sim : (turns : ℕ) (nodes : List Node) (symbols : List Symbol) (ts : List Placed) → length ts < turns → Bodies (word words.ProtocolIes ∷ sign signs.Assignment ∷ open_brace ∷ Whole IeRows ∷ symbols) symbols ts (ie_body_at turns nodes ts)
unfolding ie_body_at
ie_body_sim turns nodes symbols ts lt = first (word_sim words.ProtocolIes _ ts) (λ a la.
    next (ie_set_sim turns nodes symbols a (omega (arith, lt, la))) (λ set _. done (bodies.IeSet set.0.rows, set.0.nodes, set.1) refl refl))

procedure_body_sim : (turns : ℕ) (nodes : List Node) (symbols : List Symbol) (ts : List Placed) → length ts < turns → Bodies (word words.ElementaryProcedure ∷ sign signs.Assignment ∷ open_brace ∷ Whole ProcedureRows ∷ symbols) symbols ts (procedure_body_at turns nodes ts)
unfolding procedure_body_at
procedure_body_sim turns nodes symbols ts lt = first (word_sim words.ElementaryProcedure _ ts) (λ a la.
    next (procedure_set_sim turns nodes symbols a (omega (arith, lt, la))) (λ set _. done (bodies.ProcedureSet set.0.rows, set.0.nodes, set.1) refl refl))

type_body_sim : (turns : ℕ) (nodes : List Node) (symbols : List Symbol) (ts : List Placed) → length ts < turns → Bodies (sign signs.Assignment ∷ Whole AType ∷ symbols) symbols ts (type_body_at turns nodes ts)
unfolding type_body_at
type_body_sim turns nodes symbols ts lt = first (sign_sim signs.Assignment _ ts) (λ a la.
    next (type_sim turns nodes symbols a (omega (arith, lt, la))) (λ definition _. done (bodies.Type definition.0, definition.1, definition.2) refl refl))

ie_production : List Symbol
ie_production = word words.ProtocolIes ∷ sign signs.Assignment ∷ open_brace ∷ Whole IeRows ∷ []

procedure_production : List Symbol
procedure_production = word words.ElementaryProcedure ∷ sign signs.Assignment ∷ open_brace ∷ Whole ProcedureRows ∷ []

meaning : (t : Token) → chosen Meaning t ≡ cond (fits (TheWord words.ProtocolIes) t) (Some ie_production) (cond (fits (TheWord words.ElementaryProcedure) t) (Some procedure_production) (cond (fits (TheSign signs.Assignment) t) (Some (sign signs.Assignment ∷ Whole AType ∷ [])) None))
unfolding chosen productions ie_production procedure_production
meaning t = refl

body_sim : (turns : ℕ) (nodes : List Node) (symbols : List Symbol) (ts : List Placed) → length ts < turns → Bodies (Whole Meaning ∷ symbols) symbols ts (body_at turns nodes ts)
unfolding body_at ie_production procedure_production
body_sim turns nodes symbols ts lt = by_choice (Bodies (Whole Meaning ∷ symbols) symbols ts) (begins_with words.ProtocolIes ts) _ _
    (λ h. expands Meaning ie_production (meaning (first_token ts) ∙ chosen_one _ _ _ (fits_word words.ProtocolIes ts true h)) (ie_body_sim turns nodes symbols ts lt))
    (λ h. by_choice (Bodies (Whole Meaning ∷ symbols) symbols ts) (begins_with words.ElementaryProcedure ts) _ _
    (λ g. expands Meaning procedure_production (meaning (first_token ts) ∙ chosen_other _ _ _ _ (fits_word words.ProtocolIes ts false h) (chosen_one _ _ _ (fits_word words.ElementaryProcedure ts true g))) (procedure_body_sim turns nodes symbols ts lt))
    (λ g. part_of Meaning (TheSign signs.Assignment) (Whole AType ∷ []) (meaning (first_token ts) ∙ chosen_other _ _ _ _ (fits_word words.ProtocolIes ts false h) (chosen_other _ _ _ _ (fits_word words.ElementaryProcedure ts false g) refl)) (type_body_sim turns nodes symbols ts lt)))

-- ---- assignments

assignment_sim : (turns : ℕ) (so_far : Parts) (symbols : List Symbol) (ts : List Placed) → length ts < turns → Sim 1 (Item AnUpper ∷ Whole Meaning ∷ symbols) ts (λ _. symbols) (λ a. a.1) (assignment_at turns so_far ts)
unfolding assignment_at
assignment_sim turns so_far symbols ts lt = first (new_assignment_sim so_far.assignments (Whole Meaning ∷ symbols) ts) (λ name la.
    next (body_sim turns so_far.nodes symbols name.1 (omega (arith, lt, la))) (λ body _. done (_, body.2) refl refl))

assignments : (t : Token) → chosen Assignments t ≡ cond (fits (TheWord words.End) t) (Some (word words.End ∷ [])) (cond (fits AnUpper t) (Some (Item AnUpper ∷ Whole Meaning ∷ Whole Assignments ∷ [])) None)
unfolding chosen productions
assignments t = refl

-- what is left before the word END, and behind an assignment
abbrev before_end : Left → List Symbol
before_end ts = Whole Assignments ∷ []

module_turn_sim : (turns : ℕ) (so_far : Parts) (ts : List Placed) → length ts < turns → Turns (module_turn_at turns) (λ _. Whole Assignments ∷ []) (λ _. Whole Assignments ∷ []) so_far ts
unfolding module_turn_at
module_turn_sim turns so_far ts lt = by_test _ (begins_with words.End ts)
    (λ h. inr (ap (λ (b : Bool). cond b (Ok (false, so_far, ts)) (assignment_at turns so_far ts >>= λ following. Ok (true, following.0, following.1))) h, refl))
    (λ h. inl (by_choice (Sim 1 (Whole Assignments ∷ []) ts (λ (a : Bool × Parts × Left). cond a.0 (Whole Assignments ∷ []) (Whole Assignments ∷ [])) (λ a. a.2)) (begins_with words.End ts) _ _
    (λ g. absurd (never (begins_with words.End ts) h g))
    (λ _. part_of Assignments AnUpper (Whole Meaning ∷ Whole Assignments ∷ []) (assignments (first_token ts) ∙ chosen_other _ _ _ _ (fits_word words.End ts false h) refl)
    (first (assignment_sim turns so_far (Whole Assignments ∷ []) ts lt) (λ following _. done (true, following.0, following.1) refl refl)))))
  where
    never : (b : Bool) → b ≡ false → b ≡ true → ⊥
    never b e f = cc

pub header_sim : (symbols : List Symbol) (ts : List Placed) → Sim 1 (Item AnUpper ∷ word words.Definitions ∷ word words.Automatic ∷ word words.Tags ∷ sign signs.Assignment ∷ word words.Begin ∷ symbols) ts (λ _. symbols) (λ a. a.1) (header_at ts)
unfolding header_at
header_sim symbols ts = first (upper_sim _ ts) (λ name _.
    next (word_sim words.Definitions _ name.1) (λ a _.
    next (word_sim words.Automatic _ a) (λ b _.
    next (word_sim words.Tags _ b) (λ c _.
    next (sign_sim signs.Assignment _ c) (λ d _.
    next (word_sim words.Begin symbols d) (λ e _. done (name.0, e) refl refl))))))

pub assignments_sim : (turns : ℕ) (nodes : List Node) (ts : List Placed) → length ts < turns → Sim 0 (Whole Assignments ∷ []) ts (λ _. Whole Assignments ∷ []) (λ a. a.1) (assignments_at turns nodes ts)
unfolding assignments_at
assignments_sim turns nodes ts lt = repeat_sim (module_turn_at turns) (λ _. Whole Assignments ∷ []) (λ _. Whole Assignments ∷ []) (λ so_far us small. module_turn_sim turns so_far us small) turns (no_assignments nodes) ts lt lt
