-- The rows of information object sets, and the sets.
use Rattle.std.proofs.Common.{◌≡◌, ℕ, ◌<◌, List, [], ◌∷◌, length, Bool, true, false, cond, ◌||◌, refl, ap, ◌∙◌, inl, inr, arith, Option, Some, None}
use Rattle.std.specs.Prelude.{codes, is_some}
use Rattle.gnb_types.proofs.Choices.{by_choice}
use Rattle.asn1_tokens.specs.declared.token.Word.{Word}
use Rattle.asn1_tokens.specs.declared.token.Word.TheVariants as words
use Rattle.asn1_tokens.specs.declared.token.Sign.TheVariants as signs
use Rattle.asn1_tokens.specs.declared.token.Token.{Token}
use Rattle.asn1_tokens.specs.declared.token.Token.TheVariants as tokens
use Rattle.asn1_tokens.specs.Words.{is_text}
use Rattle.asn1_tokens.specs.Stream.{Placed, first_token, others}
use Rattle.asn1_syntax.specs.declared.types.fault.ModuleReason.TheVariants as reasons
use Rattle.asn1_syntax.specs.declared.types.definition.Node.{Node}
use Rattle.asn1_syntax.specs.types.Reading.{Left, begins_with, begins_with_sign}
use Rattle.asn1_syntax.specs.types.inside.Reading.{◌>>=◌, fault_at, lower_of, lower_at}
use Rattle.asn1_syntax.specs.declared.assignments.assignment.Criticality.TheVariants as criticalities
use Rattle.asn1_syntax.specs.declared.assignments.assignment.Presence.TheVariants as presences
use Rattle.asn1_syntax.specs.declared.assignments.assignment.IeRow.{IeRow}
use Rattle.asn1_syntax.specs.declared.assignments.assignment.ProcedureRow.{ProcedureRow}
use Rattle.asn1_syntax.specs.assignments.Rows.{criticality_of, presence_of}
use Rattle.asn1_syntax.specs.assignments.inside.Rows.{new_number_at, found_or, criticality_at, presence_at, has_id, ie_row_at, outcome_at, has_code, messages_at, procedure_row_at}
use Rattle.asn1_syntax.specs.assignments.inside.Sets.{set_goes_on_at, Rows, rows_with, ie_turn_at, procedure_turn_at, set_start_at, ie_set_at, procedure_set_at}
use Rattle.asn1_defs.specs.Grammar.{Terminal, ANumber, ACriticality, APresence, TheWord, TheSign, fits, Part, AType, IeRows, MoreIeRows, ProcedureRows, MoreProcedureRows, SuccessfulOutcome, UnsuccessfulOutcome, Symbol, Item, Whole, word, sign, set_end, ellipsis, open_brace, close_brace, productions}
use Rattle.proof_asn1.proofs.grammar.Predict.{chosen}
use Rattle.proof_asn1.proofs.grammar.Steps.{at_item}
use Rattle.proof_asn1.proofs.asn1_proof_syntax.Sim.{Sim, goes, and_so, first, next, maybe, fits_sign, fits_word, chosen_one, chosen_other, word_sim, sign_sim, taken, weaker, done, expands, misused, refused, part_of, repeat_sim}
use Rattle.proof_asn1.proofs.asn1_proof_syntax.SizeSims.{natural_sim}
use Rattle.proof_asn1.proofs.asn1_proof_syntax.TypeSims.{type_sim}

new_number_sim : (taken : ℕ → Bool) (high : ℕ) (symbols : List Symbol) (ts : List Placed) → Sim 1 (Item ANumber ∷ symbols) ts (λ _. symbols) (λ a. a.1) (new_number_at taken high ts)
unfolding new_number_at
new_number_sim taken high symbols ts = and_so (natural_sim 0 high symbols ts) (λ number e steps le.
    by_choice (Sim 1 (Item ANumber ∷ symbols) ts (λ _. symbols) (λ a. a.1)) (taken number.0) _ _
    (λ _. misused (fault_at reasons.Twice ts) steps le refl (inr refl))
    (λ _. goes steps le))

-- ---- names with a meaning of their own

abbrev among : {X : Type 0} → (List ℕ → Option X) → Token → Bool
among of (tokens.Lower name) = is_some (of name)
among of (tokens.Upper name) = false
among of (tokens.Number value) = false
among of (tokens.Word found) = false
among of (tokens.Sign found) = false
among of tokens.OutOfProfile = false
among of tokens.Nothing = false
among of tokens.EndOfText = false

kind_sim : {X : Type 0} (k : Terminal) (of : List ℕ → Option X) → ((t : Token) → fits k t ≡ among of t) → (symbols : List Symbol) (ts : List Placed) → Sim 1 (Item k ∷ symbols) ts (λ _. symbols) (λ a. a.1) (lower_at ts >>= λ name. found_or (of name.0) ts name.1)
unfolding lower_at
kind_sim {X} k of is symbols ts = go (first_token ts) refl
  where
    named : (name : List ℕ) → first_token ts ≡ tokens.Lower name → (o : Option X) → of name ≡ o → Sim 1 (Item k ∷ symbols) ts (λ _. symbols) (λ (a : X × Left). a.1) (found_or o ts (others ts))
    named name e (Some x) f = taken k symbols ts (λ a. a.1) (x, others ts) refl (is (first_token ts) ∙ ap (among of) e ∙ ap is_some f)
    named name e None f = refused (Item k ∷ symbols) ts (at_item (is (first_token ts) ∙ ap (among of) e ∙ ap is_some f))

    go : (t : Token) → first_token ts ≡ t → Sim 1 (Item k ∷ symbols) ts (λ _. symbols) (λ (a : X × Left). a.1) (lower_of t ts >>= λ name. found_or (of name.0) ts name.1)
    go (tokens.Lower name) e = named name e (of name) refl
    go (tokens.Upper name) e = refused (Item k ∷ symbols) ts (at_item (is (first_token ts) ∙ ap (among of) e))
    go (tokens.Number value) e = refused (Item k ∷ symbols) ts (at_item (is (first_token ts) ∙ ap (among of) e))
    go (tokens.Word found) e = refused (Item k ∷ symbols) ts (at_item (is (first_token ts) ∙ ap (among of) e))
    go (tokens.Sign found) e = refused (Item k ∷ symbols) ts (at_item (is (first_token ts) ∙ ap (among of) e))
    go tokens.OutOfProfile e = refused (Item k ∷ symbols) ts (at_item (is (first_token ts) ∙ ap (among of) e))
    go tokens.Nothing e = refused (Item k ∷ symbols) ts (at_item (is (first_token ts) ∙ ap (among of) e))
    go tokens.EndOfText e = refused (Item k ∷ symbols) ts (at_item (is (first_token ts) ∙ ap (among of) e))

criticality_fits : (t : Token) → fits ACriticality t ≡ among criticality_of t
unfolding criticality_of
criticality_fits (tokens.Lower name) = go (is_text name (codes "reject")) (is_text name (codes "ignore")) (is_text name (codes "notify"))
  where
    go : (a b c : Bool) → a || (b || c) ≡ is_some (cond a (Some criticalities.Reject) (cond b (Some criticalities.Ignore) (cond c (Some criticalities.Notify) None)))
    go true b c = refl
    go false true c = refl
    go false false true = refl
    go false false false = refl
criticality_fits (tokens.Upper name) = refl
criticality_fits (tokens.Number value) = refl
criticality_fits (tokens.Word found) = refl
criticality_fits (tokens.Sign found) = refl
criticality_fits tokens.OutOfProfile = refl
criticality_fits tokens.Nothing = refl
criticality_fits tokens.EndOfText = refl

presence_fits : (t : Token) → fits APresence t ≡ among presence_of t
unfolding presence_of
presence_fits (tokens.Lower name) = go (is_text name (codes "mandatory")) (is_text name (codes "optional"))
  where
    go : (a b : Bool) → a || b ≡ is_some (cond a (Some presences.Mandatory) (cond b (Some presences.Optional) None))
    go true b = refl
    go false true = refl
    go false false = refl
presence_fits (tokens.Upper name) = refl
presence_fits (tokens.Number value) = refl
presence_fits (tokens.Word found) = refl
presence_fits (tokens.Sign found) = refl
presence_fits tokens.OutOfProfile = refl
presence_fits tokens.Nothing = refl
presence_fits tokens.EndOfText = refl

criticality_sim : (symbols : List Symbol) (ts : List Placed) → Sim 1 (Item ACriticality ∷ symbols) ts (λ _. symbols) (λ a. a.1) (criticality_at ts)
unfolding criticality_at
criticality_sim symbols ts = kind_sim ACriticality criticality_of criticality_fits symbols ts

presence_sim : (symbols : List Symbol) (ts : List Placed) → Sim 1 (Item APresence ∷ symbols) ts (λ _. symbols) (λ a. a.1) (presence_at ts)
unfolding presence_at
presence_sim symbols ts = kind_sim APresence presence_of presence_fits symbols ts

-- ---- rows

ie_row_symbols : List Symbol → List Symbol
ie_row_symbols symbols = open_brace ∷ word words.Id ∷ Item ANumber ∷ word words.Criticality ∷ Item ACriticality ∷ word words.Type ∷ Whole AType ∷ word words.Presence ∷ Item APresence ∷ close_brace ∷ symbols

ie_row_sim : (turns : ℕ) (rows : List IeRow) (nodes : List Node) (symbols : List Symbol) (ts : List Placed) → length ts < turns → Sim 1 (ie_row_symbols symbols) ts (λ _. symbols) (λ a. a.2) (ie_row_at turns rows nodes ts)
unfolding ie_row_at ie_row_symbols
ie_row_sim turns rows nodes symbols ts lt = first (sign_sim signs.LeftBrace _ ts) (λ a la.
    next (word_sim words.Id _ a) (λ b lb.
    next (new_number_sim (λ id. has_id id rows) 65535 _ b) (λ id lid.
    next (word_sim words.Criticality _ id.1) (λ c lc.
    next (criticality_sim _ c) (λ criticality lcr.
    next (word_sim words.Type _ criticality.1) (λ d ld.
    next (type_sim turns nodes _ d (omega (arith, lt, la, lb, lid, lc, lcr, ld))) (λ definition _.
    next (word_sim words.Presence _ definition.2) (λ e _.
    next (presence_sim _ e) (λ presence _.
    next (sign_sim signs.RightBrace symbols presence.1) (λ f _. done (_, definition.1, f) refl refl))))))))))

-- an outcome that may be absent
abbrev Absent : Part → Word → Type 0
Absent n w = (t : Token) → chosen n t ≡ cond (fits (TheWord w) t) (Some (word w ∷ word words.Outcome ∷ Whole AType ∷ [])) (Some [])

successful : Absent SuccessfulOutcome words.Successful
unfolding chosen productions
successful t = refl

unsuccessful : Absent UnsuccessfulOutcome words.Unsuccessful
unfolding chosen productions
unsuccessful t = refl

outcome_sim : (turns : ℕ) (n : Part) (w : Word) → Absent n w → (nodes : List Node) (symbols : List Symbol) (ts : List Placed) → length ts < turns → Sim 0 (Whole n ∷ symbols) ts (λ _. symbols) (λ a. a.2) (outcome_at turns w nodes ts)
unfolding outcome_at
outcome_sim turns n w is nodes symbols ts lt = by_choice (Sim 0 (Whole n ∷ symbols) ts (λ _. symbols) (λ a. a.2)) (begins_with w ts) _ _
    (λ h. expands n (word w ∷ word words.Outcome ∷ Whole AType ∷ []) (is (first_token ts) ∙ chosen_one _ _ _ (fits_word w ts true h))
    (next (word_sim w _ ts) (λ a la.
    next (word_sim words.Outcome _ a) (λ b lb.
    next (type_sim turns nodes symbols b (omega (arith, lt, la, lb))) (λ definition _. done (Some definition.0, definition.1, definition.2) refl refl)))))
    (λ h. expands n [] (is (first_token ts) ∙ chosen_other _ _ _ _ (fits_word w ts false h) refl) (done (None, nodes, ts) refl refl))

messages_sim : (turns : ℕ) (nodes : List Node) (symbols : List Symbol) (ts : List Placed) → length ts < turns → Sim 1 (word words.Initiating ∷ word words.Message ∷ Whole AType ∷ Whole SuccessfulOutcome ∷ Whole UnsuccessfulOutcome ∷ symbols) ts (λ _. symbols) (λ a. a.4) (messages_at turns nodes ts)
unfolding messages_at
messages_sim turns nodes symbols ts lt = first (word_sim words.Initiating _ ts) (λ a la.
    next (word_sim words.Message _ a) (λ b lb.
    next (type_sim turns nodes _ b (omega (arith, lt, la, lb))) (λ initiating li.
    maybe (outcome_sim turns SuccessfulOutcome words.Successful successful initiating.1 _ initiating.2 (omega (arith, lt, la, lb, li))) (λ good lg.
    maybe (outcome_sim turns UnsuccessfulOutcome words.Unsuccessful unsuccessful good.1 symbols good.2 (omega (arith, lt, la, lb, li, lg))) (λ bad _.
    done (initiating.0, good.0, bad.0, bad.1, bad.2) refl refl)))))

procedure_row_symbols : List Symbol → List Symbol
procedure_row_symbols symbols = open_brace ∷ word words.Initiating ∷ word words.Message ∷ Whole AType ∷ Whole SuccessfulOutcome ∷ Whole UnsuccessfulOutcome ∷ word words.Procedure ∷ word words.Code ∷ Item ANumber ∷ word words.Criticality ∷ Item ACriticality ∷ close_brace ∷ symbols

procedure_row_sim : (turns : ℕ) (rows : List ProcedureRow) (nodes : List Node) (symbols : List Symbol) (ts : List Placed) → length ts < turns → Sim 1 (procedure_row_symbols symbols) ts (λ _. symbols) (λ a. a.2) (procedure_row_at turns rows nodes ts)
unfolding procedure_row_at procedure_row_symbols
procedure_row_sim turns rows nodes symbols ts lt = first (sign_sim signs.LeftBrace _ ts) (λ a la.
    next (messages_sim turns nodes _ a (omega (arith, lt, la))) (λ messages _.
    next (word_sim words.Procedure _ messages.4) (λ b _.
    next (word_sim words.Code _ b) (λ c _.
    next (new_number_sim (λ code. has_code code rows) 255 _ c) (λ code _.
    next (word_sim words.Criticality _ code.1) (λ d _.
    next (criticality_sim _ d) (λ criticality _.
    next (sign_sim signs.RightBrace symbols criticality.1) (λ e _. done (_, messages.3, e) refl refl))))))))

-- ---- sets

-- what follows a row: another one, or the end
abbrev FollowedBy : Part → Part → Type 0
FollowedBy n rows = (t : Token) → chosen n t ≡ cond (fits (TheSign signs.Bar) t) (Some (sign signs.Bar ∷ Whole rows ∷ [])) (cond (fits (TheSign signs.Comma) t) (Some set_end) None)

more_ie_rows : FollowedBy MoreIeRows IeRows
unfolding chosen productions
more_ie_rows t = refl

more_procedure_rows : FollowedBy MoreProcedureRows ProcedureRows
unfolding chosen productions
more_procedure_rows t = refl

set_goes_on_sim : (n rows : Part) → FollowedBy n rows → (symbols : List Symbol) (ts : List Placed) → Sim 1 (Whole n ∷ symbols) ts (λ a. cond a.0 (Whole rows ∷ symbols) symbols) (λ a. a.1) (set_goes_on_at ts)
unfolding set_goes_on_at
set_goes_on_sim n rows is symbols ts = by_choice (Sim 1 (Whole n ∷ symbols) ts (λ a. cond a.0 (Whole rows ∷ symbols) symbols) (λ a. a.1)) (begins_with_sign signs.Bar ts) _ _
    (λ h. expands n (sign signs.Bar ∷ Whole rows ∷ []) (is (first_token ts) ∙ chosen_one _ _ _ (fits_sign signs.Bar ts true h))
    (first (sign_sim signs.Bar _ ts) (λ a _. done (true, a) refl refl)))
    (λ h. part_of n (TheSign signs.Comma) (ellipsis ∷ close_brace ∷ []) (is (first_token ts) ∙ chosen_other _ _ _ _ (fits_sign signs.Bar ts false h) refl)
    (first (sign_sim signs.Comma _ ts) (λ a _.
    next (sign_sim signs.Ellipsis _ a) (λ b _.
    next (sign_sim signs.RightBrace symbols b) (λ c _. done (false, c) refl refl)))))

ie_rows : (t : Token) → chosen IeRows t ≡ cond (fits (TheSign signs.LeftBrace) t) (Some (ie_row_symbols (Whole MoreIeRows ∷ []))) None
unfolding chosen productions ie_row_symbols
ie_rows t = refl

procedure_rows : (t : Token) → chosen ProcedureRows t ≡ cond (fits (TheSign signs.LeftBrace) t) (Some (procedure_row_symbols (Whole MoreProcedureRows ∷ []))) None
unfolding chosen productions procedure_row_symbols
procedure_rows t = refl

ie_turn_sim : (turns : ℕ) (so_far : Rows IeRow) (symbols : List Symbol) (ts : List Placed) → length ts < turns → Sim 1 (Whole IeRows ∷ symbols) ts (λ a. cond a.0 (Whole IeRows ∷ symbols) symbols) (λ a. a.2) (ie_turn_at turns so_far ts)
unfolding ie_turn_at ie_row_symbols
ie_turn_sim turns so_far symbols ts lt = part_of IeRows (TheSign signs.LeftBrace) _ (ie_rows (first_token ts))
    (first (ie_row_sim turns so_far.rows so_far.nodes (Whole MoreIeRows ∷ symbols) ts lt) (λ row _.
    next (set_goes_on_sim MoreIeRows IeRows more_ie_rows symbols row.2) (λ more _. done (more.0, _, more.1) refl refl)))

procedure_turn_sim : (turns : ℕ) (so_far : Rows ProcedureRow) (symbols : List Symbol) (ts : List Placed) → length ts < turns → Sim 1 (Whole ProcedureRows ∷ symbols) ts (λ a. cond a.0 (Whole ProcedureRows ∷ symbols) symbols) (λ a. a.2) (procedure_turn_at turns so_far ts)
unfolding procedure_turn_at procedure_row_symbols
procedure_turn_sim turns so_far symbols ts lt = part_of ProcedureRows (TheSign signs.LeftBrace) _ (procedure_rows (first_token ts))
    (first (procedure_row_sim turns so_far.rows so_far.nodes (Whole MoreProcedureRows ∷ symbols) ts lt) (λ row _.
    next (set_goes_on_sim MoreProcedureRows ProcedureRows more_procedure_rows symbols row.2) (λ more _. done (more.0, _, more.1) refl refl)))

set_start_sim : (symbols : List Symbol) (ts : List Placed) → Sim 1 (sign signs.Assignment ∷ open_brace ∷ symbols) ts (λ _. symbols) (λ us. us) (set_start_at ts)
unfolding set_start_at
set_start_sim symbols ts = first (sign_sim signs.Assignment _ ts) (λ a _. weaker (sign_sim signs.LeftBrace symbols a))

pub ie_set_sim : (turns : ℕ) (nodes : List Node) (symbols : List Symbol) (ts : List Placed) → length ts < turns → Sim 1 (sign signs.Assignment ∷ open_brace ∷ Whole IeRows ∷ symbols) ts (λ _. symbols) (λ a. a.1) (ie_set_at turns nodes ts)
unfolding ie_set_at
ie_set_sim turns nodes symbols ts lt = first (set_start_sim _ ts) (λ a la.
    repeat_sim (ie_turn_at turns) (λ _. Whole IeRows ∷ symbols) (λ _. symbols) (λ so_far us small. inl (ie_turn_sim turns so_far symbols us small)) turns (rows_with [] nodes) a (omega (arith, lt, la)) (omega (arith, lt, la)))

pub procedure_set_sim : (turns : ℕ) (nodes : List Node) (symbols : List Symbol) (ts : List Placed) → length ts < turns → Sim 1 (sign signs.Assignment ∷ open_brace ∷ Whole ProcedureRows ∷ symbols) ts (λ _. symbols) (λ a. a.1) (procedure_set_at turns nodes ts)
unfolding procedure_set_at
procedure_set_sim turns nodes symbols ts lt = first (set_start_sim _ ts) (λ a la.
    repeat_sim (procedure_turn_at turns) (λ _. Whole ProcedureRows ∷ symbols) (λ _. symbols) (λ so_far us small. inl (procedure_turn_sim turns so_far symbols us small)) turns (rows_with [] nodes) a (omega (arith, lt, la)) (omega (arith, lt, la)))
