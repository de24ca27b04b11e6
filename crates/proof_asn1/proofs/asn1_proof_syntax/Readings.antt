-- What the reading functions read of a text is what the grammar spells.
use Rattle.std.proofs.lemmas.List.{append_assoc}
use Rattle.std.proofs.Common.{◌≡◌, ℕ, ◌+◌, ◌≤◌, List, [], ◌∷◌, ◌++◌, zero, suc, length, Bool, true, false, cond, refl, sym, ap, ◌∙◌, subst, inl, inr, arith, Option, Some, None}
use Rattle.std.specs.Prelude.{Result, Ok, Err}
use Rattle.asn1_tokens.specs.declared.token.Word.TheVariants as words
use Rattle.asn1_tokens.specs.declared.token.Sign.TheVariants as signs
use Rattle.asn1_tokens.specs.declared.token.Token.{Token}
use Rattle.asn1_tokens.specs.Stream.{Placed, items_of, first_token, first_place}
use Rattle.asn1_syntax.specs.declared.types.fault.ModuleReason.{ModuleReason}
use Rattle.asn1_syntax.specs.declared.types.fault.Fault.{Fault}
use Rattle.asn1_syntax.specs.types.Reading.{Left, reason_of, begins_with}
use Rattle.asn1_syntax.specs.types.inside.Reading.{◌>>=◌, repeat_at}
use Rattle.asn1_syntax.specs.declared.assignments.assignment.Syntax.{Syntax}
use Rattle.asn1_syntax.specs.assignments.inside.Module.{Parts, assignment_at, module_turn_at, header_at, no_assignments, assignments_at, syntax_at, syntax_of}
use Rattle.asn1_defs.specs.Grammar.{AnUpper, TheWord, fits, Module, Assignments, Symbol, Item, Whole, word, sign, productions}
use Rattle.asn1_defs.specs.Spelling.{tokens_of, Spells, nothing, item, part, IsModuleText, IsOpen, GoesOn}
use Rattle.proof_asn1.proofs.grammar.Predict.{chosen, pick, is_begun, empty_of, predictable}
use Rattle.proof_asn1.proofs.grammar.Decide.{and_left, empty_told, empty_found, no_part_first}
use Rattle.proof_asn1.proofs.grammar.Makes.{Makes, made_of}
use Rattle.proof_asn1.proofs.grammar.Steps.{Steps, then, path, IsStuck, at_item, at_part, stuck}
use Rattle.proof_asn1.specs.asn1_proof_syntax.Grammatical.{IsModuleFront, IsWrong, not_open, bounds, twice, IsWrongItem}
use Rattle.proof_asn1.proofs.asn1_proof_syntax.Sim.{Sim, goes, fails, Fails, Why, IsFit, fit, fails_behind, part_of, fits_word}
use Rattle.proof_asn1.proofs.asn1_proof_syntax.ModuleSims.{header_sim, assignments_sim}
use Rattle.proof_asn1.proofs.asn1_proof_syntax.Streams.{items-stream, items-le, still, first_of_stream}

-- ---- the assignments end before the word END

ok_same : {B : Type 0} (x y : B) (r : Result B Fault) → r ≡ Ok x → r ≡ Ok y → x ≡ y
ok_same x y r a b = cc

abbrev turn_of : Bool → Parts → Left → Result (Parts × Left) Fault → Result (Bool × Parts × Left) Fault
turn_of b state ts r = cond b (Ok (false, state, ts)) (r >>= λ following. Ok (true, following.0, following.1))

ends_at_end : (most turns : ℕ) (state : Parts) (ts : Left) (a : Parts × Left) → repeat_at (module_turn_at most) turns state ts ≡ Ok a → begins_with words.End a.1 ≡ true
unfolding repeat_at module_turn_at
ends_at_end most zero state ts a h = cc
ends_at_end most (suc turns) state ts a h = go (begins_with words.End ts) refl (assignment_at most state ts) (λ inner us. ends_at_end most turns inner us a) h
  where
    go : (b : Bool) → begins_with words.End ts ≡ b → (r : Result (Parts × Left) Fault) → ((inner : Parts) (us : Left) → repeat_at (module_turn_at most) turns inner us ≡ Ok a → begins_with words.End a.1 ≡ true) → (turn_of b state ts r >>= λ t. cond t.0 (repeat_at (module_turn_at most) turns t.1 t.2) (Ok (t.1, t.2))) ≡ Ok a → begins_with words.End a.1 ≡ true
    go true e r again g = subst (λ (x : Parts × Left). begins_with words.End x.1 ≡ true) (ok_same (state, ts) a (Ok (state, ts)) refl g) e
    go false e (Ok following) again g = again following.0 following.1 g
    go false e (Err f) again g = cc

-- ---- a module

data Outcome (ts : List Placed) : Result Syntax Fault → Type 0 where
  reads : {s : Syntax} (us : List Placed) → Steps (Whole Module ∷ []) ts (Whole Assignments ∷ []) us → begins_with words.End us ≡ true → s.end ≡ (first_place us).end → Outcome ts (Ok s)
  wrong : {f : Fault} → Fails (Whole Module ∷ []) ts f → Outcome ts (Err f)

head_of_module : (t : Token) → chosen Module t ≡ cond (fits AnUpper t) (Some (Item AnUpper ∷ word words.Definitions ∷ word words.Automatic ∷ word words.Tags ∷ sign signs.Assignment ∷ word words.Begin ∷ Whole Assignments ∷ [])) None
unfolding chosen productions
head_of_module t = refl

header_read : (ts : List Placed) → Sim 1 (Whole Module ∷ []) ts (λ (_ : List ℕ × Left). Whole Assignments ∷ []) (λ a. a.1) (header_at ts)
header_read ts = part_of Module AnUpper _ (head_of_module (first_token ts)) (header_sim (Whole Assignments ∷ []) ts)

syntax_read : (turns : ℕ) (ts : List Placed) → length ts ≤ turns → Outcome ts (syntax_at turns ts)
unfolding syntax_at assignments_at
syntax_read turns ts bound = go (header_at ts) (header_read ts)
  where
    body : (name : List ℕ) (us : Left) → Steps (Whole Module ∷ []) ts (Whole Assignments ∷ []) us → (r : Result (Parts × Left) Fault) → assignments_at turns [] us ≡ r → Sim 0 (Whole Assignments ∷ []) us (λ (_ : Parts × Left). Whole Assignments ∷ []) (λ a. a.1) r → Outcome ts (r >>= λ parts. Ok (record { name = name; assignments = parts.0.assignments; nodes = parts.0.nodes; end = (first_place parts.1).end }))
    body name us steps (Ok parts) e (goes more le) = reads parts.1 (then steps more) (ends_at_end turns turns (no_assignments []) us parts e) refl
    body name us steps (Err f) e (fails late) = wrong (fails_behind steps late)

    go : (r : Result (List ℕ × Left) Fault) → Sim 1 (Whole Module ∷ []) ts (λ (_ : List ℕ × Left). Whole Assignments ∷ []) (λ a. a.1) r → Outcome ts (r >>= λ header. assignments_at turns [] header.1 >>= λ parts. Ok (record { name = header.0; assignments = parts.0.assignments; nodes = parts.0.nodes; end = (first_place parts.1).end }))
    go (Ok header) (goes steps le) = body header.0 header.1 steps (assignments_at turns [] header.1) refl (assignments_sim turns [] header.1 (omega (arith, le, bound)))
    go (Err f) (fails late) = wrong late

-- ---- what it says of the text

last_spelled : (p : Placed) → fits (TheWord words.End) p.token ≡ true → Spells (Whole Assignments ∷ []) (p.token ∷ [])
unfolding productions
last_spelled p h = part (word words.End ∷ []) (inl refl) (item h nothing)

front_of : (text : List ℕ) (s : Syntax) → Outcome (items_of text) (Ok s) → IsModuleFront text s.end
front_of text s (reads us steps ends at) =
    let found = first_of_stream (still steps (items-stream text)) in
    let way = path steps in
    record {
      front = way.front;
      last = found.0;
      rest = found.1;
      items = way.split ∙ ap (λ (xs : List Placed). way.front ++ xs) found.2;
      spelled = way.back (found.0.token ∷ []) (last_spelled found.0 (fits_word words.End (found.0 ∷ found.1) true (subst (λ (xs : List Placed). begins_with words.End xs ≡ true) found.2 ends)));
      ends = at ∙ ap (λ (xs : List Placed). (first_place xs).end) found.2;
    }

-- the grammar goes on behind an item that fits
goes_on : (front : List Token) (t : Token) (left : List Symbol) → ((vs : List Token) → Spells left vs → IsModuleText (front ++ vs)) → IsFit left t → IsOpen (front ++ t ∷ [])
goes_on front t left back (fit {symbols} h) =
    let more = made_of symbols in
    (more.0, subst IsModuleText (sym (append_assoc front (t ∷ []) more.0)) (back (t ∷ more.0) (item h more.1)))

item_wrong : (front : List Token) (us : List Placed) (p : Placed) (ps : List Placed) (left : List Symbol) (reason : ModuleReason) → us ≡ p ∷ ps → ((vs : List Token) → Spells left vs → IsModuleText (front ++ vs)) → ((vs : List Token) → IsModuleText (front ++ first_token us ∷ vs) → Spells left (first_token us ∷ vs)) → Why left us reason → IsWrong front p.token reason
item_wrong front us p ps left reason is back forth (inl stops) =
    subst (IsWrong front p.token) (ap (λ (xs : List Placed). reason_of (first_token xs)) (sym is) ∙ sym stops.1)
    (not_open (λ more. stuck more.0 stops.0 (forth more.0 (subst IsModuleText (append_assoc front (p.token ∷ []) more.0 ∙ ap (λ (xs : List Placed). front ++ first_token xs ∷ more.0) (sym is)) more.1))))
item_wrong front us p ps left reason is back forth (inr (fits, inl same)) =
    subst (IsWrong front p.token) (sym same) (bounds (goes_on front p.token left back (subst (λ (xs : List Placed). IsFit left (first_token xs)) is fits)))
item_wrong front us p ps left reason is back forth (inr (fits, inr same)) =
    subst (IsWrong front p.token) (sym same) (twice (goes_on front p.token left back (subst (λ (xs : List Placed). IsFit left (first_token xs)) is fits)))

-- what is stuck spells an item at least
not_nothing : {left : List Symbol} {t : Token} → IsStuck left t → Spells left [] → ⊥
unfolding chosen
not_nothing (at_part {n} {t} h) (part [] one rest) = never (empty_of (productions n)) (empty_found (productions n) (empty_told (productions n) one)) (productions n) h
  where
    never : (other : Option (List Symbol)) → other ≡ Some [] → (bodies : List (List Symbol)) → pick other bodies t ≡ None → ⊥
    never other is [] e = cc
    never other is (body ∷ bodies) e = go (is_begun body t) (never other is bodies) e
      where
        go : (b : Bool) → (pick other bodies t ≡ None → ⊥) → cond b (Some body) (pick other bodies t) ≡ None → ⊥
        go true on g = cc
        go false on g = on g
not_nothing (at_item f) spelled = elim spelled [ ]
not_nothing (at_part h) (part (Item k ∷ b) one rest) = elim rest [ ]
not_nothing (at_part {n} h) (part (Whole m ∷ b) one rest) = no_part_first m b (productions n) (and_left _ _ (predictable n)) one

one_more : (front : List Token) (t : Token) (more : List Token) → IsModuleText (front ++ t ∷ more) → GoesOn front
one_more front t more spelled = (t, (more, subst IsModuleText (sym (append_assoc front (t ∷ []) more)) spelled))

-- some item may stand where one is refused
goes_further : (front : List Token) (t : Token) (left : List Symbol) → IsStuck left t → ((vs : List Token) → Spells left vs → IsModuleText (front ++ vs)) → GoesOn front
goes_further front t left stuck back = go (made_of left)
  where
    go : Makes left → GoesOn front
    go ([], made) = absurd (not_nothing stuck made)
    go (x ∷ xs, made) = one_more front x xs (back (x ∷ xs) made)

goes_before : (front : List Token) (us : List Placed) (left : List Symbol) (reason : ModuleReason) → ((vs : List Token) → Spells left vs → IsModuleText (front ++ vs)) → Why left us reason → GoesOn front
goes_before front us left reason back (inl stops) = goes_further front (first_token us) left stops.0 back
goes_before front us left reason back (inr (fits, which)) = (first_token us, goes_on front (first_token us) left back fits)

wrong_of : (text : List ℕ) (f : Fault) → Outcome (items_of text) (Err f) → IsWrongItem text f
wrong_of text f (wrong late) =
    let found = first_of_stream (still late.steps (items-stream text)) in
    let way = path late.steps in
    record {
      front = way.front;
      item = found.0;
      rest = found.1;
      items = way.split ∙ ap (λ (xs : List Placed). way.front ++ xs) found.2;
      at = late.at ∙ ap (λ (xs : List Placed). (first_place xs).start) found.2;
      before = goes_before (tokens_of way.front) late.us late.left f.reason way.back late.why;
      wrong = item_wrong (tokens_of way.front) late.us found.0 found.1 late.left f.reason found.2 way.back (way.forth refl).1 late.why;
    }

outcome : (text : List ℕ) → Outcome (items_of text) (syntax_of text)
outcome text = syntax_read (length text + 1) (items_of text) (items-le text)

pub module_front : (text : List ℕ) (s : Syntax) → syntax_of text ≡ Ok s → IsModuleFront text s.end
module_front text s h = front_of text s (subst (Outcome (items_of text)) h (outcome text))

pub wrong_item : (text : List ℕ) (f : Fault) → syntax_of text ≡ Err f → IsWrongItem text f
wrong_item text f h = wrong_of text f (subst (Outcome (items_of text)) h (outcome text))
