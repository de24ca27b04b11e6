-- Types, with those inside them.
use Rattle.std.proofs.Common.{◌≡◌, ℕ, ◌≤◌, ◌<◌, List, [], ◌∷◌, ◌++◌, zero, suc, length, Bool, true, false, cond, refl, sym, ap, ◌∙◌, subst, arith, Option, Some, None}
use Rattle.std.specs.Prelude.{Result}
use Rattle.gnb_types.proofs.Choices.{by_choice}
use Rattle.asn1_tokens.specs.declared.token.Word.{Word}
use Rattle.asn1_tokens.specs.declared.token.Word.TheVariants as words
use Rattle.asn1_tokens.specs.declared.token.Sign.TheVariants as signs
use Rattle.asn1_tokens.specs.declared.token.Token.{Token}
use Rattle.asn1_tokens.specs.declared.token.Token.TheVariants as tokens
use Rattle.asn1_tokens.specs.Stream.{Placed, first_token, first_place}
use Rattle.asn1_syntax.specs.declared.types.fault.Fault.{Fault}
use Rattle.asn1_syntax.specs.declared.types.definition.Size.{Size}
use Rattle.asn1_syntax.specs.declared.types.definition.TypeId.{TypeId}
use Rattle.asn1_syntax.specs.declared.types.definition.Node.{Node}
use Rattle.asn1_syntax.specs.declared.types.definition.Definition.{Definition}
use Rattle.asn1_syntax.specs.declared.types.definition.Definition.TheVariants as types
use Rattle.asn1_syntax.specs.declared.types.members.Group.TheVariants as groups
use Rattle.asn1_syntax.specs.declared.types.members.Frame.{Frame}
use Rattle.asn1_syntax.specs.declared.types.members.Frame.TheVariants as frames
use Rattle.asn1_syntax.specs.declared.types.members.Head.{Head}
use Rattle.asn1_syntax.specs.declared.types.members.Head.TheVariants as heads
use Rattle.asn1_syntax.specs.types.Reading.{Left, begins_with_sign}
use Rattle.asn1_syntax.specs.types.inside.Reading.{word_in}
use Rattle.asn1_syntax.specs.types.Shapes.{Shape, Alone, BoundsFollow, NamesFollow, StringFollows, TextSizeFollows, shape_of}
use Rattle.asn1_syntax.specs.types.inside.Types.{is_there, enumerated_at, string_at, rest_at, rest_by, simple_rest_at, is_simple, simple_at, list_head_at, components_head_at, sequence_head_at, choice_head_at, set_name_at, container_at, pdu_at, reference_at, head_by, head_at, Risen, risen, rise_at, type_turn_at, type_goes_on, type_within_at, type_at}
use Rattle.asn1_syntax.specs.types.Members.{no_parts}
use Rattle.asn1_syntax.specs.types.Types.{node}
use Rattle.asn1_defs.specs.Grammar.{behind_word, AnUpper, ALower, TheWord, fits, AType, FirstComponent, AfterAddition, OptionalSize, SequenceRest, AfterName, AfterAlternative, Symbol, Item, Whole, word, size, set_name, ellipsis, open_brace, close_brace, productions}
use Rattle.proof_asn1.proofs.grammar.Predict.{chosen}
use Rattle.proof_asn1.proofs.grammar.Steps.{at_part}
use Rattle.proof_asn1.proofs.asn1_proof_syntax.Sim.{Sim, first, next, maybe, fits_sign, chosen_one, chosen_other, word_sim, sign_sim, upper_sim, weaker, done, expands, refused, part_of}
use Rattle.proof_asn1.proofs.asn1_proof_syntax.SizeSims.{size_sim, optional_size_sim, integer_sim}
use Rattle.proof_asn1.proofs.asn1_proof_syntax.MemberSims.{names_sim, entry_sim, entry_from, frame_symbols, head_symbols, close_sim, member_symbols}

abbrev Made : ℕ → List Symbol → List Symbol → List Placed → Result (Definition × Left) Fault → Type 0
Made least from symbols ts r = Sim least from ts (λ (a : Definition × Left). symbols) (λ a. a.1) r

abbrev pub Heads : List Symbol → List Symbol → List Placed → Result (Head × Left) Fault → Type 0
Heads from symbols ts r = Sim 1 from ts (λ (a : Head × Left). head_symbols symbols a.0) (λ a. a.1) r

abbrev HeadsLater : List Symbol → List Symbol → List Placed → Result (Head × Left) Fault → Type 0
HeadsLater from symbols ts r = Sim 0 from ts (λ (a : Head × Left). head_symbols symbols a.0) (λ a. a.1) r

-- ---- types without others inside

enumerated_sim : (turns : ℕ) (symbols : List Symbol) (ts : List Placed) → length ts < turns → Made 0 (open_brace ∷ Item ALower ∷ Whole AfterName ∷ symbols) symbols ts (enumerated_at turns ts)
unfolding enumerated_at
enumerated_sim turns symbols ts lt =
    next (sign_sim signs.LeftBrace _ ts) (λ a short.
    maybe (names_sim turns symbols a (omega (arith, short, lt))) (λ names _. done (types.Enumerated names.0, names.1) refl refl))

string_sim : (symbols : List Symbol) (ts : List Placed) → Sim 0 (word words.String ∷ Whole OptionalSize ∷ symbols) ts (λ (a : Option Size × Left). symbols) (λ a. a.1) (string_at ts)
unfolding string_at
string_sim symbols ts = next (word_sim words.String _ ts) (λ a _. optional_size_sim false symbols a)

-- what follows the word of a type of this shape
rest_sim : (turns : ℕ) (shape : Shape) (symbols : List Symbol) (ts : List Placed) → length ts < turns → Made 0 (behind_word shape ++ symbols) symbols ts (rest_at turns shape ts)
unfolding rest_at
rest_sim turns (Alone definition) symbols ts lt = done (definition, ts) refl refl
rest_sim turns BoundsFollow symbols ts lt = weaker (integer_sim symbols ts)
rest_sim turns NamesFollow symbols ts lt = enumerated_sim turns symbols ts lt
rest_sim turns (StringFollows kind) symbols ts lt = maybe (string_sim symbols ts) (λ found _. done (kind found.0, found.1) refl refl)
rest_sim turns (TextSizeFollows kind) symbols ts lt = maybe (optional_size_sim true symbols ts) (λ found _. done (kind found.0, found.1) refl refl)

never : (b : Bool) → b ≡ true → b ≡ false → ⊥
never b e f = cc

-- the production that a word begins which is that of such a type
abbrev worded : Word → Option Shape → Option (List Symbol)
worded w None = None
worded w (Some shape) = Some (word w ∷ behind_word shape)

-- a type that begins with this word, and has no type inside; or with this word none begins
simple_sim : (turns : ℕ) (w : Word) (symbols : List Symbol) (ts : List Placed) → length ts < turns → chosen AType (first_token ts) ≡ worded w (shape_of w) → Heads (Whole AType ∷ symbols) symbols ts (simple_at turns w ts)
unfolding simple_at simple_rest_at
simple_sim turns w symbols ts lt is = go (shape_of w) refl
  where
    rest : (shape : Shape) → shape_of w ≡ Some shape → (us : List Placed) → length us < turns → Made 0 (behind_word shape ++ symbols) symbols us (simple_rest_at turns w us)
    rest shape e us short = subst (λ (found : Option Shape). Made 0 (behind_word shape ++ symbols) symbols us (rest_by turns found us)) (sym e) (rest_sim turns shape symbols us short)

    go : (found : Option Shape) → shape_of w ≡ found → Heads (Whole AType ∷ symbols) symbols ts (simple_at turns w ts)
    go None e = by_choice (Heads (Whole AType ∷ symbols) symbols ts) (is_simple w) _ _
        (λ simple. absurd (never (is_simple w) simple (ap is_there e)))
        (λ _. refused (Whole AType ∷ symbols) ts (at_part (is ∙ ap (worded w) e)))
    go (Some shape) e = expands AType (word w ∷ behind_word shape) (is ∙ ap (worded w) e)
        (by_choice (Heads (word w ∷ behind_word shape ++ symbols) symbols ts) (is_simple w) _ _
        (λ _. first (word_sim w (behind_word shape ++ symbols) ts) (λ a short.
        maybe (rest shape e a (omega (arith, short, lt))) (λ definition _. done (heads.Leaf (node definition.0 (first_place ts).start), definition.1) refl refl)))
        (λ not. absurd (never (is_simple w) (ap is_there e) not)))

-- ---- SEQUENCE and SEQUENCE OF

list_size : (ts : List Placed) → begins_with_sign signs.LeftBrace ts ≡ false → begins_with_sign signs.LeftParenthesis ts ≡ true → chosen SequenceRest (first_token ts) ≡ Some (size (word words.Of ∷ Whole AType ∷ []))
unfolding chosen productions
list_size ts h g = chosen_other _ _ _ _ (fits_sign signs.LeftBrace ts false h) (chosen_one _ _ _ (fits_sign signs.LeftParenthesis ts true g))

list_plain : (ts : List Placed) → begins_with_sign signs.LeftBrace ts ≡ false → begins_with_sign signs.LeftParenthesis ts ≡ false → chosen SequenceRest (first_token ts) ≡ cond (fits (TheWord words.Of) (first_token ts)) (Some (word words.Of ∷ Whole AType ∷ [])) None
unfolding chosen productions
list_plain ts h g = chosen_other _ _ _ _ (fits_sign signs.LeftBrace ts false h) (chosen_other _ _ _ _ (fits_sign signs.LeftParenthesis ts false g) refl)

list_head_sim : (place : ℕ) (symbols : List Symbol) (ts : List Placed) → begins_with_sign signs.LeftBrace ts ≡ false → Heads (Whole SequenceRest ∷ symbols) symbols ts (list_head_at place ts)
unfolding list_head_at
list_head_sim place symbols ts not = by_choice (Heads (Whole SequenceRest ∷ symbols) symbols ts) (begins_with_sign signs.LeftParenthesis ts) _ _
    (λ h. expands SequenceRest (size (word words.Of ∷ Whole AType ∷ [])) (list_size ts not h)
    (first (size_sim false (word words.Of ∷ Whole AType ∷ symbols) ts) (λ found _.
    next (word_sim words.Of (Whole AType ∷ symbols) found.1) (λ a _. done (heads.Opens (frames.List (Some found.0) place), a) refl refl))))
    (λ h. part_of SequenceRest (TheWord words.Of) (Whole AType ∷ []) (list_plain ts not h)
    (first (word_sim words.Of (Whole AType ∷ symbols) ts) (λ a _. done (heads.Opens (frames.List None place), a) refl refl)))

components_end : (ts : List Placed) → begins_with_sign signs.RightBrace ts ≡ true → chosen FirstComponent (first_token ts) ≡ Some (close_brace ∷ [])
unfolding chosen productions
components_end ts h = chosen_one _ _ _ (fits_sign signs.RightBrace ts true h)

components_mark : (ts : List Placed) → begins_with_sign signs.RightBrace ts ≡ false → begins_with_sign signs.Ellipsis ts ≡ true → chosen FirstComponent (first_token ts) ≡ Some (ellipsis ∷ Whole AfterAddition ∷ [])
unfolding chosen productions
components_mark ts h g = chosen_other _ _ _ _ (fits_sign signs.RightBrace ts false h) (chosen_one _ _ _ (fits_sign signs.Ellipsis ts true g))

components_name : (ts : List Placed) → begins_with_sign signs.RightBrace ts ≡ false → begins_with_sign signs.Ellipsis ts ≡ false → chosen FirstComponent (first_token ts) ≡ cond (fits ALower (first_token ts)) (Some (member_symbols groups.Sequence None)) None
unfolding chosen productions
components_name ts h g = chosen_other _ _ _ _ (fits_sign signs.RightBrace ts false h) (chosen_other _ _ _ _ (fits_sign signs.Ellipsis ts false g) refl)

components_head_sim : (place : ℕ) (symbols : List Symbol) (ts : List Placed) → Heads (Whole FirstComponent ∷ symbols) symbols ts (components_head_at place ts)
unfolding components_head_at
components_head_sim place symbols ts = by_choice (Heads (Whole FirstComponent ∷ symbols) symbols ts) (begins_with_sign signs.RightBrace ts) _ _
    (λ h. expands FirstComponent (close_brace ∷ []) (components_end ts h)
    (first (sign_sim signs.RightBrace symbols ts) (λ a _. done (heads.Leaf (node (types.Sequence no_parts) place), a) refl refl)))
    (λ h. entry_from FirstComponent groups.Sequence no_parts place symbols ts refl (components_mark ts h) (components_name ts h))

rest_brace : (ts : List Placed) → begins_with_sign signs.LeftBrace ts ≡ true → chosen SequenceRest (first_token ts) ≡ Some (open_brace ∷ Whole FirstComponent ∷ [])
unfolding chosen productions
rest_brace ts h = chosen_one _ _ _ (fits_sign signs.LeftBrace ts true h)

sequence_head_sim : (symbols : List Symbol) (ts : List Placed) → Heads (word words.Sequence ∷ Whole SequenceRest ∷ symbols) symbols ts (sequence_head_at ts)
unfolding sequence_head_at
sequence_head_sim symbols ts = first (word_sim words.Sequence (Whole SequenceRest ∷ symbols) ts) (λ a _.
    by_choice (HeadsLater (Whole SequenceRest ∷ symbols) symbols a) (begins_with_sign signs.LeftBrace a) _ _
    (λ h. expands SequenceRest (open_brace ∷ Whole FirstComponent ∷ []) (rest_brace a h)
    (next (sign_sim signs.LeftBrace (Whole FirstComponent ∷ symbols) a) (λ b _. weaker (components_head_sim (first_place ts).start symbols b))))
    (λ h. weaker (list_head_sim (first_place ts).start symbols a h)))

-- ---- the other types

choice_head_sim : (symbols : List Symbol) (ts : List Placed) → Heads (word words.Choice ∷ open_brace ∷ Item ALower ∷ Whole AType ∷ Whole AfterAlternative ∷ symbols) symbols ts (choice_head_at ts)
unfolding choice_head_at
choice_head_sim symbols ts = first (word_sim words.Choice _ ts) (λ a _.
    next (sign_sim signs.LeftBrace (Item ALower ∷ Whole AType ∷ Whole AfterAlternative ∷ symbols) a) (λ b _. weaker (entry_sim groups.Choice no_parts (first_place ts).start symbols b)))

set_name_sim : (symbols : List Symbol) (ts : List Placed) → Sim 1 (set_name ++ symbols) ts (λ _. symbols) (λ a. a.2) (set_name_at ts)
unfolding set_name_at
set_name_sim symbols ts = first (sign_sim signs.LeftBrace _ ts) (λ a _.
    next (sign_sim signs.LeftBrace _ a) (λ b _.
    next (upper_sim _ b) (λ name _.
    next (sign_sim signs.RightBrace _ name.1) (λ c _.
    next (sign_sim signs.RightBrace symbols c) (λ d _. done (name.0, (first_place b).start, d) refl refl)))))

container_sim : (symbols : List Symbol) (ts : List Placed) → Heads (word words.ProtocolIeContainer ∷ set_name ++ symbols) symbols ts (container_at ts)
unfolding container_at
container_sim symbols ts = first (word_sim words.ProtocolIeContainer (set_name ++ symbols) ts) (λ a _.
    next (set_name_sim symbols a) (λ set _. done (heads.Leaf (node (types.IeContainer set.0) set.1), set.2) refl refl))

pdu_sim : (symbols : List Symbol) (ts : List Placed) → Heads (word words.ProtocolPdu ∷ set_name ++ symbols) symbols ts (pdu_at ts)
unfolding pdu_at
pdu_sim symbols ts = first (word_sim words.ProtocolPdu (set_name ++ symbols) ts) (λ a _.
    next (set_name_sim symbols a) (λ set _. done (heads.Leaf (node (types.Pdu set.0) set.1), set.2) refl refl))

reference_sim : (symbols : List Symbol) (ts : List Placed) → Heads (Item AnUpper ∷ symbols) symbols ts (reference_at ts)
unfolding reference_at
reference_sim symbols ts = first (upper_sim symbols ts) (λ name _. done (heads.Leaf (node (types.Reference name.0) (first_place ts).start), name.1) refl refl)

abbrev IsWord : List Placed → Word → Type 0
IsWord ts w = first_token ts ≡ tokens.Word w

-- a type that begins with a word
word_head_sim : (turns : ℕ) (w : Word) (symbols : List Symbol) (ts : List Placed) → length ts < turns → IsWord ts w → Heads (Whole AType ∷ symbols) symbols ts (head_by turns (Some w) ts)
unfolding head_by chosen productions
word_head_sim turns words.Sequence symbols ts lt is = expands AType (word words.Sequence ∷ Whole SequenceRest ∷ []) (ap (chosen AType) is) (sequence_head_sim symbols ts)
word_head_sim turns words.Choice symbols ts lt is = expands AType (word words.Choice ∷ open_brace ∷ Item ALower ∷ Whole AType ∷ Whole AfterAlternative ∷ []) (ap (chosen AType) is) (choice_head_sim symbols ts)
word_head_sim turns words.ProtocolIeContainer symbols ts lt is = expands AType (word words.ProtocolIeContainer ∷ set_name) (ap (chosen AType) is) (container_sim symbols ts)
word_head_sim turns words.ProtocolPdu symbols ts lt is = expands AType (word words.ProtocolPdu ∷ set_name) (ap (chosen AType) is) (pdu_sim symbols ts)
word_head_sim turns w symbols ts lt is = simple_sim turns w symbols ts lt (ap (chosen AType) is)

-- a type that doesn't begin with a word
name_head_sim : (turns : ℕ) (symbols : List Symbol) (ts : List Placed) → chosen AType (first_token ts) ≡ cond (fits AnUpper (first_token ts)) (Some (Item AnUpper ∷ [])) None → Heads (Whole AType ∷ symbols) symbols ts (head_by turns None ts)
unfolding head_by
name_head_sim turns symbols ts is = part_of AType AnUpper [] is (reference_sim symbols ts)

-- a type, up to another one inside it
pub head_sim : (turns : ℕ) (symbols : List Symbol) (ts : List Placed) → length ts < turns → Heads (Whole AType ∷ symbols) symbols ts (head_at turns ts)
unfolding chosen productions
head_sim turns symbols ts lt = go (first_token ts) refl
  where
    by_name : (t : Token) → first_token ts ≡ t → word_in t ≡ None → chosen AType t ≡ cond (fits AnUpper t) (Some (Item AnUpper ∷ [])) None → Heads (Whole AType ∷ symbols) symbols ts (head_by turns (word_in (first_token ts)) ts)
    by_name t e none is =
        subst (λ (found : Option Word). Heads (Whole AType ∷ symbols) symbols ts (head_by turns found ts)) (sym (ap word_in e ∙ none))
        (name_head_sim turns symbols ts (subst (λ (u : Token). chosen AType u ≡ cond (fits AnUpper u) (Some (Item AnUpper ∷ [])) None) (sym e) is))

    go : (t : Token) → first_token ts ≡ t → Heads (Whole AType ∷ symbols) symbols ts (head_by turns (word_in (first_token ts)) ts)
    go (tokens.Word w) e = subst (λ (found : Option Word). Heads (Whole AType ∷ symbols) symbols ts (head_by turns found ts)) (sym (ap word_in e)) (word_head_sim turns w symbols ts lt e)
    go (tokens.Upper name) e = by_name (tokens.Upper name) e refl refl
    go (tokens.Lower name) e = by_name (tokens.Lower name) e refl refl
    go (tokens.Number value) e = by_name (tokens.Number value) e refl refl
    go (tokens.Sign found) e = by_name (tokens.Sign found) e refl refl
    go tokens.OutOfProfile e = by_name tokens.OutOfProfile e refl refl
    go tokens.Nothing e = by_name tokens.Nothing e refl refl
    go tokens.EndOfText e = by_name tokens.EndOfText e refl refl

-- ---- types inside others

abbrev stack_symbols : List Frame → List Symbol → List Symbol
stack_symbols [] symbols = symbols
stack_symbols (frame ∷ stack) symbols = frame_symbols frame ++ stack_symbols stack symbols

abbrev risen_symbols : List Symbol → Risen → List Symbol
risen_symbols symbols (None, stack, nodes, ts) = Whole AType ∷ stack_symbols stack symbols
risen_symbols symbols (Some definition, stack, nodes, ts) = symbols

abbrev Rises : List Symbol → List Symbol → List Placed → Result Risen Fault → Type 0
Rises from symbols ts r = Sim 0 from ts (risen_symbols symbols) (λ (a : Risen). a.3) r

risen_sim : (head : Head) (stack : List Frame) (nodes : List Node) (symbols : List Symbol) (ts : List Placed) (on : TypeId → List Node → Left → Result Risen Fault) → ((definition : TypeId) (new : List Node) → Rises (stack_symbols stack symbols) symbols ts (on definition new ts)) → Rises (head_symbols (stack_symbols stack symbols) head) symbols ts (risen head stack nodes ts on)
risen_sim (heads.Leaf new) stack nodes symbols ts on again = again _ _
risen_sim (heads.Opens frame) stack nodes symbols ts on again = done (None, frame ∷ stack, nodes, ts) refl refl

rise_sim : (stack : List Frame) (definition : TypeId) (nodes : List Node) (symbols : List Symbol) (ts : List Placed) → Rises (stack_symbols stack symbols) symbols ts (rise_at stack definition nodes ts)
unfolding rise_at
rise_sim [] definition nodes symbols ts = done (Some definition, [], nodes, ts) refl refl
rise_sim (frame ∷ stack) definition nodes symbols ts =
    maybe (close_sim frame definition (stack_symbols stack symbols) ts) (λ head _.
    risen_sim head.0 stack nodes symbols head.1 (rise_at stack) (λ inner new. rise_sim stack inner new symbols head.1))

type_turn_sim : (turns : ℕ) (stack : List Frame) (nodes : List Node) (symbols : List Symbol) (ts : List Placed) → length ts < turns → Sim 1 (Whole AType ∷ stack_symbols stack symbols) ts (risen_symbols symbols) (λ (a : Risen). a.3) (type_turn_at turns stack nodes ts)
unfolding type_turn_at
type_turn_sim turns stack nodes symbols ts lt =
    first (head_sim turns (stack_symbols stack symbols) ts lt) (λ head _.
    risen_sim head.0 stack nodes symbols head.1 (rise_at stack) (λ inner new. rise_sim stack inner new symbols head.1))

abbrev pub Types : ℕ → List Symbol → List Symbol → List Placed → Result (TypeId × List Node × Left) Fault → Type 0
Types least from symbols ts r = Sim least from ts (λ (a : TypeId × List Node × Left). symbols) (λ a. a.2) r

type_within_sim : (most turns : ℕ) (stack : List Frame) (nodes : List Node) (symbols : List Symbol) (ts : List Placed) → length ts < turns → length ts < most → Types 1 (Whole AType ∷ stack_symbols stack symbols) symbols ts (type_within_at most turns stack nodes ts)
unfolding type_within_at
type_within_sim most zero stack nodes symbols ts lt small = absurd (omega (arith, lt))
type_within_sim most (suc turns) stack nodes symbols ts lt small =
    first (type_turn_sim most stack nodes symbols ts small) (λ turn short.
    go turn (λ inner new us le. weaker (type_within_sim most turns inner new symbols us (omega (arith, le, short, lt)) (omega (arith, le, short, small)))))
  where
    go : (turn : Risen) → ((inner : List Frame) (new : List Node) (us : List Placed) → length us ≤ length turn.3 → Types 0 (Whole AType ∷ stack_symbols inner symbols) symbols us (type_within_at most turns inner new us)) → Types 0 (risen_symbols symbols turn) symbols turn.3 (type_goes_on turn (type_within_at most turns))
    go (None, inner, new, us) again = again inner new us (omega arith)
    go (Some definition, inner, new, us) again = done (definition, new, us) refl refl

-- a type
pub type_sim : (turns : ℕ) (nodes : List Node) (symbols : List Symbol) (ts : List Placed) → length ts < turns → Types 1 (Whole AType ∷ symbols) symbols ts (type_at turns nodes ts)
unfolding type_at
type_sim turns nodes symbols ts lt = type_within_sim turns turns [] nodes symbols ts lt lt
