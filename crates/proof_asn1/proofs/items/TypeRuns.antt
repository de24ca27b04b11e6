-- Types, with those inside them.
use Rattle.std.proofs.Common.{◌≡◌, ℕ, zero, suc, List, [], ◌∷◌, Bool, true, false, cond, refl, sym, ap, ◌∙◌, subst, Option, Some, None}
use Rattle.std.specs.Prelude.{Result}
use Rattle.gnb_types.proofs.Choices.{by_choice}
use Rattle.asn1_tokens.specs.declared.token.Word.{Word}
use Rattle.asn1_tokens.specs.declared.token.Word.TheVariants as words
use Rattle.asn1_tokens.specs.declared.token.Sign.TheVariants as signs
use Rattle.asn1_tokens.specs.declared.token.Token.{Token}
use Rattle.asn1_tokens.specs.declared.token.Token.TheVariants as tokens
use Rattle.asn1_tokens.specs.Words.{is_word}
use Rattle.asn1_tokens.specs.Stream.{first_place}
use Rattle.asn1_syntax.specs.declared.types.fault.Fault.{Fault}
use Rattle.asn1_syntax.specs.declared.types.definition.Size.{Size}
use Rattle.asn1_syntax.specs.declared.types.definition.TypeId.{TypeId}
use Rattle.asn1_syntax.specs.declared.types.definition.Node.{Node}
use Rattle.asn1_syntax.specs.declared.types.definition.Definition.{Definition}
use Rattle.asn1_syntax.specs.declared.types.definition.Definition.TheVariants as types
use Rattle.asn1_syntax.specs.declared.types.members.Group.TheVariants as groups
use Rattle.asn1_syntax.specs.declared.types.members.Frame.{Frame}
use Rattle.asn1_syntax.specs.declared.types.members.Frame.TheVariants as frames
use Rattle.asn1_syntax.specs.declared.types.members.Head.{Head}
use Rattle.asn1_syntax.specs.declared.types.members.Head.TheVariants as heads
use Rattle.asn1_syntax.specs.types.Reading.{Left, begins_with_sign}
use Rattle.asn1_syntax.specs.types.inside.Reading.{first_word}
use Rattle.asn1_syntax.specs.types.Shapes.{Shape, Alone, BoundsFollow, NamesFollow, StringFollows, TextSizeFollows, shape_of, sizes_characters, ends_alone}
use Rattle.asn1_syntax.specs.types.inside.Types.{is_there, enumerated_at, string_at, rest_at, rest_by, simple_rest_at, is_simple, simple_at, list_head_at, components_head_at, sequence_head_at, choice_head_at, set_name_at, container_at, pdu_at, reference_at, head_by, head_at, Risen, risen, rise_at, type_turn_at, type_goes_on, type_within_at, type_at}
use Rattle.asn1_syntax.specs.types.inside.Sizes.{integer_at}
use Rattle.asn1_syntax.specs.types.Members.{no_parts}
use Rattle.asn1_syntax.specs.types.Types.{node}
use Rattle.asn1_syntax.proofs.types.ShapeLemmas.{bounds_word}
use Rattle.asn1_defs.specs.Repetitions.{listed, numbers_behind, ends_with_word, begins_assignment, assigned, types_assigned}
use Rattle.proof_asn1.proofs.items.Runs.{Run, goes, fails, and_then, done, refused, word_then, sign_then, upper_then}
use Rattle.proof_asn1.proofs.items.Views.{Same}
use Rattle.proof_asn1.proofs.items.Insides.{Inside, inside_then, inside_both, same_behind, ended, nowhere, word_inside}
use Rattle.proof_asn1.proofs.items.SizeRuns.{size_run, optional_size_run, integer_run}
use Rattle.proof_asn1.proofs.items.MemberRuns.{first_entry, names_run, entry_run, Opened, Headed, HeadRun, close_run}

-- ---- types without others inside

-- the rest of a type behind its word
abbrev RestRun : Word → List Token → ℕ → Left → Type 0
RestRun w outer turns ts = Run (tokens.Word w ∷ outer) ts (λ (a : Definition × Left). a.1) (λ (a : Definition × Left) after. Same (tokens.Word w ∷ outer) after) (simple_rest_at turns w ts)

never : (b : Bool) → b ≡ true → b ≡ false → ⊥
never b e f = cc

-- a word that begins a type without another one inside begins no set
no_set : (w : Word) (shape : Shape) → shape_of w ≡ Some shape → (is_word w words.ProtocolIes ≡ false) × (is_word w words.ElementaryProcedure ≡ false)
no_set words.ProtocolIes shape h = cc
no_set words.ElementaryProcedure shape h = cc
no_set _ shape h = (refl, refl)

-- the type may end with its word
may_end : (w : Word) (shape : Shape) → shape_of w ≡ Some shape → ends_alone (Some shape) ≡ true → ends_with_word w ≡ true
may_end w shape h ends = kept w (ap ends_alone h ∙ ends)
  where
    kept : (w : Word) → ends_alone (shape_of w) ≡ true → ends_with_word w ≡ true
    kept words.Begin e = refl
    kept words.String e = refl
    kept _ e = e

bounds_rest : {outer : List Token} (w : Word) (ts : Left) → shape_of w ≡ Some BoundsFollow → Run (tokens.Word w ∷ outer) ts (λ (a : Definition × Left). a.1) (λ (a : Definition × Left) after. Same (tokens.Word w ∷ outer) after) (integer_at ts)
bounds_rest {outer} w ts is =
    subst (λ (v : Word). Run (tokens.Word v ∷ outer) ts (λ (a : Definition × Left). a.1) (λ (a : Definition × Left) after. Same (tokens.Word v ∷ outer) after) (integer_at ts)) (sym (bounds_word w is)) (integer_run ts)

-- a size that was read behind the word STRING
behind_string : {before : List Token} {ts : Left} {r : Result (Option Size × Left) Fault}
    → Run (tokens.Word words.String ∷ before) ts (λ (a : Option Size × Left). a.1) (λ (a : Option Size × Left) after. Same (tokens.Word words.String ∷ before) after) r
    → Run (tokens.Word words.String ∷ before) ts (λ (a : Option Size × Left). a.1) (λ (a : Option Size × Left) after. Same before after) r
behind_string (goes allowed_to same) = goes allowed_to (same_behind (word_inside words.String refl refl nowhere) same)
behind_string (fails late) = fails late

string_run : {before : List Token} (ts : Left) → Run before ts (λ (a : Option Size × Left). a.1) (λ (a : Option Size × Left) after. Same before after) (string_at ts)
unfolding string_at
string_run ts = word_then words.String ts (λ a. behind_string (optional_size_run false a refl refl))

-- what follows a word of this shape
rest_run : {outer : List Token} (w : Word) (turns : ℕ) (shape : Shape) (ts : Left) → shape_of w ≡ Some shape → Run (tokens.Word w ∷ outer) ts (λ (a : Definition × Left). a.1) (λ (a : Definition × Left) after. Same (tokens.Word w ∷ outer) after) (rest_at turns shape ts)
unfolding rest_at enumerated_at
rest_run w turns (Alone definition) ts is = done (definition, ts) (ended (may_end w (Alone definition) is refl) nowhere)
rest_run w turns BoundsFollow ts is = bounds_rest w ts is
rest_run w turns NamesFollow ts is =
    sign_then signs.LeftBrace ts refl (λ a.
    and_then (names_run turns a) (λ names after same. done (types.Enumerated names.0, names.1) same))
rest_run w turns (StringFollows kind) ts is = and_then (string_run ts) (λ found after same. done (kind found.0, found.1) same)
rest_run w turns (TextSizeFollows kind) ts is =
    and_then (optional_size_run true ts (may_end w (TextSizeFollows kind) is refl) (ap sizes_characters is)) (λ found after same. done (kind found.0, found.1) same)

-- a type that begins with this word, and has no type inside; or with this word none begins
simple_run : {outer : List Token} (turns : ℕ) (w : Word) (ts : Left) → HeadRun outer outer ts (simple_at turns w ts)
unfolding simple_at simple_rest_at
simple_run {outer} turns w ts = go (shape_of w) refl
  where
    rest : (shape : Shape) → shape_of w ≡ Some shape → (us : Left) → RestRun w outer turns us
    rest shape e us = subst (λ (found : Option Shape). Run (tokens.Word w ∷ outer) us (λ (a : Definition × Left). a.1) (λ (a : Definition × Left) after. Same (tokens.Word w ∷ outer) after) (rest_by turns found us)) (sym e) (rest_run w turns shape us e)

    go : (found : Option Shape) → shape_of w ≡ found → HeadRun outer outer ts (simple_at turns w ts)
    go None e = by_choice (HeadRun outer outer ts) (is_simple w) _ _
        (λ simple. absurd (never (is_simple w) simple (ap is_there e)))
        (λ _. refused ts)
    go (Some shape) e = by_choice (HeadRun outer outer ts) (is_simple w) _ _
        (λ _. word_then w ts (λ a.
        and_then (rest shape e a) (λ definition after same. done (heads.Leaf (node definition.0 (first_place ts).start), definition.1) (same_behind (word_inside w (no_set w shape e).0 (no_set w shape e).1 nowhere) same))))
        (λ not. absurd (never (is_simple w) (ap is_there e) not))

-- ---- types with others inside, and those that name one

-- what is behind other items is behind those that they leave alone
headed_behind : {outer mid : List Token} (after : List Token) (head : Head) (us : Left) → Inside 0 outer mid → Headed mid (head, us) after → Headed outer (head, us) after
headed_behind after (heads.Leaf new) us one same = same_behind one same
headed_behind after (heads.Opens (frames.List size place)) us one opened = (opened.0, inside_both one opened.1)
headed_behind after (heads.Opens (frames.Member group members name place)) us one opened = (opened.0, record { inside = inside_both one opened.1.inside; names = opened.1.names })

head_behind : {outer mid before : List Token} {ts : Left} {r : Result (Head × Left) Fault} → Inside 0 outer mid → HeadRun mid before ts r → HeadRun outer before ts r
head_behind one (goes {a} {after} allowed_to post) = goes allowed_to (headed_behind after a.0 a.1 one post)
head_behind one (fails late) = fails late

components_head_run : {outer : List Token} (place : ℕ) (ts : Left) → HeadRun outer (tokens.Sign signs.LeftBrace ∷ outer) ts (components_head_at place ts)
unfolding components_head_at listed numbers_behind assigned types_assigned
components_head_run {outer} place ts = by_choice (HeadRun outer (tokens.Sign signs.LeftBrace ∷ outer) ts) (begins_with_sign signs.RightBrace ts) _ _
    (λ h. sign_then signs.RightBrace ts refl (λ a. done (heads.Leaf (node (types.Sequence no_parts) place), a) (record { ends = refl; lists = λ depth. refl; ids = refl; codes = refl; names = refl; types = refl })))
    (λ h. entry_run groups.Sequence no_parts place ts (first_entry outer))

list_head_run : {outer : List Token} (place : ℕ) (ts : Left) → HeadRun (tokens.Word words.Sequence ∷ outer) (tokens.Word words.Sequence ∷ outer) ts (list_head_at place ts)
unfolding list_head_at
list_head_run {outer} place ts = by_choice (HeadRun (tokens.Word words.Sequence ∷ outer) (tokens.Word words.Sequence ∷ outer) ts) (begins_with_sign signs.LeftParenthesis ts) _ _
    (λ h. and_then (size_run false ts refl) (λ size after same.
    word_then words.Of size.1 (λ a. done (heads.Opens (frames.List (Some size.0) place), a) (refl, word_inside words.Of refl refl (inside_then nowhere same)))))
    (λ h. word_then words.Of ts (λ a. done (heads.Opens (frames.List None place), a) (refl, word_inside words.Of refl refl nowhere)))

sequence_head_run : {outer : List Token} (ts : Left) → HeadRun outer outer ts (sequence_head_at ts)
unfolding sequence_head_at
sequence_head_run {outer} ts = word_then words.Sequence ts (λ a.
    head_behind (word_inside words.Sequence refl refl nowhere) (by_choice (HeadRun (tokens.Word words.Sequence ∷ outer) (tokens.Word words.Sequence ∷ outer) a) (begins_with_sign signs.LeftBrace a) _ _
    (λ h. sign_then signs.LeftBrace a refl (λ b. components_head_run (first_place ts).start b))
    (λ h. list_head_run (first_place ts).start a)))

choice_head_run : {outer : List Token} (ts : Left) → HeadRun outer outer ts (choice_head_at ts)
unfolding choice_head_at
choice_head_run {outer} ts = word_then words.Choice ts (λ a.
    sign_then signs.LeftBrace a refl (λ b.
    head_behind (word_inside words.Choice refl refl nowhere) (entry_run groups.Choice no_parts (first_place ts).start b (first_entry (tokens.Word words.Choice ∷ outer)))))

-- `{{Set}}`
pub set_name_run : {outer : List Token} (ts : Left) → Run outer ts (λ a. a.2) (λ a after. Same outer after) (set_name_at ts)
unfolding set_name_at listed numbers_behind assigned types_assigned
set_name_run ts =
    sign_then signs.LeftBrace ts refl (λ a.
    sign_then signs.LeftBrace a refl (λ b.
    upper_then b refl (λ name.
    sign_then signs.RightBrace name.1 refl (λ c.
    sign_then signs.RightBrace c refl (λ d.
    done (name.0, (first_place b).start, d) (record { ends = refl; lists = λ depth. refl; ids = refl; codes = refl; names = refl; types = refl }))))))

container_run : {outer : List Token} (ts : Left) → HeadRun outer outer ts (container_at ts)
unfolding container_at
container_run ts = word_then words.ProtocolIeContainer ts (λ a.
    and_then (set_name_run a) (λ set after same. done (heads.Leaf (node (types.IeContainer set.0) set.1), set.2) (same_behind (word_inside words.ProtocolIeContainer refl refl nowhere) same)))

pdu_run : {outer : List Token} (ts : Left) → HeadRun outer outer ts (pdu_at ts)
unfolding pdu_at
pdu_run ts = word_then words.ProtocolPdu ts (λ a.
    and_then (set_name_run a) (λ set after same. done (heads.Leaf (node (types.Pdu set.0) set.1), set.2) (same_behind (word_inside words.ProtocolPdu refl refl nowhere) same)))

reference_run : {outer : List Token} (ts : Left) → begins_assignment outer ≡ false → HeadRun outer outer ts (reference_at ts)
unfolding reference_at listed numbers_behind assigned types_assigned
reference_run ts no_name = upper_then ts no_name (λ name. done (heads.Leaf (node (types.Reference name.0) (first_place ts).start), name.1) (record { ends = refl; lists = λ depth. refl; ids = refl; codes = refl; names = kept _ _ _ no_name; types = refl }))
  where
    kept : (b : Bool) (more names : List (List ℕ)) → b ≡ false → cond b more names ≡ names
    kept true more names h = cc
    kept false more names h = refl

-- ---- a type, up to another one inside it

word_head_run : {outer : List Token} (turns : ℕ) (w : Word) (ts : Left) → HeadRun outer outer ts (head_by turns (Some w) ts)
unfolding head_by
word_head_run turns words.Sequence ts = sequence_head_run ts
word_head_run turns words.Choice ts = choice_head_run ts
word_head_run turns words.ProtocolIeContainer ts = container_run ts
word_head_run turns words.ProtocolPdu ts = pdu_run ts
word_head_run turns w ts = simple_run turns w ts

head_run : {outer : List Token} (turns : ℕ) (ts : Left) → begins_assignment outer ≡ false → HeadRun outer outer ts (head_at turns ts)
unfolding head_by
head_run {outer} turns ts no_name = go (first_word ts)
  where
    go : (found : Option Word) → HeadRun outer outer ts (head_by turns found ts)
    go None = reference_run ts no_name
    go (Some w) = word_head_run turns w ts

-- ---- types inside others

-- These items are before a type inside those that these frames are of; the outer ones are before the outermost.
data Within (outer : List Token) : List Frame → List Token → Type 0 where
  bare : {here : List Token} → Inside 0 outer here → Within outer [] here
  framed : {frame : Frame} {stack : List Frame} {mid here : List Token} → Within outer stack mid → Opened mid frame here → Within outer (frame ∷ stack) here

abbrev Rose : List Token → Risen → List Token → Type 0
Rose outer (None, stack, nodes, us) after = (begins_assignment after ≡ false) × Within outer stack after
Rose outer (Some definition, stack, nodes, us) after = Same outer after

abbrev RiseRun : List Token → List Token → Left → Result Risen Fault → Type 0
RiseRun outer before ts r = Run before ts (λ (a : Risen). a.3) (Rose outer) r

risen_run : {outer mid : List Token} (after : List Token) (head : Head) (us : Left) (stack : List Frame) (nodes : List Node) (on : TypeId → List Node → Left → Result Risen Fault) → Within outer stack mid → Headed mid (head, us) after → ((definition : TypeId) (new : List Node) → Same mid after → RiseRun outer after us (on definition new us)) → RiseRun outer after us (risen head stack nodes us on)
risen_run after (heads.Leaf new) us stack nodes on within same again = again _ _ same
risen_run after (heads.Opens frame) us stack nodes on within opened again = done (None, frame ∷ stack, nodes, us) (opened.0, framed within opened.1)

rise_run : {outer here after : List Token} (stack : List Frame) (definition : TypeId) (nodes : List Node) (ts : Left) → Within outer stack here → Same here after → RiseRun outer after ts (rise_at stack definition nodes ts)
unfolding rise_at
rise_run [] definition nodes ts (bare one) same = done (Some definition, [], nodes, ts) (same_behind one same)
rise_run (frame ∷ stack) definition nodes ts (framed within opened) same =
    and_then (close_run frame definition ts opened same) (λ head last headed.
    risen_run last head.0 head.1 stack nodes (rise_at stack) within headed (λ inner new closed. rise_run stack inner new head.1 within closed))

type_turn_run : {outer here : List Token} (turns : ℕ) (stack : List Frame) (nodes : List Node) (ts : Left) → begins_assignment here ≡ false → Within outer stack here → RiseRun outer here ts (type_turn_at turns stack nodes ts)
unfolding type_turn_at
type_turn_run turns stack nodes ts no_name within =
    and_then (head_run turns ts no_name) (λ head last headed.
    risen_run last head.0 head.1 stack nodes (rise_at stack) within headed (λ inner new closed. rise_run stack inner new head.1 within closed))

-- a type, with these items before it
abbrev pub TypeRun : List Token → List Token → Left → Result (TypeId × List Node × Left) Fault → Type 0
TypeRun outer before ts r = Run before ts (λ (a : TypeId × List Node × Left). a.2) (λ (a : TypeId × List Node × Left) after. Same outer after) r

type_within_run : {outer here : List Token} (most turns : ℕ) (stack : List Frame) (nodes : List Node) (ts : Left) → begins_assignment here ≡ false → Within outer stack here → TypeRun outer here ts (type_within_at most turns stack nodes ts)
unfolding type_within_at
type_within_run most zero stack nodes ts no_name within = refused ts
type_within_run {outer} most (suc turns) stack nodes ts no_name within =
    and_then (type_turn_run most stack nodes ts no_name within) (λ turn after rose.
    go turn after rose (λ inner new us free more. type_within_run most turns inner new us free more))
  where
    go : (turn : Risen) (after : List Token) → Rose outer turn after → ((inner : List Frame) (new : List Node) (us : Left) → begins_assignment after ≡ false → Within outer inner after → TypeRun outer after us (type_within_at most turns inner new us)) → TypeRun outer after turn.3 (type_goes_on turn (type_within_at most turns))
    go (None, inner, new, us) after rose again = again inner new us rose.0 rose.1
    go (Some definition, inner, new, us) after rose again = done (definition, new, us) rose

-- a type, where no assignment begins
pub type_run : (turns : ℕ) (nodes : List Node) (before : List Token) (ts : Left) → begins_assignment before ≡ false → Run before ts (λ a. a.2) (λ (a : TypeId × List Node × Left) after. Same before after) (type_at turns nodes ts)
unfolding type_at
type_run turns nodes before ts no_name = type_within_run turns turns [] nodes ts no_name (bare nowhere)
