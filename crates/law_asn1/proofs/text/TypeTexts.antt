-- Types, with those inside them.
use Rattle.std.proofs.lemmas.List.{append_assoc, append-nil, length-append, get_or_append_left}
use Rattle.std.proofs.Math.Seq.{get_or-append_seam}
use Rattle.std.proofs.Common.{◌≡◌, ℕ, ◌+◌, ◌<◌, List, [], ◌∷◌, ◌++◌, zero, suc, length, map, fold, get_or, true, false, refl, sym, ap, ◌∙◌, subst, arith, Option, Some, None}
use Rattle.std.specs.Prelude.{Result, Ok, Err}
use Rattle.gnb_types.proofs.Choices.{by_choice}
use Rattle.asn1_tokens.specs.declared.token.Word.{Word}
use Rattle.asn1_tokens.specs.declared.token.Word.TheVariants as words
use Rattle.asn1_tokens.specs.declared.token.Sign.TheVariants as signs
use Rattle.asn1_tokens.specs.declared.token.Token.{Token}
use Rattle.asn1_tokens.specs.Stream.{Placed, first_place}
use Rattle.asn1_syntax.specs.declared.types.fault.Fault.{Fault}
use Rattle.asn1_syntax.specs.declared.types.definition.Size.{Size}
use Rattle.asn1_syntax.specs.declared.types.definition.TypeId.{TypeId}
use Rattle.asn1_syntax.specs.declared.types.definition.Component.{Component}
use Rattle.asn1_syntax.specs.declared.types.definition.Extensible.{Extensible}
use Rattle.asn1_syntax.specs.declared.types.definition.Node.{Node}
use Rattle.asn1_syntax.specs.declared.types.definition.Definition.{Definition}
use Rattle.asn1_syntax.specs.declared.types.definition.Definition.TheVariants as types
use Rattle.asn1_syntax.specs.declared.types.members.Group.TheVariants as groups
use Rattle.asn1_syntax.specs.declared.types.members.Frame.{Frame}
use Rattle.asn1_syntax.specs.declared.types.members.Head.{Head}
use Rattle.asn1_syntax.specs.declared.types.members.Head.TheVariants as heads
use Rattle.asn1_syntax.specs.types.Reading.{Left, begins_with_sign}
use Rattle.asn1_syntax.specs.types.inside.Reading.{first_word}
use Rattle.asn1_syntax.specs.types.Shapes.{Shape, Alone, BoundsFollow, NamesFollow, StringFollows, TextSizeFollows, shape_of, Nothing, StringSize, TextSize, Parts, Simple, parts_of}
use Rattle.asn1_syntax.specs.types.Members.{no_parts, additions_of}
use Rattle.asn1_syntax.specs.types.inside.Members.{close_at}
use Rattle.asn1_syntax.proofs.types.ShapeLemmas.{alone_parts, string_parts, text_parts, bounds_word, names_word}
use Rattle.asn1_syntax.specs.types.Types.{next_id}
use Rattle.asn1_syntax.specs.types.inside.Types.{enumerated_at, string_at, rest_at, rest_by, simple_rest_at, is_simple, simple_at, list_head_at, components_head_at, sequence_head_at, choice_head_at, set_name_at, container_at, pdu_at, reference_at, head_by, Risen, risen, rise_at, type_turn_at, type_goes_on, type_within_at, type_at}
use Rattle.asn1_defs.specs.Links.{AreBelow, PartsBelow, IsInside, AreOrdered}
use Rattle.law_asn1.specs.text.Written.{Written, word, sign, lower, optional_text, separated, addition_entries, entries_of, braced, optional_size_text, type_text, component_text, set_name_text, parts_text, definition_text, with_text, texts_of}
use Rattle.proof_asn1.proofs.asn1_proof_syntax.Gives.{Gives, ok, no_value, and_gives, gives_so}
use Rattle.law_asn1.proofs.text.Taken.{Taken, ◌then◌, nothing_taken, written_as, word_gives, sign_gives, upper_gives}
use Rattle.law_asn1.proofs.text.SizeTexts.{size_gives, optional_size_gives, integer_gives}
use Rattle.law_asn1.proofs.text.MemberTexts.{each_with, names_gives, frame_text, head_text, entry_gives, close_gives, Members}

abbrev Made : List Written → List Placed → Result (Definition × Left) Fault → Type 0
Made texts start r = Gives (λ (a : Definition × Left). Taken (definition_text texts a.0) start a.1) r

abbrev pub Heads : List Written → List Placed → Result (Head × Left) Fault → Type 0
Heads texts start r = Gives (λ (a : Head × Left). Taken (head_text texts a.0) start a.1) r

-- ---- heads

enumerated_gives : (texts : List Written) (turns : ℕ) (start ts : List Placed) → Taken (word words.Enumerated) start ts → Made texts start (enumerated_at turns ts)
unfolding enumerated_at definition_text
enumerated_gives texts turns start ts p =
    and_gives (sign_gives signs.LeftBrace ts) (λ a t1.
    and_gives (names_gives (λ t. word words.Enumerated (sign signs.LeftBrace t)) start turns a (p then t1)) (λ names t2. ok t2))

string_gives : (ts : List Placed) → Gives (λ (a : Option Size × Left). Taken (λ t. word words.String (optional_size_text a.0 t)) ts a.1) (string_at ts)
unfolding string_at
string_gives ts = and_gives (word_gives words.String ts) (λ a t1. gives_so (optional_size_gives false a) (λ found t2. t1 then t2))

-- the text of a type is that of its parts
text_of_parts : (texts : List Written) (definition : Definition) (parts : Parts) (start ts : List Placed) → parts_of definition ≡ parts → Taken (parts_text texts parts) start ts → Taken (definition_text texts definition) start ts
unfolding definition_text
text_of_parts texts definition parts start ts is p = subst (λ (found : Parts). Taken (parts_text texts found) start ts) (sym is) p

rest_gives : (texts : List Written) (turns : ℕ) (w : Word) (shape : Shape) (start ts : List Placed) → shape_of w ≡ Some shape → Taken (word w) start ts → Made texts start (rest_at turns shape ts)
unfolding rest_at
rest_gives texts turns w (Alone definition) start ts is p = ok (text_of_parts texts definition (Simple w Nothing) start ts (alone_parts w definition is) p)
rest_gives texts turns w BoundsFollow start ts is p = integer_gives texts start ts (subst (λ (v : Word). Taken (word v) start ts) (bounds_word w is) p)
rest_gives texts turns w NamesFollow start ts is p = enumerated_gives texts turns start ts (subst (λ (v : Word). Taken (word v) start ts) (names_word w is) p)
rest_gives texts turns w (StringFollows kind) start ts is p = and_gives (string_gives ts) (λ found t.
    ok (text_of_parts texts (kind found.0) (Simple w (StringSize found.0)) start found.1 (string_parts w kind is found.0) (p then t)))
rest_gives texts turns w (TextSizeFollows kind) start ts is p = and_gives (optional_size_gives true ts) (λ found t.
    ok (text_of_parts texts (kind found.0) (Simple w (TextSize found.0)) start found.1 (text_parts w kind is found.0) (p then t)))

simple_rest_gives : (texts : List Written) (turns : ℕ) (w : Word) (start ts : List Placed) → Taken (word w) start ts → Made texts start (simple_rest_at turns w ts)
unfolding simple_rest_at
simple_rest_gives texts turns w start ts p = go (shape_of w) refl
  where
    go : (found : Option Shape) → shape_of w ≡ found → Made texts start (rest_by turns found ts)
    go None is = no_value
    go (Some shape) is = rest_gives texts turns w shape start ts is p

simple_gives : (texts : List Written) (turns : ℕ) (w : Word) (ts : List Placed) → Heads texts ts (simple_at turns w ts)
unfolding simple_at
simple_gives texts turns w ts = by_choice (Heads texts ts) (is_simple w) _ _
    (λ _. and_gives (word_gives w ts) (λ a t1. and_gives (simple_rest_gives texts turns w ts a t1) (λ definition t2. ok t2)))
    (λ _. no_value)

list_head_gives : (texts : List Written) (place : ℕ) (start ts : List Placed) → Taken (word words.Sequence) start ts → Heads texts start (list_head_at place ts)
unfolding list_head_at
list_head_gives texts place start ts p = by_choice (Heads texts start) (begins_with_sign signs.LeftParenthesis ts) _ _
    (λ _. and_gives (size_gives false ts) (λ found t1. and_gives (word_gives words.Of found.1) (λ a t2. ok (p then t1 then t2))))
    (λ _. and_gives (word_gives words.Of ts) (λ a t. ok (p then t)))

no_members : (texts : List Written) (start ts : List Placed) → Taken (λ t. word words.Sequence (sign signs.LeftBrace t)) start ts → Members texts start groups.Sequence no_parts ts
unfolding each_with
no_members texts start ts p = p

no_alternatives : (texts : List Written) (start ts : List Placed) → Taken (λ t. word words.Choice (sign signs.LeftBrace t)) start ts → Members texts start groups.Choice no_parts ts
unfolding each_with
no_alternatives texts start ts p = p

components_head_gives : (texts : List Written) (place : ℕ) (start ts : List Placed) → Taken (λ t. word words.Sequence (sign signs.LeftBrace t)) start ts → Heads texts start (components_head_at place ts)
unfolding components_head_at definition_text separated
components_head_gives texts place start ts p = by_choice (Heads texts start) (begins_with_sign signs.RightBrace ts) _ _
    (λ _. and_gives (sign_gives signs.RightBrace ts) (λ a t. ok (p then t)))
    (λ _. entry_gives texts start groups.Sequence no_parts place ts (no_members texts start ts p))

sequence_head_gives : (texts : List Written) (ts : List Placed) → Heads texts ts (sequence_head_at ts)
unfolding sequence_head_at
sequence_head_gives texts ts = and_gives (word_gives words.Sequence ts) (λ a t1.
    by_choice (Heads texts ts) (begins_with_sign signs.LeftBrace a) _ _
    (λ _. and_gives (sign_gives signs.LeftBrace a) (λ b t2. components_head_gives texts (first_place ts).start ts b (t1 then t2)))
    (λ _. list_head_gives texts (first_place ts).start ts a t1))

choice_head_gives : (texts : List Written) (ts : List Placed) → Heads texts ts (choice_head_at ts)
unfolding choice_head_at
choice_head_gives texts ts = and_gives (word_gives words.Choice ts) (λ a t1.
    and_gives (sign_gives signs.LeftBrace a) (λ b t2. entry_gives texts ts groups.Choice no_parts (first_place ts).start b (no_alternatives texts ts b (t1 then t2))))

set_name_gives : (ts : List Placed) → Gives (λ (a : List ℕ × ℕ × Left). Taken (set_name_text a.0) ts a.2) (set_name_at ts)
unfolding set_name_at
set_name_gives ts = and_gives (sign_gives signs.LeftBrace ts) (λ a t1.
    and_gives (sign_gives signs.LeftBrace a) (λ b t2.
    and_gives (upper_gives b) (λ name t3.
    and_gives (sign_gives signs.RightBrace name.1) (λ c t4.
    and_gives (sign_gives signs.RightBrace c) (λ d t5. ok (t1 then t2 then t3 then t4 then t5))))))

container_gives : (texts : List Written) (ts : List Placed) → Heads texts ts (container_at ts)
unfolding container_at definition_text
container_gives texts ts = and_gives (word_gives words.ProtocolIeContainer ts) (λ a t1. and_gives (set_name_gives a) (λ set t2. ok (t1 then t2)))

pdu_gives : (texts : List Written) (ts : List Placed) → Heads texts ts (pdu_at ts)
unfolding pdu_at definition_text
pdu_gives texts ts = and_gives (word_gives words.ProtocolPdu ts) (λ a t1. and_gives (set_name_gives a) (λ set t2. ok (t1 then t2)))

reference_gives : (texts : List Written) (ts : List Placed) → Heads texts ts (reference_at ts)
unfolding reference_at definition_text
reference_gives texts ts = and_gives (upper_gives ts) (λ name t. ok t)

word_head_gives : (texts : List Written) (turns : ℕ) (w : Word) (ts : List Placed) → Heads texts ts (head_by turns (Some w) ts)
unfolding head_by
word_head_gives texts turns words.Sequence ts = sequence_head_gives texts ts
word_head_gives texts turns words.Choice ts = choice_head_gives texts ts
word_head_gives texts turns words.ProtocolIeContainer ts = container_gives texts ts
word_head_gives texts turns words.ProtocolPdu ts = pdu_gives texts ts
word_head_gives texts turns w ts = simple_gives texts turns w ts

head_by_gives : (texts : List Written) (turns : ℕ) (found : Option Word) (ts : List Placed) → Heads texts ts (head_by turns found ts)
unfolding head_by
head_by_gives texts turns None ts = reference_gives texts ts
head_by_gives texts turns (Some w) ts = word_head_gives texts turns w ts

-- ---- the text of a type stays what it was when it was read

fold-append : (ts : List Written) (xs ys : List Node) → fold with_text ts (xs ++ ys) ≡ fold with_text (fold with_text ts xs) ys
fold-append ts [] ys = refl
fold-append ts (x ∷ xs) ys = fold-append (with_text ts x) xs ys

kept : (ts : List Written) (xs : List Node) → (more : List Written) × (fold with_text ts xs ≡ ts ++ more)
kept ts [] = ([], sym (append-nil ts))
kept ts (x ∷ xs) = let inner = kept (with_text ts x) xs in (definition_text ts x.definition ∷ inner.0, inner.1 ∙ append_assoc ts (definition_text ts x.definition ∷ []) inner.0)

length-texts : (ts : List Written) (xs : List Node) → length (fold with_text ts xs) ≡ length ts + length xs
length-texts ts [] = omega arith
length-texts ts (x ∷ xs) = omega (arith, length-texts (with_text ts x) xs, length-append ts (definition_text ts x.definition ∷ []))

-- the first texts are the same
abbrev SameBelow : ℕ → List Written → List Written → Type 0
SameBelow n ts us = (i : ℕ) → i < n → get_or ts i (λ (t : List Token). t) ≡ get_or us i (λ (t : List Token). t)

component_same : (n : ℕ) (ts us : List Written) → SameBelow n ts us → (c : Component) → c.definition.number < n → component_text ts c ≡ component_text us c
component_same n ts us same c below = ap (λ (w : Written). λ (t : List Token). lower c.name (w (optional_text c.optional t))) (same c.definition.number below)

members_same : (n : ℕ) (ts us : List Written) → SameBelow n ts us → (cs : List Component) → AreBelow n cs → map (component_text ts) cs ≡ map (component_text us) cs
members_same n ts us same [] below = refl
members_same n ts us same (c ∷ cs) below =
    ap (λ (w : Written). w ∷ map (component_text ts) cs) (component_same n ts us same c below.0)
    ∙ ap (λ (ws : List Written). component_text us c ∷ ws) (members_same n ts us same cs below.1)

entries_same : (n : ℕ) (ts us : List Written) → SameBelow n ts us → (members : Extensible Component) → PartsBelow n members → entries_of (component_text ts) members ≡ entries_of (component_text us) members
entries_same n ts us same members below =
    ap (λ (ws : List Written). ws ++ addition_entries (component_text ts) members.additions) (members_same n ts us same members.root below.0)
    ∙ ap (λ (ws : List Written). map (component_text us) members.root ++ ws) (added members.additions below.1)
  where
    added : (additions : Option (List Component)) → AreBelow n (additions_of additions) → addition_entries (component_text ts) additions ≡ addition_entries (component_text us) additions
    added None b = refl
    added (Some cs) b = ap (λ (ws : List Written). sign signs.Ellipsis ∷ ws) (members_same n ts us same cs b)

definition_same : (n : ℕ) (ts us : List Written) → SameBelow n ts us → (d : Definition) → IsInside n d → (tail : List Token) → definition_text ts d tail ≡ definition_text us d tail
unfolding definition_text
definition_same n ts us same (types.Sequence members) inside tail = ap (λ (es : List Written). word words.Sequence (braced es tail)) (entries_same n ts us same members inside)
definition_same n ts us same (types.Choice members) inside tail = ap (λ (es : List Written). word words.Choice (braced es tail)) (entries_same n ts us same members inside)
definition_same n ts us same (types.SequenceOf size element) inside tail = ap (λ (w : Written). word words.Sequence (optional_size_text size (word words.Of (w tail)))) (same element.number inside)
definition_same n ts us same _ inside tail = refl

ordered_at : (k : ℕ) (nodes : List Node) (new : Node) (more : List Node) → AreOrdered k ((nodes ++ new ∷ []) ++ more) → IsInside (k + length nodes) new.definition
ordered_at k [] new more ordered = subst (λ (n : ℕ). IsInside n new.definition) (omega arith) ordered.0
ordered_at k (x ∷ nodes) new more ordered = subst (λ (n : ℕ). IsInside n new.definition) (omega arith) (ordered_at (suc k) nodes new more ordered.1)

-- the text of a type in the list of all is what it is written with
own_text : (nodes : List Node) (new : Node) (more : List Node) → AreOrdered 0 ((nodes ++ new ∷ []) ++ more) → (tail : List Token) → definition_text (texts_of ((nodes ++ new ∷ []) ++ more)) new.definition tail ≡ type_text (texts_of ((nodes ++ new ∷ []) ++ more)) (next_id nodes) tail
unfolding texts_of
own_text nodes new more ordered tail =
    definition_same (length nodes) all before same new.definition inside tail
    ∙ ap (λ (w : Written). w tail) (sym at)
  where
    before : List Written
    before = fold with_text [] nodes

    all : List Written
    all = fold with_text [] ((nodes ++ new ∷ []) ++ more)

    later : (rest : List Written) × (fold with_text (with_text before new) more ≡ with_text before new ++ rest)
    later = kept (with_text before new) more

    whole : all ≡ before ++ definition_text before new.definition ∷ later.0
    whole = fold-append [] (nodes ++ new ∷ []) more ∙ ap (λ (ts : List Written). fold with_text ts more) (fold-append [] nodes (new ∷ [])) ∙ later.1 ∙ append_assoc before (definition_text before new.definition ∷ []) later.0

    count : length before ≡ length nodes
    count = length-texts [] nodes ∙ omega arith

    at : get_or all (length nodes) (λ (t : List Token). t) ≡ definition_text before new.definition
    at = ap (λ (ts : List Written). get_or ts (length nodes) (λ (t : List Token). t)) whole ∙ ap (λ (n : ℕ). get_or (before ++ definition_text before new.definition ∷ later.0) n (λ (t : List Token). t)) (sym count) ∙ get_or-append_seam before (definition_text before new.definition) later.0 (λ t. t)

    same : SameBelow (length nodes) all before
    same i h = ap (λ (ts : List Written). get_or ts i (λ (t : List Token). t)) whole ∙ get_or_append_left before (definition_text before new.definition ∷ later.0) (λ t. t) i (omega (arith, h, count))

    inside : IsInside (length nodes) new.definition
    inside = subst (λ (n : ℕ). IsInside n new.definition) (omega arith) (ordered_at 0 nodes new more ordered)

-- ---- types inside others

-- nodes that grew from others
abbrev pub Grows : List Node → List Node → Type 0
Grows old new = (more : List Node) × (new ≡ old ++ more)

pub grows_then : (a b c : List Node) → Grows a b → Grows b c → Grows a c
grows_then a b c one two = (one.0 ++ two.0, two.1 ∙ ap (λ (l : List Node). l ++ two.0) one.1 ∙ append_assoc a one.0 two.0)

pub grows_not : (nodes : List Node) → Grows nodes nodes
grows_not nodes = ([], sym (append-nil nodes))

gives_when : {A : Type 0} {P : A → Type 0} (E : Type 0) (r : Result A Fault) → (E → Gives P r) → Gives (λ a. E → P a) r
gives_when {P} E (Ok a) on = ok (λ e. value (on e))
  where
    value : Gives P (Ok a) → P a
    value (ok p) = p
gives_when E (Err f) on = no_value

-- from the start to here, the frames around were taken
StackTaken : List Written → List Placed → List Frame → List Placed → Type 0
StackTaken texts start [] ts = Taken (λ t. t) start ts
StackTaken texts start (frame ∷ stack) ts = (mid : List Placed) × StackTaken texts start stack mid × Taken (frame_text texts frame) mid ts

-- a type was taken, or one of those around it awaits its next part, where these are all types of the module
abbrev RisenFacts : List Node → List Node → List Placed → Risen → Type 0
RisenFacts all old start (None, stack, nodes, ts) = Grows old nodes × (Grows nodes all → StackTaken (texts_of all) start stack ts)
RisenFacts all old start (Some id, stack, nodes, ts) = Grows old nodes × (Grows nodes all → Taken (type_text (texts_of all) id) start ts)

-- behind the frames around, a head was taken
abbrev Behind : List Node → List Node → List Placed → List Frame → Head × Left → Type 0
Behind all nodes start stack a = Grows nodes all → (mid : List Placed) × StackTaken (texts_of all) start stack mid × Taken (head_text (texts_of all) a.0) mid a.1

pushed : (nodes : List Node) (new : Node) → Grows nodes (nodes ++ new ∷ [])
pushed nodes new = (new ∷ [], refl)

own : (all nodes : List Node) (new : Node) → AreOrdered 0 all → Grows (nodes ++ new ∷ []) all → (tail : List Token) → definition_text (texts_of all) new.definition tail ≡ type_text (texts_of all) (next_id nodes) tail
own all nodes new ordered grows tail =
    subst (λ (l : List Node). definition_text (texts_of l) new.definition tail ≡ type_text (texts_of l) (next_id nodes) tail) (sym grows.1)
    (own_text nodes new grows.0 (subst (AreOrdered 0) grows.1 ordered) tail)

risen_gives : (all old : List Node) (start : List Placed) → AreOrdered 0 all → (head : Head) (stack : List Frame) (nodes : List Node) (ts : List Placed) (on : TypeId → List Node → Left → Result Risen Fault)
    → ((id : TypeId) (new : List Node) → Grows old new → (Grows new all → (mid : List Placed) × StackTaken (texts_of all) start stack mid × Taken (type_text (texts_of all) id) mid ts) → Gives (RisenFacts all old start) (on id new ts))
    → Grows old nodes → Behind all nodes start stack (head, ts) → Gives (RisenFacts all old start) (risen head stack nodes ts on)
unfolding StackTaken
risen_gives all old start ordered (heads.Leaf new) stack nodes ts on again grew behind = again (next_id nodes) (nodes ++ new ∷ []) (grows_then old nodes (nodes ++ new ∷ []) grew (pushed nodes new))
    (λ grows. let found = behind (grows_then nodes (nodes ++ new ∷ []) all (pushed nodes new) grows) in (found.0, found.1, written_as (type_text (texts_of all) (next_id nodes)) (own all nodes new ordered grows) found.2))
risen_gives all old start ordered (heads.Opens frame) stack nodes ts on again grew behind = ok (grew, λ grows. behind grows)

rise_gives : (all old : List Node) (start : List Placed) → AreOrdered 0 all → (stack : List Frame) (id : TypeId) (nodes : List Node) (ts : List Placed)
    → Grows old nodes → (Grows nodes all → (mid : List Placed) × StackTaken (texts_of all) start stack mid × Taken (type_text (texts_of all) id) mid ts) → Gives (RisenFacts all old start) (rise_at stack id nodes ts)
unfolding rise_at StackTaken
rise_gives all old start ordered [] id nodes ts grew behind = ok (grew, λ grows. let found = behind grows in found.1 then found.2)
rise_gives all old start ordered (frame ∷ stack) id nodes ts grew behind =
    and_gives (gives_when (Grows nodes all) (close_at frame id ts) (λ grows. closes (behind grows))) (λ head later.
    risen_gives all old start ordered head.0 stack nodes head.1 (rise_at stack)
    (λ inner new more taken. rise_gives all old start ordered stack inner new head.1 more taken)
    grew later)
  where
    closes : ((mid : List Placed) × StackTaken (texts_of all) start (frame ∷ stack) mid × Taken (type_text (texts_of all) id) mid ts) → Gives (λ (a : Head × Left). (mid : List Placed) × StackTaken (texts_of all) start stack mid × Taken (head_text (texts_of all) a.0) mid a.1) (close_at frame id ts)
    closes (mid, (outer, below, framed), inside) = gives_so (close_gives (texts_of all) outer frame id ts (framed then inside)) (λ a took. (outer, below, took))

type_turn_gives : (all old : List Node) (start : List Placed) → AreOrdered 0 all → (turns : ℕ) (stack : List Frame) (nodes : List Node) (ts : List Placed) → Grows old nodes → (Grows nodes all → StackTaken (texts_of all) start stack ts) → Gives (RisenFacts all old start) (type_turn_at turns stack nodes ts)
unfolding type_turn_at
type_turn_gives all old start ordered turns stack nodes ts grew p =
    and_gives (head_by_gives (texts_of all) turns (first_word ts) ts) (λ head took.
    risen_gives all old start ordered head.0 stack nodes head.1 (rise_at stack)
    (λ inner new more taken. rise_gives all old start ordered stack inner new head.1 more taken)
    grew (λ grows. (ts, p grows, took)))

-- a type was taken, where these are all types of the module
abbrev pub TypeFacts : List Node → List Node → List Placed → TypeId × List Node × Left → Type 0
TypeFacts all old start a = Grows old a.1 × (Grows a.1 all → Taken (type_text (texts_of all) a.0) start a.2)

type_within_gives : (all old : List Node) (start : List Placed) → AreOrdered 0 all → (most turns : ℕ) (stack : List Frame) (nodes : List Node) (ts : List Placed) → Grows old nodes → (Grows nodes all → StackTaken (texts_of all) start stack ts) → Gives (TypeFacts all old start) (type_within_at most turns stack nodes ts)
unfolding type_within_at
type_within_gives all old start ordered most zero stack nodes ts grew p = no_value
type_within_gives all old start ordered most (suc turns) stack nodes ts grew p =
    and_gives (type_turn_gives all old start ordered most stack nodes ts grew p) (λ turn later.
    go (λ inner new us more q. type_within_gives all old start ordered most turns inner new us more q) turn later)
  where
    go : ((inner : List Frame) (new : List Node) (us : List Placed) → Grows old new → (Grows new all → StackTaken (texts_of all) start inner us) → Gives (TypeFacts all old start) (type_within_at most turns inner new us)) → (turn : Risen) → RisenFacts all old start turn → Gives (TypeFacts all old start) (type_goes_on turn (type_within_at most turns))
    go again (None, inner, new, us) q = again inner new us q.0 q.1
    go again (Some id, inner, new, us) q = ok q

-- a type
pub type_gives : (all : List Node) → AreOrdered 0 all → (turns : ℕ) (nodes : List Node) (ts : List Placed) → Gives (TypeFacts all nodes ts) (type_at turns nodes ts)
unfolding type_at StackTaken
type_gives all ordered turns nodes ts = type_within_gives all nodes ts ordered turns turns [] nodes ts (grows_not nodes) (λ _. nothing_taken ts)
