-- What the beginnings of types mean that were read.
use Rattle.std.proofs.Common.{◌≡◌, ℕ, List, true, false, cond, refl, Option, Some, None}
use Rattle.gnb_types.proofs.Choices.{by_choice}
use Rattle.asn1_tokens.specs.declared.token.Word.{Word}
use Rattle.asn1_tokens.specs.declared.token.Word.TheVariants as words
use Rattle.asn1_tokens.specs.declared.token.Sign.TheVariants as signs
use Rattle.asn1_tokens.specs.declared.token.Token.TheVariants as tokens
use Rattle.asn1_syntax.specs.declared.types.definition.Size.{Size}
use Rattle.asn1_syntax.specs.declared.types.definition.TypeId.{TypeId}
use Rattle.asn1_syntax.specs.declared.types.definition.Definition.{Definition}
use Rattle.asn1_syntax.specs.declared.types.definition.Node.{Node}
use Rattle.asn1_syntax.specs.declared.types.members.Group.TheVariants as groups
use Rattle.asn1_syntax.specs.declared.types.members.Frame.TheVariants as frames
use Rattle.asn1_syntax.specs.declared.types.members.Head.TheVariants as heads
use Rattle.asn1_syntax.specs.types.Reading.{Left, begins_with_sign}
use Rattle.asn1_syntax.specs.types.inside.Reading.{◌>>=◌, first_word, sign_at}
use Rattle.asn1_syntax.specs.types.Sizes.{integer_least, integer_greatest, greatest_beside}
use Rattle.asn1_syntax.specs.types.inside.Sizes.{integer_at}
use Rattle.asn1_syntax.specs.types.Shapes.{Shape, Alone, BoundsFollow, NamesFollow, StringFollows, TextSizeFollows, shape_of}
use Rattle.asn1_syntax.specs.types.Members.{no_parts}
use Rattle.asn1_syntax.specs.types.Types.{node}
use Rattle.asn1_syntax.specs.types.inside.Types.{enumerated_at, string_at, rest_at, rest_by, simple_rest_at, is_simple, simple_at, list_head_at, components_head_at, sequence_head_at, choice_head_at, container_at, pdu_at, reference_at, head_by, head_at}
use Rattle.proof_asn1.proofs.asn1_proof_syntax.Gives.{Gives, ok, no_value, and_gives, gives_so}
use Rattle.asn1_defs.specs.ItemMeanings.{The, start_of, OptionalSize, sized, unsized}
use Rattle.asn1_defs.specs.TypeMeanings.{Follows, alone, bounds, names, string, text_size, Plain, simple, ie_container, pdu, AType, Behind, Means, reference, worded, plain, sequence_of, empty_sequence, sequence, choice}
use Rattle.proof_asn1.proofs.values.Taken.{the_word_gives, the_sign_gives, the_upper_gives, the_number_gives, integer_extends_gives, size_gives, optional_size_gives}
use Rattle.proof_asn1.proofs.values.NameTaken.{names_gives, set_name_gives}
use Rattle.proof_asn1.proofs.values.MemberTaken.{FrameEnds, list_ends, composes, Braced, all_members, HeadFacts, leaf, opens, head_so, Heads, entry_gives}

-- ---- types without others inside

-- behind its first word, which stands there
abbrev Made : Word → ℕ → Left → Definition × Left → Type 0
Made word place ts a = Plain word place ts (node a.0 place) a.1

-- what follows the word of a type of this shape
abbrev FollowedBy : Shape → Left → Definition × Left → Type 0
FollowedBy shape ts a = Follows shape ts a.0 a.1

integer_gives : (ts : Left) → Gives (FollowedBy BoundsFollow ts) (integer_at ts)
unfolding integer_at
integer_gives ts = and_gives (the_sign_gives signs.LeftParenthesis ts) (λ a t1.
    and_gives (the_number_gives integer_least integer_greatest a) (λ low t2.
    and_gives (the_sign_gives signs.Range low.1) (λ b t3.
    and_gives (the_number_gives low.0 (greatest_beside low.0) b) (λ high t4.
    and_gives (integer_extends_gives high.0 high.1) (λ extensible t5.
    and_gives (the_sign_gives signs.RightParenthesis extensible.1) (λ c t6. ok (bounds t1 t2 t3 t4 t5 t6)))))))

-- the word STRING, and a size where one stands
abbrev StringSized : Left → Option Size × Left → Type 0
StringSized ts a = (b : Left) × The (tokens.Word words.String) ts b × OptionalSize b a.0 a.1

string_gives : (ts : Left) → Gives (StringSized ts) (string_at ts)
unfolding string_at
string_gives ts = and_gives (the_word_gives words.String ts) (λ a t1. gives_so (optional_size_gives false a) (λ found t2. (a, t1, t2)))

rest_gives : (turns : ℕ) (shape : Shape) (ts : Left) → Gives (FollowedBy shape ts) (rest_at turns shape ts)
unfolding rest_at enumerated_at
rest_gives turns (Alone definition) ts = ok alone
rest_gives turns BoundsFollow ts = integer_gives ts
rest_gives turns NamesFollow ts = and_gives (the_sign_gives signs.LeftBrace ts) (λ a t1. and_gives (names_gives turns a) (λ listed t2. ok (names t1 t2)))
rest_gives turns (StringFollows kind) ts = and_gives (string_gives ts) (λ found took. ok (string took.1 took.2))
rest_gives turns (TextSizeFollows kind) ts = and_gives (optional_size_gives true ts) (λ found t. ok (text_size t))

simple_rest_gives : (turns : ℕ) (w : Word) (place : ℕ) (ts : Left) → Gives (Made w place ts) (simple_rest_at turns w ts)
unfolding simple_rest_at
simple_rest_gives turns w place ts = go (shape_of w) refl
  where
    go : (found : Option Shape) → shape_of w ≡ found → Gives (Made w place ts) (rest_by turns found ts)
    go None is = no_value
    go (Some shape) is = gives_so (rest_gives turns shape ts) (λ a follows. simple is follows)

simple_gives : (turns : ℕ) (w : Word) (ts : Left) → Heads (Means AType) ts (simple_at turns w ts)
unfolding simple_at
simple_gives turns w ts = by_choice (Heads (Means AType) ts) (is_simple w) _ _
    (λ _. and_gives (the_word_gives w ts) (λ a t1. and_gives (simple_rest_gives turns w (start_of ts) a) (λ definition m. ok (leaf (λ nodes. worded t1 (plain m))))))
    (λ _. no_value)

container_gives : (ts : Left) → Heads (Means AType) ts (container_at ts)
unfolding container_at
container_gives ts = and_gives (the_word_gives words.ProtocolIeContainer ts) (λ a t1. and_gives (set_name_gives a) (λ set t2. ok (leaf (λ nodes. worded t1 (plain (ie_container t2))))))

pdu_gives : (ts : Left) → Heads (Means AType) ts (pdu_at ts)
unfolding pdu_at
pdu_gives ts = and_gives (the_word_gives words.ProtocolPdu ts) (λ a t1. and_gives (set_name_gives a) (λ set t2. ok (leaf (λ nodes. worded t1 (plain (pdu t2))))))

reference_gives : (ts : Left) → Heads (Means AType) ts (reference_at ts)
unfolding reference_at
reference_gives ts = and_gives (the_upper_gives ts) (λ name t. ok (leaf (λ nodes. reference t)))

-- ---- types with others inside

list_so : (place : ℕ) (ts : Left) (size : Option Size) (a us : Left) → OptionalSize ts size a → The (tokens.Word words.Of) a us → HeadFacts (Means (Behind words.Sequence place)) ts (heads.Opens (frames.List size place), us)
list_so place ts size a us t1 t2 = opens (λ nodes element inside mid id all rest inner end. joined nodes element inside mid id all rest inner end)
  where
    joined : (nodes : List Node) (element : TypeId) (inside : List Node) (mid : Left) (id : TypeId) (all : List Node) (rest : Left) → Means AType nodes us element inside mid → FrameEnds (frames.List size place) element inside mid id all rest → Means (Behind words.Sequence place) nodes ts id all rest
    joined nodes element inside mid id all rest inner list_ends = sequence_of t1 t2 inner

list_head_gives : (place : ℕ) (ts : Left) → Heads (Means (Behind words.Sequence place)) ts (list_head_at place ts)
unfolding list_head_at
list_head_gives place ts = by_choice (Heads (Means (Behind words.Sequence place)) ts) (begins_with_sign signs.LeftParenthesis ts) _ _
    (λ _. and_gives (size_gives false ts) (λ found t1. and_gives (the_word_gives words.Of found.1) (λ a t2. ok (list_so place ts (Some found.0) found.1 a (sized t1) t2))))
    (λ h. and_gives (the_word_gives words.Of ts) (λ a t. ok (list_so place ts None ts a (unsized h) t)))

-- with the members up to the brace
a_sequence : (place : ℕ) (nodes : List Node) (ts a : Left) (id : TypeId) (all : List Node) (rest : Left) → The (tokens.Sign signs.LeftBrace) ts a → Braced groups.Sequence place nodes a id all rest → Means (Behind words.Sequence place) nodes ts id all rest
a_sequence place nodes ts a _ _ rest t (composes m) = sequence t m

a_choice : (place : ℕ) (nodes : List Node) (ts a : Left) (id : TypeId) (all : List Node) (rest : Left) → The (tokens.Sign signs.LeftBrace) ts a → Braced groups.Choice place nodes a id all rest → Means (Behind words.Choice place) nodes ts id all rest
a_choice place nodes ts a _ _ rest t (composes m) = choice t m

components_head_gives : (place : ℕ) (ts us : Left) → The (tokens.Sign signs.LeftBrace) ts us → Heads (Means (Behind words.Sequence place)) ts (components_head_at place us)
unfolding components_head_at
components_head_gives place ts us t = by_choice (Heads (Means (Behind words.Sequence place)) ts) (begins_with_sign signs.RightBrace us) _ _
    (λ _. and_gives (the_sign_gives signs.RightBrace us) (λ a t2. ok (leaf (λ nodes. empty_sequence t t2))))
    (λ _. gives_so (entry_gives groups.Sequence no_parts place us) (λ a so. head_so a (λ nodes id all rest m. a_sequence place nodes ts us id all rest t (all_members groups.Sequence place nodes us id all rest m)) so))

sequence_rest_gives : (place : ℕ) (ts : Left) → Heads (Means (Behind words.Sequence place)) ts (cond (begins_with_sign signs.LeftBrace ts) (sign_at signs.LeftBrace ts >>= components_head_at place) (list_head_at place ts))
sequence_rest_gives place ts = by_choice (Heads (Means (Behind words.Sequence place)) ts) (begins_with_sign signs.LeftBrace ts) _ _
    (λ _. and_gives (the_sign_gives signs.LeftBrace ts) (λ a t. components_head_gives place ts a t))
    (λ _. list_head_gives place ts)

sequence_head_gives : (ts : Left) → Heads (Means AType) ts (sequence_head_at ts)
unfolding sequence_head_at
sequence_head_gives ts = and_gives (the_word_gives words.Sequence ts) (λ a t1.
    gives_so (sequence_rest_gives (start_of ts) a) (λ b so. head_so b (λ nodes id all rest m. worded t1 m) so))

choice_head_gives : (ts : Left) → Heads (Means AType) ts (choice_head_at ts)
unfolding choice_head_at
choice_head_gives ts = and_gives (the_word_gives words.Choice ts) (λ a t1.
    and_gives (the_sign_gives signs.LeftBrace a) (λ b t2.
    gives_so (entry_gives groups.Choice no_parts (start_of ts) b) (λ c so. head_so c (λ nodes id all rest m. worded t1 (a_choice (start_of ts) nodes a b id all rest t2 (all_members groups.Choice (start_of ts) nodes b id all rest m))) so)))

-- ---- all types

word_head_gives : (turns : ℕ) (w : Word) (ts : Left) → Heads (Means AType) ts (head_by turns (Some w) ts)
unfolding head_by
word_head_gives turns words.Sequence ts = sequence_head_gives ts
word_head_gives turns words.Choice ts = choice_head_gives ts
word_head_gives turns words.ProtocolIeContainer ts = container_gives ts
word_head_gives turns words.ProtocolPdu ts = pdu_gives ts
word_head_gives turns w ts = simple_gives turns w ts

head_by_gives : (turns : ℕ) (found : Option Word) (ts : Left) → Heads (Means AType) ts (head_by turns found ts)
unfolding head_by
head_by_gives turns None ts = reference_gives ts
head_by_gives turns (Some w) ts = word_head_gives turns w ts

pub head_gives : (turns : ℕ) (ts : Left) → Heads (Means AType) ts (head_at turns ts)
head_gives turns ts = head_by_gives turns (first_word ts) ts
