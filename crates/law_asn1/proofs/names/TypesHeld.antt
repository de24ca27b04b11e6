-- The items of types hold the names by which the types refer, in their order.
use Rattle.std.proofs.Common.{◌≡◌, ℕ, ◌+◌, ◌≤◌, List, [], ◌∷◌, ◌++◌, length, true, refl, sym, subst, arith, length-append}
use Rattle.std.specs.Prelude.{Bool, Some, None}
use Rattle.asn1_tokens.specs.declared.token.Word.{Word}
use Rattle.asn1_tokens.specs.declared.token.Word.TheVariants as words
use Rattle.asn1_tokens.specs.declared.token.Sign.TheVariants as signs
use Rattle.asn1_tokens.specs.declared.token.Token.TheVariants as tokens
use Rattle.asn1_tokens.specs.Stream.{Placed}
use Rattle.asn1_syntax.specs.declared.types.definition.Definition.{Definition}
use Rattle.asn1_syntax.specs.declared.types.definition.Definition.TheVariants as types
use Rattle.asn1_syntax.specs.declared.types.definition.Node.{Node}
use Rattle.asn1_syntax.specs.declared.types.members.Group.{Group}
use Rattle.asn1_syntax.specs.types.Shapes.{Shape, shape_of, Content, Simple, parts_of}
use Rattle.asn1_syntax.specs.types.Members.{no_parts, additions_of}
use Rattle.asn1_syntax.specs.types.Types.{node}
use Rattle.asn1_module.proofs.SimpleTypes.{followed_parts}
use Rattle.asn1_defs.specs.declared.names.Kind.{Kind}
use Rattle.asn1_defs.specs.declared.names.Kind.TheVariants as kinds
use Rattle.asn1_defs.specs.ItemMeanings.{The, start_of, SetName, set_name}
use Rattle.asn1_defs.specs.TypeMeanings.{Follows, alone, bounds, names, string, text_size, Plain, simple, ie_container, pdu, MayBeOptional, optional, required, alternative, Piece, AType, Behind, AMember, Members, Added, Value, Means, reference, worded, plain, sequence_of, empty_sequence, sequence, choice, member, mark, last, more, no_more, one_more}
use Rattle.law_asn1.specs.names.Held.{given_kind, kind_behind}
use Rattle.law_asn1.proofs.names.Passing.{Passes, ◌then◌, none_passed, is_plain, plain_passed, sign_passed, upper_passed, begins_with_the, mention_of, AllFrom, IsFrom, all_from_less, Grown, not_grown, later_grown, grown_then, grown_both, grown_with, grown_around}
use Rattle.law_asn1.proofs.names.ItemsHeld.{Bare, extends_passed, number_passed, lower_passed, optional_size_passed, names_passed}

word_passed : (w : Word) {ts rest : List Placed} → is_plain (tokens.Word w) ≡ true → The (tokens.Word w) ts rest → Passes kinds.Type (kind_behind kinds.Type (tokens.Word w)) ts rest []
word_passed w h the = plain_passed (tokens.Word w) h kinds.Type the

-- the name of a set in its braces is that of the kind that the word before it wants
set_passed : (kind : Kind) {name : List ℕ} {place : ℕ} {ts rest : List Placed} → SetName ts name place rest → Passes kind kinds.Type ts rest (record { kind = kind; name = name; place = place } ∷ [])
set_passed kind (set_name {name} a b n c d) =
    sign_passed signs.LeftBrace kind a then sign_passed signs.LeftBrace kind b then
    upper_passed name kind (begins_with_the (tokens.Sign signs.RightBrace) c) n then
    sign_passed signs.RightBrace kinds.Type c then sign_passed signs.RightBrace kinds.Type d

-- what follows the word of a type without another one inside
follows_passed : {shape : Shape} {definition : Definition} {ts rest : List Placed} → Follows shape ts definition rest → Passes kinds.Type kinds.Type ts rest []
follows_passed {rest} alone = none_passed kinds.Type rest
follows_passed (bounds {low} {high} a l r h x e) =
    sign_passed signs.LeftParenthesis kinds.Type a then number_passed low l then sign_passed signs.Range kinds.Type r then number_passed high h then
    extends_passed x then sign_passed signs.RightParenthesis kinds.Type e
follows_passed (names a n) = sign_passed signs.LeftBrace kinds.Type a then names_passed n
follows_passed (string s z) = word_passed words.String refl s then optional_size_passed z
follows_passed (text_size z) = optional_size_passed z

-- such a type refers by no name, no set is expected behind its word, and its word isn't END
no_mention : (definition : Definition) (w : Word) (content : Content) → parts_of definition ≡ Simple w content → (place : ℕ) → mention_of definition place ≡ []
no_mention (types.Reference name) w content h place = cc
no_mention (types.IeContainer set) w content h place = cc
no_mention (types.Pdu set) w content h place = cc
no_mention _ w content h place = refl

no_set : (w : Word) {shape : Shape} → shape_of w ≡ Some shape → kind_behind kinds.Type (tokens.Word w) ≡ kinds.Type
no_set words.ProtocolIeContainer h = cc
no_set words.ProtocolPdu h = cc
no_set _ h = refl

no_end : (w : Word) {shape : Shape} → shape_of w ≡ Some shape → is_plain (tokens.Word w) ≡ true
no_end words.End h = cc
no_end _ h = refl

simple_from : (n : ℕ) (definition : Definition) (w : Word) (content : Content) → parts_of definition ≡ Simple w content → IsFrom n definition
simple_from n (types.Sequence members) w content h = cc
simple_from n (types.Choice members) w content h = cc
simple_from n (types.SequenceOf size element) w content h = cc
simple_from n _ w content h = tt

-- the first word of a type without another one inside
plain_type : {word : Word} {place : ℕ} {new : Node} {ts rest : List Placed} → Plain word place ts new rest
    → Passes (kind_behind kinds.Type (tokens.Word word)) kinds.Type ts rest (mention_of new.definition new.place)
plain_type {ts} {rest} (simple {word} {place} {definition} is f) =
    subst (λ (kind : Kind). Passes kind kinds.Type ts rest (mention_of definition place)) (sym (no_set word is))
    (subst (Passes kinds.Type kinds.Type ts rest) (sym (no_mention definition word (followed_parts word is f).0 (followed_parts word is f).1 place)) (follows_passed f))
plain_type (ie_container s) = set_passed kinds.IeSet s
plain_type (pdu s) = set_passed kinds.ProcedureSet s

optional_passed : {group : Group} {x : Bool} {ts rest : List Placed} → MayBeOptional group ts x rest → Bare ts rest
optional_passed (optional a) = word_passed words.Optional refl a
optional_passed {rest} (required w) = none_passed kinds.Type rest
optional_passed {rest} alternative = none_passed kinds.Type rest

-- no assignment begins behind the type of a member
pub optional_follows : {group : Group} {x : Bool} {ts rest : List Placed} → MayBeOptional group ts x rest → given_kind rest ≡ None → given_kind ts ≡ None
optional_follows (optional a) follows = begins_with_the (tokens.Word words.Optional) a
optional_follows (required w) follows = follows
optional_follows alternative follows = follows

-- nor before additions
pub added_follows : {group : Group} {nodes all : List Node} {x : Value (Added group)} {ts rest : List Placed} → Means (Added group) nodes ts x all rest → given_kind ts ≡ None
added_follows (no_more e) = begins_with_the (tokens.Sign signs.RightBrace) e
added_follows (one_more e m k) = begins_with_the (tokens.Sign signs.Comma) e

-- what a name at the beginning of such items is to stand for
abbrev pub kind_at : Piece → Kind
kind_at AType = kinds.Type
kind_at (Behind word place) = kind_behind kinds.Type (tokens.Word word)
kind_at (AMember group) = kinds.Type
kind_at (Members group) = kinds.Type
kind_at (Added group) = kinds.Type

-- the word of a type isn't END
pub begins_type : {nodes all : List Node} {word : Word} {place : ℕ} {x : Value (Behind word place)} {ts rest : List Placed} → Means (Behind word place) nodes ts x all rest → is_plain (tokens.Word word) ≡ true
begins_type (plain (simple {word} is f)) = no_end word is
begins_type (plain (ie_container s)) = refl
begins_type (plain (pdu s)) = refl
begins_type (sequence_of z o m) = refl
begins_type (empty_sequence a b) = refl
begins_type (sequence a m) = refl
begins_type (choice a m) = refl

-- ---- what stands inside a type has a number from that of the types that ended before on

plain_from : (n : ℕ) {word : Word} {place : ℕ} {new : Node} {ts rest : List Placed} → Plain word place ts new rest → IsFrom n new.definition
plain_from n (simple {word} {definition} is f) = simple_from n definition word (followed_parts word is f).0 (followed_parts word is f).1
plain_from n (ie_container s) = tt
plain_from n (pdu s) = tt

with_long : (nodes : List Node) (new : Node) → length (nodes ++ new ∷ []) ≡ length nodes + 1
with_long nodes new = length-append nodes (new ∷ [])

grows_long : {piece : Piece} {nodes all : List Node} {x : Value piece} {ts rest : List Placed} → Means piece nodes ts x all rest → length nodes ≤ length all
grows_long (reference {nodes} {name} {ts} a) = omega (arith, with_long nodes (node (types.Reference name) (start_of ts)))
grows_long (worded a m) = grows_long m
grows_long (plain {nodes} {new} p) = omega (arith, with_long nodes new)
grows_long (sequence_of {all} {place} {size} {element} z o m) = omega (arith, grows_long m, with_long all (node (types.SequenceOf size element) place))
grows_long (empty_sequence {nodes} {place} a b) = omega (arith, with_long nodes (node (types.Sequence no_parts) place))
grows_long (sequence {all} {place} {members} a m) = omega (arith, grows_long m, with_long all (node (types.Sequence members) place))
grows_long (choice {all} {place} {members} a m) = omega (arith, grows_long m, with_long all (node (types.Choice members) place))
grows_long (member n m o) = grows_long m
grows_long (mark e m) = grows_long m
grows_long (last m e) = grows_long m
grows_long (more m e k) = omega (arith, grows_long m, grows_long k)
grows_long (no_more e) = omega arith
grows_long (one_more e m k) = omega (arith, grows_long m, grows_long k)

abbrev ValueFrom : (piece : Piece) → ℕ → Value piece → Type 0
ValueFrom AType n x = n ≤ x.number
ValueFrom (Behind word place) n x = n ≤ x.number
ValueFrom (AMember group) n x = n ≤ x.definition.number
ValueFrom (Members group) n x = AllFrom n x.root × AllFrom n (additions_of x.additions)
ValueFrom (Added group) n x = AllFrom n x

value_from : {piece : Piece} {nodes all : List Node} {x : Value piece} {ts rest : List Placed} → Means piece nodes ts x all rest → ValueFrom piece (length nodes) x
value_from (reference a) = omega arith
value_from (worded a m) = value_from m
value_from (plain p) = omega arith
value_from (sequence_of z o m) = grows_long m
value_from (empty_sequence a b) = omega arith
value_from (sequence a m) = grows_long m
value_from (choice a m) = grows_long m
value_from (member n m o) = value_from m
value_from (mark e m) = (tt, value_from m)
value_from (last m e) = ((value_from m, tt), tt)
value_from (more {nodes} {inside} {members} m e k) =
    let rest = value_from k in (
      (value_from m, all_from_less (length nodes) (length inside) (grows_long m) members.root rest.0),
      all_from_less (length nodes) (length inside) (grows_long m) (additions_of members.additions) rest.1,
    )
value_from (no_more e) = tt
value_from (one_more {nodes} {inside} {members} e m k) = (value_from m, all_from_less (length nodes) (length inside) (grows_long m) members (value_from k))

-- ---- what the items of a type hold

pub types_held : {piece : Piece} {nodes all : List Node} {x : Value piece} {ts rest : List Placed} → given_kind rest ≡ None → Means piece nodes ts x all rest → Grown (kind_at piece) nodes all ts rest
types_held follows (reference {name} {ts} a) = grown_with (node (types.Reference name) (start_of ts)) tt (upper_passed name kinds.Type follows a)
types_held follows (worded {word} a m) = later_grown (word_passed word (begins_type m) a) (types_held follows m)
types_held follows (plain {nodes} {new} p) = grown_with new (plain_from (length nodes) p) (plain_type p)
types_held follows (sequence_of {place} {size} {element} z o m) =
    later_grown (optional_size_passed z then word_passed words.Of refl o) (grown_around (node (types.SequenceOf size element) place) refl (value_from m) (types_held follows m))
types_held follows (empty_sequence {place} a b) =
    grown_with (node (types.Sequence no_parts) place) (tt, tt) (sign_passed signs.LeftBrace kinds.Type a then sign_passed signs.RightBrace kinds.Type b)
types_held follows (sequence {place} {members} a m) =
    later_grown (sign_passed signs.LeftBrace kinds.Type a) (grown_around (node (types.Sequence members) place) refl (value_from m) (types_held follows m))
types_held follows (choice {place} {members} a m) =
    later_grown (sign_passed signs.LeftBrace kinds.Type a) (grown_around (node (types.Choice members) place) refl (value_from m) (types_held follows m))
types_held follows (member {name} n m o) =
    later_grown (lower_passed name n) (grown_then (types_held (optional_follows o follows) m) (optional_passed o))
types_held follows (mark e m) = later_grown (sign_passed signs.Ellipsis kinds.Type e) (types_held follows m)
types_held follows (last m e) = grown_then (types_held (begins_with_the (tokens.Sign signs.RightBrace) e) m) (sign_passed signs.RightBrace kinds.Type e)
types_held follows (more m e k) =
    grown_both (types_held (begins_with_the (tokens.Sign signs.Comma) e) m) (later_grown (sign_passed signs.Comma kinds.Type e) (types_held follows k))
types_held follows (no_more {nodes} e) = not_grown nodes (sign_passed signs.RightBrace kinds.Type e)
types_held follows (one_more e m k) =
    later_grown (sign_passed signs.Comma kinds.Type e) (grown_both (types_held (added_follows k) m) (types_held follows k))
