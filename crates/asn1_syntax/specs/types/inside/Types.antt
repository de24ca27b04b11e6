-- Internal: how types are read, with those inside them.
use Rattle.std.specs.Prelude.{ℕ, zero, suc, List, [], ◌∷◌, ◌++◌, Bool, true, false, Option, Some, None, Result, Ok, Err, if◌then◌else◌}
use Rattle.asn1_tokens.specs.declared.token.Word.{Word}
use Rattle.asn1_tokens.specs.declared.token.Word.TheVariants as words
use Rattle.asn1_tokens.specs.declared.token.Sign.TheVariants as signs
use Rattle.asn1_tokens.specs.Stream.{first_place}
use Rattle.asn1_syntax.specs.declared.types.fault.Fault.{Fault}
use Rattle.asn1_syntax.specs.declared.types.definition.Size.{Size}
use Rattle.asn1_syntax.specs.declared.types.definition.TypeId.{TypeId}
use Rattle.asn1_syntax.specs.declared.types.definition.Node.{Node}
use Rattle.asn1_syntax.specs.declared.types.definition.Definition.{Definition}
use Rattle.asn1_syntax.specs.declared.types.definition.Definition.TheVariants as types
use Rattle.asn1_syntax.specs.declared.types.members.Group.TheVariants as groups
use Rattle.asn1_syntax.specs.declared.types.members.Frame.{Frame}
use Rattle.asn1_syntax.specs.declared.types.members.Frame.TheVariants as frames
use Rattle.asn1_syntax.specs.declared.types.members.Head.{Head}
use Rattle.asn1_syntax.specs.declared.types.members.Head.TheVariants as heads
use Rattle.asn1_syntax.specs.types.Reading.{Left, begins_with_sign}
use Rattle.asn1_syntax.specs.types.inside.Reading.{◌>>=◌, first_word, unexpected, word_at, sign_at, upper_at}
use Rattle.asn1_syntax.specs.types.inside.Sizes.{size_at, optional_size_at, integer_at}
use Rattle.asn1_syntax.specs.types.Shapes.{Shape, Alone, BoundsFollow, NamesFollow, StringFollows, TextSizeFollows, shape_of}
use Rattle.asn1_syntax.specs.types.Members.{no_parts}
use Rattle.asn1_syntax.specs.types.Types.{node, next_id}
use Rattle.asn1_syntax.specs.types.inside.Members.{names_at, entry_at, close_at}

-- behind the word ENUMERATED
unfoldable pub enumerated_at : ℕ → Left → Result (Definition × Left) Fault
enumerated_at turns ts = do
  a ← sign_at signs.LeftBrace ts
  names ← names_at turns a
  Ok (types.Enumerated names.0, names.1)

-- behind the words BIT and OCTET: the size
unfoldable pub string_at : Left → Result (Option Size × Left) Fault
string_at ts = do
  a ← word_at words.String ts
  optional_size_at false a

-- behind the word of a type of this shape
unfoldable pub rest_at : ℕ → Shape → Left → Result (Definition × Left) Fault
rest_at turns (Alone definition) ts = Ok (definition, ts)
rest_at turns BoundsFollow ts = integer_at ts
rest_at turns NamesFollow ts = enumerated_at turns ts
rest_at turns (StringFollows kind) ts = do
  size ← string_at ts
  Ok (kind size.0, size.1)
rest_at turns (TextSizeFollows kind) ts = do
  size ← optional_size_at true ts
  Ok (kind size.0, size.1)

abbrev pub rest_by : ℕ → Option Shape → Left → Result (Definition × Left) Fault
rest_by turns None ts = Err (unexpected ts)
rest_by turns (Some shape) ts = rest_at turns shape ts

-- the rest of a type that begins with this word, and has no type inside
unfoldable pub simple_rest_at : ℕ → Word → Left → Result (Definition × Left) Fault
simple_rest_at turns word ts = rest_by turns (shape_of word) ts

abbrev pub is_there : Option Shape → Bool
is_there None = false
is_there (Some shape) = true

-- the words that begin a type without another one inside
abbrev pub is_simple : Word → Bool
is_simple word = is_there (shape_of word)

-- a type that begins with this word
unfoldable pub simple_at : ℕ → Word → Left → Result (Head × Left) Fault
simple_at turns word ts = if is_simple word then (do
  a ← word_at word ts
  definition ← simple_rest_at turns word a
  Ok (heads.Leaf (node definition.0 (first_place ts).start), definition.1)) else Err (unexpected ts)

-- a SEQUENCE OF, up to the type of its elements, behind its first word
unfoldable pub list_head_at : ℕ → Left → Result (Head × Left) Fault
list_head_at place ts = if begins_with_sign signs.LeftParenthesis ts then (do
  size ← size_at false ts
  a ← word_at words.Of size.1
  Ok (heads.Opens (frames.List (Some size.0) place), a)) else (do
    a ← word_at words.Of ts
    Ok (heads.Opens (frames.List None place), a))

-- a SEQUENCE behind its brace
unfoldable pub components_head_at : ℕ → Left → Result (Head × Left) Fault
components_head_at place ts = if begins_with_sign signs.RightBrace ts then (do
  a ← sign_at signs.RightBrace ts
  Ok (heads.Leaf (node (types.Sequence no_parts) place), a)) else entry_at groups.Sequence no_parts place ts

-- a SEQUENCE or SEQUENCE OF, up to a type inside it
unfoldable pub sequence_head_at : Left → Result (Head × Left) Fault
sequence_head_at ts = do
  a ← word_at words.Sequence ts
  if begins_with_sign signs.LeftBrace a then (do
    b ← sign_at signs.LeftBrace a
    components_head_at (first_place ts).start b)
      else list_head_at (first_place ts).start a

-- a CHOICE, up to a type inside it
unfoldable pub choice_head_at : Left → Result (Head × Left) Fault
choice_head_at ts = do
  a ← word_at words.Choice ts
  b ← sign_at signs.LeftBrace a
  entry_at groups.Choice no_parts (first_place ts).start b

-- `{{Set}}`: the set's name, and its place
unfoldable pub set_name_at : Left → Result (List ℕ × ℕ × Left) Fault
set_name_at ts = do
  a ← sign_at signs.LeftBrace ts
  b ← sign_at signs.LeftBrace a
  name ← upper_at b
  c ← sign_at signs.RightBrace name.1
  d ← sign_at signs.RightBrace c
  Ok (name.0, (first_place b).start, d)

unfoldable pub container_at : Left → Result (Head × Left) Fault
container_at ts = do
  a ← word_at words.ProtocolIeContainer ts
  set ← set_name_at a
  Ok (heads.Leaf (node (types.IeContainer set.0) set.1), set.2)

unfoldable pub pdu_at : Left → Result (Head × Left) Fault
pdu_at ts = do
  a ← word_at words.ProtocolPdu ts
  set ← set_name_at a
  Ok (heads.Leaf (node (types.Pdu set.0) set.1), set.2)

unfoldable pub reference_at : Left → Result (Head × Left) Fault
reference_at ts = do
  name ← upper_at ts
  Ok (heads.Leaf (node (types.Reference name.0) (first_place ts).start), name.1)

-- a type, up to another one inside it
unfoldable pub head_by : ℕ → Option Word → Left → Result (Head × Left) Fault
head_by turns None ts = reference_at ts
head_by turns (Some words.Sequence) ts = sequence_head_at ts
head_by turns (Some words.Choice) ts = choice_head_at ts
head_by turns (Some words.ProtocolIeContainer) ts = container_at ts
head_by turns (Some words.ProtocolPdu) ts = pdu_at ts
head_by turns (Some word) ts = simple_at turns word ts

abbrev pub head_at : ℕ → Left → Result (Head × Left) Fault
head_at turns ts = head_by turns (first_word ts) ts

-- What a type makes of those around it: itself, where none is, or one of them that awaits its next part.
abbrev pub Risen : Type 0
Risen = Option TypeId × List Frame × List Node × Left

abbrev pub risen : Head → List Frame → List Node → Left → (TypeId → List Node → Left → Result Risen Fault) → Result Risen Fault
risen (heads.Leaf new) stack nodes ts on = on (next_id nodes) (nodes ++ new ∷ []) ts
risen (heads.Opens frame) stack nodes ts on = Ok (None, frame ∷ stack, nodes, ts)

unfoldable pub rise_at : List Frame → TypeId → List Node → Left → Result Risen Fault
rise_at [] definition nodes ts = Ok (Some definition, [], nodes, ts)
rise_at (frame ∷ stack) definition nodes ts = do
  head ← close_at frame definition ts
  risen head.0 stack nodes head.1 (rise_at stack)

-- one more beginning of a type
unfoldable pub type_turn_at : ℕ → List Frame → List Node → Left → Result Risen Fault
type_turn_at turns stack nodes ts = do
  head ← head_at turns ts
  risen head.0 stack nodes head.1 (rise_at stack)

-- a type is whole, or goes on
abbrev pub type_goes_on : Risen → (List Frame → List Node → Left → Result (TypeId × List Node × Left) Fault) → Result (TypeId × List Node × Left) Fault
type_goes_on (None, stack, nodes, ts) on = on stack nodes ts
type_goes_on (Some definition, stack, nodes, ts) on = Ok (definition, nodes, ts)

-- a type inside these others, in at most that many turns
unfoldable pub type_within_at : ℕ → ℕ → List Frame → List Node → Left → Result (TypeId × List Node × Left) Fault
type_within_at most zero stack nodes ts = Err (unexpected ts)
type_within_at most (suc turns) stack nodes ts = do
  turn ← type_turn_at most stack nodes ts
  type_goes_on turn (type_within_at most turns)

-- a type
unfoldable pub type_at : ℕ → List Node → Left → Result (TypeId × List Node × Left) Fault
type_at turns nodes ts = type_within_at turns turns [] nodes ts
