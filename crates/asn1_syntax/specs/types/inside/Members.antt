-- Internal: how the lists in braces are read.
use Rattle.std.specs.Prelude.{ℕ, List, length, Bool, true, false, Result, Ok, Err, if◌then◌else◌, ◌&&◌, nat_le, is_none}
use Rattle.std.specs.List.{list_any}
use Rattle.asn1_tokens.specs.declared.token.Word.TheVariants as words
use Rattle.asn1_tokens.specs.declared.token.Sign.TheVariants as signs
use Rattle.asn1_tokens.specs.Words.{is_text}
use Rattle.asn1_syntax.specs.declared.types.fault.ModuleReason.TheVariants as reasons
use Rattle.asn1_syntax.specs.declared.types.fault.Fault.{Fault}
use Rattle.asn1_syntax.specs.declared.types.definition.TypeId.{TypeId}
use Rattle.asn1_syntax.specs.declared.types.definition.Extensible.{Extensible}
use Rattle.asn1_syntax.specs.declared.types.definition.Component.{Component}
use Rattle.asn1_syntax.specs.declared.types.definition.Definition.{Definition}
use Rattle.asn1_syntax.specs.declared.types.definition.Definition.TheVariants as types
use Rattle.asn1_syntax.specs.declared.types.members.Group.{Group}
use Rattle.asn1_syntax.specs.declared.types.members.Group.TheVariants as groups
use Rattle.asn1_syntax.specs.declared.types.members.Frame.{Frame}
use Rattle.asn1_syntax.specs.declared.types.members.Frame.TheVariants as frames
use Rattle.asn1_syntax.specs.declared.types.members.Head.{Head}
use Rattle.asn1_syntax.specs.declared.types.members.Head.TheVariants as heads
use Rattle.asn1_syntax.specs.types.Reading.{Left, begins_with, begins_with_sign}
use Rattle.asn1_syntax.specs.types.inside.Reading.{◌>>=◌, fault_at, word_at, sign_at, lower_at, repeat_at}
use Rattle.asn1_syntax.specs.types.Types.{node}
use Rattle.asn1_syntax.specs.types.Members.{no_parts, all_parts, with_part, extended, is_full, has_name, component}

-- `...` may follow a root of at least that many parts, and once
abbrev pub can_extend : {T : Type 0} → ℕ → Extensible T → Bool
can_extend least parts = is_none parts.additions && nat_le least (length parts.root)

-- a name that is given for the first time in its list, where that isn't full
unfoldable pub new_name_at : (List ℕ → Bool) → Bool → Left → Result (List ℕ × Left) Fault
new_name_at taken full ts = do
  name ← lower_at ts
  if full then Err (fault_at reasons.Bounds ts) else (if taken name.0 then Err (fault_at reasons.Twice ts) else Ok (name.0, name.1))

-- whether a list goes on, with a comma, or ends, with a brace
unfoldable pub list_goes_on_at : Left → Result (Bool × Left) Fault
list_goes_on_at ts = if begins_with_sign signs.Comma ts then (do
  a ← sign_at signs.Comma ts
  Ok (true, a)) else (do
    a ← sign_at signs.RightBrace ts
    Ok (false, a))

-- a name of an ENUMERATED, or its `...`
unfoldable pub name_entry_at : Extensible (List ℕ) → Left → Result (Extensible (List ℕ) × Left) Fault
name_entry_at names ts = if can_extend 1 names && begins_with_sign signs.Ellipsis ts then (do
  a ← sign_at signs.Ellipsis ts
  Ok (extended names, a)) else (do
    name ← new_name_at (λ name. has_name name (all_parts names)) (is_full names) ts
    Ok (with_part names name.0, name.1))

-- an entry, and whether another one follows
unfoldable pub names_turn_at : Extensible (List ℕ) → Left → Result (Bool × Extensible (List ℕ) × Left) Fault
names_turn_at names ts = do
  entry ← name_entry_at names ts
  more ← list_goes_on_at entry.1
  Ok (more.0, entry.0, more.1)

-- the names of an ENUMERATED up to its brace
unfoldable pub names_at : ℕ → Left → Result (Extensible (List ℕ) × Left) Fault
names_at turns ts = repeat_at names_turn_at turns no_parts ts

abbrev pub has_component : List ℕ → List Component → Bool
has_component name components = list_any (λ other. is_text other.name name) components

-- how many members stand before `...` at least
abbrev pub least_members : Group → ℕ
least_members groups.Sequence = 0
least_members groups.Choice = 1

-- the type that members make
abbrev pub composed : Group → Extensible Component → Definition
composed groups.Sequence members = types.Sequence members
composed groups.Choice members = types.Choice members

-- the name of a member; its type follows
unfoldable pub named_at : Group → Extensible Component → ℕ → Left → Result (Head × Left) Fault
named_at group members place ts = do
  name ← new_name_at (λ name. has_component name (all_parts members)) (is_full members) ts
  Ok (heads.Opens (frames.Member group members name.0 place), name.1)

-- What follows the brace or comma before a member: the member's name, or `...` and then another member or the brace.
unfoldable pub entry_at : Group → Extensible Component → ℕ → Left → Result (Head × Left) Fault
entry_at group members place ts =
    if can_extend (least_members group) members && begins_with_sign signs.Ellipsis ts then (do
      a ← sign_at signs.Ellipsis ts
      more ← list_goes_on_at a
      if more.0 then named_at group (extended members) place more.1 else Ok (heads.Leaf (node (composed group (extended members)) place), more.1))
    else named_at group members place ts

-- whether a component is optional
unfoldable pub optional_at : Group → Left → Result (Bool × Left) Fault
optional_at groups.Sequence ts = if begins_with words.Optional ts then (do
  a ← word_at words.Optional ts
  Ok (true, a)) else Ok (false, ts)
optional_at groups.Choice ts = Ok (false, ts)

-- What follows the type of a member.
unfoldable pub member_end_at : Group → Extensible Component → List ℕ → ℕ → TypeId → Left → Result (Head × Left) Fault
member_end_at group members name place definition ts = do
  optional ← optional_at group ts
  more ← list_goes_on_at optional.1
  if more.0 then entry_at group (with_part members (component name definition optional.0)) place more.1
      else Ok (heads.Leaf (node (composed group (with_part members (component name definition optional.0))) place), more.1)

-- What follows a type inside another one, with what it makes of that other one.
abbrev pub close_at : Frame → TypeId → Left → Result (Head × Left) Fault
close_at (frames.List size place) definition ts = Ok (heads.Leaf (node (types.SequenceOf size definition) place), ts)
close_at (frames.Member group members name place) definition ts = member_end_at group members name place definition ts
