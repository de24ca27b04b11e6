-- What stands in and behind the lists of components and alternatives, where a type inside them is awaited.
use Rattle.std.proofs.Common.{◌≡◌, ℕ, List, Bool, true, false, cond, ◌&&◌, Option}
use Rattle.std.specs.Prelude.{Result, Ok}
use Rattle.gnb_types.proofs.Choices.{by_choice}
use Rattle.asn1_tokens.specs.declared.token.Word.TheVariants as words
use Rattle.asn1_tokens.specs.declared.token.Sign.TheVariants as signs
use Rattle.asn1_tokens.specs.declared.token.Token.TheVariants as tokens
use Rattle.asn1_syntax.specs.declared.types.fault.Fault.{Fault}
use Rattle.asn1_syntax.specs.declared.types.definition.Size.{Size}
use Rattle.asn1_syntax.specs.declared.types.definition.TypeId.{TypeId}
use Rattle.asn1_syntax.specs.declared.types.definition.Component.{Component}
use Rattle.asn1_syntax.specs.declared.types.definition.Extensible.{Extensible}
use Rattle.asn1_syntax.specs.declared.types.definition.Definition.TheVariants as types
use Rattle.asn1_syntax.specs.declared.types.definition.Node.{Node}
use Rattle.asn1_syntax.specs.declared.types.members.Group.{Group}
use Rattle.asn1_syntax.specs.declared.types.members.Group.TheVariants as groups
use Rattle.asn1_syntax.specs.declared.types.members.Frame.{Frame}
use Rattle.asn1_syntax.specs.declared.types.members.Frame.TheVariants as frames
use Rattle.asn1_syntax.specs.declared.types.members.Head.{Head}
use Rattle.asn1_syntax.specs.declared.types.members.Head.TheVariants as heads
use Rattle.asn1_syntax.specs.types.Reading.{Left, begins_with, begins_with_sign}
use Rattle.asn1_syntax.specs.types.Members.{no_parts, with_part, extended, all_parts, is_full, component}
use Rattle.asn1_syntax.specs.types.Types.{node, next_id}
use Rattle.asn1_syntax.specs.types.inside.Members.{can_extend, has_component, least_members, composed, named_at, entry_at, optional_at, member_end_at, close_at}
use Rattle.proof_asn1.proofs.asn1_proof_syntax.Gives.{Gives, ok, and_gives, gives_so, and_parts}
use Rattle.asn1_defs.specs.ItemMeanings.{The}
use Rattle.asn1_defs.specs.TypeMeanings.{MayBeOptional, optional, required, alternative, AType, AMember, Members, Added, with_type, Means, member, mark, last, more, no_more, one_more}
use Rattle.proof_asn1.proofs.values.InBraces.{Told, Lists, FromEntry, BehindEntry, part_from, mark_from, comma_behind, brace_behind, whole_from}
use Rattle.proof_asn1.proofs.values.Taken.{the_word_gives, the_sign_gives}
use Rattle.proof_asn1.proofs.values.NameTaken.{GoesOn, comma, brace, goes_on_gives, the_name_gives}

-- what items mean, told as a piece of a type is
abbrev pub Meaning : Type 1
Meaning = List Node → Left → TypeId → List Node → Left → Type 0

-- ---- members

members_lists : (group : Group) → Lists (Means (AMember group)) (Means (Members group)) (Means (Added group))
members_lists group = record {
  mark = λ t later. mark t later;
  last = λ m t. last m t;
  more = λ m t later. more m t later;
  none = λ t. no_more t;
  one = λ t m later. one_more t m later;
}

-- the type that members make, where they are told so
pub data Composed (group : Group) (place : ℕ) (told : Told (Extensible Component)) : List Node → Left → TypeId → List Node → Left → Type 0 where
  composes : {members : Extensible Component} {nodes all : List Node} {ts rest : Left} → told nodes ts members all rest → Composed group place told nodes ts (next_id all) (with_type all (node (composed group members) place)) rest

-- from a member on, and behind one, where these are read before
abbrev pub FromMember : Group → ℕ → Extensible Component → Meaning
FromMember group place so_far = Composed group place (FromEntry (Means (AMember group)) (Means (Members group)) (Means (Added group)) so_far)

abbrev pub BehindMember : Group → ℕ → Extensible Component → Meaning
BehindMember group place so_far = Composed group place (BehindEntry (Means (AMember group)) (Means (Members group)) (Means (Added group)) so_far)

member_first : (group : Group) (members : Extensible Component) (place : ℕ) (name : List ℕ) (definition : TypeId) (is_optional : Bool) (nodes inside : List Node) (ts a b c : Left) (id : TypeId) (all : List Node) (rest : Left)
    → The (tokens.Lower name) ts a → Means AType nodes a definition inside b → MayBeOptional group b is_optional c
    → BehindMember group place (with_part members (component name definition is_optional)) inside c id all rest → FromMember group place members nodes ts id all rest
member_first group members place name definition is_optional nodes inside ts a b c _ _ rest t inner may (composes {members = every} {all} later) =
    composes (part_from (members_lists group) members (component name definition is_optional) nodes inside ts c every all rest (member t inner may) later)

mark_first : (group : Group) (members : Extensible Component) (place : ℕ) → can_extend (least_members group) members ≡ true → (nodes : List Node) (ts a : Left) (id : TypeId) (all : List Node) (rest : Left)
    → The (tokens.Sign signs.Ellipsis) ts a → BehindMember group place (extended members) nodes a id all rest → FromMember group place members nodes ts id all rest
mark_first group members place h nodes ts a _ _ rest t (composes {members = every} {all} later) = composes (mark_from (members_lists group) members (least_members group) h nodes ts a every all rest t later)

comma_first : (group : Group) (members : Extensible Component) (place : ℕ) (nodes : List Node) (ts a : Left) (id : TypeId) (all : List Node) (rest : Left)
    → The (tokens.Sign signs.Comma) ts a → FromMember group place members nodes a id all rest → BehindMember group place members nodes ts id all rest
comma_first group members place nodes ts a _ _ rest t (composes {members = every} {all} later) = composes (comma_behind (members_lists group) members nodes ts a every all rest t later)

brace_first : (group : Group) (members : Extensible Component) (place : ℕ) (nodes : List Node) (ts rest : Left)
    → The (tokens.Sign signs.RightBrace) ts rest → BehindMember group place members nodes ts (next_id nodes) (with_type nodes (node (composed group members) place)) rest
brace_first group members place nodes ts rest t = composes (brace_behind (members_lists group) members nodes ts rest t)

-- all members
abbrev pub Braced : Group → ℕ → Meaning
Braced group place = Composed group place (Means (Members group))

pub all_members : (group : Group) (place : ℕ) (nodes : List Node) (ts : Left) (id : TypeId) (all : List Node) (rest : Left) → FromMember group place no_parts nodes ts id all rest → Braced group place nodes ts id all rest
all_members group place nodes ts _ _ rest (composes {members = every} {all} m) = composes (whole_from {One = Means (AMember group)} {Whole = Means (Members group)} {Added = Means (Added group)} nodes ts every all rest m)

-- ---- frames

-- behind the type that a frame awaits, this is its end
pub data FrameEnds : Frame → TypeId → List Node → Left → TypeId → List Node → Left → Type 0 where
  list_ends : {size : Option Size} {place : ℕ} {element : TypeId} {nodes : List Node} {ts : Left} → FrameEnds (frames.List size place) element nodes ts (next_id nodes) (with_type nodes (node (types.SequenceOf size element) place)) ts
  member_ends : {group : Group} {members : Extensible Component} {name : List ℕ} {place : ℕ} {definition id : TypeId} {is_optional : Bool} {nodes all : List Node} {ts a rest : Left}
      → MayBeOptional group ts is_optional a → BehindMember group place (with_part members (component name definition is_optional)) nodes a id all rest
      → FrameEnds (frames.Member group members name place) definition nodes ts id all rest

-- A head that was read: a whole piece, or its front, which a type inside it and the end of its frame make whole.
pub data HeadFacts (M : Meaning) (ts : Left) : Head × Left → Type 0 where
  leaf : {new : Node} {us : Left} → ((nodes : List Node) → M nodes ts (next_id nodes) (with_type nodes new) us) → HeadFacts M ts (heads.Leaf new, us)
  opens : {frame : Frame} {us : Left} → ((nodes : List Node) (definition : TypeId) (inside : List Node) (mid : Left) (id : TypeId) (all : List Node) (rest : Left) → Means AType nodes us definition inside mid → FrameEnds frame definition inside mid id all rest → M nodes ts id all rest) → HeadFacts M ts (heads.Opens frame, us)

pub head_so : {M N : Meaning} {ts us : Left} (a : Head × Left) → ((nodes : List Node) (id : TypeId) (all : List Node) (rest : Left) → M nodes us id all rest → N nodes ts id all rest) → HeadFacts M us a → HeadFacts N ts a
head_so (heads.Leaf new, us) on (leaf m) = leaf (λ nodes. on nodes (next_id nodes) (with_type nodes new) us (m nodes))
head_so (heads.Opens frame, us) on (opens m) = opens (λ nodes definition inside mid id all rest inner end. on nodes id all rest (m nodes definition inside mid id all rest inner end))

abbrev pub Heads : Meaning → Left → Result (Head × Left) Fault → Type 0
Heads M ts r = Gives (HeadFacts M ts) r

-- ---- entries

named_so : (group : Group) (members : Extensible Component) (place : ℕ) (ts : Left) (name : List ℕ) (us : Left) → The (tokens.Lower name) ts us → HeadFacts (FromMember group place members) ts (heads.Opens (frames.Member group members name place), us)
named_so group members place ts name us t = opens (λ nodes definition inside mid id all rest inner end. joined nodes definition inside mid id all rest inner end)
  where
    joined : (nodes : List Node) (definition : TypeId) (inside : List Node) (mid : Left) (id : TypeId) (all : List Node) (rest : Left) → Means AType nodes us definition inside mid → FrameEnds (frames.Member group members name place) definition inside mid id all rest → FromMember group place members nodes ts id all rest
    joined nodes definition inside mid id all rest inner (member_ends {is_optional} {a = c} may later) = member_first group members place name definition is_optional nodes inside ts us mid c id all rest t inner may later

named_gives : (group : Group) (members : Extensible Component) (place : ℕ) (ts : Left) → Heads (FromMember group place members) ts (named_at group members place ts)
unfolding named_at
named_gives group members place ts =
    and_gives (the_name_gives (λ other. has_component other (all_parts members)) (is_full members) ts) (λ name t. ok (named_so group members place ts name.0 name.1 t))

-- behind an entry: another one, of which a head was read, or the brace
behind_entry : (M : Meaning) (ts : Left) (group : Group) (members : Extensible Component) (place : ℕ) (us : Left) (following : Left → Result (Head × Left) Fault)
    → ((nodes : List Node) (id : TypeId) (all : List Node) (rest : Left) → BehindMember group place members nodes us id all rest → M nodes ts id all rest)
    → ((vs : Left) → Heads (FromMember group place members) vs (following vs))
    → (a : Bool × Left) → GoesOn us a → Heads M ts (cond a.0 (following a.1) (Ok (heads.Leaf (node (composed group members) place), a.1)))
behind_entry M ts group members place us following on heads (true, vs) (comma t) = gives_so (heads vs) (λ a so. head_so a (λ nodes id all rest m. on nodes id all rest (comma_first group members place nodes us vs id all rest t m)) so)
behind_entry M ts group members place us following on heads (false, vs) (brace t) = ok (leaf (λ nodes. on nodes (next_id nodes) (with_type nodes (node (composed group members) place)) vs (brace_first group members place nodes us vs t)))

pub entry_gives : (group : Group) (members : Extensible Component) (place : ℕ) (ts : Left) → Heads (FromMember group place members) ts (entry_at group members place ts)
unfolding entry_at
entry_gives group members place ts = by_choice (Heads (FromMember group place members) ts) (can_extend (least_members group) members && begins_with_sign signs.Ellipsis ts) _ _
    (λ h. and_gives (the_sign_gives signs.Ellipsis ts) (λ a t1.
    and_gives (goes_on_gives a) (λ goes t2.
    behind_entry (FromMember group place members) ts group (extended members) place a (named_at group (extended members) place)
    (λ nodes id all rest m. mark_first group members place (and_parts _ _ h).0 nodes ts a id all rest t1 m)
    (named_gives group (extended members) place) goes t2)))
    (λ _. named_gives group members place ts)

-- ---- behind a type inside another one

optional_gives : (group : Group) (ts : Left) → Gives (λ (a : Bool × Left). MayBeOptional group ts a.0 a.1) (optional_at group ts)
unfolding optional_at
optional_gives groups.Choice ts = ok alternative
optional_gives groups.Sequence ts = by_choice (Gives (λ (a : Bool × Left). MayBeOptional groups.Sequence ts a.0 a.1)) (begins_with words.Optional ts) _ _
    (λ _. and_gives (the_word_gives words.Optional ts) (λ a t. ok (optional t)))
    (λ h. ok (required h))

member_end_gives : (group : Group) (members : Extensible Component) (name : List ℕ) (place : ℕ) (definition : TypeId) (ts : Left) → Heads (FrameEnds (frames.Member group members name place) definition) ts (member_end_at group members name place definition ts)
unfolding member_end_at
member_end_gives group members name place definition ts = and_gives (optional_gives group ts) (λ may t1.
    and_gives (goes_on_gives may.1) (λ goes t2.
    behind_entry (FrameEnds (frames.Member group members name place) definition) ts group (with_part members (component name definition may.0)) place may.1
    (entry_at group (with_part members (component name definition may.0)) place)
    (λ nodes id all rest m. member_ends t1 m)
    (entry_gives group (with_part members (component name definition may.0)) place) goes t2))

pub close_gives : (frame : Frame) (definition : TypeId) (ts : Left) → Heads (FrameEnds frame definition) ts (close_at frame definition ts)
close_gives (frames.List size place) definition ts = ok (leaf (λ nodes. list_ends))
close_gives (frames.Member group members name place) definition ts = member_end_gives group members name place definition ts
