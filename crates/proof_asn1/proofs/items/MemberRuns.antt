-- The lists in braces.
use Rattle.std.proofs.Common.{◌≡◌, ℕ, List, ◌∷◌, ◌++◌, map, Bool, true, false, cond, ◌&&◌, refl, sym, ap, ◌∙◌, subst, Option, Some, None}
use Rattle.std.specs.Prelude.{Result, Ok, nat_le}
use Rattle.std.proofs.lemmas.List.{length-map, map-append}
use Rattle.gnb_types.proofs.Choices.{by_choice}
use Rattle.asn1_tokens.specs.declared.token.Word.TheVariants as words
use Rattle.asn1_tokens.specs.declared.token.Sign.TheVariants as signs
use Rattle.asn1_tokens.specs.declared.token.Token.{Token}
use Rattle.asn1_tokens.specs.declared.token.Token.TheVariants as tokens
use Rattle.asn1_tokens.specs.Words.{is_text}
use Rattle.asn1_syntax.specs.declared.types.fault.Fault.{Fault}
use Rattle.asn1_syntax.specs.declared.types.definition.Extensible.{Extensible}
use Rattle.asn1_syntax.specs.declared.types.definition.Component.{Component}
use Rattle.asn1_syntax.specs.declared.types.definition.TypeId.{TypeId}
use Rattle.asn1_syntax.specs.declared.types.members.Group.{Group}
use Rattle.asn1_syntax.specs.declared.types.members.Group.TheVariants as groups
use Rattle.asn1_syntax.specs.declared.types.members.Frame.{Frame}
use Rattle.asn1_syntax.specs.declared.types.members.Frame.TheVariants as frames
use Rattle.asn1_syntax.specs.declared.types.members.Head.{Head}
use Rattle.asn1_syntax.specs.declared.types.members.Head.TheVariants as heads
use Rattle.asn1_syntax.specs.types.Reading.{Left, begins_with, begins_with_sign}
use Rattle.asn1_syntax.specs.types.Members.{no_parts, put_part, with_part, extended, additions_of, all_parts, is_full, is_filled, has_name, component}
use Rattle.asn1_syntax.specs.types.inside.Members.{can_extend, has_component, new_name_at, list_goes_on_at, name_entry_at, names_turn_at, names_at, least_members, named_at, entry_at, optional_at, member_end_at, close_at}
use Rattle.asn1_defs.specs.Bounds.{is_wide, is_one_size}
use Rattle.asn1_defs.specs.Repetitions.{begins_entry, listed, numbers_behind, begins_assignment, assigned, types_assigned}
use Rattle.asn1_defs.specs.ItemFaults.{passes_bound, is_repeated}
use Rattle.proof_asn1.specs.items.JudgedItems.{bounds, twice}
use Rattle.proof_asn1.proofs.items.Runs.{Run, and_then, done, wrong, took, word_then, sign_then, lower_first, Turned, repeat_run}
use Rattle.proof_asn1.proofs.items.Views.{Same, not_one_size, not_wide, map_snoc, any_map}
use Rattle.proof_asn1.proofs.items.Insides.{Inside, inside_then, ended, comma_inside, ellipsis_inside, name_inside, brace_ends}

-- ---- a list and its names

-- These items are in a list behind the outer ones, with these names.
pub record Listing (outer : List Token) (parts : Extensible (List ℕ)) (here : List Token) : Type 0 where
  pub inside : Inside 1 outer here
  pub names : listed 0 here ≡ parts

-- a name or `...` may follow
pub record Entry (outer : List Token) (parts : Extensible (List ℕ)) (here : List Token) : Type 0 where
  pub listing : Listing outer parts here
  pub begins : begins_entry here ≡ true
  pub narrow : is_wide here ≡ false

-- behind an entry
pub record Settled (outer : List Token) (parts : Extensible (List ℕ)) (here : List Token) : Type 0 where
  pub listing : Listing outer parts here
  pub sized : is_one_size here ≡ false
  pub narrow : is_wide (tokens.Sign signs.Comma ∷ here) ≡ false

pub listing_then : {outer here after : List Token} {parts : Extensible (List ℕ)} → Listing outer parts here → Same here after → Listing outer parts after
listing_then listing same = record { inside = inside_then listing.inside same; names = same.lists 0 ∙ listing.names }

with_name : {outer here : List Token} {parts : Extensible (List ℕ)} (name : List ℕ) → Listing outer parts here → Listing outer (with_part parts name) (tokens.Lower name ∷ here)
unfolding listed
with_name name listing = record { inside = name_inside name listing.inside; names = ap (λ (parts : Extensible (List ℕ)). with_part parts name) listing.names }

with_mark : {outer here : List Token} {parts : Extensible (List ℕ)} → Listing outer parts here → Listing outer (extended parts) (tokens.Sign signs.Ellipsis ∷ here)
unfolding listed
with_mark listing = record { inside = ellipsis_inside listing.inside; names = ap (λ (parts : Extensible (List ℕ)). extended parts) listing.names }

pub named_settles : {outer here : List Token} {parts : Extensible (List ℕ)} (name : List ℕ) → Listing outer parts here → Settled outer (with_part parts name) (tokens.Lower name ∷ here)
unfolding is_one_size is_wide
named_settles name listing = record { listing = with_name name listing; sized = refl; narrow = refl }

pub mark_settles : {outer here : List Token} {parts : Extensible (List ℕ)} → Listing outer parts here → Settled outer (extended parts) (tokens.Sign signs.Ellipsis ∷ here)
unfolding is_one_size is_wide
mark_settles listing = record { listing = with_mark listing; sized = refl; narrow = refl }

-- behind its brace
pub first_entry : (outer : List Token) → Entry outer no_parts (tokens.Sign signs.LeftBrace ∷ outer)
unfolding is_wide listed numbers_behind assigned types_assigned
first_entry outer = record { listing = record { inside = record { lists = λ depth. refl; ids = refl; codes = refl; names = refl; types = refl }; names = refl }; begins = refl; narrow = refl }

-- ---- names, and what follows an entry

pub new_name_run : {before : List Token} (P : List ℕ → List Token → Type 0) (taken : List ℕ → Bool) (full : Bool) (ts : Left) → begins_entry before ≡ true → is_full (listed 0 before) ≡ full → ((name : List ℕ) → has_name name (all_parts (listed 0 before)) ≡ taken name) → ((name : List ℕ) → P name (tokens.Lower name ∷ before)) → Run before ts (λ a. a.1) (λ a after. P a.0 after) (new_name_at taken full ts)
unfolding new_name_at passes_bound is_repeated
new_name_run {before} P taken full ts begins fills has post = lower_first ts (λ name stands.
    by_choice (Run before ts (λ (a : List ℕ × Left). a.1) (λ (a : List ℕ × Left) after. P a.0 after)) full _ _
    (λ h. wrong stands refl (bounds (and_both _ _ begins (fills ∙ h))))
    (λ new. by_choice (Run before ts (λ (a : List ℕ × Left). a.1) (λ (a : List ℕ × Left) after. P a.0 after)) (taken name.0) _ _
    (λ h. wrong stands refl (twice (no_second _ _ (fills ∙ new)) (and_both _ _ begins (has name.0 ∙ h))))
    (λ h. took stands refl (no_second _ _ (fills ∙ new)) (no_second _ _ (has name.0 ∙ h)) (done (name.0, name.1) (post name.0)))))
  where
    and_both : (a b : Bool) → a ≡ true → b ≡ true → a && b ≡ true
    and_both true b e h = h
    and_both false b e h = cc

    no_second : (a b : Bool) → b ≡ false → a && b ≡ false
    no_second true b h = h
    no_second false b h = refl

abbrev pub GoesOn : List Token → Extensible (List ℕ) → Bool → List Token → Type 0
GoesOn outer parts true after = Entry outer parts after
GoesOn outer parts false after = Same outer after

pub list_goes_on_run : {outer before : List Token} {parts : Extensible (List ℕ)} (ts : Left) → Settled outer parts before → Run before ts (λ a. a.1) (λ a after. GoesOn outer parts a.0 after) (list_goes_on_at ts)
unfolding list_goes_on_at listed
list_goes_on_run {outer} {before} {parts} ts settled = by_choice (Run before ts (λ (a : Bool × Left). a.1) (λ (a : Bool × Left) after. GoesOn outer parts a.0 after)) (begins_with_sign signs.Comma ts) _ _
    (λ h. sign_then signs.Comma ts settled.sized (λ a. done (true, a) (record { listing = record { inside = comma_inside settled.listing.inside; names = settled.listing.names }; begins = refl; narrow = settled.narrow })))
    (λ h. sign_then signs.RightBrace ts refl (λ a. done (false, a) (ended refl (brace_ends settled.listing.inside))))

-- ---- names of an ENUMERATED

name_entry_run : {outer before : List Token} (names : Extensible (List ℕ)) (ts : Left) → Entry outer names before → Run before ts (λ a. a.1) (λ a after. Settled outer a.0 after) (name_entry_at names ts)
unfolding name_entry_at
name_entry_run {outer} {before} names ts entry = by_choice (Run before ts (λ (a : Extensible (List ℕ) × Left). a.1) (λ (a : Extensible (List ℕ) × Left) after. Settled outer a.0 after)) (can_extend 1 names && begins_with_sign signs.Ellipsis ts) _ _
    (λ h. sign_then signs.Ellipsis ts entry.narrow (λ a. done (extended names, a) (mark_settles entry.listing)))
    (λ h. and_then (new_name_run (λ name after. Settled outer (with_part names name) after) (λ name. has_name name (all_parts names)) (is_full names) ts entry.begins
    (ap (λ (parts : Extensible (List ℕ)). is_full parts) entry.listing.names)
    (λ name. ap (λ (parts : Extensible (List ℕ)). has_name name (all_parts parts)) entry.listing.names)
    (λ name. named_settles name entry.listing))
    (λ name after settled. done (with_part names name.0, name.1) settled))

abbrev NamesTurned : List Token → Bool × Extensible (List ℕ) × Left → List Token → Type 0
NamesTurned outer = Turned (λ names here. Entry outer names here) (λ names after. Same outer after)

turned : (outer after : List Token) (more : Bool) (names : Extensible (List ℕ)) (us : Left) → GoesOn outer names more after → NamesTurned outer (more, names, us) after
turned outer after true names us post = post
turned outer after false names us post = post

names_turn_run : {outer before : List Token} (names : Extensible (List ℕ)) (ts : Left) → Entry outer names before → Run before ts (λ a. a.2) (NamesTurned outer) (names_turn_at names ts)
unfolding names_turn_at
names_turn_run names ts entry =
    and_then (name_entry_run names ts entry) (λ named after settled.
    and_then (list_goes_on_run named.1 settled) (λ more last post.
    done (more.0, named.0, more.1) (turned _ _ more.0 named.0 more.1 post)))

-- behind the brace
pub names_run : {outer : List Token} (turns : ℕ) (ts : Left) → Run (tokens.Sign signs.LeftBrace ∷ outer) ts (λ a. a.1) (λ a after. Same outer after) (names_at turns ts)
unfolding names_at
names_run {outer} turns ts = repeat_run (λ names here. Entry outer names here) (λ names after. Same outer after) (λ names before us entry. names_turn_run names us entry) turns no_parts _ ts (first_entry outer)

-- ---- components and alternatives

abbrev pub name_of : Component → List ℕ
name_of member = member.name

abbrev pub names_in : Option (List Component) → Option (List (List ℕ))
names_in None = None
names_in (Some added) = Some (map name_of added)

-- the names of members
abbrev pub names_of : Extensible Component → Extensible (List ℕ)
names_of members = record { root = map name_of members.root; additions = names_in members.additions }

full_same : (members : Extensible Component) → is_full (names_of members) ≡ is_full members
full_same members = go members.additions
  where
    go : (added : Option (List Component)) → is_filled (map name_of members.root) (names_in added) ≡ is_filled members.root added
    go None = ap (λ (n : ℕ). nat_le 256 n) (length-map members.root name_of)
    go (Some added) = ap (λ (n : ℕ). nat_le 64 n) (length-map added name_of)

has_same : (name : List ℕ) (members : Extensible Component) → has_name name (all_parts (names_of members)) ≡ has_component name (all_parts members)
has_same name members =
    ap (λ (l : List (List ℕ)). has_name name (map name_of members.root ++ l)) (added_names members.additions)
    ∙ ap (λ (l : List (List ℕ)). has_name name l) (sym (map-append name_of members.root (additions_of members.additions)))
    ∙ any_map (λ other. is_text other name) name_of (all_parts members)
  where
    added_names : (added : Option (List Component)) → additions_of (names_in added) ≡ map name_of (additions_of added)
    added_names None = refl
    added_names (Some added) = refl

put_same : (members : Extensible Component) (x : Component) → with_part (names_of members) x.name ≡ names_of (with_part members x)
put_same members x = go members.additions
  where
    go : (added : Option (List Component)) → put_part (map name_of members.root) (names_in added) x.name ≡ names_of (put_part members.root added x)
    go None = ap (λ (l : List (List ℕ)). record { root = l; additions = None }) (sym (map_snoc name_of members.root x))
    go (Some added) = ap (λ (l : List (List ℕ)). record { root = map name_of members.root; additions = Some l }) (sym (map_snoc name_of added x))

-- what is before a type that this frame awaits
abbrev pub Opened : List Token → Frame → List Token → Type 0
Opened outer (frames.List size place) here = Inside 0 outer here
Opened outer (frames.Member group members name place) here = Listing outer (with_part (names_of members) name) here

-- what is before what follows the head of a type
abbrev pub Headed : List Token → Head × Left → List Token → Type 0
Headed outer (heads.Leaf new, us) after = Same outer after
Headed outer (heads.Opens frame, us) after = (begins_assignment after ≡ false) × Opened outer frame after

abbrev pub HeadRun : List Token → List Token → Left → Result (Head × Left) Fault → Type 0
HeadRun outer before ts r = Run before ts (λ (a : Head × Left). a.1) (Headed outer) r

named_run : {outer before : List Token} (group : Group) (members : Extensible Component) (place : ℕ) (ts : Left) → Entry outer (names_of members) before → HeadRun outer before ts (named_at group members place ts)
unfolding named_at
named_run {outer} group members place ts entry =
    and_then (new_name_run (λ name after. (begins_assignment after ≡ false) × Listing outer (with_part (names_of members) name) after) (λ name. has_component name (all_parts members)) (is_full members) ts entry.begins
    (ap (λ (parts : Extensible (List ℕ)). is_full parts) entry.listing.names ∙ full_same members)
    (λ name. ap (λ (parts : Extensible (List ℕ)). has_name name (all_parts parts)) entry.listing.names ∙ has_same name members)
    (λ name. (refl, with_name name entry.listing)))
    (λ name after post. done (heads.Opens (frames.Member group members name.0 place), name.1) post)

-- an entry follows, or the list's end
entry_or_end : {outer after : List Token} {parts : Extensible (List ℕ)} (more : Bool) (us : Left) (r : Result (Head × Left) Fault) (new : _) → GoesOn outer parts more after → (Entry outer parts after → HeadRun outer after us r) → HeadRun outer after us (cond more r (Ok (heads.Leaf new, us)))
entry_or_end true us r new post on = on post
entry_or_end false us r new post on = done (heads.Leaf new, us) post

pub entry_run : {outer before : List Token} (group : Group) (members : Extensible Component) (place : ℕ) (ts : Left) → Entry outer (names_of members) before → HeadRun outer before ts (entry_at group members place ts)
unfolding entry_at
entry_run {outer} {before} group members place ts entry = by_choice (HeadRun outer before ts) (can_extend (least_members group) members && begins_with_sign signs.Ellipsis ts) _ _
    (λ h. sign_then signs.Ellipsis ts entry.narrow (λ a.
    and_then (list_goes_on_run a (mark_settles entry.listing)) (λ more after post.
    entry_or_end more.0 more.1 _ _ post (λ next. named_run group (extended members) place more.1 next))))
    (λ h. named_run group members place ts entry)

optional_run : {outer before : List Token} {parts : Extensible (List ℕ)} (group : Group) (ts : Left) → begins_assignment before ≡ true → Listing outer parts before → Run before ts (λ a. a.1) (λ a after. Settled outer parts after) (optional_at group ts)
unfolding optional_at is_one_size is_wide listed numbers_behind assigned types_assigned
optional_run groups.Choice ts ends listing = done (false, ts) (record { listing = listing; sized = not_one_size _ ends; narrow = not_wide _ ends })
optional_run {outer} {before} {parts} groups.Sequence ts ends listing = by_choice (Run before ts (λ (a : Bool × Left). a.1) (λ (a : Bool × Left) after. Settled outer parts after)) (begins_with words.Optional ts) _ _
    (λ h. word_then words.Optional ts (λ a. done (true, a) (record { listing = record { inside = record { lists = listing.inside.lists; ids = listing.inside.ids; codes = listing.inside.codes; names = listing.inside.names; types = listing.inside.types }; names = listing.names }; sized = refl; narrow = refl })))
    (λ h. done (false, ts) (record { listing = listing; sized = not_one_size _ ends; narrow = not_wide _ ends }))

member_end_run : {outer before : List Token} (group : Group) (members : Extensible Component) (name : List ℕ) (place : ℕ) (definition : TypeId) (ts : Left) → begins_assignment before ≡ true → Listing outer (with_part (names_of members) name) before → HeadRun outer before ts (member_end_at group members name place definition ts)
unfolding member_end_at
member_end_run {outer} group members name place definition ts ends listing =
    and_then (optional_run group ts ends listing) (λ optional after settled.
    and_then (list_goes_on_run optional.1 settled) (λ more last post.
    entry_or_end more.0 more.1 _ _ post (λ next. entry_run group (with_part members (component name definition optional.0)) place more.1 (subst (λ (parts : Extensible (List ℕ)). Entry outer parts last) (put_same members (component name definition optional.0)) next))))

-- behind the type that a frame awaits
pub close_run : {outer here after : List Token} (frame : Frame) (definition : TypeId) (ts : Left) → Opened outer frame here → Same here after → HeadRun outer after ts (close_at frame definition ts)
close_run (frames.List size place) definition ts opened same = done _ (ended same.ends (inside_then opened same))
close_run (frames.Member group members name place) definition ts opened same = member_end_run group members name place definition ts same.ends (listing_then opened same)
