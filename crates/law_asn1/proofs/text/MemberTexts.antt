-- The lists in braces.
use Rattle.std.proofs.lemmas.List.{append_assoc, append-nil, map-append}
use Rattle.std.proofs.Common.{◌≡◌, ℕ, List, [], ◌∷◌, ◌++◌, map, Bool, true, false, cond, ◌&&◌, refl, sym, ap, ◌∙◌, Option, Some, None}
use Rattle.std.specs.Prelude.{Result, is_none}
use Rattle.gnb_types.proofs.Choices.{by_choice}
use Rattle.asn1_tokens.specs.declared.token.Word.TheVariants as words
use Rattle.asn1_tokens.specs.declared.token.Sign.{Sign}
use Rattle.asn1_tokens.specs.declared.token.Sign.TheVariants as signs
use Rattle.asn1_tokens.specs.declared.token.Token.{Token}
use Rattle.asn1_tokens.specs.Stream.{Placed}
use Rattle.asn1_syntax.specs.declared.types.fault.Fault.{Fault}
use Rattle.asn1_syntax.specs.declared.types.definition.Extensible.{Extensible}
use Rattle.asn1_syntax.specs.declared.types.definition.Component.{Component}
use Rattle.asn1_syntax.specs.declared.types.definition.TypeId.{TypeId}
use Rattle.asn1_syntax.specs.declared.types.members.Group.{Group}
use Rattle.asn1_syntax.specs.declared.types.members.Group.TheVariants as groups
use Rattle.asn1_syntax.specs.declared.types.members.Frame.{Frame}
use Rattle.asn1_syntax.specs.declared.types.members.Frame.TheVariants as frames
use Rattle.asn1_syntax.specs.declared.types.members.Head.{Head}
use Rattle.asn1_syntax.specs.declared.types.members.Head.TheVariants as heads
use Rattle.asn1_syntax.specs.types.Reading.{Left, begins_with, begins_with_sign}
use Rattle.asn1_syntax.specs.types.Members.{no_parts, put_part, with_part, extended, all_parts, is_full, has_name, component}
use Rattle.asn1_syntax.specs.types.Types.{node}
use Rattle.asn1_syntax.specs.types.inside.Members.{can_extend, has_component, new_name_at, list_goes_on_at, name_entry_at, names_turn_at, names_at, least_members, composed, named_at, entry_at, optional_at, member_end_at, close_at}
use Rattle.law_asn1.specs.text.Written.{Written, word, sign, lower, separated, addition_entries, entries_of, type_text, optional_text, component_text, optional_size_text, definition_text}
use Rattle.proof_asn1.proofs.asn1_proof_syntax.Gives.{Gives, ok, no_value, and_gives, and_parts, Next, repeat_gives}
use Rattle.law_asn1.proofs.text.Taken.{Taken, ◌then◌, nothing_taken, written_as, word_gives, sign_gives, lower_gives}

pub new_name_gives : (taken : List ℕ → Bool) (full : Bool) (ts : List Placed) → Gives (λ (a : List ℕ × Left). Taken (lower a.0) ts a.1) (new_name_at taken full ts)
unfolding new_name_at
new_name_gives taken full ts = and_gives (lower_gives ts) (λ name took.
    by_choice (Gives (λ (a : List ℕ × Left). Taken (lower a.0) ts a.1)) full _ _ (λ _. no_value)
    (λ _. by_choice (Gives (λ (a : List ℕ × Left). Taken (lower a.0) ts a.1)) (taken name.0) _ _ (λ _. no_value) (λ _. ok took)))

-- what a list goes on with, or ends with
abbrev pub more_text : Bool → Written
more_text more tail = cond more (sign signs.Comma tail) (sign signs.RightBrace tail)

pub list_goes_on_gives : (ts : List Placed) → Gives (λ (a : Bool × Left). Taken (more_text a.0) ts a.1) (list_goes_on_at ts)
unfolding list_goes_on_at
list_goes_on_gives ts = by_choice (Gives (λ (a : Bool × Left). Taken (more_text a.0) ts a.1)) (begins_with_sign signs.Comma ts) _ _
    (λ _. and_gives (sign_gives signs.Comma ts) (λ a t. ok t))
    (λ _. and_gives (sign_gives signs.RightBrace ts) (λ a t. ok t))

-- ---- entries, each with the sign behind it

unfoldable pub each_with : Sign → List Written → Written
each_with s [] tail = tail
each_with s (e ∷ es) tail = e (sign s (each_with s es tail))

-- one more entry, with a sign behind it
pub with_sign : (s : Sign) (es : List Written) (e : Written) (tail : List Token) → each_with s es (e (sign s tail)) ≡ each_with s (es ++ e ∷ []) tail
unfolding each_with
with_sign s [] e tail = refl
with_sign s (f ∷ es) e tail = ap (λ (l : List Token). f (sign s l)) (with_sign s es e tail)

-- the last entry
pub with_last : (s : Sign) (es : List Written) (e : Written) (tail : List Token) → each_with s es (e tail) ≡ separated s (es ++ e ∷ []) tail
unfolding each_with separated
with_last s [] e tail = refl
with_last s (f ∷ []) e tail = refl
with_last s (f ∷ g ∷ es) e tail = ap (λ (l : List Token). f (sign s l)) (with_last s (g ∷ es) e tail)

-- the entries of a list with one more part, and with `...`
pub entries_put : {T : Type 0} (text : T → Written) (parts : Extensible T) (x : T) → entries_of text (with_part parts x) ≡ entries_of text parts ++ text x ∷ []
entries_put text parts x = go parts.additions
  where
    go : (added : Option (List _)) → entries_of text (put_part parts.root added x) ≡ (map text parts.root ++ addition_entries text added) ++ text x ∷ []
    go None = append-nil (map text (parts.root ++ x ∷ [])) ∙ map-append text parts.root (x ∷ []) ∙ sym (ap (λ (l : List Written). l ++ text x ∷ []) (append-nil (map text parts.root)))
    go (Some added) = ap (λ (l : List Written). map text parts.root ++ sign signs.Ellipsis ∷ l) (map-append text added (x ∷ [])) ∙ sym (append_assoc (map text parts.root) (sign signs.Ellipsis ∷ map text added) (text x ∷ []))

pub entries_extended : {T : Type 0} (text : T → Written) (parts : Extensible T) → is_none parts.additions ≡ true → entries_of text (extended parts) ≡ entries_of text parts ++ sign signs.Ellipsis ∷ []
entries_extended text parts none = go parts.additions none
  where
    go : (added : Option (List _)) → is_none added ≡ true → map text parts.root ++ sign signs.Ellipsis ∷ [] ≡ (map text parts.root ++ addition_entries text added) ++ sign signs.Ellipsis ∷ []
    go None h = sym (ap (λ (l : List Written). l ++ sign signs.Ellipsis ∷ []) (append-nil (map text parts.root)))
    go (Some added) h = cc

-- ---- names of an ENUMERATED

-- one more entry was taken
abbrev Entered : (Extensible (List ℕ)) → List Placed → Extensible (List ℕ) × Left → Type 0
Entered names ts a = (e : Written) × (entries_of lower a.0 ≡ entries_of lower names ++ e ∷ []) × Taken e ts a.1

name_entry_gives : (names : Extensible (List ℕ)) (ts : List Placed) → Gives (Entered names ts) (name_entry_at names ts)
unfolding name_entry_at
name_entry_gives names ts = by_choice (Gives (Entered names ts)) (can_extend 1 names && begins_with_sign signs.Ellipsis ts) _ _
    (λ h. and_gives (sign_gives signs.Ellipsis ts) (λ a t. ok (sign signs.Ellipsis, entries_extended lower names (and_parts _ _ (and_parts _ _ h).0).0, t)))
    (λ h. and_gives (new_name_gives (λ name. has_name name (all_parts names)) (is_full names) ts) (λ name t. ok (lower name.0, entries_put lower names name.0, t)))

-- the entries so far were taken, each with its comma; or all, with the brace
abbrev pub SoFar : Written → List Placed → List Written → List Placed → Type 0
SoFar begun start es ts = Taken (λ t. begun (each_with signs.Comma es t)) start ts

abbrev pub Closed : Written → List Placed → List Written → List Placed → Type 0
Closed begun start es ts = Taken (λ t. begun (separated signs.Comma es (sign signs.RightBrace t))) start ts

pub go_on : (begun : Written) (start : List Placed) (es fs : List Written) (e : Written) (us : List Placed) → fs ≡ es ++ e ∷ [] → (more : Bool) → Taken (λ t. begun (each_with signs.Comma es (e (more_text more t)))) start us → (more ≡ true → SoFar begun start fs us) × (more ≡ false → Closed begun start fs us)
go_on begun start es fs e us is true took =
    (λ _. written_as (λ t. begun (each_with signs.Comma fs t)) (λ t. ap begun (with_sign signs.Comma es e t ∙ ap (λ (l : List Written). each_with signs.Comma l t) (sym is))) took, λ h. cc)
go_on begun start es fs e us is false took =
    (λ h. cc, λ _. written_as (λ t. begun (separated signs.Comma fs (sign signs.RightBrace t))) (λ t. ap begun (with_last signs.Comma es e (sign signs.RightBrace t) ∙ ap (λ (l : List Written). separated signs.Comma l (sign signs.RightBrace t)) (sym is))) took)

names_turn_gives : (begun : Written) (start : List Placed) (names : Extensible (List ℕ)) (ts : List Placed) → SoFar begun start (entries_of lower names) ts → Gives (Next (λ names us. SoFar begun start (entries_of lower names) us) (λ names us. Closed begun start (entries_of lower names) us)) (names_turn_at names ts)
unfolding names_turn_at
names_turn_gives begun start names ts p = and_gives (name_entry_gives names ts) (λ entry took.
    and_gives (list_goes_on_gives entry.1) (λ more t.
    ok (go_on begun start (entries_of lower names) (entries_of lower entry.0) took.0 more.1 took.1 more.0 (p then took.2 then t))))

pub names_gives : (begun : Written) (start : List Placed) (turns : ℕ) (ts : List Placed) → Taken begun start ts → Gives (λ (a : Extensible (List ℕ) × Left). Closed begun start (entries_of lower a.0) a.1) (names_at turns ts)
unfolding names_at each_with
names_gives begun start turns ts p = repeat_gives names_turn_at (λ names us. SoFar begun start (entries_of lower names) us) (λ names us. Closed begun start (entries_of lower names) us) (names_turn_gives begun start) turns no_parts ts p

-- ---- components and alternatives

abbrev pub group_word : Group → Written
group_word groups.Sequence tail = word words.Sequence tail
group_word groups.Choice tail = word words.Choice tail

abbrev pub open_text : Group → Written
open_text group tail = group_word group (sign signs.LeftBrace tail)

-- what stands before the type that a frame awaits
abbrev pub frame_text : List Written → Frame → Written
frame_text texts (frames.List size place) tail = word words.Sequence (optional_size_text size (word words.Of tail))
frame_text texts (frames.Member group members name place) tail = open_text group (each_with signs.Comma (entries_of (component_text texts) members) (lower name tail))

abbrev pub head_text : List Written → Head → Written
head_text texts (heads.Leaf new) tail = definition_text texts new.definition tail
head_text texts (heads.Opens frame) tail = frame_text texts frame tail

abbrev Heads : List Written → List Placed → Result (Head × Left) Fault → Type 0
Heads texts start r = Gives (λ (a : Head × Left). Taken (head_text texts a.0) start a.1) r

abbrev pub Members : List Written → List Placed → Group → Extensible Component → List Placed → Type 0
Members texts start group members ts = SoFar (open_text group) start (entries_of (component_text texts) members) ts

composed_taken : (texts : List Written) (start : List Placed) (group : Group) (members : Extensible Component) (place : ℕ) (ts : List Placed) → Closed (open_text group) start (entries_of (component_text texts) members) ts → Taken (head_text texts (heads.Leaf (node (composed group members) place))) start ts
unfolding definition_text
composed_taken texts start groups.Sequence members place ts p = p
composed_taken texts start groups.Choice members place ts p = p

named_gives : (texts : List Written) (start : List Placed) (group : Group) (members : Extensible Component) (place : ℕ) (ts : List Placed) → Members texts start group members ts → Heads texts start (named_at group members place ts)
unfolding named_at
named_gives texts start group members place ts p =
    and_gives (new_name_gives (λ name. has_component name (all_parts members)) (is_full members) ts) (λ name t. ok (p then t))

pub entry_gives : (texts : List Written) (start : List Placed) (group : Group) (members : Extensible Component) (place : ℕ) (ts : List Placed) → Members texts start group members ts → Heads texts start (entry_at group members place ts)
unfolding entry_at
entry_gives texts start group members place ts p = by_choice (Heads texts start) (can_extend (least_members group) members && begins_with_sign signs.Ellipsis ts) _ _
    (λ h. and_gives (sign_gives signs.Ellipsis ts) (λ a t1.
    and_gives (list_goes_on_gives a) (λ more t2.
    let later = go_on (open_text group) start (entries_of (component_text texts) members) (entries_of (component_text texts) (extended members)) (sign signs.Ellipsis) more.1 (entries_extended (component_text texts) members (and_parts _ _ (and_parts _ _ h).0).0) more.0 (p then t1 then t2) in
    by_choice (Heads texts start) more.0 _ _
    (λ goes. named_gives texts start group (extended members) place more.1 (later.0 goes))
    (λ ends. ok (composed_taken texts start group (extended members) place more.1 (later.1 ends))))))
    (λ h. named_gives texts start group members place ts p)

optional_gives : (group : Group) (ts : List Placed) → Gives (λ (a : Bool × Left). Taken (optional_text a.0) ts a.1) (optional_at group ts)
unfolding optional_at
optional_gives groups.Choice ts = ok (nothing_taken ts)
optional_gives groups.Sequence ts = by_choice (Gives (λ (a : Bool × Left). Taken (optional_text a.0) ts a.1)) (begins_with words.Optional ts) _ _
    (λ _. and_gives (word_gives words.Optional ts) (λ a t. ok t))
    (λ _. ok (nothing_taken ts))

member_end_gives : (texts : List Written) (start : List Placed) (group : Group) (members : Extensible Component) (name : List ℕ) (place : ℕ) (definition : TypeId) (ts : List Placed) → Taken (λ t. frame_text texts (frames.Member group members name place) (type_text texts definition t)) start ts → Heads texts start (member_end_at group members name place definition ts)
unfolding member_end_at
member_end_gives texts start group members name place definition ts p = and_gives (optional_gives group ts) (λ optional t1.
    and_gives (list_goes_on_gives optional.1) (λ more t2.
    let new = component name definition optional.0 in
    let later = go_on (open_text group) start (entries_of (component_text texts) members) (entries_of (component_text texts) (with_part members (component name definition optional.0))) (component_text texts (component name definition optional.0)) more.1 (entries_put (component_text texts) members (component name definition optional.0)) more.0 (p then t1 then t2) in
    by_choice (Heads texts start) more.0 _ _
    (λ goes. entry_gives texts start group (with_part members (component name definition optional.0)) place more.1 (later.0 goes))
    (λ ends. ok (composed_taken texts start group (with_part members (component name definition optional.0)) place more.1 (later.1 ends)))))

pub close_gives : (texts : List Written) (start : List Placed) (frame : Frame) (definition : TypeId) (ts : List Placed) → Taken (λ t. frame_text texts frame (type_text texts definition t)) start ts → Heads texts start (close_at frame definition ts)
unfolding definition_text
close_gives texts start (frames.List size place) definition ts p = ok p
close_gives texts start (frames.Member group members name place) definition ts p = member_end_gives texts start group members name place definition ts p
