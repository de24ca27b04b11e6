-- The lists in braces.
use Rattle.std.proofs.Common.{◌≡◌, ℕ, ◌<◌, List, [], ◌∷◌, ◌++◌, length, Bool, true, false, cond, ◌&&◌, refl, sym, ap, ◌∙◌, subst, inl, inr, arith, Option, Some, None}
use Rattle.std.specs.Prelude.{◌⊎◌, Result, Ok, Err, is_none, nat_le}
use Rattle.gnb_types.proofs.Choices.{by_test, by_choice}
use Rattle.asn1_tokens.specs.declared.token.Word.TheVariants as words
use Rattle.asn1_tokens.specs.declared.token.Sign.TheVariants as signs
use Rattle.asn1_tokens.specs.declared.token.Token.{Token}
use Rattle.asn1_tokens.specs.Stream.{Placed, first_token}
use Rattle.asn1_syntax.specs.declared.types.fault.ModuleReason.TheVariants as reasons
use Rattle.asn1_syntax.specs.declared.types.fault.Fault.{Fault}
use Rattle.asn1_syntax.specs.declared.types.definition.Extensible.{Extensible}
use Rattle.asn1_syntax.specs.declared.types.definition.Component.{Component}
use Rattle.asn1_syntax.specs.declared.types.definition.TypeId.{TypeId}
use Rattle.asn1_syntax.specs.declared.types.members.Group.{Group}
use Rattle.asn1_syntax.specs.declared.types.members.Group.TheVariants as groups
use Rattle.asn1_syntax.specs.declared.types.members.Frame.{Frame}
use Rattle.asn1_syntax.specs.declared.types.members.Frame.TheVariants as frames
use Rattle.asn1_syntax.specs.declared.types.members.Head.{Head}
use Rattle.asn1_syntax.specs.declared.types.members.Head.TheVariants as heads
use Rattle.asn1_syntax.specs.types.Reading.{Left, begins_with, begins_with_sign}
use Rattle.asn1_syntax.specs.types.inside.Reading.{◌>>=◌, fault_at, sign_at}
use Rattle.asn1_syntax.specs.types.Members.{no_parts, put_part, with_part, extended, all_parts, is_full, has_name, component}
use Rattle.asn1_syntax.specs.types.Types.{node}
use Rattle.asn1_syntax.specs.types.inside.Members.{can_extend, has_component, new_name_at, list_goes_on_at, name_entry_at, names_turn_at, names_at, least_members, composed, named_at, entry_at, optional_at, member_end_at, close_at}
use Rattle.asn1_defs.specs.Grammar.{ALower, TheSign, fits, Part, AType, NextComponent, AfterComponent, AfterAddition, OptionalWord, NextAlternative, AfterAlternative, AfterAlternativeAddition, NextName, AfterName, AfterNameAddition, Symbol, Item, Whole, word, comma, ellipsis, close_brace, productions}
use Rattle.proof_asn1.proofs.grammar.Predict.{chosen}
use Rattle.proof_asn1.proofs.asn1_proof_syntax.Sim.{Sim, goes, and_then, and_so, first, next, maybe, fits_sign, fits_word, chosen_one, chosen_other, word_sim, sign_sim, lower_sim, weaker, done, expands, misused, part_of, repeat_sim, by_flag}

pub new_name_sim : (taken : List ℕ → Bool) (full : Bool) (symbols : List Symbol) (ts : List Placed) → Sim 1 (Item ALower ∷ symbols) ts (λ _. symbols) (λ a. a.1) (new_name_at taken full ts)
unfolding new_name_at
new_name_sim taken full symbols ts = and_so (lower_sim symbols ts) (λ name e steps le.
    by_choice (Sim 1 (Item ALower ∷ symbols) ts (λ _. symbols) (λ a. a.1)) full _ _
    (λ _. misused (fault_at reasons.Bounds ts) steps le refl (inl refl))
    (λ _. by_choice (Sim 1 (Item ALower ∷ symbols) ts (λ _. symbols) (λ a. a.1)) (taken name.0) _ _
    (λ _. misused (fault_at reasons.Twice ts) steps le refl (inr refl))
    (λ _. goes steps le)))

-- the parts behind which a list goes on or ends
abbrev GoesOn : Part → List Symbol → Type 0
GoesOn n c = (t : Token) → chosen n t ≡ cond (fits (TheSign signs.Comma) t) (Some (comma ∷ c)) (cond (fits (TheSign signs.RightBrace) t) (Some (close_brace ∷ [])) None)

list_goes_on_sim : (n : Part) (c : List Symbol) → GoesOn n c → (symbols : List Symbol) (ts : List Placed) → Sim 1 (Whole n ∷ symbols) ts (λ a. cond a.0 (c ++ symbols) symbols) (λ a. a.1) (list_goes_on_at ts)
unfolding list_goes_on_at
list_goes_on_sim n c is symbols ts = by_choice (Sim 1 (Whole n ∷ symbols) ts (λ a. cond a.0 (c ++ symbols) symbols) (λ a. a.1)) (begins_with_sign signs.Comma ts) _ _
    (λ h. expands n (comma ∷ c) (is (first_token ts) ∙ chosen_one _ _ _ (fits_sign signs.Comma ts true h))
    (first (sign_sim signs.Comma (c ++ symbols) ts) (λ a _. done (true, a) refl refl)))
    (λ h. part_of n (TheSign signs.RightBrace) [] (is (first_token ts) ∙ chosen_other _ _ _ _ (fits_sign signs.Comma ts false h) refl)
    (first (sign_sim signs.RightBrace symbols ts) (λ a _. done (false, a) refl refl)))

-- ---- names of an ENUMERATED

abbrev name_end : {T : Type 0} → Option (List T) → Part
name_end None = AfterName
name_end (Some added) = AfterNameAddition

abbrev next_name : {T : Type 0} → Option (List T) → List Symbol
next_name None = Whole NextName ∷ []
next_name (Some added) = Item ALower ∷ Whole AfterNameAddition ∷ []

-- what spells an entry and those after it
abbrev name_symbols : Extensible (List ℕ) → List Symbol
name_symbols names = cond (can_extend 1 names) (Whole NextName ∷ []) (Item ALower ∷ Whole (name_end names.additions) ∷ [])

name_goes_on : {T : Type 0} (added : Option (List T)) → GoesOn (name_end added) (next_name added)
unfolding chosen productions
name_goes_on None t = refl
name_goes_on (Some added) t = refl

longer : {T : Type 0} (root : List T) (x : T) → nat_le 1 (length (root ++ x ∷ [])) ≡ true
longer [] x = refl
longer (y ∷ root) x = grind arith

-- with one more part a list may be extended, if it wasn't yet
extends_put : {T : Type 0} (parts : Extensible T) (x : T) (least : ℕ) → (least ≡ 0) ⊎ (least ≡ 1) → can_extend least (with_part parts x) ≡ is_none parts.additions
extends_put parts x least which = go parts.additions
  where
    enough : nat_le least (length (parts.root ++ x ∷ [])) ≡ true
    enough = elim which [ inl is ↦ subst (λ n. nat_le n (length (parts.root ++ x ∷ [])) ≡ true) (sym is) (grind arith) | inr is ↦ subst (λ n. nat_le n (length (parts.root ++ x ∷ [])) ≡ true) (sym is) (longer parts.root x) ]

    go : (added : Option (List _)) → can_extend least (put_part parts.root added x) ≡ is_none added
    go None = enough
    go (Some added) = refl

and_parts : (a b : Bool) → a && b ≡ true → (a ≡ true) × (b ≡ true)
and_parts true b h = (refl, h)
and_parts false b h = cc

and_fails : (a b : Bool) → a && b ≡ false → a ≡ true → b ≡ false
and_fails true b h e = h
and_fails false b h e = cc

-- the entry after `...` names nothing, and so does one that can't be extended
same_end : {T : Type 0} (root : List T) (added : Option (List T)) (x : T) → name_end (put_part root added x).additions ≡ name_end added
same_end root None x = refl
same_end root (Some added) x = refl

root_only : {T : Type 0} (least : ℕ) (root : List T) (added : Option (List T)) → is_none added && nat_le least (length root) ≡ true → added ≡ None
root_only least root None h = refl
root_only least root (Some added) h = cc

next_name_there : (ts : List Placed) → begins_with_sign signs.Ellipsis ts ≡ true → chosen NextName (first_token ts) ≡ Some (ellipsis ∷ Whole AfterNameAddition ∷ [])
unfolding chosen productions
next_name_there ts h = chosen_one _ _ _ (fits_sign signs.Ellipsis ts true h)

next_name_other : (ts : List Placed) → begins_with_sign signs.Ellipsis ts ≡ false → chosen NextName (first_token ts) ≡ cond (fits ALower (first_token ts)) (Some (Item ALower ∷ Whole AfterName ∷ [])) None
unfolding chosen productions
next_name_other ts h = chosen_other _ _ _ _ (fits_sign signs.Ellipsis ts false h) refl

abbrev NameEntry : Extensible (List ℕ) → List Symbol → List Symbol → List Placed → Type 0
NameEntry names from symbols ts = Sim 1 (from ++ symbols) ts (λ (a : Extensible (List ℕ) × Left). Whole (name_end a.0.additions) ∷ symbols) (λ a. a.1) (name_entry_at names ts)

name_entry_sim : (names : Extensible (List ℕ)) (symbols : List Symbol) (ts : List Placed) → NameEntry names (name_symbols names) symbols ts
unfolding name_entry_at
name_entry_sim names symbols ts = by_test _ (can_extend 1 names)
    (λ can. subst (λ c. NameEntry names (cond c (Whole NextName ∷ []) (Item ALower ∷ Whole (name_end names.additions) ∷ [])) symbols ts) (sym can)
    (by_choice (Sim 1 (Whole NextName ∷ symbols) ts (λ (a : Extensible (List ℕ) × Left). Whole (name_end a.0.additions) ∷ symbols) (λ a. a.1)) (can_extend 1 names && begins_with_sign signs.Ellipsis ts) _ _
    (λ h. expands NextName (ellipsis ∷ Whole AfterNameAddition ∷ []) (next_name_there ts (and_parts _ _ h).1)
    (first (sign_sim signs.Ellipsis _ ts) (λ a _. done (extended names, a) refl refl)))
    (λ h. part_of NextName ALower (Whole AfterName ∷ []) (next_name_other ts (and_fails _ _ h can))
    (first (new_name_sim (λ name. has_name name (all_parts names)) (is_full names) (Whole AfterName ∷ symbols) ts) (λ name _. done (with_part names name.0, name.1)
    (ap (λ (p : Part). Whole p ∷ symbols) (same_end names.root names.additions name.0 ∙ ap name_end (root_only 1 names.root names.additions can))) refl)))))
    (λ not. subst (λ c. NameEntry names (cond c (Whole NextName ∷ []) (Item ALower ∷ Whole (name_end names.additions) ∷ [])) symbols ts) (sym not)
    (by_choice (Sim 1 (Item ALower ∷ Whole (name_end names.additions) ∷ symbols) ts (λ (a : Extensible (List ℕ) × Left). Whole (name_end a.0.additions) ∷ symbols) (λ a. a.1)) (can_extend 1 names && begins_with_sign signs.Ellipsis ts) _ _
    (λ h. absurd (never (can_extend 1 names) not (and_parts _ _ h).0))
    (λ h. first (new_name_sim (λ name. has_name name (all_parts names)) (is_full names) (Whole (name_end names.additions) ∷ symbols) ts) (λ name _. done (with_part names name.0, name.1)
    (ap (λ (p : Part). Whole p ∷ symbols) (same_end names.root names.additions name.0)) refl))))
  where
    never : (b : Bool) → b ≡ false → b ≡ true → ⊥
    never b e f = cc

-- what was read may be extended, if it wasn't yet
ok_same : {B : Type 0} (x y : B) (r : Result B Fault) → r ≡ Ok x → r ≡ Ok y → x ≡ y
ok_same x y r a b = cc

ok_last : {A B : Type 0} (r : Result A Fault) (f : A → B) (b : B) → (r >>= λ a. Ok (f a)) ≡ Ok b → (a : A) × (f a ≡ b)
ok_last (Ok a) f b h = (a, ok_same (f a) b (Ok (f a)) refl h)
ok_last (Err e) f b h = cc

entry_next : (names : Extensible (List ℕ)) (ts : List Placed) (entry : Extensible (List ℕ) × Left) → name_entry_at names ts ≡ Ok entry → name_symbols entry.0 ≡ next_name entry.0.additions
unfolding name_entry_at
entry_next names ts entry = go (can_extend 1 names && begins_with_sign signs.Ellipsis ts)
  where
    put : (x : List ℕ) → name_symbols (with_part names x) ≡ next_name (with_part names x).additions
    put x = by (names.additions) (extends_put names x 1 (inr refl))
      where
        by : (added : Option (List (List ℕ))) → can_extend 1 (put_part names.root added x) ≡ is_none added → name_symbols (put_part names.root added x) ≡ next_name (put_part names.root added x).additions
        by None e = ap (λ (b : Bool). cond b (Whole NextName ∷ []) (Item ALower ∷ Whole AfterName ∷ [])) e
        by (Some added) e = refl

    go : (b : Bool) → cond b (sign_at signs.Ellipsis ts >>= λ a. Ok (extended names, a)) (new_name_at (λ name. has_name name (all_parts names)) (is_full names) ts >>= λ name. Ok (with_part names name.0, name.1)) ≡ Ok entry → name_symbols entry.0 ≡ next_name entry.0.additions
    go true h = let found = ok_last (sign_at signs.Ellipsis ts) (λ a. (extended names, a)) entry h in subst (λ (x : Extensible (List ℕ) × Left). name_symbols x.0 ≡ next_name x.0.additions) found.1 refl
    go false h = let found = ok_last (new_name_at (λ name. has_name name (all_parts names)) (is_full names) ts) (λ name. (with_part names name.0, name.1)) entry h in subst (λ (x : Extensible (List ℕ) × Left). name_symbols x.0 ≡ next_name x.0.additions) found.1 (put found.0.0)

names_turn_sim : (symbols : List Symbol) (names : Extensible (List ℕ)) (ts : List Placed) → Sim 1 (name_symbols names ++ symbols) ts (λ a. cond a.0 (name_symbols a.1 ++ symbols) symbols) (λ a. a.2) (names_turn_at names ts)
unfolding names_turn_at
names_turn_sim symbols names ts = and_then (name_entry_sim names symbols ts) (λ entry e _.
    next (list_goes_on_sim (name_end entry.0.additions) (next_name entry.0.additions) (name_goes_on entry.0.additions) symbols entry.1) (λ more _.
    done (more.0, entry.0, more.1) (ap (λ (c : List Symbol). cond more.0 (c ++ symbols) symbols) (entry_next names ts entry e)) refl))

pub names_sim : (turns : ℕ) (symbols : List Symbol) (ts : List Placed) → length ts < turns → Sim 0 (Item ALower ∷ Whole AfterName ∷ symbols) ts (λ _. symbols) (λ a. a.1) (names_at turns ts)
unfolding names_at
names_sim turns symbols ts lt = repeat_sim names_turn_at (λ names. name_symbols names ++ symbols) (λ _. symbols) (λ names us _. inl (names_turn_sim symbols names us)) turns no_parts ts lt lt

-- ---- components and alternatives

abbrev pub member_end : Group → Option (List Component) → Part
member_end groups.Sequence None = AfterComponent
member_end groups.Sequence (Some added) = AfterAddition
member_end groups.Choice None = AfterAlternative
member_end groups.Choice (Some added) = AfterAlternativeAddition

-- what follows the type of a member
abbrev pub behind : Group → Option (List Component) → List Symbol
behind groups.Sequence added = Whole OptionalWord ∷ Whole (member_end groups.Sequence added) ∷ []
behind groups.Choice added = Whole (member_end groups.Choice added) ∷ []

abbrev pub member_symbols : Group → Option (List Component) → List Symbol
member_symbols group added = Item ALower ∷ Whole AType ∷ behind group added

abbrev pub next_part : Group → Part
next_part groups.Sequence = NextComponent
next_part groups.Choice = NextAlternative

abbrev next_entry : Group → Option (List Component) → List Symbol
next_entry group None = Whole (next_part group) ∷ []
next_entry group (Some added) = member_symbols group (Some added)

-- what spells an entry and those after it
abbrev pub entry_symbols : Group → Extensible Component → List Symbol
entry_symbols group members = cond (can_extend (least_members group) members) (Whole (next_part group) ∷ []) (member_symbols group members.additions)

abbrev pub frame_symbols : Frame → List Symbol
frame_symbols (frames.List size place) = []
frame_symbols (frames.Member group members name place) = behind group members.additions

-- what is left behind the head of a type
abbrev pub head_symbols : List Symbol → Head → List Symbol
head_symbols symbols (heads.Leaf new) = symbols
head_symbols symbols (heads.Opens frame) = Whole AType ∷ frame_symbols frame ++ symbols

member_goes_on : (group : Group) (added : Option (List Component)) → GoesOn (member_end group added) (next_entry group added)
unfolding chosen productions
member_goes_on groups.Sequence None t = refl
member_goes_on groups.Sequence (Some added) t = refl
member_goes_on groups.Choice None t = refl
member_goes_on groups.Choice (Some added) t = refl

abbrev Heads : List Symbol → List Symbol → List Placed → Result (Head × Left) Fault → Type 0
Heads from symbols ts r = Sim 1 from ts (λ (a : Head × Left). head_symbols symbols a.0) (λ a. a.1) r

named_sim : (group : Group) (members : Extensible Component) (place : ℕ) (symbols : List Symbol) (ts : List Placed) → Heads (member_symbols group members.additions ++ symbols) symbols ts (named_at group members place ts)
unfolding named_at
named_sim group members place symbols ts =
    first (new_name_sim (λ name. has_component name (all_parts members)) (is_full members) (Whole AType ∷ behind group members.additions ++ symbols) ts) (λ name _.
    done (heads.Opens (frames.Member group members name.0 place), name.1) refl refl)

-- what the part before an entry is, where the next item is `...`, and where it isn't
abbrev MarkThere : Part → Group → List Placed → Type 0
MarkThere n group ts = begins_with_sign signs.Ellipsis ts ≡ true → chosen n (first_token ts) ≡ Some (ellipsis ∷ Whole (member_end group (Some [])) ∷ [])

abbrev MarkNot : Part → Group → List Placed → Type 0
MarkNot n group ts = begins_with_sign signs.Ellipsis ts ≡ false → chosen n (first_token ts) ≡ cond (fits ALower (first_token ts)) (Some (member_symbols group None)) None

pub entry_from : (n : Part) (group : Group) (members : Extensible Component) (place : ℕ) (symbols : List Symbol) (ts : List Placed) → can_extend (least_members group) members ≡ true → MarkThere n group ts → MarkNot n group ts → Heads (Whole n ∷ symbols) symbols ts (entry_at group members place ts)
unfolding entry_at
entry_from n group members place symbols ts can there other =
    by_choice (Heads (Whole n ∷ symbols) symbols ts) (can_extend (least_members group) members && begins_with_sign signs.Ellipsis ts) _ _
    (λ h. expands n (ellipsis ∷ Whole (member_end group (Some [])) ∷ []) (there (and_parts _ _ h).1)
    (first (sign_sim signs.Ellipsis _ ts) (λ a _.
    next (list_goes_on_sim (member_end group (Some [])) (member_symbols group (Some [])) (member_goes_on group (Some [])) symbols a) (λ more _.
    by_flag more.0 (member_symbols group (Some []) ++ symbols) symbols (named_at group (extended members) place more.1) (Ok (heads.Leaf (node (composed group (extended members)) place), more.1))
    (λ _. weaker (named_sim group (extended members) place symbols more.1))
    (λ _. done (heads.Leaf (node (composed group (extended members)) place), more.1) refl refl)))))
    (λ h. part_of n ALower (Whole AType ∷ behind group None) (other (and_fails _ _ h can))
    (subst (λ (added : Option (List Component)). Heads (member_symbols group added ++ symbols) symbols ts (named_at group members place ts)) (root_only (least_members group) members.root members.additions can) (named_sim group members place symbols ts)))

next_there : (group : Group) (ts : List Placed) → MarkThere (next_part group) group ts
unfolding chosen productions
next_there groups.Sequence ts h = chosen_one _ _ _ (fits_sign signs.Ellipsis ts true h)
next_there groups.Choice ts h = chosen_one _ _ _ (fits_sign signs.Ellipsis ts true h)

next_not : (group : Group) (ts : List Placed) → MarkNot (next_part group) group ts
unfolding chosen productions
next_not groups.Sequence ts h = chosen_other _ _ _ _ (fits_sign signs.Ellipsis ts false h) refl
next_not groups.Choice ts h = chosen_other _ _ _ _ (fits_sign signs.Ellipsis ts false h) refl

pub entry_sim : (group : Group) (members : Extensible Component) (place : ℕ) (symbols : List Symbol) (ts : List Placed) → Heads (entry_symbols group members ++ symbols) symbols ts (entry_at group members place ts)
unfolding entry_at
entry_sim group members place symbols ts = by_test _ (can_extend (least_members group) members)
    (λ can. subst (λ (c : Bool). Heads (cond c (Whole (next_part group) ∷ []) (member_symbols group members.additions) ++ symbols) symbols ts (entry_at group members place ts)) (sym can)
    (entry_from (next_part group) group members place symbols ts can (next_there group ts) (next_not group ts)))
    (λ not. subst (λ (c : Bool). Heads (cond c (Whole (next_part group) ∷ []) (member_symbols group members.additions) ++ symbols) symbols ts (entry_at group members place ts)) (sym not)
    (by_choice (Heads (member_symbols group members.additions ++ symbols) symbols ts) (can_extend (least_members group) members && begins_with_sign signs.Ellipsis ts) _ _
    (λ h. absurd (never (can_extend (least_members group) members) not (and_parts _ _ h).0))
    (λ h. named_sim group members place symbols ts)))
  where
    never : (b : Bool) → b ≡ false → b ≡ true → ⊥
    never b e f = cc

optional_there : (ts : List Placed) → begins_with words.Optional ts ≡ true → chosen OptionalWord (first_token ts) ≡ Some (word words.Optional ∷ [])
unfolding chosen productions
optional_there ts h = chosen_one _ _ _ (fits_word words.Optional ts true h)

no_optional : (ts : List Placed) → begins_with words.Optional ts ≡ false → chosen OptionalWord (first_token ts) ≡ Some []
unfolding chosen productions
no_optional ts h = chosen_other _ _ _ _ (fits_word words.Optional ts false h) refl

optional_sim : (group : Group) (added : Option (List Component)) (symbols : List Symbol) (ts : List Placed) → Sim 0 (behind group added ++ symbols) ts (λ _. Whole (member_end group added) ∷ symbols) (λ a. a.1) (optional_at group ts)
unfolding optional_at
optional_sim groups.Choice added symbols ts = done (false, ts) refl refl
optional_sim groups.Sequence added symbols ts =
    by_choice (Sim 0 (Whole OptionalWord ∷ Whole (member_end groups.Sequence added) ∷ symbols) ts (λ _. Whole (member_end groups.Sequence added) ∷ symbols) (λ a. a.1)) (begins_with words.Optional ts) _ _
    (λ h. expands OptionalWord (word words.Optional ∷ []) (optional_there ts h) (next (word_sim words.Optional _ ts) (λ a _. done (true, a) refl refl)))
    (λ h. expands OptionalWord [] (no_optional ts h) (done (false, ts) refl refl))

entry_put : (group : Group) (members : Extensible Component) (x : Component) → entry_symbols group (with_part members x) ≡ next_entry group members.additions
entry_put group members x = by members.additions (extends_put members x (least_members group) (least group))
  where
    least : (g : Group) → (least_members g ≡ 0) ⊎ (least_members g ≡ 1)
    least groups.Sequence = inl refl
    least groups.Choice = inr refl

    by : (added : Option (List Component)) → can_extend (least_members group) (put_part members.root added x) ≡ is_none added → entry_symbols group (put_part members.root added x) ≡ next_entry group added
    by None e = ap (λ (b : Bool). cond b (Whole (next_part group) ∷ []) (member_symbols group None)) e
    by (Some added) e = ap (λ (b : Bool). cond b (Whole (next_part group) ∷ []) (member_symbols group (Some (added ++ x ∷ [])))) e ∙ same group
      where
        same : (g : Group) → member_symbols g (Some (added ++ x ∷ [])) ≡ member_symbols g (Some added)
        same groups.Sequence = refl
        same groups.Choice = refl

abbrev HeadsLater : List Symbol → List Symbol → List Placed → Result (Head × Left) Fault → Type 0
HeadsLater from symbols ts r = Sim 0 from ts (λ (a : Head × Left). head_symbols symbols a.0) (λ a. a.1) r

member_end_sim : (group : Group) (members : Extensible Component) (name : List ℕ) (place : ℕ) (definition : TypeId) (symbols : List Symbol) (ts : List Placed) → HeadsLater (behind group members.additions ++ symbols) symbols ts (member_end_at group members name place definition ts)
unfolding member_end_at
member_end_sim group members name place definition symbols ts =
    maybe (optional_sim group members.additions symbols ts) (λ optional _.
    next (list_goes_on_sim (member_end group members.additions) (next_entry group members.additions) (member_goes_on group members.additions) symbols optional.1) (λ more _.
    by_flag more.0 (next_entry group members.additions ++ symbols) symbols (entry_at group (with_part members (component name definition optional.0)) place more.1) (Ok (heads.Leaf (node (composed group (with_part members (component name definition optional.0))) place), more.1))
    (λ _. subst (λ (c : List Symbol). HeadsLater (c ++ symbols) symbols more.1 (entry_at group (with_part members (component name definition optional.0)) place more.1)) (entry_put group members (component name definition optional.0))
    (weaker (entry_sim group (with_part members (component name definition optional.0)) place symbols more.1)))
    (λ _. done (heads.Leaf (node (composed group (with_part members (component name definition optional.0))) place), more.1) refl refl)))

pub close_sim : (frame : Frame) (definition : TypeId) (symbols : List Symbol) (ts : List Placed) → HeadsLater (frame_symbols frame ++ symbols) symbols ts (close_at frame definition ts)
close_sim (frames.List size place) definition symbols ts = done _ refl refl
close_sim (frames.Member group members name place) definition symbols ts = member_end_sim group members name place definition symbols ts
