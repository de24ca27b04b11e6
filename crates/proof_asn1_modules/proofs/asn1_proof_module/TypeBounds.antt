-- Types that are read are within the bounds.
use Rattle.std.proofs.Common.{◌≡◌, ℕ, ◌-◌, ◌^◌, ◌≤◌, List, [], ◌∷◌, ◌++◌, zero, suc, length, map, Bool, true, false, cond, ◌||◌, ◌&&◌, refl, sym, ap, subst, arith, Option, Some, None}
use Rattle.std.specs.Prelude.{Result, Ok, Err, ℤ, pos, negsuc}
use Rattle.std.specs.Int.Signed.{le_z}
use Rattle.gnb_types.proofs.Choices.{by_choice}
use Rattle.asn1_tokens.specs.declared.token.Word.{Word}
use Rattle.asn1_tokens.specs.declared.token.Word.TheVariants as words
use Rattle.asn1_tokens.specs.declared.token.Sign.TheVariants as signs
use Rattle.asn1_tokens.specs.Words.{is_text}
use Rattle.asn1_tokens.specs.Stream.{first_place, others}
use Rattle.asn1_syntax.specs.declared.types.fault.ModuleReason.TheVariants as reasons
use Rattle.asn1_syntax.specs.declared.types.fault.Fault.{Fault}
use Rattle.asn1_syntax.specs.declared.types.definition.Size.{Size}
use Rattle.asn1_syntax.specs.declared.types.definition.TypeId.{TypeId}
use Rattle.asn1_syntax.specs.declared.types.definition.Extensible.{Extensible}
use Rattle.asn1_syntax.specs.declared.types.definition.Component.{Component}
use Rattle.asn1_syntax.specs.declared.types.definition.Node.{Node}
use Rattle.asn1_syntax.specs.declared.types.definition.Definition.{Definition}
use Rattle.asn1_syntax.specs.declared.types.members.Group.{Group}
use Rattle.asn1_syntax.specs.declared.types.members.Group.TheVariants as groups
use Rattle.asn1_syntax.specs.declared.types.members.Frame.{Frame}
use Rattle.asn1_syntax.specs.declared.types.members.Frame.TheVariants as frames
use Rattle.asn1_syntax.specs.declared.types.members.Head.{Head}
use Rattle.asn1_syntax.specs.declared.types.members.Head.TheVariants as heads
use Rattle.asn1_syntax.specs.types.Reading.{Left, begins_with_sign}
use Rattle.asn1_syntax.specs.types.inside.Reading.{◌>>=◌, fault_at, unexpected, first_word, word_at, sign_at, lower_at, upper_at, number_at}
use Rattle.asn1_syntax.specs.types.Sizes.{natural, least_high, integer_least, integer_greatest, greatest_beside}
use Rattle.asn1_syntax.specs.types.inside.Sizes.{bounded_at, natural_at, ellipsis_at, size_end_at, size_rest_at, size_at, optional_size_at, integer_ellipsis_at, integer_at}
use Rattle.asn1_syntax.specs.types.Shapes.{Shape, Alone, BoundsFollow, NamesFollow, StringFollows, TextSizeFollows, shape_of}
use Rattle.asn1_syntax.proofs.types.ShapeLemmas.{alone_parts, string_parts, text_parts}
use Rattle.asn1_syntax.specs.types.Members.{no_parts, with_part, extended, all_parts, is_full, has_name, component}
use Rattle.asn1_syntax.specs.types.Types.{node, next_id}
use Rattle.asn1_syntax.specs.types.inside.Members.{can_extend, has_component, new_name_at, list_goes_on_at, name_entry_at, names_turn_at, names_at, least_members, composed, named_at, entry_at, optional_at, member_end_at, close_at}
use Rattle.asn1_syntax.specs.types.inside.Types.{enumerated_at, string_at, rest_at, rest_by, simple_rest_at, is_simple, simple_at, list_head_at, components_head_at, sequence_head_at, choice_head_at, set_name_at, container_at, pdu_at, reference_at, head_by, Risen, risen, rise_at, type_turn_at, type_goes_on, type_within_at, type_at}
use Rattle.proof_asn1.proofs.asn1_proof_syntax.Gives.{Gives, ok, no_value, and_gives, gives_so, and_parts, Next, repeat_gives}
use Rattle.proof_asn1_modules.specs.asn1_proof_module.Proper.{IsNew, Each, IsSize, IsTextSize, Maybe, AreParts, component_name, own_name, ArePartsWithin, IsWithin}
use Rattle.proof_asn1_modules.proofs.asn1_proof_module.Parts.{le_of, or_parts, each_put, new_of, text_differs, Growing, none_yet, whole, put_grows, extended_grows}

pub any_value : {A : Type 0} (r : Result A Fault) → Gives (λ _. Unit {0}) r
any_value (Ok a) = ok tt
any_value (Err f) = no_value

-- ---- numbers and sizes

bounded_within : (low high : ℤ) (ts : Left) → Gives (λ (a : ℤ × Left). (le_z low a.0 ≡ true) × (le_z a.0 high ≡ true)) (bounded_at low high ts)
unfolding bounded_at
bounded_within low high ts = and_gives (any_value (number_at ts)) (λ value _.
    by_choice (Gives (λ (a : ℤ × Left). (le_z low a.0 ≡ true) × (le_z a.0 high ≡ true))) (le_z low value.0 && le_z value.0 high) (Ok (value.0, value.1)) (Err (fault_at reasons.Bounds ts))
    (λ h. ok (and_parts _ _ h))
    (λ h. no_value))

pub natural_within : (low high : ℕ) (ts : Left) → Gives (λ (a : ℕ × Left). (low ≤ a.0) × (a.0 ≤ high)) (natural_at low high ts)
unfolding natural_at
natural_within low high ts = and_gives (bounded_within (pos low) (pos high) ts) (λ value h. go value.0 value.1 h.0 h.1)
  where
    go : (value : ℤ) (us : Left) → le_z (pos low) value ≡ true → le_z value (pos high) ≡ true → Gives (λ (a : ℕ × Left). (low ≤ a.0) × (a.0 ≤ high)) (Ok (natural value, us))
    go (pos n) us h g = ok (le_of low n h, le_of n high g)
    go (negsuc n) us h g = cc

size_end_within : (low high : ℕ) (ts : Left) → Gives (λ (a : Size × Left). (a.0.low ≡ low) × (a.0.high ≡ high)) (size_end_at low high ts)
unfolding size_end_at
size_end_within low high ts = and_gives (any_value (ellipsis_at ts)) (λ extensible _.
    and_gives (any_value (sign_at signs.RightParenthesis extensible.1)) (λ a _.
    and_gives (any_value (sign_at signs.RightParenthesis a)) (λ b _. ok (refl, refl))))

after_ok : {A B : Type 0} {P : B → Type 0} {r : Result A Fault} (g : A → Result B Fault) (a : A) → r ≡ Ok a → Gives P (g a) → Gives P (r >>= g)
after_ok {P} g a is given = subst (λ (x : Result _ Fault). Gives P (x >>= g)) (sym is) given

after_err : {A B : Type 0} {P : B → Type 0} {r : Result A Fault} (g : A → Result B Fault) (f : Fault) → r ≡ Err f → Gives P (r >>= g)
after_err {P} g f is = subst (λ (x : Result _ Fault). Gives P (x >>= g)) (sym is) no_value

no_mark : (ts : Left) → begins_with_sign signs.Comma ts ≡ false → ellipsis_at ts ≡ Ok (false, ts)
unfolding ellipsis_at
no_mark ts h = ap (λ (b : Bool). cond b (sign_at signs.Comma ts >>= λ a. sign_at signs.Ellipsis a >>= λ b. Ok (true, b)) (Ok (false, ts))) h

no_sign : (ts : Left) → begins_with_sign signs.RightParenthesis ts ≡ false → sign_at signs.RightParenthesis ts ≡ Err (unexpected ts)
unfolding sign_at
no_sign ts h = ap (λ (b : Bool). cond b (Ok (others ts)) (Err (unexpected ts))) h

-- without a comma or bracket a size doesn't end
no_end : {P : Size × Left → Type 0} (low high : ℕ) (ts : Left) → begins_with_sign signs.Comma ts || begins_with_sign signs.RightParenthesis ts ≡ false → Gives P (size_end_at low high ts)
unfolding size_end_at
no_end low high ts h = after_ok _ (false, ts) (no_mark ts (or_parts _ _ h).0) (after_err _ (unexpected ts) (no_sign ts (or_parts _ _ h).1))

abbrev SizeOf : Bool → Size → Type 0
SizeOf false size = IsSize size
SizeOf true size = IsTextSize size

abbrev SizeFacts : Bool → Size × Left → Type 0
SizeFacts is_text a = SizeOf is_text a.0

two_bounds : (is_text : Bool) (low high : ℕ) (found : Size) → 1 ≤ low → least_high is_text low ≤ high → high ≤ 65535 → found.low ≡ low → found.high ≡ high → SizeOf is_text found
two_bounds false low high found one least most l h = record { positive = omega (arith, one, l); ordered = omega (arith, least, l, h); bounded = omega (arith, most, h) }
two_bounds true low high found one least most l h = record {
  is = record { positive = omega (arith, one, l); ordered = omega (arith, least, l, h); bounded = omega (arith, most, h) };
  varies = omega (arith, least, l, h);
  enough = omega (arith, least, h);
}

size_rest_within : (is_text : Bool) (low : ℕ) → 1 ≤ low → low ≤ 65535 → (ts : Left) → Gives (SizeFacts is_text) (size_rest_at is_text low ts)
unfolding size_rest_at
size_rest_within is_text low one most ts = by_choice (Gives (SizeFacts is_text)) (begins_with_sign signs.Range ts) _ _
    (λ _. and_gives (any_value (sign_at signs.Range ts)) (λ a _.
    and_gives (natural_within (least_high is_text low) 65535 a) (λ high h.
    gives_so (size_end_within low high.0 high.1) (λ b e. two_bounds is_text low high.0 b.0 one h.0 h.1 e.0 e.1))))
    (λ _. by_choice (Gives (SizeFacts is_text)) (is_text && (begins_with_sign signs.Comma ts || begins_with_sign signs.RightParenthesis ts)) _ _
    (λ _. no_value)
    (λ h. single is_text h))
  where
    single : (b : Bool) → b && (begins_with_sign signs.Comma ts || begins_with_sign signs.RightParenthesis ts) ≡ false → Gives (SizeFacts b) (size_end_at low low ts)
    single true h = no_end low low ts h
    single false h = gives_so (size_end_within low low ts) (λ b e. record { positive = omega (arith, one, e.0); ordered = omega (arith, e.0, e.1); bounded = omega (arith, most, e.1) })

size_within : (is_text : Bool) (ts : Left) → Gives (SizeFacts is_text) (size_at is_text ts)
unfolding size_at
size_within is_text ts = and_gives (any_value (sign_at signs.LeftParenthesis ts)) (λ a _.
    and_gives (any_value (word_at words.Size a)) (λ b _.
    and_gives (any_value (sign_at signs.LeftParenthesis b)) (λ c _.
    and_gives (natural_within 1 65535 c) (λ low h. size_rest_within is_text low.0 h.0 h.1 low.1))))

optional_size_within : (is_text : Bool) (ts : Left) → Gives (λ (a : Option Size × Left). Maybe (SizeOf is_text) a.0) (optional_size_at is_text ts)
unfolding optional_size_at
optional_size_within is_text ts = by_choice (Gives (λ (a : Option Size × Left). Maybe (SizeOf is_text) a.0)) (begins_with_sign signs.LeftParenthesis ts) _ _
    (λ _. and_gives (size_within is_text ts) (λ found h. ok h))
    (λ _. ok tt)

integer_ellipsis_within : (high : ℤ) (ts : Left) → Gives (λ (a : Bool × Left). a.0 ≡ true → le_z high (pos (2 ^ 63 - 1)) ≡ true) (integer_ellipsis_at high ts)
unfolding integer_ellipsis_at
integer_ellipsis_within high ts = by_choice (Gives (λ (a : Bool × Left). a.0 ≡ true → le_z high (pos (2 ^ 63 - 1)) ≡ true)) (begins_with_sign signs.Comma ts) _ _
    (λ _. and_gives (any_value (sign_at signs.Comma ts)) (λ a _.
    and_gives (any_value (sign_at signs.Ellipsis a)) (λ b _.
    by_choice (Gives (λ (a : Bool × Left). a.0 ≡ true → le_z high (pos (2 ^ 63 - 1)) ≡ true)) (le_z high (pos (2 ^ 63 - 1))) _ _ (λ h. ok (λ _. h)) (λ _. no_value))))
    (λ _. ok (λ h. cc))

abbrev Within : Result (Definition × Left) Fault → Type 0
Within r = Gives (λ (a : Definition × Left). IsWithin a.0) r

integer_within : (ts : Left) → Within (integer_at ts)
unfolding integer_at
integer_within ts = and_gives (any_value (sign_at signs.LeftParenthesis ts)) (λ a _.
    and_gives (bounded_within integer_least integer_greatest a) (λ low h.
    and_gives (any_value (sign_at signs.Range low.1)) (λ b _.
    and_gives (bounded_within low.0 (greatest_beside low.0) b) (λ high g.
    and_gives (integer_ellipsis_within high.0 high.1) (λ extensible e.
    and_gives (any_value (sign_at signs.RightParenthesis extensible.1)) (λ c _.
    ok (record { least = h.0; ordered = g.0; greatest = g.1; signed = e })))))))

-- ---- lists in braces

new_name_within : (taken : List ℕ → Bool) (full : Bool) (ts : Left) → Gives (λ (a : List ℕ × Left). (full ≡ false) × (taken a.0 ≡ false)) (new_name_at taken full ts)
unfolding new_name_at
new_name_within taken full ts = and_gives (any_value (lower_at ts)) (λ name _.
    by_choice (Gives (λ (a : List ℕ × Left). (full ≡ false) × (taken a.0 ≡ false))) full _ _ (λ _. no_value)
    (λ f. by_choice (Gives (λ (a : List ℕ × Left). (full ≡ false) × (taken a.0 ≡ false))) (taken name.0) _ _ (λ _. no_value) (λ t. ok (f, t))))

-- the names so far, and those of a list that ended
abbrev Names : Extensible (List ℕ) → Left → Type 0
Names names ts = Growing 1 own_name names

abbrev AllNames : Extensible (List ℕ) → Left → Type 0
AllNames names ts = Growing 1 own_name names × (1 ≤ length names.root)

name_entry_within : (names : Extensible (List ℕ)) (ts : Left) → Growing 1 own_name names → Gives (λ (a : Extensible (List ℕ) × Left). AllNames a.0 a.1) (name_entry_at names ts)
unfolding name_entry_at
name_entry_within names ts g = by_choice (Gives (λ (a : Extensible (List ℕ) × Left). AllNames a.0 a.1)) (can_extend 1 names && begins_with_sign signs.Ellipsis ts) _ _
    (λ h. and_gives (any_value (sign_at signs.Ellipsis ts)) (λ a _. ok (extended_grows 1 own_name names g (and_parts _ _ h).0)))
    (λ h. and_gives (new_name_within (λ name. has_name name (all_parts names)) (is_full names) ts) (λ name e.
    ok (put_grows 1 own_name names name.0 (omega arith) g e.0 (new_of (λ other. is_text other name.0) own_name name.0 (λ a. text_differs a name.0) (all_parts names) e.1))))

names_turn_within : (names : Extensible (List ℕ)) (ts : Left) → Names names ts → Gives (Next Names AllNames) (names_turn_at names ts)
unfolding names_turn_at
names_turn_within names ts g = and_gives (name_entry_within names ts g) (λ entry e.
    and_gives (any_value (list_goes_on_at entry.1)) (λ more _. ok (λ _. e.0, λ _. e)))

names_within : (turns : ℕ) (ts : Left) → Gives (λ (a : Extensible (List ℕ) × Left). AreParts 1 own_name a.0) (names_at turns ts)
unfolding names_at
names_within turns ts = gives_so (repeat_gives names_turn_at Names AllNames names_turn_within turns no_parts ts (none_yet 1 own_name)) (λ a h. whole 1 own_name a.0 h.0 h.1)

-- a frame whose next name is new, and what a head may be
abbrev FrameWithin : Frame → Type 0
FrameWithin (frames.List size place) = Maybe IsSize size
FrameWithin (frames.Member group members name place) = Growing (least_members group) component_name members × (is_full members ≡ false) × IsNew name (map component_name (all_parts members))

abbrev HeadWithin : Head × Left → Type 0
HeadWithin (heads.Leaf new, ts) = IsWithin new.definition
HeadWithin (heads.Opens frame, ts) = FrameWithin frame

composed_within : (group : Group) (members : Extensible Component) (place : ℕ) (ts : Left) → Growing (least_members group) component_name members → least_members group ≤ length members.root → HeadWithin (heads.Leaf (node (composed group members) place), ts)
composed_within groups.Sequence members place ts g enough = whole 0 component_name members g enough
composed_within groups.Choice members place ts g enough = whole 1 component_name members g enough

least_small : (group : Group) → least_members group ≤ 1
least_small groups.Sequence = omega arith
least_small groups.Choice = omega arith

named_within : (group : Group) (members : Extensible Component) (place : ℕ) (ts : Left) → Growing (least_members group) component_name members → Gives HeadWithin (named_at group members place ts)
unfolding named_at
named_within group members place ts g = and_gives (new_name_within (λ name. has_component name (all_parts members)) (is_full members) ts) (λ name e.
    ok (g, e.0, new_of (λ other. is_text other.name name.0) component_name name.0 (λ a. text_differs a.name name.0) (all_parts members) e.1))

entry_within : (group : Group) (members : Extensible Component) (place : ℕ) (ts : Left) → Growing (least_members group) component_name members → Gives HeadWithin (entry_at group members place ts)
unfolding entry_at
entry_within group members place ts g = by_choice (Gives HeadWithin) (can_extend (least_members group) members && begins_with_sign signs.Ellipsis ts) _ _
    (λ h. and_gives (any_value (sign_at signs.Ellipsis ts)) (λ a _.
    and_gives (any_value (list_goes_on_at a)) (λ more _.
    let grown = extended_grows (least_members group) component_name members g (and_parts _ _ h).0 in
    by_choice (Gives HeadWithin) more.0 _ _
    (λ _. named_within group (extended members) place more.1 grown.0)
    (λ _. ok (composed_within group (extended members) place more.1 grown.0 grown.1)))))
    (λ _. named_within group members place ts g)

member_end_within : (group : Group) (members : Extensible Component) (name : List ℕ) (place : ℕ) (definition : TypeId) (ts : Left) → FrameWithin (frames.Member group members name place) → Gives HeadWithin (member_end_at group members name place definition ts)
unfolding member_end_at
member_end_within group members name place definition ts f = and_gives (any_value (optional_at group ts)) (λ optional _.
    and_gives (any_value (list_goes_on_at optional.1)) (λ more _.
    let grown = put_grows (least_members group) component_name members (component name definition optional.0) (least_small group) f.0 f.1 f.2 in
    by_choice (Gives HeadWithin) more.0 _ _
    (λ _. entry_within group (with_part members (component name definition optional.0)) place more.1 grown.0)
    (λ _. ok (composed_within group (with_part members (component name definition optional.0)) place more.1 grown.0 grown.1))))

close_within : (frame : Frame) (definition : TypeId) (ts : Left) → FrameWithin frame → Gives HeadWithin (close_at frame definition ts)
close_within (frames.List size place) definition ts f = ok f
close_within (frames.Member group members name place) definition ts f = member_end_within group members name place definition ts f

-- ---- heads

string_within : (ts : Left) → Gives (λ (a : Option Size × Left). Maybe IsSize a.0) (string_at ts)
unfolding string_at
string_within ts = and_gives (any_value (word_at words.String ts)) (λ a _. optional_size_within false a)

rest_within : (turns : ℕ) (w : Word) (shape : Shape) (ts : Left) → shape_of w ≡ Some shape → Within (rest_at turns shape ts)
unfolding rest_at enumerated_at
rest_within turns w (Alone definition) ts is = ok (subst ArePartsWithin (sym (alone_parts w definition is)) tt)
rest_within turns w BoundsFollow ts is = integer_within ts
rest_within turns w NamesFollow ts is = and_gives (any_value (sign_at signs.LeftBrace ts)) (λ a _. and_gives (names_within turns a) (λ names h. ok h))
rest_within turns w (StringFollows kind) ts is = and_gives (string_within ts) (λ found h. ok (subst ArePartsWithin (sym (string_parts w kind is found.0)) h))
rest_within turns w (TextSizeFollows kind) ts is = and_gives (optional_size_within true ts) (λ found h. ok (subst ArePartsWithin (sym (text_parts w kind is found.0)) h))

simple_rest_within : (turns : ℕ) (w : Word) (ts : Left) → Within (simple_rest_at turns w ts)
unfolding simple_rest_at
simple_rest_within turns w ts = go (shape_of w) refl
  where
    go : (found : Option Shape) → shape_of w ≡ found → Within (rest_by turns found ts)
    go None is = no_value
    go (Some shape) is = rest_within turns w shape ts is

simple_within : (turns : ℕ) (w : Word) (ts : Left) → Gives HeadWithin (simple_at turns w ts)
unfolding simple_at
simple_within turns w ts = by_choice (Gives HeadWithin) (is_simple w) _ _
    (λ _. and_gives (any_value (word_at w ts)) (λ a _. and_gives (simple_rest_within turns w a) (λ definition h. ok h)))
    (λ _. no_value)

list_head_within : (place : ℕ) (ts : Left) → Gives HeadWithin (list_head_at place ts)
unfolding list_head_at
list_head_within place ts = by_choice (Gives HeadWithin) (begins_with_sign signs.LeftParenthesis ts) _ _
    (λ _. and_gives (size_within false ts) (λ found h. and_gives (any_value (word_at words.Of found.1)) (λ a _. ok h)))
    (λ _. and_gives (any_value (word_at words.Of ts)) (λ a _. ok tt))

components_head_within : (place : ℕ) (ts : Left) → Gives HeadWithin (components_head_at place ts)
unfolding components_head_at
components_head_within place ts = by_choice (Gives HeadWithin) (begins_with_sign signs.RightBrace ts) _ _
    (λ _. and_gives (any_value (sign_at signs.RightBrace ts)) (λ a _. ok (composed_within groups.Sequence no_parts place a (none_yet 0 component_name) (omega arith))))
    (λ _. entry_within groups.Sequence no_parts place ts (none_yet 0 component_name))

sequence_head_within : (ts : Left) → Gives HeadWithin (sequence_head_at ts)
unfolding sequence_head_at
sequence_head_within ts = and_gives (any_value (word_at words.Sequence ts)) (λ a _.
    by_choice (Gives HeadWithin) (begins_with_sign signs.LeftBrace a) _ _
    (λ _. and_gives (any_value (sign_at signs.LeftBrace a)) (λ b _. components_head_within (first_place ts).start b))
    (λ _. list_head_within (first_place ts).start a))

choice_head_within : (ts : Left) → Gives HeadWithin (choice_head_at ts)
unfolding choice_head_at
choice_head_within ts = and_gives (any_value (word_at words.Choice ts)) (λ a _.
    and_gives (any_value (sign_at signs.LeftBrace a)) (λ b _. entry_within groups.Choice no_parts (first_place ts).start b (none_yet 1 component_name)))

named_set_within : (ts : Left) → Gives HeadWithin (container_at ts) × Gives HeadWithin (pdu_at ts)
unfolding container_at pdu_at
named_set_within ts = (
  and_gives (any_value (word_at words.ProtocolIeContainer ts)) (λ a _. and_gives (any_value (set_name_at a)) (λ set _. ok tt)),
  and_gives (any_value (word_at words.ProtocolPdu ts)) (λ a _. and_gives (any_value (set_name_at a)) (λ set _. ok tt)),
)

reference_within : (ts : Left) → Gives HeadWithin (reference_at ts)
unfolding reference_at
reference_within ts = and_gives (any_value (upper_at ts)) (λ name _. ok tt)

head_by_within : (turns : ℕ) (found : Option Word) (ts : Left) → Gives HeadWithin (head_by turns found ts)
unfolding head_by
head_by_within turns None ts = reference_within ts
head_by_within turns (Some words.Sequence) ts = sequence_head_within ts
head_by_within turns (Some words.Choice) ts = choice_head_within ts
head_by_within turns (Some words.ProtocolIeContainer) ts = (named_set_within ts).0
head_by_within turns (Some words.ProtocolPdu) ts = (named_set_within ts).1
head_by_within turns (Some w) ts = simple_within turns w ts

-- ---- types inside others

abbrev pub NodesWithin : List Node → Type 0
NodesWithin nodes = Each (λ node. IsWithin node.definition) nodes

abbrev RisenWithin : Risen → Type 0
RisenWithin (None, stack, nodes, ts) = Each FrameWithin stack × NodesWithin nodes
RisenWithin (Some id, stack, nodes, ts) = NodesWithin nodes

risen_within : (head : Head) (stack : List Frame) (nodes : List Node) (ts : Left) (on : TypeId → List Node → Left → Result Risen Fault)
    → ((id : TypeId) (new : List Node) → NodesWithin new → Gives RisenWithin (on id new ts)) → HeadWithin (head, ts) → Each FrameWithin stack → NodesWithin nodes → Gives RisenWithin (risen head stack nodes ts on)
risen_within (heads.Leaf new) stack nodes ts on again h s n = again (next_id nodes) (nodes ++ new ∷ []) (each_put (λ (node : Node). IsWithin node.definition) nodes new n h)
risen_within (heads.Opens frame) stack nodes ts on again h s n = ok ((h, s), n)

rise_within : (stack : List Frame) (id : TypeId) (nodes : List Node) (ts : Left) → Each FrameWithin stack → NodesWithin nodes → Gives RisenWithin (rise_at stack id nodes ts)
unfolding rise_at
rise_within [] id nodes ts s n = ok n
rise_within (frame ∷ stack) id nodes ts s n = and_gives (close_within frame id ts s.0) (λ head h.
    risen_within head.0 stack nodes head.1 (rise_at stack) (λ inner new m. rise_within stack inner new head.1 s.1 m) h s.1 n)

type_turn_within : (turns : ℕ) (stack : List Frame) (nodes : List Node) (ts : Left) → Each FrameWithin stack → NodesWithin nodes → Gives RisenWithin (type_turn_at turns stack nodes ts)
unfolding type_turn_at
type_turn_within turns stack nodes ts s n = and_gives (head_by_within turns (first_word ts) ts) (λ head h.
    risen_within head.0 stack nodes head.1 (rise_at stack) (λ inner new m. rise_within stack inner new head.1 s m) h s n)

abbrev pub TypeWithin : TypeId × List Node × Left → Type 0
TypeWithin a = NodesWithin a.1

type_within_within : (most turns : ℕ) (stack : List Frame) (nodes : List Node) (ts : Left) → Each FrameWithin stack → NodesWithin nodes → Gives TypeWithin (type_within_at most turns stack nodes ts)
unfolding type_within_at
type_within_within most zero stack nodes ts s n = no_value
type_within_within most (suc turns) stack nodes ts s n = and_gives (type_turn_within most stack nodes ts s n) (λ turn h.
    go (λ inner new us t m. type_within_within most turns inner new us t m) turn h)
  where
    go : ((inner : List Frame) (new : List Node) (us : Left) → Each FrameWithin inner → NodesWithin new → Gives TypeWithin (type_within_at most turns inner new us)) → (turn : Risen) → RisenWithin turn → Gives TypeWithin (type_goes_on turn (type_within_at most turns))
    go again (None, inner, new, us) h = again inner new us h.0 h.1
    go again (Some id, inner, new, us) h = ok h

pub type_within : (turns : ℕ) (nodes : List Node) (ts : Left) → NodesWithin nodes → Gives TypeWithin (type_at turns nodes ts)
unfolding type_at
type_within turns nodes ts n = type_within_within turns turns [] nodes ts tt n
