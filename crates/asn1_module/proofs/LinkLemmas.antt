-- The numbers in a module that is read are those of its types.
use Rattle.std.proofs.Common.{◌≡◌, ℕ, zero, suc, ◌+◌, ◌<◌, ◌≤◌, List, [], ◌∷◌, ◌++◌, length, true, false, ◌&&◌, refl, subst, arith, length-append}
use Rattle.std.specs.Prelude.{Result, Ok, Err, Option, Some, None}
use Rattle.gnb_types.proofs.Choices.{chosen}
use Rattle.asn1_tokens.specs.declared.token.Word.{Word}
use Rattle.asn1_tokens.specs.declared.token.Word.TheVariants as words
use Rattle.asn1_tokens.specs.declared.token.Sign.TheVariants as signs
use Rattle.asn1_tokens.specs.Stream.{first_place}
use Rattle.asn1_syntax.specs.declared.types.fault.Fault.{Fault}
use Rattle.asn1_syntax.specs.declared.types.definition.TypeId.{TypeId}
use Rattle.asn1_syntax.specs.declared.types.definition.Component.{Component}
use Rattle.asn1_syntax.specs.declared.types.definition.Extensible.{Extensible}
use Rattle.asn1_syntax.specs.declared.types.definition.Definition.{Definition}
use Rattle.asn1_syntax.specs.declared.types.definition.Node.{Node}
use Rattle.asn1_syntax.specs.declared.types.members.Group.{Group}
use Rattle.asn1_syntax.specs.declared.types.members.Group.TheVariants as groups
use Rattle.asn1_syntax.specs.declared.types.members.Frame.{Frame}
use Rattle.asn1_syntax.specs.declared.types.members.Frame.TheVariants as frames
use Rattle.asn1_syntax.specs.declared.types.members.Head.{Head}
use Rattle.asn1_syntax.specs.declared.types.members.Head.TheVariants as heads
use Rattle.asn1_syntax.specs.types.Reading.{Left, begins_with_sign}
use Rattle.asn1_syntax.specs.types.inside.Reading.{◌>>=◌, first_word, word_at, sign_at, upper_at}
use Rattle.asn1_syntax.specs.types.Sizes.{integer_least, integer_greatest, greatest_beside}
use Rattle.asn1_syntax.specs.types.inside.Sizes.{size_at, optional_size_at, bounded_at, integer_ellipsis_at, integer_at}
use Rattle.asn1_syntax.specs.types.Shapes.{Shape, Alone, BoundsFollow, NamesFollow, StringFollows, TextSizeFollows, shape_of, Nothing, StringSize, TextSize}
use Rattle.asn1_syntax.proofs.types.ShapeLemmas.{alone_parts, string_parts, text_parts}
use Rattle.asn1_syntax.specs.types.Members.{no_parts, additions_of, put_part, with_part, extended, is_full, all_parts, component}
use Rattle.asn1_syntax.specs.types.Types.{node, next_id}
use Rattle.asn1_syntax.specs.types.inside.Members.{can_extend, has_component, new_name_at, list_goes_on_at, names_at, least_members, composed, named_at, entry_at, optional_at, member_end_at, close_at}
use Rattle.asn1_syntax.specs.types.inside.Types.{enumerated_at, string_at, rest_at, rest_by, simple_rest_at, is_simple, simple_at, list_head_at, components_head_at, sequence_head_at, choice_head_at, set_name_at, container_at, pdu_at, reference_at, head_by, head_at, Risen, risen, rise_at, type_turn_at, type_goes_on, type_within_at, type_at}
use Rattle.asn1_defs.specs.Links.{AreBelow, PartsBelow, IsInside, AreOrdered, OptionBelow, OptionFrom}
use Rattle.asn1_module.proofs.SimpleTypes.{simple_inside}

pub bind_ok : {A B : Type 0} (r : Result A Fault) (f : A → Result B Fault) (y : B) → (r >>= f) ≡ Ok y → (x : A) × (r ≡ Ok x) × (f x ≡ Ok y)
bind_ok (Ok x) f y h = (x, refl, h)
bind_ok (Err e) f y h = cc

abbrev pub Read : Type 0 → Type 0
Read A = Result A Fault

pub ok_same : {A : Type 0} (x y : A) → (let r : Read A = Ok x in r) ≡ Ok y → x ≡ y
ok_same x y e = cc

-- numbers stay below a greater bound
below_up : (n m : ℕ) (cs : List Component) → n ≤ m → AreBelow n cs → AreBelow m cs
below_up n m [] h b = tt
below_up n m (c ∷ cs) h b = (omega (arith, b.0), below_up n m cs h b.1)

below-append : (n : ℕ) (cs : List Component) (c : Component) → AreBelow n cs → c.definition.number < n → AreBelow n (cs ++ c ∷ [])
below-append n [] c b lt = (lt, tt)
below-append n (d ∷ cs) c b lt = (b.0, below-append n cs c b.1 lt)

put_below : (n : ℕ) (root : List Component) (additions : Option (List Component)) (c : Component) → AreBelow n root → AreBelow n (additions_of additions) → c.definition.number < n → PartsBelow n (put_part root additions c)
put_below n root None c a b lt = (below-append n root c a lt, tt)
put_below n root (Some added) c a b lt = (a, below-append n added c b lt)

-- the members that were read have numbers below n
abbrev pub FrameOk : ℕ → Frame → Type 0
FrameOk n (frames.List size place) = Unit {0}
FrameOk n (frames.Member group members name place) = PartsBelow n members

abbrev HeadOk : ℕ → Head → Type 0
HeadOk n (heads.Leaf new) = IsInside n new.definition
HeadOk n (heads.Opens frame) = FrameOk n frame

abbrev StackOk : ℕ → List Frame → Type 0
StackOk n [] = Unit {0}
StackOk n (frame ∷ stack) = FrameOk n frame × StackOk n stack

frame_up : (n m : ℕ) (frame : Frame) → n ≤ m → FrameOk n frame → FrameOk m frame
frame_up n m (frames.List size place) h ok = tt
frame_up n m (frames.Member group members name place) h ok = (below_up n m members.root h ok.0, below_up n m (additions_of members.additions) h ok.1)

stack_up : (n m : ℕ) (stack : List Frame) → n ≤ m → StackOk n stack → StackOk m stack
stack_up n m [] h ok = tt
stack_up n m (frame ∷ stack) h ok = (frame_up n m frame h ok.0, stack_up n m stack h ok.1)

-- one more type behind those inside it
ordered_push : (n : ℕ) (nodes : List Node) (new : Node) → AreOrdered n nodes → IsInside (n + length nodes) new.definition → AreOrdered n (nodes ++ new ∷ [])
ordered_push n [] new ok inside = (subst (λ (k : ℕ). IsInside k new.definition) (omega arith) inside, tt)
ordered_push n (node ∷ nodes) new ok inside =
    (ok.0, ordered_push (suc n) nodes new ok.1 (subst (λ (k : ℕ). IsInside k new.definition) (omega arith) inside))

composed_inside : (n : ℕ) (group : Group) (members : Extensible Component) → PartsBelow n members → IsInside n (composed group members)
composed_inside n groups.Sequence members ok = ok
composed_inside n groups.Choice members ok = ok

abbrev Headed : ℕ → Head × Left → Type 0
Headed n r = HeadOk n r.0

named_ok : (n : ℕ) (group : Group) (members : Extensible Component) (place : ℕ) (ts : Left) (r : Head × Left) → named_at group members place ts ≡ Ok r → PartsBelow n members → Headed n r
unfolding named_at
named_ok n group members place ts r h ok =
    let name = bind_ok (new_name_at (λ name. has_component name (all_parts members)) (is_full members) ts) _ r h in
    subst (Headed n) (ok_same _ _ name.2) ok

entry_ok : (n : ℕ) (group : Group) (members : Extensible Component) (place : ℕ) (ts : Left) (r : Head × Left) → entry_at group members place ts ≡ Ok r → PartsBelow n members → Headed n r
unfolding entry_at
entry_ok n group members place ts r h ok =
    chosen (can_extend (least_members group) members && begins_with_sign signs.Ellipsis ts) _ _ (Ok r) h (Headed n r)
    (λ _ h.
    let a = bind_ok (sign_at signs.Ellipsis ts) _ r h in
    let more = bind_ok (list_goes_on_at a.0) _ r a.2 in
    chosen more.0.0 _ _ (Ok r) more.2 (Headed n r)
    (λ _ h. named_ok n group (extended members) place more.0.1 r h (ok.0, tt))
    (λ _ h. subst (Headed n) (ok_same _ _ h) (composed_inside n group (extended members) (ok.0, tt))))
    (λ _ h. named_ok n group members place ts r h ok)

close_ok : (n : ℕ) (frame : Frame) (id : TypeId) (ts : Left) (r : Head × Left) → close_at frame id ts ≡ Ok r → FrameOk n frame → id.number < n → Headed n r
unfolding member_end_at
close_ok n (frames.List size place) id ts r h ok lt = subst (Headed n) (ok_same _ _ h) lt
close_ok n (frames.Member group members name place) id ts r h ok lt =
    let optional = bind_ok (optional_at group ts) _ r h in
    let more = bind_ok (list_goes_on_at optional.0.1) _ r optional.2 in
    let grown = put_below n members.root members.additions (component name id optional.0.0) ok.0 ok.1 lt in
    chosen more.0.0 _ _ (Ok r) more.2 (Headed n r)
    (λ _ h. entry_ok n group (with_part members (component name id optional.0.0)) place more.0.1 r h grown)
    (λ _ h. subst (Headed n) (ok_same _ _ h) (composed_inside n group (with_part members (component name id optional.0.0)) grown))

-- types with no other one inside
abbrev Flat : Definition × Left → Type 0
Flat r = (n : ℕ) → IsInside n r.0

integer_flat : (ts : Left) (r : Definition × Left) → integer_at ts ≡ Ok r → Flat r
unfolding integer_at
integer_flat ts r h =
    let a = bind_ok (sign_at signs.LeftParenthesis ts) _ r h in
    let low = bind_ok (bounded_at integer_least integer_greatest a.0) _ r a.2 in
    let b = bind_ok (sign_at signs.Range low.0.1) _ r low.2 in
    let high = bind_ok (bounded_at low.0.0 (greatest_beside low.0.0) b.0) _ r b.2 in
    let more = bind_ok (integer_ellipsis_at high.0.0 high.0.1) _ r high.2 in
    let c = bind_ok (sign_at signs.RightParenthesis more.0.1) _ r more.2 in
    subst Flat (ok_same _ _ c.2) (λ n. tt)

enumerated_flat : (turns : ℕ) (ts : Left) (r : Definition × Left) → enumerated_at turns ts ≡ Ok r → Flat r
unfolding enumerated_at
enumerated_flat turns ts r h =
    let a = bind_ok (sign_at signs.LeftBrace ts) _ r h in
    let names = bind_ok (names_at turns a.0) _ r a.2 in
    subst Flat (ok_same _ _ names.2) (λ n. tt)

rest_flat : (turns : ℕ) (w : Word) (shape : Shape) (ts : Left) (r : Definition × Left) → shape_of w ≡ Some shape → rest_at turns shape ts ≡ Ok r → Flat r
unfolding rest_at
rest_flat turns w (Alone definition) ts r is h = subst Flat (ok_same _ _ h) (simple_inside definition w Nothing (alone_parts w definition is))
rest_flat turns w BoundsFollow ts r is h = integer_flat ts r h
rest_flat turns w NamesFollow ts r is h = enumerated_flat turns ts r h
rest_flat turns w (StringFollows kind) ts r is h =
    let size = bind_ok (string_at ts) _ r h in
    subst Flat (ok_same _ _ size.2) (simple_inside (kind size.0.0) w (StringSize size.0.0) (string_parts w kind is size.0.0))
rest_flat turns w (TextSizeFollows kind) ts r is h =
    let size = bind_ok (optional_size_at true ts) _ r h in
    subst Flat (ok_same _ _ size.2) (simple_inside (kind size.0.0) w (TextSize size.0.0) (text_parts w kind is size.0.0))

simple_flat : (turns : ℕ) (word : Word) (ts : Left) (r : Definition × Left) → simple_rest_at turns word ts ≡ Ok r → Flat r
unfolding simple_rest_at
simple_flat turns word ts r h = go (shape_of word) refl h
  where
    go : (found : Option Shape) → shape_of word ≡ found → rest_by turns found ts ≡ Ok r → Flat r
    go None is h = cc
    go (Some shape) is h = rest_flat turns word shape ts r is h

simple_ok : (n turns : ℕ) (word : Word) (ts : Left) (r : Head × Left) → simple_at turns word ts ≡ Ok r → Headed n r
unfolding simple_at
simple_ok n turns word ts r h =
    chosen (is_simple word) _ _ (Ok r) h (Headed n r)
    (λ _ h.
    let a = bind_ok (word_at word ts) _ r h in
    let d = bind_ok (simple_rest_at turns word a.0) _ r a.2 in
    subst (Headed n) (ok_same _ _ d.2) (simple_flat turns word a.0 d.0 d.1 n))
    (λ _ h. cc)

list_ok : (n place : ℕ) (ts : Left) (r : Head × Left) → list_head_at place ts ≡ Ok r → Headed n r
unfolding list_head_at
list_ok n place ts r h =
    chosen (begins_with_sign signs.LeftParenthesis ts) _ _ (Ok r) h (Headed n r)
    (λ _ h.
    let size = bind_ok (size_at false ts) _ r h in
    let a = bind_ok (word_at words.Of size.0.1) _ r size.2 in
    subst (Headed n) (ok_same _ _ a.2) tt)
    (λ _ h.
    let a = bind_ok (word_at words.Of ts) _ r h in
    subst (Headed n) (ok_same _ _ a.2) tt)

components_ok : (n place : ℕ) (ts : Left) (r : Head × Left) → components_head_at place ts ≡ Ok r → Headed n r
unfolding components_head_at
components_ok n place ts r h =
    chosen (begins_with_sign signs.RightBrace ts) _ _ (Ok r) h (Headed n r)
    (λ _ h.
    let a = bind_ok (sign_at signs.RightBrace ts) _ r h in
    subst (Headed n) (ok_same _ _ a.2) (tt, tt))
    (λ _ h. entry_ok n groups.Sequence no_parts place ts r h (tt, tt))

sequence_ok : (n : ℕ) (ts : Left) (r : Head × Left) → sequence_head_at ts ≡ Ok r → Headed n r
unfolding sequence_head_at
sequence_ok n ts r h =
    let a = bind_ok (word_at words.Sequence ts) _ r h in
    chosen (begins_with_sign signs.LeftBrace a.0) _ _ (Ok r) a.2 (Headed n r)
    (λ _ h.
    let b = bind_ok (sign_at signs.LeftBrace a.0) _ r h in
    components_ok n (first_place ts).start b.0 r b.2)
    (λ _ h. list_ok n (first_place ts).start a.0 r h)

choice_ok : (n : ℕ) (ts : Left) (r : Head × Left) → choice_head_at ts ≡ Ok r → Headed n r
unfolding choice_head_at
choice_ok n ts r h =
    let a = bind_ok (word_at words.Choice ts) _ r h in
    let b = bind_ok (sign_at signs.LeftBrace a.0) _ r a.2 in
    entry_ok n groups.Choice no_parts (first_place ts).start b.0 r b.2 (tt, tt)

container_ok : (n : ℕ) (ts : Left) (r : Head × Left) → container_at ts ≡ Ok r → Headed n r
unfolding container_at
container_ok n ts r h =
    let a = bind_ok (word_at words.ProtocolIeContainer ts) _ r h in
    let set = bind_ok (set_name_at a.0) _ r a.2 in
    subst (Headed n) (ok_same _ _ set.2) tt

pdu_ok : (n : ℕ) (ts : Left) (r : Head × Left) → pdu_at ts ≡ Ok r → Headed n r
unfolding pdu_at
pdu_ok n ts r h =
    let a = bind_ok (word_at words.ProtocolPdu ts) _ r h in
    let set = bind_ok (set_name_at a.0) _ r a.2 in
    subst (Headed n) (ok_same _ _ set.2) tt

reference_ok : (n : ℕ) (ts : Left) (r : Head × Left) → reference_at ts ≡ Ok r → Headed n r
unfolding reference_at
reference_ok n ts r h =
    let name = bind_ok (upper_at ts) _ r h in
    subst (Headed n) (ok_same _ _ name.2) tt

head_ok : (n turns : ℕ) (word : Option Word) (ts : Left) (r : Head × Left) → head_by turns word ts ≡ Ok r → Headed n r
unfolding head_by
head_ok n turns None ts r h = reference_ok n ts r h
head_ok n turns (Some words.Sequence) ts r h = sequence_ok n ts r h
head_ok n turns (Some words.Choice) ts r h = choice_ok n ts r h
head_ok n turns (Some words.ProtocolIeContainer) ts r h = container_ok n ts r h
head_ok n turns (Some words.ProtocolPdu) ts r h = pdu_ok n ts r h
head_ok n turns (Some word) ts r h = simple_ok n turns word ts r h

-- what a type makes of those around it
record RisenOk (least : ℕ) (r : Risen) : Type 0 where
  ordered : AreOrdered 0 r.2
  stack : StackOk (length r.2) r.1
  whole : OptionBelow (length r.2) r.0
  from : OptionFrom least r.0
  grown : least ≤ length r.2

risen_ok : (least : ℕ) (head : Head) (stack : List Frame) (nodes : List Node) (ts : Left) (on : TypeId → List Node → Left → Result Risen Fault) (r : Risen) → risen head stack nodes ts on ≡ Ok r → HeadOk (length nodes) head → StackOk (length nodes) stack → AreOrdered 0 nodes → least ≤ length nodes → ((id : TypeId) (more : List Node) (ts : Left) → on id more ts ≡ Ok r → StackOk (length more) stack → id.number < length more → AreOrdered 0 more → least ≤ length more → least ≤ id.number → RisenOk least r) → RisenOk least r
risen_ok least (heads.Leaf new) stack nodes ts on r h ok stacked ordered grown next =
    let size : length (nodes ++ new ∷ []) ≡ length nodes + 1 = omega (arith, length-append nodes (new ∷ [])) in
    next (next_id nodes) (nodes ++ new ∷ []) ts h (stack_up (length nodes) (length (nodes ++ new ∷ [])) stack (omega (arith, size)) stacked) (omega (arith, size))
    (ordered_push 0 nodes new ordered (subst (λ (k : ℕ). IsInside k new.definition) (omega arith) ok)) (omega (arith, size)) grown
risen_ok least (heads.Opens frame) stack nodes ts on r h ok stacked ordered grown next =
    subst (RisenOk least) (ok_same _ _ h) (record { ordered = ordered; stack = (ok, stacked); whole = tt; from = tt; grown = grown })

rise_ok : (least : ℕ) (stack : List Frame) (id : TypeId) (nodes : List Node) (ts : Left) (r : Risen) → rise_at stack id nodes ts ≡ Ok r → StackOk (length nodes) stack → id.number < length nodes → AreOrdered 0 nodes → least ≤ length nodes → least ≤ id.number → RisenOk least r
unfolding rise_at
rise_ok least [] id nodes ts r h stacked lt ordered grown from = subst (RisenOk least) (ok_same _ _ h) (record { ordered = ordered; stack = tt; whole = lt; from = from; grown = grown })
rise_ok least (frame ∷ stack) id nodes ts r h stacked lt ordered grown from =
    let head = bind_ok (close_at frame id ts) _ r h in
    risen_ok least head.0.0 stack nodes head.0.1 (rise_at stack) r head.2 (close_ok (length nodes) frame id ts head.0 head.1 stacked.0 lt) stacked.1 ordered grown
    (λ id more ts h stacked lt ordered grown from. rise_ok least stack id more ts r h stacked lt ordered grown from)

turn_ok : (least turns : ℕ) (stack : List Frame) (nodes : List Node) (ts : Left) (r : Risen) → type_turn_at turns stack nodes ts ≡ Ok r → StackOk (length nodes) stack → AreOrdered 0 nodes → least ≤ length nodes → RisenOk least r
unfolding type_turn_at
turn_ok least turns stack nodes ts r h stacked ordered grown =
    let head = bind_ok (head_at turns ts) _ r h in
    risen_ok least head.0.0 stack nodes head.0.1 (rise_at stack) r head.2 (head_ok (length nodes) turns (first_word ts) ts head.0 head.1) stacked ordered grown
    (λ id more ts h stacked lt ordered grown from. rise_ok least stack id more ts r h stacked lt ordered grown from)

-- a type that was read, among the types so far
pub record TypeOk (least : ℕ) (r : TypeId × List Node × Left) : Type 0 where
  pub ordered : AreOrdered 0 r.1
  pub below : r.0.number < length r.1
  pub from : least ≤ r.0.number
  pub grown : least ≤ length r.1

within_ok : (least most turns : ℕ) (stack : List Frame) (nodes : List Node) (ts : Left) (r : TypeId × List Node × Left) → type_within_at most turns stack nodes ts ≡ Ok r → StackOk (length nodes) stack → AreOrdered 0 nodes → least ≤ length nodes → TypeOk least r
unfolding type_within_at
within_ok least most zero stack nodes ts r h stacked ordered grown = cc
within_ok least most (suc turns) stack nodes ts r h stacked ordered grown =
    let turn = bind_ok (type_turn_at most stack nodes ts) _ r h in
    goes turn.0 turn.2 (turn_ok least most stack nodes ts turn.0 turn.1 stacked ordered grown) (λ stack nodes ts h stacked ordered grown. within_ok least most turns stack nodes ts r h stacked ordered grown)
  where
    goes : (t : Risen) → type_goes_on t (type_within_at most turns) ≡ Ok r → RisenOk least t → ((stack : List Frame) (nodes : List Node) (ts : Left) → type_within_at most turns stack nodes ts ≡ Ok r → StackOk (length nodes) stack → AreOrdered 0 nodes → least ≤ length nodes → TypeOk least r) → TypeOk least r
    goes (None, stack, nodes, ts) h ok next = next stack nodes ts h ok.stack ok.ordered ok.grown
    goes (Some id, stack, nodes, ts) h ok next = subst (TypeOk least) (ok_same _ _ h) (record { ordered = ok.ordered; below = ok.whole; from = ok.from; grown = ok.grown })

-- a type that is read keeps the order
pub type_ok : (turns : ℕ) (nodes : List Node) (ts : Left) (r : TypeId × List Node × Left) → type_at turns nodes ts ≡ Ok r → AreOrdered 0 nodes → TypeOk (length nodes) r
unfolding type_at
type_ok turns nodes ts r h ordered = within_ok (length nodes) turns turns [] nodes ts r h tt ordered (omega arith)
