use Rattle.std.proofs.Common.{rules, ◌≡◌, ℕ, ◌-◌, ◌<◌, ◌≤◌, ◌^◌, min, length, get_or, OnOk, List, [], Option, Some, None, Bor, is_some, Bool, true, not, sym, ap, subst, ◌∙◌, arith}
use Rattle.std.proofs.lemmas.Result.{on_ok_weaker}
use Rattle.std.specs.Prelude.{nat_lt}
use Rattle.json.specs.Written.{Written}
use Rattle.serde_json.specs.Data.{Data, Items, Members, object}
use Rattle.asn1_syntax.specs.declared.types.definition.TypeId.{TypeId}
use Rattle.asn1_syntax.specs.declared.types.definition.Component.{Component}
use Rattle.asn1_syntax.specs.declared.types.definition.Extensible.{Extensible}
use Rattle.asn1_syntax.specs.types.Members.{additions_of}
use Rattle.asn1_syntax.specs.declared.assignments.assignment.IeRow.{IeRow}
use Rattle.asn1_syntax.specs.declared.assignments.assignment.ProcedureRow.{ProcedureRow}
use Rattle.asn1_defs.specs.Links.{AreBelow, OptionBelow}
use Rattle.aper_defs.specs.Values.{Value as SeenValue, components, chosen, message, has_options}
use Rattle.aper_values.specs.declared.value.Value.{Value, the_lemmas}
use Rattle.aper_values.specs.declared.value.Element.{Element}
use Rattle.aper_values.specs.Views.{view, options_view}
use Rattle.aper_fields.specs.members.Rows.{part_type}
use Rattle.aper_values.specs.types.Types.{is_extensible, tree}
use Rattle.aper_fields.proofs.members.Members.{part_below}
use Rattle.aper_fields.proofs.members.Turns.{below_at}
use Rattle.aper_fields.proofs.members.MessageLemmas.{messages_below}
use Rattle.aper_fields.proofs.members.RowLemmas.{body_below}
use Rattle.json_defs.specs.Named.{choice}
use Rattle.json_defs.specs.Members.{Text, code_key, id_key, outcomes}
use Rattle.json_defs.specs.shown_defs.Printed.{shown_as, added_shown, components_shown, row_shown, contents_shown, one_member, body_shown, name_at}
use Rattle.values_json.specs.tokens.Written.{WritesWhole}
use Rattle.json_defs.specs.type_defs.Types.{named, parts_with, rows_with, procedures_with}
use Rattle.proof_json.proofs.values.Words.{is_less}
use Rattle.values_json.specs.pieces.Bodies.{contents_as}
use Rattle.values_json.specs.declared.order.Member.{Member}
use Rattle.values_json.specs.order.Names.{object_names, AreAscending}
use Rattle.values_json.specs.order.Listed.{listed, by_name, with_dots, AreComponents}
use Rattle.values_json.specs.printing.Inside.{inside_shown, added_one, place_shown, sequence_shown, BeginsObject, Lists}
use Rattle.values_json.proofs.printing.Written.{LeavesMembers, array_written, object_written, one_written, body_written, dots_begun, has_more, counted, in_order_written}
use Rattle.values_json.proofs.printing.Turns.{message_printed, sequence_is, some_more, is_not_zero, same_item, row_is, body_is, places_shown}
use Rattle.values_json.proofs.printing.Loops.{addition_left, additions_left, absent_left, components_left}
use Rattle.values_json.proofs.printing.Choices.{root_printed, addition_printed, past_printed}
use Rattle.values_json.proofs.printing.values.+write.Goals as goal

-- ---- additions
pub write_additions-write_inside-requires : goal.write_additions-write_inside-requires
write_additions-write_inside-requires t c =
    let ps : List Component = c.args.parts.now in
    let n : ℕ = length c.args.m.now.nodes in
    let below : OptionBelow n c.part_type.result =
    subst (λ (x : Option TypeId). OptionBelow n x) (sym c.part_type.ensures) (part_below n c.loop-i.i ps c.requires) in
    (search (rules, the_lemmas), below)

pub write_additions-loop-i-preserved-in_default : goal.write_additions-loop-i-preserved-in_default
write_additions-loop-i-preserved-in_default t c =
    let l = c.loop-i in
    let ps : List Component = c.args.parts.now in
    let put : WritesWhole (added_one (named c.args.m.now) (part_type l.i ps) c.index-values-i.result) l.out c.null.new.self =
    subst (λ (o : Option Value). WritesWhole (added_one (named c.args.m.now) (part_type l.i ps) o) l.out c.null.new.self) (sym c.in_default.is)
    ((c.in_ok-null.ensures.room.0, c.in_ok-null.ensures.ok), tt) in
    addition_left (named c.args.m.now) ps c.args.values.now c.begin_array.new.self _ l.out c.null.new.self l.i c.index-values-i.result
    c.loop-i-test.true c.index-values-i.is l.invariant put

pub write_additions-loop-i-preserved : goal.write_additions-loop-i-preserved
write_additions-loop-i-preserved t c =
    let of = named c.args.m.now in
    let l = c.loop-i in
    let ps : List Component = c.args.parts.now in
    let next : Written = c.write_inside.new.out in
    let some : WritesWhole (added_one of (part_type l.i ps) (Some c.in-Some.value)) l.out next =
    subst (λ (x : Option TypeId). WritesWhole (inside_shown of x (view c.in-Some.value)) l.out next) c.part_type.ensures c.in_ok-write_inside.ensures in
    let put : WritesWhole (added_one of (part_type l.i ps) c.index-values-i.result) l.out next =
    subst (λ (o : Option Value). WritesWhole (added_one of (part_type l.i ps) o) l.out next) (sym c.in-Some.is) some in
    addition_left of ps c.args.values.now c.begin_array.new.self _ l.out next l.i c.index-values-i.result c.loop-i-test.true c.index-values-i.is
    l.invariant put

pub write_additions-returns : goal.write_additions-returns
write_additions-returns t c =
    let of = named c.args.m.now in
    let l = c.loop-i in
    array_written (added_shown (parts_with of c.args.parts.now) (options_view c.args.values.now)) c.args.out.now c.begin_array.new.self l.out
    c.end_array.new.self (c.in_ok-begin_array.ensures.room.0, c.in_ok-begin_array.ensures.ok)
    (additions_left of c.args.parts.now c.args.values.now c.begin_array.new.self _ l.out l.i c.loop-i-test.false l.invariant)
    (c.in_ok-end_array.ensures.room.0, c.in_ok-end_array.ensures.ok)

-- ---- components
pub write_components-write_value-requires : goal.write_components-write_value-requires
write_components-write_value-requires t c =
    let n : ℕ = length c.args.m.now.nodes in
    let ps : List Component = c.args.parts.now in
    let j : ℕ = c.loop-i.i in
    let q : Component = c.index-parts-i.result in
    let small : j < length ps = omega (arith, c.loop-i-test.true) in
    let r : Component = c.index-parts-i-in-loop-i.result in
    let below : (get_or ps j r).definition.number < n =
    subst (λ (y : Component). y.definition.number < n) (c.index-parts-i.is ∙ same_item ps j q r small)
    (below_at n ps j q c.requires small c.index-parts-i.is) in
    (search (rules, the_lemmas), below)

pub write_components-loop-i-preserved-in_default : goal.write_components-loop-i-preserved-in_default
write_components-loop-i-preserved-in_default t c =
    let l = c.loop-i in
    let ps : List Component = c.args.parts.now in
    let vs : List (Option Value) = c.args.values.now in
    let here : None ≡ get_or vs l.i None = subst (λ (o : Option Value). o ≡ get_or vs l.i o) c.in_default.is c.index-values-i.is in
    let small : l.i < length ps = omega (arith, c.loop-i-test.true) in
    let within : l.i < length vs = omega (arith, c.loop-i-test.true) in
    absent_left (named c.args.m.now) ps vs c.args.out.now _ l.out l.i small within here l.invariant

pub write_components-returns : goal.write_components-returns
write_components-returns t c =
    let l = c.loop-i in
    let ps : List Component = c.args.parts.now in
    let vs : List (Option Value) = c.args.values.now in
    let most : min (length ps) (length vs) ≤ l.i = omega (arith, c.loop-i-test.false) in
    let left = components_left (named c.args.m.now) ps vs c.args.out.now _ l.out l.i most l.invariant in
    (left.0, left.1, left.2 tt)

-- ---- SEQUENCE
pub begin_object-returns : goal.begin_object-returns
begin_object-returns t c =
    let more : List (Option Value) = c.args.additions.now in
    let ds : Items = added_shown (parts_with (named c.args.m.now) c.args.added.now) (options_view more) in
    let some : length more ≡ 0 → ⊥ = is_not_zero (length more) (sym c.is_empty.ensures ∙ c.if-is_empty.false) in
    on_ok_weaker c.write_additions.result (λ put. dots_begun (has_options (options_view more)) ds c.args.out.now c.begin_object.new.self
    c.key.new.self c.write_additions.new.out (some_more more some) (c.in_ok-begin_object.ensures.room.0, c.in_ok-begin_object.ensures.ok)
    (c.in_ok-key.ensures.room.0, c.in_ok-key.ensures.ok) put) c.write_additions.ensures

pub write_sequence-returns : goal.write_sequence-returns
write_sequence-returns t c =
    let of = named c.args.m.now in
    let members : Extensible Component = c.args.members.now in
    let root : List (Option Value) = c.in-Seq.root.items in
    let more : List (Option Value) = c.in-Seq.additions.items in
    let has : Bool = not c.is_empty-has_additions.result in
    let old : Written = c.args.out.now in
    let begun : Written = c.begin_object.new.out in
    let mid : Written = c.write_components.new.out in
    let seen : view c.args.value.now ≡ components (options_view root) (options_view more) = rw c.in-Seq.is (search (rules, the_lemmas)) in
    let has_is : has ≡ has_options (options_view more) =
    ap not c.is_empty-has_additions.ensures ∙ has_more more c.in-Seq.additions.len c.in-Seq.additions.ok.0 in
    let ascending : AreAscending (object_names has members.root root) =
    subst (λ (ps : List Component). AreAscending (object_names has ps root)) c.as_slice-parts.ensures
    (subst (λ (vs : List (Option Value)). AreAscending (object_names has c.as_slice-parts.result.now vs)) c.deref.ensures.value
    (counted c.count_in_order.result _ (c.is_none.ensures ∙ ap not c.if-is_none.false) c.count_in_order.ensures)) in
    let begins : BeginsObject has (added_shown (parts_with of (additions_of members.additions)) (options_view more)) old begun =
    subst (λ (b : Bool). BeginsObject b (added_shown (parts_with of (additions_of members.additions)) (options_view more)) old begun) (sym has_is)
    (subst (λ (cs : List Component). BeginsObject (has_options (options_view more)) (added_shown (parts_with of cs) (options_view more)) old begun)
    c.named.ensures
    (subst (λ (vs : List (Option Value)). BeginsObject (has_options (options_view vs)) (added_shown (parts_with of c.named.result.now) (options_view vs))
    old begun) c.deref-2.ensures.value c.in_ok-begin_object.ensures)) in
    let lists : Lists (listed (parts_with of members.root) (options_view root)) begun mid =
    subst (λ (ps : List Component). Lists (listed (parts_with of ps) (options_view root)) begun mid) c.as_slice-parts.ensures
    (subst (λ (vs : List (Option Value)). Lists (listed (parts_with of c.as_slice-parts.result.now) (options_view vs)) begun mid)
    c.deref-3.ensures.value c.in_ok-write_components.ensures) in
    subst (λ (d : Data). WritesWhole d old c.end_object.new.self)
    (sequence_is of members (options_view root) (options_view more) ∙ ap (shown_as _) (sym seen))
    (in_order_written of members root more has old begun mid c.end_object.new.self has_is ascending begins lists
    (c.in_ok-end_object.ensures.room.0, c.in_ok-end_object.ensures.ok))

pub write_by_name-write_inside-requires : goal.write_by_name-write_inside-requires
write_by_name-write_inside-requires t c =
    let ps : List Component = c.as_slice-parts.result.now in
    let n : ℕ = length c.args.m.now.nodes in
    let inside : AreBelow n ps = subst (λ (cs : List Component). AreBelow n cs) (sym c.as_slice-parts.ensures) c.requires.0 in
    let below : OptionBelow n c.part_type.result =
    subst (λ (x : Option TypeId). OptionBelow n x) (sym c.part_type.ensures) (part_below n c.in-Component.i ps inside) in
    (search (rules, the_lemmas), below)

pub write_by_name-returns : goal.write_by_name-returns
write_by_name-returns t c =
    let of = named c.args.m.now in
    let members : Extensible Component = c.args.members.now in
    let root : List (Option Value) = c.in-Seq.root.items in
    let more : List (Option Value) = c.in-Seq.additions.items in
    let at : ℕ → Data = place_shown of members.root root in
    let ds : Items = added_shown (parts_with of (additions_of members.additions)) (options_view more) in
    let l = c.loop-name in
    let all : c.into_iter-name-iterator.result ≡ c.in_ok-shown.shown.entries = search rules in
    let none : l.name-iterator ≡ [] = c.in-None.ensures.steps.0 in
    let seen : view c.args.value.now ≡ components (options_view root) (options_view more) = rw c.in-Seq.is (search (rules, the_lemmas)) in
    let has_is : not c.is_empty.result ≡ has_options (options_view more) =
    ap not c.is_empty.ensures ∙ has_more more c.in-Seq.additions.len c.in-Seq.additions.ok.0 in
    let places : AreComponents of c.as_slice-parts.result.now c.deref.result.now at =
    subst (λ (ps : List Component). AreComponents of ps c.deref.result.now at) (sym c.as_slice-parts.ensures)
    (subst (λ (vs : List (Option Value)). AreComponents of members.root vs at) (sym c.deref.ensures.value) (places_shown of members.root root)) in
    let whole : object (by_name at ds c.into_iter-name-iterator.result) ≡ sequence_shown of members (options_view root) (options_view more) =
    ap (λ (es : List (Bor Text × Member)). object (by_name at ds es)) all
    ∙ ap object (c.in_ok-shown.ensures.order of ds at places
    ∙ ap (λ (ps : List Component). with_dots (not c.is_empty.result) ds (components_shown (parts_with of ps) (options_view c.deref.result.now)))
    c.as_slice-parts.ensures
    ∙ ap (λ (vs : List (Option Value)). with_dots (not c.is_empty.result) ds (components_shown (parts_with of members.root) (options_view vs)))
    c.deref.ensures.value
    ∙ ap (λ (b : Bool). with_dots b ds (components_shown (parts_with of members.root) (options_view root))) has_is) in
    let left = subst (λ (es : List (Bor Text × Member)). LeavesMembers c.begin_object.new.self (by_name at ds c.into_iter-name-iterator.result) l.out
    (by_name at ds es)) none l.invariant.0 in
    subst (λ (d : Data). WritesWhole d c.args.out.now c.end_object.new.self)
    (whole ∙ sequence_is of members (options_view root) (options_view more) ∙ ap (shown_as _) (sym seen))
    (object_written (by_name at ds c.into_iter-name-iterator.result) c.args.out.now c.begin_object.new.self l.out c.end_object.new.self
    (c.in_ok-begin_object.ensures.room.0, c.in_ok-begin_object.ensures.ok) left
    (c.in_ok-end_object.ensures.room.0, c.in_ok-end_object.ensures.ok))

-- ---- CHOICE
pub write_choice-write_one-requires : goal.write_choice-write_one-requires
write_choice-write_one-requires t c =
    let n : ℕ = length c.args.m.now.nodes in
    let root : List Component = c.as_slice-root.result.now in
    let i : ℕ = c.in-Choice.index in
    let q : Component = c.index-root-index.result in
    let inside : AreBelow n root = subst (λ (cs : List Component). AreBelow n cs) (sym c.as_slice-root.ensures) c.requires.0 in
    let below : q.definition.number < n = below_at n root i q inside c.if-index-root.true c.index-root-index.is in
    (search (rules, the_lemmas), below)

pub write_choice-write_one-requires-then-index-additions : goal.write_choice-write_one-requires-then-index-additions
write_choice-write_one-requires-then-index-additions t c =
    let n : ℕ = length c.args.m.now.nodes in
    let additions : List Component = c.named-additions.result.now in
    let i : ℕ = c.in-Choice.index - length c.as_slice-root.result.now in
    let q : Component = c.index-additions-index.result in
    let inside : AreBelow n additions = subst (λ (cs : List Component). AreBelow n cs) (sym c.named-additions.ensures) c.requires.1 in
    let below : q.definition.number < n = below_at n additions i q inside c.if-index-additions.true c.index-additions-index.is in
    (search (rules, the_lemmas), below)

pub write_choice-returns-then-index-root : goal.write_choice-returns-then-index-root
write_choice-returns-then-index-root t c =
    let of = named c.args.m.now in
    let e : Bool = is_extensible c.args.members.now in
    let root : List Component = c.as_slice-root.result.now in
    let additions : List Component = additions_of c.args.members.now.additions in
    let i : ℕ = c.in-Choice.index in
    let q : Component = c.index-root-index.result in
    let v : SeenValue = view c.deref.result.now in
    let old : Written = c.args.out.now in
    let end : Written = c.write_one.new.out in
    let same : view c.args.value.now ≡ chosen i (view c.in-Choice.body.value) = rw c.in-Choice.is (search (rules, the_lemmas)) in
    let seen : view c.args.value.now ≡ chosen i v = same ∙ ap (λ (y : Value). chosen i (view y)) (sym c.deref.ensures) in
    let whole : one_member q.name (shown_as (of q.definition.number) v) ≡ shown_as _ (view c.args.value.now) =
    root_printed of e root additions i q v c.if-index-root.true c.index-root-index.is
    ∙ ap (λ (cs : List Component). shown_as (choice e (parts_with of cs) (parts_with of additions)) (chosen i v)) c.as_slice-root.ensures
    ∙ ap (shown_as (choice e (parts_with of c.args.members.now.root) (parts_with of additions))) (sym seen) in
    subst (λ (d : Data). OnOk c.write_one.result (WritesWhole d old end)) whole c.write_one.ensures

pub write_choice-returns-then-index-additions : goal.write_choice-returns-then-index-additions
write_choice-returns-then-index-additions t c =
    let of = named c.args.m.now in
    let e : Bool = is_extensible c.args.members.now in
    let root : List Component = c.as_slice-root.result.now in
    let additions : List Component = c.named-additions.result.now in
    let i : ℕ = c.in-Choice.index in
    let q : Component = c.index-additions-index.result in
    let v : SeenValue = view c.deref-then-index-additions.result.now in
    let old : Written = c.args.out.now in
    let end : Written = c.write_one-then-index-additions.new.out in
    let same : view c.args.value.now ≡ chosen i (view c.in-Choice.body.value) = rw c.in-Choice.is (search (rules, the_lemmas)) in
    let seen : view c.args.value.now ≡ chosen i v =
    same ∙ ap (λ (y : Value). chosen i (view y)) (sym c.deref-then-index-additions.ensures) in
    let most : length root ≤ i = omega (arith, c.if-index-root.false) in
    let whole : one_member q.name (shown_as (of q.definition.number) v) ≡ shown_as _ (view c.args.value.now) =
    addition_printed of e root additions i q v most c.if-index-additions.true c.index-additions-index.is
    ∙ ap (λ (cs : List Component). shown_as (choice e (parts_with of cs) (parts_with of additions)) (chosen i v)) c.as_slice-root.ensures
    ∙ ap (λ (cs : List Component). shown_as (choice e (parts_with of c.args.members.now.root) (parts_with of cs)) (chosen i v)) c.named-additions.ensures
    ∙ ap (shown_as (choice e (parts_with of c.args.members.now.root) (parts_with of (additions_of c.args.members.now.additions)))) (sym seen) in
    subst (λ (d : Data). OnOk c.write_one-then-index-additions.result (WritesWhole d old end)) whole c.write_one-then-index-additions.ensures

pub write_choice-returns : goal.write_choice-returns
write_choice-returns t c =
    let of = named c.args.m.now in
    let e : Bool = is_extensible c.args.members.now in
    let root : List Component = c.as_slice-root.result.now in
    let additions : List Component = c.named-additions.result.now in
    let i : ℕ = c.in-Choice.index in
    let v : SeenValue = view c.deref-2.result.now in
    let old : Written = c.args.out.now in
    let end : Written = c.write_past.new.out in
    let same : view c.args.value.now ≡ chosen i (view c.in-Choice.body.value) = rw c.in-Choice.is (search (rules, the_lemmas)) in
    let seen : view c.args.value.now ≡ chosen i v = same ∙ ap (λ (y : Value). chosen i (view y)) (sym c.deref-2.ensures) in
    let most : length root ≤ i = omega (arith, c.if-index-root.false) in
    let past : length additions ≤ i - length root = omega (arith, c.if-index-additions.false) in
    let whole =
    past_printed of e root additions i v most past
    ∙ ap (λ (cs : List Component). shown_as (choice e (parts_with of cs) (parts_with of additions)) (chosen i v)) c.as_slice-root.ensures
    ∙ ap (λ (cs : List Component). shown_as (choice e (parts_with of c.args.members.now.root) (parts_with of cs)) (chosen i v)) c.named-additions.ensures
    ∙ ap (shown_as (choice e (parts_with of c.args.members.now.root) (parts_with of (additions_of c.args.members.now.additions)))) (sym seen) in
    subst (λ (d : Data). OnOk c.write_past.result (WritesWhole d old end)) whole c.write_past.ensures

-- ---- information elements
pub write_element-write_inside-requires : goal.write_element-write_inside-requires
write_element-write_inside-requires t c =
    let n : ℕ = length c.args.m.now.nodes in
    let below : OptionBelow n c.row_type-definition.result =
    body_below (tree c.args.m.now) n c.args.ie.now.id c.args.rows.now c.row_type-definition.result c.requires c.row_type-definition.ensures in
    (search (rules, the_lemmas), below)

pub write_element-returns : goal.write_element-returns
write_element-returns t c =
    let of = named c.args.m.now in
    let rows : List IeRow = c.args.rows.now in
    let e : Element Value = c.args.ie.now in
    let v : SeenValue = view e.body in
    let id : Option TypeId = c.row_type-definition.result in
    let old : Written = c.args.out.now in
    let end : Written = c.end_object.new.self in
    let all : contents_as c.is_some.result (inside_shown of id v) ≡ row_shown (rows_with of rows) e.id v =
    ap (λ (b : Bool). contents_as b (inside_shown of id v)) c.is_some.ensures
    ∙ ap (λ (o : Option TypeId). contents_as (is_some o) (inside_shown of o v)) c.row_type-definition.ensures
    ∙ sym (row_is of rows e.id v) in
    let fits : c.from.result < 2 ^ 64 = search rules in
    subst (λ (ms : Members). WritesWhole (body_shown id_key e.id e.criticality ms) old end) all
    (subst (λ (n : ℕ). WritesWhole (body_shown id_key n e.criticality (contents_as c.is_some.result (inside_shown of id v))) old end) c.from.ensures
    (body_written id_key c.from.result e.criticality c.is_some.result (inside_shown of id v) old c.begin_body.new.out c.write_inside.new.out end fits
    c.in_ok-begin_body.ensures c.in_ok-write_inside.ensures (c.in_ok-end_object.ensures.room.0, c.in_ok-end_object.ensures.ok)))

-- ---- messages
pub write_message-write_inside-requires : goal.write_message-write_inside-requires
write_message-write_inside-requires t c =
    let n : ℕ = length c.args.m.now.nodes in
    let below : OptionBelow n c.message_type-definition.result =
    messages_below n c.in-Pdu.outcome c.in-Pdu.code c.args.rows.now c.message_type-definition.result c.requires c.message_type-definition.ensures in
    (search (rules, the_lemmas), below)

pub write_message-returns : goal.write_message-returns
write_message-returns t c =
    let of = named c.args.m.now in
    let rows : List ProcedureRow = c.args.rows.now in
    let outcome : ℕ = c.in-Pdu.outcome in
    let code : ℕ = c.in-Pdu.code in
    let criticality : ℕ = c.in-Pdu.criticality in
    let v : SeenValue = view c.deref-2.result.now in
    let id : Option TypeId = c.message_type-definition.result in
    let d : Data = inside_shown of id v in
    let named : Written = c.write_outcome.new.out in
    let inner : Written = c.end_object.new.self in
    let same : view c.args.value.now ≡ message outcome code criticality (view c.in-Pdu.body.value) =
    rw c.in-Pdu.is (search (rules, the_lemmas)) in
    let seen : view c.args.value.now ≡ message outcome code criticality v =
    same ∙ ap (λ (y : Value). message outcome code criticality (view y)) (sym c.deref-2.ensures) in
    let all : contents_as c.is_some.result d ≡ contents_shown (procedures_with of rows) outcome code v =
    ap (λ (b : Bool). contents_as b d) c.is_some.ensures
    ∙ ap (λ (o : Option TypeId). contents_as (is_some o) (inside_shown of o v)) c.message_type-definition.ensures
    ∙ sym (body_is of rows outcome code v) in
    let known : nat_lt outcome 3 ≡ true = is_less outcome 3 (omega (arith, c.if-outcome-ge3.false)) in
    let fits : c.from-2.result < 2 ^ 64 = search rules in
    let body : WritesWhole (body_shown code_key code criticality (contents_shown (procedures_with of rows) outcome code v)) named inner =
    subst (λ (ms : Members). WritesWhole (body_shown code_key code criticality ms) named inner) all
    (subst (λ (n : ℕ). WritesWhole (body_shown code_key n criticality (contents_as c.is_some.result d)) named inner) c.from-2.ensures
    (body_written code_key c.from-2.result criticality c.is_some.result d named c.begin_body.new.out c.write_inside.new.out inner fits
    c.in_ok-begin_body.ensures c.in_ok-write_inside.ensures (c.in_ok-end_object.ensures.room.0, c.in_ok-end_object.ensures.ok))) in
    let whole = message_printed (procedures_with of rows) outcome code criticality v known ∙ ap (shown_as _) (sym seen) in
    subst (λ (x : Data). WritesWhole x c.args.out.now c.end_object-2.new.self) whole
    (one_written (name_at outcomes outcome) (body_shown code_key code criticality (contents_shown (procedures_with of rows) outcome code v))
    c.args.out.now c.begin_object.new.self named inner c.end_object-2.new.self
    (c.in_ok-begin_object.ensures.room.0, c.in_ok-begin_object.ensures.ok) c.in_ok-write_outcome.ensures body
    (c.in_ok-end_object-2.ensures.room.0, c.in_ok-end_object-2.ensures.ok))
