use Rattle.std.proofs.Common.{rules, ◌≡◌, ℕ, ◌+◌, ◌-◌, ◌<◌, ◌≤◌, length, drop, get_or, Bool, true, false, List, ◌∷◌, Option, Some, None, is_some, refl, sym, ap, subst, ◌∙◌, arith}
use Rattle.std.proofs.lemmas.List.{drop_all}
use Rattle.std.specs.Prelude.{ℤ}
use Rattle.std.specs.Int.{cast_signed, cast_unsigned, w128}
use Rattle.asn1_syntax.specs.declared.types.definition.TypeId.{TypeId}
use Rattle.asn1_syntax.specs.declared.types.definition.Component.{Component}
use Rattle.asn1_syntax.specs.declared.types.definition.Extensible.{Extensible}
use Rattle.asn1_syntax.specs.types.Members.{additions_of}
use Rattle.asn1_syntax.specs.declared.assignments.assignment.IeRow.{IeRow}
use Rattle.asn1_syntax.specs.declared.assignments.assignment.ProcedureRow.{ProcedureRow}
use Rattle.asn1_defs.specs.Links.{AreBelow, OptionBelow}
use Rattle.aper_defs.specs.Trees.{Tree, integer, choice, sequence_of, container, slots, has_slot, mandatory_count}
use Rattle.aper_defs.specs.Values.{Value as SeenValue, components, chosen, list, elements, message, has_options}
use Rattle.aper_defs.specs.Parts.{extension_fields}
use Rattle.aper_defs.specs.Layouts.{mark_fields}
use Rattle.aper_defs.specs.Membership.{AreAdditions}
use Rattle.proof_aper.proofs.answers.NumberFacts.{not_below}
use Rattle.aper_values.specs.declared.types.form.Form.{Form}
use Rattle.aper_values.specs.types.Forms.{form_tree}
use Rattle.aper_values.specs.types.Types.{tree, parts_of, rows_of, is_extensible, choice_tree}
use Rattle.aper_values.specs.declared.value.Value.{Value, the_lemmas}
use Rattle.aper_values.specs.declared.value.Element.{Element}
use Rattle.aper_values.specs.Views.{view, values_view, options_view, ies_view}
use Rattle.aper_fields.specs.widths.Ends.{passed, Ends}
use Rattle.aper_fields.specs.members.Rows.{row_type, part_type}
use Rattle.aper_fields.proofs.members.MessageLemmas.{messages_below}
use Rattle.aper_fields.proofs.members.RowLemmas.{body_below}
use Rattle.aper_fields.proofs.members.Turns.{item_at, below_at}
use Rattle.aper.specs.measuring.Heads.{optional_count}
use Rattle.aper.specs.measuring.Order.{LeavesRows}
use Rattle.aper.specs.measuring.Measured.{ValueMeasured, InsideMeasured, ComponentsMeasured, AdditionsMeasured, MembersMeasured, ElementsMeasured}
use Rattle.aper.proofs.measuring.OrderLemmas.{known_row}
use Rattle.aper.proofs.measures.Turns.{open_measured, sequence_measured, member_next, member_wrong, members_none}
use Rattle.aper.proofs.measures.Bodies.{index_wrong, root_chosen}
use Rattle.aper.proofs.measures.Elements.{elements_none, elements_missing, criticality_wrong, order_wrong, body_wrong, element_measured, count_wrong}
use Rattle.aper_fields.proofs.members.Members.{elements_count, part_below}
use Rattle.aper.proofs.measures.Parts.{counts_differ, components_absent, components_missing, component_turn, component_refused, components_end, additions_absent, addition_turn, addition_refused, additions_end, addition_chosen}
use Rattle.aper.proofs.measures.Wholes.{measured_as, list_told, list_refused, container_told, message_told, past_told}
use Rattle.aper.proofs.value_checks.values.+measure.Goals as goal

pub additions_end-loop-i-preserved-in_default : goal.additions_end-loop-i-preserved-in_default
additions_end-loop-i-preserved-in_default t c =
    let l = c.loop-i in
    let of = tree c.args.m.now in
    let ps : List Component = c.args.parts.now in
    let vs : List (Option Value) = c.args.additions.now in
    let value : drop l.i vs ≡ None ∷ drop (l.i + 1) vs =
    item_at vs l.i c.index-additions-i.result c.loop-i-test.true c.index-additions-i.is ∙ ap (λ (y : Option Value). y ∷ drop (l.i + 1) vs) c.in_default.is in
    λ r more. l.invariant r (subst (λ (ws : List (Option Value)). AdditionsMeasured of (drop l.i ps) ws l.place r) (sym value)
    (additions_absent of ps l.i (drop (l.i + 1) vs) l.place r more))

pub additions_end-inside_end-requires : goal.additions_end-inside_end-requires
additions_end-inside_end-requires t c =
    let ps : List Component = c.args.parts.now in
    let below : OptionBelow (length c.args.m.now.nodes) c.part_type.result =
    subst (λ (x : Option TypeId). OptionBelow (length c.args.m.now.nodes) x) (sym c.part_type.ensures)
    (part_below (length c.args.m.now.nodes) c.loop-i.i ps c.requires) in
    (search (rules, the_lemmas), below)

pub additions_end-returns-in_err-place : goal.additions_end-returns-in_err-place
additions_end-returns-in_err-place t c =
    let l = c.loop-i in
    let of = tree c.args.m.now in
    let ps : List Component = c.args.parts.now in
    let vs : List (Option Value) = c.args.additions.now in
    let v : Value = c.in-Some.addition in
    let value : drop l.i vs ≡ Some v ∷ drop (l.i + 1) vs =
    item_at vs l.i c.index-additions-i.result c.loop-i-test.true c.index-additions-i.is ∙ ap (λ (y : Option Value). y ∷ drop (l.i + 1) vs) c.in-Some.is in
    let refused : InsideMeasured of (part_type l.i ps) (view v) l.place None =
    subst (λ (x : Option TypeId). InsideMeasured of x (view v) l.place None) c.part_type.ensures (c.in_err-place.ensures {u = tt}) in
    subst (λ (r : Option ℕ). AdditionsMeasured of ps vs c.args.place r) (sym c.from_residual.ensures)
    (l.invariant None (subst (λ (ws : List (Option Value)). AdditionsMeasured of (drop l.i ps) ws l.place None) (sym value)
    (addition_refused of ps l.i v (drop (l.i + 1) vs) l.place refused)))

pub additions_end-loop-i-preserved : goal.additions_end-loop-i-preserved
additions_end-loop-i-preserved t c =
    let l = c.loop-i in
    let of = tree c.args.m.now in
    let ps : List Component = c.args.parts.now in
    let vs : List (Option Value) = c.args.additions.now in
    let v : Value = c.in-Some.addition in
    let mid : ℕ = c.in_ok-place.place in
    let value : drop l.i vs ≡ Some v ∷ drop (l.i + 1) vs =
    item_at vs l.i c.index-additions-i.result c.loop-i-test.true c.index-additions-i.is ∙ ap (λ (y : Option Value). y ∷ drop (l.i + 1) vs) c.in-Some.is in
    let here : InsideMeasured of (part_type l.i ps) (view v) l.place (Some mid) =
    subst (λ (x : Option TypeId). InsideMeasured of x (view v) l.place (Some mid)) c.part_type.ensures (c.in_ok-place.ensures {u = tt}) in
    λ r more. l.invariant r (subst (λ (ws : List (Option Value)). AdditionsMeasured of (drop l.i ps) ws l.place r) (sym value)
    (addition_turn of ps l.i v (drop (l.i + 1) vs) l.place mid r here more))

pub additions_end-returns : goal.additions_end-returns
additions_end-returns t c =
    let l = c.loop-i in
    l.invariant (Some l.place) (additions_end (tree c.args.m.now) c.args.parts.now l.i c.args.additions.now l.place c.loop-i-test.false)

pub choice_end-returns-then-not-is_index_of : goal.choice_end-returns-then-not-is_index_of
choice_end-returns-then-not-is_index_of t c =
    let of = tree c.args.m.now in
    let members : Extensible Component = c.args.members.now in
    let root : List Component = c.as_slice-root.result.now in
    let e : Bool = c.is_some-is_extensible.result in
    let i : ℕ = c.in-Choice.index in
    let additions : List Component = additions_of members.additions in
    let type : choice_tree of members ≡ choice e (parts_of of root) (parts_of of additions) =
    ap (λ (b : Bool). choice b (parts_of of members.root) (parts_of of (additions_of members.additions))) (sym c.is_some-is_extensible.ensures)
    ∙ ap (λ (cs : List Component). choice e (parts_of of cs) (parts_of of (additions_of members.additions))) (sym c.as_slice-root.ensures) in
    let seen : view c.args.value.now ≡ chosen i (view c.in-Choice.body.value) = rw c.in-Choice.is (search (rules, the_lemmas)) in
    measured_as _ _ _ _ c.args.place None type seen
    (index_wrong of e root additions i (view c.in-Choice.body.value) c.args.place (sym c.is_index_of.ensures ∙ c.if-not-is_index_of.true))

pub choice_end-value_end-requires : goal.choice_end-value_end-requires
choice_end-value_end-requires t c =
    let root : List Component = c.as_slice-root.result.now in
    let i : ℕ = c.in-Choice.index in
    let q : Component = c.index-root-index.result in
    let inside : AreBelow (length c.args.m.now.nodes) root =
    subst (λ (cs : List Component). AreBelow (length c.args.m.now.nodes) cs) (sym c.as_slice-root.ensures) c.requires.0 in
    let below : (get_or root i q).definition.number < length c.args.m.now.nodes =
    subst (λ (y : Component). y.definition.number < length c.args.m.now.nodes) c.index-root-index.is
    (below_at (length c.args.m.now.nodes) root i q inside c.if-index-root.true c.index-root-index.is) in
    (search (rules, the_lemmas), below)

pub choice_end-returns-then-index-root : goal.choice_end-returns-then-index-root
choice_end-returns-then-index-root t c =
    let of = tree c.args.m.now in
    let members : Extensible Component = c.args.members.now in
    let root : List Component = c.as_slice-root.result.now in
    let e : Bool = c.is_some-is_extensible.result in
    let i : ℕ = c.in-Choice.index in
    let begin : ℕ = c.after_index-begin.result in
    let result : Option ℕ = c.value_end.result in
    let additions : List Component = additions_of members.additions in
    let type : choice_tree of members ≡ choice e (parts_of of root) (parts_of of additions) =
    ap (λ (b : Bool). choice b (parts_of of members.root) (parts_of of (additions_of members.additions))) (sym c.is_some-is_extensible.ensures)
    ∙ ap (λ (cs : List Component). choice e (parts_of of cs) (parts_of of (additions_of members.additions))) (sym c.as_slice-root.ensures) in
    let v : SeenValue = view c.deref.result.now in
    let same : view c.args.value.now ≡ chosen i (view c.in-Choice.body.value) = rw c.in-Choice.is (search (rules, the_lemmas)) in
    let seen : view c.args.value.now ≡ chosen i v = same ∙ ap (λ (y : Value). chosen i (view y)) (sym c.deref.ensures) in
    let q : Component = c.index-root-index.result in
    let here : ValueMeasured (of q.definition.number) v begin result =
    subst (λ (y : Component). ValueMeasured (of y.definition.number) v begin result) (sym c.index-root-index.is) c.value_end.ensures in
    measured_as _ _ _ _ c.args.place result type seen
    (root_chosen of e root additions i v c.args.place begin result q c.if-index-root.true c.index-root-index.is
    (sym c.is_index_of.ensures ∙ c.if-not-is_index_of.false) c.after_index-begin.ensures here)

pub choice_end-inside_end-requires : goal.choice_end-inside_end-requires
choice_end-inside_end-requires t c =
    let root : List Component = c.as_slice-root.result.now in
    let additions : List Component = c.named.result.now in
    let inside : AreBelow (length c.args.m.now.nodes) additions =
    subst (λ (cs : List Component). AreBelow (length c.args.m.now.nodes) cs) (sym c.named.ensures) c.requires.1 in
    let below : OptionBelow (length c.args.m.now.nodes) c.part_type-addition.result =
    subst (λ (x : Option TypeId). OptionBelow (length c.args.m.now.nodes) x) (sym c.part_type-addition.ensures)
    (part_below (length c.args.m.now.nodes) (c.in-Choice.index - length root) additions inside) in
    (search (rules, the_lemmas), below)

pub choice_end-returns : goal.choice_end-returns
choice_end-returns t c =
    let of = tree c.args.m.now in
    let members : Extensible Component = c.args.members.now in
    let root : List Component = c.as_slice-root.result.now in
    let e : Bool = c.is_some-is_extensible.result in
    let i : ℕ = c.in-Choice.index in
    let begin : ℕ = c.after_index-begin.result in
    let result : Option ℕ = c.inside_end.result in
    let additions : List Component = c.named.result.now in
    let type : choice_tree of members ≡ choice e (parts_of of root) (parts_of of additions) =
    ap (λ (b : Bool). choice b (parts_of of members.root) (parts_of of (additions_of members.additions))) (sym c.is_some-is_extensible.ensures)
    ∙ ap (λ (cs : List Component). choice e (parts_of of cs) (parts_of of (additions_of members.additions))) (sym c.as_slice-root.ensures)
    ∙ ap (λ (cs : List Component). choice e (parts_of of root) (parts_of of cs)) (sym c.named.ensures) in
    let v : SeenValue = view c.deref-2.result.now in
    let same : view c.args.value.now ≡ chosen i (view c.in-Choice.body.value) = rw c.in-Choice.is (search (rules, the_lemmas)) in
    let seen : view c.args.value.now ≡ chosen i v = same ∙ ap (λ (y : Value). chosen i (view y)) (sym c.deref-2.ensures) in
    let past : length root ≤ i = omega arith in
    let here : InsideMeasured of (part_type (i - length root) additions) v begin result =
    subst (λ (x : Option TypeId). InsideMeasured of x v begin result) c.part_type-addition.ensures c.inside_end.ensures in
    measured_as _ _ _ _ c.args.place result type seen
    (addition_chosen of e root additions i v c.args.place begin result past (sym c.is_index_of.ensures ∙ c.if-not-is_index_of.false)
    c.after_index-begin.ensures here)

pub components_end-returns-then-parts-values : goal.components_end-returns-then-parts-values
components_end-returns-then-parts-values t c =
    counts_differ (tree c.args.m.now) c.args.parts.now c.args.values.now c.args.place c.if-parts-values.true

pub components_end-returns-then-not-parts-i : goal.components_end-returns-then-not-parts-i
components_end-returns-then-not-parts-i t c =
    let l = c.loop-i in
    let of = tree c.args.m.now in
    let ps : List Component = c.args.parts.now in
    let vs : List (Option Value) = c.args.values.now in
    let value : drop l.i vs ≡ None ∷ drop (l.i + 1) vs =
    item_at vs l.i c.index-values-i.result c.loop-i-test.true c.index-values-i.is ∙ ap (λ (y : Option Value). y ∷ drop (l.i + 1) vs) c.in_default.is in
    let less : l.i < length ps = omega arith in
    let q : Component = c.index-parts-i.result in
    let needed : q.optional ≡ false = subst (λ (y : Component). y.optional ≡ false) (sym c.index-parts-i.is) c.if-not-parts-i.true in
    l.invariant None (subst (λ (ws : List (Option Value)). ComponentsMeasured of (drop l.i ps) ws l.place None) (sym value)
    (components_missing of ps l.i q less c.index-parts-i.is (drop (l.i + 1) vs) l.place needed))

pub components_end-loop-i-preserved-in_default : goal.components_end-loop-i-preserved-in_default
components_end-loop-i-preserved-in_default t c =
    let l = c.loop-i in
    let of = tree c.args.m.now in
    let ps : List Component = c.args.parts.now in
    let vs : List (Option Value) = c.args.values.now in
    let value : drop l.i vs ≡ None ∷ drop (l.i + 1) vs =
    item_at vs l.i c.index-values-i.result c.loop-i-test.true c.index-values-i.is ∙ ap (λ (y : Option Value). y ∷ drop (l.i + 1) vs) c.in_default.is in
    let less : l.i < length ps = omega arith in
    let q : Component = c.index-parts-i.result in
    let may : q.optional ≡ true = subst (λ (y : Component). y.optional ≡ true) (sym c.index-parts-i.is) c.if-not-parts-i.false in
    λ r more. l.invariant r (subst (λ (ws : List (Option Value)). ComponentsMeasured of (drop l.i ps) ws l.place r) (sym value)
    (components_absent of ps l.i q less c.index-parts-i.is (drop (l.i + 1) vs) l.place r may more))

pub components_end-value_end-requires : goal.components_end-value_end-requires
components_end-value_end-requires t c =
    let l = c.loop-i in
    let ps : List Component = c.args.parts.now in
    let less : l.i < length ps = omega arith in
    let q : Component = c.index-parts-i-in-loop-i.result in
    let below : (get_or ps l.i q).definition.number < length c.args.m.now.nodes =
    subst (λ (y : Component). y.definition.number < length c.args.m.now.nodes) c.index-parts-i-in-loop-i.is
    (below_at (length c.args.m.now.nodes) ps l.i q c.requires less c.index-parts-i-in-loop-i.is) in
    (search (rules, the_lemmas), below)

pub components_end-returns-in_err-place : goal.components_end-returns-in_err-place
components_end-returns-in_err-place t c =
    let l = c.loop-i in
    let of = tree c.args.m.now in
    let ps : List Component = c.args.parts.now in
    let vs : List (Option Value) = c.args.values.now in
    let v : Value = c.in-Some.value in
    let value : drop l.i vs ≡ Some v ∷ drop (l.i + 1) vs =
    item_at vs l.i c.index-values-i.result c.loop-i-test.true c.index-values-i.is ∙ ap (λ (y : Option Value). y ∷ drop (l.i + 1) vs) c.in-Some.is in
    let less : l.i < length ps = omega arith in
    let q : Component = c.index-parts-i-in-loop-i.result in
    let refused : ValueMeasured (of q.definition.number) (view v) l.place None =
    subst (λ (y : Component). ValueMeasured (of y.definition.number) (view v) l.place None) (sym c.index-parts-i-in-loop-i.is)
    (c.in_err-place.ensures {u = tt}) in
    subst (λ (r : Option ℕ). ComponentsMeasured of ps vs c.args.place r) (sym c.from_residual.ensures)
    (l.invariant None (subst (λ (ws : List (Option Value)). ComponentsMeasured of (drop l.i ps) ws l.place None) (sym value)
    (component_refused of ps l.i q less c.index-parts-i-in-loop-i.is v (drop (l.i + 1) vs) l.place refused)))

pub components_end-loop-i-preserved : goal.components_end-loop-i-preserved
components_end-loop-i-preserved t c =
    let l = c.loop-i in
    let of = tree c.args.m.now in
    let ps : List Component = c.args.parts.now in
    let vs : List (Option Value) = c.args.values.now in
    let v : Value = c.in-Some.value in
    let mid : ℕ = c.in_ok-place.place in
    let value : drop l.i vs ≡ Some v ∷ drop (l.i + 1) vs =
    item_at vs l.i c.index-values-i.result c.loop-i-test.true c.index-values-i.is ∙ ap (λ (y : Option Value). y ∷ drop (l.i + 1) vs) c.in-Some.is in
    let less : l.i < length ps = omega arith in
    let q : Component = c.index-parts-i-in-loop-i.result in
    let here : ValueMeasured (of q.definition.number) (view v) l.place (Some mid) =
    subst (λ (y : Component). ValueMeasured (of y.definition.number) (view v) l.place (Some mid)) (sym c.index-parts-i-in-loop-i.is)
    (c.in_ok-place.ensures {u = tt}) in
    λ r more. l.invariant r (subst (λ (ws : List (Option Value)). ComponentsMeasured of (drop l.i ps) ws l.place r) (sym value)
    (component_turn of ps l.i q less c.index-parts-i-in-loop-i.is v (drop (l.i + 1) vs) l.place mid r here more))

pub components_end-returns : goal.components_end-returns
components_end-returns t c =
    let l = c.loop-i in
    l.invariant (Some l.place)
    (components_end (tree c.args.m.now) c.args.parts.now c.args.values.now l.i l.place c.if-parts-values.false c.loop-i-test.false)

pub container_end-returns-then-len-ge65536 : goal.container_end-returns-then-len-ge65536
container_end-returns-then-len-ge65536 t c =
    let of = tree c.args.m.now in
    let rows : List IeRow = c.args.rows.now in
    let es : List (Element Value) = c.in-Ies.ies.items in
    let seen : view c.args.value.now ≡ elements (ies_view es) = rw c.in-Ies.is (search (rules, the_lemmas)) in
    measured_as _ _ _ _ c.args.place None refl seen
    (count_wrong of rows (ies_view es) c.args.place
    (omega (arith, c.if-len-ge65536.true, elements_count es, c.len.ensures, c.in-Ies.ies.ok.0)))

pub container_end-returns-then-ie-gt2 : goal.container_end-returns-then-ie-gt2
container_end-returns-then-ie-gt2 t c =
    let l = c.loop-ie in
    let of = tree c.args.m.now in
    let rows : List IeRow = c.args.rows.now in
    let es : List (Element Value) = c.in-Ies.ies.items in
    let fs : List (Element Value) = c.deref-ie-items.result.now in
    let seen : view c.args.value.now ≡ elements (ies_view es) = rw c.in-Ies.is (search (rules, the_lemmas)) in
    let e : Element Value = c.ie-item.result in
    let item : drop l.ie-index fs ≡ e ∷ drop (l.ie-index + 1) fs = item_at fs l.ie-index e c.loop-ie-test.true c.ie-item.is in
    let all : ElementsMeasured of rows rows es c.passed-place.result None =
    subst (λ (gs : List (Element Value)). ElementsMeasured of rows rows gs c.passed-place.result None) c.deref-ie-items.ensures.value
    (l.invariant None (subst (λ (gs : List (Element Value)). ElementsMeasured of rows l.left.now gs l.place None) (sym item)
    (criticality_wrong of rows l.left.now e (drop (l.ie-index + 1) fs) l.place c.if-ie-gt2.true))) in
    measured_as _ _ _ _ c.args.place None refl seen
    (container_told of rows es c.len.result c.args.place c.padded.result c.passed-place.result None (c.len.ensures ∙ c.in-Ies.ies.ok.0)
    c.if-len-ge65536.false c.padded.ensures c.passed-place.ensures all)

pub container_end-returns-in_err-left : goal.container_end-returns-in_err-left
container_end-returns-in_err-left t c =
    let l = c.loop-ie in
    let of = tree c.args.m.now in
    let rows : List IeRow = c.args.rows.now in
    let es : List (Element Value) = c.in-Ies.ies.items in
    let fs : List (Element Value) = c.deref-ie-items.result.now in
    let seen : view c.args.value.now ≡ elements (ies_view es) = rw c.in-Ies.is (search (rules, the_lemmas)) in
    let e : Element Value = c.ie-item.result in
    let item : drop l.ie-index fs ≡ e ∷ drop (l.ie-index + 1) fs = item_at fs l.ie-index e c.loop-ie-test.true c.ie-item.is in
    let known : has_slot e.id (slots (rows_of of rows)) ≡ c.is_some.result =
    known_row of e.id rows ∙ sym (ap (λ (x : Option TypeId). is_some x) c.row_type-definition.ensures) ∙ sym c.is_some.ensures in
    let late : LeavesRows (slots (rows_of of rows)) e.id (slots (rows_of of l.left.now)) None =
    c.in_err-left.ensures {u = tt} of (slots (rows_of of rows)) known in
    let all : ElementsMeasured of rows rows es c.passed-place.result None =
    subst (λ (gs : List (Element Value)). ElementsMeasured of rows rows gs c.passed-place.result None) c.deref-ie-items.ensures.value
    (l.invariant None (subst (λ (gs : List (Element Value)). ElementsMeasured of rows l.left.now gs l.place None) (sym item)
    (order_wrong of rows l.left.now e (drop (l.ie-index + 1) fs) l.place late))) in
    subst (λ (r : Option ℕ). ValueMeasured (container (rows_of of rows)) (view c.args.value.now) c.args.place r) (sym c.from_residual.ensures)
    (measured_as _ _ _ _ c.args.place None refl seen
    (container_told of rows es c.len.result c.args.place c.padded.result c.passed-place.result None (c.len.ensures ∙ c.in-Ies.ies.ok.0)
    c.if-len-ge65536.false c.padded.ensures c.passed-place.ensures all))

pub container_end-inside_end-requires : goal.container_end-inside_end-requires
container_end-inside_end-requires t c =
    let of = tree c.args.m.now in
    let below : OptionBelow (length c.args.m.now.nodes) c.row_type-definition.result =
    body_below of (length c.args.m.now.nodes) c.ie-item.result.id c.args.rows.now c.row_type-definition.result c.requires
    c.row_type-definition.ensures in
    (search (rules, the_lemmas), below)

pub container_end-returns-in_err-place : goal.container_end-returns-in_err-place
container_end-returns-in_err-place t c =
    let l = c.loop-ie in
    let of = tree c.args.m.now in
    let rows : List IeRow = c.args.rows.now in
    let es : List (Element Value) = c.in-Ies.ies.items in
    let fs : List (Element Value) = c.deref-ie-items.result.now in
    let seen : view c.args.value.now ≡ elements (ies_view es) = rw c.in-Ies.is (search (rules, the_lemmas)) in
    let e : Element Value = c.ie-item.result in
    let item : drop l.ie-index fs ≡ e ∷ drop (l.ie-index + 1) fs = item_at fs l.ie-index e c.loop-ie-test.true c.ie-item.is in
    let refused : InsideMeasured of (row_type e.id rows) (view e.body) c.passed.result None =
    subst (λ (x : Option TypeId). InsideMeasured of x (view e.body) c.passed.result None) c.row_type-definition.ensures
    (c.in_err-place.ensures {u = tt}) in
    let all : ElementsMeasured of rows rows es c.passed-place.result None =
    subst (λ (gs : List (Element Value)). ElementsMeasured of rows rows gs c.passed-place.result None) c.deref-ie-items.ensures.value
    (l.invariant None (subst (λ (gs : List (Element Value)). ElementsMeasured of rows l.left.now gs l.place None) (sym item)
    (body_wrong of rows l.left.now e (drop (l.ie-index + 1) fs) l.place c.passed.result refused))) in
    subst (λ (r : Option ℕ). ValueMeasured (container (rows_of of rows)) (view c.args.value.now) c.args.place r)
    (sym c.from_residual-in_err-place.ensures)
    (measured_as _ _ _ _ c.args.place None refl seen
    (container_told of rows es c.len.result c.args.place c.padded.result c.passed-place.result None (c.len.ensures ∙ c.in-Ies.ies.ok.0)
    c.if-len-ge65536.false c.padded.ensures c.passed-place.ensures all))

pub container_end-loop-ie-preserved : goal.container_end-loop-ie-preserved
container_end-loop-ie-preserved t c =
    let l = c.loop-ie in
    let of = tree c.args.m.now in
    let rows : List IeRow = c.args.rows.now in
    let fs : List (Element Value) = c.deref-ie-items.result.now in
    let e : Element Value = c.ie-item.result in
    let mid : ℕ = c.in_ok-place.place in
    let next : List IeRow = c.in_ok-left.left.now in
    let item : drop l.ie-index fs ≡ e ∷ drop (l.ie-index + 1) fs = item_at fs l.ie-index e c.loop-ie-test.true c.ie-item.is in
    let known : has_slot e.id (slots (rows_of of rows)) ≡ c.is_some.result =
    known_row of e.id rows ∙ sym (ap (λ (x : Option TypeId). is_some x) c.row_type-definition.ensures) ∙ sym c.is_some.ensures in
    let leaves : LeavesRows (slots (rows_of of rows)) e.id (slots (rows_of of l.left.now)) (Some (slots (rows_of of next))) =
    c.in_ok-left.ensures {u = tt} of (slots (rows_of of rows)) known in
    let begin : c.passed.result ≡ passed (passed l.place _) 18 =
    c.passed.ensures ∙ ap (λ (n : ℕ). passed n 18) c.padded-in-loop-ie.ensures in
    let here : InsideMeasured of (row_type e.id rows) (view e.body) (passed (passed l.place _) 18) (Some mid) =
    subst (λ (n : ℕ). InsideMeasured of (row_type e.id rows) (view e.body) n (Some mid)) begin
    (subst (λ (x : Option TypeId). InsideMeasured of x (view e.body) c.passed.result (Some mid)) c.row_type-definition.ensures
    (c.in_ok-place.ensures {u = tt})) in
    let small : e.id < 65536 = omega arith in
    λ r more. l.invariant r (subst (λ (gs : List (Element Value)). ElementsMeasured of rows l.left.now gs l.place r) (sym item)
    (element_measured of rows l.left.now e (drop (l.ie-index + 1) fs) next l.place mid r small c.if-ie-gt2.false leaves here more))

pub container_end-returns-then-has_mandatory : goal.container_end-returns-then-has_mandatory
container_end-returns-then-has_mandatory t c =
    let l = c.loop-ie in
    let of = tree c.args.m.now in
    let rows : List IeRow = c.args.rows.now in
    let es : List (Element Value) = c.in-Ies.ies.items in
    let fs : List (Element Value) = c.deref-ie-items.result.now in
    let seen : view c.args.value.now ≡ elements (ies_view es) = rw c.in-Ies.is (search (rules, the_lemmas)) in
    let all : ElementsMeasured of rows rows es c.passed-place.result None =
    subst (λ (gs : List (Element Value)). ElementsMeasured of rows rows gs c.passed-place.result None) c.deref-ie-items.ensures.value
    (l.invariant None (subst (λ (gs : List (Element Value)). ElementsMeasured of rows l.left.now gs l.place None)
    (sym (drop_all l.ie-index fs c.loop-ie-test.false))
    (elements_missing of rows l.left.now l.place (sym (c.has_mandatory.ensures of) ∙ c.if-has_mandatory.true)))) in
    measured_as _ _ _ _ c.args.place None refl seen
    (container_told of rows es c.len.result c.args.place c.padded.result c.passed-place.result None (c.len.ensures ∙ c.in-Ies.ies.ok.0)
    c.if-len-ge65536.false c.padded.ensures c.passed-place.ensures all)

pub container_end-returns : goal.container_end-returns
container_end-returns t c =
    let l = c.loop-ie in
    let of = tree c.args.m.now in
    let rows : List IeRow = c.args.rows.now in
    let es : List (Element Value) = c.in-Ies.ies.items in
    let fs : List (Element Value) = c.deref-ie-items.result.now in
    let seen : view c.args.value.now ≡ elements (ies_view es) = rw c.in-Ies.is (search (rules, the_lemmas)) in
    let left : ℕ = mandatory_count (slots (rows_of of l.left.now)) in
    let none : left ≤ 0 = not_below 0 left (sym (c.has_mandatory.ensures of) ∙ c.if-has_mandatory.false) in
    let all : ElementsMeasured of rows rows es c.passed-place.result (Some l.place) =
    subst (λ (gs : List (Element Value)). ElementsMeasured of rows rows gs c.passed-place.result (Some l.place)) c.deref-ie-items.ensures.value
    (l.invariant (Some l.place) (subst (λ (gs : List (Element Value)). ElementsMeasured of rows l.left.now gs l.place (Some l.place))
    (sym (drop_all l.ie-index fs c.loop-ie-test.false))
    (elements_none of rows l.left.now l.place (omega (arith, none))))) in
    measured_as _ _ _ _ c.args.place (Some l.place) refl seen
    (container_told of rows es c.len.result c.args.place c.padded.result c.passed-place.result (Some l.place) (c.len.ensures ∙ c.in-Ies.ies.ok.0)
    c.if-len-ge65536.false c.padded.ensures c.passed-place.ensures all)

pub form_end-returns-in-Integer : goal.form_end-returns-in-Integer
form_end-returns-in-Integer t c =
    let of = tree c.args.m.now in
    let v : SeenValue = view c.args.value.now in
    let i = c.in-Integer in
    let result : Option ℕ = c.integer_end.result in
    let low : cast_signed w128 (cast_unsigned w128 i.low) ≡ i.low = search rules in
    let high : cast_signed w128 (cast_unsigned w128 i.high) ≡ i.high = search rules in
    let type : form_tree of c.args.form ≡ integer i.low i.high i.extensible = ap (λ (f : Form). form_tree of f) i.is in
    measured_as _ _ v v c.args.place result type refl
    (subst (λ (z : ℤ). ValueMeasured (integer i.low z i.extensible) v c.args.place result) high
    (subst (λ (z : ℤ). ValueMeasured (integer z (cast_signed w128 (cast_unsigned w128 i.high)) i.extensible) v c.args.place result) low
    c.integer_end.ensures))

pub inside_end-returns-in_ok-contents-in-Some : goal.inside_end-returns-in_ok-contents-in-Some
inside_end-returns-in_ok-contents-in-Some t c =
    let of = tree c.args.m.now in
    let v : SeenValue = view c.args.value.now in
    let type : Tree = of c.in-Some.id.number in
    subst (λ (x : Option TypeId). InsideMeasured of x v c.args.place c.opened_end.result) (sym c.in-Some.is)
    (open_measured type v c.in_ok-contents-in-Some.contents c.args.place c.opened_end.result (c.in_ok-contents-in-Some.ensures {u = tt})
    c.opened_end.ensures)

pub list_end-returns-then-not-is_member_count_of : goal.list_end-returns-then-not-is_member_count_of
list_end-returns-then-not-is_member_count_of t c =
    let element : Tree = tree c.args.m.now c.args.element.number in
    let vs : List Value = c.in-List.members.items in
    let seen : view c.args.value.now ≡ list (values_view vs) = rw c.in-List.is (search (rules, the_lemmas)) in
    measured_as _ _ _ _ c.args.place None refl seen
    (list_refused element c.args.size vs c.len.result (c.len.ensures ∙ c.in-List.members.ok.0) c.args.place
    (sym c.is_member_count_of.ensures ∙ c.if-not-is_member_count_of.true))

pub list_end-returns-in_err-place : goal.list_end-returns-in_err-place
list_end-returns-in_err-place t c =
    let l = c.loop-member in
    let element : Tree = tree c.args.m.now c.args.element.number in
    let vs : List Value = c.in-List.members.items in
    let ws : List Value = c.deref-member-items.result.now in
    let begin : ℕ = c.after_count-place.result in
    let seen : view c.args.value.now ≡ list (values_view vs) = rw c.in-List.is (search (rules, the_lemmas)) in
    let v : Value = c.member-item.result in
    let item : drop l.member-index ws ≡ v ∷ drop (l.member-index + 1) ws = item_at ws l.member-index v c.loop-member-test.true c.member-item.is in
    let all : MembersMeasured element vs begin None =
    subst (λ (us : List Value). MembersMeasured element us begin None) c.deref-member-items.ensures.value
    (l.invariant None (subst (λ (us : List Value). MembersMeasured element us l.place None) (sym item)
    (member_wrong element v (drop (l.member-index + 1) ws) l.place (c.in_err-place.ensures {u = tt})))) in
    let counted : c.len-2.result ≡ length vs = c.len-2.ensures ∙ c.in-List.members.ok.0 in
    let again : c.len-2.result ≡ c.len.result = c.len-2.ensures ∙ sym c.len.ensures in
    subst (λ (r : Option ℕ). ValueMeasured (sequence_of c.args.size element) (view c.args.value.now) c.args.place r) (sym c.from_residual.ensures)
    (measured_as _ _ _ _ c.args.place None refl seen
    (list_told element c.args.size vs c.len-2.result counted c.args.place begin None
    (rw again (sym c.is_member_count_of.ensures ∙ c.if-not-is_member_count_of.false)) c.after_count-place.ensures all))

pub list_end-loop-member-preserved : goal.list_end-loop-member-preserved
list_end-loop-member-preserved t c =
    let l = c.loop-member in
    let element : Tree = tree c.args.m.now c.args.element.number in
    let ws : List Value = c.deref-member-items.result.now in
    let v : Value = c.member-item.result in
    let mid : ℕ = c.in_ok-place.place in
    let item : drop l.member-index ws ≡ v ∷ drop (l.member-index + 1) ws = item_at ws l.member-index v c.loop-member-test.true c.member-item.is in
    λ r more. l.invariant r (subst (λ (us : List Value). MembersMeasured element us l.place r) (sym item)
    (member_next element v (drop (l.member-index + 1) ws) l.place mid r (c.in_ok-place.ensures {u = tt}) more))

pub list_end-returns : goal.list_end-returns
list_end-returns t c =
    let l = c.loop-member in
    let element : Tree = tree c.args.m.now c.args.element.number in
    let vs : List Value = c.in-List.members.items in
    let ws : List Value = c.deref-member-items.result.now in
    let begin : ℕ = c.after_count-place.result in
    let seen : view c.args.value.now ≡ list (values_view vs) = rw c.in-List.is (search (rules, the_lemmas)) in
    let all : MembersMeasured element vs begin (Some l.place) =
    subst (λ (us : List Value). MembersMeasured element us begin (Some l.place)) c.deref-member-items.ensures.value
    (l.invariant (Some l.place) (subst (λ (us : List Value). MembersMeasured element us l.place (Some l.place))
    (sym (drop_all l.member-index ws c.loop-member-test.false)) (members_none element l.place))) in
    let counted : c.len-2.result ≡ length vs = c.len-2.ensures ∙ c.in-List.members.ok.0 in
    let again : c.len-2.result ≡ c.len.result = c.len-2.ensures ∙ sym c.len.ensures in
    measured_as _ _ _ _ c.args.place (Some l.place) refl seen
    (list_told element c.args.size vs c.len-2.result counted c.args.place begin (Some l.place)
    (rw again (sym c.is_member_count_of.ensures ∙ c.if-not-is_member_count_of.false)) c.after_count-place.ensures all)

pub message_end-returns-then-outcome-ge3 : goal.message_end-returns-then-outcome-ge3
message_end-returns-then-outcome-ge3 t c =
    let of = tree c.args.m.now in
    let rows : List ProcedureRow = c.args.rows.now in
    let outcome : ℕ = c.in-Pdu.outcome in
    let code : ℕ = c.in-Pdu.code in
    let criticality : ℕ = c.in-Pdu.criticality in
    let v : SeenValue = view c.deref.result.now in
    let same : view c.args.value.now ≡ message outcome code criticality (view c.in-Pdu.body.value) = rw c.in-Pdu.is (search (rules, the_lemmas)) in
    let seen : view c.args.value.now ≡ message outcome code criticality v =
    same ∙ ap (λ (y : Value). message outcome code criticality (view y)) (sym c.deref.ensures) in
    measured_as _ _ _ _ c.args.place c.raw_end.result refl seen
    (past_told of rows outcome code criticality v c.args.place c.passed.result c.raw_end.result c.if-outcome-ge3.true c.if-outcome-ge67.false
    c.if-code-ne0.false c.if-criticality-ne0.false c.passed.ensures c.raw_end.ensures)

pub message_end-inside_end-requires : goal.message_end-inside_end-requires
message_end-inside_end-requires t c =
    let below : OptionBelow (length c.args.m.now.nodes) c.message_type.result =
    messages_below (length c.args.m.now.nodes) c.in-Pdu.outcome c.in-Pdu.code c.args.rows.now c.message_type.result c.requires
    c.message_type.ensures in
    (search (rules, the_lemmas), below)

pub message_end-returns : goal.message_end-returns
message_end-returns t c =
    let of = tree c.args.m.now in
    let rows : List ProcedureRow = c.args.rows.now in
    let outcome : ℕ = c.in-Pdu.outcome in
    let code : ℕ = c.in-Pdu.code in
    let criticality : ℕ = c.in-Pdu.criticality in
    let v : SeenValue = view c.deref-2.result.now in
    let same : view c.args.value.now ≡ message outcome code criticality (view c.in-Pdu.body.value) = rw c.in-Pdu.is (search (rules, the_lemmas)) in
    let seen : view c.args.value.now ≡ message outcome code criticality v =
    same ∙ ap (λ (y : Value). message outcome code criticality (view y)) (sym c.deref-2.ensures) in
    let octet : code < 256 = omega arith in
    measured_as _ _ _ _ c.args.place c.inside_end.result refl seen
    (message_told of rows outcome code criticality v c.args.place c.passed-2.result c.padded.result c.passed-head.result c.message_type.result
    c.inside_end.result c.if-outcome-ge3.false octet c.if-criticality-gt2.false c.passed-2.ensures c.padded.ensures c.passed-head.ensures
    c.message_type.ensures c.inside_end.ensures)

pub sequence_end-returns : goal.sequence_end-returns
sequence_end-returns t c =
    let of = tree c.args.m.now in
    let members : Extensible Component = c.args.members.now in
    let vs : List (Option Value) = c.in-Seq.root.items in
    let more : List (Option Value) = c.in-Seq.additions.items in
    let seen : view c.args.value.now ≡ components (options_view vs) (options_view more) = rw c.in-Seq.is (search (rules, the_lemmas)) in
    let additions : List Component = additions_of members.additions in
    let old = c.args.place in
    let begun = c.after_extension.result in
    let flagged = c.passed-flags.result in
    let half = c.in_ok-components.components in
    let marked = c.after_marks-marks.result in
    let result : Option ℕ = c.additions_end.result in
    let one : Ends old begun (λ p. extension_fields p (is_extensible members) (has_options (options_view more))) =
    subst (λ (e : Bool). Ends old begun (λ p. extension_fields p e (has_options (options_view more)))) c.is_some-is_extensible.ensures
    (c.after_extension.ensures (has_options (options_view more))) in
    let two : flagged ≡ passed begun (optional_count members.root) =
    c.passed-flags.ensures ∙ ap (λ (n : ℕ). passed begun n) (c.optional_count.ensures ∙ ap optional_count c.as_slice-parts.ensures) in
    let three : ComponentsMeasured of members.root vs flagged (Some half) =
    subst (λ (ws : List (Option Value)). ComponentsMeasured of members.root ws flagged (Some half)) c.deref-2.ensures.value
    (subst (λ (cs : List Component). ComponentsMeasured of cs c.deref-2.result.now flagged (Some half)) c.as_slice-parts.ensures
    (c.in_ok-components.ensures {u = tt})) in
    let four : Ends half marked (λ p. mark_fields p (options_view more)) =
    subst (λ (ws : List (Option Value)). Ends half marked (λ p. mark_fields p (options_view ws))) c.deref-3.ensures.value
    c.after_marks-marks.ensures in
    let few : AreAdditions (is_extensible members) (options_view more) =
    subst (λ (ws : List (Option Value)). AreAdditions (is_extensible members) (options_view ws)) c.deref.ensures.value
    (subst (λ (e : Bool). AreAdditions e (options_view c.deref.result.now)) c.is_some-is_extensible.ensures
    (c.are_additions.ensures.0 c.if-not-are_additions.false)) in
    let five : AdditionsMeasured of additions more marked result =
    subst (λ (ws : List (Option Value)). AdditionsMeasured of additions ws marked result) c.deref-4.ensures.value
    (subst (λ (cs : List Component). AdditionsMeasured of cs c.deref-4.result.now marked result) c.named.ensures c.additions_end.ensures) in
    measured_as _ _ _ _ old result refl seen
    (sequence_measured of (is_extensible members) members.root additions vs more old begun flagged half marked result one two three four few five)
