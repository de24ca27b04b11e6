use Rattle.std.proofs.Common.{rules, ◌≡◌, ℕ, ◌+◌, ◌-◌, ◌<◌, ◌≤◌, ◌==◌, not, length, drop, get_or, Bool, true, List, [], ◌∷◌, Option, Some, None, refl, sym, ap, subst, ◌∙◌, arith}
use Rattle.std.proofs.lemmas.List.{drop_all}
use Rattle.std.specs.Prelude.{ℤ}
use Rattle.std.specs.Int.{cast_signed, cast_unsigned, w128}
use Rattle.bits_core.specs.Writing.{Written}
use Rattle.asn1_syntax.specs.declared.types.definition.TypeId.{TypeId}
use Rattle.asn1_syntax.specs.declared.types.definition.Component.{Component}
use Rattle.asn1_syntax.specs.declared.types.definition.Extensible.{Extensible}
use Rattle.asn1_syntax.specs.types.Members.{additions_of}
use Rattle.asn1_syntax.specs.declared.assignments.assignment.IeRow.{IeRow}
use Rattle.asn1_syntax.specs.declared.assignments.assignment.ProcedureRow.{ProcedureRow}
use Rattle.asn1_defs.specs.Links.{AreBelow, OptionBelow}
use Rattle.aper_defs.specs.Trees.{Tree, integer, choice, sequence_of, container, pdu}
use Rattle.aper_defs.specs.Values.{Value as SeenValue, components, chosen, list, elements, message, value_count, ie_count, presence, has_options}
use Rattle.aper_defs.specs.Fields.{asked, constrained}
use Rattle.aper_defs.specs.Fields as fields
use Rattle.aper_defs.specs.Parts.{extension_fields, count_fields}
use Rattle.aper_defs.specs.Layouts.{mark_fields}
use Rattle.aper_defs.specs.Membership.{is_index_of}
use Rattle.aper_fields.specs.Following.{Follows}
use Rattle.aper_values.specs.declared.types.form.Form.{Form}
use Rattle.aper_values.specs.types.Forms.{form_tree}
use Rattle.aper_values.specs.types.Types.{tree, parts_of, rows_of, procedures_of, is_extensible, sequence_tree, choice_tree}
use Rattle.aper_values.specs.declared.value.Value.{Value, the_lemmas}
use Rattle.aper_values.specs.declared.value.Element.{Element}
use Rattle.aper_values.specs.Views.{view, values_view, options_view, ies_view}
use Rattle.aper_fields.specs.members.Membership.{IsValue, FitsInside, IsInside, AreComponents, AreNamed, AreMembers, AreBodies}
use Rattle.aper_fields.specs.members.Followed.{ValueFollows, InsideFollows, ComponentsFollow, AdditionsFollow, MembersFollow, ElementsFollow}
use Rattle.aper_fields.proofs.members.ChoiceLemmas.{parts_count, chosen_root, root_follows}
use Rattle.aper_fields.proofs.members.HeadLemmas.{FlagsFollow, presence_count}
use Rattle.aper_fields.proofs.members.MessageLemmas.{message_inside, message_follows, messages_below}
use Rattle.aper_fields.proofs.members.RowLemmas.{BodyFollows, element_inside, body_follows, body_below, element_next}
use Rattle.aper_fields.proofs.members.SequenceLemmas.{sequence_follows, has_any}
use Rattle.aper_fields.proofs.members.Shapes.{as_of, list_members, list_count, element_bodies, element_count, message_known, message_past, sequence_root, sequence_named, sequence_few, choice_index}
use Rattle.aper_fields.proofs.members.Turns.{item_at, component_there, components_none, addition_absent, additions_none, below_at}
use Rattle.aper_fields.specs.members.Rows.{part_type}
use Rattle.aper_fields.proofs.members.Members.{values_count, elements_count, part_below}
use Rattle.aper.proofs.encoding.Components.{component_at, components_next, components_absent, component_turn}
use Rattle.aper.proofs.encoding.Members.{components_fit, addition_inside, additions_next, addition_turn}
use Rattle.aper.proofs.encoding.Open.{Completes, contents_fit, contents_follow}
use Rattle.aper.proofs.encoding.Puts.{follows_of, follows_as, list_follows, elements_none, container_follows, chosen_inside, added_follow, message_known_follows, message_past_follows}
use Rattle.aper.proofs.encoding.values.+put.Goals as goal

pub put_additions-loop-i-preserved-in_default : goal.put_additions-loop-i-preserved-in_default
put_additions-loop-i-preserved-in_default t c =
    let l = c.loop-i in
    let of = tree c.args.m.now in
    let ps : List Component = c.args.parts.now in
    let vs : List (Option Value) = c.args.values.now in
    let value : drop l.i vs ≡ None ∷ drop (l.i + 1) vs =
    item_at vs l.i c.index-values-i.result c.loop-i-test.true c.index-values-i.is ∙ ap (λ (y : Option Value). y ∷ drop (l.i + 1) vs) c.in_default.is in
    let member = subst (λ (ws : List (Option Value)). AreNamed (parts_of of (drop l.i ps)) (options_view ws)) value l.invariant.member in
    record {
      going = l.invariant.going;
      member = additions_next of ps l.i None (drop (l.i + 1) vs) member;
      follows = λ new more. l.invariant.follows new (subst (λ (ws : List (Option Value)). AdditionsFollow of l.out new (drop l.i ps) ws) (sym value)
          (addition_absent of l.out new ps l.i (drop (l.i + 1) vs) more));
    }

pub put_additions-put_body-requires : goal.put_additions-put_body-requires
put_additions-put_body-requires t c =
    let l = c.loop-i in
    let of = tree c.args.m.now in
    let ps : List Component = c.args.parts.now in
    let vs : List (Option Value) = c.args.values.now in
    let v : Value = c.in-Some.value in
    let value : drop l.i vs ≡ Some v ∷ drop (l.i + 1) vs =
    item_at vs l.i c.index-values-i.result c.loop-i-test.true c.index-values-i.is ∙ ap (λ (y : Option Value). y ∷ drop (l.i + 1) vs) c.in-Some.is in
    let member = subst (λ (ws : List (Option Value)). AreNamed (parts_of of (drop l.i ps)) (options_view ws)) value l.invariant.member in
    let below : OptionBelow (length c.args.m.now.nodes) c.part_type.result =
    subst (λ (x : Option TypeId). OptionBelow (length c.args.m.now.nodes) x) (sym c.part_type.ensures)
    (part_below (length c.args.m.now.nodes) l.i ps c.requires.inside) in
    let has : IsInside of c.part_type.result (view v) =
    subst (λ (x : Option TypeId). IsInside of x (view v)) (sym c.part_type.ensures) (addition_inside of ps l.i v (drop (l.i + 1) vs) member) in
    (search (rules, the_lemmas), (below, has))

pub put_additions-loop-i-preserved : goal.put_additions-loop-i-preserved
put_additions-loop-i-preserved t c =
    let l = c.loop-i in
    let of = tree c.args.m.now in
    let ps : List Component = c.args.parts.now in
    let vs : List (Option Value) = c.args.values.now in
    let v : Value = c.in-Some.value in
    let value : drop l.i vs ≡ Some v ∷ drop (l.i + 1) vs =
    item_at vs l.i c.index-values-i.result c.loop-i-test.true c.index-values-i.is ∙ ap (λ (y : Option Value). y ∷ drop (l.i + 1) vs) c.in-Some.is in
    let member = subst (λ (ws : List (Option Value)). AreNamed (parts_of of (drop l.i ps)) (options_view ws)) value l.invariant.member in
    let here : InsideFollows of (part_type l.i ps) l.out c.put_body.new.out (view v) =
    subst (λ (x : Option TypeId). InsideFollows of x l.out c.put_body.new.out (view v)) c.part_type.ensures c.in_ok-put_body.ensures.follows in
    record {
      going = c.in_ok-put_body.ensures.going;
      member = additions_next of ps l.i (Some v) (drop (l.i + 1) vs) member;
      follows = λ new more. l.invariant.follows new (subst (λ (ws : List (Option Value)). AdditionsFollow of l.out new (drop l.i ps) ws) (sym value)
          (addition_turn of l.out c.put_body.new.out new ps l.i v (drop (l.i + 1) vs) here more));
    }

pub put_additions-returns-clause-follows : goal.put_additions-returns-clause-follows
put_additions-returns-clause-follows t c =
    let l = c.loop-i in
    let of = tree c.args.m.now in
    let ps : List Component = c.args.parts.now in
    let vs : List (Option Value) = c.args.values.now in
    l.invariant.follows l.out (subst (λ (ws : List (Option Value)). AdditionsFollow of l.out l.out (drop l.i ps) ws)
    (sym (drop_all l.i vs (omega arith))) (additions_none of l.out (drop l.i ps)))

pub put_body-put_contents-requires : goal.put_body-put_contents-requires
put_body-put_contents-requires t c =
    let of = tree c.args.m.now in
    let v : SeenValue = view c.args.value.now in
    let type : Tree = of c.in-Some.id.number in
    let none : c.new-contents.result.bits ≡ [] = ap (λ (w : Written). w.bits) c.new-contents.ensures in
    let all : Completes c.put_value.new.out c.as_slice.result.now =
    subst (λ (os : List ℕ). Completes c.put_value.new.out os) (sym c.as_slice.ensures) c.in_ok-octets.ensures in
    let fits : FitsInside type v = subst (λ (x : Option TypeId). IsInside of x v) c.in-Some.is c.requires.member in
    contents_fit c.new-contents.result c.put_value.new.out type v c.as_slice.result.now none c.in_ok-put_value.ensures.follows all fits

pub put_body-returns-clause-follows : goal.put_body-returns-clause-follows
put_body-returns-clause-follows t c =
    let of = tree c.args.m.now in
    let v : SeenValue = view c.args.value.now in
    let type : Tree = of c.in-Some.id.number in
    let none : c.new-contents.result.bits ≡ [] = ap (λ (w : Written). w.bits) c.new-contents.ensures in
    let all : Completes c.put_value.new.out c.as_slice.result.now =
    subst (λ (os : List ℕ). Completes c.put_value.new.out os) (sym c.as_slice.ensures) c.in_ok-octets.ensures in
    subst (λ (x : Option TypeId). InsideFollows of x c.args.out.now c.put_contents.new.out v) (sym c.in-Some.is)
    (contents_follow c.new-contents.result c.put_value.new.out type v c.as_slice.result.now c.args.out.now c.put_contents.new.out none
    c.in_ok-put_value.ensures.follows all c.in_ok-put_contents.ensures.opened)

pub put_choice-put_index-requires-clause-member : goal.put_choice-put_index-requires-clause-member
put_choice-put_index-requires-clause-member t c =
    let of = tree c.args.m.now in
    let members : Extensible Component = c.args.members.now in
    let root : List Component = c.as_slice-root.result.now in
    let i : ℕ = c.in-Choice.index in
    let additions : List Component = additions_of members.additions in
    let type : choice_tree of members ≡ choice c.is_some.result (parts_of of root) (parts_of of additions) =
    ap (λ (e : Bool). choice e (parts_of of members.root) (parts_of of (additions_of members.additions))) (sym c.is_some.ensures)
    ∙ ap (λ (cs : List Component). choice c.is_some.result (parts_of of cs) (parts_of of (additions_of members.additions))) (sym c.as_slice-root.ensures) in
    let seen : view c.args.value.now ≡ chosen i (view c.in-Choice.body.value) = rw c.in-Choice.is (search (rules, the_lemmas)) in
    subst (λ (n : ℕ). is_index_of n c.is_some.result i ≡ true) (parts_count of root)
    (choice_index c.is_some.result (parts_of of root) (parts_of of additions) i (view c.in-Choice.body.value) (as_of _ _ _ _ type seen c.requires.member))

pub put_choice-put_value-requires : goal.put_choice-put_value-requires
put_choice-put_value-requires t c =
    let of = tree c.args.m.now in
    let members : Extensible Component = c.args.members.now in
    let root : List Component = c.as_slice-root.result.now in
    let i : ℕ = c.in-Choice.index in
    let additions : List Component = additions_of members.additions in
    let type : choice_tree of members ≡ choice c.is_some.result (parts_of of root) (parts_of of additions) =
    ap (λ (e : Bool). choice e (parts_of of members.root) (parts_of of (additions_of members.additions))) (sym c.is_some.ensures)
    ∙ ap (λ (cs : List Component). choice c.is_some.result (parts_of of cs) (parts_of of (additions_of members.additions))) (sym c.as_slice-root.ensures) in
    let v : SeenValue = view c.deref.result.now in
    let same : view c.args.value.now ≡ chosen i (view c.in-Choice.body.value) = rw c.in-Choice.is (search (rules, the_lemmas)) in
    let seen : view c.args.value.now ≡ chosen i v = same ∙ ap (λ (y : Value). chosen i (view y)) (sym c.deref.ensures) in
    let member : IsValue (choice c.is_some.result (parts_of of root) (parts_of of additions)) (chosen i v) =
    as_of _ _ _ _ type seen c.requires.member in
    let q : Component = c.index-root-index.result in
    let inside : AreBelow (length c.args.m.now.nodes) root =
    subst (λ (cs : List Component). AreBelow (length c.args.m.now.nodes) cs) (sym c.as_slice-root.ensures) c.requires.inside.0 in
    let below : (get_or root i q).definition.number < length c.args.m.now.nodes =
    subst (λ (y : Component). y.definition.number < length c.args.m.now.nodes) c.index-root-index.is
    (below_at (length c.args.m.now.nodes) root i q inside c.if-index-root.true c.index-root-index.is) in
    let has : IsValue (of (get_or root i q).definition.number) v =
    subst (λ (y : Component). IsValue (of y.definition.number) v) c.index-root-index.is
    (chosen_root of c.is_some.result root additions i v q c.if-index-root.true c.index-root-index.is member) in
    (search (rules, the_lemmas), (below, (has, c.in_ok-put_index-in-Choice.ensures.going)))

pub put_choice-returns-then-index-root-clause-follows :
    goal.put_choice-returns-then-index-root-clause-follows
put_choice-returns-then-index-root-clause-follows t c =
    let of = tree c.args.m.now in
    let members : Extensible Component = c.args.members.now in
    let root : List Component = c.as_slice-root.result.now in
    let i : ℕ = c.in-Choice.index in
    let additions : List Component = additions_of members.additions in
    let type : choice_tree of members ≡ choice c.is_some.result (parts_of of root) (parts_of of additions) =
    ap (λ (e : Bool). choice e (parts_of of members.root) (parts_of of (additions_of members.additions))) (sym c.is_some.ensures)
    ∙ ap (λ (cs : List Component). choice c.is_some.result (parts_of of cs) (parts_of of (additions_of members.additions))) (sym c.as_slice-root.ensures) in
    let v : SeenValue = view c.deref.result.now in
    let same : view c.args.value.now ≡ chosen i (view c.in-Choice.body.value) = rw c.in-Choice.is (search (rules, the_lemmas)) in
    let seen : view c.args.value.now ≡ chosen i v = same ∙ ap (λ (y : Value). chosen i (view y)) (sym c.deref.ensures) in
    let q : Component = c.index-root-index.result in
    let here : ValueFollows c.put_index.new.out c.put_value.new.out (of q.definition.number) v =
    subst (λ (y : Component). ValueFollows c.put_index.new.out c.put_value.new.out (of y.definition.number) v) (sym c.index-root-index.is)
    c.in_ok-put_value-in-Choice.ensures.follows in
    follows_as c.args.out.now c.put_value.new.out _ _ _ _ type seen
    (root_follows of c.is_some.result root additions i v c.args.out.now c.put_index.new.out c.put_value.new.out q c.if-index-root.true
    c.index-root-index.is c.in_ok-put_index-in-Choice.ensures.follows here)

pub put_choice-put_body-requires : goal.put_choice-put_body-requires
put_choice-put_body-requires t c =
    let of = tree c.args.m.now in
    let members : Extensible Component = c.args.members.now in
    let root : List Component = c.as_slice-root.result.now in
    let i : ℕ = c.in-Choice.index in
    let additions : List Component = c.named.result.now in
    let type : choice_tree of members ≡ choice c.is_some.result (parts_of of root) (parts_of of additions) =
    ap (λ (e : Bool). choice e (parts_of of members.root) (parts_of of (additions_of members.additions))) (sym c.is_some.ensures)
    ∙ ap (λ (cs : List Component). choice c.is_some.result (parts_of of cs) (parts_of of (additions_of members.additions))) (sym c.as_slice-root.ensures)
    ∙ ap (λ (cs : List Component). choice c.is_some.result (parts_of of root) (parts_of of cs)) (sym c.named.ensures) in
    let v : SeenValue = view c.deref-in-Choice.result.now in
    let same : view c.args.value.now ≡ chosen i (view c.in-Choice.body.value) = rw c.in-Choice.is (search (rules, the_lemmas)) in
    let seen : view c.args.value.now ≡ chosen i v = same ∙ ap (λ (y : Value). chosen i (view y)) (sym c.deref-in-Choice.ensures) in
    let member : IsValue (choice c.is_some.result (parts_of of root) (parts_of of additions)) (chosen i v) =
    as_of _ _ _ _ type seen c.requires.member in
    let past : length root ≤ i = omega arith in
    let inside : AreBelow (length c.args.m.now.nodes) additions =
    subst (λ (cs : List Component). AreBelow (length c.args.m.now.nodes) cs) (sym c.named.ensures) c.requires.inside.1 in
    let below : OptionBelow (length c.args.m.now.nodes) c.part_type-addition.result =
    subst (λ (x : Option TypeId). OptionBelow (length c.args.m.now.nodes) x) (sym c.part_type-addition.ensures)
    (part_below (length c.args.m.now.nodes) (i - length root) additions inside) in
    let has : IsInside of c.part_type-addition.result v =
    subst (λ (x : Option TypeId). IsInside of x v) (sym c.part_type-addition.ensures)
    (chosen_inside of c.is_some.result root additions i v past member) in
    (search (rules, the_lemmas), (below, has))

pub put_choice-returns-clause-follows : goal.put_choice-returns-clause-follows
put_choice-returns-clause-follows t c =
    let of = tree c.args.m.now in
    let members : Extensible Component = c.args.members.now in
    let root : List Component = c.as_slice-root.result.now in
    let i : ℕ = c.in-Choice.index in
    let additions : List Component = c.named.result.now in
    let type : choice_tree of members ≡ choice c.is_some.result (parts_of of root) (parts_of of additions) =
    ap (λ (e : Bool). choice e (parts_of of members.root) (parts_of of (additions_of members.additions))) (sym c.is_some.ensures)
    ∙ ap (λ (cs : List Component). choice c.is_some.result (parts_of of cs) (parts_of of (additions_of members.additions))) (sym c.as_slice-root.ensures)
    ∙ ap (λ (cs : List Component). choice c.is_some.result (parts_of of root) (parts_of of cs)) (sym c.named.ensures) in
    let v : SeenValue = view c.deref-in-Choice.result.now in
    let same : view c.args.value.now ≡ chosen i (view c.in-Choice.body.value) = rw c.in-Choice.is (search (rules, the_lemmas)) in
    let seen : view c.args.value.now ≡ chosen i v = same ∙ ap (λ (y : Value). chosen i (view y)) (sym c.deref-in-Choice.ensures) in
    let past : length root ≤ i = omega arith in
    let here : InsideFollows of (part_type (i - length root) additions) c.put_index.new.out c.put_body.new.out v =
    subst (λ (x : Option TypeId). InsideFollows of x c.put_index.new.out c.put_body.new.out v) c.part_type-addition.ensures
    c.in_ok-put_body-in-Choice.ensures.follows in
    follows_as c.args.out.now c.put_body.new.out _ _ _ _ type seen
    (added_follow of c.is_some.result root additions i v c.args.out.now c.put_index.new.out c.put_body.new.out past
    c.in_ok-put_index-in-Choice.ensures.follows here)

pub put_components-loop-i-preserved-in_default : goal.put_components-loop-i-preserved-in_default
put_components-loop-i-preserved-in_default t c =
    let l = c.loop-i in
    let of = tree c.args.m.now in
    let ps : List Component = c.args.parts.now in
    let vs : List (Option Value) = c.args.values.now in
    let value : drop l.i vs ≡ None ∷ drop (l.i + 1) vs =
    item_at vs l.i c.index-values-i.result c.loop-i-test.true c.index-values-i.is ∙ ap (λ (y : Option Value). y ∷ drop (l.i + 1) vs) c.in_default.is in
    let member = subst (λ (ws : List (Option Value)). AreComponents (parts_of of (drop l.i ps)) (options_view ws)) value l.invariant.member in
    let less : l.i < length ps = component_there of ps l.i None (drop (l.i + 1) vs) member in
    record {
      going = l.invariant.going;
      member = components_next of ps l.i None (drop (l.i + 1) vs) less member;
      follows = λ new more. l.invariant.follows new (subst (λ (ws : List (Option Value)). ComponentsFollow of l.out new (drop l.i ps) ws) (sym value)
          (components_absent of l.out new ps l.i (drop (l.i + 1) vs) less more));
    }

pub put_components-bounds-parts-i : goal.put_components-bounds-parts-i
put_components-bounds-parts-i t c =
    let l = c.loop-i in
    let of = tree c.args.m.now in
    let ps : List Component = c.args.parts.now in
    let vs : List (Option Value) = c.args.values.now in
    let v : Value = c.in-Some.value in
    let value : drop l.i vs ≡ Some v ∷ drop (l.i + 1) vs =
    item_at vs l.i c.index-values-i.result c.loop-i-test.true c.index-values-i.is ∙ ap (λ (y : Option Value). y ∷ drop (l.i + 1) vs) c.in-Some.is in
    let member = subst (λ (ws : List (Option Value)). AreComponents (parts_of of (drop l.i ps)) (options_view ws)) value l.invariant.member in
    component_there of ps l.i (Some v) (drop (l.i + 1) vs) member

pub put_components-bounds-parts-i-in-Some : goal.put_components-bounds-parts-i-in-Some
put_components-bounds-parts-i-in-Some t c =
    let l = c.loop-i in
    let of = tree c.args.m.now in
    let ps : List Component = c.args.parts.now in
    let vs : List (Option Value) = c.args.values.now in
    let v : Value = c.in-Some.value in
    let value : drop l.i vs ≡ Some v ∷ drop (l.i + 1) vs =
    item_at vs l.i c.index-values-i.result c.loop-i-test.true c.index-values-i.is ∙ ap (λ (y : Option Value). y ∷ drop (l.i + 1) vs) c.in-Some.is in
    let member = subst (λ (ws : List (Option Value)). AreComponents (parts_of of (drop l.i ps)) (options_view ws)) value l.invariant.member in
    component_there of ps l.i (Some v) (drop (l.i + 1) vs) member

pub put_components-put_value-requires : goal.put_components-put_value-requires
put_components-put_value-requires t c =
    let l = c.loop-i in
    let of = tree c.args.m.now in
    let ps : List Component = c.args.parts.now in
    let vs : List (Option Value) = c.args.values.now in
    let v : Value = c.in-Some.value in
    let value : drop l.i vs ≡ Some v ∷ drop (l.i + 1) vs =
    item_at vs l.i c.index-values-i.result c.loop-i-test.true c.index-values-i.is ∙ ap (λ (y : Option Value). y ∷ drop (l.i + 1) vs) c.in-Some.is in
    let member = subst (λ (ws : List (Option Value)). AreComponents (parts_of of (drop l.i ps)) (options_view ws)) value l.invariant.member in
    let less : l.i < length ps = component_there of ps l.i (Some v) (drop (l.i + 1) vs) member in
    let q : Component = c.index-parts-i.result in
    let below : (get_or ps l.i q).definition.number < length c.args.m.now.nodes =
    subst (λ (y : Component). y.definition.number < length c.args.m.now.nodes) c.index-parts-i.is
    (below_at (length c.args.m.now.nodes) ps l.i q c.requires.inside less c.index-parts-i.is) in
    let has : IsValue (of (get_or ps l.i q).definition.number) (view v) =
    subst (λ (y : Component). IsValue (of y.definition.number) (view v)) c.index-parts-i.is
    (component_at of ps l.i q v (drop (l.i + 1) vs) less c.index-parts-i.is member) in
    (search (rules, the_lemmas), (below, (has, l.invariant.going)))

pub put_components-loop-i-preserved : goal.put_components-loop-i-preserved
put_components-loop-i-preserved t c =
    let l = c.loop-i in
    let of = tree c.args.m.now in
    let ps : List Component = c.args.parts.now in
    let vs : List (Option Value) = c.args.values.now in
    let v : Value = c.in-Some.value in
    let value : drop l.i vs ≡ Some v ∷ drop (l.i + 1) vs =
    item_at vs l.i c.index-values-i.result c.loop-i-test.true c.index-values-i.is ∙ ap (λ (y : Option Value). y ∷ drop (l.i + 1) vs) c.in-Some.is in
    let member = subst (λ (ws : List (Option Value)). AreComponents (parts_of of (drop l.i ps)) (options_view ws)) value l.invariant.member in
    let less : l.i < length ps = component_there of ps l.i (Some v) (drop (l.i + 1) vs) member in
    let q : Component = c.index-parts-i.result in
    let here : ValueFollows l.out c.put_value.new.out (of q.definition.number) (view v) =
    subst (λ (y : Component). ValueFollows l.out c.put_value.new.out (of y.definition.number) (view v)) (sym c.index-parts-i.is)
    c.in_ok-put_value.ensures.follows in
    record {
      going = c.in_ok-put_value.ensures.going;
      member = components_next of ps l.i (Some v) (drop (l.i + 1) vs) less member;
      follows = λ new more. l.invariant.follows new (subst (λ (ws : List (Option Value)). ComponentsFollow of l.out new (drop l.i ps) ws) (sym value)
          (component_turn of l.out c.put_value.new.out new ps l.i q v (drop (l.i + 1) vs) less c.index-parts-i.is here more));
    }

pub put_components-returns-clause-follows : goal.put_components-returns-clause-follows
put_components-returns-clause-follows t c =
    let l = c.loop-i in
    let of = tree c.args.m.now in
    let ps : List Component = c.args.parts.now in
    let vs : List (Option Value) = c.args.values.now in
    l.invariant.follows l.out (subst (λ (ws : List (Option Value)). ComponentsFollow of l.out l.out (drop l.i ps) ws)
    (sym (drop_all l.i vs (omega arith))) (components_none of l.out (drop l.i ps)))

pub put_container-overflow_cast-len : goal.put_container-overflow_cast-len
put_container-overflow_cast-len t c =
    let of = tree c.args.m.now in
    let rows : List IeRow = c.args.rows.now in
    let es : List (Element Value) = c.in-Ies.ies.items in
    let seen : view c.args.value.now ≡ elements (ies_view es) = rw c.in-Ies.is (search (rules, the_lemmas)) in
    let member : IsValue (container (rows_of of rows)) (elements (ies_view es)) = as_of _ _ _ _ refl seen c.requires.member in
    let few : ie_count (ies_view es) < 65536 = element_count (rows_of of rows) (ies_view es) member in
    omega (arith, few, elements_count es, c.len.ensures, c.in-Ies.ies.ok.0)

pub put_container-loop-ie-init : goal.put_container-loop-ie-init
put_container-loop-ie-init t c =
    let of = tree c.args.m.now in
    let rows : List IeRow = c.args.rows.now in
    let es : List (Element Value) = c.in-Ies.ies.items in
    let seen : view c.args.value.now ≡ elements (ies_view es) = rw c.in-Ies.is (search (rules, the_lemmas)) in
    let member : IsValue (container (rows_of of rows)) (elements (ies_view es)) = as_of _ _ _ _ refl seen c.requires.member in
    record {
      going = c.in_ok-put_ie_count-in-Ies.ensures.going;
      bodies = subst (λ (fs : List (Element Value)). AreBodies (rows_of of rows) (ies_view fs)) (sym c.deref-ie-items.ensures.value)
          (element_bodies (rows_of of rows) (ies_view es) member);
      follows = λ new more. more;
    }

pub put_container-put_body-requires : goal.put_container-put_body-requires
put_container-put_body-requires t c =
    let l = c.loop-ie in
    let of = tree c.args.m.now in
    let rows : List IeRow = c.args.rows.now in
    let es : List (Element Value) = c.deref-ie-items.result.now in
    let e : Element Value = c.ie-item.result in
    let item : drop l.ie-index es ≡ e ∷ drop (l.ie-index + 1) es = item_at es l.ie-index e c.loop-ie-test.true c.ie-item.is in
    let bodies : AreBodies (rows_of of rows) (ies_view (e ∷ drop (l.ie-index + 1) es)) =
    subst (λ (fs : List (Element Value)). AreBodies (rows_of of rows) (ies_view fs)) item l.invariant.bodies in
    let below : OptionBelow (length c.args.m.now.nodes) c.row_type.result =
    body_below of (length c.args.m.now.nodes) e.id rows c.row_type.result c.requires.inside c.row_type.ensures in
    let has : IsInside of c.row_type.result (view e.body) =
    element_inside of e.id rows c.row_type.result (view e.body) c.row_type.ensures bodies.1 in
    (search (rules, the_lemmas), (below, has))

pub put_container-loop-ie-preserved : goal.put_container-loop-ie-preserved
put_container-loop-ie-preserved t c =
    let l = c.loop-ie in
    let of = tree c.args.m.now in
    let rows : List IeRow = c.args.rows.now in
    let es : List (Element Value) = c.deref-ie-items.result.now in
    let e : Element Value = c.ie-item.result in
    let item : drop l.ie-index es ≡ e ∷ drop (l.ie-index + 1) es = item_at es l.ie-index e c.loop-ie-test.true c.ie-item.is in
    let bodies : AreBodies (rows_of of rows) (ies_view (e ∷ drop (l.ie-index + 1) es)) =
    subst (λ (fs : List (Element Value)). AreBodies (rows_of of rows) (ies_view fs)) item l.invariant.bodies in
    let padded = c.put_pad-in-loop-ie.new.out in
    let named = c.put_ie_id.new.out in
    let judged = c.put_constrained.new.out in
    let mid = c.put_body.new.out in
    let here : BodyFollows of rows e.id judged mid (view e.body) =
    body_follows of e.id rows c.row_type.result judged mid (view e.body) c.row_type.ensures c.in_ok-put_body-in-Ies.ensures.follows in
    let judgement : Follows named judged (λ p. asked p (constrained fields.index 2 2) e.criticality ∷ []) =
    subst (λ (n : ℕ). Follows named judged (λ p. asked p (constrained fields.index 2 2) n ∷ [])) c.from.ensures
    (c.in_ok-put_constrained-in-Ies.ensures.follows fields.index 2) in
    record {
      going = c.in_ok-put_body-in-Ies.ensures.going;
      bodies = bodies.2;
      follows = λ new more. l.invariant.follows new (subst (λ (fs : List (Element Value)). ElementsFollow of rows l.out new fs) (sym item)
          (element_next of rows l.out padded named judged mid new e (drop (l.ie-index + 1) es)
          c.in_ok-put_pad-in-Ies-2.ensures.follows c.in_ok-put_ie_id-in-Ies.ensures.follows judgement here more));
    }

pub put_container-returns-clause-going : goal.put_container-returns-clause-going
put_container-returns-clause-going t c =
    c.loop-ie.invariant.going

pub put_container-returns-clause-follows : goal.put_container-returns-clause-follows
put_container-returns-clause-follows t c =
    let of = tree c.args.m.now in
    let rows : List IeRow = c.args.rows.now in
    let es : List (Element Value) = c.in-Ies.ies.items in
    let seen : view c.args.value.now ≡ elements (ies_view es) = rw c.in-Ies.is (search (rules, the_lemmas)) in
    let l = c.loop-ie in
    let fs : List (Element Value) = c.deref-ie-items.result.now in
    let counted = c.put_ie_count.new.out in
    let last : ElementsFollow of rows l.out l.out (drop l.ie-index fs) =
    subst (λ (gs : List (Element Value)). ElementsFollow of rows l.out l.out gs) (sym (drop_all l.ie-index fs (omega arith)))
    (elements_none of rows l.out) in
    let all : ElementsFollow of rows counted l.out es =
    subst (λ (gs : List (Element Value)). ElementsFollow of rows counted l.out gs) c.deref-ie-items.ensures.value (l.invariant.follows l.out last) in
    follows_as c.args.out.now l.out _ _ _ _ refl seen
    (container_follows of rows es c.len.result c.args.out.now c.put_pad.new.out counted l.out (c.len.ensures ∙ c.in-Ies.ies.ok.0)
    c.in_ok-put_pad-in-Ies.ensures.follows c.in_ok-put_ie_count-in-Ies.ensures.follows all)

pub put_form-returns-in_ok-put_whole_number-in-Integer-clause-follows :
    goal.put_form-returns-in_ok-put_whole_number-in-Integer-clause-follows
put_form-returns-in_ok-put_whole_number-in-Integer-clause-follows t c =
    let of = tree c.args.m.now in
    let old = c.args.out.now in
    let new = c.put_whole_number.new.out in
    let v : SeenValue = view c.args.value.now in
    let i = c.in-Integer in
    let low : cast_signed w128 (cast_unsigned w128 i.low) ≡ i.low = search rules in
    let high : cast_signed w128 (cast_unsigned w128 i.high) ≡ i.high = search rules in
    let type : form_tree of c.args.form ≡ integer i.low i.high i.extensible = ap (λ (f : Form). form_tree of f) i.is in
    follows_of old new (form_tree of c.args.form) (integer i.low i.high i.extensible) v type
    (subst (λ (z : ℤ). ValueFollows old new (integer i.low z i.extensible) v) high
    (subst (λ (z : ℤ). ValueFollows old new (integer z (cast_signed w128 (cast_unsigned w128 i.high)) i.extensible) v) low
    c.in_ok-put_whole_number-in-Integer.ensures.follows))

pub put_list-put_count-requires-clause-most : goal.put_list-put_count-requires-clause-most
put_list-put_count-requires-clause-most t c =
    let element : Tree = tree c.args.m.now c.args.element.number in
    let vs : List Value = c.in-List.members.items in
    let seen : view c.args.value.now ≡ list (values_view vs) = rw c.in-List.is (search (rules, the_lemmas)) in
    let member : IsValue (sequence_of c.args.size element) (list (values_view vs)) = as_of _ _ _ _ refl seen c.requires.member in
    let few : value_count (values_view vs) < 65536 = list_count c.args.size element (values_view vs) c.requires.bounded member in
    omega (arith, few, values_count vs, c.len.ensures, c.in-List.members.ok.0)

pub put_list-loop-member-init : goal.put_list-loop-member-init
put_list-loop-member-init t c =
    let element : Tree = tree c.args.m.now c.args.element.number in
    let vs : List Value = c.in-List.members.items in
    let seen : view c.args.value.now ≡ list (values_view vs) = rw c.in-List.is (search (rules, the_lemmas)) in
    let member : IsValue (sequence_of c.args.size element) (list (values_view vs)) = as_of _ _ _ _ refl seen c.requires.member in
    record {
      going = c.in_ok-put_count-in-List.ensures.going;
      members = subst (λ (ws : List Value). AreMembers element (values_view ws)) (sym c.deref-member-items.ensures.value)
          (list_members c.args.size element (values_view vs) member);
      follows = λ new more. more;
    }

pub put_list-returns-clause-follows : goal.put_list-returns-clause-follows
put_list-returns-clause-follows t c =
    let element : Tree = tree c.args.m.now c.args.element.number in
    let vs : List Value = c.in-List.members.items in
    let seen : view c.args.value.now ≡ list (values_view vs) = rw c.in-List.is (search (rules, the_lemmas)) in
    let l = c.loop-member in
    let ws : List Value = c.deref-member-items.result.now in
    let mid = c.put_count.new.out in
    let last : MembersFollow element l.out l.out (drop l.member-index ws) =
    subst (λ (us : List Value). MembersFollow element l.out l.out us) (sym (drop_all l.member-index ws (omega arith))) (λ first p rest. refl) in
    let all : MembersFollow element mid l.out vs =
    subst (λ (us : List Value). MembersFollow element mid l.out us) c.deref-member-items.ensures.value (l.invariant.follows l.out last) in
    let counted : Follows c.args.out.now mid (λ p. count_fields p c.args.size (length vs)) =
    subst (λ (n : ℕ). Follows c.args.out.now mid (λ p. count_fields p c.args.size n)) (c.len.ensures ∙ c.in-List.members.ok.0)
    c.in_ok-put_count-in-List.ensures.follows in
    follows_as c.args.out.now l.out _ _ _ _ refl seen (list_follows c.args.size element vs c.args.out.now mid l.out counted all)

pub put_message-put_past-requires-clause-outcome :
    goal.put_message-put_past-requires-clause-outcome
put_message-put_past-requires-clause-outcome t c =
    let of = tree c.args.m.now in
    let rows : List ProcedureRow = c.args.rows.now in
    let outcome : ℕ = c.in-Pdu.outcome in
    let code : ℕ = c.in-Pdu.code in
    let criticality : ℕ = c.in-Pdu.criticality in
    let v : SeenValue = view c.deref.result.now in
    let same : view c.args.value.now ≡ message outcome code criticality (view c.in-Pdu.body.value) = rw c.in-Pdu.is (search (rules, the_lemmas)) in
    let seen : view c.args.value.now ≡ message outcome code criticality v =
    same ∙ ap (λ (y : Value). message outcome code criticality (view y)) (sym c.deref.ensures) in
    let member : IsValue (pdu (procedures_of of rows)) (message outcome code criticality v) = as_of _ _ _ _ refl seen c.requires.member in
    let past = message_past (procedures_of of rows) outcome code criticality v (omega arith) member in
    (omega arith, past.0)

pub put_message-put_past-requires-clause-body : goal.put_message-put_past-requires-clause-body
put_message-put_past-requires-clause-body t c =
    let of = tree c.args.m.now in
    let rows : List ProcedureRow = c.args.rows.now in
    let outcome : ℕ = c.in-Pdu.outcome in
    let code : ℕ = c.in-Pdu.code in
    let criticality : ℕ = c.in-Pdu.criticality in
    let v : SeenValue = view c.deref.result.now in
    let same : view c.args.value.now ≡ message outcome code criticality (view c.in-Pdu.body.value) = rw c.in-Pdu.is (search (rules, the_lemmas)) in
    let seen : view c.args.value.now ≡ message outcome code criticality v =
    same ∙ ap (λ (y : Value). message outcome code criticality (view y)) (sym c.deref.ensures) in
    let member : IsValue (pdu (procedures_of of rows)) (message outcome code criticality v) = as_of _ _ _ _ refl seen c.requires.member in
    let past = message_past (procedures_of of rows) outcome code criticality v (omega arith) member in
    past.1

pub put_message-returns-then-outcome-ge3-clause-follows :
    goal.put_message-returns-then-outcome-ge3-clause-follows
put_message-returns-then-outcome-ge3-clause-follows t c =
    let of = tree c.args.m.now in
    let rows : List ProcedureRow = c.args.rows.now in
    let outcome : ℕ = c.in-Pdu.outcome in
    let code : ℕ = c.in-Pdu.code in
    let criticality : ℕ = c.in-Pdu.criticality in
    let v : SeenValue = view c.deref.result.now in
    let same : view c.args.value.now ≡ message outcome code criticality (view c.in-Pdu.body.value) = rw c.in-Pdu.is (search (rules, the_lemmas)) in
    let seen : view c.args.value.now ≡ message outcome code criticality v =
    same ∙ ap (λ (y : Value). message outcome code criticality (view y)) (sym c.deref.ensures) in
    follows_as c.args.out.now c.put_past.new.out _ _ _ _ refl seen
    (message_past_follows (procedures_of of rows) outcome code criticality v c.args.out.now c.put_past.new.out (omega arith)
    c.in_ok-put_past-in-Pdu.ensures.follows)

pub put_message-put_head-requires-clause-criticality :
    goal.put_message-put_head-requires-clause-criticality
put_message-put_head-requires-clause-criticality t c =
    let of = tree c.args.m.now in
    let rows : List ProcedureRow = c.args.rows.now in
    let outcome : ℕ = c.in-Pdu.outcome in
    let code : ℕ = c.in-Pdu.code in
    let criticality : ℕ = c.in-Pdu.criticality in
    let seen : view c.args.value.now ≡ message outcome code criticality (view c.in-Pdu.body.value) = rw c.in-Pdu.is (search (rules, the_lemmas)) in
    (message_known (procedures_of of rows) outcome code criticality (view c.in-Pdu.body.value) (omega arith)
    (as_of _ _ _ _ refl seen c.requires.member)).0

pub put_message-put_body-requires : goal.put_message-put_body-requires
put_message-put_body-requires t c =
    let of = tree c.args.m.now in
    let rows : List ProcedureRow = c.args.rows.now in
    let outcome : ℕ = c.in-Pdu.outcome in
    let code : ℕ = c.in-Pdu.code in
    let criticality : ℕ = c.in-Pdu.criticality in
    let v : SeenValue = view c.deref-in-Pdu.result.now in
    let same : view c.args.value.now ≡ message outcome code criticality (view c.in-Pdu.body.value) = rw c.in-Pdu.is (search (rules, the_lemmas)) in
    let seen : view c.args.value.now ≡ message outcome code criticality v =
    same ∙ ap (λ (y : Value). message outcome code criticality (view y)) (sym c.deref-in-Pdu.ensures) in
    let member : IsValue (pdu (procedures_of of rows)) (message outcome code criticality v) = as_of _ _ _ _ refl seen c.requires.member in
    let known = message_known (procedures_of of rows) outcome code criticality v (omega arith) member in
    let below : OptionBelow (length c.args.m.now.nodes) c.message_type.result =
    messages_below (length c.args.m.now.nodes) outcome code rows c.message_type.result c.requires.inside c.message_type.ensures in
    let has : IsInside of c.message_type.result v =
    message_inside of outcome code rows c.message_type.result v c.message_type.ensures known.1 in
    (search (rules, the_lemmas), (below, has))

pub put_message-returns-clause-follows : goal.put_message-returns-clause-follows
put_message-returns-clause-follows t c =
    let of = tree c.args.m.now in
    let rows : List ProcedureRow = c.args.rows.now in
    let outcome : ℕ = c.in-Pdu.outcome in
    let code : ℕ = c.in-Pdu.code in
    let criticality : ℕ = c.in-Pdu.criticality in
    let v : SeenValue = view c.deref-in-Pdu.result.now in
    let same : view c.args.value.now ≡ message outcome code criticality (view c.in-Pdu.body.value) = rw c.in-Pdu.is (search (rules, the_lemmas)) in
    let seen : view c.args.value.now ≡ message outcome code criticality v =
    same ∙ ap (λ (y : Value). message outcome code criticality (view y)) (sym c.deref-in-Pdu.ensures) in
    follows_as c.args.out.now c.put_body.new.out _ _ _ _ refl seen
    (message_known_follows (procedures_of of rows) outcome code criticality v c.args.out.now c.put_head.new.out c.put_body.new.out (omega arith)
    c.in_ok-put_head-in-Pdu.ensures.follows
    (message_follows of outcome code rows c.message_type.result c.put_head.new.out c.put_body.new.out v c.message_type.ensures
    c.in_ok-put_body-in-Pdu.ensures.follows))

pub put_sequence-put_flags-requires-clause-size : goal.put_sequence-put_flags-requires-clause-size
put_sequence-put_flags-requires-clause-size t c =
    let of = tree c.args.m.now in
    let members : Extensible Component = c.args.members.now in
    let vs : List (Option Value) = c.in-Seq.root.items in
    let more : List (Option Value) = c.in-Seq.additions.items in
    let seen : view c.args.value.now ≡ components (options_view vs) (options_view more) = rw c.in-Seq.is (search (rules, the_lemmas)) in
    let member : IsValue (sequence_tree of members) (components (options_view vs) (options_view more)) = as_of _ _ _ _ refl seen c.requires.member in
    let root : AreComponents (parts_of of members.root) (options_view vs) = sequence_root _ _ _ (options_view vs) (options_view more) member in
    let few : length vs ≤ length members.root = components_fit of members.root vs root in
    rw c.deref.ensures.value (rw c.as_slice-parts.ensures few)

pub put_sequence-put_components-requires : goal.put_sequence-put_components-requires
put_sequence-put_components-requires t c =
    let of = tree c.args.m.now in
    let members : Extensible Component = c.args.members.now in
    let vs : List (Option Value) = c.in-Seq.root.items in
    let more : List (Option Value) = c.in-Seq.additions.items in
    let seen : view c.args.value.now ≡ components (options_view vs) (options_view more) = rw c.in-Seq.is (search (rules, the_lemmas)) in
    let member : IsValue (sequence_tree of members) (components (options_view vs) (options_view more)) = as_of _ _ _ _ refl seen c.requires.member in
    let root : AreComponents (parts_of of members.root) (options_view vs) = sequence_root _ _ _ (options_view vs) (options_view more) member in
    let below : AreBelow (length c.args.m.now.nodes) c.as_slice-parts.result.now =
    subst (λ (cs : List Component). AreBelow (length c.args.m.now.nodes) cs) (sym c.as_slice-parts.ensures) c.requires.inside.0 in
    let has : AreComponents (parts_of of c.as_slice-parts.result.now) (options_view c.deref-in-Seq.result.now) =
    subst (λ (cs : List Component). AreComponents (parts_of of cs) (options_view c.deref-in-Seq.result.now)) (sym c.as_slice-parts.ensures)
    (subst (λ (ws : List (Option Value)). AreComponents (parts_of of members.root) (options_view ws)) (sym c.deref-in-Seq.ensures.value) root) in
    (search (rules, the_lemmas), (below, (has, c.in_ok-put_flags-in-Seq.ensures.going)))

pub put_sequence-put_marks-requires-clause-size : goal.put_sequence-put_marks-requires-clause-size
put_sequence-put_marks-requires-clause-size t c =
    let of = tree c.args.m.now in
    let members : Extensible Component = c.args.members.now in
    let vs : List (Option Value) = c.in-Seq.root.items in
    let more : List (Option Value) = c.in-Seq.additions.items in
    let seen : view c.args.value.now ≡ components (options_view vs) (options_view more) = rw c.in-Seq.is (search (rules, the_lemmas)) in
    let member : IsValue (sequence_tree of members) (components (options_view vs) (options_view more)) = as_of _ _ _ _ refl seen c.requires.member in
    let few : length (presence (options_view more)) ≤ 64 = sequence_few _ _ _ (options_view vs) (options_view more) member in
    omega (arith, few, presence_count more, ap (λ (ws : List (Option Value)). length ws) c.deref-in-Seq-2.ensures.value)

pub put_sequence-put_additions-requires : goal.put_sequence-put_additions-requires
put_sequence-put_additions-requires t c =
    let of = tree c.args.m.now in
    let members : Extensible Component = c.args.members.now in
    let vs : List (Option Value) = c.in-Seq.root.items in
    let more : List (Option Value) = c.in-Seq.additions.items in
    let seen : view c.args.value.now ≡ components (options_view vs) (options_view more) = rw c.in-Seq.is (search (rules, the_lemmas)) in
    let member : IsValue (sequence_tree of members) (components (options_view vs) (options_view more)) = as_of _ _ _ _ refl seen c.requires.member in
    let below : AreBelow (length c.args.m.now.nodes) c.named.result.now =
    subst (λ (cs : List Component). AreBelow (length c.args.m.now.nodes) cs) (sym c.named.ensures) c.requires.inside.1 in
    let has : AreNamed (parts_of of c.named.result.now) (options_view c.deref-in-Seq-3.result.now) =
    subst (λ (cs : List Component). AreNamed (parts_of of cs) (options_view c.deref-in-Seq-3.result.now)) (sym c.named.ensures)
    (subst (λ (ws : List (Option Value)). AreNamed (parts_of of (additions_of members.additions)) (options_view ws))
    (sym c.deref-in-Seq-3.ensures.value) (sequence_named _ _ _ (options_view vs) (options_view more) member)) in
    (search (rules, the_lemmas), (below, (has, c.in_ok-put_marks-in-Seq.ensures.going)))

pub put_sequence-returns-clause-follows : goal.put_sequence-returns-clause-follows
put_sequence-returns-clause-follows t c =
    let of = tree c.args.m.now in
    let members : Extensible Component = c.args.members.now in
    let vs : List (Option Value) = c.in-Seq.root.items in
    let more : List (Option Value) = c.in-Seq.additions.items in
    let seen : view c.args.value.now ≡ components (options_view vs) (options_view more) = rw c.in-Seq.is (search (rules, the_lemmas)) in
    let additions : List Component = additions_of members.additions in
    let old = c.args.out.now in
    let begun = c.put_extension.new.out in
    let flagged = c.put_flags.new.out in
    let half = c.put_components.new.out in
    let marked = c.put_marks.new.out in
    let new = c.put_additions.new.out in
    let any : not c.is_empty.result ≡ has_options (options_view more) =
    ap not (c.is_empty.ensures ∙ ap (λ (n : ℕ). n == 0) c.in-Seq.additions.ok.0) ∙ has_any more in
    let one : Follows old begun (λ p. extension_fields p (is_extensible members) (has_options (options_view more))) =
    subst (λ (b : Bool). Follows old begun (λ p. extension_fields p (is_extensible members) b)) any
    (subst (λ (e : Bool). Follows old begun (λ p. extension_fields p e (not c.is_empty.result))) c.is_some.ensures
    c.in_ok-put_extension-in-Seq.ensures.follows) in
    let two : FlagsFollow begun flagged members.root vs =
    subst (λ (ws : List (Option Value)). FlagsFollow begun flagged members.root ws) c.deref.ensures.value
    (subst (λ (cs : List Component). FlagsFollow begun flagged cs c.deref.result.now) c.as_slice-parts.ensures
    c.in_ok-put_flags-in-Seq.ensures.follows) in
    let three : ComponentsFollow of flagged half members.root vs =
    subst (λ (ws : List (Option Value)). ComponentsFollow of flagged half members.root ws) c.deref-in-Seq.ensures.value
    (subst (λ (cs : List Component). ComponentsFollow of flagged half cs c.deref-in-Seq.result.now) c.as_slice-parts.ensures
    c.in_ok-put_components-in-Seq.ensures.follows) in
    let four : Follows half marked (λ p. mark_fields p (options_view more)) =
    subst (λ (ws : List (Option Value)). Follows half marked (λ p. mark_fields p (options_view ws))) c.deref-in-Seq-2.ensures.value
    c.in_ok-put_marks-in-Seq.ensures.follows in
    let five : AdditionsFollow of marked new additions more =
    subst (λ (ws : List (Option Value)). AdditionsFollow of marked new additions ws) c.deref-in-Seq-3.ensures.value
    (subst (λ (cs : List Component). AdditionsFollow of marked new cs c.deref-in-Seq-3.result.now) c.named.ensures
    c.in_ok-put_additions-in-Seq.ensures.follows) in
    follows_as old new _ _ _ _ refl seen
    (sequence_follows of (is_extensible members) members.root additions vs more old begun flagged half marked new one two three four five)
