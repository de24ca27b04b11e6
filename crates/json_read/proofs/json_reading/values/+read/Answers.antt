use Rattle.std.proofs.Common.{rules, ◌≡◌, ℕ, suc, ◌+◌, ◌*◌, ◌-◌, ◌<◌, ◌≤◌, ◌++◌, append-nil, append_assoc, List, [], ◌∷◌, length, drop, map, Bool, true, false, ◌&&◌, Option, Some, None, is_some, option_map, Result, Ok, Err, refl, sym, ap, subst, ◌∙◌, arith}
use Rattle.std.specs.Prelude.{nat_lt, nat_le, slice_get}
use Rattle.std.proofs.lemmas.List.{drop_all}
use Rattle.std.proofs.lemmas.Result.{err_from_is_err_and}
use Rattle.serde_json.specs.Data.{Data, object, Items, Members}
use Rattle.serde_json.specs.Find.{get_member}
use Rattle.serde_json.specs.declared.value.Value as trees
use Rattle.serde_json.specs.View.{view as json, items_view, members_view}
use Rattle.asn1_syntax.specs.declared.types.definition.Component.{Component}
use Rattle.asn1_syntax.specs.declared.types.definition.Extensible.{Extensible}
use Rattle.asn1_syntax.specs.declared.types.definition.TypeId.{TypeId}
use Rattle.asn1_syntax.specs.types.Members.{additions_of}
use Rattle.asn1_syntax.specs.declared.assignments.assignment.IeRow.{IeRow}
use Rattle.asn1_syntax.specs.declared.assignments.assignment.ProcedureRow.{ProcedureRow}
use Rattle.asn1_defs.specs.Links.{AreBelow, OptionBelow}
use Rattle.aper_defs.specs.Fields.{Path}
use Rattle.aper_defs.specs.Fields as ways
use Rattle.aper_defs.specs.Trees.{Tree, slots}
use Rattle.aper_defs.specs.Values as seen
use Rattle.aper_defs.specs.Membership.{is_count_of}
use Rattle.aper_fields.specs.members.Rows.{row_type, message_type}
use Rattle.aper_fields.proofs.members.Turns.{below_at, item_at}
use Rattle.aper_fields.proofs.members.RowLemmas.{body_below}
use Rattle.aper_fields.proofs.members.MessageLemmas.{messages_below}
use Rattle.aper_values.specs.types.Types as types
use Rattle.aper_values.specs.types.Types.{tree, is_extensible}
use Rattle.aper_values.specs.declared.value.Value.{Value, the_lemmas}
use Rattle.aper_values.specs.declared.value.Value.TheVariants as values
use Rattle.aper_values.specs.declared.value.Element.{Element}
use Rattle.aper_values.specs.Views.{view, values_view, element_view, ies_view}
use Rattle.json_defs.specs.declared.fault.JsonFault.TheVariants.{Shape, Range}
use Rattle.json_defs.specs.Named.{Named, rows_of, choice, sequence_of, container, pdu}
use Rattle.json_defs.specs.Members.{Text, is_null, are_keys_among, has_member, member_of, dots, value_key, criticality_key, item_count}
use Rattle.json_defs.specs.Shown.{element_keys, body_keys}
use Rattle.json_defs.specs.Readings.{first_of, read_if, past_in, past_raw_in, value_of, raw_in}
use Rattle.json_defs.specs.Demands.{first_fault, shape, range, fits_open, past_demands, only_member, demands, component_demands, Demand, raw_demands, any_told, are_in_order}
use Rattle.json_defs.specs.type_defs.Types.{named, parts_with, rows_with, procedures_with}
use Rattle.json_fields.specs.types.Forms.{form_named, sequence_named, choice_named}
use Rattle.json_fields.specs.declared.simple.refusal.Refusal.{Refusal}
use Rattle.json_fields.specs.simple.Answers.{Tells}
use Rattle.json_fields.specs.parts.Order.{are_ids_in_order, ids_of}
use Rattle.json_read.specs.declared.wholes.heads.ElementHead.{ElementHead}
use Rattle.json_read.specs.declared.wholes.wholes.Additions.{Additions}
use Rattle.json_read.specs.declared.wholes.heads.BodyHead.{BodyHead}
use Rattle.json_read.specs.wholes.Reads.{ReadsAs, ReadsAdditions, HasAsked, unfit_at}
use Rattle.json_read.proofs.wholes.Demanded.{one_none, told_first, told_same, reads_same}
use Rattle.json_read.proofs.wholes.Puts.{mapped, values_end, options_end, ies_end}
use Rattle.json_read.proofs.wholes.Passed.{here_told, null_is}
use Rattle.proof_json.proofs.values.Words.{below, is_less}
use Rattle.json_read.specs.reading.Inside.{listed, opened, added, contents_demands, contents_read}
use Rattle.json_read.proofs.reading.Weights.{weight, members_weight, member_light, item_light, outcome_light, additions_light, array_weight, object_weight, seen_array, seen_object}
use Rattle.json_read.proofs.reading.Lists.{Left, turn, stop, done, member_asked, list_tail, IsList, list_more, list_whole}
use Rattle.json_read.proofs.reading.Components.{ComponentsLeft, component_asked, component_turn, component_stop, components_done, asked_there, asked_absent}
use Rattle.json_read.proofs.reading.Elements.{element_asked, container_tail, IsContainer, head_stops, contents_stop, contents_pass, container_more, container_tail_is, container_whole, too_many, seen_ids, ids_in, ids_seen, ids_more}
use Rattle.json_read.proofs.reading.Alternatives.{same_item, missing, found_in, root_whole, addition_whole, past_whole}
use Rattle.json_read.proofs.reading.Additions.{addition_asked, additions_tail, AreAdditions, Made, more_additions, null_asked, null_opened, null_read, none_last, some_read, one_asked, one_read, one_opened, part_at, no_part_at, fitting, raw_asked, part_asked, part_opened, all_additions, additions_whole}
use Rattle.json_read.proofs.reading.Forms.{form_small, by_form, has_asked}
use Rattle.json_read.proofs.reading.Messages.{has_passed, has_put, contents_rest, contents_whole, message_past, head_told, message_known}
use Rattle.json_read.proofs.reading.Sequences.{root_told, root_read, plain_whole, extended_whole, no_additions_asked}
use Rattle.json_read.proofs.json_reading.values.+read.Goals as goal

-- ---- values
pub value_in-form_in-requires : goal.value_in-form_in-requires
value_in-form_in-requires t c =
    let small = form_small c.args.m.now c.args.id.number c.form_of.result c.name.ensures.sound c.form_of.ensures.named in
    (omega (arith, c.decreases), (c.form_of.ensures.inside, small))

pub value_in-returns-clause-read : goal.value_in-returns-clause-read
value_in-returns-clause-read t c =
    by_form (named c.args.m.now c.args.id.number) (form_named (named c.args.m.now) c.form_of.result) (json c.args.d.now) c.form_in.result
    c.form_of.ensures.named c.form_in.ensures

-- ---- components
pub components_in-loop-part-init : goal.components_in-loop-part-init
components_in-loop-part-init t c =
    λ answer h. subst (λ (xs : List (Option Value)). ComponentsLeft (named c.args.m.now) (members_view c.args.members.now.entries)
    (map (option_map view) xs) c.args.parts.now answer) c.new-values.ensures.items h

pub components_in-returns-in_err-put_absent : goal.components_in-returns-in_err-put_absent
components_in-returns-in_err-put_absent t c =
    let l = c.loop-part in
    let of = named c.args.m.now in
    let ms : Members = members_view c.args.members.now.entries in
    let part : Component = c.part-item.result in
    let p = err_from_is_err_and c.from_residual.result c.from_residual.ensures.1 in
    let e : Refusal = c.in_err-put_absent.field-0.0 in
    rw (p.1, p.2)
    (l.invariant (Err e)
    (component_stop of ms c.args.parts.now l.part-index part (map (option_map view) l.values.items) e c.loop-part-test.true c.part-item.is
    (told_same (component_asked of ms part) (λ q. shape (ways.component part.name ∷ q) part.optional ∷ []) e
    (asked_absent of ms part (c.in_default.ensures ∙ ap (λ n. get_member n ms) c.as_slice-name.ensures)) c.in_err-put_absent.ensures)))

pub components_in-loop-part-preserved-in_default : goal.components_in-loop-part-preserved-in_default
components_in-loop-part-preserved-in_default t c =
    λ answer h. let l = c.loop-part in
    let of = named c.args.m.now in
    let ms : Members = members_view c.args.members.now.entries in
    let part : Component = c.part-item.result in
    let absent : None ≡ get_member part.name ms = c.in_default.ensures ∙ ap (λ n. get_member n ms) c.as_slice-name.ensures in
    l.invariant answer
    (component_turn of ms c.args.parts.now l.part-index part (map (option_map view) l.values.items)
    (map (option_map view) c.put_absent.new.values.items) answer c.loop-part-test.true c.part-item.is
    (λ p. ap first_fault (asked_absent of ms part absent p) ∙ c.in_ok-put_absent.ensures.0 p)
    (c.in_ok-put_absent.ensures.1
    ∙ ap (λ (o : Option Data). map (option_map view) l.values.items ++ read_if (λ d. value_of (of part.definition.number) d) o ∷ []) absent) h)

pub components_in-value_in-asked-requires : goal.components_in-value_in-asked-requires
components_in-value_in-asked-requires t c =
    let l = c.loop-part in
    let n : ℕ = length c.args.m.now.nodes in
    let ms : Members = members_view c.args.members.now.entries in
    let light : weight (json c.in-Some.d.now) ≤ members_weight ms = member_light _ ms (json c.in-Some.d.now) (sym c.in-Some.ensures) in
    (omega (arith, light, c.decreases), below_at n c.args.parts.now l.part-index c.part-item.result c.requires c.loop-part-test.true c.part-item.is)

pub components_in-returns-in_err-put_present : goal.components_in-returns-in_err-put_present
components_in-returns-in_err-put_present t c =
    let l = c.loop-part in
    let of = named c.args.m.now in
    let ms : Members = members_view c.args.members.now.entries in
    let part : Component = c.part-item.result in
    let d : Data = json c.in-Some.d.now in
    let p = err_from_is_err_and c.from_residual-in_err-put_present.result c.from_residual-in_err-put_present.ensures.1 in
    let e : Refusal = c.in_err-put_present.field-0.0 in
    let asked = c.inside.ensures (λ q. demands q (of part.definition.number) d) (value_of (of part.definition.number) d) c.value_in-asked.ensures.read in
    let told : Tells (λ q. demands (ways.component c.as_slice-name.result.now ∷ q) (of part.definition.number) d) e =
    c.in_err-put_present.ensures (λ q. demands (ways.component c.as_slice-name.result.now ∷ q) (of part.definition.number) d)
    (value_of (of part.definition.number) d) asked in
    rw (p.1, p.2)
    (l.invariant (Err e)
    (component_stop of ms c.args.parts.now l.part-index part (map (option_map view) l.values.items) e c.loop-part-test.true c.part-item.is
    (told_same (component_asked of ms part) (λ q. demands (ways.component part.name ∷ q) (of part.definition.number) d) e
    (asked_there of ms part d (c.in-Some.ensures ∙ ap (λ n. get_member n ms) c.as_slice-name.ensures))
    (subst (λ (n : List ℕ). Tells (λ q. demands (ways.component n ∷ q) (of part.definition.number) d) e) c.as_slice-name.ensures told))))

pub components_in-loop-part-preserved : goal.components_in-loop-part-preserved
components_in-loop-part-preserved t c =
    λ answer h. let l = c.loop-part in
    let of = named c.args.m.now in
    let ms : Members = members_view c.args.members.now.entries in
    let part : Component = c.part-item.result in
    let d : Data = json c.in-Some.d.now in
    let there : Some d ≡ get_member part.name ms = c.in-Some.ensures ∙ ap (λ n. get_member n ms) c.as_slice-name.ensures in
    let asked = c.inside.ensures (λ q. demands q (of part.definition.number) d) (value_of (of part.definition.number) d) c.value_in-asked.ensures.read in
    let k = c.in_ok-put_present.ensures (λ q. demands (ways.component c.as_slice-name.result.now ∷ q) (of part.definition.number) d)
    (value_of (of part.definition.number) d) asked in
    l.invariant answer
    (component_turn of ms c.args.parts.now l.part-index part (map (option_map view) l.values.items)
    (map (option_map view) c.put_present.new.values.items) answer c.loop-part-test.true c.part-item.is
    (λ p. ap first_fault (asked_there of ms part d there p)
    ∙ subst (λ (n : List ℕ). first_fault (demands (ways.component n ∷ p) (of part.definition.number) d) ≡ None) c.as_slice-name.ensures (k.0 p))
    (k.1
    ∙ ap (λ (o : Option Data). map (option_map view) l.values.items ++ read_if (λ x. value_of (of part.definition.number) x) o ∷ []) there) h)

pub components_in-returns : goal.components_in-returns
components_in-returns t c =
    let l = c.loop-part in
    l.invariant (Ok l.values)
    (components_done (named c.args.m.now) (members_view c.args.members.now.entries) c.args.parts.now l.part-index l.values
    (map (option_map view) l.values.items) c.loop-part-test.false refl)

-- ---- SEQUENCE OF
pub list_in-loop-i-init : goal.list_in-loop-i-init
list_in-loop-i-init t c =
    λ answer h. let u : Named = named c.args.m.now c.args.element.number in
    let vs : List trees.Value = c.as_slice-items.result.now in
    subst (λ (xs : List Value). Left (member_asked u) (list_tail u c.args.size vs) (IsList u) (map view xs) 0 (items_view vs) answer)
    c.new-values.ensures.items h

pub list_in-value_in-asked-requires : goal.list_in-value_in-asked-requires
list_in-value_in-asked-requires t c =
    let l = c.loop-i in
    let vs : List trees.Value = c.as_slice-items.result.now in
    let whole = array_weight c.args.d.now c.in-Array.items vs c.in-Array.is c.as_slice-items.ensures.value in
    let light = item_light vs l.i c.index-items-i.result c.loop-i-test.true c.index-items-i.is in
    (omega (arith, whole, light, c.decreases), c.requires)

pub list_in-returns-in_err-put_member : goal.list_in-returns-in_err-put_member
list_in-returns-in_err-put_member t c =
    let l = c.loop-i in
    let u : Named = named c.args.m.now c.args.element.number in
    let vs : List trees.Value = c.as_slice-items.result.now in
    let x : trees.Value = c.index-items-i.result in
    let shown = seen_array c.args.d.now c.in-Array.items vs c.in-Array.is c.as_slice-items.ensures.value in
    let p = err_from_is_err_and c.from_residual.result c.from_residual.ensures.1 in
    let e : Refusal = c.in_err-put_member.field-0.0 in
    let asked = c.inside.ensures (λ q. demands q u (json x)) (value_of u (json x)) c.value_in-asked.ensures.read in
    let told : Tells (λ q. demands (ways.member l.i ∷ q) u (json x)) e =
    c.in_err-put_member.ensures (λ q. demands (ways.member l.i ∷ q) u (json x)) (value_of u (json x)) asked in
    rw (p.1, p.2)
    (subst (λ (y : Data). ReadsAs (λ q. demands q (sequence_of c.args.size u) y) (value_of (sequence_of c.args.size u) y) (Err e)) (sym shown)
    (list_whole u c.args.size vs (Err e) (l.invariant (Err e)
    (stop (member_asked u) (list_tail u c.args.size vs) (IsList u) vs l.i x (map view l.values.items) e c.loop-i-test.true c.index-items-i.is told))))

pub list_in-loop-i-preserved : goal.list_in-loop-i-preserved
list_in-loop-i-preserved t c =
    λ answer h. let l = c.loop-i in
    let u : Named = named c.args.m.now c.args.element.number in
    let vs : List trees.Value = c.as_slice-items.result.now in
    let x : trees.Value = c.index-items-i.result in
    let asked = c.inside.ensures (λ q. demands q u (json x)) (value_of u (json x)) c.value_in-asked.ensures.read in
    let k = c.in_ok-put_member.ensures (λ q. demands (ways.member l.i ∷ q) u (json x)) (value_of u (json x)) asked in
    let made : List seen.Value = map view l.values.items in
    let more : List seen.Value = map view c.put_member.new.values.items in
    l.invariant answer
    (turn (member_asked u) (list_tail u c.args.size vs) (IsList u) vs l.i x made more answer c.loop-i-test.true c.index-items-i.is k.0
    (λ v g. list_more u made more l.i (l.i + 1) (json x) (items_view (drop (l.i + 1) vs)) v k.1 g) h)

pub list_in-returns-then-not-is_member_count_of : goal.list_in-returns-then-not-is_member_count_of
list_in-returns-then-not-is_member_count_of t c =
    let l = c.loop-i in
    let u : Named = named c.args.m.now c.args.element.number in
    let vs : List trees.Value = c.as_slice-items.result.now in
    let shown = seen_array c.args.d.now c.in-Array.items vs c.in-Array.is c.as_slice-items.ensures.value in
    let e : Refusal = c.range.result in
    subst (λ (y : Data). ReadsAs (λ q. demands q (sequence_of c.args.size u) y) (value_of (sequence_of c.args.size u) y) (Err e)) (sym shown)
    (list_whole u c.args.size vs (Err e) (l.invariant (Err e)
    (done (member_asked u) (list_tail u c.args.size vs) (IsList u) vs l.i (map view l.values.items) (Err e) c.loop-i-test.false
    (here_told Range e (λ q. is_count_of (Some 16383) c.args.size (length vs)) c.range.ensures
    (λ q. sym c.is_member_count_of.ensures ∙ c.if-not-is_member_count_of.true)))))

pub list_in-returns : goal.list_in-returns
list_in-returns t c =
    let l = c.loop-i in
    let u : Named = named c.args.m.now c.args.element.number in
    let vs : List trees.Value = c.as_slice-items.result.now in
    let shown = seen_array c.args.d.now c.in-Array.items vs c.in-Array.is c.as_slice-items.ensures.value in
    let made : List seen.Value = map view l.values.items in
    let v : Value = values.List l.values in
    let is : view v ≡ seen.list (values_view l.values.items) = search (rules, the_lemmas) in
    subst (λ (y : Data). ReadsAs (λ q. demands q (sequence_of c.args.size u) y) (value_of (sequence_of c.args.size u) y) (Ok v)) (sym shown)
    (list_whole u c.args.size vs (Ok v) (l.invariant (Ok v)
    (done (member_asked u) (list_tail u c.args.size vs) (IsList u) vs l.i made (Ok v) c.loop-i-test.false (
      λ q. one_none q Range (is_count_of (Some 16383) c.args.size (length vs))
          (sym c.is_member_count_of.ensures ∙ c.if-not-is_member_count_of.false),
      is ∙ ap seen.list (sym (values_end made)),
    ))))

-- ---- information elements
pub container_in-loop-item-init : goal.container_in-loop-item-init
container_in-loop-item-init t c =
    let of = named c.args.m.now in
    let rows : List IeRow = c.args.rows.now in
    let vs : List trees.Value = c.as_slice-items.result.now in (
      λ answer h. subst (λ (xs : List (Element Value)). Left (element_asked of rows) (container_tail of rows (items_view vs)) (IsContainer of rows)
          (map element_view xs) 0 (items_view vs) answer) c.new-ies.ensures.items h,
      ap (λ (xs : List (Element Value)). seen_ids of rows (map element_view xs) ++ ids_in of rows (items_view vs)) c.new-ies.ensures.items,
    )

pub container_in-returns-in_err-head : goal.container_in-returns-in_err-head
container_in-returns-in_err-head t c =
    let l = c.loop-item in
    let of = named c.args.m.now in
    let rows : List IeRow = c.args.rows.now in
    let vs : List trees.Value = c.as_slice-items.result.now in
    let x : trees.Value = c.item-item.result in
    let shown = seen_array c.args.d.now c.in-Array.items vs c.in-Array.is c.as_slice-items.ensures.value in
    let p = err_from_is_err_and c.from_residual.result c.from_residual.ensures.1 in
    let e : Refusal = c.in_err-head.field-0.0 in
    rw (p.1, p.2)
    (subst (λ (y : Data). ReadsAs (λ q. demands q (container (rows_with of rows)) y) (value_of (container (rows_with of rows)) y) (Err e)) (sym shown)
    (container_whole of rows vs (Err e) (l.invariant.0 (Err e)
    (stop (element_asked of rows) (container_tail of rows (items_view vs)) (IsContainer of rows) vs l.item-index x (map element_view l.ies.items) e
    c.loop-item-test.true c.item-item.is (head_stops of rows l.item-index (json x) e c.in_err-head.ensures)))))

pub container_in-contents_in-asked-requires : goal.container_in-contents_in-asked-requires
container_in-contents_in-asked-requires t c =
    let l = c.loop-item in
    let n : ℕ = length c.args.m.now.nodes in
    let vs : List trees.Value = c.as_slice-items.result.now in
    let whole = array_weight c.args.d.now c.in-Array.items vs c.in-Array.is c.as_slice-items.ensures.value in
    let light = item_light vs l.item-index c.item-item.result c.loop-item-test.true c.item-item.is in
    let own : weight (json c.item-item.result) ≡ suc (members_weight (members_view c.in_ok-head.head.members.now.entries)) =
    ap weight c.in_ok-head.ensures.1.is in (
      omega (arith, whole, light, own, c.decreases),
      body_below (tree c.args.m.now) n c.in_ok-head.head.id c.args.rows.now c.row_type.result c.requires c.row_type.ensures,
    )

pub container_in-returns-in_err-put_element : goal.container_in-returns-in_err-put_element
container_in-returns-in_err-put_element t c =
    let l = c.loop-item in
    let of = named c.args.m.now in
    let rows : List IeRow = c.args.rows.now in
    let vs : List trees.Value = c.as_slice-items.result.now in
    let x : trees.Value = c.item-item.result in
    let head : ElementHead = c.in_ok-head.head in
    let ms : Members = members_view head.members.now.entries in
    let shown = seen_array c.args.d.now c.in-Array.items vs c.in-Array.is c.as_slice-items.ensures.value in
    let p = err_from_is_err_and c.from_residual-in_err-put_element.result c.from_residual-in_err-put_element.ensures.1 in
    let e : Refusal = c.in_err-put_element.field-0.0 in
    let asked : ReadsAs (λ q. contents_demands of (row_type head.id rows) q element_keys ms) (contents_read of (row_type head.id rows) ms)
    c.contents_in-asked.result =
    subst (λ (o : Option TypeId). ReadsAs (λ q. contents_demands of o q element_keys ms) (contents_read of o ms) c.contents_in-asked.result)
    c.row_type.ensures c.contents_in-asked.ensures in
    let told = c.in_err-put_element.ensures (λ q. contents_demands of (row_type head.id rows) q element_keys ms)
    (contents_read of (row_type head.id rows) ms) asked in
    rw (p.1, p.2)
    (subst (λ (y : Data). ReadsAs (λ q. demands q (container (rows_with of rows)) y) (value_of (container (rows_with of rows)) y) (Err e)) (sym shown)
    (container_whole of rows vs (Err e) (l.invariant.0 (Err e)
    (stop (element_asked of rows) (container_tail of rows (items_view vs)) (IsContainer of rows) vs l.item-index x (map element_view l.ies.items) e
    c.loop-item-test.true c.item-item.is
    (contents_stop of rows l.item-index (json x) head c.in_ok-head.ensures.1 c.in_ok-head.ensures.0 e told)))))

pub container_in-loop-item-preserved : goal.container_in-loop-item-preserved
container_in-loop-item-preserved t c =
    let l = c.loop-item in
    let of = named c.args.m.now in
    let rows : List IeRow = c.args.rows.now in
    let vs : List trees.Value = c.as_slice-items.result.now in
    let x : trees.Value = c.item-item.result in
    let i : ℕ = l.item-index in
    let head : ElementHead = c.in_ok-head.head in
    let ms : Members = members_view head.members.now.entries in
    let asked : ReadsAs (λ q. contents_demands of (row_type head.id rows) q element_keys ms) (contents_read of (row_type head.id rows) ms)
    c.contents_in-asked.result =
    subst (λ (o : Option TypeId). ReadsAs (λ q. contents_demands of o q element_keys ms) (contents_read of o ms) c.contents_in-asked.result)
    c.row_type.ensures c.contents_in-asked.ensures in
    let k = c.in_ok-put_element.ensures (λ q. contents_demands of (row_type head.id rows) q element_keys ms)
    (contents_read of (row_type head.id rows) ms) asked in
    let made : List (Element seen.Value) = map element_view l.ies.items in
    let more : List (Element seen.Value) = map element_view c.put_element.new.ies.items in
    let rest : Items = items_view (drop (i + 1) vs) in (
      λ answer h. l.invariant.0 answer
          (turn (element_asked of rows) (container_tail of rows (items_view vs)) (IsContainer of rows) vs i x made more answer c.loop-item-test.true
          c.item-item.is (contents_pass of rows i (json x) head c.in_ok-head.ensures.1 c.in_ok-head.ensures.0 k.0)
          (λ v g. container_more of rows i (json x) head c.in_ok-head.ensures.1 c.in_ok-head.ensures.0 made more (i + 1) rest v k.1 g) h),
      ids_more of rows made more head (contents_read of (row_type head.id rows) ms) (json x) rest c.in_ok-head.ensures.1 k.1
          ∙ ap (λ (ws : List trees.Value). seen_ids of rows made ++ ids_in of rows (items_view ws)) (sym (item_at vs i x c.loop-item-test.true c.item-item.is))
          ∙ l.invariant.1,
    )

-- the whole, after its members
module _ (of : ℕ → Named) (rows : List IeRow) (vs : List trees.Value) (i : ℕ) (es : List (Element Value)) where
  all_ids : length vs ≤ i → seen_ids of rows (map element_view es) ++ ids_in of rows (items_view (drop i vs)) ≡ ids_in of rows (items_view vs)
      → ids_of es ≡ ids_in of rows (items_view vs)
  all_ids most h =
      ids_seen of rows es
      ∙ sym (append-nil (seen_ids of rows (map element_view es)))
      ∙ ap (λ (ws : List trees.Value). seen_ids of rows (map element_view es) ++ ids_in of rows (items_view ws)) (sym (drop_all i vs most))
      ∙ h

pub container_in-returns : goal.container_in-returns
container_in-returns t c =
    let l = c.loop-item in
    let of = named c.args.m.now in
    let rows : List IeRow = c.args.rows.now in
    let vs : List trees.Value = c.as_slice-items.result.now in
    let es : List (Element Value) = l.ies.items in
    let shown = seen_array c.args.d.now c.in-Array.items vs c.in-Array.is c.as_slice-items.ensures.value in
    let v : Value = values.Ies l.ies in
    let is : view v ≡ seen.elements (ies_view es) = search (rules, the_lemmas) in
    let ids = all_ids of rows vs l.item-index es c.loop-item-test.false l.invariant.1 in
    let ordered = λ (f : ℕ → Tree). c.are_in_order.ensures f
    ∙ ap (λ (xs : List (Element Value)). are_ids_in_order (slots (types.rows_of f rows)) (slots (types.rows_of f rows)) (ids_of xs)) c.as_slice.ensures.value in
    subst (λ (y : Data). ReadsAs (λ q. demands q (container (rows_with of rows)) y) (value_of (container (rows_with of rows)) y) (Ok v)) (sym shown)
    (container_whole of rows vs (Ok v) (l.invariant.0 (Ok v)
    (done (element_asked of rows) (container_tail of rows (items_view vs)) (IsContainer of rows) vs l.item-index (map element_view es) (Ok v)
    c.loop-item-test.false (
      λ q. ap first_fault (container_tail_is of rows es vs c.are_in_order.result ids ordered q)
          ∙ one_none q Range (c.are_in_order.result && nat_lt (length vs) 65536)
          (ap (λ (b : Bool). b && nat_lt (length vs) 65536) c.if-not-are_in_order.false ∙ is_less (length vs) 65536 (omega (arith, c.if-items-ge65536.false))),
      is ∙ ap seen.elements (sym (ies_end (map element_view es))),
    ))))

-- ---- contents
pub contents_in-returns-in_default : goal.contents_in-returns-in_default
contents_in-returns-in_default t c =
    let of = named c.args.m.now in
    let ms : Members = members_view c.args.members.now.entries in
    subst (λ (o : Option TypeId). ReadsAs (λ q. contents_demands of o q (criticality_key ∷ c.args.number.now ∷ []) ms) (contents_read of o ms)
    c.unknown_in.result) (sym c.in_default.is) c.unknown_in.ensures

pub contents_in-returns-in_default-member : goal.contents_in-returns-in_default-member
contents_in-returns-in_default-member t c =
    let of = named c.args.m.now in
    let ms : Members = members_view c.args.members.now.entries in
    let keys : List Text = criticality_key ∷ c.args.number.now ∷ [] in
    let u : Named = of c.in-Some.id.number in
    let e : Refusal = c.shape.result in
    subst (λ (o : Option TypeId). ReadsAs (λ q. contents_demands of o q keys ms) (contents_read of o ms) (Err e)) (sym c.in-Some.is)
    (told_first (λ q. shape q (has_member value_key ms) ∷ []) (λ q. contents_rest u keys ms q) e
    (here_told Shape e (λ q. has_member value_key ms) c.shape.ensures (λ q. ap is_some (sym c.in_default-member.ensures))))

pub contents_in-value_in-requires : goal.contents_in-value_in-requires
contents_in-value_in-requires t c =
    let n : ℕ = length c.args.m.now.nodes in
    let ms : Members = members_view c.args.members.now.entries in
    let light : weight (json c.in-Some-member.d.now) ≤ members_weight ms = member_light value_key ms (json c.in-Some-member.d.now) (sym c.in-Some-member.ensures) in
    (omega (arith, light, c.decreases), subst (λ (o : Option TypeId). OptionBelow n o) c.in-Some.is c.requires)

pub contents_in-held-requires-clause-member : goal.contents_in-held-requires-clause-member
contents_in-held-requires-clause-member t c =
    let m = c.args.m.now in
    let id : ℕ = c.in-Some.id.number in
    let ms : Members = members_view c.args.members.now.entries in
    let d : Data = json c.in-Some-member.d.now in
    has_passed m id d (λ q. shape q (are_keys_among (value_key ∷ criticality_key ∷ c.args.number.now ∷ []) ms) ∷ []) c.keyed-asked.result c.value_in.ensures.sound
    (c.keyed-asked.ensures (λ q. demands q (named m id) d) (value_of (named m id) d) c.value_in.ensures.read)

pub contents_in-returns : goal.contents_in-returns
contents_in-returns t c =
    let m = c.args.m.now in
    let of = named m in
    let ms : Members = members_view c.args.members.now.entries in
    let keys : List Text = criticality_key ∷ c.args.number.now ∷ [] in
    let u : Named = of c.in-Some.id.number in
    let d : Data = json c.in-Some-member.d.now in
    let r : Result Value Refusal = c.held.result in
    let asked = c.keyed-asked.ensures (λ q. demands q u d) (value_of u d) c.value_in.ensures.read in
    let told = c.held.ensures d (λ q. demands q u d ++ shape q (are_keys_among (value_key ∷ keys) ms) ∷ []) asked in
    subst (λ (o : Option TypeId). ReadsAs (λ q. contents_demands of o q keys ms) (contents_read of o ms) r) (sym c.in-Some.is)
    (contents_whole u keys ms d r c.in-Some-member.ensures told)

-- ---- messages
pub message_in-returns-in_default-outcome_in : goal.message_in-returns-in_default-outcome_in
message_in-returns-in_default-outcome_in t c =
    let of = named c.args.m.now in
    let rows : List ProcedureRow = c.args.rows.now in
    let ms : Members = members_view c.in-Object.members.entries in
    let r : Result Value Refusal = c.past_message.result in
    subst (λ (y : Data). ReadsAs (λ q. demands q (pdu (procedures_with of rows)) y) (value_of (pdu (procedures_with of rows)) y) r)
    (sym (seen_object c.args.d.now c.in-Object.members c.in-Object.is))
    (message_past of rows ms r c.in_default-outcome_in.ensures c.past_message.ensures)

pub message_in-returns-in_err-head : goal.message_in-returns-in_err-head
message_in-returns-in_err-head t c =
    let of = named c.args.m.now in
    let rows : List ProcedureRow = c.args.rows.now in
    let ms : Members = members_view c.in-Object.members.entries in
    let p = err_from_is_err_and c.from_residual.result c.from_residual.ensures.1 in
    let e : Refusal = c.in_err-head.field-0.0 in
    rw (p.1, p.2)
    (subst (λ (y : Data). ReadsAs (λ q. demands q (pdu (procedures_with of rows)) y) (value_of (pdu (procedures_with of rows)) y) (Err e))
    (sym (seen_object c.args.d.now c.in-Object.members c.in-Object.is))
    (head_told of rows ms c.in-Some.outcome (json c.in-Some.body.now) c.in-Some.ensures e c.in_err-head.ensures))

pub message_in-contents_in-asked-requires : goal.message_in-contents_in-asked-requires
message_in-contents_in-asked-requires t c =
    let n : ℕ = length c.args.m.now.nodes in
    let ms : Members = members_view c.in-Object.members.entries in
    let head : BodyHead = c.in_ok-head.head in
    let whole = object_weight c.args.d.now c.in-Object.members c.in-Object.is in
    let light = outcome_light ms c.in-Some.outcome (json c.in-Some.body.now) c.in-Some.ensures in
    let own : weight (json c.in-Some.body.now) ≡ suc (members_weight (members_view head.members.now.entries)) =
    ap weight c.in_ok-head.ensures.1.is in (
      omega (arith, whole, light, own, c.decreases),
      messages_below n c.in-Some.outcome head.code c.args.rows.now c.message_type-definition.result c.requires c.message_type-definition.ensures,
    )

pub message_in-returns : goal.message_in-returns
message_in-returns t c =
    let of = named c.args.m.now in
    let rows : List ProcedureRow = c.args.rows.now in
    let ms : Members = members_view c.in-Object.members.entries in
    let i : ℕ = c.in-Some.outcome in
    let head : BodyHead = c.in_ok-head.head in
    let body : Members = members_view head.members.now.entries in
    let r : Result Value Refusal = c.alone.result in
    let o : Option TypeId = message_type i head.code rows in
    let asked : ReadsAs (λ q. contents_demands of o q body_keys body) (contents_read of o body) c.contents_in-asked.result =
    subst (λ (x : Option TypeId). ReadsAs (λ q. contents_demands of x q body_keys body) (contents_read of x body) c.contents_in-asked.result)
    c.message_type-definition.ensures c.contents_in-asked.ensures in
    let message = c.message.ensures (λ q. contents_demands of o q body_keys body) (contents_read of o body) asked in
    let told = c.alone.ensures (λ q. contents_demands of o (ways.outcome i ∷ q) body_keys body)
    (seen.message i head.code head.criticality (contents_read of o body)) message in
    subst (λ (y : Data). ReadsAs (λ q. demands q (pdu (procedures_with of rows)) y) (value_of (pdu (procedures_with of rows)) y) r)
    (sym (seen_object c.args.d.now c.in-Object.members c.in-Object.is))
    (message_known of rows ms i (json c.in-Some.body.now) c.in-Some.ensures head r c.in_ok-head.ensures.1 c.in_ok-head.ensures.0 told)

-- ---- SEQUENCE
pub sequence_in-components_in-requires : goal.sequence_in-components_in-requires
sequence_in-components_in-requires t c =
    let whole = object_weight c.args.d.now c.in-Object.object c.in-Object.is in (
      omega (arith, whole, c.decreases),
      subst (λ (cs : List Component). AreBelow (length c.args.m.now.nodes) cs) (sym c.as_slice-parts.ensures) c.requires.0,
    )

pub sequence_in-returns-in_err-root : goal.sequence_in-returns-in_err-root
sequence_in-returns-in_err-root t c =
    let members : Extensible Component = c.args.members.now in
    let ms : Members = members_view c.in-Object.object.entries in
    let p = err_from_is_err_and c.from_residual.result c.from_residual.ensures.1 in
    let e : Refusal = c.in_err-root.field-0.0 in
    let told : Tells (λ q. component_demands q (parts_with (named c.args.m.now) members.root) ms) e =
    subst (λ (cs : List Component). Tells (λ q. component_demands q (parts_with (named c.args.m.now) cs) ms) e) c.as_slice-parts.ensures
    c.in_err-root.ensures in
    rw (p.1, p.2)
    (subst (λ (y : Data). ReadsAs (λ q. demands q (sequence_named (named c.args.m.now) members) y) (value_of (sequence_named (named c.args.m.now) members) y)
    (Err e)) (sym (seen_object c.args.d.now c.in-Object.object c.in-Object.is))
    (root_told (named c.args.m.now) members ms e told))

pub sequence_in-returns-in_default-additions_member : goal.sequence_in-returns-in_default-additions_member
sequence_in-returns-in_default-additions_member t c =
    let of = named c.args.m.now in
    let members : Extensible Component = c.args.members.now in
    let ms : Members = members_view c.in-Object.object.entries in
    let r : Result Value Refusal = c.sequence.result in
    let root = root_read of members ms c.as_slice-parts.result.now c.in_ok-root.root c.as_slice-parts.ensures c.in_ok-root.ensures in
    let told = c.sequence.ensures of (λ p. []) (λ p. []) seen.no_options (no_additions_asked c.new.result c.new.ensures.items) in
    subst (λ (y : Data). ReadsAs (λ q. demands q (sequence_named of members) y) (value_of (sequence_named of members) y) r)
    (sym (seen_object c.args.d.now c.in-Object.object c.in-Object.is))
    (plain_whole of members ms c.as_slice-parts.result.now c.is_some-extensible.result c.as_slice-parts.ensures c.is_some-extensible.ensures r
    c.in_ok-root.root root (c.in_default-additions_member.ensures) told)

pub sequence_in-additions_in-asked-requires : goal.sequence_in-additions_in-asked-requires
sequence_in-additions_in-asked-requires t c =
    let ms : Members = members_view c.in-Object.object.entries in
    let whole = object_weight c.args.d.now c.in-Object.object c.in-Object.is in
    let light = additions_light c.is_some-extensible.result ms (json c.in-Some.more.now) c.in-Some.ensures in (
      omega (arith, whole, light, c.decreases),
      subst (λ (cs : List Component). AreBelow (length c.args.m.now.nodes) cs) (sym c.named.ensures) c.requires.1,
    )

pub sequence_in-returns : goal.sequence_in-returns
sequence_in-returns t c =
    let of = named c.args.m.now in
    let members : Extensible Component = c.args.members.now in
    let ms : Members = members_view c.in-Object.object.entries in
    let d : Data = json c.in-Some.more.now in
    let r : Result Value Refusal = c.sequence-2.result in
    let root = root_read of members ms c.as_slice-parts.result.now c.in_ok-root.root c.as_slice-parts.ensures c.in_ok-root.ensures in
    let more : List Component = additions_of members.additions in
    let asked : ReadsAdditions (λ p. listed of more d p) (λ p. opened of more d p) (added of more d) c.additions_in-asked.result =
    subst (λ (cs : List Component). ReadsAdditions (λ p. listed of cs d p) (λ p. opened of cs d p) (added of cs d) c.additions_in-asked.result)
    c.named.ensures c.additions_in-asked.ensures in
    let told = c.sequence-2.ensures of (λ p. listed of more d p) (λ p. opened of more d p) (added of more d) asked in
    subst (λ (y : Data). ReadsAs (λ q. demands q (sequence_named of members) y) (value_of (sequence_named of members) y) r)
    (sym (seen_object c.args.d.now c.in-Object.object c.in-Object.is))
    (extended_whole of members ms c.as_slice-parts.result.now c.is_some-extensible.result c.as_slice-parts.ensures c.is_some-extensible.ensures r
    c.in_ok-root.root root d c.in-Some.ensures told)

-- ---- CHOICE
pub choice_in-value_in-requires : goal.choice_in-value_in-requires
choice_in-value_in-requires t c =
    let ms : Members = members_view c.in-Object.object.entries in
    let root : List Component = c.as_slice-root.result.now in
    let f = found_in (named c.args.m.now) ms root c.in-Some.i c.index-root-i-in-Some.result (json c.in-Some.d.now) c.in-Some.ensures.part c.in-Some.ensures.inside
    c.index-root-i-in-Some.is in
    let whole = object_weight c.args.d.now c.in-Object.object c.in-Object.is in
    let light = member_light c.index-root-i-in-Some.result.name ms (json c.in-Some.d.now) (sym f.there) in (
      omega (arith, whole, light, c.decreases),
      subst (λ (y : Component). y.definition.number < length c.args.m.now.nodes) c.index-root-i-in-Some.is
          (below_at (length c.args.m.now.nodes) root c.in-Some.i c.index-root-i-in-Some.result
          (subst (λ (cs : List Component). AreBelow (length c.args.m.now.nodes) cs) (sym c.as_slice-root.ensures) c.requires.inside.0)
          c.in-Some.ensures.inside c.index-root-i-in-Some.is),
    )

pub choice_in-returns-in-Some : goal.choice_in-returns-in-Some
choice_in-returns-in-Some t c =
    let of = named c.args.m.now in
    let members : Extensible Component = c.args.members.now in
    let ms : Members = members_view c.in-Object.object.entries in
    let root : List Component = c.as_slice-root.result.now in
    let i : ℕ = c.in-Some.i in
    let d : Data = json c.in-Some.d.now in
    let q : Component = c.index-root-i-in-Some.result in
    let f = found_in of ms root i q d c.in-Some.ensures.part c.in-Some.ensures.inside c.index-root-i-in-Some.is in
    let r : Result Value Refusal = c.alternative.result in
    let name : c.as_slice.result.now ≡ q.name =
    c.as_slice.ensures ∙ ap (λ (y : Component). y.name) (same_item root i c.index-root-i.result q c.in-Some.ensures.inside ∙ sym c.index-root-i-in-Some.is) in
    let read : ReadsAs (λ p. demands p (of q.definition.number) d) (value_of (of q.definition.number) d) c.value_in.result =
    subst (λ (y : Component). ReadsAs (λ p. demands p (of y.definition.number) d) (value_of (of y.definition.number) d) c.value_in.result)
    (sym c.index-root-i-in-Some.is) c.value_in.ensures.read in
    let asked = c.inside-asked.ensures (λ p. demands p (of q.definition.number) d) (value_of (of q.definition.number) d) read in
    let alone = c.alone.ensures (λ p. demands (ways.component c.as_slice.result.now ∷ p) (of q.definition.number) d) (value_of (of q.definition.number) d) asked in
    let told = c.alternative.ensures (λ p. demands (ways.component c.as_slice.result.now ∷ p) (of q.definition.number) d ++ only_member p ms)
    (value_of (of q.definition.number) d) alone in
    let type = λ (cs : List Component). choice (is_extensible members) (parts_with of cs) (parts_with of (additions_of members.additions)) in
    subst (λ (y : Data). ReadsAs (λ p. demands p (choice_named of members) y) (value_of (choice_named of members) y) r)
    (sym (seen_object c.args.d.now c.in-Object.object c.in-Object.is))
    (subst (λ (cs : List Component). ReadsAs (λ p. demands p (type cs) (object ms)) (value_of (type cs) (object ms)) r) c.as_slice-root.ensures
    (root_whole of ms (is_extensible members) root (additions_of members.additions) i q d r f
    (subst (λ (n : List ℕ). ReadsAs (λ p. demands (ways.component n ∷ p) (of q.definition.number) d ++ only_member p ms)
    (seen.chosen i (value_of (of q.definition.number) d)) r) name told)))

pub choice_in-returns : goal.choice_in-returns
choice_in-returns t c =
    let of = named c.args.m.now in
    let members : Extensible Component = c.args.members.now in
    let ms : Members = members_view c.in-Object.object.entries in
    let root : List Component = c.as_slice-root.result.now in
    let additions : List Component = c.named-additions.result.now in
    let r : Result Value Refusal = c.past_alternative.result in
    let type = λ (cs ds : List Component). choice (is_extensible members) (parts_with of cs) (parts_with of ds) in
    let none = missing of ms root 0 (sym c.in_default-part_in.ensures.part) in
    let more = missing of ms additions 0 (sym c.in_default-part_in-2.ensures.part) in
    let told = subst (λ (b : Bool). ReadsAs (λ p. shape p (b && has_member dots ms)
    ∷ (past_demands p (64 - length additions) (member_of dots ms) ++ only_member p ms))
    (seen.chosen (length root + length additions + past_in (member_of dots ms)) (past_raw_in (member_of dots ms))) r) c.is_some.ensures c.past_alternative.ensures in
    subst (λ (y : Data). ReadsAs (λ p. demands p (choice_named of members) y) (value_of (choice_named of members) y) r)
    (sym (seen_object c.args.d.now c.in-Object.object c.in-Object.is))
    (subst (λ (cs : List Component). ReadsAs (λ p. demands p (type cs (additions_of members.additions)) (object ms))
    (value_of (type cs (additions_of members.additions)) (object ms)) r) c.as_slice-root.ensures
    (subst (λ (ds : List Component). ReadsAs (λ p. demands p (type root ds) (object ms)) (value_of (type root ds) (object ms)) r) c.named-additions.ensures
    (past_whole of ms (is_extensible members) root additions (length root + length additions) (64 - length additions) r none more refl refl told)))

-- ---- additions
pub additions_in-loop-i-init : goal.additions_in-loop-i-init
additions_in-loop-i-init t c =
    λ answer h. let of = named c.args.m.now in
    let cs : List Component = c.args.parts.now in
    let vs : List trees.Value = c.as_slice-items.result.now in
    subst (λ (xs : List (Option Value)). Left (addition_asked of cs) (additions_tail of cs (items_view vs)) (AreAdditions of cs)
    (record { values = map (option_map view) xs; unfit = None }) 0 (items_view vs) answer) c.new-values.ensures.items h

pub additions_in-loop-i-preserved-then-is_null : goal.additions_in-loop-i-preserved-then-is_null
additions_in-loop-i-preserved-then-is_null t c =
    λ answer h. let l = c.loop-i in
    let of = named c.args.m.now in
    let cs : List Component = c.args.parts.now in
    let vs : List trees.Value = c.as_slice-items.result.now in
    let x : trees.Value = c.index-items-i.result in
    let d : Data = json x in
    let is : is_null d ≡ true = sym (null_is d) ∙ sym c.is_null.ensures ∙ c.if-is_null.true in
    let made : Made of cs = record { values = map (option_map view) l.values.items; unfit = l.unfit } in
    let more : Made of cs = record { values = map (option_map view) c.push.new.self.items; unfit = l.unfit } in
    l.invariant answer
    (turn (addition_asked of cs) (additions_tail of cs (items_view vs)) (AreAdditions of cs) vs l.i x made more answer c.loop-i-test.true
    c.index-items-i.is (λ p. null_asked of (slice_get cs l.i) p d is)
    (λ a g. more_additions of cs made more l.i (l.i + 1) d (items_view (drop (l.i + 1) vs)) a (omega arith)
    (ap (λ (xs : List (Option Value)). map (option_map view) xs) c.in_ok-push.ensures.items
    ∙ mapped (option_map view) l.values.items None None refl
    ∙ ap (λ (o : Option seen.Value). map (option_map view) l.values.items ++ o ∷ []) (sym (null_read of (slice_get cs l.i) d is)))
    (λ p. sym (ap (first_of (unfit_at p l.unfit)) (null_opened of (slice_get cs l.i) p d is) ∙ none_last of cs (unfit_at p l.unfit))) g) h)

-- ---- a CHOICE of an addition
pub choice_in-value_in-requires-in-Some-part_in : goal.choice_in-value_in-requires-in-Some-part_in
choice_in-value_in-requires-in-Some-part_in t c =
    let ms : Members = members_view c.in-Object.object.entries in
    let n : ℕ = length c.args.m.now.nodes in
    let additions : List Component = c.named-additions.result.now in
    let i : ℕ = c.in-Some-part_in.i in
    let q : Component = c.index-additions-i.result in
    let f = found_in (named c.args.m.now) ms additions i q (json c.in-Some-part_in.d.now) c.in-Some-part_in.ensures.part
    c.in-Some-part_in.ensures.inside c.index-additions-i.is in
    let whole = object_weight c.args.d.now c.in-Object.object c.in-Object.is in
    let light = member_light q.name ms (json c.in-Some-part_in.d.now) (sym f.there) in (
      omega (arith, whole, light, c.decreases),
      subst (λ (y : Component). y.definition.number < n) c.index-additions-i.is
          (below_at n additions i q (subst (λ (cs : List Component). AreBelow n cs) (sym c.named-additions.ensures) c.requires.inside.1)
          c.in-Some-part_in.ensures.inside c.index-additions-i.is),
    )

pub choice_in-held-requires-clause-inside : goal.choice_in-held-requires-clause-inside
choice_in-held-requires-clause-inside t c =
    let n : ℕ = length c.args.m.now.nodes in
    let additions : List Component = c.named-additions.result.now in
    let i : ℕ = c.in-Some-part_in.i in
    let q : Component = c.index-additions-i.result in
    subst (λ (y : Component). y.definition.number < n) c.index-additions-i.is
    (below_at n additions i q (subst (λ (cs : List Component). AreBelow n cs) (sym c.named-additions.ensures) c.requires.inside.1)
    c.in-Some-part_in.ensures.inside c.index-additions-i.is)

pub choice_in-held-requires-clause-member : goal.choice_in-held-requires-clause-member
choice_in-held-requires-clause-member t c =
    let m = c.args.m.now in
    let ms : Members = members_view c.in-Object.object.entries in
    let d : Data = json c.in-Some-part_in.d.now in
    let n : List ℕ = c.as_slice-in-Some-part_in.result.now in
    let q : Component = c.index-additions-i.result in
    let r : Result Value Refusal = c.value_in-in-Some-part_in.result in
    let a : Result Value Refusal = c.alone-asked.result in
    let read : ReadsAs (λ p. demands p (named m q.definition.number) d) (value_of (named m q.definition.number) d) r =
    subst (λ (y : Component). ReadsAs (λ p. demands p (named m y.definition.number) d) (value_of (named m y.definition.number) d) r)
    (sym c.index-additions-i.is) c.value_in-in-Some-part_in.ensures.read in
    subst (λ (y : Component). HasAsked (tree m y.definition.number) a) c.index-additions-i.is
    (has_put m q.definition.number d (λ p. ways.component n ∷ p) (λ p. only_member p ms) r a c.value_in-in-Some-part_in.ensures.sound read
    (λ asked v h. c.alone-asked.ensures (λ p. asked (ways.component n ∷ p)) v (c.inside.ensures asked v h)))

pub choice_in-returns-in-Some-part_in : goal.choice_in-returns-in-Some-part_in
choice_in-returns-in-Some-part_in t c =
    let of = named c.args.m.now in
    let members : Extensible Component = c.args.members.now in
    let ms : Members = members_view c.in-Object.object.entries in
    let root : List Component = c.as_slice-root.result.now in
    let additions : List Component = c.named-additions.result.now in
    let i : ℕ = c.in-Some-part_in.i in
    let d : Data = json c.in-Some-part_in.d.now in
    let q : Component = c.index-additions-i.result in
    let u : Named = of q.definition.number in
    let f = found_in of ms additions i q d c.in-Some-part_in.ensures.part c.in-Some-part_in.ensures.inside c.index-additions-i.is in
    let none = missing of ms root 0 (sym c.in_default-part_in.ensures.part) in
    let r : Result Value Refusal = c.alternative-in-Some-part_in.result in
    let name : c.as_slice-in-Some-part_in.result.now ≡ q.name =
    c.as_slice-in-Some-part_in.ensures ∙ ap (λ (y : Component). y.name)
    (same_item additions i c.index-additions-i-in-Some-part_in.result q c.in-Some-part_in.ensures.inside ∙ sym c.index-additions-i.is) in
    let n : List ℕ = c.as_slice-in-Some-part_in.result.now in
    let read : ReadsAs (λ p. demands p u d) (value_of u d) c.value_in-in-Some-part_in.result =
    subst (λ (y : Component). ReadsAs (λ p. demands p (of y.definition.number) d) (value_of (of y.definition.number) d)
    c.value_in-in-Some-part_in.result) (sym c.index-additions-i.is) c.value_in-in-Some-part_in.ensures.read in
    let asked = c.inside.ensures (λ p. demands p u d) (value_of u d) read in
    let alone = c.alone-asked.ensures (λ p. demands (ways.component n ∷ p) u d) (value_of u d) asked in
    let held : ReadsAs (λ p. (demands (ways.component n ∷ p) u d ++ only_member p ms)
    ++ range (ways.component n ∷ p) (fits_open (ways.component n ∷ p) u d) ∷ []) (value_of u d) c.held.result =
    subst (λ (y : Component). ReadsAs (λ p. demands (ways.component n ∷ p) u d ++ only_member p ms) (value_of (of y.definition.number) d) c.alone-asked.result
    → ReadsAs (λ p. (demands (ways.component n ∷ p) u d ++ only_member p ms)
    ++ range (ways.component n ∷ p) (fits_open (ways.component n ∷ p) (of y.definition.number) d) ∷ []) (value_of (of y.definition.number) d) c.held.result)
    (sym c.index-additions-i.is) (c.held.ensures d (λ p. demands (ways.component n ∷ p) u d ++ only_member p ms)) alone in
    let told = c.alternative-in-Some-part_in.ensures
    (λ p. (demands (ways.component n ∷ p) u d ++ only_member p ms) ++ range (ways.component n ∷ p) (fits_open (ways.component n ∷ p) u d) ∷ [])
    (value_of u d) held in
    let type = λ (cs ds : List Component). choice (is_extensible members) (parts_with of cs) (parts_with of ds) in
    subst (λ (y : Data). ReadsAs (λ p. demands p (choice_named of members) y) (value_of (choice_named of members) y) r)
    (sym (seen_object c.args.d.now c.in-Object.object c.in-Object.is))
    (subst (λ (cs : List Component). ReadsAs (λ p. demands p (type cs (additions_of members.additions)) (object ms))
    (value_of (type cs (additions_of members.additions)) (object ms)) r) c.as_slice-root.ensures
    (subst (λ (ds : List Component). ReadsAs (λ p. demands p (type root ds) (object ms)) (value_of (type root ds) (object ms)) r) c.named-additions.ensures
    (addition_whole of ms (is_extensible members) root additions i (length root + i) q d r none f refl
    (subst (λ (k : List ℕ). ReadsAs (λ p. demands (ways.component k ∷ p) u d ++ (only_member p ms
    ++ range (ways.component k ∷ p) (fits_open (ways.component k ∷ p) u d) ∷ [])) (seen.chosen (length root + i) (value_of u d)) r) name
    (reads_same (seen.chosen (length root + i) (value_of u d))
    (λ p. demands (ways.component n ∷ p) u d ++ (only_member p ms ++ range (ways.component n ∷ p) (fits_open (ways.component n ∷ p) u d) ∷ []))
    (λ p. (demands (ways.component n ∷ p) u d ++ only_member p ms) ++ range (ways.component n ∷ p) (fits_open (ways.component n ∷ p) u d) ∷ [])
    (seen.chosen (length root + i) (value_of u d)) r
    (λ p. sym (append_assoc (demands (ways.component n ∷ p) u d) (only_member p ms)
    (range (ways.component n ∷ p) (fits_open (ways.component n ∷ p) u d) ∷ []))) refl told)))))

-- ---- information elements that are out of bounds
pub container_in-returns-then-not-are_in_order : goal.container_in-returns-then-not-are_in_order
container_in-returns-then-not-are_in_order t c =
    let l = c.loop-item in
    let of = named c.args.m.now in
    let rows : List IeRow = c.args.rows.now in
    let vs : List trees.Value = c.as_slice-items.result.now in
    let es : List (Element Value) = l.ies.items in
    let shown = seen_array c.args.d.now c.in-Array.items vs c.in-Array.is c.as_slice-items.ensures.value in
    let e : Refusal = c.range-then-not-are_in_order.result in
    let ids = all_ids of rows vs l.item-index es c.loop-item-test.false l.invariant.1 in
    let ordered = λ (f : ℕ → Tree). c.are_in_order.ensures f
    ∙ ap (λ (xs : List (Element Value)). are_ids_in_order (slots (types.rows_of f rows)) (slots (types.rows_of f rows)) (ids_of xs)) c.as_slice.ensures.value in
    subst (λ (y : Data). ReadsAs (λ q. demands q (container (rows_with of rows)) y) (value_of (container (rows_with of rows)) y) (Err e)) (sym shown)
    (container_whole of rows vs (Err e) (l.invariant.0 (Err e)
    (done (element_asked of rows) (container_tail of rows (items_view vs)) (IsContainer of rows) vs l.item-index (map element_view es) (Err e)
    c.loop-item-test.false
    (told_same (container_tail of rows (items_view vs)) (λ q. range q (c.are_in_order.result && nat_lt (length vs) 65536) ∷ []) e
    (container_tail_is of rows es vs c.are_in_order.result ids ordered)
    (here_told Range e (λ q. c.are_in_order.result && nat_lt (length vs) 65536) c.range-then-not-are_in_order.ensures
    (λ q. ap (λ (b : Bool). b && nat_lt (length vs) 65536) c.if-not-are_in_order.true))))))

pub container_in-returns-then-items-ge65536 : goal.container_in-returns-then-items-ge65536
container_in-returns-then-items-ge65536 t c =
    let l = c.loop-item in
    let of = named c.args.m.now in
    let rows : List IeRow = c.args.rows.now in
    let vs : List trees.Value = c.as_slice-items.result.now in
    let shown = seen_array c.args.d.now c.in-Array.items vs c.in-Array.is c.as_slice-items.ensures.value in
    let e : Refusal = c.range.result in
    let holds : Bool = are_in_order (slots (rows_of (rows_with of rows))) (slots (rows_of (rows_with of rows))) (items_view vs)
    && nat_lt (item_count (items_view vs)) 65536 in
    subst (λ (y : Data). ReadsAs (λ q. demands q (container (rows_with of rows)) y) (value_of (container (rows_with of rows)) y) (Err e)) (sym shown)
    (container_whole of rows vs (Err e) (l.invariant.0 (Err e)
    (done (element_asked of rows) (container_tail of rows (items_view vs)) (IsContainer of rows) vs l.item-index (map element_view l.ies.items) (Err e)
    c.loop-item-test.false
    (here_told Range e (λ q. holds) c.range.ensures (λ q. too_many of rows vs (omega (arith, c.if-items-ge65536.true)))))))

-- ---- an addition that no part names
pub additions_in-returns-in_err-put_present : goal.additions_in-returns-in_err-put_present
additions_in-returns-in_err-put_present t c =
    let l = c.loop-i in
    let of = named c.args.m.now in
    let cs : List Component = c.args.parts.now in
    let vs : List trees.Value = c.as_slice-items.result.now in
    let x : trees.Value = c.index-items-i.result in
    let d : Data = json x in
    let some : is_null d ≡ false = sym (null_is d) ∙ sym c.is_null.ensures ∙ c.if-is_null.false in
    let shown = seen_array c.args.d.now c.in-Array.items vs c.in-Array.is c.as_slice-items.ensures.value in
    let at = no_part_at cs l.i c.in_default-get.ensures.lookup.0 in
    let made : Made of cs = record { values = map (option_map view) l.values.items; unfit = l.unfit } in
    let p = err_from_is_err_and c.from_residual-in_err-put_present.result c.from_residual-in_err-put_present.ensures.1 in
    let e : Refusal = c.in_err-put_present.field-0.0 in
    rw (p.1, p.2)
    (subst (λ (y : Data). ReadsAdditions (λ q. listed of cs y q) (λ q. opened of cs y q) (added of cs y) (Err e)) (sym shown)
    (additions_whole of cs (items_view vs) (Err e) (l.invariant (Err e)
    (stop (addition_asked of cs) (additions_tail of cs (items_view vs)) (AreAdditions of cs) vs l.i x made e c.loop-i-test.true c.index-items-i.is
    (told_same (λ q. addition_asked of cs q l.i d) (λ q. raw_demands q d) e
    (λ q. ap (λ (o : Option Component). one_asked of o q d) at ∙ raw_asked of q d some)
    (c.in_err-put_present.ensures (λ q. raw_demands q d) (raw_in d) c.raw_in.ensures))))))

pub additions_in-loop-i-preserved-in_default-get : goal.additions_in-loop-i-preserved-in_default-get
additions_in-loop-i-preserved-in_default-get t c =
    λ answer h. let l = c.loop-i in
    let of = named c.args.m.now in
    let cs : List Component = c.args.parts.now in
    let vs : List trees.Value = c.as_slice-items.result.now in
    let x : trees.Value = c.index-items-i.result in
    let d : Data = json x in
    let some : is_null d ≡ false = sym (null_is d) ∙ sym c.is_null.ensures ∙ c.if-is_null.false in
    let at = no_part_at cs l.i c.in_default-get.ensures.lookup.0 in
    let values : List (Option seen.Value) = map (option_map view) l.values.items in
    let made : Made of cs = record { values = values; unfit = l.unfit } in
    let more : Made of cs = record { values = map (option_map view) c.put_present.new.values.items; unfit = l.unfit } in
    let k = c.in_ok-put_present.ensures (λ q. raw_demands q d) (raw_in d) c.raw_in.ensures in
    l.invariant answer
    (turn (addition_asked of cs) (additions_tail of cs (items_view vs)) (AreAdditions of cs) vs l.i x made more answer c.loop-i-test.true
    c.index-items-i.is
    (λ p. ap (λ (o : Option Component). first_fault (one_asked of o p d)) at ∙ ap first_fault (raw_asked of p d some) ∙ k.0 p)
    (λ a g. more_additions of cs made more l.i (l.i + 1) d (items_view (drop (l.i + 1) vs)) a (omega arith)
    (k.1 ∙ ap (λ (o : Option seen.Value). values ++ o ∷ [])
    (sym (ap (λ (o : Option Component). one_read of o d) at ∙ some_read of raw_in d some)))
    (λ p. sym (ap (first_of (unfit_at p l.unfit)) (ap (λ (o : Option Component). first_fault (one_opened of o p d)) at)
    ∙ none_last of cs (unfit_at p l.unfit))) g) h)

-- ---- an addition of a part
pub additions_in-value_in-asked-requires : goal.additions_in-value_in-asked-requires
additions_in-value_in-asked-requires t c =
    let l = c.loop-i in
    let vs : List trees.Value = c.as_slice-items.result.now in
    let cs : List Component = c.args.parts.now in
    let whole = array_weight c.args.d.now c.in-Array.items vs c.in-Array.is c.as_slice-items.ensures.value in
    let light = item_light vs l.i c.index-items-i.result c.loop-i-test.true c.index-items-i.is in (
      omega (arith, whole, light, c.decreases),
      below_at (length c.args.m.now.nodes) cs l.i c.in-Some.part.now c.requires (below l.i (length cs) (sym c.in-Some.ensures.lookup.0))
          c.in-Some.ensures.lookup.1,
    )

pub additions_in-is_fitting-requires-clause-inside : goal.additions_in-is_fitting-requires-clause-inside
additions_in-is_fitting-requires-clause-inside t c =
    let l = c.loop-i in
    let cs : List Component = c.args.parts.now in
    below_at (length c.args.m.now.nodes) cs l.i c.in-Some.part.now c.requires (below l.i (length cs) (sym c.in-Some.ensures.lookup.0))
    c.in-Some.ensures.lookup.1

pub additions_in-is_fitting-requires-clause-member : goal.additions_in-is_fitting-requires-clause-member
additions_in-is_fitting-requires-clause-member t c =
    has_asked c.args.m.now c.in-Some.part.now.definition.number (json c.index-items-i.result) c.value_in-asked.result c.value_in-asked.ensures.sound
    c.value_in-asked.ensures.read

pub additions_in-returns-in_err-put_present-2 : goal.additions_in-returns-in_err-put_present-2
additions_in-returns-in_err-put_present-2 t c =
    let l = c.loop-i in
    let of = named c.args.m.now in
    let cs : List Component = c.args.parts.now in
    let vs : List trees.Value = c.as_slice-items.result.now in
    let x : trees.Value = c.index-items-i.result in
    let d : Data = json x in
    let some : is_null d ≡ false = sym (null_is d) ∙ sym c.is_null.ensures ∙ c.if-is_null.false in
    let shown = seen_array c.args.d.now c.in-Array.items vs c.in-Array.is c.as_slice-items.ensures.value in
    let part : Component = c.in-Some.part.now in
    let u : Named = of part.definition.number in
    let at = part_at cs l.i part c.in-Some.ensures.lookup.0 c.in-Some.ensures.lookup.1 in
    let made : Made of cs = record { values = map (option_map view) l.values.items; unfit = l.unfit } in
    let p = err_from_is_err_and c.from_residual-in_err-put_present-2.result c.from_residual-in_err-put_present-2.ensures.1 in
    let e : Refusal = c.in_err-put_present-2.field-0.0 in
    let n : List ℕ = c.as_slice.result.now in
    let asked = c.inside.ensures (λ q. demands q u d) (value_of u d) c.value_in-asked.ensures.read in
    let told : Tells (λ q. demands (ways.component n ∷ q) u d) e =
    c.in_err-put_present-2.ensures (λ q. demands (ways.component n ∷ q) u d) (value_of u d) asked in
    rw (p.1, p.2)
    (subst (λ (y : Data). ReadsAdditions (λ q. listed of cs y q) (λ q. opened of cs y q) (added of cs y) (Err e)) (sym shown)
    (additions_whole of cs (items_view vs) (Err e) (l.invariant (Err e)
    (stop (addition_asked of cs) (additions_tail of cs (items_view vs)) (AreAdditions of cs) vs l.i x made e c.loop-i-test.true c.index-items-i.is
    (told_same (λ q. addition_asked of cs q l.i d) (λ q. demands (ways.component part.name ∷ q) u d) e
    (λ q. ap (λ (o : Option Component). one_asked of o q d) at ∙ part_asked of q d some part)
    (subst (λ (k : List ℕ). Tells (λ q. demands (ways.component k ∷ q) u d) e) c.as_slice.ensures told))))))

pub additions_in-loop-i-preserved : goal.additions_in-loop-i-preserved
additions_in-loop-i-preserved t c =
    λ answer h. let l = c.loop-i in
    let of = named c.args.m.now in
    let cs : List Component = c.args.parts.now in
    let vs : List trees.Value = c.as_slice-items.result.now in
    let x : trees.Value = c.index-items-i.result in
    let d : Data = json x in
    let some : is_null d ≡ false = sym (null_is d) ∙ sym c.is_null.ensures ∙ c.if-is_null.false in
    let part : Component = c.in-Some.part.now in
    let u : Named = of part.definition.number in
    let n : List ℕ = c.as_slice.result.now in
    let name : n ≡ part.name = c.as_slice.ensures in
    let at = part_at cs l.i part c.in-Some.ensures.lookup.0 c.in-Some.ensures.lookup.1 in
    let values : List (Option seen.Value) = map (option_map view) l.values.items in
    let made : Made of cs = record { values = values; unfit = l.unfit } in
    let more : Made of cs = record { values = map (option_map view) c.put_present-in-loop-i.new.values.items; unfit = c.first_unfit-unfit.result } in
    let put = λ (asked : Path → List Demand) (v : seen.Value) (r : ReadsAs asked v c.value_in-asked.result).
    c.in_ok-put_present-2.ensures (λ q. asked (ways.component n ∷ q)) v (c.inside.ensures asked v r) in
    let k = put (λ q. demands q u d) (value_of u d) c.value_in-asked.ensures.read in
    let fits = λ (q : Path). fitting u d q c.is_fitting.result c.value_in-asked.result (λ w. ways.component n ∷ w) c.value_in-asked.ensures.read
    (c.is_fitting.ensures d q) (λ asked v r. (put asked v r).0) in
    l.invariant answer
    (turn (addition_asked of cs) (additions_tail of cs (items_view vs)) (AreAdditions of cs) vs l.i x made more answer c.loop-i-test.true
    c.index-items-i.is
    (λ p. ap (λ (o : Option Component). first_fault (one_asked of o p d)) at ∙ ap first_fault (part_asked of p d some part)
    ∙ subst (λ (w : List ℕ). first_fault (demands (ways.component w ∷ p) u d) ≡ None) name (k.0 p))
    (λ a g. more_additions of cs made more l.i (l.i + 1) d (items_view (drop (l.i + 1) vs)) a (omega arith)
    (k.1 ∙ ap (λ (o : Option seen.Value). values ++ o ∷ [])
    (sym (ap (λ (o : Option Component). one_read of o d) at ∙ some_read of (λ y. value_of u y) d some)))
    (λ p. c.first_unfit-unfit.ensures p
    ∙ ap (λ (w : List ℕ). first_of (unfit_at p l.unfit) (first_fault (range (ways.component w ∷ p) c.is_fitting.result ∷ []))) name
    ∙ ap (λ (b : Bool). first_of (unfit_at p l.unfit) (first_fault (range (ways.component part.name ∷ p) b ∷ []))) (fits (ways.component part.name ∷ p))
    ∙ ap (λ (os : List Demand). first_of (unfit_at p l.unfit) (first_fault os)) (sym (part_opened of p d some part))
    ∙ ap (λ (o : Option Component). first_of (unfit_at p l.unfit) (first_fault (one_opened of o p d))) (sym at)) g) h)

-- ---- after all additions
pub additions_in-returns-then-not-are_additions : goal.additions_in-returns-then-not-are_additions
additions_in-returns-then-not-are_additions t c =
    let l = c.loop-i in
    let of = named c.args.m.now in
    let cs : List Component = c.args.parts.now in
    let vs : List trees.Value = c.as_slice-items.result.now in
    let shown = seen_array c.args.d.now c.in-Array.items vs c.in-Array.is c.as_slice-items.ensures.value in
    let made : Made of cs = record { values = map (option_map view) l.values.items; unfit = l.unfit } in
    let e : Refusal = c.range.result in
    let holds : Bool = nat_le 1 (item_count (items_view vs)) && nat_le (item_count (items_view vs)) 64 && any_told (items_view vs) in
    subst (λ (y : Data). ReadsAdditions (λ q. listed of cs y q) (λ q. opened of cs y q) (added of cs y) (Err e)) (sym shown)
    (additions_whole of cs (items_view vs) (Err e) (l.invariant (Err e)
    (done (addition_asked of cs) (additions_tail of cs (items_view vs)) (AreAdditions of cs) vs l.i made (Err e) c.loop-i-test.false
    (here_told Range e (λ q. holds) c.range.ensures (λ q. sym c.are_additions.ensures ∙ c.if-not-are_additions.true)))))

pub additions_in-returns : goal.additions_in-returns
additions_in-returns t c =
    let l = c.loop-i in
    let of = named c.args.m.now in
    let cs : List Component = c.args.parts.now in
    let vs : List trees.Value = c.as_slice-items.result.now in
    let shown = seen_array c.args.d.now c.in-Array.items vs c.in-Array.is c.as_slice-items.ensures.value in
    let values : List (Option seen.Value) = map (option_map view) l.values.items in
    let made : Made of cs = record { values = values; unfit = l.unfit } in
    let a : Additions = record { values = l.values; unfit = l.unfit } in
    let holds : Bool = nat_le 1 (item_count (items_view vs)) && nat_le (item_count (items_view vs)) 64 && any_told (items_view vs) in
    subst (λ (y : Data). ReadsAdditions (λ q. listed of cs y q) (λ q. opened of cs y q) (added of cs y) (Ok a)) (sym shown)
    (additions_whole of cs (items_view vs) (Ok a) (l.invariant (Ok a)
    (done (addition_asked of cs) (additions_tail of cs (items_view vs)) (AreAdditions of cs) vs l.i made (Ok a) c.loop-i-test.false (
      λ q. one_none q Range holds (sym c.are_additions.ensures ∙ c.if-not-are_additions.false),
      all_additions of cs made l.i a (sym (options_end values)) refl,
    ))))
