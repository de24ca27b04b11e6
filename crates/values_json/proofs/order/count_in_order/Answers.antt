use Rattle.std.proofs.Common.{◌≡◌, ℕ, ◌<◌, ◌≤◌, length, List, Option, Bool, cond, refl, true, false, not, sym, ap, subst, ◌∙◌, option_map, arith}
use mir.Val.{bool_byte}
use Rattle.asn1_syntax.specs.declared.types.definition.Component.{Component}
use Rattle.aper_values.specs.declared.value.Value.{Value}
use Rattle.values_json.specs.order.Names.{object_names}
use Rattle.values_json.proofs.order.Turns.{count_begins, count_absent, count_present, count_stops, count_ends, same_item}
use Rattle.values_json.proofs.order.count_in_order.Goals as goal

as_number : (b : Bool) → bool_byte b ≡ cond b 1 0
as_number true = refl
as_number false = refl

pub loop-i-init : goal.loop-i-init
loop-i-init c =
    count_begins c.args.has_additions c.args.parts.now c.args.values.now (option_map (λ n. n.now) c.first_name-last.result)
    c.from-count.result c.first_name-last.ensures (c.from-count.ensures ∙ as_number c.args.has_additions)

pub loop-i-preserved-then-is_none : goal.loop-i-preserved-then-is_none
loop-i-preserved-then-is_none c =
    let l = c.loop-i in
    let ps : List Component = c.args.parts.now in
    let vs : List (Option Value) = c.args.values.now in
    let small : l.i < length ps = omega (arith, c.loop-i-test.true, c.min-i-end.ensures) in
    let lt : l.i < length vs = omega (arith, c.loop-i-test.true, c.min-i-end.ensures) in
    count_absent ps vs (object_names c.args.has_additions ps vs) (option_map (λ n. n.now) l.last) l.count l.i c.index-values-i.result small lt
    c.index-values-i.is (ap not (c.is_none.ensures ∙ ap not c.if-is_none.true)) l.invariant

pub loop-i-preserved : goal.loop-i-preserved
loop-i-preserved c =
    let l = c.loop-i in
    let ps : List Component = c.args.parts.now in
    let vs : List (Option Value) = c.args.values.now in
    let q : Component = c.index-parts-i.result in
    let small : l.i < length ps = omega (arith, c.loop-i-test.true, c.min-i-end.ensures) in
    let lt : l.i < length vs = omega (arith, c.loop-i-test.true, c.min-i-end.ensures) in
    let named : c.as_slice-name.result.now ≡ q.name =
    c.as_slice-name.ensures ∙ ap (λ (y : Component). y.name) (same_item ps l.i _ q small ∙ sym c.index-parts-i.is) in
    count_present ps vs (object_names c.args.has_additions ps vs) (option_map (λ n. n.now) l.last) l.count l.i q c.index-values-i.result
    c.is_after.result small c.index-parts-i.is lt c.index-values-i.is (ap not (c.is_none.ensures ∙ ap not c.if-is_none.false)) c.as_slice-name.result.now named
    c.is_after.ensures l.invariant c.if-not-is_after.false

pub returns-then-not-is_after : goal.returns-then-not-is_after
returns-then-not-is_after c =
    let l = c.loop-i in
    let ps : List Component = c.args.parts.now in
    let vs : List (Option Value) = c.args.values.now in
    let q : Component = c.index-parts-i.result in
    let small : l.i < length ps = omega (arith, c.loop-i-test.true, c.min-i-end.ensures) in
    let lt : l.i < length vs = omega (arith, c.loop-i-test.true, c.min-i-end.ensures) in
    let named : c.as_slice-name.result.now ≡ q.name =
    c.as_slice-name.ensures ∙ ap (λ (y : Component). y.name) (same_item ps l.i _ q small ∙ sym c.index-parts-i.is) in
    count_stops ps vs (object_names c.args.has_additions ps vs) (option_map (λ n. n.now) l.last) l.count l.i q c.index-values-i.result
    c.is_after.result small c.index-parts-i.is lt c.index-values-i.is (ap not (c.is_none.ensures ∙ ap not c.if-is_none.false)) c.as_slice-name.result.now named
    c.is_after.ensures l.invariant c.if-not-is_after.true

pub returns : goal.returns
returns c =
    let l = c.loop-i in
    let ps : List Component = c.args.parts.now in
    let vs : List (Option Value) = c.args.values.now in
    count_ends ps vs (object_names c.args.has_additions ps vs) (option_map (λ n. n.now) l.last) l.count l.i
    (subst (λ (n : ℕ). n ≤ l.i) c.min-i-end.ensures c.loop-i-test.false) l.invariant
