use Rattle.std.proofs.Common.{◌≡◌, ℕ, ◌+◌, ◌-◌, ◌<◌, length, Bool, List, Option, true, false, is_some, sym, ap, subst, ◌∙◌, arith}
use Rattle.serde_json.specs.Data.{Members, array, put}
use Rattle.asn1_syntax.specs.declared.types.definition.Component.{Component}
use Rattle.aper_values.specs.declared.value.Value.{Value}
use Rattle.aper_values.specs.Views.{options_view}
use Rattle.json_defs.specs.Members.{Text, dots}
use Rattle.json_defs.specs.shown_defs.Printed.{components_shown}
use Rattle.json_defs.specs.type_defs.Types.{parts_with}
use Rattle.values_json.specs.order.Listed.{by_name, with_dots, AreWithin}
use Rattle.values_json.proofs.order.Turns.{by_name-insert_entry, within-insert_entry, part_of, components_end, absent_at, present_at, same_item}
use Rattle.values_json.proofs.order.members_by_name.Goals as goal
use Rattle.values_json.proofs.order.members_by_name.Goals.{then-has_additions+in_ok-insert-2, else-has_additions}

pub loop-i-init : goal.loop-i-init
loop-i-init c = (
  omega (arith, c.min-i.ensures),
  omega (arith, c.min-i.ensures),
  λ of ds at shown. ap (by_name at ds) c.new-members.ensures.empty
      ∙ components_end of c.args.parts.now c.args.values.now c.min-i.result (omega (arith, c.min-i.ensures)),
  subst (AreWithin (length c.args.values.now)) (sym c.new-members.ensures.empty) tt,
)

pub loop-i-preserved : goal.loop-i-preserved
loop-i-preserved c =
    let l = c.loop-i in
    let ps : List Component = c.args.parts.now in
    let vs : List (Option Value) = c.args.values.now in
    let j : ℕ = l.i - 1 in
    let e : l.i ≡ j + 1 = omega (arith, c.loop-i-test.true) in
    let small : j < length ps = omega (arith, c.loop-i-test.true, l.invariant.0) in
    let within : j < length vs = omega (arith, c.loop-i-test.true, l.invariant.1) in
    let none : is_some c.index-values-i.result ≡ false = sym c.is_some.ensures ∙ c.if-is_some.false in (
      omega (arith, l.invariant.0),
      omega (arith, l.invariant.1),
      λ of ds at shown. l.invariant.2 of ds at shown ∙ absent_at ps vs of j l.i c.index-values-i.result e small within c.index-values-i.is none,
      l.invariant.3,
    )

pub loop-i-preserved-in_ok-insert : goal.loop-i-preserved-in_ok-insert
loop-i-preserved-in_ok-insert c =
    let l = c.loop-i in
    let ps : List Component = c.args.parts.now in
    let vs : List (Option Value) = c.args.values.now in
    let j : ℕ = l.i - 1 in
    let q : Component = c.index-parts-i.result in
    let e : l.i ≡ j + 1 = omega (arith, c.loop-i-test.true) in
    let small : j < length ps = omega (arith, c.loop-i-test.true, l.invariant.0) in
    let within : j < length vs = omega (arith, c.loop-i-test.true, l.invariant.1) in
    let some : is_some c.index-values-i.result ≡ true = sym c.is_some.ensures ∙ c.if-is_some.true in
    let name : c.as_slice.result.now ≡ q.name =
    c.as_slice.ensures ∙ ap (λ (y : Component). y.name) (same_item ps j _ q small ∙ sym c.index-parts-i.is) in (
      omega (arith, l.invariant.0),
      omega (arith, l.invariant.1),
      λ of ds at shown. ap (by_name at ds) c.in_ok-insert.ensures.entries
          ∙ by_name-insert_entry at ds l.members.entries c.as_slice.result _
          ∙ ap (λ (n : Text). put n (at j) (by_name at ds l.members.entries)) name
          ∙ ap (put q.name (at j)) (l.invariant.2 of ds at shown)
          ∙ present_at ps vs of at j l.i q c.index-values-i.result shown e small c.index-parts-i.is within c.index-values-i.is some,
      subst (AreWithin (length vs)) (sym c.in_ok-insert.ensures.entries)
          (within-insert_entry (length vs) l.members.entries _ _ l.invariant.3 within),
    )

pub returns-clause-order : goal.returns-clause-order
returns-clause-order c of ds at shown =
    let l = c.loop-i in
    let ps : List Component = c.args.parts.now in
    let vs : List (Option Value) = c.args.values.now in
    let whole : Members = components_shown (parts_with of ps) (options_view vs) in
    let none_left : l.i ≡ 0 = omega (arith, c.loop-i-test.false) in
    let done : by_name at ds l.members.entries ≡ whole = l.invariant.2 of ds at shown ∙ ap (part_of of ps vs) none_left in
    elim c.if-has_additions.branch [
      | then-has_additions+in_ok-insert-2 w ↦ ap (λ m. by_name at ds m.entries) w.members-is
          ∙ ap (by_name at ds) w.in_ok-insert-2.ensures.entries
          ∙ by_name-insert_entry at ds l.members.entries _ _
          ∙ ap (put dots (array ds)) done
          ∙ ap (λ (b : Bool). with_dots b ds whole) (sym w.if-has_additions.true)
      | else-has_additions w ↦ ap (λ m. by_name at ds m.entries) w.members-is
          ∙ done
          ∙ ap (λ (b : Bool). with_dots b ds whole) (sym w.if-has_additions.false)
    ]

pub returns-clause-within : goal.returns-clause-within
returns-clause-within c =
    let l = c.loop-i in
    let n : ℕ = length c.args.values.now in
    elim c.if-has_additions.branch [
      | then-has_additions+in_ok-insert-2 w ↦ subst (λ m. AreWithin n m.entries) (sym w.members-is)
          (subst (AreWithin n) (sym w.in_ok-insert-2.ensures.entries) (within-insert_entry n l.members.entries _ _ l.invariant.3 tt))
      | else-has_additions w ↦ subst (λ m. AreWithin n m.entries) (sym w.members-is) l.invariant.3
    ]
