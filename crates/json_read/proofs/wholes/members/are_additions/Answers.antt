use Rattle.std.proofs.Common.{◌≡◌, ◌+◌, ◌≤◌, length, drop, List, Bool, true, not, ◌||◌, sym, ap, ◌∙◌, arith}
use Rattle.std.proofs.lemmas.List.{drop_all}
use Rattle.serde_json.specs.declared.value.Value.{Value}
use Rattle.serde_json.specs.View.{view as json, items_view}
use Rattle.json_defs.specs.Members.{is_null}
use Rattle.json_defs.specs.Demands.{any_told}
use Rattle.json_read.proofs.wholes.Puts.{told_from, some_told, none_told}
use Rattle.json_read.proofs.wholes.Passed.{null_is}
use Rattle.json_read.proofs.wholes.members.are_additions.Goals as goal

pub returns-then-not-is_null : goal.returns-then-not-is_null
returns-then-not-is_null c =
    let l = c.loop-item in
    let vs : List Value = c.args.items.now in
    let rest : Bool = any_told (items_view (drop (l.item-index + 1) vs)) in
    let some : 1 ≤ length vs = omega (arith, c.loop-item-test.true) in
    some_told vs some
    (sym l.invariant ∙ told_from vs l.item-index c.item-item.result c.loop-item-test.true c.item-item.is
    ∙ ap (λ (b : Bool). not b || rest) (sym (null_is (json c.item-item.result)) ∙ sym c.is_null.ensures ∙ c.if-not-is_null.true))

pub loop-item-preserved : goal.loop-item-preserved
loop-item-preserved c =
    let l = c.loop-item in
    let vs : List Value = c.args.items.now in
    let rest : Bool = any_told (items_view (drop (l.item-index + 1) vs)) in
    sym (ap (λ (b : Bool). not b || rest) (sym (null_is (json c.item-item.result)) ∙ sym c.is_null.ensures ∙ c.if-not-is_null.false))
    ∙ sym (told_from vs l.item-index c.item-item.result c.loop-item-test.true c.item-item.is)
    ∙ l.invariant

pub returns : goal.returns
returns c =
    let l = c.loop-item in
    let vs : List Value = c.args.items.now in
    none_told vs (sym l.invariant ∙ ap (λ (ws : List Value). any_told (items_view ws)) (drop_all l.item-index vs c.loop-item-test.false))
