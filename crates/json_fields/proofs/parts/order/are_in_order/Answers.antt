use Rattle.std.proofs.Common.{◌≡◌, is_some, sym, ap, ◌∙◌}
use Rattle.aper_defs.specs.Trees.{slots, has_slot}
use Rattle.aper_values.specs.types.Types.{rows_of}
use Rattle.aper.proofs.measuring.OrderLemmas.{known_row}
use Rattle.json_fields.proofs.parts.Turns.{order_turn, order_wrong, order_end}
use Rattle.json_fields.proofs.parts.order.are_in_order.Goals as goal

pub loop-ie-preserved : goal.loop-ie-preserved
loop-ie-preserved c =
    λ of. let l = c.loop-ie in
    let known = slots (rows_of of c.args.rows.now) in
    let is : has_slot c.ie-item.result.id known ≡ c.is_some-is_known.result =
    known_row of c.ie-item.result.id c.args.rows.now ∙ ap is_some (sym c.row_type.ensures) ∙ sym c.is_some-is_known.ensures in
    order_turn known c.args.ies.now (slots (rows_of of l.left.now)) (slots (rows_of of c.in-Some.after.now)) l.ie-index c.ie-item.result
    c.loop-ie-test.true c.ie-item.is (c.in-Some.ensures of known is)
    ∙ l.invariant of

pub returns-in_default : goal.returns-in_default
returns-in_default c =
    λ of. let l = c.loop-ie in
    let known = slots (rows_of of c.args.rows.now) in
    let is : has_slot c.ie-item.result.id known ≡ c.is_some-is_known.result =
    known_row of c.ie-item.result.id c.args.rows.now ∙ ap is_some (sym c.row_type.ensures) ∙ sym c.is_some-is_known.ensures in
    order_wrong known c.args.ies.now (slots (rows_of of l.left.now)) l.ie-index c.ie-item.result c.loop-ie-test.true c.ie-item.is
    (c.in_default.ensures of known is)
    ∙ l.invariant of

pub returns : goal.returns
returns c =
    λ of. let l = c.loop-ie in
    order_end (slots (rows_of of c.args.rows.now)) c.args.ies.now (slots (rows_of of l.left.now)) l.ie-index c.has_mandatory.result
    c.loop-ie-test.false (c.has_mandatory.ensures of)
    ∙ l.invariant of
