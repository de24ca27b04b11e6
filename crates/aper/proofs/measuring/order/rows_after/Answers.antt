use Rattle.std.proofs.Common.{sym, ◌∙◌}
use Rattle.aper.proofs.measuring.OrderLemmas.{row_at, needed_at, none_at}
use Rattle.aper.proofs.measuring.order.rows_after.Goals as goal

pub returns-then-row-id : goal.returns-then-row-id
returns-then-row-id c = λ of. row_at of c.args.left.now c.loop-i.i c.args.id _ c.loop-i-test.true c.if-row-id.true (c.loop-i.invariant of)

pub returns-then-is_mandatory : goal.returns-then-is_mandatory
returns-then-is_mandatory c = λ of.
    needed_at of c.args.left.now c.loop-i.i c.args.id _ c.loop-i-test.true c.if-row-id.false
    (sym c.is_mandatory.ensures ∙ c.if-is_mandatory.true) (c.loop-i.invariant of)

pub returns : goal.returns
returns c = λ of. none_at of c.args.left.now c.loop-i.i c.args.id c.loop-i-test.false (c.loop-i.invariant of)
