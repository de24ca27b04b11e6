use Rattle.std.proofs.Common.{◌∙◌}
use Rattle.pdcp.proofs.Bitmaps.{bitmap_more, bitmap_done}
use Rattle.pdcp.proofs.pdu.write_report.Goals as goal

pub loop-eight-preserved : goal.loop-eight-preserved
loop-eight-preserved c =
    let steps = c.in-Some.ensures.steps in
    record {
      report = bitmap_more _ _ _ _ _ _ _ _ c.loop-eight.invariant.report steps.1.0 steps.1.1 steps.1.2 c.loop-eight.invariant.size c.packed.ensures c.in_ok-push.ensures.ok;
      size = steps.0 ∙ c.loop-eight.invariant.size;
    }

pub returns : goal.returns
returns c = bitmap_done _ _ _ c.loop-eight.invariant.report c.in-None.ensures.steps.1.0
