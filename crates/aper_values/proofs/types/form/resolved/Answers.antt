use Rattle.std.proofs.Common.{◌∙◌}
use Rattle.aper_values.proofs.types.Follow.{follows, rank_follows}
use Rattle.aper_values.proofs.types.form.resolved.Goals as goal

pub loop-next-smaller : goal.loop-next-smaller
loop-next-smaller c =
    rank_follows c.args.m.now c.loop-next.id.number c.in-Some.next c.in-Some.ensures.sound c.loop-next.invariant.inside
    c.in-Some.ensures.target

pub loop-next-preserved : goal.loop-next-preserved
loop-next-preserved c = record {
  inside = c.in-Some.ensures.inside;
  same =
      c.loop-next.invariant.same
      ∙ follows c.args.m.now c.loop-next.id.number c.in-Some.next c.in-Some.ensures.sound c.loop-next.invariant.inside
      c.in-Some.ensures.target;
}
