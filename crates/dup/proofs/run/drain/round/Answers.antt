use Rattle.dup_defs.specs.declared.types.leg.Leg.TheVariants as legs
use Rattle.dup_defs.specs.dup_run_defs.Steps.{turn}
use Rattle.dup.proofs.run.StepLemmas.{then_is, then_same}
use Rattle.dup.proofs.run.drain.round.Goals as goal

pub returns-clause-step : goal.returns-clause-step
returns-clause-step c =
    let old = c.args.bearer.now in
    let ok = c.in_ok-lines.ensures in
    then_is old c.turn.new.bearer c.turn-more.new.bearer c.turn-more.result c.joined.result c.in_ok-lines.lines (turn old.sn old.quota legs.First old.run)
    (λ n q. turn n q legs.Second) ok.step ok.same c.turn-more.ensures.step c.joined.ensures

pub returns-clause-same : goal.returns-clause-same
returns-clause-same c =
    then_same c.args.bearer.now c.turn.new.bearer c.turn-more.new.bearer c.turn-more.result c.joined.result c.in_ok-lines.lines c.in_ok-lines.ensures.same
    c.turn-more.ensures.same c.joined.ensures
