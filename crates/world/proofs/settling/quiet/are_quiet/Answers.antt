use Rattle.std.proofs.Common.{◌+◌, drop, sym, ◌∙◌, ap}
use Rattle.std.proofs.lemmas.List.{drop_all}
use Rattle.run_links.specs.Networks.{state_of}
use Rattle.world.proofs.turns.Lists.{drop_one}
use Rattle.world.specs.settling.Bearers.{are_quiet}
use Rattle.world.proofs.settling.OfBearers.{quiet_here, busy_here}
use Rattle.world.proofs.settling.quiet.are_quiet.Goals as goal

pub loop-ue-preserved : goal.loop-ue-preserved
loop-ue-preserved g c =
    let l = c.loop-ue in
    let xs = c.args.bearers.now in
    let s = state_of (g.U.Units.records c.args.run_state.now.units) c.args.run_state.now.core c.args.run_state.now.network in
    quiet_here s _ (drop (l.ue-index + 1) xs) (drop l.ue-index xs) c.rests.result (drop_one xs l.ue-index _ c.loop-ue-test.true)
    c.rests.ensures
    c.if-not-rests.false
    ∙ l.invariant

pub returns-then-not-rests : goal.returns-then-not-rests
returns-then-not-rests g c =
    let l = c.loop-ue in
    let xs = c.args.bearers.now in
    let s = state_of (g.U.Units.records c.args.run_state.now.units) c.args.run_state.now.core c.args.run_state.now.network in
    busy_here s _ (drop (l.ue-index + 1) xs) (drop l.ue-index xs) c.rests.result (drop_one xs l.ue-index _ c.loop-ue-test.true)
    c.rests.ensures
    c.if-not-rests.true
    ∙ l.invariant

pub returns : goal.returns
returns g c =
    let l = c.loop-ue in
    let s = state_of (g.U.Units.records c.args.run_state.now.units) c.args.run_state.now.core c.args.run_state.now.network in
    sym (ap (are_quiet s) (drop_all l.ue-index c.args.bearers.now c.loop-ue-test.false)) ∙ l.invariant
