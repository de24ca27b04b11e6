use Rattle.std.proofs.Common.{◌∙◌, ap}
use Rattle.run_links.specs.Networks.{state_of}
use Rattle.world.specs.settling.Bearers.{are_quiet}
use Rattle.world.proofs.settling.quiet.all_quiet.Goals as goal

pub returns : goal.returns
returns g c world =
    let records = g.U.Units.records c.args.run_state.now.units in
    let core = c.args.run_state.now.core in
    c.are_quiet.ensures
    ∙ ap (are_quiet (state_of records core c.args.run_state.now.network)) (c.as_slice.ensures ∙ c.in_ok-bearers.ensures records core)
