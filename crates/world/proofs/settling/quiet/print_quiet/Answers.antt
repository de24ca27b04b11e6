use Rattle.std.proofs.Common.{◌++◌, List, ◌∙◌, ap}
use Rattle.std.proofs.lemmas.Result.{on_ok_weaker}
use Rattle.gnb_types.specs.declared.names.UeId.{UeId}
use Rattle.gnb_types.specs.declared.names.BearerId.{BearerId}
use Rattle.run_links.specs.Networks.{state_of}
use Rattle.run_links.specs.Told.{printed}
use Rattle.world.specs.settling.Bearers.{lines_of}
use Rattle.world.proofs.settling.quiet.print_quiet.Goals as goal

pub returns : goal.returns
returns g c =
    let records = g.U.Units.records c.args.run_state.now.units in
    let core = c.args.run_state.now.core in
    let s = state_of records core c.args.run_state.now.network in
    on_ok_weaker c.print_bearers.result
    (λ e world.
    e ∙ ap (λ (l : List (UeId × BearerId)). c.args.lines.now ++ printed (lines_of s l))
    (c.as_slice.ensures ∙ c.in_ok-bearers.ensures records core))
    c.print_bearers.ensures
