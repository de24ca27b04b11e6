use Rattle.std.proofs.Common.{◌+◌, ◌++◌, List, drop, sym, ◌∙◌, ap}
use Rattle.std.proofs.lemmas.List.{drop_all, append-nil}
use Rattle.gnb_types.specs.declared.names.UeId.{UeId}
use Rattle.gnb_types.specs.declared.names.BearerId.{BearerId}
use Rattle.run_links.specs.Networks.{state_of}
use Rattle.run_links.specs.Told.{printed}
use Rattle.world.proofs.turns.Lists.{drop_one}
use Rattle.world.specs.settling.Bearers.{lines_of}
use Rattle.world.proofs.settling.OfBearers.{line_more}
use Rattle.world.proofs.settling.quiet.print_bearers.Goals as goal

pub loop-ue-preserved : goal.loop-ue-preserved
loop-ue-preserved g c =
    let l = c.loop-ue in
    let xs = c.args.bearers.now in
    let s = state_of (g.U.Units.records c.args.run_state.now.units) c.args.run_state.now.core c.args.run_state.now.network in
    line_more s _ (drop (l.ue-index + 1) xs) (drop l.ue-index xs) l.lines c.push.new.self c.ask_line.result
    (drop_one xs l.ue-index _ c.loop-ue-test.true) c.in_ok-push.ensures.ok c.ask_line.ensures
    ∙ l.invariant

pub returns : goal.returns
returns g c =
    let l = c.loop-ue in
    let s = state_of (g.U.Units.records c.args.run_state.now.units) c.args.run_state.now.core c.args.run_state.now.network in
    sym (append-nil l.lines)
    ∙ ap (λ (es : List (UeId × BearerId)). l.lines ++ printed (lines_of s es))
    (sym (drop_all l.ue-index c.args.bearers.now c.loop-ue-test.false))
    ∙ l.invariant
