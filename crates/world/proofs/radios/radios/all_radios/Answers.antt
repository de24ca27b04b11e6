use Rattle.std.proofs.Common.{List, ◌∙◌, ap, subst}
use Rattle.gnb_types.specs.declared.names.UeId.{UeId}
use Rattle.gnb_types.specs.declared.names.BearerId.{BearerId}
use Rattle.run_defs.specs.Settling.{attached_plans}
use Rattle.run_defs.specs.UnitRuns.{unit_world}
use Rattle.run_links.specs.Networks.{OctetOutcome, state_of}
use Rattle.world_steps.specs.Gives.{EventGives}
use Rattle.world.specs.radios.RadioTurns.{bearer_turns}
use Rattle.world.proofs.radios.RadioLists.{all_turns_are}
use Rattle.world.proofs.radios.radios.all_radios.Goals as goal

pub returns-clause-gives : goal.returns-clause-gives
returns-clause-gives g c =
    let world = unit_world g.C.MessageCodec.codec g.U.Units.answer in
    let records = g.U.Units.records in
    let s = state_of (records c.args.run_state.now.units) c.args.run_state.now.core c.args.run_state.now.network in
    let t = state_of (records c.bearer_turns.new.run_state.units) c.bearer_turns.new.run_state.core c.bearer_turns.new.run_state.network in
    subst (λ (o : OctetOutcome). EventGives c.args.lines.now o c.bearer_turns.new.lines t c.bearer_turns.result)
    (ap (λ (l : List (UeId × BearerId)). bearer_turns world l s)
    (c.as_slice.ensures ∙ c.in_ok-bearers.ensures (records c.args.run_state.now.units) c.args.run_state.now.core)
    ∙ all_turns_are world (attached_plans s) s) c.bearer_turns.ensures.gives
