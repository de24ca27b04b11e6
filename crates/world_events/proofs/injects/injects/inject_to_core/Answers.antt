use Rattle.std.proofs.Common.{◌≡◌, [], sym, ◌∙◌}
use Rattle.unit_defs.specs.octet_defs.Units.{core_steps}
use Rattle.run_defs.specs.UnitRuns.{unit_world}
use Rattle.run_links.specs.Networks.{state_of}
use Rattle.unit_messages.specs.steps.Steps.{stepped, step_after}
use Rattle.world_events.proofs.injects.Injected.{core_is_given, has_room}
use Rattle.world_events.proofs.injects.injects.inject_to_core.Goals as goal

pub put_out_all-requires : goal.put_out_all-requires
put_out_all-requires g c =
    let world = unit_world g.C.MessageCodec.codec g.U.Units.answer in
    let units = g.U.Units.records c.args.run_state.now.units in
    has_room world (state_of units c.step.new.self c.args.run_state.now.network) c.step.new.outputs
    (sym (c.too_many_control_messages.ensures world units c.step.new.self) ∙ c.if-too_many_control_messages.false)

pub returns-clause-gives : goal.returns-clause-gives
returns-clause-gives g c =
    let codec = g.C.MessageCodec.codec in
    let units = g.U.Units.records c.args.run_state.now.units in
    let s = state_of units c.args.run_state.now.core c.args.run_state.now.network in
    let came : step_after [] (core_steps codec s.core c.args.from c.args.octets.now) ≡ stepped c.step.new.outputs c.step.new.self =
    (λ i. step_after (sym c.new-outputs.ensures i) (core_steps codec s.core c.args.from (sym c.as_slice-octets.ensures i))) ∙ c.in_default.ensures in
    core_is_given codec g.U.Units.answer c.args.from c.args.octets.now s c.step.new.self c.step.new.outputs
    (state_of units c.step.new.self c.put_out_all.new.self) c.args.lines.now c.put_out_all.new.lines c.look_at_spans.result came
    (c.in_ok-put_out_all.ensures codec g.U.Units.answer units c.step.new.self) (c.look_at_spans.ensures c.put_out_all.new.lines)
