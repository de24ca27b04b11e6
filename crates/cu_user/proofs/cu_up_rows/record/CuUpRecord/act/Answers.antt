use Rattle.std.proofs.Common.{sym, subst}
use Rattle.gnb_types.specs.declared.inputs.Input.{Input}
use Rattle.unit_defs.specs.octet_defs.Units.{OctetAnswer, cu_up_steps}
use Rattle.unit_messages.specs.steps.Steps.{IsStep, step_after}
use Rattle.cu_up_contexts.specs.contexts.Tables.{OctetUp}
use Rattle.cu_user.proofs.cu_up_rows.SetupSteps.{tick_acts}
use Rattle.cu_user.proofs.cu_up_rows.record.CuUpRecord.act.Goals as goal

pub returns-in-Tick : goal.returns-in-Tick
returns-in-Tick g c = λ items.
    let codec = g.C.MessageCodec.codec in
    subst (λ (x : Input). IsStep (step_after c.args.outputs.now (cu_up_steps codec c.args.self.now x)) c.tick.new.outputs c.tick.new.self c.tick.result)
    (sym c.in-Tick.is)
    (subst (λ (a : OctetAnswer OctetUp). IsStep (step_after c.args.outputs.now a) c.tick.new.outputs c.tick.new.self c.tick.result)
    (sym (tick_acts codec c.args.self.now)) (c.tick.ensures codec))
