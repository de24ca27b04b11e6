use Rattle.std.proofs.Common.{◌≡◌, ℕ, List, [], sym, subst}
use Rattle.std.specs.Prelude.{Err}
use Rattle.gnb_types.specs.declared.outputs.Output.{Output}
use Rattle.unit_defs.specs.octet_defs.Units.{core_steps}
use Rattle.run_defs.specs.UnitRuns.{core_done}
use Rattle.unit_messages.specs.steps.Steps.{stepped, step_after, IsStep}
use Rattle.world_steps.specs.declared.cause.Cause.{Cause}
use Rattle.world_steps.specs.control_messages.ControlMessages.{CoreGives}
use Rattle.world_steps.proofs.control_messages.NeverSpent.{core_gives, core_fails}
use Rattle.world_steps.proofs.control_messages.gives.core_outputs.Goals as goal

pub returns-in-Ok : goal.returns-in-Ok
returns-in-Ok g c =
    let codec = g.C.MessageCodec.codec in
    core_gives codec c.args.core.now c.step.new.self c.args.control_message.now.from c.args.control_message.now.message c.step.new.outputs
    (subst (λ (o : List ℕ). step_after [] (core_steps codec c.args.core.now c.args.control_message.now.from o) ≡ stepped c.step.new.outputs c.step.new.self)
    c.as_slice-octets.ensures
    (subst (λ (b : List Output). step_after b (core_steps codec c.args.core.now c.args.control_message.now.from c.as_slice-octets.result.now)
    ≡ stepped c.step.new.outputs c.step.new.self) c.new-outputs.ensures c.in-Ok.ensures))

pub returns-in-Err : goal.returns-in-Err
returns-in-Err g c =
    let codec = g.C.MessageCodec.codec in
    let r = c.args.core.now in
    let from = c.args.control_message.now.from in
    let stepped_so = λ (b : List Output) (o : List ℕ). IsStep {X = Unit {0}} (step_after b (core_steps codec r from o)) c.step.new.outputs c.step.new.self
    (Err c.in-Err.error) in
    let failed : stepped_so [] c.args.control_message.now.message =
    subst (λ (o : List ℕ). stepped_so [] o) c.as_slice-octets.ensures
    (subst (λ (b : List Output). stepped_so b c.as_slice-octets.result.now) c.new-outputs.ensures c.in-Err.ensures) in
    subst (λ (x : Cause). CoreGives (core_done codec r (core_steps codec r from c.args.control_message.now.message)) c.step.new.self (Err x))
    (sym c.cause_of.ensures)
    (core_fails codec r c.step.new.self from c.args.control_message.now.message c.step.new.outputs c.in-Err.error failed)
