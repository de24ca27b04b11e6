use Rattle.std.proofs.Common.{subst}
use Rattle.gnb_types.specs.declared.inputs.Input.TheVariants as ins
use Rattle.unit_defs.specs.octet_defs.Units.{cu_up_steps}
use Rattle.unit_messages.specs.steps.Steps.{IsStep, step_after}
use Rattle.cu_up_contexts.specs.contexts.Tables.{OctetUp}
use Rattle.cu_user.specs.cu_up_rows.Records.{cu_up_record}
use Rattle.cu_user.proofs.cu_up_rows.record.CuUpRecord.take.Goals as goal

pub returns : goal.returns
returns c = λ codec lawful.
    let r : OctetUp = cu_up_record c.self.inside.gnb c.self.inside.number c.self.inside.is_set_up c.self.inside.contexts c.self.inside.requests in
    subst (λ (s : OctetUp). IsStep (step_after c.args.outputs.now (cu_up_steps codec s (ins.Packet c.args.teid c.args.octets.now)))
    c.take.new.out (cu_up_record c.self.inside.gnb c.self.inside.number c.self.inside.is_set_up c.take.new.self c.self.inside.requests) c.take.result)
    c.self.view_is (c.take.ensures codec r lawful)
