use Rattle.std.proofs.Common.{subst}
use Rattle.unit_defs.specs.octet_defs.Units.{du_steps}
use Rattle.gnb_types.specs.declared.inputs.Input.TheVariants as ins
use Rattle.unit_messages.specs.steps.Steps.{IsStep, step_after}
use Rattle.du_contexts.specs.Tables.{OctetDu}
use Rattle.du_node.specs.rows.Records.{du_record}
use Rattle.du_node.proofs.rows.record.DuRecord.take.Goals as goal

pub returns : goal.returns
returns c = λ codec lawful.
    let r : OctetDu = du_record c.self.inside.gnb c.self.inside.number c.self.inside.is_set_up c.self.inside.contexts c.self.inside.requests in
    subst (λ (s : OctetDu). IsStep (step_after c.args.outputs.now (du_steps codec s (ins.Packet c.args.teid c.args.octets.now)))
    c.take.new.outputs (du_record c.self.inside.gnb c.self.inside.number c.self.inside.is_set_up c.take.new.self c.self.inside.requests) c.take.result)
    c.self.view_is (c.take.ensures codec r lawful)
