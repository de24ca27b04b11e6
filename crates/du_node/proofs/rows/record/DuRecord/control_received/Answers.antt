use Rattle.std.proofs.Common.{sym, ap, ◌∙◌, subst}
use Rattle.unit_defs.specs.octet_defs.Units.{OctetAnswer}
use Rattle.unit_messages.specs.Messages.{message_as, answer_as}
use Rattle.du_node.proofs.rows.ControlSteps.{control_is_read}
use Rattle.unit_messages.specs.steps.Steps.{IsStep, step_after}
use Rattle.du_contexts.specs.Tables.{OctetDu}
use Rattle.du_node.proofs.rows.record.DuRecord.control_received.Goals as goal

pub returns-in-Ok : goal.returns-in-Ok
returns-in-Ok g c =
    let codec = g.C.MessageCodec.codec in
    subst (λ (a : OctetAnswer OctetDu). IsStep (step_after c.args.outputs.now a) c.message_came-acted.new.outputs c.message_came-acted.new.self c.message_came-acted.result)
    (sym (control_is_read codec c.args.self.now c.args.from c.node-own.result c.args.octets.now (message_as c.in-Ok.message) c.node-own.ensures
    c.if-not-receives.ensures (ap answer_as (sym c.in-Ok.is) ∙ c.in_ok-message.ensures))) c.message_came-acted.ensures
