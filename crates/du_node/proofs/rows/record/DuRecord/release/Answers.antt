use Rattle.std.proofs.Common.{sym, ap, ◌∙◌}
use Rattle.unit_messages.specs.steps.Steps.{stepped}
use Rattle.du_node.proofs.rows.ContextSteps.{release_step}
use Rattle.du_contexts.specs.Tables.{OctetDu}
use Rattle.du_node.specs.rows.Records.{du_record}
use Rattle.du_node.proofs.rows.record.DuRecord.release.Goals as goal

pub returns : goal.returns
returns g c =
    let r : OctetDu = du_record c.self.inside.gnb c.self.inside.number c.self.inside.is_set_up c.self.inside.contexts c.self.inside.requests in
    let codec = g.C.MessageCodec.codec in
    release_step codec c.args.request.channel c.args.request.ue c.args.request.instance c.args.self.now c.args.outputs.now c.reply.new.outputs
    c.release.new.outputs r
    (du_record c.self.inside.gnb c.self.inside.number c.self.inside.is_set_up c.release.new.self c.self.inside.requests) c.release.result
    (c.in_ok-reply.ensures ∙ ap (λ (s : OctetDu). stepped c.reply.new.outputs s) (sym c.self.view_is)) (c.release.ensures codec r)
