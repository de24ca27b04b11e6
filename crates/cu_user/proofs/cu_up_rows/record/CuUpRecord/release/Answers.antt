use Rattle.std.proofs.Common.{sym, ap, ◌∙◌}
use Rattle.unit_messages.specs.steps.Steps.{stepped}
use Rattle.cu_up_contexts.specs.contexts.Tables.{OctetUp}
use Rattle.cu_user.specs.cu_up_rows.Records.{cu_up_record}
use Rattle.cu_user.proofs.cu_up_rows.BearerSteps.{release_step}
use Rattle.cu_user.proofs.cu_up_rows.record.CuUpRecord.release.Goals as goal

pub returns : goal.returns
returns g c =
    let r : OctetUp = cu_up_record c.self.inside.gnb c.self.inside.number c.self.inside.is_set_up c.self.inside.contexts c.self.inside.requests in
    let codec = g.C.MessageCodec.codec in
    release_step codec c.args.request.channel c.args.request.ue c.args.request.instance c.args.is_final c.args.self.now c.args.outputs.now c.reply.new.outputs
    c.release.new.out r
    (cu_up_record c.self.inside.gnb c.self.inside.number c.self.inside.is_set_up c.release.new.self c.self.inside.requests) c.release.result
    (c.in_ok-reply.ensures ∙ ap (λ (s : OctetUp). stepped c.reply.new.outputs s) (sym c.self.view_is)) (c.release.ensures codec r)
