use Rattle.std.proofs.Common.{rules, sym, subst}
use Rattle.std.specs.Prelude.{Err}
use Rattle.std.proofs.lemmas.Result.{err_from_is_err_and}
use Rattle.unit_defs.specs.Du.{modify}
use Rattle.unit_defs.specs.octet_defs.Codec.{octet_way}
use Rattle.du_node.proofs.rows.ContextSteps.{modify_drops, modify_step, modify_stops}
use Rattle.unit_messages.specs.steps.Steps.{IsStep, step_after}
use Rattle.du_contexts.specs.Tables.{OctetDu}
use Rattle.du_node.specs.rows.Records.{du_record}
use Rattle.du_node.proofs.rows.record.DuRecord.modify.Goals as goal

pub returns-in_default : goal.returns-in_default
returns-in_default g c =
    let r : OctetDu = du_record c.self.inside.gnb c.self.inside.number c.self.inside.is_set_up c.self.inside.contexts c.self.inside.requests in
    let codec = g.C.MessageCodec.codec in
    subst (λ (s : OctetDu). IsStep (step_after c.args.outputs.now (modify (octet_way codec) c.args.request.channel c.args.request.ue c.args.request.instance c.args.epoch s))
    c.put.new.outputs s c.put.result) c.self.view_is
    (rw (modify_drops codec c.args.request.channel c.args.request.ue c.args.request.instance c.args.epoch r c.args.outputs.now c.put.new.outputs c.put.new.outputs
    (sym (c.in_default.ensures r))) (search rules))

pub returns-in_err-renew : goal.returns-in_err-renew
returns-in_err-renew g c =
    let r : OctetDu = du_record c.self.inside.gnb c.self.inside.number c.self.inside.is_set_up c.self.inside.contexts c.self.inside.requests in
    let codec = g.C.MessageCodec.codec in
    let now : OctetDu = du_record c.self.inside.gnb c.self.inside.number c.self.inside.is_set_up c.renew.new.self c.self.inside.requests in
    let p = err_from_is_err_and c.from_residual.result c.from_residual.ensures.1 in
    rw (p.1, p.2)
    (subst (λ (s : OctetDu). IsStep {X = Unit {0}} (step_after c.args.outputs.now (modify (octet_way codec) c.args.request.channel c.args.request.ue c.args.request.instance c.args.epoch s))
    c.renew.new.outputs now (Err c.in_err-renew.field-0.0)) c.self.view_is
    (modify_stops codec c.args.request.channel c.args.request.ue c.args.request.instance c.args.epoch r c.args.outputs.now c.renew.new.outputs c.renew.new.outputs
    (Unit {0}) (Unit {0}) c.in-Some._old now now c.in_err-renew.field-0.0 (c.in-Some.ensures r) (c.in_err-renew.ensures codec r)))

pub returns : goal.returns
returns g c =
    let r : OctetDu = du_record c.self.inside.gnb c.self.inside.number c.self.inside.is_set_up c.self.inside.contexts c.self.inside.requests in
    let codec = g.C.MessageCodec.codec in
    let now : OctetDu = du_record c.self.inside.gnb c.self.inside.number c.self.inside.is_set_up c.renew.new.self c.self.inside.requests in
    subst (λ (s : OctetDu). IsStep (step_after c.args.outputs.now (modify (octet_way codec) c.args.request.channel c.args.request.ue c.args.request.instance c.args.epoch s))
    c.reply.new.outputs c.reply.new.self c.reply.result) c.self.view_is
    (modify_step codec c.args.request.channel c.args.request.ue c.args.request.instance c.args.epoch r c.args.outputs.now c.renew.new.outputs c.reply.new.outputs
    c.in-Some._old now c.reply.new.self c.in_ok-downlinks.downlinks c.reply.result (c.in-Some.ensures r) (c.in_ok-renew.ensures codec r)
    c.in_ok-downlinks.ensures c.reply.ensures)
