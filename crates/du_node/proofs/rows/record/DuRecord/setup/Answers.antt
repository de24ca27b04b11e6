use Rattle.std.proofs.Common.{sym, subst}
use Rattle.std.specs.Prelude.{Err}
use Rattle.std.proofs.lemmas.Result.{err_from_is_err_and}
use Rattle.unit_defs.specs.Du.{setup}
use Rattle.unit_defs.specs.octet_defs.Codec.{octet_way}
use Rattle.du_node.proofs.rows.ContextSteps.{setup_step, setup_stops}
use Rattle.unit_messages.specs.steps.Steps.{IsStep, step_after}
use Rattle.du_contexts.specs.Tables.{OctetDu}
use Rattle.du_node.specs.rows.Records.{du_record}
use Rattle.du_node.proofs.rows.record.DuRecord.setup.Goals as goal

pub returns-in_err-set_up : goal.returns-in_err-set_up
returns-in_err-set_up g c =
    let r : OctetDu = du_record c.self.inside.gnb c.self.inside.number c.self.inside.is_set_up c.self.inside.contexts c.self.inside.requests in
    let codec = g.C.MessageCodec.codec in
    let now : OctetDu = du_record c.self.inside.gnb c.self.inside.number c.self.inside.is_set_up c.set_up.new.self c.self.inside.requests in
    let p = err_from_is_err_and c.from_residual.result c.from_residual.ensures.1 in
    rw (p.1, p.2)
    (subst (λ (s : OctetDu). IsStep {X = Unit {0}} (step_after c.args.outputs.now (setup (octet_way codec) c.args.request.channel c.args.request.ue c.args.request.instance c.args.context.epoch c.args.uplinks.now c.args.context.sn c.args.context.peer s))
    c.set_up.new.outputs now (Err c.in_err-set_up.field-0.0)) c.self.view_is
    (setup_stops codec c.args.request.channel c.args.request.ue c.args.request.instance c.args.context.epoch c.args.uplinks.now c.args.context.sn c.args.context.peer r
    c.args.outputs.now c.set_up.new.outputs c.set_up.new.outputs (Unit {0}) (Unit {0}) now now c.in_err-set_up.field-0.0
    (sym c.if-not-are_first_bearers.ensures) (c.in_err-set_up.ensures codec r)))

pub returns : goal.returns
returns g c =
    let r : OctetDu = du_record c.self.inside.gnb c.self.inside.number c.self.inside.is_set_up c.self.inside.contexts c.self.inside.requests in
    let codec = g.C.MessageCodec.codec in
    let now : OctetDu = du_record c.self.inside.gnb c.self.inside.number c.self.inside.is_set_up c.set_up.new.self c.self.inside.requests in
    subst (λ (s : OctetDu). IsStep (step_after c.args.outputs.now (setup (octet_way codec) c.args.request.channel c.args.request.ue c.args.request.instance c.args.context.epoch c.args.uplinks.now c.args.context.sn c.args.context.peer s))
    c.reply.new.outputs c.reply.new.self c.reply.result) c.self.view_is
    (setup_step codec c.args.request.channel c.args.request.ue c.args.request.instance c.args.context.epoch c.args.uplinks.now c.args.context.sn c.args.context.peer r
    c.args.outputs.now c.set_up.new.outputs c.reply.new.outputs now c.reply.new.self c.in_ok-downlinks.downlinks c.reply.result
    (sym c.if-not-are_first_bearers.ensures) (c.in_ok-set_up.ensures codec r) c.in_ok-downlinks.ensures c.reply.ensures)
