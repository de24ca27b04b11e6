use Rattle.std.proofs.Common.{sym, subst}
use Rattle.unit_defs.specs.CuUp.{context_of}
use Rattle.unit_defs.specs.octet_defs.Units.{OctetAnswer}
use Rattle.unit_messages.specs.steps.Steps.{step_after, IsStep}
use Rattle.cu_up_contexts.specs.contexts.Tables.{OctetUp}
use Rattle.cu_user.proofs.cu_up_rows.ModeSteps.{is_refused, is_busy, is_frozen}
use Rattle.cu_user.proofs.cu_up_rows.record.CuUpRecord.freeze.Goals as goal

pub returns-then-not-may_freeze : goal.returns-then-not-may_freeze
returns-then-not-may_freeze g c =
    let codec = g.C.MessageCodec.codec in
    let r : OctetUp = c.args.self.now in
    subst (λ (a : OctetAnswer OctetUp). IsStep (step_after c.args.outputs.now a) c.refuse.new.outputs r c.refuse.result)
    (sym (is_refused codec c.args.request.channel c.args.request.ue c.args.request.instance r c.args.peer c.args.down.now c.args.up.now (context_of r c.args.request.ue) (c.if-not-may_freeze.ensures codec))) c.refuse.ensures

pub returns-then-not-may_serve : goal.returns-then-not-may_serve
returns-then-not-may_serve g c =
    let codec = g.C.MessageCodec.codec in
    let r : OctetUp = c.args.self.now in
    subst (λ (a : OctetAnswer OctetUp). IsStep (step_after c.args.outputs.now a) c.fail_freeze.new.outputs c.fail_freeze.new.self c.fail_freeze.result)
    (sym (is_busy codec c.args.request.channel c.args.request.ue c.args.request.instance r c.args.peer c.args.down.now c.args.up.now (context_of r c.args.request.ue) (c.if-not-may_freeze.ensures codec) (c.if-not-may_serve.ensures codec)))
    c.fail_freeze.ensures

pub freeze_known-requires : goal.freeze_known-requires
freeze_known-requires g c = let codec = g.C.MessageCodec.codec in sym (c.if-not-may_serve.ensures codec)

pub returns : goal.returns
returns g c =
    let codec = g.C.MessageCodec.codec in
    let r : OctetUp = c.args.self.now in
    subst (λ (a : OctetAnswer OctetUp). IsStep (step_after c.args.outputs.now a) c.freeze_known.new.outputs c.freeze_known.new.self c.freeze_known.result)
    (sym (is_frozen codec c.args.request.channel c.args.request.ue c.args.request.instance r c.args.peer c.args.down.now c.args.up.now (context_of r c.args.request.ue) (c.if-not-may_freeze.ensures codec) (c.if-not-may_serve.ensures codec)))
    c.freeze_known.ensures
