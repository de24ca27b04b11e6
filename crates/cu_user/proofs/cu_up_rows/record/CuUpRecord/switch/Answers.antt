use Rattle.std.proofs.Common.{◌≡◌, Some, None, subst}
use Rattle.std.specs.Prelude.{Err}
use Rattle.std.proofs.lemmas.Result.{err_from_is_err_and}
use Rattle.gnb_types.specs.declared.names.NodeId.TheVariants.{Du}
use Rattle.unit_defs.specs.CuUp.{context_of}
use Rattle.unit_messages.specs.steps.Steps.{stepped, step_after, IsStep}
use Rattle.cu_up_contexts.specs.contexts.Tables.{OctetUp}
use Rattle.cu_up_contexts.specs.contexts.Rows.{switched_at}
use Rattle.cu_user.specs.cu_up_rows.Records.{cu_up_record}
use Rattle.cu_user.specs.cu_up_rows.Modes.{refused_on, may_switch, switch_on}
use Rattle.cu_user.proofs.cu_up_rows.ModeSteps.{telling, switch_is, refuses, goes, halts}
use Rattle.cu_user.proofs.cu_up_rows.record.CuUpRecord.switch.Goals as goal

pub returns-then-not-may_switch : goal.returns-then-not-may_switch
returns-then-not-may_switch g c =
    let codec = g.C.MessageCodec.codec in
    let r : OctetUp = c.args.self.now in
    refuses c.args.outputs.now c.refuse.new.outputs c.refuse.new.outputs (switch_on codec c.args.request.channel c.args.request.ue c.args.request.instance (Some c.args.du) (Some c.args.downlinks.now) r (context_of r c.args.request.ue))
    (switched_at codec c.args.request.ue (Du r.gnb c.args.du) c.args.downlinks.now r (context_of r c.args.request.ue))
    (refused_on r (context_of r c.args.request.ue))
    (telling codec c.args.request.channel c.args.request.ue c.args.request.instance r None None)
    (may_switch codec c.args.downlinks.now (context_of r c.args.request.ue))
    (switch_is codec c.args.request.channel c.args.request.ue c.args.request.instance r c.args.du c.args.downlinks.now (context_of r c.args.request.ue))
    r c.refuse.result (c.if-not-may_switch.ensures codec) c.refuse.ensures

pub returns-in_err-switch : goal.returns-in_err-switch
returns-in_err-switch g c =
    let codec = g.C.MessageCodec.codec in
    let r : OctetUp = c.args.self.now in
    let inner : OctetUp = cu_up_record c.self.inside.gnb c.self.inside.number c.self.inside.is_set_up c.self.inside.contexts c.self.inside.requests in
    let now : OctetUp = cu_up_record c.self.inside.gnb c.self.inside.number c.self.inside.is_set_up c.switch.new.self c.self.inside.requests in
    let p = err_from_is_err_and c.from_residual.result c.from_residual.ensures.1 in
    rw (p.1, p.2)
    (halts c.args.outputs.now c.switch.new.out c.switch.new.out (switch_on codec c.args.request.channel c.args.request.ue c.args.request.instance (Some c.args.du) (Some c.args.downlinks.now) r (context_of r c.args.request.ue))
    (switched_at codec c.args.request.ue (Du r.gnb c.args.du) c.args.downlinks.now r (context_of r c.args.request.ue))
    (refused_on r (context_of r c.args.request.ue))
    (telling codec c.args.request.channel c.args.request.ue c.args.request.instance r None None)
    (may_switch codec c.args.downlinks.now (context_of r c.args.request.ue))
    (switch_is codec c.args.request.channel c.args.request.ue c.args.request.instance r c.args.du c.args.downlinks.now (context_of r c.args.request.ue))
    (Unit {0}) (Unit {0}) now now c.in_err-switch.field-0.0 (c.if-not-may_switch.ensures codec)
    (subst (λ (s : OctetUp). IsStep {X = Unit {0}} (step_after c.args.outputs.now (switched_at codec c.args.request.ue (Du s.gnb c.args.du) c.args.downlinks.now s (context_of s c.args.request.ue))) c.switch.new.out now (Err c.in_err-switch.field-0.0))
    c.self.view_is (c.in_err-switch.ensures codec inner)))

pub returns : goal.returns
returns g c =
    let codec = g.C.MessageCodec.codec in
    let r : OctetUp = c.args.self.now in
    let inner : OctetUp = cu_up_record c.self.inside.gnb c.self.inside.number c.self.inside.is_set_up c.self.inside.contexts c.self.inside.requests in
    let now : OctetUp = cu_up_record c.self.inside.gnb c.self.inside.number c.self.inside.is_set_up c.switch.new.self c.self.inside.requests in
    goes c.args.outputs.now c.switch.new.out c.modified.new.outputs (switch_on codec c.args.request.channel c.args.request.ue c.args.request.instance (Some c.args.du) (Some c.args.downlinks.now) r (context_of r c.args.request.ue))
    (switched_at codec c.args.request.ue (Du r.gnb c.args.du) c.args.downlinks.now r (context_of r c.args.request.ue))
    (refused_on r (context_of r c.args.request.ue))
    (telling codec c.args.request.channel c.args.request.ue c.args.request.instance r None None)
    (may_switch codec c.args.downlinks.now (context_of r c.args.request.ue))
    (switch_is codec c.args.request.channel c.args.request.ue c.args.request.instance r c.args.du c.args.downlinks.now (context_of r c.args.request.ue))
    now c.modified.new.self c.modified.result (c.if-not-may_switch.ensures codec)
    (subst (λ (s : OctetUp). step_after c.args.outputs.now (switched_at codec c.args.request.ue (Du s.gnb c.args.du) c.args.downlinks.now s (context_of s c.args.request.ue)) ≡ stepped c.switch.new.out now) c.self.view_is (c.in_ok-switch.ensures codec inner))
    c.modified.ensures
