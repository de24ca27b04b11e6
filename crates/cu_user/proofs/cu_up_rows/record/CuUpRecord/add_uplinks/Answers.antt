use Rattle.std.proofs.Common.{◌≡◌, List, Some, None, ap, ◌∙◌, subst}
use Rattle.std.specs.Prelude.{Err}
use Rattle.std.proofs.lemmas.Result.{err_from_is_err_and}
use Rattle.gnb_types.specs.declared.plans.Tunnel.{Tunnel}
use Rattle.unit_defs.specs.CuUp.{context_of}
use Rattle.unit_messages.specs.steps.Steps.{stepped, step_after, IsStep}
use Rattle.cu_up_contexts.specs.contexts.Tables.{OctetUp}
use Rattle.cu_up_contexts.specs.contexts.Rows.{added_at, uplinks_at}
use Rattle.cu_user.specs.cu_up_rows.Records.{cu_up_record}
use Rattle.cu_user.specs.cu_up_rows.Modes.{refused_on, may_add, uplinks_on}
use Rattle.cu_user.proofs.cu_up_rows.ModeSteps.{telling, uplinks_is, refuses, goes, halts}
use Rattle.cu_user.proofs.cu_up_rows.record.CuUpRecord.add_uplinks.Goals as goal

pub returns-then-not-may_add : goal.returns-then-not-may_add
returns-then-not-may_add g c =
    let codec = g.C.MessageCodec.codec in
    let r : OctetUp = c.args.self.now in
    refuses c.args.outputs.now c.refuse.new.outputs c.refuse.new.outputs (uplinks_on codec c.args.request.channel c.args.request.ue c.args.request.instance r (context_of r c.args.request.ue))
    (added_at codec c.args.request.ue r (context_of r c.args.request.ue))
    (refused_on r (context_of r c.args.request.ue))
    (telling codec c.args.request.channel c.args.request.ue c.args.request.instance r (Some (uplinks_at codec r.next_teid (context_of r c.args.request.ue))) None)
    (may_add codec (context_of r c.args.request.ue))
    (uplinks_is codec c.args.request.channel c.args.request.ue c.args.request.instance r (context_of r c.args.request.ue))
    r c.refuse.result (c.if-not-may_add.ensures codec) c.refuse.ensures

pub returns-in_err-tunnels : goal.returns-in_err-tunnels
returns-in_err-tunnels g c =
    let codec = g.C.MessageCodec.codec in
    let r : OctetUp = c.args.self.now in
    let inner : OctetUp = cu_up_record c.self.inside.gnb c.self.inside.number c.self.inside.is_set_up c.self.inside.contexts c.self.inside.requests in
    let now : OctetUp = cu_up_record c.self.inside.gnb c.self.inside.number c.self.inside.is_set_up c.add_uplinks.new.self c.self.inside.requests in
    let p = err_from_is_err_and c.from_residual.result c.from_residual.ensures.1 in
    rw (p.1, p.2)
    (halts c.args.outputs.now c.add_uplinks.new.out c.add_uplinks.new.out (uplinks_on codec c.args.request.channel c.args.request.ue c.args.request.instance r (context_of r c.args.request.ue))
    (added_at codec c.args.request.ue r (context_of r c.args.request.ue))
    (refused_on r (context_of r c.args.request.ue))
    (telling codec c.args.request.channel c.args.request.ue c.args.request.instance r (Some (uplinks_at codec r.next_teid (context_of r c.args.request.ue))) None)
    (may_add codec (context_of r c.args.request.ue))
    (uplinks_is codec c.args.request.channel c.args.request.ue c.args.request.instance r (context_of r c.args.request.ue))
    (List Tunnel) (Unit {0}) now now c.in_err-tunnels.field-0.0 (c.if-not-may_add.ensures codec)
    (subst (λ (s : OctetUp). IsStep {X = List Tunnel} (step_after c.args.outputs.now (added_at codec c.args.request.ue s (context_of s c.args.request.ue)))
    c.add_uplinks.new.out now (Err c.in_err-tunnels.field-0.0))
    c.self.view_is (c.in_err-tunnels.ensures.step codec inner)))

pub returns : goal.returns
returns g c =
    let codec = g.C.MessageCodec.codec in
    let r : OctetUp = c.args.self.now in
    let inner : OctetUp = cu_up_record c.self.inside.gnb c.self.inside.number c.self.inside.is_set_up c.self.inside.contexts c.self.inside.requests in
    let now : OctetUp = cu_up_record c.self.inside.gnb c.self.inside.number c.self.inside.is_set_up c.add_uplinks.new.self c.self.inside.requests in
    let told : c.in_ok-tunnels.tunnels ≡ uplinks_at codec r.next_teid (context_of r c.args.request.ue) =
    c.in_ok-tunnels.ensures.tunnels codec ∙ ap (λ (s : OctetUp). uplinks_at codec s.next_teid (context_of s c.args.request.ue)) c.self.view_is in
    goes c.args.outputs.now c.add_uplinks.new.out c.modified.new.outputs (uplinks_on codec c.args.request.channel c.args.request.ue c.args.request.instance r (context_of r c.args.request.ue))
    (added_at codec c.args.request.ue r (context_of r c.args.request.ue))
    (refused_on r (context_of r c.args.request.ue))
    (telling codec c.args.request.channel c.args.request.ue c.args.request.instance r (Some (uplinks_at codec r.next_teid (context_of r c.args.request.ue))) None)
    (may_add codec (context_of r c.args.request.ue))
    (uplinks_is codec c.args.request.channel c.args.request.ue c.args.request.instance r (context_of r c.args.request.ue))
    now c.modified.new.self c.modified.result (c.if-not-may_add.ensures codec)
    (subst (λ (s : OctetUp). step_after c.args.outputs.now (added_at codec c.args.request.ue s (context_of s c.args.request.ue)) ≡ stepped c.add_uplinks.new.out now)
    c.self.view_is (c.in_ok-tunnels.ensures.step codec inner))
    (subst (λ (ts : List Tunnel). IsStep (step_after c.add_uplinks.new.out (telling codec c.args.request.channel c.args.request.ue c.args.request.instance r (Some ts) None now))
    c.modified.new.outputs c.modified.new.self c.modified.result) told c.modified.ensures)
