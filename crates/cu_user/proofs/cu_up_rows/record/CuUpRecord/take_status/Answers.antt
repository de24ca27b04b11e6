use Rattle.std.proofs.Common.{◌≡◌, true, Option, Some, None, sym, subst}
use Rattle.std.specs.Prelude.{Err}
use Rattle.std.proofs.lemmas.Result.{err_from_is_err_and}
use Rattle.unit_defs.specs.CuUp.{context_of}
use Rattle.unit_messages.specs.steps.Steps.{stepped, step_after, IsStep}
use Rattle.cu_up_contexts.specs.contexts.Tables.{OctetUp}
use Rattle.cu_up_contexts.specs.contexts.Rows.{known_at}
use Rattle.cu_user.specs.cu_up_rows.Records.{cu_up_record}
use Rattle.cu_user.specs.cu_up_rows.Modes.{refused_on, may_know, status_on}
use Rattle.cu_user.proofs.cu_up_rows.ModeSteps.{telling, status_is, refuses, goes, halts}
use Rattle.unit_defs.specs.CuUpRecords.{CuUpContext}
use Rattle.cu_user.proofs.cu_up_rows.FitSteps.{is_new_where}
use Rattle.cu_user.proofs.cu_up_rows.record.CuUpRecord.take_status.Goals as goal

pub take_status-requires-clause-new : goal.take_status-requires-clause-new
take_status-requires-clause-new g c = λ found is.
    let codec = g.C.MessageCodec.codec in
    let fits = subst (λ (s : OctetUp). true ≡ may_know codec c.args.statuses.now (context_of s c.args.request.ue)) (sym c.self.view_is) (c.if-not-may_know.ensures codec) in
    is_new_where codec c.args.statuses.now found (subst (λ (o : Option CuUpContext). true ≡ may_know codec c.args.statuses.now o) is fits)

pub returns-then-not-may_know : goal.returns-then-not-may_know
returns-then-not-may_know g c =
    let codec = g.C.MessageCodec.codec in
    let r : OctetUp = c.args.self.now in
    refuses c.args.outputs.now c.refuse.new.outputs c.refuse.new.outputs (status_on codec c.args.request.channel c.args.request.ue c.args.request.instance (Some c.args.statuses.now) r (context_of r c.args.request.ue))
    (known_at codec c.args.request.ue c.args.statuses.now r (context_of r c.args.request.ue))
    (refused_on r (context_of r c.args.request.ue))
    (telling codec c.args.request.channel c.args.request.ue c.args.request.instance r None None)
    (may_know codec c.args.statuses.now (context_of r c.args.request.ue))
    (status_is codec c.args.request.channel c.args.request.ue c.args.request.instance r c.args.statuses.now (context_of r c.args.request.ue))
    r c.refuse.result (c.if-not-may_know.ensures codec) c.refuse.ensures

pub returns-in_err-take_status : goal.returns-in_err-take_status
returns-in_err-take_status g c =
    let codec = g.C.MessageCodec.codec in
    let r : OctetUp = c.args.self.now in
    let inner : OctetUp = cu_up_record c.self.inside.gnb c.self.inside.number c.self.inside.is_set_up c.self.inside.contexts c.self.inside.requests in
    let now : OctetUp = cu_up_record c.self.inside.gnb c.self.inside.number c.self.inside.is_set_up c.take_status.new.self c.self.inside.requests in
    let p = err_from_is_err_and c.from_residual.result c.from_residual.ensures.1 in
    rw (p.1, p.2)
    (halts c.args.outputs.now c.take_status.new.out c.take_status.new.out (status_on codec c.args.request.channel c.args.request.ue c.args.request.instance (Some c.args.statuses.now) r (context_of r c.args.request.ue))
    (known_at codec c.args.request.ue c.args.statuses.now r (context_of r c.args.request.ue))
    (refused_on r (context_of r c.args.request.ue))
    (telling codec c.args.request.channel c.args.request.ue c.args.request.instance r None None)
    (may_know codec c.args.statuses.now (context_of r c.args.request.ue))
    (status_is codec c.args.request.channel c.args.request.ue c.args.request.instance r c.args.statuses.now (context_of r c.args.request.ue))
    (Unit {0}) (Unit {0}) now now c.in_err-take_status.field-0.0 (c.if-not-may_know.ensures codec)
    (subst (λ (s : OctetUp). IsStep {X = Unit {0}} (step_after c.args.outputs.now (known_at codec c.args.request.ue c.args.statuses.now s (context_of s c.args.request.ue))) c.take_status.new.out now (Err c.in_err-take_status.field-0.0))
    c.self.view_is (c.in_err-take_status.ensures codec inner)))

pub returns : goal.returns
returns g c =
    let codec = g.C.MessageCodec.codec in
    let r : OctetUp = c.args.self.now in
    let inner : OctetUp = cu_up_record c.self.inside.gnb c.self.inside.number c.self.inside.is_set_up c.self.inside.contexts c.self.inside.requests in
    let now : OctetUp = cu_up_record c.self.inside.gnb c.self.inside.number c.self.inside.is_set_up c.take_status.new.self c.self.inside.requests in
    goes c.args.outputs.now c.take_status.new.out c.modified.new.outputs (status_on codec c.args.request.channel c.args.request.ue c.args.request.instance (Some c.args.statuses.now) r (context_of r c.args.request.ue))
    (known_at codec c.args.request.ue c.args.statuses.now r (context_of r c.args.request.ue))
    (refused_on r (context_of r c.args.request.ue))
    (telling codec c.args.request.channel c.args.request.ue c.args.request.instance r None None)
    (may_know codec c.args.statuses.now (context_of r c.args.request.ue))
    (status_is codec c.args.request.channel c.args.request.ue c.args.request.instance r c.args.statuses.now (context_of r c.args.request.ue))
    now c.modified.new.self c.modified.result (c.if-not-may_know.ensures codec)
    (subst (λ (s : OctetUp). step_after c.args.outputs.now (known_at codec c.args.request.ue c.args.statuses.now s (context_of s c.args.request.ue)) ≡ stepped c.take_status.new.out now) c.self.view_is (c.in_ok-take_status.ensures codec inner))
    c.modified.ensures
