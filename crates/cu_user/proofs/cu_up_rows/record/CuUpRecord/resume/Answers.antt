use Rattle.std.proofs.Common.{◌≡◌, true, Option, None, sym, subst}
use Rattle.std.specs.Prelude.{Err}
use Rattle.std.proofs.lemmas.Result.{err_from_is_err_and}
use Rattle.unit_defs.specs.CuUp.{context_of}
use Rattle.unit_messages.specs.steps.Steps.{stepped, step_after, IsStep}
use Rattle.cu_up_contexts.specs.contexts.Tables.{OctetUp}
use Rattle.cu_up_contexts.specs.contexts.Rows.{resumed_at}
use Rattle.cu_user.specs.cu_up_rows.Records.{cu_up_record}
use Rattle.cu_user.specs.cu_up_rows.Modes.{refused_on, may_resume, resume_on}
use Rattle.cu_user.proofs.cu_up_rows.ModeSteps.{telling, resume_is, refuses, goes, halts}
use Rattle.unit_defs.specs.CuUpRecords.{CuUpContext}
use Rattle.cu_user.proofs.cu_up_rows.FitSteps.{is_frozen_where}
use Rattle.cu_user.proofs.cu_up_rows.record.CuUpRecord.resume.Goals as goal

pub resume-requires : goal.resume-requires
resume-requires g c = λ found is.
    let codec = g.C.MessageCodec.codec in
    let fits = subst (λ (s : OctetUp). true ≡ may_resume codec (context_of s c.args.request.ue)) (sym c.self.view_is) (c.if-not-may_resume.ensures codec) in
    is_frozen_where codec found (subst (λ (o : Option CuUpContext). true ≡ may_resume codec o) is fits)

pub returns-then-not-may_resume : goal.returns-then-not-may_resume
returns-then-not-may_resume g c =
    let codec = g.C.MessageCodec.codec in
    let r : OctetUp = c.args.self.now in
    refuses c.args.outputs.now c.refuse.new.outputs c.refuse.new.outputs (resume_on codec c.args.request.channel c.args.request.ue c.args.request.instance r (context_of r c.args.request.ue))
    (resumed_at codec c.args.request.ue r (context_of r c.args.request.ue))
    (refused_on r (context_of r c.args.request.ue))
    (telling codec c.args.request.channel c.args.request.ue c.args.request.instance r None None)
    (may_resume codec (context_of r c.args.request.ue))
    (resume_is codec c.args.request.channel c.args.request.ue c.args.request.instance r (context_of r c.args.request.ue))
    r c.refuse.result (c.if-not-may_resume.ensures codec) c.refuse.ensures

pub returns-in_err-resume : goal.returns-in_err-resume
returns-in_err-resume g c =
    let codec = g.C.MessageCodec.codec in
    let r : OctetUp = c.args.self.now in
    let inner : OctetUp = cu_up_record c.self.inside.gnb c.self.inside.number c.self.inside.is_set_up c.self.inside.contexts c.self.inside.requests in
    let now : OctetUp = cu_up_record c.self.inside.gnb c.self.inside.number c.self.inside.is_set_up c.resume.new.self c.self.inside.requests in
    let p = err_from_is_err_and c.from_residual.result c.from_residual.ensures.1 in
    rw (p.1, p.2)
    (halts c.args.outputs.now c.resume.new.out c.resume.new.out (resume_on codec c.args.request.channel c.args.request.ue c.args.request.instance r (context_of r c.args.request.ue))
    (resumed_at codec c.args.request.ue r (context_of r c.args.request.ue))
    (refused_on r (context_of r c.args.request.ue))
    (telling codec c.args.request.channel c.args.request.ue c.args.request.instance r None None)
    (may_resume codec (context_of r c.args.request.ue))
    (resume_is codec c.args.request.channel c.args.request.ue c.args.request.instance r (context_of r c.args.request.ue))
    (Unit {0}) (Unit {0}) now now c.in_err-resume.field-0.0 (c.if-not-may_resume.ensures codec)
    (subst (λ (s : OctetUp). IsStep {X = Unit {0}} (step_after c.args.outputs.now (resumed_at codec c.args.request.ue s (context_of s c.args.request.ue))) c.resume.new.out now (Err c.in_err-resume.field-0.0))
    c.self.view_is (c.in_err-resume.ensures codec inner)))

pub returns : goal.returns
returns g c =
    let codec = g.C.MessageCodec.codec in
    let r : OctetUp = c.args.self.now in
    let inner : OctetUp = cu_up_record c.self.inside.gnb c.self.inside.number c.self.inside.is_set_up c.self.inside.contexts c.self.inside.requests in
    let now : OctetUp = cu_up_record c.self.inside.gnb c.self.inside.number c.self.inside.is_set_up c.resume.new.self c.self.inside.requests in
    goes c.args.outputs.now c.resume.new.out c.modified.new.outputs (resume_on codec c.args.request.channel c.args.request.ue c.args.request.instance r (context_of r c.args.request.ue))
    (resumed_at codec c.args.request.ue r (context_of r c.args.request.ue))
    (refused_on r (context_of r c.args.request.ue))
    (telling codec c.args.request.channel c.args.request.ue c.args.request.instance r None None)
    (may_resume codec (context_of r c.args.request.ue))
    (resume_is codec c.args.request.channel c.args.request.ue c.args.request.instance r (context_of r c.args.request.ue))
    now c.modified.new.self c.modified.result (c.if-not-may_resume.ensures codec)
    (subst (λ (s : OctetUp). step_after c.args.outputs.now (resumed_at codec c.args.request.ue s (context_of s c.args.request.ue)) ≡ stepped c.resume.new.out now) c.self.view_is (c.in_ok-resume.ensures codec inner))
    c.modified.ensures
