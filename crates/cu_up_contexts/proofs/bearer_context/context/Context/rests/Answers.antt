use Rattle.std.proofs.Common.{◌≡◌, true, Option, Some, sym, ap, ◌∙◌, subst, arith}
use Rattle.unit_defs.specs.CuUpRecords.{CuUpBearer, CuUpContext}
use Rattle.unit_defs.specs.Accessors.{up_bearer_rests, up_context_rests}
use Rattle.cu_up_bearer.specs.bearers.Bearers.{kept}
use Rattle.cu_up_contexts.specs.bearer_context.Bearers.{context_as}
use Rattle.cu_up_contexts.proofs.bearer_context.Found.{found, not_found}
use Rattle.cu_up_contexts.proofs.bearer_context.Polls.{rests_both}
use Rattle.cu_up_contexts.proofs.bearer_context.context.Context.rests.Goals as goal

pub returns-in-Some : goal.returns-in-Some
returns-in-Some c =
    let i = c.self.inside in
    let here : CuUpContext = context_as i.instance i.sn i.quota i.flags i.bearers.items in
    subst (λ (x : CuUpContext). c.rests.result ≡ up_context_rests c.args.bearer (Some x)) c.self.view_is
    (c.rests.ensures ∙ rests_both here (kept c.index.result.now)
    ∙ ap (λ (o : Option CuUpBearer). up_bearer_rests here o)
    (sym (found i.instance i.sn i.quota i.flags i.bearers.items c.args.bearer c.in-Some.index c.index.result.now
    (omega (arith, c.in-Some.ensures.within.0, i.bearers.ok.0)) c.in-Some.ensures.within.1 c.index.ensures)))

pub returns-in-None : goal.returns-in-None
returns-in-None c =
    let i = c.self.inside in
    let here : CuUpContext = context_as i.instance i.sn i.quota i.flags i.bearers.items in
    subst (λ (x : CuUpContext). true ≡ up_context_rests c.args.bearer (Some x)) c.self.view_is
    (ap (λ (o : Option CuUpBearer). up_bearer_rests here o)
    (sym (not_found i.instance i.sn i.quota i.flags i.bearers.items c.args.bearer c.len.result (omega (arith, i.bearers.ok.0)) c.in-None.ensures.none)))
