use Rattle.std.proofs.Common.{◌≡◌, false, Option, Some, sym, ap, ◌∙◌, subst, arith}
use Rattle.unit_defs.specs.CuUpRecords.{CuUpBearer, CuUpContext}
use Rattle.unit_defs.specs.Accessors.{is_unconfirmed_in, is_unconfirmed_of}
use Rattle.cu_up_contexts.proofs.bearer_context.Found.{found, not_found}
use Rattle.cu_up_contexts.proofs.bearer_context.Polls.{least_is}
use Rattle.cu_up_contexts.proofs.bearer_context.context.Context.is_unconfirmed.Goals as goal

pub returns-in-Some : goal.returns-in-Some
returns-in-Some c =
    let i = c.self.inside in
    subst (λ (x : CuUpContext). c.is_some.result ≡ is_unconfirmed_of c.args.bearer (Some x)) c.self.view_is
    (c.is_some.ensures ∙ least_is _ c.unconfirmed.result c.unconfirmed.ensures
    ∙ ap (λ (o : Option CuUpBearer). is_unconfirmed_in o)
    (sym (found i.instance i.sn i.quota i.flags i.bearers.items c.args.bearer c.in-Some.index c.index.result.now
    (omega (arith, c.in-Some.ensures.within.0, i.bearers.ok.0)) c.in-Some.ensures.within.1 c.index.ensures)))

pub returns-in-None : goal.returns-in-None
returns-in-None c =
    let i = c.self.inside in
    subst (λ (x : CuUpContext). false ≡ is_unconfirmed_of c.args.bearer (Some x)) c.self.view_is
    (ap (λ (o : Option CuUpBearer). is_unconfirmed_in o)
    (sym (not_found i.instance i.sn i.quota i.flags i.bearers.items c.args.bearer c.len.result (omega (arith, i.bearers.ok.0)) c.in-None.ensures.none)))
