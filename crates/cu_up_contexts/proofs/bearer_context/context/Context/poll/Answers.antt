use Rattle.std.proofs.Common.{◌<◌, ℕ, List, length, Option, sym, subst, arith}
use Rattle.std.specs.Borrow.{Bor}
use Rattle.std.proofs.Math.ListN.{set}
use Rattle.gnb_types.specs.Orders.{bearer_cmp}
use Rattle.gnb_types.specs.declared.reasons.RefuseReason.TheVariants.{Empty}
use Rattle.tables.specs.Tables.{find}
use Rattle.unit_defs.specs.CuUpRecords.{CuUpBearer, CuUpContext}
use Rattle.unit_messages.specs.steps.Steps.{step_after, IsStep}
use Rattle.pdcp_bearers.specs.ue_bearers.Senders.{IsLeastFrom}
use Rattle.cu_up_bearer.specs.declared.tunnels.at.Scope.{Scope}
use Rattle.cu_up_bearer.specs.bearers.Bearers.{kept}
use Rattle.cu_up_contexts.specs.bearer_context.Bearers.{context_as}
use Rattle.cu_up_contexts.specs.bearer_context.Items.{polled}
use Rattle.cu_up_contexts.proofs.bearer_context.Found.{not_found}
use Rattle.cu_up_contexts.proofs.bearer_context.Polls.{refuses}
use Rattle.cu_up_contexts.proofs.bearer_context.Polled.{polls_none, polls_unserved, polls_goes}
use Rattle.cu_up_contexts.proofs.bearer_context.context.Context.poll.Goals as goal

pub returns-in_default : goal.returns-in_default
returns-in_default c = λ codec.
    let i = c.self.inside in
    let here : CuUpContext = context_as i.instance i.sn i.quota i.flags i.bearers.items in
    subst
    (λ (x : CuUpContext). IsStep (step_after c.args.out.now (polled codec c.args.ue x c.args.bearer (find bearer_cmp x.bearers c.args.bearer))) c.refuse.new.out x c.refuse.result)
    c.self.view_is
    (subst (λ (o : Option CuUpBearer). IsStep (step_after c.args.out.now (polled codec c.args.ue here c.args.bearer o)) c.refuse.new.out here c.refuse.result)
    (sym (not_found i.instance i.sn i.quota i.flags i.bearers.items c.args.bearer c.len.result (omega (arith, i.bearers.ok.0)) c.in_default.ensures.none))
    (refuses c.args.out.now c.refuse.new.out Empty here c.refuse.result c.refuse.ensures.ok c.refuse.ensures.err))

pub returns-in_default-unconfirmed : goal.returns-in_default-unconfirmed
returns-in_default-unconfirmed c = λ codec.
    let i = c.self.inside in
    let bs = i.bearers.items in
    let b = c.index_mut-found.result.now in
    let at : Scope = record { ue = c.args.ue; bearer = c.args.bearer; sn = i.sn; quota = i.quota; flags = i.flags } in
    let within : c.in-Some.index < length bs = omega (arith, c.in-Some.ensures.within.0, i.bearers.ok.0) in
    subst
    (λ (x : CuUpContext). IsStep (step_after c.args.out.now (polled codec c.args.ue x c.args.bearer (find bearer_cmp x.bearers c.args.bearer))) c.refuse-in_default-unconfirmed.new.out
    (context_as i.instance i.sn i.quota i.flags (set bs c.in-Some.index b)) c.refuse-in_default-unconfirmed.result)
    c.self.view_is
    (polls_none i.instance bs at c.in-Some.index b within c.in-Some.ensures.within.1 c.index_mut-found.ensures.value codec c.args.out.now c.refuse-in_default-unconfirmed.new.out c.refuse-in_default-unconfirmed.result
    c.refuse-in_default-unconfirmed.ensures.ok c.refuse-in_default-unconfirmed.ensures.err
    (subst (λ (o : Option (ℕ × Bor (List ℕ))). IsLeastFrom 0 b.down.sending.sender.unconfirmed o) c.in_default-unconfirmed.is c.unconfirmed.ensures))

pub returns-then-is_unserved : goal.returns-then-is_unserved
returns-then-is_unserved c = λ codec.
    let i = c.self.inside in
    let bs = i.bearers.items in
    let b = c.index_mut-found.result.now in
    let at : Scope = record { ue = c.args.ue; bearer = c.args.bearer; sn = i.sn; quota = i.quota; flags = i.flags } in
    let within : c.in-Some.index < length bs = omega (arith, c.in-Some.ensures.within.0, i.bearers.ok.0) in
    subst
    (λ (x : CuUpContext). IsStep (step_after c.args.out.now (polled codec c.args.ue x c.args.bearer (find bearer_cmp x.bearers c.args.bearer))) c.refuse-then-is_unserved.new.out
    (context_as i.instance i.sn i.quota i.flags (set bs c.in-Some.index b)) c.refuse-then-is_unserved.result)
    c.self.view_is
    (polls_unserved i.instance bs at c.in-Some.index b within c.in-Some.ensures.within.1 c.index_mut-found.ensures.value codec c.args.out.now c.refuse-then-is_unserved.new.out c.refuse-then-is_unserved.result
    c.in-Some-unconfirmed.field-0 (subst (λ (o : Option (ℕ × Bor (List ℕ))). IsLeastFrom 0 b.down.sending.sender.unconfirmed o) c.in-Some-unconfirmed.is c.unconfirmed.ensures)
    c.is_unserved.result c.is_unserved.ensures c.if-is_unserved.true c.refuse-then-is_unserved.ensures.ok c.refuse-then-is_unserved.ensures.err)

pub returns : goal.returns
returns c = λ codec.
    let i = c.self.inside in
    let bs = i.bearers.items in
    let b = c.index_mut-found.result.now in
    let at : Scope = record { ue = c.args.ue; bearer = c.args.bearer; sn = i.sn; quota = i.quota; flags = i.flags } in
    let within : c.in-Some.index < length bs = omega (arith, c.in-Some.ensures.within.0, i.bearers.ok.0) in
    subst
    (λ (x : CuUpContext). IsStep (step_after c.args.out.now (polled codec c.args.ue x c.args.bearer (find bearer_cmp x.bearers c.args.bearer))) c.poll.new.out
    (context_as i.instance i.sn i.quota i.flags (set bs c.in-Some.index (record b { down = record b.down { frames = c.poll.new.self } }))) c.poll.result)
    c.self.view_is
    (polls_goes i.instance bs at c.in-Some.index b within c.in-Some.ensures.within.1 c.index_mut-found.ensures.value codec c.args.out.now c.poll.new.out c.poll.result
    c.in-Some-unconfirmed.field-0 (subst (λ (o : Option (ℕ × Bor (List ℕ))). IsLeastFrom 0 b.down.sending.sender.unconfirmed o) c.in-Some-unconfirmed.is c.unconfirmed.ensures)
    c.is_unserved.result c.is_unserved.ensures c.if-is_unserved.false c.poll.new.self (c.poll.ensures codec (kept b)))
