use Rattle.std.proofs.Common.{◌≡◌, ◌<◌, ◌≤◌, ℕ, false, List, length, Option, Ok, refl, sym, ap, ◌∙◌, subst, arith}
use Rattle.std.proofs.Math.ListN.{set, length-set}
use Rattle.std.specs.Global.{Vec}
use Rattle.gnb_types.specs.Orders.{bearer_cmp}
use Rattle.tables.specs.Tables.{find}
use Rattle.unit_defs.specs.CuUpRecords.{CuUpBearer, CuUpContext}
use Rattle.cu_up_bearer.specs.bearers.Bearers.{kept}
use Rattle.cu_up_bearer.specs.declared.bearers.bearer.Bearer.{Bearer}
use Rattle.cu_up_items.specs.items.Coming.{came}
use Rattle.cu_up_contexts.specs.bearer_context.Bearers.{context_as}
use Rattle.cu_up_contexts.specs.bearer_context.Contexts.{with_one, at_in}
use Rattle.cu_up_contexts.specs.bearer_context.Items.{came_in, IsReceivedIn}
use Rattle.cu_up_contexts.proofs.bearer_context.Kept.{on_ok, sound_after, others_served}
use Rattle.cu_up_contexts.proofs.bearer_context.Found.{found, not_found, with_there, with_back}
use Rattle.cu_up_contexts.proofs.bearer_context.Polls.{came_step}
use Rattle.cu_up_contexts.proofs.bearer_context.context.Context.come.Goals as goal

pub returns-in_default : goal.returns-in_default
returns-in_default c = λ codec lawful.
    let i = c.self.inside in
    let here : CuUpContext = context_as i.instance i.sn i.quota i.flags i.bearers.items in
    subst
    (λ (x : CuUpContext). IsReceivedIn (came_in codec c.args.ue x c.args.bearer c.args.kind c.args.teid c.args.octets.now (find bearer_cmp x.bearers c.args.bearer))
    c.args.bearer c.args.out.now c.push.new.self x x (Ok false))
    c.self.view_is
    (subst
    (λ (o : Option CuUpBearer). IsReceivedIn (came_in codec c.args.ue here c.args.bearer c.args.kind c.args.teid c.args.octets.now o)
    c.args.bearer c.args.out.now c.push.new.self here here (Ok false))
    (sym (not_found i.instance i.sn i.quota i.flags i.bearers.items c.args.bearer c.len.result (omega (arith, i.bearers.ok.0)) c.in_default.ensures.none))
    (c.in_ok-push.ensures.ok, refl))

pub invariant_of-self : goal.invariant_of-self
invariant_of-self c =
    let i = c.self.inside in
    let bs = i.bearers.items in
    let at = c.in-Some.index in
    let b = c.index_mut-found.result.now in
    let after = c.come-came.new.bearer in
    let within : at < length bs = omega (arith, c.in-Some.ensures.within.0, i.bearers.ok.0) in
    let same : length (set bs at after) ≡ length bs = length-set bs at after in
    sound_after c.come-came.result c.is_err.result c.is_err.ensures.value i.sn i.quota i.flags (set bs at after) c.forget_if.new.bearers.items
    (subst (λ (n : ℕ). n ≤ 8) (sym same) c.self.invariant.few) c.self.invariant.known
    (others_served i.sn i.quota i.flags bs at b after within c.index_mut-found.ensures.value c.self.invariant.served c.come-came.result
    c.come-came.ensures.of c.come-came.ensures.idle)
    (λ fine. ap (λ (v : Vec Bearer). v.items) (c.forget_if.ensures.kept fine))
    (λ failed. c.forget_if.ensures.none failed)

pub returns : goal.returns
returns c = λ codec lawful.
    let i = c.self.inside in
    let bs = i.bearers.items in
    let at = c.in-Some.index in
    let b = c.index_mut-found.result.now in
    let after = c.come-came.new.bearer in
    let within : at < length bs = omega (arith, c.in-Some.ensures.within.0, i.bearers.ok.0) in
    let whole : List Bearer → CuUpContext = λ xs. context_as i.instance i.sn i.quota i.flags xs in
    let here : CuUpContext = whole bs in
    let d : CuUpContext = whole c.forget_if.new.bearers.items in
    subst
    (λ (x : CuUpContext). IsReceivedIn (came_in codec c.args.ue x c.args.bearer c.args.kind c.args.teid c.args.octets.now (find bearer_cmp x.bearers c.args.bearer))
    c.args.bearer c.args.out.now c.come-came.new.out x d c.come-came.result)
    c.self.view_is
    (subst
    (λ (o : Option CuUpBearer). IsReceivedIn (came_in codec c.args.ue here c.args.bearer c.args.kind c.args.teid c.args.octets.now o)
    c.args.bearer c.args.out.now c.come-came.new.out here d c.come-came.result)
    (sym (found i.instance i.sn i.quota i.flags bs c.args.bearer at b within c.in-Some.ensures.within.1 c.index_mut-found.ensures.value))
    (came_step c.args.out.now c.come-came.new.out here c.args.bearer (kept b) (kept after)
    (with_back i.instance i.sn i.quota i.flags bs c.args.bearer at b within c.in-Some.ensures.within.1 c.index_mut-found.ensures.value)
    (came codec (at_in c.args.ue here c.args.bearer) c.args.kind c.args.teid c.args.octets.now (kept b)) d c.come-came.result
    (on_ok c.come-came.result c.is_err.result c.is_err.ensures.value (d ≡ with_one here c.args.bearer (kept after))
    (λ fine. ap whole (ap (λ (v : Vec Bearer). v.items) (c.forget_if.ensures.kept fine))
    ∙ sym (with_there i.instance i.sn i.quota i.flags bs c.args.bearer at b within c.in-Some.ensures.within.1 c.index_mut-found.ensures.value after)))
    (c.come-came.ensures.came codec lawful)))
