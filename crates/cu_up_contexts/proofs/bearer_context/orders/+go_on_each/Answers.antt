use Rattle.std.proofs.Common.{◌+◌, List, ◌∷◌, sym, subst}
use Rattle.gnb_types.specs.declared.plans.SnStatus.{SnStatus}
use Rattle.unit_defs.specs.CuUpBearers.{with_status}
use Rattle.unit_defs.specs.CuUp.{status_each}
use Rattle.unit_defs.specs.octet_defs.Codec.{octet_way}
use Rattle.unit_messages.specs.steps.Steps.{IsStep}
use Rattle.cu_up_bearer.specs.tunnels.Tunnels.{at_as}
use Rattle.cu_up_bearer.specs.bearers.Bearers.{kept}
use Rattle.cu_up_bearer.specs.declared.bearers.bearer.Bearer.{Bearer}
use Rattle.cu_up_contexts.specs.bearer_context.Bearers.{numbered}
use Rattle.cu_up_contexts.specs.bearer_context.Orders.{bearers_after, holder}
use Rattle.cu_up_contexts.proofs.bearer_context.Steps.{goes_on, ends_with}
use Rattle.cu_up_contexts.proofs.bearer_context.orders.+go_on_each.Goals as goal

pub returns-in_err-take_status-clause-step : goal.returns-in_err-take_status-clause-step
returns-in_err-take_status-clause-step t c = λ codec instance others.
    let a = c.args.at in
    let way = octet_way codec in
    let first = c.in-Some-split_first_mut.first.now in
    let rest = c.in-Some-split_first_mut.rest.now in
    let s = c.in-Some.status.now in
    let ss = c.in-Some.others.now in
    subst (λ (xs : List SnStatus). IsStep (bearers_after codec c.args.out.now (status_each way a.ue (holder instance a others) xs (numbered a.bearer.0 c.args.bearers.now))) c.take_status.new.out (numbered a.bearer.0 (c.take_status.new.bearer ∷ rest)) c.from_residual.result)
    (sym c.in-Some.ensures.cases.0)
    (subst (λ (bs : List Bearer). IsStep (bearers_after codec c.args.out.now (status_each way a.ue (holder instance a others) (s ∷ ss) (numbered a.bearer.0 bs))) c.take_status.new.out (numbered a.bearer.0 (c.take_status.new.bearer ∷ rest)) c.from_residual.result)
    (sym c.in-Some-split_first_mut.ensures.cases.0)
    (ends_with codec c.args.out.now c.take_status.new.out (record { 0 = a.bearer.0 }) (with_status way (at_as a) s (kept first))
    (status_each way a.ue (holder instance a others) ss (numbered (a.bearer.0 + 1) rest))
    (Unit {0}) (Unit {0}) c.take_status.new.out (kept c.take_status.new.bearer) c.in_err-take_status.field-0.0 (c.in_err-take_status.ensures.step codec) c.take_status.new.out (numbered a.bearer.0 (c.take_status.new.bearer ∷ rest)) c.from_residual.result c.from_residual.ensures.1))

pub returns-clause-step : goal.returns-clause-step
returns-clause-step t c = λ codec instance others.
    let a = c.args.at in
    let way = octet_way codec in
    let first = c.in-Some-split_first_mut.first.now in
    let rest = c.in-Some-split_first_mut.rest.now in
    let s = c.in-Some.status.now in
    let ss = c.in-Some.others.now in
    subst (λ (xs : List SnStatus). IsStep (bearers_after codec c.args.out.now (status_each way a.ue (holder instance a others) xs (numbered a.bearer.0 c.args.bearers.now))) c.go_on_each.new.out (numbered a.bearer.0 (c.take_status.new.bearer ∷ c.go_on_each.new.bearers)) c.go_on_each.result)
    (sym c.in-Some.ensures.cases.0)
    (subst (λ (bs : List Bearer). IsStep (bearers_after codec c.args.out.now (status_each way a.ue (holder instance a others) (s ∷ ss) (numbered a.bearer.0 bs))) c.go_on_each.new.out (numbered a.bearer.0 (c.take_status.new.bearer ∷ c.go_on_each.new.bearers)) c.go_on_each.result)
    (sym c.in-Some-split_first_mut.ensures.cases.0)
    (goes_on codec c.args.out.now c.take_status.new.out (record { 0 = a.bearer.0 }) (with_status way (at_as a) s (kept first))
    (status_each way a.ue (holder instance a others) ss (numbered (a.bearer.0 + 1) rest))
    (kept c.take_status.new.bearer) (c.in_ok-take_status.ensures.step codec) c.go_on_each.new.out (numbered (a.bearer.0 + 1) c.go_on_each.new.bearers) c.go_on_each.result
    (c.go_on_each.ensures.step codec instance others)))
