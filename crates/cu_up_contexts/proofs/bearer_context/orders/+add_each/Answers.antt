use Rattle.std.proofs.Common.{◌+◌, List, ◌∷◌, sym, subst}
use Rattle.unit_defs.specs.CuUpBearers.{with_uplink}
use Rattle.unit_defs.specs.CuUp.{uplinks_from}
use Rattle.unit_defs.specs.octet_defs.Codec.{octet_way}
use Rattle.unit_messages.specs.steps.Steps.{IsStep}
use Rattle.cu_up_bearer.specs.bearers.Bearers.{kept}
use Rattle.cu_up_bearer.specs.declared.bearers.bearer.Bearer.{Bearer}
use Rattle.cu_up_bearer.proofs.orders.Orders.{on_ok}
use Rattle.cu_up_contexts.specs.bearer_context.Bearers.{numbered, AreServed}
use Rattle.cu_up_contexts.specs.bearer_context.Orders.{bearers_after}
use Rattle.cu_up_contexts.proofs.bearer_context.Served.{served_as}
use Rattle.cu_up_contexts.proofs.bearer_context.Steps.{goes_on, ends_with}
use Rattle.cu_up_contexts.proofs.bearer_context.orders.+add_each.Goals as goal

pub returns-in_err-add_uplink-clause-step : goal.returns-in_err-add_uplink-clause-step
returns-in_err-add_uplink-clause-step t c = λ codec i.
    let first = c.in-Some.first.now in
    let rest = c.in-Some.rest.now in
    subst (λ (bs : List Bearer). IsStep (bearers_after codec c.args.out.now (uplinks_from (octet_way codec) c.args.next (numbered i bs))) c.add_uplink.new.out (numbered i (c.add_uplink.new.bearer ∷ rest)) c.from_residual.result)
    (sym c.in-Some.ensures.cases.0)
    (ends_with codec c.args.out.now c.add_uplink.new.out (record { 0 = i }) (with_uplink (octet_way codec) c.args.next (kept first))
    (uplinks_from (octet_way codec) (c.args.next + 1) (numbered (i + 1) rest))
    (Unit {0}) (Unit {0}) c.add_uplink.new.out (kept c.add_uplink.new.bearer) c.in_err-add_uplink.field-0.0 (c.in_err-add_uplink.ensures.step codec) c.add_uplink.new.out (numbered i (c.add_uplink.new.bearer ∷ rest)) c.from_residual.result c.from_residual.ensures.1)

pub returns-clause-step : goal.returns-clause-step
returns-clause-step t c = λ codec i.
    let first = c.in-Some.first.now in
    let rest = c.in-Some.rest.now in
    subst (λ (bs : List Bearer). IsStep (bearers_after codec c.args.out.now (uplinks_from (octet_way codec) c.args.next (numbered i bs))) c.add_each.new.out (numbered i (c.add_uplink.new.bearer ∷ c.add_each.new.bearers)) c.add_each.result)
    (sym c.in-Some.ensures.cases.0)
    (goes_on codec c.args.out.now c.add_uplink.new.out (record { 0 = i }) (with_uplink (octet_way codec) c.args.next (kept first))
    (uplinks_from (octet_way codec) (c.args.next + 1) (numbered (i + 1) rest))
    (kept c.add_uplink.new.bearer) (c.in_ok-add_uplink.ensures.step codec) c.add_each.new.out (numbered (i + 1) c.add_each.new.bearers) c.add_each.result (c.add_each.ensures.step codec (i + 1)))

pub returns-clause-served : goal.returns-clause-served
returns-clause-served t c = λ at all.
    let both = subst (λ (bs : List Bearer). AreServed at bs) c.in-Some.ensures.cases.0 all in
    on_ok c.add_each.result
    (λ rest. (served_as at c.in-Some.first.now c.add_uplink.new.bearer c.in_ok-add_uplink.ensures.down c.in_ok-add_uplink.ensures.receiving both.0, rest))
    (c.add_each.ensures.served at both.1)
