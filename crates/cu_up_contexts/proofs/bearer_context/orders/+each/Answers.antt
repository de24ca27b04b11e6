use Rattle.std.proofs.Common.{◌+◌, List, ◌∷◌, sym, subst}
use Rattle.unit_defs.specs.CuUp.{each_bearer}
use Rattle.unit_defs.specs.octet_defs.Codec.{octet_way}
use Rattle.unit_messages.specs.steps.Steps.{IsStep}
use Rattle.gnb_types.specs.declared.names.BearerId.{BearerId}
use Rattle.unit_defs.specs.CuUpRecords.{CuUpBearer}
use Rattle.unit_defs.specs.octet_defs.Units.{OctetAnswer}
use Rattle.cu_up_bearer.specs.tunnels.Tunnels.{at_as}
use Rattle.cu_up_bearer.specs.bearers.Bearers.{kept}
use Rattle.cu_up_bearer.specs.declared.bearers.bearer.Bearer.{Bearer}
use Rattle.cu_up_contexts.specs.bearer_context.Bearers.{numbered}
use Rattle.cu_up_contexts.specs.bearer_context.Orders.{bearers_after, row_of, at_bearer}
use Rattle.cu_up_contexts.proofs.bearer_context.Steps.{goes_on, ends_with}
use Rattle.cu_up_contexts.proofs.bearer_context.orders.+each.Goals as goal

pub returns-in_err-carry_out-clause-step : goal.returns-in_err-carry_out-clause-step
returns-in_err-carry_out-clause-step t c = λ codec.
    let a = c.args.at in
    let row : BearerId → CuUpBearer → OctetAnswer CuUpBearer = λ id b. row_of codec c.args.order (at_as (at_bearer a id)) b in
    let first = c.in-Some.first.now in
    let rest = c.in-Some.rest.now in
    subst (λ (bs : List Bearer). IsStep (bearers_after codec c.args.out.now (each_bearer (octet_way codec) row (numbered a.bearer.0 bs))) c.carry_out.new.out (numbered a.bearer.0 (c.carry_out.new.bearer ∷ rest)) c.from_residual.result)
    (sym c.in-Some.ensures.cases.0)
    (ends_with codec c.args.out.now c.carry_out.new.out (record { 0 = a.bearer.0 }) (row a.bearer (kept first)) (each_bearer (octet_way codec) row (numbered (a.bearer.0 + 1) rest))
    (Unit {0}) (Unit {0}) c.carry_out.new.out (kept c.carry_out.new.bearer) c.in_err-carry_out.field-0.0 (c.in_err-carry_out.ensures.step codec) c.carry_out.new.out (numbered a.bearer.0 (c.carry_out.new.bearer ∷ rest)) c.from_residual.result c.from_residual.ensures.1)

pub returns-clause-step : goal.returns-clause-step
returns-clause-step t c = λ codec.
    let a = c.args.at in
    let row : BearerId → CuUpBearer → OctetAnswer CuUpBearer = λ id b. row_of codec c.args.order (at_as (at_bearer a id)) b in
    let first = c.in-Some.first.now in
    let rest = c.in-Some.rest.now in
    subst (λ (bs : List Bearer). IsStep (bearers_after codec c.args.out.now (each_bearer (octet_way codec) row (numbered a.bearer.0 bs))) c.each.new.out (numbered a.bearer.0 (c.carry_out.new.bearer ∷ c.each.new.bearers)) c.each.result)
    (sym c.in-Some.ensures.cases.0)
    (goes_on codec c.args.out.now c.carry_out.new.out (record { 0 = a.bearer.0 }) (row a.bearer (kept first)) (each_bearer (octet_way codec) row (numbered (a.bearer.0 + 1) rest))
    (kept c.carry_out.new.bearer) (c.in_ok-carry_out.ensures.step codec) c.each.new.out (numbered (a.bearer.0 + 1) c.each.new.bearers) c.each.result (c.each.ensures.step codec))
