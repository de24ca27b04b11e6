use Rattle.std.proofs.Common.{◌∙◌}
use Rattle.unit_defs.specs.Ways.{◌then◌}
use Rattle.unit_defs.specs.CuUpRecords.{CuUpBearer}
use Rattle.unit_defs.specs.CuUpBearers.{forward_numbered, forward_fresh, forward_late}
use Rattle.unit_defs.specs.octet_defs.Codec.{octet_way}
use Rattle.unit_defs.specs.octet_defs.Units.{OctetAnswer}
use Rattle.unit_messages.proofs.steps.StepLaws.{step_then}
use Rattle.cu_up_bearer.specs.tunnels.Tunnels.{at_as}
use Rattle.cu_up_bearer.specs.bearers.Bearers.{kept}
use Rattle.cu_up_bearer.proofs.orders.Orders.{on_ok}
use Rattle.cu_up_bearer.proofs.orders.freezing.give_all.Goals as goal

pub returns : goal.returns
returns c = λ codec is.
    let a = at_as c.args.at.now in
    let b = kept c.args.bearer.now in
    let way = octet_way codec in
    let out = c.args.out.now in
    let one = c.forward_unconfirmed.new.out in
    let two = c.forward_waiting.new.out in
    let first : OctetAnswer CuUpBearer = forward_numbered way a b.sender.unconfirmed b in
    let second : CuUpBearer → OctetAnswer CuUpBearer = λ x. forward_fresh way a x.waiting x in
    let third : CuUpBearer → OctetAnswer CuUpBearer = λ x. forward_late way a x.receiver.stored x in
    let both = step_then out one first second b (c.in_ok-forward_unconfirmed.ensures codec b is) ∙ c.in_ok-forward_waiting.ensures codec b is in
    on_ok c.forward_stored.result (λ last. step_then out two (first then second) third b both ∙ last) (c.forward_stored.ensures codec b is)
