use Rattle.gnb_types.proofs.OrderLemmas.{channel_total}
use Rattle.unit_requests.proofs.waiting_requests.Refilling.{none_is_first, first_is_there, first_out}
use Rattle.unit_requests.proofs.waiting_requests.forgetting.take_first.Goals as goal

pub returns-in_default : goal.returns-in_default
returns-in_default c =
    (none_is_first c.args.table.now c.in_default.ensures, none_is_first c.args.table.now c.in_default.ensures)

pub returns-in_default-take : goal.returns-in_default-take
returns-in_default-take c =
    absurd
    (first_is_there channel_total c.args.table.now c.in-Some.channel.now c.in-Some.field-0-1.now c.in-Some.ensures c.in_default-take.ensures.value)

pub returns : goal.returns
returns c =
    first_out channel_total c.args.table.now c.take.new.self c.in-Some.channel.now c.in-Some.field-0-1.now c.in-Some-take.queue c.len.ensures.ordered
    c.in-Some.ensures c.in-Some-take.ensures.value c.in-Some-take.ensures.rest
