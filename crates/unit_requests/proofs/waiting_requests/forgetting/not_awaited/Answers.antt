use Rattle.std.proofs.Common.{ℕ, false, List, map, ap}
use Rattle.unit_defs.specs.Transactions.{Waiting}
use Rattle.unit_defs.specs.CuCpRecords.{not_awaited}
use Rattle.unit_defs.specs.octet_defs.Codec.{octet_way}
use Rattle.unit_messages.specs.Messages.{message_as}
use Rattle.unit_requests.proofs.waiting_requests.Refilling.{one_more, all_over}
use Rattle.unit_requests.proofs.waiting_requests.forgetting.not_awaited.Goals as goal

pub loop-waiting-preserved : goal.loop-waiting-preserved
loop-waiting-preserved c = λ codec.
    let put : Waiting (List ℕ) = record { message = message_as c.waiting.inside.message; deadline = c.waiting.inside.deadline; awaited = false } in
    one_more (not_awaited (octet_way codec)) c.loop-waiting.after c.loop-waiting.queue (map (not_awaited (octet_way codec)) c.args.queue)
    c.take.new.self c.in-Some.waiting put c.push.new.self c.in-Some.ensures (ap (not_awaited (octet_way codec)) c.waiting.view_is) c.in_ok-push.ensures.ok
    (c.loop-waiting.invariant codec)

pub returns : goal.returns
returns c = λ codec.
    all_over (not_awaited (octet_way codec)) c.loop-waiting.after c.loop-waiting.queue (map (not_awaited (octet_way codec)) c.args.queue)
    c.in_default.ensures.0 (c.loop-waiting.invariant codec)
