use Rattle.unit_requests.proofs.waiting_requests.Refilling.{of_terminal}
use Rattle.unit_requests.proofs.waiting_requests.forgetting.unawaited.Goals as goal

pub returns-then-channel-ue : goal.returns-then-channel-ue
returns-then-channel-ue c = λ codec.
    of_terminal codec c.args.ue c.args.channel c.args.queue c.not_awaited.result c.if-channel-ue.true (c.not_awaited.ensures codec)
