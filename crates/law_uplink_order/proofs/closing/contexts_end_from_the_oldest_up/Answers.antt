use Rattle.law_uplink_order.proofs.closing.Up.{ends_after}
use Rattle.law_uplink_order.proofs.closing.contexts_end_from_the_oldest_up.Goals as goal

pub returns : goal.returns
returns c = record { ends = λ first teid orders kept x there ready. ends_after first teid orders kept x there ready }
