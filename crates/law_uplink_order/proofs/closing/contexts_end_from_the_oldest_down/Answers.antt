use Rattle.pdcp_defs.specs.Senders.{window}
use Rattle.bearer_defs.specs.chain_defs.Models.{initial}
use Rattle.bearer_defs.specs.chain_defs.Orders.{run, offers_in}
use Rattle.law_downlink_order.proofs.chain.Runs.{stream}
use Rattle.law_uplink_order.proofs.closing.Down.{ends_down, good_after}
use Rattle.law_uplink_order.proofs.closing.contexts_end_from_the_oldest_down.Goals as goal

pub returns : goal.returns
returns c = record {
  ends = λ sn quota first teid orders kept x done.
      ends_down (stream (offers_in orders)) (window sn quota) (run (initial first teid) orders) (good_after sn quota first teid orders kept) x done;
}
