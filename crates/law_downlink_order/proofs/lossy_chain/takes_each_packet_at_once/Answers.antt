use Rattle.law_downlink_order.proofs.lossy_chain.Runs.{receives_alike, takes_at_once}
use Rattle.law_downlink_order.proofs.lossy_chain.takes_each_packet_at_once.Goals as goal

pub returns : goal.returns
returns c = record {
  takes = λ sn quota first teid downlink du steps kept.
      (takes_at_once sn quota first teid downlink du steps kept, receives_alike sn quota first teid downlink du steps kept);
}
