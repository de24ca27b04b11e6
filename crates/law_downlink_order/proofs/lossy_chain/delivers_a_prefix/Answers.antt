use Rattle.law_downlink_order.proofs.lossy_chain.Runs.{delivers_in_order}
use Rattle.law_downlink_order.proofs.lossy_chain.delivers_a_prefix.Goals as goal

pub returns : goal.returns
returns c = record { in_order = λ sn quota first teid downlink du steps kept. delivers_in_order sn quota first teid downlink du steps kept }
