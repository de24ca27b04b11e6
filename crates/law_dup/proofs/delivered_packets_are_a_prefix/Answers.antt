use Rattle.law_dup.proofs.Scripts.{prefix}
use Rattle.law_dup.proofs.delivered_packets_are_a_prefix.Goals as goal

pub returns : goal.returns
returns c = λ sn quota events. prefix sn quota events
