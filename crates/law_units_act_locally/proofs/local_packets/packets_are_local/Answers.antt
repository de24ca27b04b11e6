use Rattle.law_units_act_locally.proofs.local_packets.Runs.{octets_local, packets_local}
use Rattle.law_units_act_locally.proofs.local_packets.packets_are_local.Goals as goal

pub returns-clause-run : goal.returns-clause-run
returns-clause-run c = λ reading events. octets_local reading events

pub returns-clause-packets : goal.returns-clause-packets
returns-clause-packets c = λ reading events. packets_local reading events
