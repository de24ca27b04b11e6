use Rattle.law_octets_say_the_same.proofs.octet_local.Runs.{confirmed_local}
use Rattle.law_octets_say_the_same.proofs.octet_local.confirmed_packets_are_local_over_octets.Goals as goal

pub returns : goal.returns
returns g = λ codec items pdus reading near events are. confirmed_local reading near codec items pdus events are
