use Rattle.law_octets_say_the_same.proofs.octet_local.Runs.{downs_local}
use Rattle.law_octets_say_the_same.proofs.octet_local.packets_down_are_local_over_octets.Goals as goal

pub returns : goal.returns
returns g = λ codec items pdus reading events are. downs_local reading codec items pdus events are
