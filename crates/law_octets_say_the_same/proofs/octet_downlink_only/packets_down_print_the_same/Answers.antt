use Rattle.law_octets_say_the_same.proofs.octet_downlink_only.Runs.{downs_print}
use Rattle.law_octets_say_the_same.proofs.octet_downlink_only.packets_down_print_the_same.Goals as goal

pub returns : goal.returns
returns g = λ codec items pdus reading events are. downs_print reading codec items pdus events are
