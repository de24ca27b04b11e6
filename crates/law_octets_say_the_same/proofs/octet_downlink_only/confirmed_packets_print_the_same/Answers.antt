use Rattle.law_octets_say_the_same.proofs.octet_downlink_only.Runs.{confirmed_print}
use Rattle.law_octets_say_the_same.proofs.octet_downlink_only.confirmed_packets_print_the_same.Goals as goal

pub returns : goal.returns
returns g = λ codec items pdus reading near events are. confirmed_print reading near codec items pdus events are
