use Rattle.law_octets_say_the_same.proofs.octet_downlink.Runs.{promised_confirmed}
use Rattle.law_octets_say_the_same.proofs.octet_downlink.plain_units_keep_it_with_confirmations.Goals as goal

pub returns : goal.returns
returns g c = λ codec items pdus reading near keep plain script fits are.
    promised_confirmed codec items pdus (g.U.Units.answer codec) g.U.Units.in_range keep plain reading near script fits are
