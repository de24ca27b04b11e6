use Rattle.law_octets_say_the_same.proofs.octet_downlink.Runs.{nothing_is_read, promised}
use Rattle.law_octets_say_the_same.proofs.octet_downlink.plain_units_keep_the_promise.Goals as goal

pub returns : goal.returns
returns g c = λ codec items pdus keep plain script fits are.
    promised codec items pdus (g.U.Units.answer codec) g.U.Units.in_range keep plain nothing_is_read script fits are
