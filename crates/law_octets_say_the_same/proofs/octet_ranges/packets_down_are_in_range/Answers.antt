use Rattle.law_octets_say_the_same.proofs.octet_ranges.Runs.{down_ranged}
use Rattle.law_octets_say_the_same.proofs.octet_ranges.packets_down_are_in_range.Goals as goal

pub returns : goal.returns
returns g = record { downs = λ reading. down_ranged ⊥ reading; confirmed = λ reading. down_ranged (Unit {0}) reading }
