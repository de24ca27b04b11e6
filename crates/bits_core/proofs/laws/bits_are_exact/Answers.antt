use Rattle.bits_core.proofs.BitLemmas.{number_is, bits_of-number_of, length-bits_of, same_octets, only_zeros, number_of-zeros}
use Rattle.bits_core.proofs.laws.bits_are_exact.Goals as goal

pub returns-clause-number : goal.returns-clause-number
returns-clause-number c = number_is

pub returns-clause-bits : goal.returns-clause-bits
returns-clause-bits c = bits_of-number_of

pub returns-clause-width : goal.returns-clause-width
returns-clause-width c = length-bits_of

pub returns-clause-octets : goal.returns-clause-octets
returns-clause-octets c = same_octets

pub returns-clause-zeros : goal.returns-clause-zeros
returns-clause-zeros c = only_zeros

pub returns-clause-none : goal.returns-clause-none
returns-clause-none c = number_of-zeros
