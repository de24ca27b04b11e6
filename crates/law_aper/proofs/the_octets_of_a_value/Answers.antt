use Rattle.proof_aper.proofs.octets.Spelled.{spelled_is, nothing_is_unspelled}
use Rattle.law_aper.proofs.the_octets_of_a_value.Goals as goal

pub returns-clause-spelling : goal.returns-clause-spelling
returns-clause-spelling c = λ t v octets b below s. spelled_is t v b octets below s

pub returns-clause-none : goal.returns-clause-none
returns-clause-none c = λ t v b never. nothing_is_unspelled t v b never
