use Rattle.std.proofs.Common.{◌≡◌, true, refl}
use Rattle.law_octets_say_the_same.specs.octet_local.Spelt.{Spelt}
use Rattle.law_octets_say_the_same.proofs.octet_local.Retold.{as_local}
use Rattle.law_octets_say_the_same.proofs.octet_local.what_prints_the_same_is_as_local.Goals as goal

pub returns : goal.returns
returns g = λ encode is_so said told e h.
    as_local encode (λ from to message. is_so from to message ≡ true) (Spelt encode (λ from to message. is_so from to message ≡ true))
    (λ a b m p. (m, p, refl)) said told e h
