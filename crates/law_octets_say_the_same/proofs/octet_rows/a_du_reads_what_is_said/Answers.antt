use Rattle.law_octets_say_the_same.proofs.octet_rows.Dus.{reads_frame, reads_confirmed}
use Rattle.law_octets_say_the_same.proofs.octet_rows.a_du_reads_what_is_said.Goals as goal

pub returns : goal.returns
returns g = record {
  frames = λ codec reads spelled sn r teid t c b restart number count p fits numbered sized is_open there has long.
      reads_frame codec spelled sn r reads teid t c b restart number count p fits numbered sized is_open there has long;
  confirmations = λ codec reads spelled sn r ue bearer c b count p sized there has long.
      reads_confirmed codec spelled sn r reads ue bearer c b count p sized there has long;
}
