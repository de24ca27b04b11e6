use Rattle.law_octets_say_the_same.proofs.octet_rows.Ues.{reads_packet}
use Rattle.law_octets_say_the_same.proofs.octet_rows.a_terminal_reads_what_is_said.Goals as goal

pub returns : goal.returns
returns g = λ codec reads spelled sn u bearer b count p ue sized has long near. reads_packet codec spelled sn u bearer b count p reads ue sized has long near
