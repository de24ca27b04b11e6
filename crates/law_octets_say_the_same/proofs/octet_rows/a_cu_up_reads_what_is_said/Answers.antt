use Rattle.law_octets_say_the_same.proofs.octet_rows.UpReads.{reads_packet, reads_status}
use Rattle.law_octets_say_the_same.proofs.octet_rows.a_cu_up_reads_what_is_said.Goals as goal

pub returns : goal.returns
returns g = record {
  packets = λ codec reads spelled sn r teid t c b p fits sized is_open kind there has long.
      reads_packet codec reads spelled sn r teid fits t c b is_open there has long p sized kind;
  statuses = λ codec reads spelled sn r teid t c b lost delivered fits is_open kind there has long found framed.
      reads_status codec reads spelled sn r teid fits t c b is_open there has long lost delivered kind found framed;
}
