use Rattle.law_octets_say_the_same.proofs.octet_answers.Units.{up_reads, up_reads_status, du_reads, du_reads_confirmed, ue_reads}
use Rattle.law_octets_say_the_same.proofs.octet_answers.units_read_what_items_say.Goals as goal

pub returns : goal.returns
returns g = record {
  packets = λ codec reading s g n reads teid t c b p item fits sized is_open kind there has long says.
      up_reads codec reading s g n reads teid t c b p item fits sized is_open kind there has long says;
  frames = λ codec reading s g n reads teid t c b restart number count p item fits numbered sized is_open there has long says.
      du_reads codec reading s g n reads teid t c b restart number count p item fits numbered sized is_open there has long says;
  statuses = λ codec reading s g n reads teid t c b delivered item fits is_open kind there has long found framed says.
      up_reads_status codec reading s g n reads teid t c b delivered item fits is_open kind there has long found framed says;
  confirmed = λ codec reading s g n reads ue bearer c b count p item sized there has long key says.
      du_reads_confirmed codec reading s g n reads ue bearer c b count p item sized there has long key says;
  carried = λ codec reading s ue u is reads bearer b count p item sized has long near key says.
      ue_reads codec reading s ue u is reads bearer b count p item sized has long near key says;
}
