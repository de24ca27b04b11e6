use Rattle.law_transcripts.proofs.Worked.{first_packet_is_sound}
use Rattle.law_transcripts.proofs.the_first_packet_is_sound.Goals as goal

pub returns : goal.returns
returns c = first_packet_is_sound
