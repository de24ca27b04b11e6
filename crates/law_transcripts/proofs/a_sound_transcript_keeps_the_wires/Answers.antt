use Rattle.law_transcripts.proofs.Wires.{keeps_wires}
use Rattle.law_transcripts.proofs.a_sound_transcript_keeps_the_wires.Goals as goal

pub returns : goal.returns
returns c = keeps_wires
