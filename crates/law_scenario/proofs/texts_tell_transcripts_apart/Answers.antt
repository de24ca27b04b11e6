use Rattle.law_scenario.proofs.LineLaws.{one_transcript}
use Rattle.law_scenario.proofs.texts_tell_transcripts_apart.Goals as goal

pub returns : goal.returns
returns c = one_transcript
