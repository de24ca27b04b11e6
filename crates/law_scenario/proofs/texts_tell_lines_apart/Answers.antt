use Rattle.proof_transcript_lines.proofs.ReadLines.{one_line}
use Rattle.law_scenario.proofs.texts_tell_lines_apart.Goals as goal

pub returns : goal.returns
returns c = one_line
