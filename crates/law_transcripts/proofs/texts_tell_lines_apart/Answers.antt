use Rattle.proof_transcript_lines.proofs.TextLines.{one_text_line}
use Rattle.law_transcripts.proofs.texts_tell_lines_apart.Goals as goal

pub returns : goal.returns
returns c = one_text_line
