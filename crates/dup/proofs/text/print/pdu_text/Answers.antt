use Rattle.dup.proofs.text.LineTexts.{pdu_text_is}
use Rattle.dup.proofs.text.print.pdu_text.Goals as goal

pub returns : goal.returns
returns c = pdu_text_is _ _ _ _ _ _ c.in_ok-front.ensures c.with_hex.ensures
