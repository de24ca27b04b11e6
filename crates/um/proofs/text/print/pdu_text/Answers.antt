use Rattle.um.proofs.text.LineTexts.{message_line}
use Rattle.um.proofs.text.print.pdu_text.Goals as goal

pub returns : goal.returns
returns c = message_line _ _ _ _ _ _ c.in_ok-front.ensures c.with_hex.ensures
