use Rattle.um.proofs.text.LineTexts.{delivery_line}
use Rattle.um.proofs.text.print.packet_text.Goals as goal

pub returns : goal.returns
returns c = delivery_line _ _ _ _ c.in_ok-front.ensures c.with_hex.ensures
