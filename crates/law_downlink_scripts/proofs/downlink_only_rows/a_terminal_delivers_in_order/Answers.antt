use Rattle.law_downlink_scripts.proofs.downlink_only_rows.Ues.{ue_takes}
use Rattle.law_downlink_scripts.proofs.downlink_only_rows.a_terminal_delivers_in_order.Goals as goal

pub returns : goal.returns
returns g c = λ way u bearer b count p who pdu has is. ue_takes way u bearer b count p who pdu has is
