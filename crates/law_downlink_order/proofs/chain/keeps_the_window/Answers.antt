use Rattle.law_downlink_order.proofs.chain.Laws.{keeps_window}
use Rattle.law_downlink_order.proofs.chain.keeps_the_window.Goals as goal

pub returns : goal.returns
returns c = record { window = λ sn quota first teid orders kept. keeps_window sn quota first teid orders kept }
