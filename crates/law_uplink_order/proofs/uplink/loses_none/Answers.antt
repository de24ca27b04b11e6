use Rattle.law_uplink_order.proofs.uplink.Laws.{loses_none}
use Rattle.law_uplink_order.proofs.uplink.loses_none.Goals as goal

pub returns : goal.returns
returns c = record { on_its_way = λ first teid orders kept. loses_none first teid orders kept }
