use Rattle.law_downlink_order.proofs.path.Laws.{restarts_at_received}
use Rattle.law_downlink_order.proofs.path.a_restart_begins_at_what_was_received.Goals as goal

pub returns : goal.returns
returns c = record { received = λ first downlink du steps kept. restarts_at_received first downlink du steps kept }
