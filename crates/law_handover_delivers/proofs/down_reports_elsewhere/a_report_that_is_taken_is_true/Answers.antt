use Rattle.law_handover_delivers.proofs.down_reports_elsewhere.Received.{taken_assumed, rest_assumed, received_assumed}
use Rattle.law_handover_delivers.proofs.down_reports_elsewhere.a_report_that_is_taken_is_true.Goals as goal

pub returns : goal.returns
returns c = record { taken = taken_assumed; rest = rest_assumed; was_received = received_assumed }
