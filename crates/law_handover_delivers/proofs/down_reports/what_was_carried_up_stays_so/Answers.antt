use Rattle.law_handover_delivers.proofs.down_reports.Grows.{one_grows, all_grow}
use Rattle.law_handover_delivers.proofs.down_reports.what_was_carried_up_stays_so.Goals as goal

pub returns : goal.returns
returns c = record { order = one_grows; orders = all_grow }
