use Rattle.law_uplink_order.proofs.uplink.Reports.{reports_carried}
use Rattle.law_uplink_order.proofs.uplink.reports_say_what_was_carried.Goals as goal

pub returns : goal.returns
returns c = record { carried = λ first teid orders more i kept said. reports_carried first teid orders more i kept said }
