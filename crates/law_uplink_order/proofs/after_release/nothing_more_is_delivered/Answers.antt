use Rattle.law_uplink_order.proofs.after_release.Gone.{up_same, up_prefix}
use Rattle.law_uplink_order.proofs.after_release.nothing_more_is_delivered.Goals as goal

pub returns : goal.returns
returns c = record { same = up_same; in_order = up_prefix }
