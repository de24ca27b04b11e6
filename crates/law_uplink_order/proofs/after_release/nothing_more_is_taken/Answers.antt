use Rattle.law_uplink_order.proofs.after_release.Gone.{down_same, down_prefix}
use Rattle.law_uplink_order.proofs.after_release.nothing_more_is_taken.Goals as goal

pub returns : goal.returns
returns c = record { same = down_same; in_order = down_prefix }
