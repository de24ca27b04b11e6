use Rattle.std.proofs.Common.{◌≡◌, ◌++◌, drop}
use Rattle.cu_up_items.proofs.ends.UplinkEnds.{others}
use Rattle.cu_up_items.proofs.ends.uplinks.without.Given as goal

-- what is left so far, and of those that come, is all
abbrev pub invariant-loop-other : goal.invariant-loop-other
invariant-loop-other l = l.left ++ others l.teid (drop l.other-index l.teids) ≡ others l.teid l.teids
