use Rattle.std.proofs.Common.{length}
use Rattle.gtpu.proofs.Chains.{Leaves}
use Rattle.gtpu.proofs.headers.find_content.Given as goal

abbrev pub invariant-loop-next : goal.invariant-loop-next
invariant-loop-next l = Leaves l.code l.fn.first l.fn.chain l.next l.rest

abbrev pub decreases-loop-next : goal.decreases-loop-next
decreases-loop-next l = length l.rest
