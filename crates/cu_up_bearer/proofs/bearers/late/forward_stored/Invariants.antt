use Rattle.std.proofs.Common.{◌≡◌, ◌++◌, length}
use Rattle.gnb_types.specs.declared.names.Dir.TheVariants.{Ul}
use Rattle.pdcp_bearers.specs.ue_bearers.Senders.{from_on}
use Rattle.cu_up_bearer.proofs.bearers.Forwards.{counted_outputs}
use Rattle.cu_up_bearer.proofs.bearers.late.forward_stored.Given as goal

-- what was put out, and what goes on from this COUNT on, is all
abbrev pub invariant-loop-count : goal.invariant-loop-count
invariant-loop-count l =
    l.out ++ counted_outputs l.at l.hop Ul (from_on l.from l.receiving.receiver.stored) ≡ l.initial.out ++ counted_outputs l.at l.hop Ul (from_on 0 l.receiving.receiver.stored)

abbrev pub decreases-loop-count : goal.decreases-loop-count
decreases-loop-count l = length (from_on l.from l.receiving.receiver.stored)
