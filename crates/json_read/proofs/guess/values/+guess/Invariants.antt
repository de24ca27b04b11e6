use Rattle.std.proofs.Common.{◌≡◌, ◌+◌, ◌*◌, length}
use Rattle.json_read.proofs.guess.values.+guess.Given as goal

-- A value is looked at one level further in than those round it.
abbrev pub decreases-value : goal.decreases-value
decreases-value l = 4 * l.levels

abbrev pub decreases-sequence : goal.decreases-sequence
decreases-sequence l = 4 * l.levels + 1

abbrev pub decreases-choice : goal.decreases-choice
decreases-choice l = 4 * l.levels + 1

abbrev pub decreases-list : goal.decreases-list
decreases-list l = 4 * l.levels + 1

abbrev pub decreases-contents : goal.decreases-contents
decreases-contents l = 4 * l.levels + 1

abbrev pub decreases-element : goal.decreases-element
decreases-element l = 4 * l.levels + 2

abbrev pub decreases-container : goal.decreases-container
decreases-container l = 4 * l.levels + 3

abbrev pub decreases-pdu : goal.decreases-pdu
decreases-pdu l = 4 * l.levels + 2

abbrev pub invariant-sequence-loop-count : goal.invariant-sequence-loop-count
invariant-sequence-loop-count l = length l.values.items ≡ length l.parts

abbrev pub invariant-list-loop-count : goal.invariant-list-loop-count
invariant-list-loop-count l = Unit {0}

abbrev pub invariant-container-loop-count : goal.invariant-container-loop-count
invariant-container-loop-count l = Unit {0}
