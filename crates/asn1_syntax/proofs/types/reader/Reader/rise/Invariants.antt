use Rattle.std.proofs.Common.{◌≡◌, length}
use Rattle.asn1_syntax.specs.types.inside.Types.{rise_at}
use Rattle.asn1_syntax.proofs.types.reader.Reader.rise.Given as goal

abbrev pub invariant-loop-frame : goal.invariant-loop-frame
invariant-loop-frame l = rise_at l.stack l.definition l.nodes l.self ≡ rise_at l.fn.stack l.fn.definition l.fn.nodes l.fn.self

abbrev pub decreases-loop-frame : goal.decreases-loop-frame
decreases-loop-frame l = length l.stack
