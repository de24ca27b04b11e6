use Rattle.std.proofs.Common.{◌≡◌, false}
use Rattle.tests_base.proofs.bits.put_fields.Given as goal

abbrev pub invariant-loop-width : goal.invariant-loop-width
invariant-loop-width l = l.writer.failed ≡ false
