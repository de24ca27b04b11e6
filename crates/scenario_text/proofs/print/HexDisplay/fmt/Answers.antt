use Rattle.std.proofs.Common.{rules, arith}
use Rattle.std.proofs.Output.{has_written_append, has_written_of_eq}
use Rattle.scenario_text.proofs.HexText.{hex_of-more}
use Rattle.scenario_text.proofs.print.HexDisplay.fmt.Goals as goal

pub loop-byte-preserved : goal.loop-byte-preserved
loop-byte-preserved g c = λ plain.
    has_written_of_eq _ _ _ _ _ (hex_of-more c.as_slice-byte-items.result.now c.loop-byte.byte-index (omega arith) (omega (arith, c.type_inv.byte-items c.loop-byte.byte-index)))
    (has_written_append _ _ _ _ _ _ (c.loop-byte.invariant plain) (search rules))
