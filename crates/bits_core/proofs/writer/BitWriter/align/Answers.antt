use Rattle.bits_core.proofs.WriterLemmas.{aligned}
use Rattle.bits_core.proofs.writer.BitWriter.align.Goals as goal

pub returns : goal.returns
returns c = aligned c.self.inside _ _ _ c.self.view_is c.self.invariant.used c.put_bits.ensures
