use Rattle.std.proofs.Common.{arith}
use Rattle.bits_core.proofs.WriterLemmas.{all_put}
use Rattle.bits_core.proofs.writer.BitWriter.put_bits.Goals as goal

pub returns : goal.returns
returns c =
    (c.loop-left.invariant.was, all_put c.args.self.now c.loop-left.self c.args.width c.loop-left.left c.args.value c.loop-left.invariant.going (omega arith) c.loop-left.invariant.puts)
