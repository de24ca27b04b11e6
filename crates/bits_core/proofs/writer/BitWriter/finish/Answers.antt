use Rattle.std.proofs.Common.{arith}
use Rattle.std.proofs.lemmas.Grind.{common_steps}
use Rattle.bits_core.proofs.WriterLemmas.{filled_fits, finished, finished_whole}
use Rattle.bits_core.proofs.writer.BitWriter.finish.Goals as goal

pub overflow_cast-self-inside : goal.overflow_cast-self-inside
overflow_cast-self-inside c = omega (arith, filled_fits c.self.inside.last c.self.inside.used c.self.invariant.last (omega arith) c.self.invariant.used)

pub returns-then-self-eq0 : goal.returns-then-self-eq0
returns-then-self-eq0 c = finished_whole c.self.inside c.args.self _ c.self.view_is c.if-self-eq0.true (grind (arith, common_steps))

pub returns : goal.returns
returns c = finished c.self.inside c.args.self _ c.self.view_is c.self.invariant.last c.self.invariant.used (omega arith) (grind (arith, common_steps))
