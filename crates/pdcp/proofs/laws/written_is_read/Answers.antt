use Rattle.pdcp.proofs.Bits.{bitmap-bit}
use Rattle.pdcp.proofs.laws.written_is_read.Goals as goal

pub returns-clause-bit : goal.returns-clause-bit
returns-clause-bit c = bitmap-bit
