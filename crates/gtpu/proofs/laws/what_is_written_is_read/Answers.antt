use Rattle.gtpu.proofs.Writing.{written_is_read}
use Rattle.gtpu.proofs.laws.what_is_written_is_read.Goals as goal

pub returns : goal.returns
returns c = written_is_read
