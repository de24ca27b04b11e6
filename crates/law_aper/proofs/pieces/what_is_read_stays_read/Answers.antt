use Rattle.proof_aper.proofs.pieces.Onward.{run_ok}
use Rattle.law_aper.proofs.pieces.what_is_read_stays_read.Goals as goal

pub returns : goal.returns
returns c = run_ok
