use Rattle.proof_aper.proofs.pieces.Onward.{run_wrong}
use Rattle.law_aper.proofs.pieces.what_is_wrong_stays_wrong.Goals as goal

pub returns : goal.returns
returns c = run_wrong
