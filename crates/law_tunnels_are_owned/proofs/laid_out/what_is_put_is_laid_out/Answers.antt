use Rattle.law_tunnels_are_owned.proofs.laid_out.Laid.{run_is_laid}
use Rattle.law_tunnels_are_owned.proofs.laid_out.what_is_put_is_laid_out.Goals as goal

pub returns : goal.returns
returns c = λ reading events. run_is_laid reading events
