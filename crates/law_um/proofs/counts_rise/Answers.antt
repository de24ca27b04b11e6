use Rattle.law_um.proofs.Histories.{rises}
use Rattle.law_um.proofs.counts_rise.Goals as goal

pub returns : goal.returns
returns p c = λ ticks r step sound. rises ticks r step sound
