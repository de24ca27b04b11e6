use Rattle.law_um.proofs.run.Rising.{rises}
use Rattle.law_um.proofs.run.delivered_counts_rise.Goals as goal

pub returns : goal.returns
returns c = λ sn ticks all event before printed after reached goes. rises sn ticks all event before printed after reached goes
