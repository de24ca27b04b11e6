use Rattle.law_um.proofs.run.Kept.{lines_offered}
use Rattle.law_um.proofs.run.delivered_packets_were_offered.Goals as goal

pub returns : goal.returns
returns c = λ sn ticks all event before printed after reached goes. lines_offered sn ticks all event before printed after reached goes
