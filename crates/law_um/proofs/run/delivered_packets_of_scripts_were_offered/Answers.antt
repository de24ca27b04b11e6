use Rattle.law_um.proofs.run.Scripts.{all_offered}
use Rattle.law_um.proofs.run.delivered_packets_of_scripts_were_offered.Goals as goal

pub returns : goal.returns
returns c = all_offered
