use Rattle.law_um.proofs.run.Scripts.{all_rise}
use Rattle.law_um.proofs.run.delivered_counts_of_scripts_rise.Goals as goal

pub returns : goal.returns
returns c = all_rise
