use Rattle.law_units_act_locally.proofs.local_lengths.Runs.{local_by_length}
use Rattle.law_units_act_locally.proofs.local_lengths.packets_are_local_by_length.Goals as goal

pub returns : goal.returns
returns c = λ reading events. local_by_length reading events
