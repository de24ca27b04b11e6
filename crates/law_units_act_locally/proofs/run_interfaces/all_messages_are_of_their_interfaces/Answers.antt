use Rattle.law_units_act_locally.proofs.run_interfaces.Runs.{all_are_of}
use Rattle.law_units_act_locally.proofs.run_interfaces.all_messages_are_of_their_interfaces.Goals as goal

pub returns : goal.returns
returns c = λ reading events t is. all_are_of reading events t is
