use Rattle.law_units_act_locally.proofs.run_interfaces.Runs.{run_is_of}
use Rattle.law_units_act_locally.proofs.run_interfaces.messages_are_of_their_interfaces.Goals as goal

pub returns : goal.returns
returns c = λ reading events. run_is_of reading events
