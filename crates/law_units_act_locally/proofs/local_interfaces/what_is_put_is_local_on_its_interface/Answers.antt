use Rattle.law_units_act_locally.proofs.local_interfaces.Whole.{local_on_interfaces}
use Rattle.law_units_act_locally.proofs.local_interfaces.what_is_put_is_local_on_its_interface.Goals as goal

pub returns : goal.returns
returns c = λ reading events is_spelled offers spelled. local_on_interfaces reading events is_spelled offers spelled
