use Rattle.law_units_act_locally.proofs.local.Whole.{whole_local}
use Rattle.law_units_act_locally.proofs.local.what_is_put_is_local.Goals as goal

pub returns : goal.returns
returns c = λ reading events is_spelled offers spelled. whole_local reading events is_spelled offers spelled
