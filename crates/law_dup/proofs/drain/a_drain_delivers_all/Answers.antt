use Rattle.law_dup.proofs.drain.Quiet.{quiet_after}
use Rattle.law_dup.proofs.drain.a_drain_delivers_all.Goals as goal

pub returns : goal.returns
returns c = λ sn quota script some going printed after is leg serving. quiet_after sn quota some script going printed after is leg serving
