use Rattle.gnb_types.specs.declared.names.NodeId.TheVariants.{Core}
use Rattle.law_requests_act_once.proofs.unit_setups.CuUps.{cu_up_asks}
use Rattle.law_requests_act_once.proofs.unit_setups.a_cu_up_asks_for_setup.Goals as goal

pub returns : goal.returns
returns g c = λ talk r sorted input. cu_up_asks talk Core r sorted input
