use Rattle.proof_cu_up_orders.proofs.context_tests.Tests.{orders_tested}
use Rattle.proof_cu_up_orders.proofs.context_tests.orders_are_tested.Goals as goal

pub returns : goal.returns
returns g c = λ way r ue bearer input. orders_tested way r ue bearer input
