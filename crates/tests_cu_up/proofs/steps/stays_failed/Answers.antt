use Rattle.tests_cu_up.proofs.InRange.{in_range}
use Rattle.tests_cu_up.proofs.steps.stays_failed.Goals as goal

pub step-requires : goal.step-requires
step-requires c = in_range
