use Rattle.tests_messages.proofs.Values.{statuses_of}
use Rattle.tests_messages.proofs.xn.statuses.Goals as goal

pub is_received-requires : goal.is_received-requires
is_received-requires g c = (1, statuses_of c.in_ok-one.field-0 c.in_ok-one-2.field-0 c.in_ok-one.ensures c.in_ok-one-2.ensures)
