use Rattle.tests_messages.proofs.Values.{acknowledge_of}
use Rattle.tests_messages.proofs.xn.an_acknowledge.Goals as goal

pub is_received-requires : goal.is_received-requires
is_received-requires g c = (1, acknowledge_of c.in_ok-one.field-0 c.in_ok-one-2.field-0 c.in_ok-one.ensures c.in_ok-one-2.ensures)
