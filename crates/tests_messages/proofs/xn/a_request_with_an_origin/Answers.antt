use Rattle.tests_messages.proofs.Values.{origin_of}
use Rattle.tests_messages.proofs.xn.a_request_with_an_origin.Goals as goal

pub is_received-requires : goal.is_received-requires
is_received-requires g c = (2, origin_of c.in_ok-from_slice.field-0 c.in_ok-from_slice.ensures)
