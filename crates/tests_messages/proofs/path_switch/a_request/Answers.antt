use Rattle.tests_messages.proofs.Values.{switch_of}
use Rattle.tests_messages.proofs.path_switch.a_request.Goals as goal

pub is_received-requires : goal.is_received-requires
is_received-requires g c = switch_of c.in_ok-one.field-0 c.in_ok-one.ensures
