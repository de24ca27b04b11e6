use Rattle.tests_messages.proofs.Values.{messages_are}
use Rattle.tests_messages.proofs.xn.a_request.Goals as goal

pub is_received-requires : goal.is_received-requires
is_received-requires g c = (1, messages_are.0)
