use Rattle.tests_messages.proofs.Values.{messages_are}
use Rattle.tests_messages.proofs.xn.what_ends_a_handover.Goals as goal

pub is_received-requires : goal.is_received-requires
is_received-requires g c = (1, messages_are.1.1.1.1.0)

pub is_received-requires-2 : goal.is_received-requires-2
is_received-requires-2 g c = (1, messages_are.1.1.1.1.1.0)

pub is_received-requires-3 : goal.is_received-requires-3
is_received-requires-3 g c = (1, messages_are.1.1.1.1.1.1.0)
