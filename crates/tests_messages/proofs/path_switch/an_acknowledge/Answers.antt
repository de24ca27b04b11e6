use Rattle.tests_messages.proofs.Values.{switches_are}
use Rattle.tests_messages.proofs.path_switch.an_acknowledge.Goals as goal

pub is_received-requires : goal.is_received-requires
is_received-requires g c = switches_are.1.0
