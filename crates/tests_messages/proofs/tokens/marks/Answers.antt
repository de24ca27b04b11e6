use Rattle.tests_messages.proofs.Values.{tokens_are}
use Rattle.tests_messages.proofs.tokens.marks.Goals as goal

pub is_received-requires : goal.is_received-requires
is_received-requires g c = tokens_are.1.1.0

pub is_received-requires-2 : goal.is_received-requires-2
is_received-requires-2 g c = tokens_are.1.1.1.0

pub is_received-requires-3 : goal.is_received-requires-3
is_received-requires-3 g c = tokens_are.1.1.1.1.0
