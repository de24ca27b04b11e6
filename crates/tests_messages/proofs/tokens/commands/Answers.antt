use Rattle.tests_messages.proofs.Values.{tokens_are}
use Rattle.tests_messages.proofs.tokens.commands.Goals as goal

pub is_received-requires : goal.is_received-requires
is_received-requires g c = tokens_are.0

pub is_received-requires-2 : goal.is_received-requires-2
is_received-requires-2 g c = tokens_are.1.0
