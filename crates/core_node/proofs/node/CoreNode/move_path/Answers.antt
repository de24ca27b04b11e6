use Rattle.std.proofs.Common.{sym}
use Rattle.unit_messages.specs.steps.Steps.{stepped}
use Rattle.core_node.proofs.node.CoreNode.move_path.Goals as goal

pub returns : goal.returns
returns c = λ codec i. stepped (sym (c.in_ok-end_path.ensures codec) i) (sym c.in_ok-set_path.ensures.ok i)
