use Rattle.du_contexts.specs.Tables.{with_tables}
use Rattle.du_contexts.proofs.Steps.{step_as}
use Rattle.du_contexts.proofs.contexts.DuContexts.take.Goals as goal

pub returns-in-Ok : goal.returns-in-Ok
returns-in-Ok c = λ codec r lawful.
    step_as c.args.outputs.now c.frame_received.new.outputs (with_tables r c.frame_received.new.self) c.frame_received.result _ _
    (c.in-Ok.ensures.ok codec r lawful) (c.frame_received.ensures codec r)
