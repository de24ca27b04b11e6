use Rattle.std.proofs.Common.{rules}
use Rattle.du_contexts.specs.Tables.{with_tables}
use Rattle.du_contexts.proofs.RadioReading.{radio_read, radio_not_read}
use Rattle.du_contexts.proofs.Steps.{step_as}
use Rattle.du_contexts.proofs.contexts.DuContexts.radio_came.Goals as goal

pub returns-in-Ok : goal.returns-in-Ok
returns-in-Ok c = λ codec r lawful.
    step_as c.args.outputs.now c.pass_up.new.outputs (with_tables r c.args.self.now) c.pass_up.result _ _
    (radio_read codec r c.args.self.now c.args.key.ue c.args.key.bearer c.args.octets.now lawful c.in-Ok.field-0 c.in-Ok.ensures.ok)
    (c.pass_up.ensures codec r)

pub returns-in-Err : goal.returns-in-Err
returns-in-Err c = λ codec r lawful.
    rw (radio_not_read codec r c.args.self.now c.args.key.ue c.args.key.bearer c.args.octets.now lawful c.in-Err.reason c.in-Err.ensures.err)
    (search rules)
