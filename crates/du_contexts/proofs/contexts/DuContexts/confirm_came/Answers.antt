use Rattle.std.proofs.Common.{rules}
use Rattle.du_contexts.specs.Tables.{with_tables}
use Rattle.du_contexts.proofs.RadioReading.{confirm_read, confirm_not_read, number_read}
use Rattle.du_contexts.proofs.Steps.{step_as}
use Rattle.du_contexts.proofs.contexts.DuContexts.confirm_came.Goals as goal

pub returns-in-Ok : goal.returns-in-Ok
returns-in-Ok c = λ codec r lawful.
    step_as c.args.outputs.now c.confirm.new.outputs (with_tables r c.args.self.now) c.confirm.result _ _
    (confirm_read codec r c.args.self.now c.args.key.ue c.args.key.bearer c.args.octets.now lawful c.in-Ok.number c.in-Ok.ensures.ok)
    (c.confirm.ensures codec r c.args.octets.now
    (number_read codec r c.args.self.now c.args.key.ue c.args.key.bearer c.args.octets.now lawful c.in-Ok.number c.in-Ok.ensures.ok))

pub returns-in-Err : goal.returns-in-Err
returns-in-Err c = λ codec r lawful.
    rw (confirm_not_read codec r c.args.self.now c.args.key.ue c.args.key.bearer c.args.octets.now lawful c.in-Err.reason c.in-Err.ensures.err)
    (search rules)
