use Rattle.std.proofs.Common.{subst}
use Rattle.unit_defs.specs.CuUp.{poll}
use Rattle.unit_defs.specs.octet_defs.Codec.{octet_way}
use Rattle.unit_messages.specs.steps.Steps.{IsStep, step_after}
use Rattle.cu_up_contexts.specs.contexts.Tables.{OctetUp}
use Rattle.cu_user.specs.cu_up_rows.Records.{cu_up_record}
use Rattle.cu_user.proofs.cu_up_rows.record.CuUpRecord.poll.Goals as goal

pub returns : goal.returns
returns c = λ codec.
    let r : OctetUp = cu_up_record c.self.inside.gnb c.self.inside.number c.self.inside.is_set_up c.self.inside.contexts c.self.inside.requests in
    subst (λ (s : OctetUp). IsStep (step_after c.args.outputs.now (poll (octet_way codec) c.args.ue c.args.bearer s))
    c.poll.new.out (cu_up_record c.self.inside.gnb c.self.inside.number c.self.inside.is_set_up c.poll.new.self c.self.inside.requests) c.poll.result)
    c.self.view_is (c.poll.ensures codec r)
