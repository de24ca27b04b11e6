use Rattle.std.proofs.Common.{sym, subst}
use Rattle.gnb_types.specs.declared.inputs.Order.{Order}
use Rattle.unit_defs.specs.CuUp.{ordered}
use Rattle.unit_defs.specs.octet_defs.Codec.{octet_way}
use Rattle.unit_messages.specs.steps.Steps.{IsStep, step_after}
use Rattle.cu_user.proofs.cu_up_rows.record.CuUpRecord.ordered.Goals as goal

pub returns-in-Poll : goal.returns-in-Poll
returns-in-Poll g c =
    let codec = g.C.MessageCodec.codec in
    subst (λ (o : Order). IsStep (step_after c.args.outputs.now (ordered (octet_way codec) o c.args.self.now)) c.poll.new.outputs c.poll.new.self c.poll.result)
    (sym c.in-Poll.is) (c.poll.ensures codec)
