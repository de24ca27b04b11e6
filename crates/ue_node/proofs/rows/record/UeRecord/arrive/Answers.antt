use Rattle.std.proofs.Common.{◌≡◌, ◌+◌, ◌^◌, ◌<◌, sym, subst, arith}
use Rattle.unit_defs.specs.Ue.{UeNode}
use Rattle.unit_messages.specs.steps.Steps.{Step, IsStep}
use Rattle.ue_node.specs.rows.Records.{record_of}
use Rattle.ue_node.proofs.rows.RowSteps.{arrives_at}
use Rattle.ue_node.proofs.rows.record.UeRecord.arrive.Goals as goal

pub returns-clause-step : goal.returns-clause-step
returns-clause-step g c =
    let next : c.in-Some.epoch ≡ c.args.self.now.epoch + 1 = omega arith in
    let fits : c.args.self.now.epoch + 1 < 2 ^ 32 = omega arith in
    subst (λ (s : Step UeNode). IsStep s c.connect.new.out (record_of c.connect.new.self) c.connect.result)
    (sym
    (arrives_at g.C.MessageCodec.codec c.args.out.now c.say.new.out (record_of c.args.self.now) c.in-Some.epoch c.in-Accessing.is next fits c.in_ok-say.ensures))
    (c.connect.ensures.step g.C.MessageCodec.codec)
