use Rattle.std.proofs.Common.{subst}
use Rattle.std.specs.Prelude.{Result}
use Rattle.gnb_types.specs.declared.reasons.DropReason.{DropReason}
use Rattle.message_types.specs.declared.rrc.Token.{Token}
use Rattle.ue_node.specs.rows.Records.{record_of}
use Rattle.ue_node.specs.Nodes.{IsHeard}
use Rattle.ue_node.proofs.Reading.{goes_to}
use Rattle.ue_node.proofs.inputs.take_control.Goals as goal

pub returns-in-Ok-clause-step : goal.returns-in-Ok-clause-step
returns-in-Ok-clause-step g c =
    goes_to c.args.out.now c.told.new.out (record_of c.told.new.self) c.told.result _ _
    (subst (λ (r : Result Token DropReason). IsHeard g.C.MessageCodec.codec (record_of c.args.record.now) c.args.from c.args.octets.now r) c.in-Ok.is
    c.in_ok-token.ensures)
    (c.told.ensures.step g.C.MessageCodec.codec)
