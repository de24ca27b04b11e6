use Rattle.std.proofs.Common.{ap}
use Rattle.gnb_types.specs.declared.inputs.Order.{Order}
use Rattle.unit_defs.specs.Ue.{ordered}
use Rattle.unit_defs.specs.octet_defs.Codec.{octet_way}
use Rattle.ue_node.specs.rows.Records.{record_of}
use Rattle.ue_node.proofs.Reading.{goes_to}
use Rattle.ue_node.proofs.inputs.take_order.Goals as goal

pub returns-in-Fail-clause-step : goal.returns-in-Fail-clause-step
returns-in-Fail-clause-step g c =
    goes_to c.args.out.now c.fail.new.out (record_of c.fail.new.self) c.fail.result _ _
    (ap (λ (o : Order). ordered (octet_way g.C.MessageCodec.codec) o (record_of c.args.record.now)) c.in-Fail.is)
    (c.fail.ensures.step g.C.MessageCodec.codec)
