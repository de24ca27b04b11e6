use Rattle.unit_defs.specs.Ue.{accept}
use Rattle.unit_defs.specs.octet_defs.Codec.{octet_way}
use Rattle.ue_node.specs.rows.Records.{record_of}
use Rattle.ue_node.proofs.rows.RowSteps.{step_as, accepts}
use Rattle.ue_node.proofs.rows.record.UeRecord.accept.Goals as goal

pub returns-clause-step : goal.returns-clause-step
returns-clause-step c = λ codec.
    step_as c.args.out.now c.connect.new.out (record_of c.connect.new.self) c.connect.result
    (accept (octet_way codec) c.args.epoch (record_of c.args.self.now)) _
    (accepts codec c.args.epoch (record_of c.args.self.now) c.if-epoch-self.false c.in-Returning.is)
    (c.connect.ensures.step codec)
