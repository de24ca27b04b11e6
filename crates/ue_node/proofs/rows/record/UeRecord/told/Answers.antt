use Rattle.unit_defs.specs.Ue.{told}
use Rattle.unit_defs.specs.octet_defs.Codec.{octet_way}
use Rattle.ue_node.specs.rows.Records.{record_of}
use Rattle.ue_node.proofs.rows.RowSteps.{step_as, tells_command, tells_accepted}
use Rattle.ue_node.proofs.rows.record.UeRecord.told.Goals as goal

pub returns-in-Command-clause-step : goal.returns-in-Command-clause-step
returns-in-Command-clause-step c = λ codec.
    step_as c.args.out.now c.obey.new.out (record_of c.obey.new.self) c.obey.result
    (told (octet_way codec) c.args.token (record_of c.args.self.now)) _
    (tells_command codec (record_of c.args.self.now) c.args.token c.in-Command.ue c.in-Command.epoch c.in-Command.gnb c.in-Command.du c.in-Command.is
    c.if-ue-self.true)
    (c.obey.ensures.step codec)

pub returns-in-Accepted-clause-step : goal.returns-in-Accepted-clause-step
returns-in-Accepted-clause-step c = λ codec.
    step_as c.args.out.now c.accept.new.out (record_of c.accept.new.self) c.accept.result
    (told (octet_way codec) c.args.token (record_of c.args.self.now)) _
    (tells_accepted codec (record_of c.args.self.now) c.args.token c.in-Accepted.ue c.in-Accepted.epoch c.in-Accepted.is c.if-ue-self-2.true)
    (c.accept.ensures.step codec)
