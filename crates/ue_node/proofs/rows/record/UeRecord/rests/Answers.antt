use Rattle.std.proofs.Common.{◌∙◌, arith}
use Rattle.ue_node.proofs.rows.AtBearer.{bearer_rests, none_rests}
use Rattle.ue_node.proofs.rows.record.UeRecord.rests.Goals as goal

pub returns-in-Some : goal.returns-in-Some
returns-in-Some c =
    c.rests.ensures
    ∙ bearer_rests c.args.self.now c.args.bearer c.in-Some.index c.index.result.now (omega (arith, c.in-Some.ensures.within.0, c.args.self.now.bearers.ok.0))
    c.in-Some.ensures.within.1 c.index.ensures

pub returns-in-None : goal.returns-in-None
returns-in-None c =
    none_rests c.args.self.now c.args.bearer c.len.result (omega (arith, c.args.self.now.bearers.ok.0)) c.in-None.ensures.none
