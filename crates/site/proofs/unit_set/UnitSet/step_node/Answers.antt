use Rattle.site.proofs.Sets.{node_works, node_gives, node_goes_on}
use Rattle.site.proofs.unit_set.UnitSet.step_node.Goals as goal

pub step-requires : goal.step-requires
step-requires g c = node_works c.args.self.now c.args.gnb c.args.number c.requires

pub returns-clause-works : goal.returns-clause-works
returns-clause-works g c =
    node_goes_on g.C.MessageCodec.codec c.args.self.now c.requires c.args.input.now c.args.gnb c.args.number c.step.new.nodes c.step.result c.step.ensures

pub returns-clause-gives : goal.returns-clause-gives
returns-clause-gives g c =
    node_gives g.C.MessageCodec.codec c.args.self.now c.requires c.args.input.now c.args.gnb c.args.number c.step.new.nodes c.step.result c.step.ensures
