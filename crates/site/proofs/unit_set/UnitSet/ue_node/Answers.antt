use Rattle.gnb_types.specs.Orders.{ue_cmp}
use Rattle.ue_node.specs.Nodes.{NodeState}
use Rattle.site.proofs.Each.{looked_up}
use Rattle.site.proofs.unit_set.UnitSet.ue_node.Goals as goal

pub returns : goal.returns
returns c = looked_up ue_cmp (λ (x : NodeState). x.node) c.args.self.now.terminals c.args.ue c.get.result c.get.ensures
