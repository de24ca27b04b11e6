use Rattle.gnb_types.specs.Orders.{node_cmp}
use Rattle.du_node.specs.Nodes.{Node}
use Rattle.site.proofs.Each.{looked_up}
use Rattle.site.proofs.unit_set.UnitSet.du_node.Goals as goal

pub returns : goal.returns
returns c = looked_up node_cmp (λ (x : Node). x.du) c.args.self.now.nodes c.args.name c.get.result c.get.ensures
