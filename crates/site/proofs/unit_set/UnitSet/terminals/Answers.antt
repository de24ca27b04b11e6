use Rattle.ue_node.specs.Nodes.{NodeState}
use Rattle.site.proofs.Each.{keys_seen}
use Rattle.site.proofs.unit_set.UnitSet.terminals.Goals as goal

pub returns : goal.returns
returns c = keys_seen (λ (u : NodeState). u.node) c.args.self.now.terminals c.keys_in.result c.keys_in.ensures.keys
