use Rattle.std.proofs.Common.{◌++◌, length, get_or, ap, ◌∙◌, arith}
use Rattle.std.specs.Prelude.{None}
use Rattle.asn1_syntax.specs.declared.types.definition.Node.{Node}
use Rattle.asn1_defs.specs.Graph.{definition_edges}
use Rattle.asn1_module.proofs.graph.GraphLemmas.{nodes_turn}
use Rattle.asn1_module.proofs.graph.NumberLemmas.{target_there, targets_long, number_fits}
use Rattle.asn1_module.proofs.graph.graph.push_nodes.Goals as goal

pub bounds-targets-from : goal.bounds-targets-from
bounds-targets-from c = targets_long c.args.assignments.now c.args.nodes.now c.args.targets.now c.loop-from.from c.requires.targets (omega arith)

pub push_node-requires : goal.push_node-requires
push_node-requires c =
    number_fits (length c.args.nodes.now) 18446744073709551616 c.args.assignments.now (get_or c.args.nodes.now c.loop-from.from c.index-nodes-from.result).definition (get_or c.args.targets.now c.loop-from.from None) c.requires.fits
    (target_there c.args.assignments.now c.args.nodes.now c.args.targets.now c.loop-from.from None c.index-nodes-from.result c.requires.targets c.loop-from-test.true)

pub loop-from-preserved : goal.loop-from-preserved
loop-from-preserved c =
    nodes_turn (length c.args.nodes.now) c.args.assignments.now c.args.nodes.now c.loop-from.from c.index-nodes-from.result (get_or c.args.targets.now c.loop-from.from None) c.loop-from.edges _ _ c.loop-from-test.true
    (target_there c.args.assignments.now c.args.nodes.now c.args.targets.now c.loop-from.from None c.index-nodes-from.result c.requires.targets c.loop-from-test.true)
    (c.in_ok-push_node.ensures ∙ ap (λ (n : Node). c.loop-from.edges ++ definition_edges (length c.args.nodes.now) (get_or c.args.targets.now c.loop-from.from None) c.loop-from.from n.definition) c.index-nodes-from.is)
    c.loop-from.invariant
