use Rattle.std.proofs.Common.{refl}
use Rattle.gnb_types.specs.declared.names.NodeId.TheVariants.{Du}
use Rattle.gnb_types.specs.Orders.{node_cmp}
use Rattle.du_node.specs.Nodes.{new_node}
use Rattle.site.proofs.site_tables.Stepped.{at_some, node_steps}
use Rattle.site.proofs.site_tables.nodes.step.Goals as goal

pub returns : goal.returns
returns g c =
    node_steps g.C.MessageCodec.codec c.args.input.now c.args.nodes.now _ c.args.gnb c.args.number c.in-Some.node.now c.step.new.self c.step.result
    (at_some node_cmp c.args.nodes.now (new_node c.args.gnb c.args.number) (Du c.args.gnb c.args.number) c.in-Some.node.now c.in-Some.ensures.value)
    c.requires (c.step.ensures.steps g.met.C.LawfulCodec.reads_items g.met.C.LawfulCodec.reads_pdus) c.step.ensures.kept (λ os is. refl)
