use Rattle.std.proofs.Common.{refl, sym, ap, ◌∙◌}
use Rattle.gnb_types.specs.declared.names.NodeId.TheVariants.{Du}
use Rattle.gnb_types.specs.Orders.{node_cmp, ue_cmp}
use Rattle.tables.specs.Tables.{find}
use Rattle.du_node.specs.Nodes.{Node, new_node}
use Rattle.site.proofs.site_tables.Stepped.{at_some, node_placed}
use Rattle.site.proofs.site_tables.nodes.place.Goals as goal

pub place_static-requires : goal.place_static-requires
place_static-requires c =
    ap (λ (n : Node). find ue_cmp n.du.contexts c.args.plan.ue)
    (sym (at_some node_cmp c.args.nodes.now (new_node c.args.plan.gnb c.args.plan.du) (Du c.args.plan.gnb c.args.plan.du) c.in-Some.node.now c.in-Some.ensures.value))
    ∙ c.requires.new

pub returns : goal.returns
returns c =
    node_placed c.args.plan c.args.uplink c.args.nodes.now _ c.in-Some.node.now c.place_static.new.self
    (at_some node_cmp c.args.nodes.now (new_node c.args.plan.gnb c.args.plan.du) (Du c.args.plan.gnb c.args.plan.du) c.in-Some.node.now c.in-Some.ensures.value)
    c.requires.works c.place_static.result c.place_static.ensures.placed c.place_static.ensures.kept (λ is. refl)
