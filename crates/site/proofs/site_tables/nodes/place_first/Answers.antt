use Rattle.std.proofs.Common.{◌≡◌, refl, sym, ap, ◌∙◌}
use Rattle.std.specs.Prelude.{Ok, Err}
use Rattle.gnb_types.specs.declared.names.NodeId.TheVariants.{Du}
use Rattle.gnb_types.specs.Orders.{node_cmp, ue_cmp}
use Rattle.tables.specs.Tables.{find, put}
use Rattle.du_node.specs.Nodes.{Node, new_node}
use Rattle.site.specs.site_tables.Nodes.{node_at}
use Rattle.site.proofs.site_tables.Stepped.{at_none, node_placed, kept_node_placed}
use Rattle.site.proofs.site_tables.nodes.place_first.Goals as goal

pub place_static-requires : goal.place_static-requires
unfolding find
place_static-requires c = ap (λ (n : Node). find ue_cmp n.du.contexts c.args.plan.ue) c.new-node.ensures

pub returns-in-Ok : goal.returns-in-Ok
returns-in-Ok c =
    let old = c.args.nodes.now in
    let name = Du c.args.plan.gnb c.args.plan.du in
    let first : node_at old c.args.plan.gnb c.args.plan.du ≡ new_node c.args.plan.gnb c.args.plan.du =
    at_none node_cmp old (new_node c.args.plan.gnb c.args.plan.du) name c.requires in
    kept_node_placed c.args.plan c.args.uplink old c.keep.new.table (put node_cmp old name c.place_static.new.self) c.keep.result
    (node_placed c.args.plan c.args.uplink old (put node_cmp old name c.place_static.new.self) c.new-node.result c.place_static.new.self
    (first ∙ sym c.new-node.ensures) (ap (λ (n : Node). n.failure) first) (Ok tt) c.in-Ok.ensures.placed c.in-Ok.ensures.kept (λ is. refl))
    c.keep.ensures.ok c.keep.ensures.fails

pub returns-in-Err : goal.returns-in-Err
returns-in-Err c =
    let old = c.args.nodes.now in
    let name = Du c.args.plan.gnb c.args.plan.du in
    let first : node_at old c.args.plan.gnb c.args.plan.du ≡ new_node c.args.plan.gnb c.args.plan.du =
    at_none node_cmp old (new_node c.args.plan.gnb c.args.plan.du) name c.requires in
    node_placed c.args.plan c.args.uplink old old c.new-node.result c.place_static.new.self (first ∙ sym c.new-node.ensures)
    (ap (λ (n : Node). n.failure) first) (Err c.in-Err.error) c.in-Err.ensures.placed c.in-Err.ensures.kept (λ is. absurd (cc))
