use Rattle.std.proofs.Common.{◌≡◌, [], refl, sym, ap, ◌∙◌}
use Rattle.std.specs.Prelude.{Ok, Err}
use Rattle.gnb_types.specs.declared.names.NodeId.TheVariants.{Du}
use Rattle.gnb_types.specs.Orders.{node_cmp}
use Rattle.tables.specs.Tables.{put}
use Rattle.unit_defs.specs.octet_defs.Units.{du_steps}
use Rattle.unit_messages.specs.steps.Steps.{step_after}
use Rattle.du_node.specs.Nodes.{Node, new_node}
use Rattle.site.specs.site_tables.Nodes.{node_kind, node_at}
use Rattle.site.proofs.site_tables.Stepped.{at_none, kept_steps, node_steps}
use Rattle.site.proofs.site_tables.nodes.step_first.Goals as goal

pub returns-in-Ok : goal.returns-in-Ok
returns-in-Ok g c =
    let codec = g.C.MessageCodec.codec in
    let old = c.args.nodes.now in
    let first : node_at old c.args.gnb c.args.number ≡ new_node c.args.gnb c.args.number =
    at_none node_cmp old (new_node c.args.gnb c.args.number) (Du c.args.gnb c.args.number) c.requires in
    kept_steps node_kind (step_after [] (du_steps codec (node_at old c.args.gnb c.args.number).du c.args.input.now)) (put node_cmp old (Du c.args.gnb c.args.number))
    (put node_cmp old (Du c.args.gnb c.args.number) c.step.new.self) c.keep.new.table c.in-Ok.outputs c.keep.result
    (node_steps codec c.args.input.now old (put node_cmp old (Du c.args.gnb c.args.number) c.step.new.self) c.args.gnb c.args.number c.new-node.result c.step.new.self
    (Ok c.in-Ok.outputs) (first ∙ sym c.new-node.ensures) (ap (λ (u : Node). u.failure) first)
    (c.in-Ok.ensures.steps g.met.C.LawfulCodec.reads_items g.met.C.LawfulCodec.reads_pdus) c.in-Ok.ensures.kept (λ os is. refl))
    c.keep.ensures.given c.keep.ensures.ok c.keep.ensures.fails

pub returns-in-Err : goal.returns-in-Err
returns-in-Err g c =
    let codec = g.C.MessageCodec.codec in
    let old = c.args.nodes.now in
    let first : node_at old c.args.gnb c.args.number ≡ new_node c.args.gnb c.args.number =
    at_none node_cmp old (new_node c.args.gnb c.args.number) (Du c.args.gnb c.args.number) c.requires in
    node_steps codec c.args.input.now old old c.args.gnb c.args.number c.new-node.result c.step.new.self (Err c.in-Err.error) (first ∙ sym c.new-node.ensures)
    (ap (λ (u : Node). u.failure) first) (c.in-Err.ensures.steps g.met.C.LawfulCodec.reads_items g.met.C.LawfulCodec.reads_pdus) c.in-Err.ensures.kept (λ os is. absurd (cc))
