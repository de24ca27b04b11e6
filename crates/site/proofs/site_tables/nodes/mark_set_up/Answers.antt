use Rattle.std.proofs.Common.{List, ap, ◌∙◌}
use Rattle.gnb_types.specs.declared.names.NodeId.{NodeId}
use Rattle.gnb_types.specs.Orders.{node_cmp}
use Rattle.gnb_types.proofs.OrderLemmas.{node_total}
use Rattle.site.specs.site_tables.Each.{each_at}
use Rattle.site.specs.site_tables.Nodes.{as_set_up}
use Rattle.site.proofs.site_tables.Each.{done_to_all}
use Rattle.site.proofs.site_tables.nodes.mark_set_up.Goals as goal

pub returns : goal.returns
returns c =
    c.mark_each.ensures
    ∙ ap (λ (names : List NodeId). each_at node_cmp as_set_up names c.args.nodes.now) (c.as_slice.ensures ∙ c.in_ok-names.ensures.keys)
    ∙ done_to_all node_total as_set_up c.args.nodes.now c.in_ok-names.ensures.ordered
