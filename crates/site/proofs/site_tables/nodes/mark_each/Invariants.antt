use Rattle.std.proofs.Common.{◌≡◌, drop}
use Rattle.gnb_types.specs.Orders.{node_cmp}
use Rattle.site.specs.site_tables.Each.{each_at}
use Rattle.site.specs.site_tables.Nodes.{as_set_up}
use Rattle.site.proofs.site_tables.nodes.mark_each.Given as goal

-- what those to come make of the table now is what all make of it at first
abbrev pub invariant-loop-name : goal.invariant-loop-name
invariant-loop-name l =
    each_at node_cmp as_set_up (drop l.name-index l.names) l.nodes ≡ each_at node_cmp as_set_up l.names l.fn.nodes
