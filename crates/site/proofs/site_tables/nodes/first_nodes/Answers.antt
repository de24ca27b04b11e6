use Rattle.site.proofs.site_tables.First.{first_nodes_are}
use Rattle.site.proofs.site_tables.nodes.first_nodes.Goals as goal

pub returns : goal.returns
returns c =
    first_nodes_are c.new-nodes.result c.add.new.nodes c.add-2.new.nodes c.add-3.new.nodes c.add-4.new.nodes c.new-nodes.ensures
    c.in_ok-add.ensures c.in_ok-add-2.ensures c.in_ok-add-3.ensures c.in_ok-add-4.ensures
