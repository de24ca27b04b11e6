use Rattle.std.proofs.Common.{◌≡◌, ◌+◌, drop}
use Rattle.unit_defs.specs.Messages.{bearers_of, are_from}
use Rattle.du_node.proofs.rows.terminals.are_first_bearers.Given as goal

abbrev pub invariant-loop-tunnel : goal.invariant-loop-tunnel
invariant-loop-tunnel l = record {
  number : l.next ≡ l.tunnel-index + 1;
  so_far : are_from l.next (bearers_of (drop l.tunnel-index l.tunnels)) ≡ are_from 1 (bearers_of l.tunnels);
}
