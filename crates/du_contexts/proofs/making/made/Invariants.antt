use Rattle.std.proofs.Common.{◌≡◌, ◌+◌, ◌++◌, drop}
use Rattle.std.specs.List.Sorted.{IsStrictlySortedBy}
use Rattle.std.specs.Map.{keys_of}
use Rattle.gnb_types.specs.Orders.{bearer_cmp}
use Rattle.unit_defs.specs.Messages.{bearers_of}
use Rattle.unit_defs.specs.Du.{bearers_made}
use Rattle.du_contexts.proofs.making.made.Given as goal

abbrev pub invariant-loop-tunnel : goal.invariant-loop-tunnel
invariant-loop-tunnel l = record {
  number : l.teid ≡ l.next + l.tunnel-index;
  sorted : IsStrictlySortedBy bearer_cmp (keys_of l.bearers ++ bearers_of (drop l.tunnel-index l.uplinks));
  all : l.bearers ++ bearers_made l.up l.teid (drop l.tunnel-index l.uplinks) ≡ bearers_made l.up l.next l.uplinks;
}
