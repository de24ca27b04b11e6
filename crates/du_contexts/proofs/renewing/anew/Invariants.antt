use Rattle.std.proofs.Common.{◌≡◌, ◌+◌, ◌++◌, drop, map}
use Rattle.std.specs.List.Sorted.{IsStrictlySortedBy}
use Rattle.std.specs.Map.{keys_of}
use Rattle.gnb_types.specs.Orders.{bearer_cmp}
use Rattle.du_contexts.specs.Renewed.{anew_of}
use Rattle.du_contexts.proofs.renewing.anew.Given as goal

abbrev pub invariant-loop-uplink : goal.invariant-loop-uplink
invariant-loop-uplink l = record {
  number : l.teid ≡ l.next + l.uplink-index;
  sorted : IsStrictlySortedBy bearer_cmp (keys_of l.bearers ++ map (λ u. u.bearer) (drop l.uplink-index l.uplinks));
  all : l.bearers ++ anew_of l.teid (drop l.uplink-index l.uplinks) ≡ anew_of l.next l.uplinks;
}
