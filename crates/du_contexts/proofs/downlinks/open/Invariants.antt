use Rattle.std.proofs.Common.{◌≡◌, ◌++◌, map}
use Rattle.unit_defs.specs.Ways.{opened}
use Rattle.unit_defs.specs.Du.{with_entries}
use Rattle.unit_defs.specs.octet_defs.Writing.{outputs_of}
use Rattle.du_contexts.proofs.downlinks.open.Given as goal

abbrev pub invariant-loop-id : goal.invariant-loop-id
invariant-loop-id l = record {
  tunnels : with_entries l.ue l.tunnels l.id-iterator ≡ with_entries l.ue l.initial.tunnels l.initial.id-iterator;
  outputs :
      l.outputs ++ outputs_of (map (λ teid. opened teid) (map (λ e. e.1.downlink) l.id-iterator))
      ≡ l.initial.outputs ++ outputs_of (map (λ teid. opened teid) (map (λ e. e.1.downlink) l.initial.id-iterator));
}
