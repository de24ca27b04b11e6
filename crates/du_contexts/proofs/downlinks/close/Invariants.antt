use Rattle.std.proofs.Common.{◌≡◌, ◌++◌, map}
use Rattle.unit_defs.specs.Ways.{closed}
use Rattle.unit_defs.specs.Teids.{without_each}
use Rattle.unit_defs.specs.octet_defs.Writing.{outputs_of}
use Rattle.du_contexts.proofs.downlinks.close.Given as goal

abbrev pub invariant-loop-bearer : goal.invariant-loop-bearer
invariant-loop-bearer l = record {
  tunnels :
      without_each l.tunnels (map (λ e. e.1.downlink) l.bearer-iterator)
      ≡ without_each l.initial.tunnels (map (λ e. e.1.downlink) l.initial.bearer-iterator);
  outputs :
      l.outputs ++ outputs_of (map (λ teid. closed teid) (map (λ e. e.1.downlink) l.bearer-iterator))
      ≡ l.initial.outputs ++ outputs_of (map (λ teid. closed teid) (map (λ e. e.1.downlink) l.initial.bearer-iterator));
}
