use Rattle.std.proofs.Common.{◌≡◌, ◌+◌, ◌-◌, drop, length}
use Rattle.unit_defs.specs.Messages.{bearers_of, are_bearers}
use Rattle.unit_defs.specs.CuUp.{bearers_from}
use Rattle.cu_up_contexts.proofs.bearer_context.context.Context.is_named_by.Given as goal

abbrev pub invariant-loop-tunnel : goal.invariant-loop-tunnel
invariant-loop-tunnel l = record {
  number : l.number ≡ l.tunnel-index + 1;
  all :
      are_bearers (bearers_from l.number (length l.tunnels - l.tunnel-index)) (bearers_of (drop l.tunnel-index l.tunnels))
      ≡ are_bearers (bearers_from 1 (length l.tunnels)) (bearers_of l.tunnels);
}
