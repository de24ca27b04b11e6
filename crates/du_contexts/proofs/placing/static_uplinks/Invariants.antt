use Rattle.std.proofs.Common.{◌≡◌, ◌+◌, ◌*◌}
use Rattle.unit_defs.specs.CuUp.{bearers_from}
use Rattle.unit_defs.specs.Static.{uplinks_from}
use Rattle.du_contexts.proofs.placing.static_uplinks.Given as goal

abbrev pub invariant-loop-i : goal.invariant-loop-i
invariant-loop-i l = record {
  number : l.teid ≡ l.uplink + 2 * l.i;
  all : l.tunnels ≡ uplinks_from l.uplink (bearers_from 1 l.i);
}
