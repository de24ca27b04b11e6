use Rattle.std.proofs.Common.{◌≡◌, Some, drop}
use Rattle.std.specs.List.{flat_map}
use Rattle.unit_defs.specs.CuUpRecords.{f1u_uplink}
use Rattle.unit_defs.specs.CuUp.{entries, with_entries}
use Rattle.cu_up_contexts.proofs.contexts.tunnels.open_uplinks.Given as goal

abbrev pub invariant-loop-uplink : goal.invariant-loop-uplink
invariant-loop-uplink l =
    with_entries l.tunnels (flat_map (λ t. entries l.ue t.bearer l.context f1u_uplink (Some t.teid)) (drop l.uplink-index l.uplinks))
    ≡ with_entries l.initial.tunnels (flat_map (λ t. entries l.ue t.bearer l.context f1u_uplink (Some t.teid)) l.uplinks)
