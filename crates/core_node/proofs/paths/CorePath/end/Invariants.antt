use Rattle.std.proofs.Common.{◌≡◌, ◌++◌, map, drop}
use Rattle.gnb_types.specs.declared.names.Dir.TheVariants.{Dl}
use Rattle.gnb_types.specs.declared.outputs.Tag.TheVariants.{Absent}
use Rattle.unit_defs.specs.Ways.{packet, end_marker}
use Rattle.unit_defs.specs.octet_defs.Writing.{outputs_of}
use Rattle.core_node.proofs.paths.CorePath.end.Given as goal

abbrev pub invariant-loop-tunnel : goal.invariant-loop-tunnel
invariant-loop-tunnel l =
    l.outputs ++ outputs_of (map (λ t. packet l.self.up t.teid l.ue t.bearer Dl Absent end_marker) (drop l.tunnel-index l.tunnel-items))
    ≡ l.fn.outputs ++ outputs_of (map (λ t. packet l.self.up t.teid l.ue t.bearer Dl Absent end_marker) l.tunnel-items)
