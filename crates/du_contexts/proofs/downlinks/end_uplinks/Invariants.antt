use Rattle.std.proofs.Common.{◌≡◌, ◌++◌, map}
use Rattle.gnb_types.specs.declared.names.Dir.TheVariants.{Ul}
use Rattle.gnb_types.specs.declared.outputs.Tag.TheVariants.{Absent}
use Rattle.unit_defs.specs.Ways.{packet, end_marker}
use Rattle.unit_defs.specs.octet_defs.Writing.{outputs_of}
use Rattle.du_contexts.proofs.downlinks.end_uplinks.Given as goal

abbrev pub invariant-loop-id : goal.invariant-loop-id
invariant-loop-id l =
    l.outputs ++ outputs_of (map (λ e. packet e.1.up e.1.uplink l.ue e.0 Ul Absent end_marker) l.id-iterator)
    ≡ l.initial.outputs ++ outputs_of (map (λ e. packet e.1.up e.1.uplink l.ue e.0 Ul Absent end_marker) l.initial.id-iterator)
