use Rattle.std.proofs.Common.{◌≡◌, drop}
use Rattle.unit_defs.specs.CuCp.{command_each}
use Rattle.unit_defs.specs.octet_defs.Codec.{octet_way}
use Rattle.unit_messages.specs.steps.Steps.{step_after}
use Rattle.cu_control.proofs.ticks.command_each.Given as goal

abbrev pub invariant-loop-ue : goal.invariant-loop-ue
invariant-loop-ue g l =
    step_after l.outputs (command_each (octet_way g.C.MessageCodec.codec) (drop l.ue-index l.ues) l.record)
    ≡ step_after l.fn.outputs (command_each (octet_way g.C.MessageCodec.codec) l.ues l.fn.record)
