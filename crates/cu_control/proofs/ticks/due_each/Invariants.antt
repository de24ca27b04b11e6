use Rattle.std.proofs.Common.{◌≡◌, map, drop}
use Rattle.unit_defs.specs.CuCp.{due_each}
use Rattle.unit_defs.specs.octet_defs.Codec.{octet_way}
use Rattle.unit_messages.specs.steps.Steps.{step_after}
use Rattle.cu_control.specs.inside.Dues.{due_in}
use Rattle.cu_control.proofs.ticks.due_each.Given as goal

abbrev pub invariant-loop-due : goal.invariant-loop-due
invariant-loop-due g l =
    step_after l.outputs (due_each (octet_way g.C.MessageCodec.codec) (map due_in (drop l.due-index l.dues)) l.record)
    ≡ step_after l.fn.outputs (due_each (octet_way g.C.MessageCodec.codec) (map due_in l.dues) l.fn.record)
