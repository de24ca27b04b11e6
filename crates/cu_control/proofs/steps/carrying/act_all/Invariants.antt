use Rattle.std.proofs.Common.{◌≡◌, length, map}
use Rattle.unit_defs.specs.CuCpRecords.{act_all}
use Rattle.unit_defs.specs.octet_defs.Codec.{octet_way}
use Rattle.unit_messages.specs.steps.Steps.{step_after}
use Rattle.cu_cp_records.specs.control_actions.Rows.{action_as}
use Rattle.cu_control.proofs.steps.carrying.act_all.Given as goal

-- what is said and what is left give together what all gives
abbrev pub invariant-loop-say : goal.invariant-loop-say
invariant-loop-say g l =
    step_after l.outputs (act_all (octet_way g.C.MessageCodec.codec) l.ue (map action_as l.left.items) l.record)
    ≡ step_after l.initial.outputs (act_all (octet_way g.C.MessageCodec.codec) l.ue (map action_as l.initial.left.items) l.initial.record)

abbrev pub decreases-loop-say : goal.decreases-loop-say
decreases-loop-say g l = length l.left.items
