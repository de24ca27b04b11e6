-- Internal: what the core and a unit do with a control message, as the run says it of each.
use Rattle.std.specs.Prelude.{◌≡◌, ℕ, List, map, Some, None, Result, Ok, Err, if◌then◌else◌}
use Rattle.gnb_types.specs.declared.names.NodeId.{NodeId}
use Rattle.gnb_types.specs.declared.outputs.Output.{Output}
use Rattle.transport_defs.specs.declared.ControlMessage.{ControlMessage}
use Rattle.run_defs.specs.States.{control_message_for, core_stepped, as_step}
use Rattle.run_defs.specs.Steps.{does, ordered_by}
use Rattle.run_defs.specs.Conditions.{takes_control_messages}
use Rattle.run_defs.specs.Events.{landed_as}
use Rattle.run_defs.specs.UnitRuns.{OctetCoreStepped, put_of}
use Rattle.run_links.specs.Networks.{Octets, OctetState, OctetWorld, OctetCore, OctetOutcome}
use Rattle.world_steps.specs.declared.cause.Cause.{Cause}
use Rattle.world_steps.specs.declared.cause.Cause.TheVariants as causes

-- it puts these outputs, and this is its record then. It spends no counter; out of memory nothing is said.
abbrev pub CoreGives : OctetCoreStepped → OctetCore → Result (List Output) Cause → Type 0
CoreGives answer after (Ok outputs) = answer ≡ core_stepped (map put_of outputs) after
CoreGives answer after (Err causes.Memory) = Unit {0}
CoreGives answer after (Err (causes.Spent counter)) = ⊥
CoreGives answer after (Err (causes.Outstanding o)) = ⊥

-- a message is given to a unit, which is each node but the core
abbrev pub to_unit : OctetWorld → ℕ → ControlMessage Octets → NodeId → OctetState → OctetOutcome
to_unit world number l node s =
    if takes_control_messages s node
    then ordered_by world s (does world node (control_message_for l.from l.message) None (landed_as world number l) s)
    else as_step (Some node) (landed_as world number l s)
