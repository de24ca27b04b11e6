-- Internal: what a unit was asked, and what came of it.
use Rattle.std.specs.Prelude.{◌≡◌, ℕ, Bool, true, false, nat_lt, ◌+◌, List, [], ◌∷◌, length, map, Option, Some, Result, Ok, Err}
use Rattle.gnb_types.specs.declared.outputs.Output.{Output}
use Rattle.gnb_types.specs.declared.outputs.Output.TheVariants as outs
use Rattle.gnb_types.specs.declared.names.NodeId.{NodeId}
use Rattle.transport_defs.specs.Links.{most_control_messages}
use Rattle.run_defs.specs.States.{spent_counter, stops, as_step}
use Rattle.run_defs.specs.Steps.{is_done, is_held, is_refused, done_with, carried_out}
use Rattle.run_defs.specs.UnitRuns.{Records, OctetStepped, put_of}
use Rattle.run_links.specs.Networks.{OctetState, OctetWorld, OctetWithin, control_messages_in}
use Rattle.world_steps.specs.declared.cause.Cause.{Cause}
use Rattle.world_steps.specs.declared.cause.Cause.TheVariants as causes
use Rattle.world_steps.specs.declared.asked.Alone.{Alone}
use Rattle.world_steps.specs.declared.asked.Alone.TheVariants as alone
use Rattle.world_steps.specs.declared.asked.Asked.{Asked}
use Rattle.world_steps.specs.declared.asked.Asked.TheVariants as kinds

-- a unit of a run in this state is asked, and answers so
pub record Asking : Type 0 where
  pub world : OctetWorld
  pub state : OctetState
  pub node : NodeId
  pub stepped : OctetStepped

-- what comes of it, whatever the step takes first
abbrev pub ComesOf : Asking → Records → Result Asked Cause → Type 0
ComesOf a after (Ok (kinds.Does outputs)) =
    (nat_lt most_control_messages (length a.state.bag.control_messages + control_messages_in outputs) ≡ false)
    × ((taken : Option ℕ) (first : OctetState → OctetWithin) → done_with a.world a.node taken first a.state a.stepped
    ≡ is_done (as_step (Some a.node) (carried_out a.world a.node taken first (map put_of outputs) after a.state)))
ComesOf a after (Ok (kinds.Holds reason)) =
    (after ≡ a.state.units)
    × ((taken : Option ℕ) (first : OctetState → OctetWithin) → done_with a.world a.node taken first a.state a.stepped ≡ is_held reason)
ComesOf a after (Ok (kinds.Refuses reason)) =
    (after ≡ a.state.units)
    × ((taken : Option ℕ) (first : OctetState → OctetWithin) → done_with a.world a.node taken first a.state a.stepped ≡ is_refused reason)
ComesOf a after (Err (causes.Spent counter)) =
    (taken : Option ℕ) (first : OctetState → OctetWithin) → done_with a.world a.node taken first a.state a.stepped
    ≡ is_done (stops [] (spent_counter counter))
ComesOf a after (Err causes.Memory) = Unit {0}
ComesOf a after (Err (causes.Outstanding o)) = ⊥

-- ---- outputs, sorted: one that stands alone makes no step

abbrev pub alone_in : List Output → Alone
alone_in (outs.Held reason ∷ []) = alone.Holds reason
alone_in (outs.No reason ∷ []) = alone.Refuses reason
alone_in outputs = alone.Neither

abbrev pub sorted_by : List Output → Bool → Alone → Result Asked Cause
sorted_by outputs room (alone.Holds reason) = Ok (kinds.Holds reason)
sorted_by outputs room (alone.Refuses reason) = Ok (kinds.Refuses reason)
sorted_by outputs true alone.Neither = Ok (kinds.Does outputs)
sorted_by outputs false alone.Neither = Err (causes.Spent 1)

abbrev pub SortsTo : List Output → Bool → Result Asked Cause → Type 0
SortsTo outputs room result = result ≡ sorted_by outputs room (alone_in outputs)
