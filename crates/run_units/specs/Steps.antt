-- What the calls of units give, against what their meaning says.
use Rattle.std.specs.Prelude.{◌≡◌, Bool, true, false, ◌&&◌, List, [], ◌∷◌, Result, Ok, Err, is_some}
use Rattle.gnb_types.specs.declared.names.NodeId.{NodeId}
use Rattle.gnb_types.specs.declared.plans.Plan.{Plan}
use Rattle.gnb_types.specs.declared.names.NodeId.TheVariants.{CuUp}
use Rattle.gnb_types.specs.Orders.{node_cmp}
use Rattle.gnb_types.specs.declared.inputs.Order.{Order}
use Rattle.gnb_types.specs.declared.inputs.Order.TheVariants as orders
use Rattle.gnb_types.specs.declared.inputs.Input.{Input}
use Rattle.gnb_types.specs.declared.inputs.Input.TheVariants as ins
use Rattle.gnb_types.specs.declared.outputs.Output.{Output}
use Rattle.gnb_types.specs.declared.outputs.Output.TheVariants as outs
use Rattle.gnb_types.specs.declared.reasons.HeldReason.{HeldReason}
use Rattle.gnb_types.specs.declared.reasons.RefuseReason.{RefuseReason}
use Rattle.tables.specs.Tables.{find}
use Rattle.unit_defs.specs.Static.{cu_up_has_room, cu_up_has_teids, du_has_teids}
use Rattle.unit_defs.specs.Ways.{teids_spent}
use Rattle.run_defs.specs.Units.{cu_up_of, du_of}
use Rattle.run_defs.specs.Conditions.{units_placed, all_set_up}
use Rattle.run_defs.specs.UnitRuns.{Records, Meaning, UnitAnswer, unit_gives, unit_spent}
use Rattle.unit_messages.specs.declared.steps.StepError.{StepError}
use Rattle.unit_messages.specs.declared.steps.StepError.TheVariants as errors
use Rattle.cu_up_contexts.specs.declared.contexts.placing.PlaceError.{PlaceError}
use Rattle.cu_up_contexts.specs.declared.contexts.placing.PlaceError.TheVariants as places

-- this answer was given: these outputs, and these are the records then; or the spent counter. Out of memory nothing is said.
abbrev pub StepGives : UnitAnswer → Records → Result (List Output) StepError → Type 0
StepGives answer after (Ok outputs) = answer ≡ unit_gives outputs after
StepGives answer after (Err (errors.Spent counter)) = answer ≡ unit_spent counter
StepGives answer after (Err errors.Memory) = Unit {0}

-- ---- A CU-UP that is polled is there: it has a record. One that has none would get one with its answer. Whatever else a unit is given may be
-- anything.

abbrev pub HasRecord : Records → NodeId → Type 0
HasRecord r (CuUp gnb number) = is_some (find node_cmp r.ups (CuUp gnb number)) ≡ true
HasRecord r node = Unit {0}

abbrev pub IsOrderedThere : Records → NodeId → Order → Type 0
IsOrderedThere r node (orders.Poll ue bearer) = HasRecord r node
IsOrderedThere r node order = Unit {0}

abbrev pub IsThere : Records → NodeId → Input → Type 0
IsThere r node (ins.Order order) = IsOrderedThere r node order
IsThere r node input = Unit {0}

-- where a unit holds what it is given, or refuses an event, that is its only output and nothing changes
pub record LeavesAll (answer : Meaning) (r : Records) : Type 0 where
  pub holding : (after : Records) (node : NodeId) (input : Input) (reason : HeldReason) → IsThere r node input
      → answer r node input ≡ unit_gives (outs.Held reason ∷ []) after → after ≡ r
  pub refusing : (after : Records) (node : NodeId) (input : Input) (reason : RefuseReason) → IsThere r node input
      → answer r node input ≡ unit_gives (outs.No reason ∷ []) after → after ≡ r

-- a terminal is set up without messages: where there are blocks and TEIDs it is placed; without blocks nothing changes; else the counter
-- of TEIDs is spent. Out of memory nothing is said.
abbrev pub has_room : Plan → Records → Bool
has_room plan r = cu_up_has_room (cu_up_of r plan.gnb plan.up) plan

abbrev pub has_teids : Plan → Records → Bool
has_teids plan r = cu_up_has_teids (cu_up_of r plan.gnb plan.up) plan && du_has_teids (du_of r plan.gnb plan.du) plan

abbrev pub PlacingGives : Plan → Records → Records → Result (Unit {0}) PlaceError → Type 0
PlacingGives plan old new (Ok done) = (has_room plan old ≡ true) × (has_teids plan old ≡ true) × (new ≡ all_set_up (units_placed plan old))
PlacingGives plan old new (Err places.NoQuota) = (has_room plan old ≡ false) × (new ≡ old)
PlacingGives plan old new (Err (places.Step (errors.Spent counter))) =
    (has_room plan old ≡ true) × (has_teids plan old ≡ false) × (counter ≡ teids_spent)
PlacingGives plan old new (Err (places.Step errors.Memory)) = Unit {0}
