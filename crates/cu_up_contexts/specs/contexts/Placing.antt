-- A terminal that is set up without messages, at a CU-UP.
use Rattle.std.specs.Prelude.{◌≡◌, ℕ, ◌+◌, ◌^◌, Bool, true, false, ◌&&◌, nat_le, Result, Ok, Err}
use Rattle.gnb_types.specs.declared.plans.Plan.{Plan}
use Rattle.unit_defs.specs.Ways.{teids_spent}
use Rattle.unit_defs.specs.Static.{cu_up_has_room, cu_up_has_teids, cu_up_placed}
use Rattle.unit_messages.specs.declared.steps.StepError.{StepError}
use Rattle.unit_messages.specs.declared.steps.StepError.TheVariants as steps
use Rattle.cu_up_contexts.specs.declared.contexts.placing.PlaceError.{PlaceError}
use Rattle.cu_up_contexts.specs.declared.contexts.placing.PlaceError.TheVariants as errors
use Rattle.cu_up_contexts.specs.contexts.Tables.{OctetUp}

-- the downlinks' TEIDs from the first one on, one for each bearer, are of 32 bits
abbrev pub downlinks_fit : ℕ → ℕ → Bool
downlinks_fit downlink bearers = nat_le (downlink + bearers) (2 ^ 32)

abbrev pub may_place : OctetUp → Plan → ℕ → Bool
may_place r plan downlink = cu_up_has_teids r plan && downlinks_fit downlink plan.bearers

-- where there are blocks: the terminal is placed where all TEIDs are left and fit; else their counter is spent
abbrev pub IsPut : OctetUp → Plan → ℕ → OctetUp → Result (Unit {0}) StepError → Type 0
IsPut r plan downlink after (Ok x) = (may_place r plan downlink ≡ true) × (after ≡ cu_up_placed r plan downlink)
IsPut r plan downlink after (Err (steps.Spent counter)) = (may_place r plan downlink ≡ false) × (counter ≡ teids_spent)
IsPut r plan downlink after (Err steps.Memory) = Unit {0}

-- the terminal is placed where there are blocks, and all TEIDs are left and fit; without blocks nothing changes; with them, where a TEID
-- isn't left or doesn't fit, their counter is spent; out of memory nothing is said of what is kept
abbrev pub IsPlaced : OctetUp → Plan → ℕ → OctetUp → Result (Unit {0}) PlaceError → Type 0
IsPlaced r plan downlink after (Ok x) = (cu_up_has_room r plan ≡ true) × IsPut r plan downlink after (Ok x)
IsPlaced r plan downlink after (Err errors.NoQuota) = (cu_up_has_room r plan ≡ false) × (after ≡ r)
IsPlaced r plan downlink after (Err (errors.Step error)) = (cu_up_has_room r plan ≡ true) × IsPut r plan downlink after (Err error)
