-- A terminal that is set up without messages, at a DU.
use Rattle.std.specs.Prelude.{◌≡◌, ℕ, ◌+◌, ◌*◌, ◌^◌, Bool, true, false, ◌&&◌, nat_le, Result, Ok, Err}
use Rattle.gnb_types.specs.declared.plans.Plan.{Plan}
use Rattle.unit_defs.specs.Ways.{teids_spent}
use Rattle.unit_defs.specs.Static.{du_has_teids, du_placed}
use Rattle.unit_messages.specs.declared.steps.StepError.{StepError}
use Rattle.unit_messages.specs.declared.steps.StepError.TheVariants as errors
use Rattle.du_contexts.specs.Tables.{OctetDu}

-- every second TEID from the first uplink on, one for each bearer, is one of 32 bits
abbrev pub uplinks_fit : ℕ → ℕ → Bool
uplinks_fit uplink bearers = nat_le (uplink + 2 * bearers) (2 ^ 32 + 1)

abbrev pub may_place : OctetDu → Plan → ℕ → Bool
may_place r plan uplink = du_has_teids r plan && uplinks_fit uplink plan.bearers

-- the terminal is placed where all TEIDs are left and fit; else the counter of TEIDs is spent; out of memory nothing is said
abbrev pub IsPlaced : OctetDu → Plan → ℕ → OctetDu → Result (Unit {0}) StepError → Type 0
IsPlaced r plan uplink after (Ok x) = (may_place r plan uplink ≡ true) × (after ≡ du_placed r plan uplink)
IsPlaced r plan uplink after (Err (errors.Spent counter)) = (may_place r plan uplink ≡ false) × (counter ≡ teids_spent)
IsPlaced r plan uplink after (Err errors.Memory) = Unit {0}
