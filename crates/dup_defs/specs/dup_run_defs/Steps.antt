-- The steps of a run, each with what it prints, and the run of a whole script up to the step in which it ends.
use Rattle.std.specs.Prelude.{ℕ, zero, suc, ◌+◌, ◌*◌, Bool, true, false, not, ◌&&◌, nat_lt, fold, if◌then◌else◌, List, [], ◌∷◌, ◌++◌, length, Option, Some, None}
use Rattle.gnb_types.specs.declared.names.SnBits.{SnBits}
use Rattle.pdcp.specs.Numbers.{half}
use Rattle.dup_defs.specs.declared.types.leg.Leg.{Leg}
use Rattle.dup_defs.specs.declared.types.leg.Leg.TheVariants as legs
use Rattle.dup_defs.specs.declared.types.event.DupEvent.{DupEvent}
use Rattle.dup_defs.specs.declared.types.event.DupEvent.TheVariants as events
use Rattle.dup_defs.specs.declared.types.line.DupLine.{DupLine}
use Rattle.dup_defs.specs.declared.types.line.DupLine.TheVariants as lines
use Rattle.dup_defs.specs.declared.types.stop.DupEnd.{DupEnd}
use Rattle.dup_defs.specs.declared.types.stop.DupEnd.TheVariants as ends
use Rattle.dup_defs.specs.Senders.{is_up}
use Rattle.dup_defs.specs.dup_run_defs.Run.{DupRun, DupOutcome, LegItems, new_run, items_of, goes_on, counts_spent, offers, carry, confirm, where_up, fails, mends, changes_mode, asked, size_of, holds_nothing, span}

-- what is printed, and the run that goes on; or why it has ended
pub data DupStep : Type 0 where
  passes : List DupLine → DupRun → DupStep
  stops : List DupLine → DupEnd → DupStep

-- it has ended where more than half a space of COUNTs is outstanding, or where the last COUNT was given
abbrev pub step_of : SnBits → DupOutcome → DupStep
step_of sn (goes_on printed after) =
    if nat_lt (half sn) (span after) then stops (printed ++ lines.Outstanding (span after) (half sn) ∷ []) (ends.Outstanding (span after) (half sn))
    else passes printed after
step_of sn counts_spent = stops [] ends.CountsSpent

abbrev pub printed_first : List DupLine → DupStep → DupStep
printed_first printed (passes more after) = passes (printed ++ more) after
printed_first printed (stops more end) = stops (printed ++ more) end

infixl 3 ◌and◌
abbrev pub ◌and◌ : DupStep → (DupRun → DupStep) → DupStep
(passes printed after) and more = printed_first printed (more after)
(stops printed end) and more = stops printed end

-- ---- draining: round after round, on the first leg and then on the second, each where it is up: all is carried, then all that was
-- carried is confirmed

-- a step for each item of a list
abbrev pub for_each : {X : Type 0} → (DupRun → DupStep) → List X → DupRun → DupStep
for_each step [] s = passes [] s
for_each step (x ∷ xs) s = step s and for_each step xs

module _ (sn : SnBits) (quota : ℕ) where
  abbrev pub carry_all : Leg → DupRun → DupStep
  carry_all leg s = for_each (λ t. step_of sn (carry sn leg t)) (items_of leg s).coming s

  abbrev pub confirm_all : Leg → DupRun → DupStep
  confirm_all leg s = for_each (λ t. step_of sn (confirm sn quota leg t)) (items_of leg s).carried s

  abbrev pub turn : Leg → DupRun → DupStep
  turn leg s = if is_up s.entity leg then carry_all leg s and confirm_all leg else passes [] s

  abbrev pub round : DupRun → DupStep
  round s = turn legs.First s and turn legs.Second

  abbrev pub is_empty : DupRun → Bool
  is_empty s = holds_nothing s.first && holds_nothing s.second

  abbrev pub rounds : ℕ → DupRun → DupStep
  rounds zero s = passes [] s
  rounds (suc left) s = if is_empty s then passes [] s else (round s and rounds left)

  -- Each round carries or confirms an item; a packet that waits comes to be two items at most. So there are no more rounds than this.
  abbrev pub work : DupRun → ℕ
  work s = 5 * length s.entity.waiting + 2 * size_of s.first + 2 * size_of s.second

  unfoldable pub drains : DupRun → DupStep
  drains s = rounds (work s) s

  -- ---- each event

  unfoldable pub steps : DupEvent → DupRun → DupStep
  steps (events.Offer packet) s = step_of sn (offers sn quota packet s)
  steps (events.Carry leg) s = step_of sn (where_up leg s (carry sn leg s))
  steps (events.Confirm leg) s = step_of sn (where_up leg s (confirm sn quota leg s))
  steps (events.Fail leg) s = step_of sn (fails sn leg s)
  steps (events.Mend leg) s = step_of sn (mends sn leg s)
  steps (events.SetMode mode) s = step_of sn (changes_mode sn mode s)
  steps events.Drain s = drains s
  steps events.Ask s = step_of sn (asked s)

-- ---- a whole script

pub record DupHappening : Type 0 where
  pub event : DupEvent
  pub printed : List DupLine

-- what happened, in order; the run now; and why it has ended, if it has
pub record DupScript : Type 0 where
  pub happened : List DupHappening
  pub now : DupRun
  pub ended : Option DupEnd

abbrev pub new_script : DupScript
new_script = record { happened = []; now = new_run; ended = None }

abbrev pub with_step : DupScript → DupEvent → DupStep → DupScript
with_step script event (passes printed after) =
    record script { happened = script.happened ++ record { event = event; printed = printed } ∷ []; now = after }
with_step script event (stops printed end) =
    record script { happened = script.happened ++ record { event = event; printed = printed } ∷ []; ended = Some end }

-- after its end nothing happens
abbrev pub with_event_at : SnBits → ℕ → DupScript → DupEvent → Option DupEnd → DupScript
with_event_at sn quota script event None = with_step script event (steps sn quota event script.now)
with_event_at sn quota script event (Some end) = script

abbrev pub with_event : SnBits → ℕ → DupScript → DupEvent → DupScript
with_event sn quota script event = with_event_at sn quota script event script.ended

unfoldable pub script_of : SnBits → ℕ → List DupEvent → DupScript
script_of sn quota events = fold (with_event sn quota) new_script events
