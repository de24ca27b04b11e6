-- Internal: the parts of turns, and what is left after one.
use Rattle.std.specs.Prelude.{ℕ, ◌==◌, Bool, true, false, if◌then◌else◌, List, [], ◌∷◌, map, Result, Ok, Err}
use Rattle.std.specs.List.{list_any}
use Rattle.gnb_types.specs.declared.names.UeId.{UeId}
use Rattle.gnb_types.specs.declared.names.BearerId.{BearerId}
use Rattle.scenario_text.specs.declared.line.Link.{Link}
use Rattle.scenario_text.specs.declared.line.OutLine.{OutLine}
use Rattle.scenario_text.specs.declared.line.OutLine.TheVariants as outs
use Rattle.run_defs.specs.States.{◌next◌, goes_on}
use Rattle.run_defs.specs.Steps.{bearer_numbers}
use Rattle.run_defs.specs.Conditions.{state_at}
use Rattle.run_defs.specs.Settling.{move_by}
use Rattle.run_links.specs.Networks.{OctetState, OctetWorld, OctetOutcome}
use Rattle.world_steps.specs.declared.cause.Cause.{Cause}
use Rattle.world_steps.specs.declared.asked.Moved.{Moved}
use Rattle.world_steps.specs.declared.asked.Moved.TheVariants as moves
use Rattle.world_steps.specs.Gives.{EventGives}

-- whatever the rest gives from here on, the whole gives from before
abbrev pub Continues : List OutLine → OctetOutcome → List OutLine → OctetOutcome → Type 0
Continues before whole middle rest = (t : OctetState) (lines : List OutLine) (result : Result (Unit {0}) Cause)
    → EventGives middle rest lines t result → EventGives before whole lines t result

-- ---- one part of a turn: the turn goes on, or it ends there, or the run stops

abbrev pub PartGives : List OutLine → OctetOutcome → (OctetState → OctetOutcome) → List OutLine → OctetState → Result Bool Cause → Type 0
PartGives before whole more lines t (Ok true) = Continues before whole lines (more t)
PartGives before whole more lines t (Ok false) = EventGives before whole lines t (Ok tt)
PartGives before whole more lines t (Err cause) = EventGives before whole lines t (Err cause)

-- an item was carried, or is held, or refused
abbrev pub is_made : Moved → Bool
is_made moves.Done = true
is_made moved = false

-- what is refused isn't printed
abbrev pub quiet_lines : Link → Moved → List OutLine
quiet_lines link (moves.Holds reason) = outs.Held link reason ∷ []
quiet_lines link moved = []

-- ---- lists of terminals and of bearers, in order

abbrev pub bearers_to : UeId → ℕ → List (UeId × BearerId)
bearers_to ue count = map (λ b. (ue, b)) (bearer_numbers 1 count)

-- those of a terminal that isn't gone
abbrev pub terminals_there : List UeId → UeId → List UeId
terminals_there gone ue = if list_any (λ u. u.0 == ue.0) gone then [] else ue ∷ []

abbrev pub bearers_there : List UeId → UeId → ℕ → List (UeId × BearerId)
bearers_there gone ue count = if list_any (λ u. u.0 == ue.0) gone then [] else bearers_to ue count

abbrev pub move_terminals : OctetWorld → List UeId → OctetState → OctetOutcome
move_terminals world [] s = goes_on s
move_terminals world (ue ∷ ues) s = move_by world ue s (state_at s ue) next move_terminals world ues
