-- What a step comes to, by what came of the unit's answer.
use Rattle.std.proofs.Common.{◌≡◌, ℕ, Bool, not, List, Option, Some, None, refl, sym, ◌∙◌, ap, subst}
use Rattle.std.specs.Prelude.{map, Result, Ok, Err}
use Rattle.std.proofs.lemmas.List.{append-nil}
use Rattle.gnb_types.specs.declared.names.NodeId.{NodeId}
use Rattle.gnb_types.specs.declared.inputs.Input.{Input}
use Rattle.gnb_types.specs.declared.outputs.Output.{Output}
use Rattle.gnb_types.specs.declared.reasons.HeldReason.{HeldReason}
use Rattle.gnb_types.specs.declared.reasons.RefuseReason.{RefuseReason}
use Rattle.scenario_text.specs.declared.line.OutLine.{OutLine}
use Rattle.unit_messages.specs.declared.steps.StepError.{StepError}
use Rattle.unit_messages.specs.declared.steps.StepError.TheVariants as errors
use Rattle.unit_defs.specs.octet_defs.Codec.{Codec}
use Rattle.run_defs.specs.States.{Stop, spent_counter, as_step}
use Rattle.run_defs.specs.Steps.{is_done, does, carried_out, too_many_control_messages}
use Rattle.run_defs.specs.UnitRuns.{Records, Meaning, UnitAnswer, unit_gives, OctetGiven, input_of, put_of, stepped_by, unit_world}
use Rattle.run_units.specs.Steps.{StepGives, IsThere, LeavesAll}
use Rattle.run_links.specs.Networks.{OctetState, OctetWorld, OctetWithin, OctetOutcome}
use Rattle.run_links.specs.Told.{GoesTo}
use Rattle.world_steps.specs.declared.cause.Cause.{Cause}
use Rattle.world_steps.specs.declared.cause.Cause.TheVariants as causes
use Rattle.world_steps.specs.declared.asked.Asked.{Asked}
use Rattle.world_steps.specs.declared.asked.Asked.TheVariants as kinds
use Rattle.world_steps.specs.Gives.{Gives, EventGives, EventStops, cause_of, stop_by, finished}
use Rattle.world_steps.specs.declared.asked.Moved.TheVariants as moves
use Rattle.world_steps.specs.Moves.{OctetDone, DoneStops, StepOutcome, moved_by}
use Rattle.world_steps.specs.Asks.{Asking, ComesOf, SortsTo}
use Rattle.world_steps.proofs.Carried.{carried, as_event}
use Rattle.world_steps.proofs.Sorted.{comes_of}

-- ---- what comes of a unit's answer

pub comes_of_error : (world : OctetWorld) (s : OctetState) (node : NodeId) (answer : UnitAnswer) (after : Records) (e : StepError)
    → StepGives answer after (Err e)
    → ComesOf (record { world = world; state = s; node = node; stepped = stepped_by answer }) after (Err (cause_of e))
comes_of_error world s node answer after (errors.Spent counter) h =
    subst (λ (a : UnitAnswer). ComesOf (record { world = world; state = s; node = node; stepped = stepped_by a }) after (Err (causes.Spent counter)))
    (sym h) (λ taken first. refl)
comes_of_error world s node answer after errors.Memory h = tt

pub comes_of_outputs : (world : OctetWorld) (meaning : Meaning) (s : OctetState) (node : NodeId) (input : Input) (outputs : List Output)
    (after : Records) (room many : Bool) (result : Result Asked Cause) → LeavesAll meaning s.units → IsThere s.units node input
    → meaning s.units node input ≡ unit_gives outputs after → many ≡ too_many_control_messages world (map put_of outputs) s → room ≡ not many
    → SortsTo outputs room result
    → ComesOf (record { world = world; state = s; node = node; stepped = stepped_by (meaning s.units node input) }) after result
comes_of_outputs world meaning s node input outputs after room many result leaves there is few open_ sorts =
    subst (λ (a : UnitAnswer). ComesOf (record { world = world; state = s; node = node; stepped = stepped_by a }) after result) (sym is)
    (comes_of world s node outputs after room result (open_ ∙ ap not few) sorts
    (λ reason h. leaves.holding after node input reason there (is ∙ ap (λ (os : List Output). unit_gives os after) h))
    (λ reason h. leaves.refusing after node input reason there (is ∙ ap (λ (os : List Output). unit_gives os after) h)))

-- ---- a step of a run

module _ (codec : Codec) (answer : Meaning) (s : OctetState) (node : NodeId) (given : OctetGiven) (taken : Option ℕ)
    (first : OctetState → OctetWithin) where
  abbrev world : OctetWorld
  world = unit_world codec answer

  abbrev asking : Asking
  asking = record { world = world; state = s; node = node; stepped = stepped_by (answer s.units node (input_of given)) }

  pub does_step : (outputs : List Output) (after : Records) (t u : OctetState) (before middle lines : List OutLine) (result : Result (Unit {0}) Cause)
      → ComesOf asking after (Ok (kinds.Does outputs)) → GoesTo before (first (record s { units = after })) middle t
      → Gives middle (finished world node taken (map put_of outputs) t) lines u result
      → StepOutcome (does world node given taken first s) (record { state = s; lines = before }) (record { state = u; lines = lines }) (moved_by result)
  unfolding does
  does_step outputs after t u before middle lines result came goes_so gives_so =
      subst (λ (d : OctetDone). StepOutcome d (record { state = s; lines = before }) (record { state = u; lines = lines }) (moved_by result))
      (sym (came.1 taken first))
      (moved result (as_event (Some node) (carried_out world node taken first (map put_of outputs) after s) before lines u result
      (carried world node taken first (map put_of outputs) after s t u before middle lines result goes_so gives_so)))
    where
      stopped : (o : OctetOutcome) (why : Option Stop) → EventStops before o lines why
          → DoneStops (is_done o) (record { state = s; lines = before }) (record { state = u; lines = lines }) why
      stopped o None h = tt
      stopped o (Some why) h = h

      moved : (r : Result (Unit {0}) Cause)
          → EventGives before (as_step (Some node) (carried_out world node taken first (map put_of outputs) after s)) lines u r
          → StepOutcome (is_done (as_step (Some node) (carried_out world node taken first (map put_of outputs) after s)))
          (record { state = s; lines = before }) (record { state = u; lines = lines }) (moved_by r)
      moved (Ok done) h = h
      moved (Err cause) h = stopped (as_step (Some node) (carried_out world node taken first (map put_of outputs) after s)) (stop_by cause) h

  -- a unit that holds its input, or refuses the event; the records are those from before
  pub does_hold : (after : Records) (reason : HeldReason) (lines : List OutLine) → ComesOf asking after (Ok (kinds.Holds reason))
      → StepOutcome (does world node given taken first s) (record { state = s; lines = lines })
      (record { state = record s { units = after }; lines = lines }) (Ok (moves.Holds reason))
  unfolding does
  does_hold after reason lines came =
      subst (λ (d : OctetDone). StepOutcome d (record { state = s; lines = lines }) (record { state = record s { units = after }; lines = lines })
      (Ok (moves.Holds reason))) (sym (came.1 taken first))
      (refl, ap (λ (r : Records). record { state = record s { units = r }; lines = lines }) came.0)

  pub does_refuse : (after : Records) (reason : RefuseReason) (lines : List OutLine) → ComesOf asking after (Ok (kinds.Refuses reason))
      → StepOutcome (does world node given taken first s) (record { state = s; lines = lines })
      (record { state = record s { units = after }; lines = lines }) (Ok (moves.Refuses reason))
  unfolding does
  does_refuse after reason lines came =
      subst (λ (d : OctetDone). StepOutcome d (record { state = s; lines = lines }) (record { state = record s { units = after }; lines = lines })
      (Ok (moves.Refuses reason))) (sym (came.1 taken first))
      (refl, ap (λ (r : Records). record { state = record s { units = r }; lines = lines }) came.0)

  -- a unit that fails, before anything is taken
  pub does_fail : (after : Records) (u : OctetState) (lines : List OutLine) (cause : Cause) → ComesOf asking after (Err cause)
      → StepOutcome (does world node given taken first s) (record { state = s; lines = lines }) (record { state = u; lines = lines }) (Err cause)
  unfolding does
  does_fail after u lines (causes.Outstanding o) came = absurd came
  does_fail after u lines (causes.Spent counter) came =
      subst (λ (d : OctetDone). DoneStops d (record { state = s; lines = lines }) (record { state = u; lines = lines }) (Some (spent_counter counter)))
      (sym (came taken first)) (sym (append-nil lines), refl)
  does_fail after u lines causes.Memory came = tt
