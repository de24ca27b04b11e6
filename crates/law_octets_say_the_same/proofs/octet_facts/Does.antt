-- A unit takes an item: where what it answers is in range, all is in range then.
use Rattle.std.proofs.Common.{◌≡◌, Bool, true, false, List, [], ◌∷◌, Some, refl}
use Rattle.std.specs.Prelude.{if◌then◌else◌}
use Rattle.gnb_types.specs.declared.plans.Plan.{Plan}
use Rattle.message_types.specs.declared.rrc.Token.{Token}
use Rattle.scenario_text.specs.declared.event.Event.{Event}
use Rattle.unit_defs.specs.Ways.{Message, Pdu, Load, held, no}
use Rattle.run_defs.specs.Written.{Written, WrittenStepped}
use Rattle.run_defs.specs.States.{stepped, step_spent, stops, as_step, spent_counter, sn_of}
use Rattle.run_defs.specs.Steps.{control_messages_spent, too_many_control_messages, Done, is_done, is_held, is_refused, carried_out, done_with, does}
use Rattle.run_defs.specs.Runs.{Reading, plain_world}
use Rattle.proof_run_steps.specs.steps.Causes.{Cause, by_attach, node_of, given_of, count_of, first_of, Stands}
use Rattle.proof_run_steps.specs.steps.IsOutcome.{IsDone}
use Rattle.proof_run_steps.specs.facts.Facts.{Hold, PutsFit}
use Rattle.proof_run_steps.specs.facts.UnitFacts.{OfUnits}
use Rattle.proof_run_steps.proofs.facts.Within.{HoldsWith}
use Rattle.proof_run_steps.proofs.facts.Steps.{act_holds}
use Rattle.proof_run_steps.proofs.facts.Runs.{step_holds}
use Rattle.law_downlink_scripts.proofs.downlink_only_facts.Views.{PlainState, PlainUnits}
use Rattle.law_downlink_scripts.proofs.downlink_only_facts.Moves.{PlainOutcome}
use Rattle.law_downlink_scripts.proofs.downlink_only_facts.Puts.{PlainPut}
use Rattle.law_octets_say_the_same.proofs.octet_facts.Facts.{Parts, ranges}

abbrev pub PlainCause : Type 0
PlainCause = Cause (Message Token) (Written (Load Pdu)) (Written Pdu)

abbrev pub PlainDone : Type 0
PlainDone = Done (Message Token) Token (Written (Load Pdu)) (Written Pdu)

-- unless it holds or refuses what it is given
abbrev pub Answers : Type 0 → PlainCause → WrittenStepped → Type 0
Answers Acks cause (stepped outputs units) = IsDone outputs → OfUnits Parts units × PutsFit (ranges Acks) (node_of cause) (count_of cause) outputs
Answers Acks cause (step_spent counter) = Unit {0}

module _ (Acks : Type 0) (reading : Reading) where
  abbrev pub Keeps : PlainOutcome → Type 0
  Keeps e = HoldsWith (plain_world reading) (ranges Acks) 0 e

  abbrev pub DoneKeeps : PlainDone → Type 0
  DoneKeeps (is_done outcome) = Keeps outcome
  DoneKeeps (is_held reason) = Unit {0}
  DoneKeeps (is_refused reason) = Unit {0}

  module _ (event : Event) (cause : PlainCause) (s : PlainState) (h : Hold (ranges Acks) s) (at : Stands event s cause)
      (none : (plan : Plan) → cause ≡ by_attach plan → ⊥) where
    if_few : (outputs : List PlainPut) (units : PlainUnits) → OfUnits Parts units × PutsFit (ranges Acks) (node_of cause) (count_of cause) outputs
        → (t : Bool) → too_many_control_messages (plain_world reading) outputs s ≡ t
        → DoneKeeps (if t then is_done (stops [] (spent_counter control_messages_spent))
        else is_done (as_step (Some (node_of cause)) (carried_out (plain_world reading) (node_of cause) (count_of cause) (first_of (plain_world reading) cause) outputs units s)))
    if_few outputs units fits true many = tt
    if_few outputs units fits false few =
        step_holds (plain_world reading) (ranges Acks) (Some (node_of cause)) _ (act_holds (plain_world reading) (ranges Acks) event cause outputs units s (λ plan is. absurd (none plan is)) h at fits few)

    by_answer : (answer : WrittenStepped) → Answers Acks cause answer
        → DoneKeeps (done_with (plain_world reading) (node_of cause) (count_of cause) (first_of (plain_world reading) cause) s answer)
    by_answer (stepped (held reason ∷ []) units) fits = tt
    by_answer (stepped (no reason ∷ []) units) fits = tt
    by_answer (stepped outputs units) fits = if_few outputs units (fits tt) (too_many_control_messages (plain_world reading) outputs s) refl
    by_answer (step_spent counter) fits = tt

    pub does_keeps : Answers Acks cause ((plain_world reading).answer (sn_of s) s.units (node_of cause) (given_of cause))
        → DoneKeeps (does (plain_world reading) (node_of cause) (given_of cause) (count_of cause) (first_of (plain_world reading) cause) s)
    unfolding does
    does_keeps fits = by_answer ((plain_world reading).answer (sn_of s) s.units (node_of cause) (given_of cause)) fits
