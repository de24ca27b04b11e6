-- An event whose steps are all one terminal's.
use Rattle.std.specs.Prelude.{◌≡◌, true, List, Some}
use Rattle.gnb_types.specs.declared.names.UeId.{UeId}
use Rattle.message_types.specs.declared.rrc.Token.{Token}
use Rattle.scenario_text.specs.declared.event.Event.{Event}
use Rattle.unit_defs.specs.Ways.{Message, Load, Pdu}
use Rattle.run_defs.specs.Written.{Written}
use Rattle.run_defs.specs.States.{State, goes, Outcome, RunStep}
use Rattle.run_defs.specs.Runs.{Reading, plain_world}
use Rattle.proof_run_steps.specs.steps.Causes.{node_of, given_of}
use Rattle.proof_run_steps.specs.steps.IsOutcome.{IsOutcome, stays, ends, then_made, sets_up, starts, acts, holds_item, holds_pdu, offers, core_takes, core_reads, lands, loses_control_message, loses_item, remarks}
use Rattle.law_terminals_are_isolated.specs.projections.Projections.{message_ue}
use Rattle.law_terminals_are_isolated.specs.run_projections.Units.{given_ue}

abbrev pub RunState : Type 0
RunState = State (Message Token) Token (Written (Load Pdu)) (Written Pdu)

abbrev pub RunOutcome : Type 0
RunOutcome = Outcome (Message Token) Token (Written (Load Pdu)) (Written Pdu)

-- Each unit acts with what is for the terminal; what the core puts, takes and is offered is the terminal's, and what is lost. Of a
-- terminal that is set up without messages nothing is said.
abbrev pub AllFor : (reading : Reading) (event : Event) (ue : UeId) (s : RunState) (e : RunOutcome) → IsOutcome (plain_world reading) event s e → Type 0
AllFor reading event ue s e (stays t) = Unit {0}
AllFor reading event ue s e (ends t why) = Unit {0}
AllFor reading event ue s e (then_made t d more p q) =
    AllFor reading event ue t d p
    × ((x : RunState) (told : List (RunStep (Message Token))) → d ≡ goes told x → AllFor reading event ue x (more x) (q x))
AllFor reading event ue s e (sets_up t plan is free room teids) = ⊥
AllFor reading event ue s e (starts t d p) = AllFor reading event ue (record t { started = true }) d p
AllFor reading event ue s e (acts t cause outputs units at is fine few) = given_ue reading t.units (node_of cause) (given_of cause) ≡ Some ue
AllFor reading event ue s e (holds_item t end reason) = Unit {0}
AllFor reading event ue s e (holds_pdu t key home reason) = Unit {0}
AllFor reading event ue s e (offers t who bearer p path is found) = who ≡ ue
AllFor reading event ue s e (core_takes t number l outputs core found at is few) = message_ue l.from l.message ≡ ue
AllFor reading event ue s e (core_reads t from octets outputs core is) = Unit {0}
AllFor reading event ue s e (lands t number l to found at) = Unit {0}
AllFor reading event ue s e (loses_control_message t number) = Unit {0}
AllFor reading event ue s e (loses_item t end item rest found) = item.key.ue ≡ ue
AllFor reading event ue s e (remarks t lines plain) = Unit {0}
