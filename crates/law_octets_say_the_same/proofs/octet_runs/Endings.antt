-- How events end, and what follows, over octets.
use Rattle.std.proofs.Common.{◌≡◌, ℕ, Bool, true, false, List, map, Option, refl, sym, ap, ◌∙◌}
use Rattle.std.specs.Prelude.{if◌then◌else◌}
use Rattle.std.proofs.lemmas.List.{map-append}
use Rattle.gnb_types.specs.declared.names.NodeId.{NodeId}
use Rattle.message_types.specs.declared.rrc.Token.{Token}
use Rattle.unit_defs.specs.Ways.{Message, Pdu, Load}
use Rattle.unit_defs.specs.octet_defs.Codec.{Codec}
use Rattle.unit_defs.specs.octet_defs.Spelling.{spelled}
use Rattle.run_defs.specs.Lines.{RunLine, put_item, got_item, put_message, got_message, delivers, lost_items, lost_message, drops_input, held_at, procedure_failed, is_quiet, is_busy, has_settled, has_not_settled, was_refused}
use Rattle.run_defs.specs.Written.{Written}
use Rattle.run_defs.specs.States.{RunStep, Ending, goes, stops, told_before, ◌next◌, as_step, step_of}
use Rattle.run_defs.specs.Steps.{Done, is_done, is_held, is_refused}
use Rattle.law_octets_say_the_same.specs.octet_runs.Again.{PlainState, OctetState, control_message_again, state_again}

abbrev pub PlainLine : Type 0
PlainLine = RunLine (Message Token)

abbrev pub OctetLine : Type 0
OctetLine = RunLine (List ℕ)

abbrev pub PlainWithin : Type 0
PlainWithin = Ending PlainLine PlainState

abbrev pub OctetWithin : Type 0
OctetWithin = Ending OctetLine OctetState

abbrev pub PlainOutcome : Type 0
PlainOutcome = Ending (RunStep (Message Token)) PlainState

abbrev pub OctetOutcome : Type 0
OctetOutcome = Ending (RunStep (List ℕ)) OctetState

abbrev pub PlainDone : Type 0
PlainDone = Done (Message Token) Token (Written (Load Pdu)) (Written Pdu)

abbrev pub OctetDone : Type 0
OctetDone = Done (List ℕ) (List ℕ) (List ℕ) (List ℕ)

-- a choice
pub choice : {A B : Type 0} (f : A → B) (t : Bool) (a b : A) (x y : B) → x ≡ f a → y ≡ f b → (if t then x else y) ≡ f (if t then a else b)
choice f true a b x y e g = e
choice f false a b x y e g = g

module _ (codec : Codec) where
  abbrev pub encode : Message Token → List ℕ
  encode = spelled codec

  abbrev pub over : PlainState → OctetState
  over s = state_again encode s

  abbrev pub line_again : PlainLine → OctetLine
  line_again (put_item link item) = put_item link item
  line_again (got_item link item) = got_item link item
  line_again (put_message number control_message) = put_message number (control_message_again encode control_message)
  line_again (got_message number control_message) = got_message number (control_message_again encode control_message)
  line_again (delivers key count packet) = delivers key count packet
  line_again (lost_items link items) = lost_items link items
  line_again (lost_message number) = lost_message number
  line_again (drops_input node reason) = drops_input node reason
  line_again (held_at link reason) = held_at link reason
  line_again (procedure_failed node ue cause) = procedure_failed node ue cause
  line_again (is_quiet ue bearer downlink uplink) = is_quiet ue bearer downlink uplink
  line_again (is_busy ue bearer) = is_busy ue bearer
  line_again (has_settled rounds) = has_settled rounds
  line_again (has_not_settled rounds) = has_not_settled rounds
  line_again (was_refused reason) = was_refused reason

  abbrev pub step_again : RunStep (Message Token) → RunStep (List ℕ)
  step_again step = step_of step.actor (map line_again step.lines)

  -- of lines, or of steps
  abbrev pub ending_again : {X Y : Type 0} → (X → Y) → Ending X PlainState → Ending Y OctetState
  ending_again f (goes told after) = goes (map f told) (over after)
  ending_again f (stops told why) = stops (map f told) why

  abbrev pub within_again : PlainWithin → OctetWithin
  within_again e = ending_again line_again e

  abbrev pub outcome_again : PlainOutcome → OctetOutcome
  outcome_again e = ending_again step_again e

  abbrev pub done_again : PlainDone → OctetDone
  done_again (is_done outcome) = is_done (outcome_again outcome)
  done_again (is_held reason) = is_held reason
  done_again (is_refused reason) = is_refused reason

  told_again : {X Y : Type 0} (f : X → Y) (told : List X) (e : Ending X PlainState)
      → told_before (map f told) (ending_again f e) ≡ ending_again f (told_before told e)
  told_again f told (goes more after) = ap (λ ys. goes ys (over after)) (sym (map-append f told more))
  told_again f told (stops more why) = ap (λ ys. stops ys why) (sym (map-append f told more))

  pub next_again : {X Y : Type 0} (f : X → Y) (e : Ending X PlainState) (more : PlainState → Ending X PlainState) (there : OctetState → Ending Y OctetState)
      → ((s : PlainState) → there (over s) ≡ ending_again f (more s)) → (ending_again f e next there) ≡ ending_again f (e next more)
  next_again f (goes told after) more there same = ap (told_before (map f told)) (same after) ∙ told_again f told (more after)
  next_again f (stops told why) more there same = refl

  pub as_step_again : (actor : Option NodeId) (e : PlainWithin) → as_step actor (within_again e) ≡ outcome_again (as_step actor e)
  as_step_again actor (goes lines s) = refl
  as_step_again actor (stops lines why) = refl
