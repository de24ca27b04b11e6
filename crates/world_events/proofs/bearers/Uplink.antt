-- A packet that is offered at a terminal: what comes of its answer.
use Rattle.std.proofs.Common.{◌≡◌, ◌+◌, nat_lt, false, List, length, map, None, sym, ap, ◌∙◌, subst}
use Rattle.std.specs.Prelude.{Result, Ok, Err}
use Rattle.std.proofs.lemmas.List.{append-nil}
use Rattle.gnb_types.specs.declared.names.Dir.TheVariants.{Ul}
use Rattle.gnb_types.specs.declared.names.NodeId.{NodeId}
use Rattle.gnb_types.specs.declared.names.NodeId.TheVariants.{Ue}
use Rattle.gnb_types.specs.declared.names.UeId.{UeId}
use Rattle.gnb_types.specs.declared.names.BearerId.{BearerId}
use Rattle.gnb_types.specs.declared.keys.EntityKey.{EntityKey}
use Rattle.gnb_types.specs.declared.inputs.Input.{Input}
use Rattle.gnb_types.specs.declared.inputs.Input.TheVariants as ins
use Rattle.gnb_types.specs.declared.outputs.Output.{Output}
use Rattle.gnb_types.specs.declared.reasons.HeldReason.{HeldReason}
use Rattle.gnb_types.specs.declared.reasons.RefuseReason.{RefuseReason}
use Rattle.scenario_text.specs.declared.line.OutLine.{OutLine}
use Rattle.transport_defs.specs.Links.{Bag, most_control_messages}
use Rattle.unit_defs.specs.octet_defs.Codec.{Codec}
use Rattle.run_defs.specs.States.{entity, offer_for, goes_on}
use Rattle.run_defs.specs.Events.{offered}
use Rattle.run_defs.specs.UnitRuns.{Records, Meaning, OctetGiven, unit_world, input_of, stepped_by, put_of}
use Rattle.run_links.specs.declared.network.Network.{Network}
use Rattle.run_links.specs.Networks.{Octets, OctetCore, OctetState, OctetWorld, OctetWithin, state_of, control_messages_in, offered_in}
use Rattle.world_steps.specs.declared.asked.Asked.{Asked}
use Rattle.world_steps.specs.declared.asked.Asked.TheVariants as kinds
use Rattle.world_steps.specs.declared.asked.Moved.TheVariants as moves
use Rattle.world_steps.specs.declared.cause.Cause.{Cause}
use Rattle.world_steps.specs.Asks.{Asking, ComesOf}
use Rattle.world_steps.specs.Gives.{Gives, finished}
use Rattle.world_steps.specs.Moves.{StepOutcome, moved_by}
use Rattle.world_steps.proofs.Does.{does_step, does_hold, does_refuse, does_fail}
use Rattle.world_events.specs.bearers.Places.{offer_done}

module _ (codec : Codec) (answer : Meaning) (ue : UeId) (bearer : BearerId) (packet : Octets) (s : OctetState) (input : Input) (after : Records)
    (is : input ≡ ins.Offer ue bearer packet) where
  abbrev world : OctetWorld
  world = unit_world codec answer

  abbrev node : NodeId
  node = Ue ue.0

  abbrev key : EntityKey
  key = entity ue bearer Ul

  abbrev first : OctetState → OctetWithin
  first t = goes_on (offered world key t)

  abbrev given : OctetGiven
  given = offer_for ue bearer packet

  abbrev asks : Input → Asking
  asks i = record { world = world; state = s; node = node; stepped = stepped_by (answer s.units node i) }

  came_so : (r : Result Asked Cause) → ComesOf (asks input) after r → ComesOf (asks (input_of given)) after r
  came_so r came = subst (λ (i : Input). ComesOf (asks i) after r) is came

  pub offer_fails : (t : OctetState) (lines : List OutLine) (cause : Cause) → ComesOf (asks input) after (Err cause)
      → StepOutcome (offer_done world ue bearer packet s) (record { state = s; lines = lines }) (record { state = t; lines = lines }) (Err cause)
  offer_fails t lines cause came = does_fail codec answer s node given None first after t lines cause (came_so (Err cause) came)

  pub offer_holds : (asked : Asked) (t : OctetState) (lines : List OutLine) (reason : HeldReason) → asked ≡ kinds.Holds reason
      → ComesOf (asks input) after (Ok asked) → record s { units = after } ≡ t
      → StepOutcome (offer_done world ue bearer packet s) (record { state = s; lines = lines }) (record { state = t; lines = lines }) (Ok (moves.Holds reason))
  offer_holds asked t lines reason holds came kept =
      subst (λ (x : OctetState). StepOutcome (offer_done world ue bearer packet s) (record { state = s; lines = lines }) (record { state = x; lines = lines })
      (Ok (moves.Holds reason))) kept
      (does_hold codec answer s node given None first after reason lines
      (came_so (Ok (kinds.Holds reason)) (subst (λ (a : Asked). ComesOf (asks input) after (Ok a)) holds came)))

  pub offer_is_refused : (asked : Asked) (t : OctetState) (lines : List OutLine) (reason : RefuseReason) → asked ≡ kinds.Refuses reason
      → ComesOf (asks input) after (Ok asked) → record s { units = after } ≡ t
      → StepOutcome (offer_done world ue bearer packet s) (record { state = s; lines = lines }) (record { state = t; lines = lines }) (Ok (moves.Refuses reason))
  offer_is_refused asked t lines reason refuses came kept =
      subst (λ (x : OctetState). StepOutcome (offer_done world ue bearer packet s) (record { state = s; lines = lines }) (record { state = x; lines = lines })
      (Ok (moves.Refuses reason))) kept
      (does_refuse codec answer s node given None first after reason lines
      (came_so (Ok (kinds.Refuses reason)) (subst (λ (a : Asked). ComesOf (asks input) after (Ok a)) refuses came)))

  -- there is room for its control messages
  pub offer_has_room : (asked : Asked) (outputs : List Output) (bag : Bag Octets) → asked ≡ kinds.Does outputs → ComesOf (asks input) after (Ok asked)
      → bag ≡ s.bag → nat_lt most_control_messages (length bag.control_messages + control_messages_in outputs) ≡ false
  offer_has_room asked outputs bag does came same =
      subst (λ (b : Bag Octets). nat_lt most_control_messages (length b.control_messages + control_messages_in outputs) ≡ false) (sym same)
      ((subst (λ (a : Asked). ComesOf (asks input) after (Ok a)) does came).0)

  -- it is counted as offered, and the step ends
  pub offer_steps : (asked : Asked) (outputs : List Output) (core : OctetCore) (before_it network : Network) (u : OctetState) (before lines : List OutLine)
      (result : Result (Unit {0}) Cause) → asked ≡ kinds.Does outputs → ComesOf (asks input) after (Ok asked)
      → record s { units = after } ≡ state_of after core before_it → network ≡ record before_it { books = offered_in before_it.books key }
      → Gives before (finished world node None (map put_of outputs) (state_of after core network)) lines u result
      → StepOutcome (offer_done world ue bearer packet s) (record { state = s; lines = before }) (record { state = u; lines = lines }) (moved_by result)
  offer_steps asked outputs core before_it network u before lines result does came kept counted gives =
      does_step codec answer s node given None first outputs after (state_of after core network) u before before lines result
      (came_so (Ok (kinds.Does outputs)) (subst (λ (a : Asked). ComesOf (asks input) after (Ok a)) does came))
      (sym (append-nil before), ap (offered world key) kept ∙ ap (state_of after core) (sym counted)) gives
