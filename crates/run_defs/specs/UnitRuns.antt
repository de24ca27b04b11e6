-- `UnitRun`: the run of units of any meaning. Links hold octets, each unit is given octets, and beside an item stands the COUNT that its
-- tag told. The core is the run's own. And `tables`: the meaning that the procedure tables give, after decoding.
use Rattle.std.specs.Prelude.{ℕ, Bool, true, false, List, [], ◌∷◌, map, Option, Some, None, is_some, Result, Ok, Err}
use Rattle.gnb_types.specs.declared.names.NodeId.{NodeId}
use Rattle.gnb_types.specs.declared.names.NodeId.TheVariants.{CuCp, CuUp, Du, Core, Ue}
use Rattle.gnb_types.specs.declared.inputs.Input.{Input}
use Rattle.gnb_types.specs.declared.inputs.Input.TheVariants as ins
use Rattle.gnb_types.specs.declared.outputs.Output.{Output}
use Rattle.gnb_types.specs.declared.outputs.Output.TheVariants as outs
use Rattle.gnb_types.specs.declared.reasons.DropReason.{DropReason}
use Rattle.gnb_types.specs.declared.reasons.DropReason.TheVariants.{Unexpected}
use Rattle.link_defs.specs.Layouts.{forwarded_fresh}
use Rattle.unit_defs.specs.Ways.{Message, Put, control, packet, radio, deliver, dropped, held, opened, closed, failed, no, gives, spent}
use Rattle.unit_defs.specs.Ue.{UeNode}
use Rattle.unit_defs.specs.Core.{CoreRecord}
use Rattle.unit_defs.specs.octet_defs.Codec.{Codec}
use Rattle.unit_defs.specs.octet_defs.Writing.{outputs_of}
use Rattle.unit_defs.specs.octet_defs.Units.{OctetAnswer, cu_cp_steps, cu_up_steps, du_steps, ue_steps, core_steps}
use Rattle.scenario_text.specs.declared.event.Event.{Event}
use Rattle.run_defs.specs.Units.{Units, cu_cp_of, with_cu_cp, cu_up_of, with_cu_up, du_of, with_du, ue_of, with_ue}
use Rattle.run_defs.specs.States.{Given, control_message_for, item_for, carried_for, confirmed_for, offer_for, tick_for, order_for, octets_from, octets_on, Stepped, stepped, step_spent, CoreStepped, core_stepped, World}
use Rattle.run_defs.specs.Runs.{Reading, Transcript, run, link_at, is_item_on}

-- ---- what units are: records, which hold octets, and what a unit of them answers

abbrev pub Records : Type 0
Records = Units (List ℕ) (List ℕ)

-- outputs and all records then; or the number of the counter that is spent
pub data UnitAnswer : Type 0 where
  unit_gives : (outputs : List Output) (after : Records) → UnitAnswer
  unit_spent : (counter : ℕ) → UnitAnswer

-- any function
abbrev pub Meaning : Type 0
Meaning = Records → NodeId → Input → UnitAnswer

-- ---- what a unit is given, and what it puts out, in a run

abbrev pub OctetGiven : Type 0
OctetGiven = Given (List ℕ) (List ℕ) (List ℕ)

abbrev pub OctetPut : Type 0
OctetPut = Put (List ℕ) (List ℕ) (List ℕ)

abbrev pub OctetStepped : Type 0
OctetStepped = Stepped (List ℕ) (List ℕ) (List ℕ) (List ℕ)

abbrev pub OctetCoreStepped : Type 0
OctetCoreStepped = CoreStepped (List ℕ) (List ℕ) (List ℕ) (List ℕ)

abbrev pub input_of : OctetGiven → Input
input_of (control_message_for from octets) = ins.Control from octets
input_of (item_for teid item) = ins.Packet teid item.content
input_of (carried_for item) = ins.Radio item.key.ue item.key.bearer item.key.dir item.content
input_of (confirmed_for item) = ins.Confirm item.key.ue item.key.bearer item.key.dir item.content
input_of (offer_for ue bearer p) = ins.Offer ue bearer p
input_of tick_for = ins.Tick
input_of (order_for order) = ins.Order order
input_of (octets_from from octets) = ins.Control from octets
input_of (octets_on teid octets) = ins.Packet teid octets

abbrev pub put_of : Output → OctetPut
put_of (outs.Control to ue octets) = control to ue octets
put_of (outs.Packet to teid ue bearer dir tag octets) = packet to teid ue bearer dir tag octets
put_of (outs.Radio ue bearer dir epoch tag octets) = radio ue bearer dir epoch tag octets
put_of (outs.Deliver ue bearer dir count p) = deliver ue bearer dir count p
put_of (outs.Drop reason) = dropped reason
put_of (outs.Held reason) = held reason
put_of (outs.Opened teid) = opened teid
put_of (outs.Closed teid) = closed teid
put_of (outs.FailedUe ue cause) = failed ue cause
put_of (outs.No reason) = no reason

abbrev pub stepped_by : UnitAnswer → OctetStepped
stepped_by (unit_gives outputs after) = stepped (map put_of outputs) after
stepped_by (unit_spent counter) = step_spent counter

module _ (codec : Codec) where
  -- ---- the core takes control messages, and nothing else is ever given to it

  abbrev pub core_done : CoreRecord (List ℕ) (List ℕ) → OctetAnswer (CoreRecord (List ℕ) (List ℕ)) → OctetCoreStepped
  core_done r (gives outputs after) = core_stepped (map put_of (outputs_of outputs)) after
  core_done r (spent counter) = core_stepped [] r

  abbrev pub core_answer : CoreRecord (List ℕ) (List ℕ) → OctetGiven → OctetCoreStepped
  core_answer r (control_message_for from octets) = core_done r (core_steps codec r from octets)
  core_answer r (octets_from from octets) = core_done r (core_steps codec r from octets)
  core_answer r given = core_stepped (dropped Unexpected ∷ []) r

  -- ---- what octets from outside are

  abbrev pub fault_in : Result (Message (List ℕ)) DropReason → Option DropReason
  fault_in (Ok message) = None
  fault_in (Err reason) = Some reason

  abbrev pub reading_of : Reading
  reading_of = record {
    message_fault = λ from to octets. fault_in (codec.read from to octets);
    is_item = λ link sn octets. is_some (codec.read_item link sn octets);
  }

  abbrev pub is_read : Result (Message (List ℕ)) DropReason → Bool
  is_read (Ok message) = true
  is_read (Err reason) = false

  -- ---- the run of units of any meaning

  abbrev pub unit_world : Meaning → World (List ℕ) (List ℕ) (List ℕ) (List ℕ)
  unit_world answer = record {
    answer = λ lengths records node given. stepped_by (answer records node (input_of given));
    core_answer = λ lengths r given. core_answer r given;
    lay_n3 = forwarded_fresh;
    is_message = λ from to octets. is_read (codec.read from to octets);
    is_item = λ records end octets. is_item_on (λ link sn o. is_some (codec.read_item link sn o)) (link_at records end) octets;
    show_item = λ octets. octets;
    show_pdu = λ octets. octets;
  }

  unfoldable pub UnitRun : Meaning → List Event → Transcript (List ℕ)
  UnitRun answer events = run (unit_world answer) events

  -- ---- the meaning that the procedure tables give

  abbrev pub answered_with : {R : Type 0} → (R → Records) → OctetAnswer R → UnitAnswer
  answered_with back (gives outputs after) = unit_gives (outputs_of outputs) (back after)
  answered_with back (spent counter) = unit_spent counter

  abbrev pub ue_answers : Records → ℕ → Input → Option UeNode → UnitAnswer
  ue_answers records ue input None = unit_gives [] records
  ue_answers records ue input (Some u) = answered_with (with_ue records (record { 0 = ue })) (ue_steps codec u input)

  unfoldable pub tables : Meaning
  tables records (CuCp gnb) input = answered_with (with_cu_cp records gnb) (cu_cp_steps codec (cu_cp_of records gnb) input)
  tables records (CuUp gnb number) input = answered_with (with_cu_up records gnb number) (cu_up_steps codec (cu_up_of records gnb number) input)
  tables records (Du gnb number) input = answered_with (with_du records gnb number) (du_steps codec (du_of records gnb number) input)
  tables records (Ue ue) input = ue_answers records ue input (ue_of records (record { 0 = ue }))
  tables records Core input = unit_gives [] records
