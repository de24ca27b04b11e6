-- A CU-CP and a CU-UP put nothing on a radio.
use Rattle.std.proofs.Common.{◌≡◌, ℕ, List, [], ◌∷◌, Option, refl, sym, subst}
use Rattle.std.specs.List.{AllByRecursion}
use Rattle.gnb_types.specs.declared.names.NodeId.{NodeId}
use Rattle.gnb_types.specs.declared.names.NodeId.TheVariants.{CuCp, CuUp as up_id, Du as du_id, Core, Ue}
use Rattle.gnb_types.specs.declared.names.UeId.{UeId}
use Rattle.gnb_types.specs.declared.names.BearerId.{BearerId}
use Rattle.gnb_types.specs.declared.keys.EntityKey.{EntityKey}
use Rattle.message_types.specs.declared.rrc.Token.{Token}
use Rattle.scenario_text.specs.declared.event.Event.{Event}
use Rattle.bearer_defs.specs.chain_defs.Models.{Model}
use Rattle.bearer_defs.specs.chain_defs.Orders.{ModelStep, run}
use Rattle.intervals.specs.Intervals.{HasNoGap}
use Rattle.unit_defs.specs.Ways.{Message, control, packet, radio, deliver, dropped, held, opened, closed, failed, no}
use Rattle.run_defs.specs.Lines.{RunLine}
use Rattle.run_defs.specs.Units.{Units}
use Rattle.run_defs.specs.States.{goes}
use Rattle.run_defs.specs.Steps.{carried_out}
use Rattle.run_defs.specs.Runs.{Reading, plain_world}
use Rattle.proof_run_steps.specs.steps.Causes.{node_of, count_of, first_of}
use Rattle.proof_run_steps.specs.facts.Facts.{PutsFit}
use Rattle.proof_run_steps.specs.facts.UnitFacts.{written_facts}
use Rattle.law_terminals_are_isolated.specs.own_steps.Own.{IsActed}
use Rattle.law_tunnels_are_owned.proofs.link_items.Names.{link_items}
use Rattle.proof_run_steps.specs.radio_steps.Radios.{on_air}
use Rattle.proof_bearer_refinement.specs.uplink_radio.Radio.{RunState, RunCause, IsFrameStep}
use Rattle.proof_bearer_refinement.specs.frame_other_units.Nodes.{IsNoTerminal}
use Rattle.proof_bearer_refinement.proofs.frame_other_units.Beside.{is_beside}
use Rattle.law_downlink_order.specs.received_packets.Received.{LeavesRadio}
use Rattle.law_downlink_order.specs.waiting_frames.Frames.{Fits}
use Rattle.proof_bearer_refinement.specs.downlink_radio.Down.{down_key, IsDown, Puts, packets_down, Stays}
use Rattle.proof_bearer_refinement.proofs.downlink_radio.Others.{keeps_down}
use Rattle.proof_bearer_refinement.specs.frame_downlink_radio.Nodes.{HasNoRadio}
use Rattle.proof_bearer_refinement.specs.runs.Fair.{IsFair}
use Rattle.proof_bearer_refinement.proofs.runs.Fair.{puts_fit}

-- ---- what is put

none_put : (key : EntityKey) (at : Option ℕ) (node : NodeId) (taken : Option ℕ) (outputs : Puts) → HasNoRadio node
    → PutsFit (written_facts link_items) node taken outputs → packets_down key at outputs ≡ []
unfolding packets_down
none_put key at node taken [] none fit = refl
none_put key at (CuCp g) taken (radio who q dir epoch tag pdu ∷ outputs) none fit = absurd fit.0.0
none_put key at (up_id g k) taken (radio who q dir epoch tag pdu ∷ outputs) none fit = absurd fit.0.0
none_put key at (du_id g k) taken (radio who q dir epoch tag pdu ∷ outputs) none fit = absurd none
none_put key at Core taken (radio who q dir epoch tag pdu ∷ outputs) none fit = absurd none
none_put key at (Ue k) taken (radio who q dir epoch tag pdu ∷ outputs) none fit = absurd none
none_put key at node taken (control to u m ∷ outputs) none fit = none_put key at node taken outputs none fit.1
none_put key at node taken (packet to teid u b dir tag load ∷ outputs) none fit = none_put key at node taken outputs none fit.1
none_put key at node taken (deliver u b dir count x ∷ outputs) none fit = none_put key at node taken outputs none fit.1
none_put key at node taken (dropped reason ∷ outputs) none fit = none_put key at node taken outputs none fit.1
none_put key at node taken (held reason ∷ outputs) none fit = none_put key at node taken outputs none fit.1
none_put key at node taken (opened teid ∷ outputs) none fit = none_put key at node taken outputs none fit.1
none_put key at node taken (closed teid ∷ outputs) none fit = none_put key at node taken outputs none fit.1
none_put key at node taken (failed u cause ∷ outputs) none fit = none_put key at node taken outputs none fit.1
none_put key at node taken (no reason ∷ outputs) none fit = none_put key at node taken outputs none fit.1

no_terminal : (node : NodeId) → HasNoRadio node → IsNoTerminal node
no_terminal (CuCp g) none = tt
no_terminal (up_id g k) none = tt
no_terminal (du_id g k) none = tt
no_terminal Core none = tt
no_terminal (Ue k) none = absurd none

module _ (reading : Reading) where
  pub keeps_it : (ue : UeId) (bearer : BearerId) (s t : RunState) (event : Event) (cause : RunCause) (outputs : Puts) (units : Units (Message Token) Token)
      (lines : List (RunLine (Message Token))) (d : Model) → IsFair s → IsActed (plain_world reading) event s cause outputs units
      → HasNoRadio (node_of cause) → Stays (down_key ue bearer) cause
      → carried_out (plain_world reading) (node_of cause) (count_of cause) (first_of (plain_world reading) cause) outputs units s ≡ goes lines t
      → IsDown (on_air s (down_key ue bearer)) d → (os : List ModelStep) → AllByRecursion LeavesRadio os → IsDown (on_air t (down_key ue bearer)) (run d os)
  unfolding HasNoGap
  keeps_it ue bearer s t event cause outputs units lines d fair acted none stays goes_on down os leave =
      let fit : PutsFit (written_facts link_items) (node_of cause) (count_of cause) outputs = puts_fit reading s event cause outputs units fair acted in
      let nothing : packets_down (down_key ue bearer) (on_air s (down_key ue bearer)).epoch outputs ≡ [] =
      none_put (down_key ue bearer) (on_air s (down_key ue bearer)).epoch (node_of cause) (count_of cause) outputs none fit in
      let beside : IsFrameStep reading s t ue bearer cause outputs units =
      is_beside reading ue bearer s t event cause outputs units lines fair acted (no_terminal (node_of cause) none) goes_on in
      keeps_down reading event s t ue bearer d down cause outputs units acted.stands stays beside os leave
      (subst (λ (more : List (ℕ × List ℕ)). Fits (run d os) down.waits more) (sym nothing) (record { put = tt; no_gap = tt }))
