-- What was carried on a terminal's radio down and isn't confirmed to the DU was received, after each step of a run.
use Rattle.std.proofs.Common.{◌≡◌, ℕ, true, false, List, [], ◌∷◌, map, None, sym, ap, subst, ◌∙◌}
use Rattle.std.specs.Ordering.{is_eq, eq_by_cmp}
use Rattle.std.specs.Cmp.{Equal-is, tied_itself}
use Rattle.gnb_types.specs.declared.names.NodeId.{NodeId}
use Rattle.gnb_types.specs.declared.names.NodeId.TheVariants.{Core, Ue}
use Rattle.gnb_types.specs.declared.names.Dir.TheVariants.{Dl}
use Rattle.gnb_types.specs.declared.names.UeId.{UeId}
use Rattle.gnb_types.specs.declared.names.BearerId.{BearerId}
use Rattle.gnb_types.specs.declared.keys.EntityKey.{EntityKey}
use Rattle.gnb_types.specs.declared.outputs.Tag.TheVariants.{Absent}
use Rattle.gnb_types.specs.Orders.{ue_cmp, entity_cmp}
use Rattle.gnb_types.proofs.OrderLemmas.{ue_total, entity_exact}
use Rattle.message_types.specs.declared.rrc.Token.{Token}
use Rattle.unit_defs.specs.Ways.{Message, Pdu, fresh, Output, packet}
use Rattle.unit_defs.specs.Messages.{teid_of}
use Rattle.unit_defs.specs.Core.{CorePath, CoreRecord}
use Rattle.transport_defs.specs.declared.ControlMessage.{ControlMessage}
use Rattle.transport_defs.specs.Links.{landed}
use Rattle.run_defs.specs.Lines.{got_message}
use Rattle.run_defs.specs.Written.{written_put}
use Rattle.run_defs.specs.States.{entity, radio_of, sn_of, ◌next◌}
use Rattle.run_defs.specs.Steps.{check_spans, put_on_tunnel, put_out_all}
use Rattle.run_defs.specs.Conditions.{receiver_of}
use Rattle.run_defs.specs.Events.{offered}
use Rattle.run_defs.specs.Runs.{Reading, plain_world}
use Rattle.proof_run_steps.specs.steps.Causes.{by_order, by_tick, by_octets, by_octets_on, by_attach, by_release, by_offer, by_item, by_air, by_ack, by_control_message, node_of}
use Rattle.proof_bearer_refinement.proofs.du_puts.Stands.{Ends, after_told, and_no_more}
use Rattle.proof_bearer_refinement.specs.core_step.Core.{IsCoreStep, IsOffer}
use Rattle.proof_bearer_refinement.specs.uplink_radio.Radio.{RunState, RunCause, IsOther}
use Rattle.proof_bearer_refinement.specs.downlink_radio.Down.{down_key}
use Rattle.law_handover_delivers.specs.report_links.Reports.{RunPut}
use Rattle.proof_bearer_refinement.specs.carried_was_received.Known.{AreKnown, Receives}
use Rattle.proof_bearer_refinement.proofs.carried_was_received.Steps.{known_put}

module _ (ue : UeId) (bearer : BearerId) (deliv : ℕ) where
  abbrev key : EntityKey
  key = down_key ue bearer

  -- ---- others take nothing of this radio

  pub unheard : (cause : RunCause) (node : NodeId) → node_of cause ≡ node → IsOther ue node → Receives key deliv cause
  unheard (by_air from home item) node is other = λ refinement.
      let same : key ≡ from = entity_exact key from ((Equal-is (entity_cmp key from)).0 refinement) in
      let there : Ue ue.0 ≡ node = ap (λ (k : EntityKey). receiver_of k home) same ∙ is in
      let apart : eq_by_cmp ue_cmp ue (record { 0 = ue.0 }) ≡ false = subst (IsOther ue) (sym there) other in
      let never : true ≡ false = sym (ap is_eq (tied_itself ue_total ue)) ∙ apart in absurd cc
  unheard (by_order at order) node is other = tt
  unheard (by_tick at) node is other = tt
  unheard (by_octets from to octets) node is other = tt
  unheard (by_octets_on end octets) node is other = tt
  unheard (by_attach plan) node is other = tt
  unheard (by_release gnb who) node is other = tt
  unheard (by_offer who q sdu) node is other = tt
  unheard (by_item end item rest) node is other = tt
  unheard (by_ack from home item rest) node is other = tt
  unheard (by_control_message number l to) node is other = tt

  -- ---- the core puts

  module _ (reading : Reading) (s t : RunState) where
    pub message_knows : (number : ℕ) (l : ControlMessage (Message Token)) (outputs : List (Output (Message Token) Pdu)) (core : CoreRecord (Message Token) Token)
        → IsCoreStep reading s t number l outputs core → AreKnown (radio_of s key) deliv → AreKnown (radio_of t key) deliv
    message_knows number l outputs core step h =
        let puts : List RunPut = map (written_put (sn_of s)) outputs in
        let at_core : RunState = record s { core = core; bag = landed s.bag number } in
        let its_end : Ends (plain_world reading) (put_out_all (plain_world reading) Core None puts at_core next check_spans) t
        = after_told (plain_world reading) (got_message number l ∷ []) (put_out_all (plain_world reading) Core None puts at_core) t step.lines step.goes_on in
        known_put deliv key reading at_core t Core None puts its_end.0 its_end.1 h

    module _ (who : UeId) (which : BearerId) (sdu : List ℕ) (path : CorePath) (step : IsOffer reading s t who which sdu path) where
      abbrev its_teid : ℕ
      its_teid = teid_of path.n3 which

      abbrev outputs : List (Output (Message Token) Pdu)
      outputs = packet path.up its_teid who which Dl Absent (fresh sdu) ∷ []

      abbrev noted : RunState
      noted = offered (plain_world reading) (entity who which Dl) s

      went : Ends (plain_world reading) (put_out_all (plain_world reading) Core None (map (written_put (sn_of s)) outputs) noted next check_spans) t
      unfolding put_out_all
      went =
          and_no_more (plain_world reading) Core None
          (put_on_tunnel (plain_world reading) (record { node = path.up; teid = its_teid })
          (record { key = entity who which Dl; count = None; content = (plain_world reading).lay_n3 its_teid sdu }) noted)
          t step.lines step.goes_on

      pub offer_knows : AreKnown (radio_of s key) deliv → AreKnown (radio_of t key) deliv
      offer_knows h = known_put deliv key reading noted t Core None (map (written_put (sn_of s)) outputs) went.0 went.1 h
