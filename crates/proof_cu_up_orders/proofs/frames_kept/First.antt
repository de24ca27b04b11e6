-- The first context of a bearer begins to send.
use Rattle.std.proofs.Common.{◌≡◌, ℕ, false, List, [], ◌∷◌, Some, refl, arith}
use Rattle.gnb_types.specs.declared.names.NodeId.{NodeId}
use Rattle.gnb_types.specs.declared.names.BearerId.{BearerId}
use Rattle.gnb_types.specs.declared.names.Dir.TheVariants.{Dl}
use Rattle.gnb_types.specs.declared.names.SnBits.{SnBits}
use Rattle.gnb_types.specs.declared.names.UeId.{UeId}
use Rattle.gnb_types.specs.declared.outputs.Tag.TheVariants.{Absent}
use Rattle.bearer_defs.specs.chain_defs.Assumptions.{AreKept, IsReady, IsAssumed}
use Rattle.bearer_defs.specs.chain_defs.Orders.{run}
use Rattle.bearer_defs.specs.chain_defs.Models.{initial}
use Rattle.pdcp_defs.specs.Receivers.{deliver, received_bits}
use Rattle.unit_defs.specs.Du.{DuBearer}
use Rattle.unit_defs.specs.CuUpBearers.{made, switched, deliver_stored, begin_downlink, framed, sent_again, number_waiting, number_each}
use Rattle.unit_defs.specs.Ways.{frame, gives, Output, packet, report_pdu, Way}
use Rattle.proof_cu_up_orders.proofs.bearer_orders.Starts.{made_down}
use Rattle.proof_cu_up_orders.specs.bearer_orders.Down.{orders_of}
use Rattle.proof_cu_up_orders.specs.chain_rows.Shown.{number_orders}
use Rattle.proof_cu_up_orders.specs.context_orders.Orders.{done, on_switch, switches, ContextStep, CuUpModel}
use Rattle.proof_cu_up_orders.specs.down_orders.Down.{new_model}
use Rattle.proof_cu_up_orders.specs.frame_rows.Sent.{sent_by}
use Rattle.proof_cu_up_orders.proofs.frames_kept.Rows.{begins}
use Rattle.proof_cu_up_orders.specs.frames_kept.Asked.{alone}
use Rattle.proof_cu_up_orders.specs.sending_contexts.Sending.{IsSending}

module _ {M C P : Type 0} (way : Way M C P) (ue : UeId) (bearer : BearerId) (sn : SnBits) (quota instance teid : ℕ) (to : NodeId) (end : ℕ) where
  abbrev p : CuUpModel
  p = new_model ue bearer instance sn quota false teid

  order : ContextStep P
  order = switches to end

  outputs : List (Output M P)
  outputs = packet to end ue bearer Dl Absent (frame false false 0 (Some (way.write sn (report_pdu 0 [])))) ∷ []

  q : CuUpModel
  q = record (on_switch p) { bearer = record p.bearer { downlink = Some (record { du = to; teid = end; next = 1 }) } }

  answers : done way order p ≡ gives outputs (Some q)
  unfolding order outputs q deliver received_bits made switched deliver_stored begin_downlink framed sent_again number_waiting number_each
  answers = refl

  kept : AreKept sn quota (initial 1 teid) (orders_of {P = P} 1 alone p order)
  unfolding order AreKept IsReady IsAssumed initial made number_orders
  kept = (refl, (refl, omega arith), tt)

  pub first_begins : (du : DuBearer) (waits : List (ℕ × List ℕ))
      → (outputs : List (Output M P)) × (q : CuUpModel) × (done way (switches to end) p ≡ gives outputs (Some q))
      × IsSending (run (initial 1 teid) (orders_of {P = P} 1 alone p (switches to end))) 1 q.bearer
      (record { du = record du { downlink = end; awaited = 0; gap = false }; frames = (sent_by {P = P} p (switches to end)).frames; waits = waits })
  unfolding order run initial
  first_begins du waits =
      (outputs, q, answers, (begins way sn quota 1 teid [] 1 p q alone outputs to end du waits kept (made_down sn quota 1 teid ue bearer instance 1) refl answers).1)
