-- A packet that a terminal takes was received then, where none before it is missing and it was put for the present radio or received before.
use Rattle.std.proofs.Common.{◌≡◌, ℕ, ◌+◌, ◌<◌, ◌≤◌, max, Bool, true, false, ◌&&◌, not, nat_le, List, [], Option, Some, refl, sym, ap, subst, ◌∙◌, arith}
use Rattle.std.specs.Prelude.{if◌then◌else◌}
use Rattle.std.specs.Ordering.{eq_by_cmp, is_eq}
use Rattle.std.specs.Cmp.{Equal-is, tied_itself}
use Rattle.gnb_types.specs.declared.names.SnBits.{SnBits}
use Rattle.gnb_types.specs.declared.names.UeId.{UeId}
use Rattle.gnb_types.specs.declared.names.BearerId.{BearerId}
use Rattle.gnb_types.specs.declared.names.Dir.TheVariants.{Dl}
use Rattle.gnb_types.specs.declared.keys.EntityKey.{EntityKey}
use Rattle.gnb_types.specs.Orders.{bearer_cmp, entity_cmp}
use Rattle.gnb_types.proofs.OrderLemmas.{bearer_total, entity_exact}
use Rattle.message_types.specs.declared.rrc.Token.{Token}
use Rattle.scenario_text.specs.declared.event.Event.{Event}
use Rattle.pdcp_defs.specs.Receivers.{Receiver, is_duplicate, is_ahead}
use Rattle.bearer_defs.specs.chain_defs.Models.{Model}
use Rattle.bearer_defs.specs.chain_defs.Orders.{run}
use Rattle.unit_defs.specs.Ways.{Pdu, packet_pdu, report_pdu, Input, radio_input}
use Rattle.unit_defs.specs.Ue.{UeNode}
use Rattle.run_defs.specs.States.{radio_of}
use Rattle.run_defs.specs.Runs.{Reading, input_of, content_of}
use Rattle.proof_run_steps.specs.steps.Causes.{by_order, by_tick, by_octets, by_octets_on, by_attach, by_release, by_offer, by_item, by_air, by_ack, by_control_message, Stands, given_of}
use Rattle.proof_run_steps.specs.law_run_links.Own.{HoldTheirOwn}
use Rattle.proof_node_orders.specs.terminal_inputs.Inputs.{Models, none}
use Rattle.proof_bearer_refinement.specs.uplink_radio.Radio.{RunState, RunCause, OnRadio}
use Rattle.law_downlink_order.specs.received_packets.Received.{WasPut, receives}
use Rattle.law_downlink_order.proofs.received_packets.Received.{received}
use Rattle.proof_bearer_refinement.specs.downlink_radio.Received.{of_received, received_by, AssumedPacket, AssumedReceived, IsKept}
use Rattle.proof_bearer_refinement.specs.downlink_radio.Down.{down_key}
use Rattle.proof_bearer_refinement.proofs.downlink_radio.Waits.{item_of}
use Rattle.proof_bearer_refinement.specs.carried_was_received.Known.{WasBelow, Receives}

has_room : (r : Receiver (List ℕ)) (count quota : ℕ) → count ≤ r.deliv → 0 < quota → (not (is_duplicate r count) && is_ahead quota r count) ≡ false
unfolding is_ahead
has_room r count quota low some = let t : nat_le (r.deliv + quota) count ≡ false = grind arith in by (not (is_duplicate r count)) (nat_le (r.deliv + quota) count) t
  where
    by : (x y : Bool) → y ≡ false → (x && y) ≡ false
    by true y e = e
    by false y e = refl

module _ (u : UeNode) (b : Models) (bearer : BearerId) (to : Option ℕ) (sn : SnBits) (quota : ℕ) (kept : IsKept sn quota b.down) (some : 0 < u.plan.quota) where
  abbrev After : Input Token Pdu → ℕ
  After input = (run b.down (received_by u b bearer to input).down).terminal.deliv

  its_own : eq_by_cmp bearer_cmp bearer bearer ≡ true
  its_own = ap is_eq (tied_itself bearer_total bearer)

  packet_known : (p : Pdu) → AssumedPacket u b (content_of p) → WasBelow (run b.down (of_received u b (content_of p)).down).terminal.deliv p
  packet_known (packet_pdu count sdu) assumed =
      let up_to : (run b.down (receives b.down count)).terminal.deliv ≡ max b.down.terminal.deliv (count + 1) =
      subst (λ (d : Model). count ≤ d.terminal.deliv → WasPut d count sdu → (run d (receives d count)).terminal.deliv ≡ max d.terminal.deliv (count + 1))
      (sym kept.is) (λ low put. received sn quota kept.first kept.teid kept.orders kept.kept count sdu low put) assumed.0 assumed.1 in
      subst (λ (t : Bool). count < (run b.down (if t then none else record { up = []; down = receives b.down count }).down).terminal.deliv)
      (sym (has_room b.down.terminal count u.plan.quota assumed.0 some)) (omega (arith, up_to))
  packet_known (report_pdu fmc bits) assumed = tt

  pub pdu_known : (who : UeId) (p : Pdu) → AssumedReceived u b bearer to (radio_input who bearer Dl p (content_of p))
      → WasBelow (After (radio_input who bearer Dl p (content_of p))) p
  unfolding received_by
  pdu_known who p assumed =
      subst (λ (t : Bool). WasBelow (run b.down (if t then of_received u b (content_of p) else none).down).terminal.deliv p) (sym its_own)
      (packet_known p (assumed_here p assumed))
    where
      assumed_here : (p : Pdu) → AssumedReceived u b bearer to (radio_input who bearer Dl p (content_of p)) → AssumedPacket u b (content_of p)
      assumed_here (packet_pdu count sdu) assumed = assumed its_own
      assumed_here (report_pdu fmc bits) assumed = assumed its_own

  module _ (reading : Reading) (event : Event) (s : RunState) (own : HoldTheirOwn s) (ue : UeId) (input : Input Token Pdu) where
    pub taken_known : (c : RunCause) → input_of reading (given_of c) ≡ Some input → Stands event s c → AssumedReceived u b bearer to input
        → Receives (down_key ue bearer) (After input) c
    taken_known (by_air from home item) given stands assumed = λ refinement.
        let same : down_key ue bearer ≡ from
        = entity_exact (down_key ue bearer) from ((Equal-is (entity_cmp (down_key ue bearer) from)).0 refinement) in
        let item_is : item.key ≡ down_key ue bearer
        = item_of (λ (x : OnRadio). x.key ≡ from) (radio_of s from).items (radio_of s from).carried item (own from) stands.1 ∙ sym same in
        let both : Some (radio_input item.key.ue item.key.bearer item.key.dir item.content.says (content_of item.content.says)) ≡ Some input = given in
        let one : radio_input item.key.ue item.key.bearer item.key.dir item.content.says (content_of item.content.says) ≡ input = cc in
        let is : radio_input ue bearer Dl item.content.says (content_of item.content.says) ≡ input
        = ap (λ (k : EntityKey). radio_input k.ue k.bearer k.dir item.content.says (content_of item.content.says)) (sym item_is) ∙ one in
        subst (λ (i : Input Token Pdu). WasBelow (After i) item.content.says) is
        (pdu_known ue item.content.says (subst (λ (i : Input Token Pdu). AssumedReceived u b bearer to i) (sym is) assumed))
    taken_known (by_order node order) given stands assumed = tt
    taken_known (by_tick node) given stands assumed = tt
    taken_known (by_octets from w octets) given stands assumed = tt
    taken_known (by_octets_on end octets) given stands assumed = tt
    taken_known (by_attach plan) given stands assumed = tt
    taken_known (by_release gnb who) given stands assumed = tt
    taken_known (by_offer who q sdu) given stands assumed = tt
    taken_known (by_item end item rest) given stands assumed = tt
    taken_known (by_ack from home item rest) given stands assumed = tt
    taken_known (by_control_message number l w) given stands assumed = tt
