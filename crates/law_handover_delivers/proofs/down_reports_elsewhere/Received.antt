-- A status report that a terminal takes stood on its radio down: so it says what was carried up, and nothing is assumed of it.
use Rattle.std.proofs.Common.{◌≡◌, ℕ, true, Option, Some, refl, sym, ap, subst, ◌∙◌}
use Rattle.std.specs.Ordering.{eq_by_cmp}
use Rattle.std.specs.Cmp.{Equal-is}
use Rattle.gnb_types.specs.declared.names.NodeId.{NodeId}
use Rattle.gnb_types.specs.declared.names.NodeId.TheVariants.{Ue}
use Rattle.gnb_types.specs.declared.names.UeId.{UeId}
use Rattle.gnb_types.specs.declared.names.BearerId.{BearerId}
use Rattle.gnb_types.specs.declared.names.Dir.{Dir}
use Rattle.gnb_types.specs.declared.names.Dir.TheVariants.{Dl, Ul}
use Rattle.gnb_types.specs.declared.keys.EntityKey.{EntityKey}
use Rattle.gnb_types.specs.Orders.{bearer_cmp}
use Rattle.gnb_types.proofs.OrderLemmas.{bearer_exact}
use Rattle.message_types.specs.declared.rrc.Token.{Token}
use Rattle.scenario_text.specs.declared.event.Event.{Event}
use Rattle.unit_defs.specs.Ways.{Pdu, packet_pdu, report_pdu, packet_content, report_content, Input, control_input, packet_input, radio_input, confirm_input, offer_input, tick_input, order_input}
use Rattle.unit_defs.specs.Ue.{UeNode}
use Rattle.run_defs.specs.Conditions.{receiver_by, receiver_of}
use Rattle.run_defs.specs.States.{radio_of}
use Rattle.run_defs.specs.Runs.{Reading, input_of, taken_of, content_of}
use Rattle.proof_run_steps.specs.steps.Causes.{by_order, by_tick, by_octets, by_octets_on, by_attach, by_release, by_offer, by_item, by_air, by_ack, by_control_message, Stands, node_of, given_of}
use Rattle.proof_run_steps.specs.law_run_links.Own.{HoldTheirOwn}
use Rattle.proof_run_steps.specs.radio_steps.Radios.{on_air}
use Rattle.proof_node_orders.specs.terminal_inputs.Inputs.{Models}
use Rattle.proof_run_steps.proofs.facts.Steps.{nth_has}
use Rattle.proof_bearer_refinement.specs.downlink_radio.Down.{down_key}
use Rattle.proof_bearer_refinement.specs.downlink_radio.Received.{AssumedReceived, AssumedRest}
use Rattle.proof_bearer_refinement.specs.uplink_radio.Radio.{RunState, RunCause, OnRadio}
use Rattle.proof_bearer_refinement.specs.runs.Fair.{IsFair}
use Rattle.law_handover_delivers.specs.down_reports.Reports.{PduIsTrue, RadioIsTrue, ReportsDownAreTrue}
use Rattle.law_handover_delivers.specs.down_reports_elsewhere.Assumed.{AssumedReport, AssumedArrivals, AssumedBesides}

-- ---- what is assumed is that of the report, and the rest

pub rest_assumed : (u : UeNode) (b : Models) (bearer : BearerId) (to : Option ℕ) (input : Input Token Pdu) → AssumedReport u b bearer input
    → AssumedArrivals u b to input → AssumedRest u b bearer to input
rest_assumed u b bearer to (radio_input ue other Dl pdu (report_content fmc bits)) report arrivals = report
rest_assumed u b bearer to (radio_input ue other Dl pdu (packet_content count packet)) report arrivals = tt
rest_assumed u b bearer to (radio_input ue other Ul pdu content) report arrivals = tt
rest_assumed u b bearer to (order_input order) report arrivals = arrivals
rest_assumed u b bearer to (control_input from message) report arrivals = tt
rest_assumed u b bearer to (packet_input teid item) report arrivals = tt
rest_assumed u b bearer to (confirm_input ue other dir pdu content) report arrivals = tt
rest_assumed u b bearer to (offer_input ue other packet) report arrivals = tt
rest_assumed u b bearer to tick_input report arrivals = tt

pub received_assumed : (u : UeNode) (b : Models) (bearer : BearerId) (to : Option ℕ) (input : Input Token Pdu) → AssumedReport u b bearer input
    → AssumedBesides u b bearer to input → AssumedReceived u b bearer to input
received_assumed u b bearer to (radio_input ue other Dl pdu (report_content fmc bits)) report besides = report
received_assumed u b bearer to (radio_input ue other Dl pdu (packet_content count packet)) report besides = besides
received_assumed u b bearer to (radio_input ue other Ul pdu content) report besides = tt
received_assumed u b bearer to (order_input order) report besides = besides
received_assumed u b bearer to (control_input from message) report besides = tt
received_assumed u b bearer to (packet_input teid item) report besides = tt
received_assumed u b bearer to (confirm_input ue other dir pdu content) report besides = tt
received_assumed u b bearer to (offer_input ue other packet) report besides = tt
received_assumed u b bearer to tick_input report besides = tt

-- ---- a report that the terminal takes

module _ (u : UeNode) (b : Models) (bearer : BearerId) where
  -- what a PDU down asks, by what it says
  abbrev AsksDown : BearerId → Pdu → Type 0
  AsksDown q (report_pdu fmc bits) = eq_by_cmp bearer_cmp bearer q ≡ true → PduIsTrue b.up.reached (report_pdu fmc bits)
  AsksDown q (packet_pdu count sdu) = Unit {0}

  asks_down : (who : UeId) (q : BearerId) (pdu : Pdu) → (eq_by_cmp bearer_cmp bearer q ≡ true → PduIsTrue b.up.reached pdu)
      → AssumedReport u b bearer (radio_input who q Dl pdu (content_of pdu))
  asks_down who q (report_pdu fmc bits) told = told
  asks_down who q (packet_pdu count sdu) told = tt

  module _ (reading : Reading) (event : Event) (s : RunState) (ue : UeId) (own : HoldTheirOwn s) (told : ReportsDownAreTrue ue bearer b.up.reached s) where
    abbrev Assumed : Input Token Pdu → Type 0
    Assumed input = AssumedReport u b bearer input

    number_is : (who : UeId) → Ue who.0 ≡ Ue ue.0 → who ≡ ue
    number_is who same = let is : who.0 ≡ ue.0 = cc in λ i. record { 0 = is i }

    aired : (from : EntityKey) (home : NodeId) (item : OnRadio) → Stands event s (by_air from home item) → receiver_of from home ≡ Ue ue.0
        → (dir : Dir) → item.key.dir ≡ dir → Assumed (radio_input item.key.ue item.key.bearer dir item.content.says (content_of item.content.says))
    aired from home item stands at Ul is = tt
    aired from home item stands at Dl is =
        let there : item.key ≡ from
        = nth_has (λ (x : OnRadio). x.key ≡ from) (radio_of s from).items (radio_of s from).carried item (own from) stands.1 in
        let down : from.dir ≡ Dl = sym (ap (λ (k : EntityKey). k.dir) there) ∙ is in
        let mine : from.ue ≡ ue = number_is from.ue (sym (ap (λ (d : Dir). receiver_by d from.ue home) down) ∙ at) in
        asks_down item.key.ue item.key.bearer item.content.says (λ refinement.
        let named : bearer ≡ item.key.bearer = bearer_exact bearer item.key.bearer ((Equal-is (bearer_cmp bearer item.key.bearer)).0 refinement) in
        let named_there : from.bearer ≡ bearer = sym (ap (λ (k : EntityKey). k.bearer) there) ∙ sym named in
        let same : from ≡ down_key ue bearer = λ i. record { ue = mine i; bearer = named_there i; dir = down i } in
        nth_has (λ (x : OnRadio). PduIsTrue b.up.reached x.content.says) (radio_of s from).items (radio_of s from).carried item
        (subst (λ (k : EntityKey). RadioIsTrue b.up.reached (on_air s k)) (sym same) told.radio) stands.1)

    so : (i input : Input Token Pdu) → Some i ≡ Some input → Assumed i → Assumed input
    so i input same h = let is : i ≡ input = cc in subst (λ (j : Input Token Pdu). Assumed j) is h

    report_assumed : (input : Input Token Pdu) (c : RunCause) → node_of c ≡ Ue ue.0 → input_of reading (given_of c) ≡ Some input → Stands event s c → Assumed input
    report_assumed input (by_order node order) at given stands = so (order_input order) input given tt
    report_assumed input (by_tick node) at given stands = so tick_input input given tt
    report_assumed input (by_octets from to octets) at given stands = absurd cc
    report_assumed input (by_octets_on end octets) at given stands = absurd cc
    report_assumed input (by_attach plan) at given stands = absurd cc
    report_assumed input (by_release g who) at given stands = absurd cc
    report_assumed input (by_offer who q sdu) at given stands = so (offer_input who q sdu) input given tt
    report_assumed input (by_item end item rest) at given stands = so (packet_input end.teid (taken_of item.content.says)) input given tt
    report_assumed input (by_air from home item) at given stands =
        so (radio_input item.key.ue item.key.bearer item.key.dir item.content.says (content_of item.content.says)) input given
        (aired from home item stands at item.key.dir refl)
    report_assumed input (by_ack from home item rest) at given stands =
        so (confirm_input item.key.ue item.key.bearer item.key.dir item.content.says (content_of item.content.says)) input given tt
    report_assumed input (by_control_message k l to) at given stands = so (control_input l.from l.message) input given tt

pub taken_assumed : (reading : Reading) (event : Event) (s : RunState) (ue : UeId) (bearer : BearerId) (u : UeNode) (b : Models) (cause : RunCause)
    (input : Input Token Pdu) → IsFair s → node_of cause ≡ Ue ue.0 → input_of reading (given_of cause) ≡ Some input → Stands event s cause
    → ReportsDownAreTrue ue bearer b.up.reached s → AssumedReport u b bearer input
taken_assumed reading event s ue bearer u b cause input fair at given stands told =
    report_assumed u b bearer reading event s ue
    fair.sound.radios told input cause at given stands
