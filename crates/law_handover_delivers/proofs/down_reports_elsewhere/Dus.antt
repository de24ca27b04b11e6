-- A DU passes on the status report of a frame that it takes, and puts no frame.
use Rattle.std.proofs.Common.{◌≡◌, ℕ, Bool, true, false, not, ◌&&◌, List, [], ◌∷◌, ◌++◌, map, Option, Some, None, refl, sym, ap, subst, ◌∙◌}
use Rattle.std.specs.Prelude.{if◌then◌else◌}
use Rattle.std.specs.List.{AllByRecursion}
use Rattle.std.specs.Ordering.{nat_cmp, is_eq, eq_by_cmp}
use Rattle.std.specs.Cmp.{Equal-is, tied_itself}
use Rattle.gnb_types.specs.declared.names.Gnb.{Gnb}
use Rattle.gnb_types.specs.declared.names.NodeId.{NodeId}
use Rattle.gnb_types.specs.declared.names.NodeId.TheVariants.{CuCp, CuUp as up_id, Du as du_id, Core, Ue}
use Rattle.gnb_types.specs.declared.names.UeId.{UeId}
use Rattle.gnb_types.specs.declared.names.BearerId.{BearerId}
use Rattle.gnb_types.specs.declared.names.SnBits.{SnBits}
use Rattle.gnb_types.specs.declared.names.Dir.{Dir}
use Rattle.gnb_types.specs.declared.names.Dir.TheVariants.{Dl, Ul}
use Rattle.gnb_types.specs.declared.keys.TunnelEnd.{TunnelEnd}
use Rattle.gnb_types.specs.declared.keys.EntityKey.{EntityKey}
use Rattle.gnb_types.specs.declared.plans.Peer.{Peer}
use Rattle.gnb_types.specs.declared.plans.Tunnel.{Tunnel}
use Rattle.gnb_types.specs.Orders.{ue_cmp, bearer_cmp, entity_cmp}
use Rattle.gnb_types.proofs.OrderLemmas.{ue_total, bearer_total, entity_exact}
use Rattle.tables.specs.Tables.{find}
use Rattle.message_types.specs.declared.f1.F1.TheVariants as f1s
use Rattle.message_types.specs.declared.rrc.Token.{Token}
use Rattle.transaction_defs.specs.Callees.{Verdict, new, again, stale, verdict}
use Rattle.scenario_text.specs.declared.event.Event.{Event}
use Rattle.unit_defs.specs.Ways.{Message, f1, e1, xn, core, rrc, Pdu, Load, fresh, numbered, frame, uplink, status, end_marker, control, packet, radio, deliver, dropped, held, opened, closed, failed, no, Taken, fresh_item, numbered_item, frame_item, uplink_item, status_item, end_item, Input, control_input, packet_input, radio_input, confirm_input, offer_input, tick_input, order_input, Output, Answer}
use Rattle.unit_defs.specs.Messages.{channel, is_same_gnb, bearers_of, are_first_bearers}
use Rattle.unit_defs.specs.Transactions.{Kind, request, reply, transfer, kind_of}
use Rattle.unit_defs.specs.Du.{DuContext, DuTunnel, context_of}
use Rattle.run_defs.specs.Units.{du_of, with_du}
use Rattle.run_defs.specs.Written.{written_put}
use Rattle.run_defs.specs.States.{Lengths, sn_of, entity}
use Rattle.run_defs.specs.Runs.{Reading, plain_world, plain_way, input_of, taken_of, content_of}
use Rattle.proof_run_steps.specs.steps.Causes.{by_order, by_tick, by_octets, by_octets_on, by_attach, by_release, by_offer, by_item, by_air, by_ack, by_control_message, Stands, node_of, given_of, count_of}
use Rattle.proof_run_steps.specs.facts.Facts.{PutsFit}
use Rattle.proof_run_steps.specs.facts.UnitFacts.{written_facts}
use Rattle.law_tunnels_are_owned.specs.link_items.Items.{MayPut, IsStatus, IsOfUplink}
use Rattle.law_tunnels_are_owned.proofs.link_items.Names.{link_items}
use Rattle.law_tunnels_are_owned.specs.run_tunnels.Own.{IsOwnAt, TunnelsHoldTheirOwn}
use Rattle.law_terminals_are_isolated.specs.own_steps.Own.{IsActed}
use Rattle.law_terminals_are_isolated.proofs.own_steps.Steps.{Sound}
use Rattle.proof_bearer_refinement.specs.run_unit_inputs.Happenings.{DuRecord}
use Rattle.proof_node_orders.specs.du_inputs.Changes.{DuModel, Change, takes, renews, sets_up, ends, stays, model_of, of_frame, of_tunnel, of_modification, if_own, of_setup, of_request, if_new, of_kind, of_control_message, change_by}
use Rattle.proof_node_orders.specs.du_inputs.Puts.{is_of, radio_put, carried_if, of_model, carried_of, Puts}
use Rattle.law_downlink_order.specs.path.Paths.{gap_after}
use Rattle.proof_node_orders.specs.du_puts.Inputs.{ups_by}
use Rattle.proof_node_orders.proofs.du_puts.ControlMessages.{input_puts}
use Rattle.proof_bearer_refinement.specs.du_puts.Puts.{IsDuStep}
use Rattle.proof_bearer_refinement.specs.downlink_radio.Down.{down_key}
use Rattle.proof_bearer_refinement.specs.uplink_radio.Radio.{RunState, RunCause}
use Rattle.proof_bearer_refinement.specs.runs.Fair.{IsFair}
use Rattle.proof_bearer_refinement.proofs.runs.Fair.{puts_fit}
use Rattle.law_handover_delivers.specs.down_reports.Reports.{PduIsTrue, PayloadIsTrue, LoadIsTrue, RunItem, StandingIsTrue, ReportsDownAreTrue, PutsAreTrue}
use Rattle.law_handover_delivers.proofs.down_reports.Airs.{told_then}

abbrev Outs : Type 0
Outs = List (Output (Message Token) Pdu)

module _ (reached : ℕ) where
  -- ---- on tunnels a DU puts delivery statuses, what came up, and End Markers

  of_status : (load : Load Pdu) → IsStatus load → LoadIsTrue reached load
  of_status (frame poll restart number pdu) fit = absurd fit
  of_status (fresh p) fit = tt
  of_status (numbered sn count p) fit = tt
  of_status (uplink pdu) fit = tt
  of_status (status lost delivered) fit = tt
  of_status end_marker fit = tt

  of_uplink : (load : Load Pdu) → IsOfUplink load → LoadIsTrue reached load
  of_uplink (frame poll restart number pdu) fit = absurd fit
  of_uplink (fresh p) fit = tt
  of_uplink (numbered sn count p) fit = tt
  of_uplink (uplink pdu) fit = tt
  of_uplink (status lost delivered) fit = tt
  of_uplink end_marker fit = tt

  du_may : (gnb : Gnb) (number : ℕ) (to : NodeId) (dir : Dir) (load : Load Pdu) → MayPut (du_id gnb number) to dir load → LoadIsTrue reached load
  du_may gnb number (up_id g k) Dl load may = of_status load may
  du_may gnb number (up_id g k) Ul load may = of_uplink load may
  du_may gnb number (du_id g k) dir load may = absurd may
  du_may gnb number (CuCp g) dir load may = absurd may
  du_may gnb number Core dir load may = absurd may
  du_may gnb number (Ue w) dir load may = absurd may

  -- ---- on the radio, what the frame carries that it takes

  abbrev TakenIsTrue : Taken Pdu → Type 0
  TakenIsTrue (frame_item poll restart number pdu) = PayloadIsTrue reached pdu
  TakenIsTrue item = Unit {0}

  taken_true : (load : Load Pdu) → LoadIsTrue reached load → TakenIsTrue (taken_of load)
  taken_true (frame poll restart number pdu) told = told
  taken_true (fresh p) told = tt
  taken_true (numbered sn count p) told = tt
  taken_true (uplink pdu) told = tt
  taken_true (status lost delivered) told = tt
  taken_true end_marker told = tt

  abbrev ChangeIsTrue : Change → Type 0
  ChangeIsTrue (takes f) = PayloadIsTrue reached f.pdu
  ChangeIsTrue change = Unit {0}

  if_true : (b : Bool) (x y : Change) → ChangeIsTrue x → ChangeIsTrue y → ChangeIsTrue (if b then x else y)
  if_true true x y p q = p
  if_true false x y p q = q

  frame_true : (item : Taken Pdu) → TakenIsTrue item → ChangeIsTrue (of_frame item)
  frame_true (frame_item poll restart number pdu) told = told
  frame_true (fresh_item p) told = tt
  frame_true (numbered_item count p) told = tt
  frame_true (uplink_item content) told = tt
  frame_true (status_item lost delivered) told = tt
  frame_true end_item told = tt

  module _ (ue : UeId) (bearer : BearerId) (r : DuRecord) where
    abbrev InputIsTrue : Input Token Pdu → Type 0
    InputIsTrue (packet_input teid item) =
        (t : DuTunnel) → find nat_cmp r.tunnels teid ≡ Some t → is_of ue bearer t.ue t.bearer ≡ true → TakenIsTrue item
    InputIsTrue input = Unit {0}

    tunnel_true : (item : Taken Pdu) (o : Option DuTunnel) → ((t : DuTunnel) → o ≡ Some t → is_of ue bearer t.ue t.bearer ≡ true → TakenIsTrue item)
        → ChangeIsTrue (of_tunnel ue bearer item o)
    tunnel_true item None told = tt
    tunnel_true item (Some t) told = by (eq_by_cmp ue_cmp ue t.ue) (eq_by_cmp bearer_cmp bearer t.bearer) (told t refl)
      where
        by : (a b : Bool) → (a && b ≡ true → TakenIsTrue item) → ChangeIsTrue (if a then (if b then of_frame item else stays) else stays)
        by true true h = frame_true item (h refl)
        by true false h = tt
        by false b h = tt

    -- control takes no frame

    setup_true : (epoch : ℕ) (uplinks : List Tunnel) (sn : SnBits) (peer : Peer) → ChangeIsTrue (of_setup plain_way bearer epoch uplinks sn peer r)
    setup_true epoch uplinks sn peer = if_true (not (are_first_bearers (bearers_of uplinks))) stays _ tt tt

    modification_true : (epoch : ℕ) (o : Option DuContext) → ChangeIsTrue (of_modification bearer epoch r o)
    modification_true epoch None = tt
    modification_true epoch (Some c) = tt

    own_true : (b : Bool) (change : Change) → ChangeIsTrue change → ChangeIsTrue (if_own b change)
    own_true b change told = if_true b change stays told tt

    request_true : (message : Message Token) → ChangeIsTrue (of_request plain_way ue bearer message r)
    request_true (f1 (f1s.UeContextSetupRequest other instance epoch uplinks sn peer)) =
        own_true (eq_by_cmp ue_cmp ue other) (of_setup plain_way bearer epoch uplinks sn peer r) (setup_true epoch uplinks sn peer)
    request_true (f1 (f1s.UeContextModificationRequest other instance epoch)) =
        own_true (eq_by_cmp ue_cmp ue other) (of_modification bearer epoch r (context_of r other)) (modification_true epoch (context_of r other))
    request_true (f1 (f1s.UeContextReleaseCommand other instance)) = own_true (eq_by_cmp ue_cmp ue other) ends tt
    request_true (f1 (f1s.F1SetupRequest instance name)) = tt
    request_true (f1 (f1s.F1SetupResponse instance)) = tt
    request_true (f1 (f1s.UeContextSetupResponse other instance downlinks)) = tt
    request_true (f1 (f1s.UeContextModificationResponse other instance downlinks)) = tt
    request_true (f1 (f1s.UeContextReleaseComplete other instance)) = tt
    request_true (f1 (f1s.DlRrcMessageTransfer other container)) = tt
    request_true (f1 (f1s.UlRrcMessageTransfer other container)) = tt
    request_true (e1 message) = tt
    request_true (xn message) = tt
    request_true (core message) = tt
    request_true (rrc token) = tt

    new_true : (v : Verdict) (change : Change) → ChangeIsTrue change → ChangeIsTrue (if_new plain_way v change)
    new_true new change told = told
    new_true again change told = tt
    new_true stale change told = tt

    kind_true : (from : NodeId) (message : Message Token) (kind : Kind) → ChangeIsTrue (of_kind plain_way ue bearer from message r kind)
    kind_true from message (request other instance) =
        new_true (verdict r.transactions.callee (channel other from) instance) (of_request plain_way ue bearer message r) (request_true message)
    kind_true from message (reply other instance) = tt
    kind_true from message (transfer other) = tt

    control_message_true : (from : NodeId) (message : Message Token) → ChangeIsTrue (of_control_message plain_way ue bearer from message r)
    control_message_true (CuCp gnb) message =
        if_true (is_same_gnb gnb r.gnb) (of_kind plain_way ue bearer (CuCp gnb) message r (kind_of message)) stays
        (kind_true (CuCp gnb) message (kind_of message)) tt
    control_message_true (up_id g k) message = tt
    control_message_true (du_id g k) message = tt
    control_message_true Core message = tt
    control_message_true (Ue w) message = tt

    change_true : (input : Input Token Pdu) → InputIsTrue input → ChangeIsTrue (change_by plain_way ue bearer r input)
    unfolding change_by
    change_true (control_input from message) told = control_message_true from message
    change_true (packet_input teid item) told = tunnel_true item (find nat_cmp r.tunnels teid) told
    change_true (radio_input other q dir pdu content) told = tt
    change_true (confirm_input other q dir pdu content) told = tt
    change_true (offer_input u b p) told = tt
    change_true tick_input told = tt
    change_true (order_input order) told = tt

  abbrev AllAreTrue : List (ℕ × Pdu) → Type 0
  AllAreTrue ps = AllByRecursion (λ (e : ℕ × Pdu). PduIsTrue reached e.1) ps

  carried_true : (change : Change) (o : Option DuModel) → ChangeIsTrue change → AllAreTrue (of_model (carried_of change) o)
  carried_true (takes f) None told = tt
  carried_true (takes f) (Some d) told = by (gap_after d.bearer f f.pdu) f.pdu told
    where
      by : (gap : Bool) (pdu : Option Pdu) → PayloadIsTrue reached pdu → AllAreTrue (carried_if gap d.epoch pdu)
      by true None told = tt
      by false None told = tt
      by true (Some pdu) told = tt
      by false (Some pdu) told = (told, tt)
  carried_true stays None told = tt
  carried_true stays (Some d) told = tt
  carried_true (renews epoch teid) None told = tt
  carried_true (renews epoch teid) (Some d) told = tt
  carried_true (sets_up part) None told = tt
  carried_true (sets_up part) (Some d) told = tt
  carried_true ends None told = tt
  carried_true ends (Some d) told = tt

  -- ---- so all that it puts reports only that

  module _ (ue : UeId) (bearer : BearerId) (gnb : Gnb) (number : ℕ) (lengths : Lengths) (taken : Option ℕ) where
    its_own : is_of ue bearer ue bearer ≡ true
    its_own = λ i. ap is_eq (tied_itself ue_total ue) i && ap is_eq (tied_itself bearer_total bearer) i

    key_own : (who : UeId) (q : BearerId) → eq_by_cmp entity_cmp (down_key ue bearer) (entity who q Dl) ≡ true → is_of ue bearer who q ≡ true
    key_own who q refinement =
        let same : down_key ue bearer ≡ entity who q Dl
        = entity_exact (down_key ue bearer) (entity who q Dl) ((Equal-is (entity_cmp (down_key ue bearer) (entity who q Dl))).0 refinement) in
        sym (ap (λ (k : EntityKey). is_of ue bearer k.ue k.bearer) same) ∙ its_own

    outputs_tell : (outputs : Outs) → PutsFit (written_facts link_items) (du_id gnb number) taken (map (written_put lengths) outputs)
        → AllAreTrue (radio_put ue bearer outputs) → PutsAreTrue ue bearer reached (map (written_put lengths) outputs)
    unfolding radio_put
    outputs_tell [] fit told = tt
    outputs_tell (radio who q Dl epoch tag pdu ∷ outputs) fit told = by (is_of ue bearer who q) refl told (outputs_tell outputs fit.1)
      where
        by : (t : Bool) → is_of ue bearer who q ≡ t → AllAreTrue ((if t then (epoch, pdu) ∷ [] else []) ++ radio_put ue bearer outputs)
            → (AllAreTrue (radio_put ue bearer outputs) → PutsAreTrue ue bearer reached (map (written_put lengths) outputs))
            → (eq_by_cmp entity_cmp (down_key ue bearer) (entity who q Dl) ≡ true → PduIsTrue reached pdu)
            × PutsAreTrue ue bearer reached (map (written_put lengths) outputs)
        by true own all more = ((λ refinement. all.0), more all.1)
        by false own all more = ((λ refinement. let never : true ≡ false = sym (key_own who q refinement) ∙ own in absurd cc), more all)
    outputs_tell (radio who q Ul epoch tag pdu ∷ outputs) fit told =
        ((λ refinement. let never : Ul ≡ Dl = fit.0.0.1 in absurd cc), outputs_tell outputs fit.1 told)
    outputs_tell (packet to teid who q dir tag load ∷ outputs) fit told =
        ((λ own. du_may gnb number to dir load fit.0.0.1), outputs_tell outputs fit.1 told)
    outputs_tell (control to u m ∷ outputs) fit told = (tt, outputs_tell outputs fit.1 told)
    outputs_tell (deliver u b dir count x ∷ outputs) fit told = (tt, outputs_tell outputs fit.1 told)
    outputs_tell (dropped reason ∷ outputs) fit told = (tt, outputs_tell outputs fit.1 told)
    outputs_tell (held reason ∷ outputs) fit told = (tt, outputs_tell outputs fit.1 told)
    outputs_tell (opened teid ∷ outputs) fit told = (tt, outputs_tell outputs fit.1 told)
    outputs_tell (closed teid ∷ outputs) fit told = (tt, outputs_tell outputs fit.1 told)
    outputs_tell (failed u cause ∷ outputs) fit told = (tt, outputs_tell outputs fit.1 told)
    outputs_tell (no reason ∷ outputs) fit told = (tt, outputs_tell outputs fit.1 told)

  -- ---- what it is given stands on a tunnel

  module _ (event : Event) (s : RunState) (ue : UeId) (bearer : BearerId) (gnb : Gnb) (number : ℕ) (own : TunnelsHoldTheirOwn s)
      (told : ReportsDownAreTrue ue bearer reached s) where
    abbrev r : DuRecord
    r = du_of s.units gnb number

    so : (i input : Input Token Pdu) → Some i ≡ Some input → InputIsTrue ue bearer r i → InputIsTrue ue bearer r input
    so i input same h = let is : i ≡ input = cc in subst (λ (j : Input Token Pdu). InputIsTrue ue bearer r j) is h

    item_true : (end : TunnelEnd) (item : RunItem) (rest : List RunItem) → end.node ≡ du_id gnb number → Stands event s (by_item end item rest)
        → InputIsTrue ue bearer r (packet_input end.teid (taken_of item.content.says))
    item_true end item rest at stands = λ t found its_tunnel.
        let its = subst (λ (node : NodeId). IsOwnAt s.units node end.teid item.key item.content.says) at (own end (item ∷ rest) stands).0 t found in
        let mine : is_of ue bearer item.key.ue item.key.bearer ≡ true = (λ i. is_of ue bearer (its.0 i) (its.1 i)) ∙ its_tunnel in
        taken_true item.content.says ((subst (StandingIsTrue ue bearer reached) stands (told.tunnels end)).0 mine)

    input_true : (reading : Reading) (input : Input Token Pdu) (c : RunCause) → node_of c ≡ du_id gnb number
        → input_of reading (given_of c) ≡ Some input → Stands event s c → InputIsTrue ue bearer r input
    input_true reading input (by_order node order) at given stands = so (order_input order) input given tt
    input_true reading input (by_tick node) at given stands = so tick_input input given tt
    input_true reading input (by_octets from to octets) at given stands = absurd cc
    input_true reading input (by_octets_on end octets) at given stands = absurd cc
    input_true reading input (by_attach plan) at given stands = absurd cc
    input_true reading input (by_release g who) at given stands = absurd cc
    input_true reading input (by_offer who b sdu) at given stands = so (offer_input who b sdu) input given tt
    input_true reading input (by_item end item rest) at given stands =
        so (packet_input end.teid (taken_of item.content.says)) input given (item_true end item rest at stands)
    input_true reading input (by_air from home item) at given stands =
        so (radio_input item.key.ue item.key.bearer item.key.dir item.content.says (content_of item.content.says)) input given tt
    input_true reading input (by_ack from home item rest) at given stands =
        so (confirm_input item.key.ue item.key.bearer item.key.dir item.content.says (content_of item.content.says)) input given tt
    input_true reading input (by_control_message k l to) at given stands = so (control_input l.from l.message) input given tt

pub du_keeps : (reading : Reading) (event : Event) (s t : RunState) (ue : UeId) (bearer : BearerId) (reached : ℕ) (gnb : Gnb) (number : ℕ) (cause : RunCause)
    (input : Input Token Pdu) (outputs : Outs) (left : DuRecord) → IsFair s
    → IsActed (plain_world reading) event s cause (map (written_put (sn_of s)) outputs) (with_du s.units gnb number left)
    → IsDuStep reading s t gnb number cause input outputs left
    → ReportsDownAreTrue ue bearer reached s → ReportsDownAreTrue ue bearer reached t
unfolding Puts
du_keeps reading event s t ue bearer reached gnb number cause input outputs left fair acted step told =
    let sound : Sound s = fair.sound in
    let r : DuRecord = du_of s.units gnb number in
    let change : Change = change_by plain_way ue bearer r input in
    let listed : radio_put ue bearer outputs ≡ of_model (carried_of change) (model_of r ue bearer)
    = (subst (λ (a : Answer (Message Token) Pdu DuRecord). Puts ue bearer (ups_by plain_way ue bearer r input)
    (of_model (carried_of change) (model_of r ue bearer)) a) step.answers
    (input_puts plain_way ue bearer r input ((sound.owned.1 gnb number).1 ue))).1 in
    let tells : AllAreTrue reached (radio_put ue bearer outputs)
    = subst (AllAreTrue reached) (sym listed)
    (carried_true reached change (model_of r ue bearer)
    (change_true reached ue bearer r input
    (input_true reached event s ue bearer gnb number sound.tunnels told reading input cause step.node step.given acted.stands))) in
    told_then ue bearer reached reading event s t cause (map (written_put (sn_of s)) outputs) (with_du s.units gnb number left) step.lines
    acted.stands step.goes_on told
    (outputs_tell reached ue bearer gnb number (sn_of s) (count_of cause) outputs
    (subst (λ (n : NodeId). PutsFit (written_facts link_items) n (count_of cause) (map (written_put (sn_of s)) outputs)) step.node
    (puts_fit reading s event cause (map (written_put (sn_of s)) outputs) (with_du s.units gnb number left) fair acted)) tells)
