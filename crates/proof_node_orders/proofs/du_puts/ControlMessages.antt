-- What each input of a DU puts: control messages, and all others.
use Rattle.std.proofs.Common.{◌≡◌, ℕ, ◌==◌, Bool, true, false, cond, not, if◌then◌else◌, List, [], ◌∷◌, ◌++◌, map, Option, Some, None, refl, sym, ap, subst, ◌∙◌}
use Rattle.std.specs.Prelude.{◌&&◌}
use Rattle.std.specs.Ordering.{is_eq, eq_by_cmp}
use Rattle.std.specs.declared.cmp.Ordering.TheVariants.{Less}
use Rattle.std.specs.List.{AllByRecursion}
use Rattle.std.specs.Map.{keys_of}
use Rattle.std.proofs.lemmas.Map.Keys.{sorted_head, sorted_tail}
use Rattle.gnb_types.specs.declared.names.NodeId.{NodeId}
use Rattle.gnb_types.specs.declared.names.NodeId.TheVariants.{CuCp, CuUp, Du as du_id, Core, Ue}
use Rattle.gnb_types.specs.declared.names.UeId.{UeId}
use Rattle.gnb_types.specs.declared.names.BearerId.{BearerId}
use Rattle.gnb_types.specs.declared.names.SnBits.{SnBits}
use Rattle.gnb_types.specs.declared.names.Dir.TheVariants.{Dl, Ul}
use Rattle.gnb_types.specs.declared.keys.Channel.{Channel}
use Rattle.gnb_types.specs.declared.plans.Peer.{Peer}
use Rattle.gnb_types.specs.declared.plans.Tunnel.{Tunnel}
use Rattle.gnb_types.specs.declared.reasons.DropReason.TheVariants.{Stale, Unexpected}
use Rattle.gnb_types.specs.declared.inputs.Order.TheVariants as orders
use Rattle.gnb_types.specs.declared.outputs.Tag.TheVariants.{Absent}
use Rattle.gnb_types.specs.Orders.{ue_cmp, bearer_cmp}
use Rattle.tables.specs.Tables.{find, IsSorted}
use Rattle.message_types.specs.declared.f1.F1.TheVariants as f1s
use Rattle.transaction_defs.specs.Callers.{is_awaited}
use Rattle.transaction_defs.specs.Callees.{Verdict, new, again, stale, verdict, taken, keep, kept_reply}
use Rattle.unit_defs.specs.Ways.{Message, f1, e1, xn, core, rrc, Pdu, end_marker, Input, control_input, packet_input, radio_input, confirm_input, offer_input, tick_input, order_input, Output, control, packet, Way, Answer, with_outputs, ◌then◌, drops}
use Rattle.unit_defs.specs.Messages.{channel, is_same_gnb, bearers_of, are_first_bearers}
use Rattle.unit_defs.specs.Transactions.{Kind, request, reply, transfer, kind_of, Transactions, replied, request_by, answered_again, on_request, on_reply}
use Rattle.unit_defs.specs.Du.{Du, DuBearer, DuContext, context_of, with_transactions, context_with, closings, released_on, release, relay_up, token_ue, set_up, asked, transferred, of_cu_cp, of_terminal, control_received, setup, modify, du_acts}
use Rattle.proof_node_orders.specs.du_inputs.Changes.{DuModel, model_with, model_in, model_of, Change, stays, sets_up, ends, if_own, of_setup, of_modification, of_request, if_new, of_kind, of_control_message, change_by}
use Rattle.proof_node_orders.specs.du_inputs.Puts.{OnTunnel, tunnels_put, radio_put, of_model, of_change, carried_of, Puts, AreQuiet, IsQuiet}
use Rattle.proof_node_orders.proofs.du_inputs.Contexts.{same_ue, same_bearer}
use Rattle.proof_node_orders.proofs.du_inputs.Control.{setup_quiet}
use Rattle.proof_node_orders.proofs.du_inputs.Ups.{take_puts, pass_puts, confirm_puts}
use Rattle.proof_node_orders.specs.du_puts.Inputs.{IsInOrder, ups_by}
use Rattle.proof_node_orders.proofs.du_puts.Quiet.{quiet_ups, quiet_radio, closings_are_quiet, IsCalm, calm_ups, calm_radio, quiet_puts, start_quiet, set_up_quiet, modify_quiet, relay_down_quiet, relay_up_quiet, tick_quiet}

module _ {M C : Type 0} (way : Way M C Pdu) (ue : UeId) (bearer : BearerId) where
  abbrev PutsBy : Du M C → Change → Answer M Pdu (Du M C) → Type 0
  PutsBy r change a = Puts ue bearer (of_model (of_change way change) (model_of r ue bearer)) (of_model (carried_of change) (model_of r ue bearer)) a

  drops_quietly : (r v : Du M C) → PutsBy r stays (drops Unexpected v)
  unfolding IsQuiet AreQuiet
  drops_quietly r v = quiet_puts way ue bearer r stays tt (drops Unexpected v) tt

  -- ---- a context ends: an End Marker on each uplink

  markers_far : (other : UeId) (es : List (BearerId × DuBearer)) (more : List (Output M Pdu)) → AreQuiet more
      → ((e : BearerId) → (eq_by_cmp ue_cmp ue other && eq_by_cmp bearer_cmp bearer e) ≡ false)
      → tunnels_put ue bearer (map (λ e. packet e.1.up e.1.uplink other e.0 Ul Absent end_marker) es ++ more) ≡ []
  unfolding tunnels_put
  markers_far other [] more quiet far = quiet_ups ue bearer more quiet
  markers_far other (e ∷ es) more quiet far =
      ap (λ b. (if b then record { to = e.1.up; teid = e.1.uplink; load = end_marker } ∷ [] else [])
      ++ tunnels_put ue bearer (map (λ x. packet x.1.up x.1.uplink other x.0 Ul Absent end_marker) es ++ more)) (far e.0)
      ∙ markers_far other es more quiet far

  markers_radio : (other : UeId) (es : List (BearerId × DuBearer)) (more : List (Output M Pdu)) → AreQuiet more
      → radio_put ue bearer (map (λ e. packet e.1.up e.1.uplink other e.0 Ul Absent end_marker) es ++ more) ≡ []
  unfolding radio_put
  markers_radio other [] more quiet = quiet_radio ue bearer more quiet
  markers_radio other (e ∷ es) more quiet = markers_radio other es more quiet

  module _ (other : UeId) (own : eq_by_cmp ue_cmp ue other ≡ true) (more : List (Output M Pdu)) (quiet : AreQuiet more) where
    abbrev put_of : List (BearerId × DuBearer) → List OnTunnel
    put_of es = tunnels_put ue bearer (map (λ e. packet e.1.up e.1.uplink other e.0 Ul Absent end_marker) es ++ more)

    abbrev one_of : DuBearer → List OnTunnel
    one_of b = record { to = b.up; teid = b.uplink; load = end_marker } ∷ []

    marker_is : (e : BearerId × DuBearer) (es : List (BearerId × DuBearer)) (t : Bool) → eq_by_cmp bearer_cmp bearer e.0 ≡ t
        → put_of (e ∷ es) ≡ (if t then one_of e.1 else []) ++ put_of es
    unfolding tunnels_put
    marker_is e es t is = λ i. (if own i && is i then one_of e.1 else []) ++ put_of es

    others_far : (es : List (BearerId × DuBearer)) → AllByRecursion (λ k. bearer_cmp bearer k ≡ Less) (keys_of es) → put_of es ≡ []
    unfolding tunnels_put
    others_far [] all = quiet_ups ue bearer more quiet
    others_far (e ∷ es) all = marker_is e es false (ap is_eq all.0) ∙ others_far es all.1

    markers_here : (c : DuContext) (es : List (BearerId × DuBearer)) → IsSorted bearer_cmp es
        → put_of es ≡ of_model (of_change way ends) (model_with c (find bearer_cmp es bearer))
    unfolding find tunnels_put
    markers_here c [] sorted = quiet_ups ue bearer more quiet
    markers_here c (e ∷ es) sorted = by (eq_by_cmp bearer_cmp bearer e.0) refl (markers_here c es (sorted_tail bearer_cmp e.0 (keys_of es) sorted))
      where
        by : (t : Bool) → eq_by_cmp bearer_cmp bearer e.0 ≡ t → put_of es ≡ of_model (of_change way ends) (model_with c (find bearer_cmp es bearer))
            → put_of (e ∷ es) ≡ of_model (of_change way ends) (model_with c (cond t (Some e.1) (find bearer_cmp es bearer)))
        by true is rest =
            let apart = subst (λ (k : BearerId). AllByRecursion (λ y. bearer_cmp k y ≡ Less) (keys_of es)) (sym (same_bearer bearer e.0 is))
            (sorted_head bearer_cmp e.0 (keys_of es) sorted) in
            marker_is e es true is ∙ ap (λ xs. one_of e.1 ++ xs) (others_far es apart)
        by false is rest = marker_is e es false is ∙ rest

  release_puts : (ch : Channel) (other : UeId) (instance : ℕ) (r : Du M C) → IsInOrder r ue
      → PutsBy r (if_own (eq_by_cmp ue_cmp ue other) ends) (release way ch other instance r)
  unfolding release replied Puts tunnels_put radio_put
  release_puts ch other instance r sorted = by (context_of r other) refl (eq_by_cmp ue_cmp ue other) refl
    where
      first : List (Output M Pdu)
      first = control ch.peer ch.ue (way.encode (f1 (f1s.UeContextReleaseComplete other instance))) ∷ []

      later : Du M C
      later = with_transactions r (record r.transactions {
        callee = keep r.transactions.callee ch (way.encode (f1 (f1s.UeContextReleaseComplete other instance)));
      })

      radio_none : (o : Option DuModel) → ◌≡◌ {A = List (ℕ × Pdu)} [] (of_model (carried_of ends) o)
      radio_none None = refl
      radio_none (Some d) = refl

      by : (o : Option DuContext) → context_of r other ≡ o → (t : Bool) → eq_by_cmp ue_cmp ue other ≡ t
          → PutsBy r (if_own t ends) (with_outputs first (released_on way other later o))
      by None there true is =
          let none : model_of r ue bearer ≡ None = ap (λ k. model_of r k bearer) (same_ue ue other is) ∙ ap (model_in bearer) there in
          (sym (ap (of_model (of_change way ends)) none), radio_none (model_of r ue bearer))
      by None there false is = (calm_ups way stays tt (model_of r ue bearer), calm_radio way stays tt (model_of r ue bearer))
      by (Some c) there true is =
          let name : ue ≡ other = same_ue ue other is in
          let here : model_of r ue bearer ≡ model_in bearer (Some c) = ap (λ k. model_of r k bearer) name ∙ ap (model_in bearer) there in (
            markers_here other is (closings way c) (closings_are_quiet way c) c c.bearers (sorted c (ap (context_of r) name ∙ there))
                ∙ sym (ap (of_model (of_change way ends)) here),
            markers_radio other c.bearers (closings way c) (closings_are_quiet way c) ∙ radio_none (model_of r ue bearer),
          )
      by (Some c) there false is = (
        markers_far other c.bearers (closings way c) (closings_are_quiet way c) (λ e. ap (λ b. b && eq_by_cmp bearer_cmp bearer e) is)
            ∙ calm_ups way stays tt (model_of r ue bearer),
        markers_radio other c.bearers (closings way c) (closings_are_quiet way c) ∙ calm_radio way stays tt (model_of r ue bearer),
      )

  -- ---- requests

  own_calm : (t : Bool) (change : Change) → IsCalm way change → IsCalm way (if_own t change)
  own_calm true change h = h
  own_calm false change h = tt

  setup_calm : (epoch : ℕ) (uplinks : List Tunnel) (sn : SnBits) (peer : Peer) (r : Du M C) → IsCalm way (of_setup way bearer epoch uplinks sn peer r)
  setup_calm epoch uplinks sn peer r = by (not (are_first_bearers (bearers_of uplinks)))
    where
      by : (t : Bool) → IsCalm way (if t then stays else sets_up (model_in bearer (Some (context_with way r epoch uplinks sn peer))))
      by true = tt
      by false = tt

  renews_calm : (epoch : ℕ) (r : Du M C) (o : Option DuContext) → IsCalm way (of_modification bearer epoch r o)
  renews_calm epoch r None = tt
  renews_calm epoch r (Some c) = tt

  asked_puts : (ch : Channel) (message : Message C) (r : Du M C) (t : Transactions M C) → IsInOrder r ue
      → PutsBy r (of_request way ue bearer message r) (asked way ch message (with_transactions r t))
  asked_puts ch (f1 (f1s.UeContextSetupRequest other instance epoch uplinks sn peer)) r t sorted =
      quiet_puts way ue bearer r (if_own (eq_by_cmp ue_cmp ue other) (of_setup way bearer epoch uplinks sn peer r))
      (own_calm (eq_by_cmp ue_cmp ue other) (of_setup way bearer epoch uplinks sn peer r) (setup_calm epoch uplinks sn peer r))
      (setup way ch other instance epoch uplinks sn peer (with_transactions r t))
      (setup_quiet way ch other instance epoch uplinks sn peer (with_transactions r t))
  asked_puts ch (f1 (f1s.UeContextModificationRequest other instance epoch)) r t sorted =
      quiet_puts way ue bearer r (if_own (eq_by_cmp ue_cmp ue other) (of_modification bearer epoch r (context_of r other)))
      (own_calm (eq_by_cmp ue_cmp ue other) (of_modification bearer epoch r (context_of r other)) (renews_calm epoch r (context_of r other)))
      (modify way ch other instance epoch (with_transactions r t)) (modify_quiet way ch other instance epoch (with_transactions r t))
  asked_puts ch (f1 (f1s.UeContextReleaseCommand other instance)) r t sorted = release_puts ch other instance (with_transactions r t) sorted
  asked_puts ch (f1 (f1s.F1SetupRequest instance name)) r t sorted = drops_quietly r (with_transactions r t)
  asked_puts ch (f1 (f1s.F1SetupResponse instance)) r t sorted = drops_quietly r (with_transactions r t)
  asked_puts ch (f1 (f1s.UeContextSetupResponse other instance downlinks)) r t sorted = drops_quietly r (with_transactions r t)
  asked_puts ch (f1 (f1s.UeContextModificationResponse other instance downlinks)) r t sorted = drops_quietly r (with_transactions r t)
  asked_puts ch (f1 (f1s.UeContextReleaseComplete other instance)) r t sorted = drops_quietly r (with_transactions r t)
  asked_puts ch (f1 (f1s.DlRrcMessageTransfer other container)) r t sorted = drops_quietly r (with_transactions r t)
  asked_puts ch (f1 (f1s.UlRrcMessageTransfer other container)) r t sorted = drops_quietly r (with_transactions r t)
  asked_puts ch (e1 message) r t sorted = drops_quietly r (with_transactions r t)
  asked_puts ch (xn message) r t sorted = drops_quietly r (with_transactions r t)
  asked_puts ch (core message) r t sorted = drops_quietly r (with_transactions r t)
  asked_puts ch (rrc token) r t sorted = drops_quietly r (with_transactions r t)

  -- ---- a control message

  quietly : (r : Du M C) (a : Answer M Pdu (Du M C)) → IsQuiet a → PutsBy r stays a
  quietly r a h = quiet_puts way ue bearer r stays tt a h

  transferred_quiet : (message : Message C) (r : Du M C) → IsQuiet (transferred way message r)
  unfolding IsQuiet AreQuiet
  transferred_quiet (f1 (f1s.DlRrcMessageTransfer other container)) r = relay_down_quiet way other container r
  transferred_quiet (f1 (f1s.F1SetupRequest instance name)) r = tt
  transferred_quiet (f1 (f1s.F1SetupResponse instance)) r = tt
  transferred_quiet (f1 (f1s.UeContextSetupRequest other instance epoch uplinks sn peer)) r = tt
  transferred_quiet (f1 (f1s.UeContextSetupResponse other instance downlinks)) r = tt
  transferred_quiet (f1 (f1s.UeContextModificationRequest other instance epoch)) r = tt
  transferred_quiet (f1 (f1s.UeContextModificationResponse other instance downlinks)) r = tt
  transferred_quiet (f1 (f1s.UeContextReleaseCommand other instance)) r = tt
  transferred_quiet (f1 (f1s.UeContextReleaseComplete other instance)) r = tt
  transferred_quiet (f1 (f1s.UlRrcMessageTransfer other container)) r = tt
  transferred_quiet (e1 message) r = tt
  transferred_quiet (xn message) r = tt
  transferred_quiet (core message) r = tt
  transferred_quiet (rrc token) r = tt

  of_cp_puts : (from : NodeId) (message : Message C) (r : Du M C) (kind : Kind) → IsInOrder r ue
      → PutsBy r (of_kind way ue bearer from message r kind) (of_cu_cp way from message r kind)
  unfolding on_request on_reply IsQuiet AreQuiet
  of_cp_puts from message r (request other instance) sorted = by (verdict r.transactions.callee (channel other from) instance)
    where
      again_quiet : (o : Option M) → IsQuiet (answered_again way r (channel other from) o)
      again_quiet None = tt
      again_quiet (Some m) = tt

      by : (v : Verdict) → PutsBy r (if_new way v (of_request way ue bearer message r))
          (request_by way r r.transactions (channel other from) instance (λ t. asked way (channel other from) message (with_transactions r t)) v)
      by new = asked_puts (channel other from) message r (record r.transactions { callee = taken r.transactions.callee (channel other from) instance }) sorted
      by again = quietly r (answered_again way r (channel other from) (kept_reply r.transactions.callee (channel other from)))
          (again_quiet (kept_reply r.transactions.callee (channel other from)))
      by stale = quietly r (drops Stale r) tt
  of_cp_puts from message r (reply other instance) sorted = by (is_awaited r.transactions.caller (channel other from) instance)
    where
      by : (t : Bool) → PutsBy r stays (if t then set_up way (channel other from) r else drops Stale r)
      by true = quietly r (set_up way (channel other from) r) (set_up_quiet way (channel other from) r)
      by false = quietly r (drops Stale r) tt
  of_cp_puts from message r (transfer other) sorted = quietly r (transferred way message r) (transferred_quiet message r)

  terminal_puts : (from : ℕ) (message : Message C) (r : Du M C) → PutsBy r stays (of_terminal way from message r)
  terminal_puts from (rrc token) r = by ((token_ue way token).0 == from)
    where
      by : (t : Bool) → PutsBy r stays (if t then relay_up way (token_ue way token) token r else drops Unexpected r)
      by true = quietly r (relay_up way (token_ue way token) token r) (relay_up_quiet way (token_ue way token) token r)
      by false = drops_quietly r r
  terminal_puts from (f1 message) r = drops_quietly r r
  terminal_puts from (e1 message) r = drops_quietly r r
  terminal_puts from (xn message) r = drops_quietly r r
  terminal_puts from (core message) r = drops_quietly r r

  control_message_puts : (from : NodeId) (message : Message C) (r : Du M C) → IsInOrder r ue
      → PutsBy r (of_control_message way ue bearer from message r) (control_received way from message r)
  unfolding control_received
  control_message_puts (CuCp gnb) message r sorted = by (is_same_gnb gnb r.gnb)
    where
      by : (t : Bool) → PutsBy r (if t then of_kind way ue bearer (CuCp gnb) message r (kind_of message) else stays)
          (if t then of_cu_cp way (CuCp gnb) message r (kind_of message) else drops Unexpected r)
      by true = of_cp_puts (CuCp gnb) message r (kind_of message) sorted
      by false = drops_quietly r r
  control_message_puts (Ue from) message r sorted = terminal_puts from message r
  control_message_puts (CuUp gnb number) message r sorted = drops_quietly r r
  control_message_puts (du_id gnb number) message r sorted = drops_quietly r r
  control_message_puts Core message r sorted = drops_quietly r r

  -- ---- the table

  pub input_puts : (r : Du M C) (input : Input C Pdu) → IsInOrder r ue
      → Puts ue bearer (ups_by way ue bearer r input) (of_model (carried_of (change_by way ue bearer r input)) (model_of r ue bearer)) (du_acts way r input)
  unfolding ups_by change_by du_acts
  input_puts r (control_input from message) sorted = control_message_puts from message r sorted
  input_puts r (packet_input teid item) sorted = take_puts way r ue bearer teid item
  input_puts r (radio_input other q Ul pdu content) sorted = pass_puts way r ue bearer other q pdu
  input_puts r (radio_input other q Dl pdu content) sorted = drops_quietly r r
  input_puts r (confirm_input other q Dl pdu content) sorted = confirm_puts way r ue bearer other q pdu
  input_puts r (confirm_input other q Ul pdu content) sorted = drops_quietly r r
  input_puts r (offer_input other q p) sorted = drops_quietly r r
  input_puts r tick_input sorted = quietly r _ (tick_quiet way r)
  input_puts r (order_input orders.Start) sorted = quietly r _ (start_quiet way r)
  input_puts r (order_input (orders.Attach plan)) sorted = drops_quietly r r
  input_puts r (order_input (orders.Arrive other)) sorted = drops_quietly r r
  input_puts r (order_input (orders.Return other)) sorted = drops_quietly r r
  input_puts r (order_input (orders.Fail other)) sorted = drops_quietly r r
  input_puts r (order_input (orders.Handover plan)) sorted = drops_quietly r r
  input_puts r (order_input (orders.Cancel other)) sorted = drops_quietly r r
  input_puts r (order_input (orders.Release other)) sorted = drops_quietly r r
  input_puts r (order_input (orders.Poll other q)) sorted = drops_quietly r r
