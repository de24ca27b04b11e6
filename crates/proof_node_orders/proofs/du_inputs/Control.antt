-- Control messages: what a request changes, and that the rest changes nothing.
use Rattle.std.proofs.Common.{◌≡◌, ℕ, ◌==◌, Bool, true, false, not, if◌then◌else◌, List, [], ◌∷◌, ◌++◌, length, map, Option, Some, None, refl, sym, ap, subst, ◌∙◌, append_assoc}
use Rattle.std.specs.Ordering.{eq_by_cmp}
use Rattle.gnb_types.specs.declared.names.NodeId.{NodeId}
use Rattle.gnb_types.specs.declared.names.NodeId.TheVariants.{CuCp, CuUp, Du as du_id, Core, Ue}
use Rattle.gnb_types.specs.declared.names.UeId.{UeId}
use Rattle.gnb_types.specs.declared.names.BearerId.{BearerId}
use Rattle.gnb_types.specs.declared.names.SnBits.{SnBits}
use Rattle.gnb_types.specs.declared.names.Dir.TheVariants.{Dl, Ul}
use Rattle.gnb_types.specs.declared.keys.Channel.{Channel}
use Rattle.gnb_types.specs.declared.plans.Peer.{Peer}
use Rattle.gnb_types.specs.declared.plans.Tunnel.{Tunnel}
use Rattle.gnb_types.specs.declared.reasons.DropReason.TheVariants.{Stale, Unexpected}
use Rattle.gnb_types.specs.declared.inputs.Order.TheVariants as orders
use Rattle.gnb_types.specs.declared.outputs.Tag.TheVariants.{Same}
use Rattle.gnb_types.specs.Names.{node_text}
use Rattle.gnb_types.specs.Orders.{ue_cmp, bearer_cmp}
use Rattle.tables.specs.Tables.{find, put, without}
use Rattle.message_types.specs.declared.f1.F1.{F1}
use Rattle.message_types.specs.declared.f1.F1.TheVariants as f1s
use Rattle.transaction_defs.specs.Callers.{close, is_awaited}
use Rattle.transaction_defs.specs.Callees.{Verdict, new, again, stale, verdict, taken, keep, kept_reply}
use Rattle.unit_defs.specs.Ways.{Message, f1, e1, xn, core, rrc, Pdu, Input, control_input, packet_input, radio_input, confirm_input, offer_input, tick_input, order_input, Output, control, packet, uplink, dropped, opened, closed, Way, Answer, gives, spent, with_outputs, ◌then◌, nothing, puts, drops, teids_spent}
use Rattle.unit_defs.specs.Messages.{channel, is_same_gnb, bearers_of, are_first_bearers}
use Rattle.unit_defs.specs.Transactions.{Kind, request, reply, transfer, kind_of, no_instance, Transactions, Asked, ask, advance, replied, request_by, answered_again, on_request, on_reply}
use Rattle.unit_defs.specs.Teids.{teids_are_left}
use Rattle.unit_defs.specs.Du.{Du, DuBearer, DuContext, du_node, downlinks_of, context_of, with_transactions, downlink_list, replies, openings, old_downlinks, replaced, replaces, context_with, setup, context_anew, modify_on, modify, released_on, release, relay_up, token_ue, start, set_up, asked, transferred, of_cu_cp, of_terminal, control_received, of_bearer, of_context, pass_up, confirmed, confirm, tick, du_acts}
use Rattle.proof_node_orders.specs.du_rows.Shown.{Keeps}
use Rattle.proof_node_orders.proofs.du_rows.Contexts.{relay_down_keeps, relay_up_keeps, tick_keeps}
use Rattle.proof_node_orders.specs.du_inputs.Changes.{DuModel, teid_anew, model_in, model_of, Change, stays, renews, sets_up, ends, changed, if_own, of_setup, of_modification, of_request, if_new, of_kind, of_control_message, change_by, Has}
use Rattle.proof_node_orders.specs.du_inputs.Puts.{AreQuiet, IsQuiet}
use Rattle.proof_node_orders.proofs.du_inputs.Contexts.{same_ue, stays_is, ends_is, sets_is, anew_is, put_here, put_far, without_here, without_far, keeps_has}
use Rattle.proof_node_orders.proofs.du_inputs.Frames.{take_has}

module _ {M C P : Type 0} (way : Way M C P) where
  -- ---- rows that keep all contexts and tunnels

  asked_keeps : (r : Du M C) (a : Answer M P (Asked M C)) (more : Transactions M C → Du M C)
      → ((t : Transactions M C) → ((more t).contexts ≡ r.contexts) × ((more t).tunnels ≡ r.tunnels))
      → Keeps r (a then (λ x. nothing (more x.transactions)))
  unfolding Keeps
  asked_keeps r (gives outputs x) more same = same x.transactions
  asked_keeps r (spent counter) more same = tt

  pub start_keeps : (r : Du M C) → Keeps r (start way r)
  unfolding start Keeps
  start_keeps r = by r.is_set_up
    where
      by : (t : Bool) → Keeps r (if t then nothing r else
          (ask way r.transactions (channel 0 (CuCp r.gnb))
          (record { message = f1 (f1s.F1SetupRequest no_instance (node_text (du_node r))); deadline = None; awaited = false })
          then (λ a. nothing (with_transactions r a.transactions))))
      by true = (refl, refl)
      by false = asked_keeps r (ask way r.transactions (channel 0 (CuCp r.gnb))
          (record { message = f1 (f1s.F1SetupRequest no_instance (node_text (du_node r))); deadline = None; awaited = false }))
          (with_transactions r) (λ t. (refl, refl))

  pub set_up_keeps : (ch : Channel) (r : Du M C) → Keeps r (set_up way ch r)
  unfolding set_up
  set_up_keeps ch r = asked_keeps r (advance way (record r.transactions { caller = close r.transactions.caller ch }) ch)
      (λ t. record r { is_set_up = true; transactions = t }) (λ t. (refl, refl))

  pub pass_up_keeps : (ue : UeId) (q : BearerId) (pdu : P) (r : Du M C) → Keeps r (pass_up way ue q pdu r)
  unfolding pass_up Keeps
  pass_up_keeps ue q pdu r = by (context_of r ue)
    where
      row : DuContext → DuBearer → Answer M P (Du M C)
      row c b = puts (packet b.up b.uplink ue q Ul Same (uplink pdu)) r

      by : (o : Option DuContext) → Keeps r (of_context way r row q o)
      by None = (refl, refl)
      by (Some c) = in_context (find bearer_cmp c.bearers q)
        where
          in_context : (o : Option DuBearer) → Keeps r (of_bearer way r row c o)
          in_context None = (refl, refl)
          in_context (Some b) = (refl, refl)

  pub confirm_keeps : (ue : UeId) (q : BearerId) (pdu : P) (r : Du M C) → Keeps r (confirm way ue q pdu r)
  unfolding confirm Keeps
  confirm_keeps ue q pdu r = by (context_of r ue)
    where
      row : DuContext → DuBearer → Answer M P (Du M C)
      row c b = confirmed way ue q r b (way.number c.sn pdu)

      in_row : (c : DuContext) (b : DuBearer) (o : Option ℕ) → Keeps r (confirmed way ue q r b o)
      in_row c b None = (refl, refl)
      in_row c b (Some number) = (refl, refl)

      in_context : (c : DuContext) (o : Option DuBearer) → Keeps r (of_bearer way r row c o)
      in_context c None = (refl, refl)
      in_context c (Some b) = in_row c b (way.number c.sn pdu)

      by : (o : Option DuContext) → Keeps r (of_context way r row q o)
      by None = (refl, refl)
      by (Some c) = in_context c (find bearer_cmp c.bearers q)

module _ {M C : Type 0} (way : Way M C Pdu) (ue : UeId) (bearer : BearerId) where
  abbrev Becomes : Change → Du M C → Answer M Pdu (Du M C) → Type 0
  Becomes change r a = Has ue bearer (changed change (model_of r ue bearer)) a

  kept : (r : Du M C) (a : Answer M Pdu (Du M C)) → Keeps r a → Becomes stays r a
  kept r a k = keeps_has ue bearer r a k

  dropped_too : (r : Du M C) (outputs : List (Output M Pdu)) → Becomes stays r (gives outputs r)
  unfolding Has
  dropped_too r outputs = sym (stays_is (model_of r ue bearer))

  -- ---- requests

  replies_has : (part : Option DuModel) (ch : Channel) (m : F1 C) (outputs : List (Output M Pdu)) (v : Du M C)
      → model_of v ue bearer ≡ part → Has ue bearer part (gives outputs v then replies way ch m)
  unfolding replied Has
  replies_has part ch m outputs v is = is

  -- a context is replaced, and a reply is put
  replaced_has : (other : UeId) (old : Option DuContext) (c : DuContext) (ch : Channel) (m : F1 C) (r : Du M C) (change : Change)
      → (eq_by_cmp ue_cmp ue other ≡ true → model_in bearer (Some c) ≡ changed change (model_of r ue bearer))
      → Becomes (if_own (eq_by_cmp ue_cmp ue other) change) r (replaces way other old c r then replies way ch m)
  unfolding replaces Has
  replaced_has other old c ch m r change own = by_left (teids_are_left r.next_teid (length c.bearers))
    where
      by_ue : (t : Bool) → eq_by_cmp ue_cmp ue other ≡ t
          → model_in bearer (find ue_cmp (put ue_cmp r.contexts other c) ue) ≡ changed (if_own t change) (model_of r ue bearer)
      by_ue true is = ap (λ k. model_in bearer (find ue_cmp (put ue_cmp r.contexts other c) k)) (same_ue ue other is)
          ∙ put_here r.contexts other bearer c ∙ own is
      by_ue false is = put_far r.contexts ue other bearer c is ∙ sym (stays_is (model_of r ue bearer))

      by_left : (t : Bool) → Becomes (if_own (eq_by_cmp ue_cmp ue other) change) r
          ((if t then gives (map (λ teid. closed teid) (old_downlinks way old) ++ openings way c) (replaced way other old c r) else spent teids_spent)
          then replies way ch m)
      by_left true = replies_has (changed (if_own (eq_by_cmp ue_cmp ue other) change) (model_of r ue bearer)) ch m
          (map (λ teid. closed teid) (old_downlinks way old) ++ openings way c) (replaced way other old c r)
          (by_ue (eq_by_cmp ue_cmp ue other) refl)
      by_left false = tt

  own_stays : (t : Bool) (d : Option DuModel) → d ≡ changed (if_own t stays) d
  own_stays true d = sym (stays_is d)
  own_stays false d = sym (stays_is d)

  setup_has : (ch : Channel) (other : UeId) (instance epoch : ℕ) (uplinks : List Tunnel) (sn : SnBits) (peer : Peer) (r : Du M C)
      → Becomes (if_own (eq_by_cmp ue_cmp ue other) (of_setup way bearer epoch uplinks sn peer r)) r
      (setup way ch other instance epoch uplinks sn peer r)
  unfolding setup Has
  setup_has ch other instance epoch uplinks sn peer r = by (are_first_bearers (bearers_of uplinks))
    where
      now : DuContext
      now = context_with way r epoch uplinks sn peer

      part : Option DuModel
      part = model_in bearer (Some now)

      by : (t : Bool) → Becomes (if_own (eq_by_cmp ue_cmp ue other) (if not t then stays else sets_up part)) r
          (if not t then drops Unexpected r else
          (replaces way other (context_of r other) now r then replies way ch (f1s.UeContextSetupResponse other instance (downlink_list now))))
      by true = replaced_has other (context_of r other) now ch (f1s.UeContextSetupResponse other instance (downlink_list now)) r (sets_up part)
          (λ is. sym (sets_is part (model_of r ue bearer)))
      by false = own_stays (eq_by_cmp ue_cmp ue other) (model_of r ue bearer)

  modify_has : (ch : Channel) (other : UeId) (instance epoch : ℕ) (r : Du M C)
      → Becomes (if_own (eq_by_cmp ue_cmp ue other) (of_modification bearer epoch r (context_of r other))) r
      (modify way ch other instance epoch r)
  unfolding modify Has
  modify_has ch other instance epoch r = by (context_of r other) refl
    where
      by : (o : Option DuContext) → context_of r other ≡ o → Becomes (if_own (eq_by_cmp ue_cmp ue other) (of_modification bearer epoch r o)) r
          (modify_on way ch other instance epoch r o)
      by None there = own_stays (eq_by_cmp ue_cmp ue other) (model_of r ue bearer)
      by (Some c) there = replaced_has other (Some c) (context_anew way r epoch c) ch
          (f1s.UeContextModificationResponse other instance (downlink_list (context_anew way r epoch c))) r
          (renews epoch (teid_anew bearer r.next_teid c.bearers))
          (λ is. anew_is epoch bearer c r.next_teid ∙ ap (changed (renews epoch (teid_anew bearer r.next_teid c.bearers)))
          (sym (ap (λ k. model_of r k bearer) (same_ue ue other is) ∙ ap (model_in bearer) there)))

  release_has : (ch : Channel) (other : UeId) (instance : ℕ) (r : Du M C)
      → Becomes (if_own (eq_by_cmp ue_cmp ue other) ends) r (release way ch other instance r)
  unfolding release replied Has
  release_has ch other instance r = by (context_of r other) refl (eq_by_cmp ue_cmp ue other) refl
    where
      first : List (Output M Pdu)
      first = control ch.peer ch.ue (way.encode (f1 (f1s.UeContextReleaseComplete other instance))) ∷ []

      later : Du M C
      later = with_transactions r (record r.transactions {
        callee = keep r.transactions.callee ch (way.encode (f1 (f1s.UeContextReleaseComplete other instance)));
      })

      by : (o : Option DuContext) → context_of r other ≡ o → (t : Bool) → eq_by_cmp ue_cmp ue other ≡ t
          → Becomes (if_own t ends) r (with_outputs first (released_on way other later o))
      by None there true is = ap (λ k. model_of r k bearer) (same_ue ue other is) ∙ ap (model_in bearer) there ∙ sym (ends_is (model_of r ue bearer))
      by None there false is = sym (stays_is (model_of r ue bearer))
      by (Some c) there true is = ap (λ k. model_in bearer (find ue_cmp (without ue_cmp r.contexts other) k)) (same_ue ue other is)
          ∙ without_here r.contexts other bearer ∙ sym (ends_is (model_of r ue bearer))
      by (Some c) there false is = without_far r.contexts ue other bearer is ∙ sym (stays_is (model_of r ue bearer))

  unmoved : (r : Du M C) (t : Transactions M C) → Becomes stays r (drops Unexpected (with_transactions r t))
  unfolding Has
  unmoved r t = sym (stays_is (model_of r ue bearer))

  asked_has : (ch : Channel) (message : Message C) (r : Du M C) (t : Transactions M C)
      → Becomes (of_request way ue bearer message r) r (asked way ch message (with_transactions r t))
  asked_has ch (f1 (f1s.UeContextSetupRequest other instance epoch uplinks sn peer)) r t =
      setup_has ch other instance epoch uplinks sn peer (with_transactions r t)
  asked_has ch (f1 (f1s.UeContextModificationRequest other instance epoch)) r t = modify_has ch other instance epoch (with_transactions r t)
  asked_has ch (f1 (f1s.UeContextReleaseCommand other instance)) r t = release_has ch other instance (with_transactions r t)
  asked_has ch (f1 (f1s.F1SetupRequest instance name)) r t = unmoved r t
  asked_has ch (f1 (f1s.F1SetupResponse instance)) r t = unmoved r t
  asked_has ch (f1 (f1s.UeContextSetupResponse other instance downlinks)) r t = unmoved r t
  asked_has ch (f1 (f1s.UeContextModificationResponse other instance downlinks)) r t = unmoved r t
  asked_has ch (f1 (f1s.UeContextReleaseComplete other instance)) r t = unmoved r t
  asked_has ch (f1 (f1s.DlRrcMessageTransfer other container)) r t = unmoved r t
  asked_has ch (f1 (f1s.UlRrcMessageTransfer other container)) r t = unmoved r t
  asked_has ch (e1 message) r t = unmoved r t
  asked_has ch (xn message) r t = unmoved r t
  asked_has ch (core message) r t = unmoved r t
  asked_has ch (rrc token) r t = unmoved r t

  -- ---- a control message

  transferred_keeps : (message : Message C) (r : Du M C) → Keeps r (transferred way message r)
  unfolding Keeps
  transferred_keeps (f1 (f1s.F1SetupRequest instance name)) r = (refl, refl)
  transferred_keeps (f1 (f1s.F1SetupResponse instance)) r = (refl, refl)
  transferred_keeps (f1 (f1s.UeContextSetupRequest other instance epoch uplinks sn peer)) r = (refl, refl)
  transferred_keeps (f1 (f1s.UeContextSetupResponse other instance downlinks)) r = (refl, refl)
  transferred_keeps (f1 (f1s.UeContextModificationRequest other instance epoch)) r = (refl, refl)
  transferred_keeps (f1 (f1s.UeContextModificationResponse other instance downlinks)) r = (refl, refl)
  transferred_keeps (f1 (f1s.UeContextReleaseCommand other instance)) r = (refl, refl)
  transferred_keeps (f1 (f1s.UeContextReleaseComplete other instance)) r = (refl, refl)
  transferred_keeps (f1 (f1s.UlRrcMessageTransfer other container)) r = (refl, refl)
  transferred_keeps (e1 message) r = (refl, refl)
  transferred_keeps (xn message) r = (refl, refl)
  transferred_keeps (core message) r = (refl, refl)
  transferred_keeps (rrc token) r = (refl, refl)
  transferred_keeps (f1 (f1s.DlRrcMessageTransfer other container)) r = relay_down_keeps way other container r

  of_cp_has : (from : NodeId) (message : Message C) (r : Du M C) (kind : Kind) → Becomes (of_kind way ue bearer from message r kind) r (of_cu_cp way from message r kind)
  unfolding on_request on_reply
  of_cp_has from message r (request other instance) = by (verdict r.transactions.callee (channel other from) instance)
    where
      again_has : (o : Option M) → Becomes stays r (answered_again way r (channel other from) o)
      again_has None = dropped_too r []
      again_has (Some m) = dropped_too r (control from other m ∷ [])

      by : (v : Verdict) → Becomes (if_new way v (of_request way ue bearer message r)) r
          (request_by way r r.transactions (channel other from) instance (λ t. asked way (channel other from) message (with_transactions r t)) v)
      by new = asked_has (channel other from) message r (record r.transactions { callee = taken r.transactions.callee (channel other from) instance })
      by again = again_has (kept_reply r.transactions.callee (channel other from))
      by stale = dropped_too r (dropped Stale ∷ [])
  of_cp_has from message r (reply other instance) = by (is_awaited r.transactions.caller (channel other from) instance)
    where
      by : (t : Bool) → Becomes stays r (if t then set_up way (channel other from) r else drops Stale r)
      by true = kept r (set_up way (channel other from) r) (set_up_keeps way (channel other from) r)
      by false = dropped_too r (dropped Stale ∷ [])
  of_cp_has from message r (transfer other) = kept r (transferred way message r) (transferred_keeps message r)

  terminal_has : (from : ℕ) (message : Message C) (r : Du M C) → Becomes stays r (of_terminal way from message r)
  terminal_has from (rrc token) r = by ((token_ue way token).0 == from)
    where
      by : (t : Bool) → Becomes stays r (if t then relay_up way (token_ue way token) token r else drops Unexpected r)
      by true = kept r (relay_up way (token_ue way token) token r) (relay_up_keeps way (token_ue way token) token r)
      by false = dropped_too r (dropped Unexpected ∷ [])
  terminal_has from (f1 message) r = dropped_too r (dropped Unexpected ∷ [])
  terminal_has from (e1 message) r = dropped_too r (dropped Unexpected ∷ [])
  terminal_has from (xn message) r = dropped_too r (dropped Unexpected ∷ [])
  terminal_has from (core message) r = dropped_too r (dropped Unexpected ∷ [])

  control_message_has : (from : NodeId) (message : Message C) (r : Du M C) → Becomes (of_control_message way ue bearer from message r) r (control_received way from message r)
  unfolding control_received
  control_message_has (CuCp gnb) message r = by (is_same_gnb gnb r.gnb)
    where
      by : (t : Bool) → Becomes (if t then of_kind way ue bearer (CuCp gnb) message r (kind_of message) else stays) r
          (if t then of_cu_cp way (CuCp gnb) message r (kind_of message) else drops Unexpected r)
      by true = of_cp_has (CuCp gnb) message r (kind_of message)
      by false = dropped_too r (dropped Unexpected ∷ [])
  control_message_has (Ue from) message r = terminal_has from message r
  control_message_has (CuUp gnb number) message r = dropped_too r (dropped Unexpected ∷ [])
  control_message_has (du_id gnb number) message r = dropped_too r (dropped Unexpected ∷ [])
  control_message_has Core message r = dropped_too r (dropped Unexpected ∷ [])

  -- ---- the table

  pub input_has : (r : Du M C) (input : Input C Pdu) → Has ue bearer (changed (change_by way ue bearer r input) (model_of r ue bearer)) (du_acts way r input)
  unfolding change_by du_acts
  input_has r (control_input from message) = control_message_has from message r
  input_has r (packet_input teid item) = take_has way r ue bearer teid item
  input_has r (radio_input other q Ul pdu content) = kept r (pass_up way other q pdu r) (pass_up_keeps way other q pdu r)
  input_has r (radio_input other q Dl pdu content) = dropped_too r (dropped Unexpected ∷ [])
  input_has r (confirm_input other q Dl pdu content) = kept r (confirm way other q pdu r) (confirm_keeps way other q pdu r)
  input_has r (confirm_input other q Ul pdu content) = dropped_too r (dropped Unexpected ∷ [])
  input_has r (offer_input other q p) = dropped_too r (dropped Unexpected ∷ [])
  input_has r tick_input = kept r (tick way r) (tick_keeps way r)
  input_has r (order_input orders.Start) = kept r (start way r) (start_keeps way r)
  input_has r (order_input (orders.Attach plan)) = dropped_too r (dropped Unexpected ∷ [])
  input_has r (order_input (orders.Arrive other)) = dropped_too r (dropped Unexpected ∷ [])
  input_has r (order_input (orders.Return other)) = dropped_too r (dropped Unexpected ∷ [])
  input_has r (order_input (orders.Fail other)) = dropped_too r (dropped Unexpected ∷ [])
  input_has r (order_input (orders.Handover plan)) = dropped_too r (dropped Unexpected ∷ [])
  input_has r (order_input (orders.Cancel other)) = dropped_too r (dropped Unexpected ∷ [])
  input_has r (order_input (orders.Release other)) = dropped_too r (dropped Unexpected ∷ [])
  input_has r (order_input (orders.Poll other q)) = dropped_too r (dropped Unexpected ∷ [])

-- ---- a setup puts no packet

module _ {M C : Type 0} (way : Way M C Pdu) where
  closings_quiet : (teids : List ℕ) (more : List (Output M Pdu)) → AreQuiet more → AreQuiet (map (λ teid. closed teid) teids ++ more)
  unfolding AreQuiet
  closings_quiet [] more h = h
  closings_quiet (teid ∷ teids) more h = closings_quiet teids more h

  openings_quiet : (teids : List ℕ) (more : List (Output M Pdu)) → AreQuiet more → AreQuiet (map (λ teid. opened teid) teids ++ more)
  unfolding AreQuiet
  openings_quiet [] more h = h
  openings_quiet (teid ∷ teids) more h = openings_quiet teids more h

  pub setup_quiet : (ch : Channel) (other : UeId) (instance epoch : ℕ) (uplinks : List Tunnel) (sn : SnBits) (peer : Peer) (r : Du M C)
      → IsQuiet (setup way ch other instance epoch uplinks sn peer r)
  unfolding setup replaces replied IsQuiet AreQuiet
  setup_quiet ch other instance epoch uplinks sn peer r =
      by (are_first_bearers (bearers_of uplinks)) (teids_are_left r.next_teid (length now.bearers))
    where
      now : DuContext
      now = context_with way r epoch uplinks sn peer

      old : List (Output M Pdu)
      old = map (λ teid. closed teid) (old_downlinks way (context_of r other))

      answer : F1 C
      answer = f1s.UeContextSetupResponse other instance (downlink_list now)

      last : List (Output M Pdu)
      last = control ch.peer ch.ue (way.encode (f1 answer)) ∷ []

      by : (first left : Bool) → IsQuiet (if not first then drops Unexpected r else
          ((if left then gives (old ++ openings way now) (replaced way other (context_of r other) now r) else spent teids_spent)
          then replies way ch answer))
      by false left = tt
      by true false = tt
      by true true = subst (λ xs. AreQuiet xs) (sym (append_assoc old (openings way now) last))
          (closings_quiet (old_downlinks way (context_of r other)) (openings way now ++ last)
          (openings_quiet (downlinks_of now) last tt))
