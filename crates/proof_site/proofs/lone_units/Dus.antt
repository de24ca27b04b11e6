-- A DU holds nothing and refuses nothing.
use Rattle.std.proofs.Common.{◌≡◌, ◌==◌, ℕ, ◌+◌, Bool, true, false, not, ◌||◌, List, [], ◌∷◌, ◌++◌, length, map, Option, Some, None, refl}
use Rattle.std.specs.Prelude.{if◌then◌else◌}
use Rattle.std.specs.Ordering.{nat_cmp}
use Rattle.std.specs.List.{AllByRecursion}
use Rattle.gnb_types.specs.declared.names.NodeId.{NodeId}
use Rattle.gnb_types.specs.declared.names.NodeId.TheVariants.{CuCp, Ue}
use Rattle.gnb_types.specs.declared.names.UeId.{UeId}
use Rattle.gnb_types.specs.declared.names.BearerId.{BearerId}
use Rattle.gnb_types.specs.declared.names.SnBits.{SnBits}
use Rattle.gnb_types.specs.declared.names.Dir.TheVariants.{Dl, Ul}
use Rattle.gnb_types.specs.declared.keys.Channel.{Channel}
use Rattle.gnb_types.specs.declared.plans.Peer.{Peer}
use Rattle.gnb_types.specs.declared.plans.Tunnel.{Tunnel}
use Rattle.gnb_types.specs.declared.inputs.Order.TheVariants as orders
use Rattle.gnb_types.specs.declared.outputs.Tag.TheVariants.{Absent, Same}
use Rattle.gnb_types.specs.declared.reasons.DropReason.TheVariants.{Unexpected}
use Rattle.gnb_types.specs.Names.{node_text}
use Rattle.gnb_types.specs.Orders.{bearer_cmp}
use Rattle.tables.specs.Tables.{find}
use Rattle.transaction_defs.specs.Callers.{close, due, Due, repeats, expires}
use Rattle.message_types.specs.declared.f1.F1.{F1}
use Rattle.message_types.specs.declared.f1.F1.TheVariants as f1s
use Rattle.message_types.specs.declared.rrc.Token.{Token}
use Rattle.unit_defs.specs.Ways.{Message, f1, rrc, uplink, status, end_marker, Taken, frame_item, Output, packet, opened, closed, Input, control_input, packet_input, radio_input, confirm_input, tick_input, order_input, Way, Answer, gives, spent, ◌then◌, nothing, puts, drops, teids_spent}
use Rattle.unit_defs.specs.Messages.{channel, is_same_gnb, bearers_of, are_first_bearers}
use Rattle.unit_defs.specs.Teids.{teids_are_left}
use Rattle.unit_defs.specs.Transactions.{Kind, request, reply, transfer, kind_of, no_instance, ask, advance, replied}
use Rattle.unit_defs.specs.Du.{DuBearer, DuContext, DuTunnel, Du, du_node, context_of, with_transactions, downlinks_of, downlink_list, replies, closings, openings, old_downlinks, replaced, replaces, context_with, setup, context_anew, modify_on, modify, end_markers, released_on, release, relayed_down, relay_down, relayed_up, relay_up, token_ue, start, set_up, asked, transferred, of_cu_cp, of_terminal, control_received, missing, is_missing, told, gap_after, carried, with_bearer, frame_received, taken_in, taken_of, taken_on, take, of_bearer, of_context, pass_up, confirmed, confirm, due_output, tick, du_acts}
use Rattle.proof_site.specs.lone_units.Lone.{IsMade, Makes, StaysWhereLone}
use Rattle.proof_site.proofs.lone_units.Steps.{all_append, all_map, all_flat, either as either_way, after as after_one, made_stays, ask_made, advance_made, replied_made, on_request_made, on_reply_made}

module _ {M C P : Type 0} (way : Way M C P) where
  abbrev Fits : Answer M P (Du M C) → Type 0
  Fits a = Makes a

  abbrev Put : List (Output M P) → Type 0
  Put os = AllByRecursion IsMade os

  either : (t : Bool) (x y : Answer M P (Du M C)) → Fits x → Fits y → Fits (if t then x else y)
  either t x y p q = either_way t x y p q

  after : {R : Type 0} (a : Answer M P R) (f : R → Answer M P (Du M C)) → Makes a → ((r : R) → Fits (f r)) → Fits (a then f)
  after a f p q = after_one a f p q

  replies_made : (ch : Channel) (m : F1 C) (r : Du M C) → Fits (replies way ch m r)
  replies_made ch m r =
      after (replied way r.transactions ch (f1 m)) (λ t. nothing (with_transactions r t)) (replied_made way r.transactions ch (f1 m)) (λ t. tt)

  -- ---- contexts

  closed_made : (teids : List ℕ) → Put (map (λ teid. closed teid) teids)
  closed_made teids = all_map IsMade (λ teid. closed teid) (λ teid. tt) teids

  replaced_makes : (ch : Channel) (ue : UeId) (old : Option DuContext) (c : DuContext) (m : F1 C) (r : Du M C) → Fits (replaces way ue old c r then replies way ch m)
  unfolding replaces
  replaced_makes ch ue old c m r =
      after (replaces way ue old c r) (replies way ch m)
      (either (teids_are_left r.next_teid (length c.bearers))
      (gives (map (λ teid. closed teid) (old_downlinks way old) ++ openings way c) (replaced way ue old c r)) (spent teids_spent)
      (all_append IsMade (map (λ teid. closed teid) (old_downlinks way old)) (openings way c) (closed_made (old_downlinks way old))
      (all_map IsMade (λ teid. opened teid) (λ teid. tt) (downlinks_of c))) tt) (replies_made ch m)

  setup_makes : (ch : Channel) (ue : UeId) (instance epoch : ℕ) (uplinks : List Tunnel) (sn : SnBits) (peer : Peer) (r : Du M C)
      → Fits (setup way ch ue instance epoch uplinks sn peer r)
  unfolding setup
  setup_makes ch ue instance epoch uplinks sn peer r =
      either (not (are_first_bearers (bearers_of uplinks))) (drops Unexpected r) _ (tt, tt)
      (replaced_makes ch ue (context_of r ue) (context_with way r epoch uplinks sn peer)
      (f1s.UeContextSetupResponse ue instance (downlink_list (context_with way r epoch uplinks sn peer))) r)

  modify_makes : (ch : Channel) (ue : UeId) (instance epoch : ℕ) (r : Du M C) (c : Option DuContext) → Fits (modify_on way ch ue instance epoch r c)
  modify_makes ch ue instance epoch r None = (tt, tt)
  modify_makes ch ue instance epoch r (Some c) =
      replaced_makes ch ue (Some c) (context_anew way r epoch c) (f1s.UeContextModificationResponse ue instance (downlink_list (context_anew way r epoch c))) r

  released_makes : (ue : UeId) (r : Du M C) (c : Option DuContext) → Fits (released_on way ue r c)
  released_makes ue r None = tt
  released_makes ue r (Some c) =
      all_append IsMade (end_markers way ue c) (closings way c)
      (all_map IsMade (λ e. packet e.1.up e.1.uplink ue e.0 Ul Absent end_marker) (λ e. tt) c.bearers) (closed_made (downlinks_of c))

  release_makes : (ch : Channel) (ue : UeId) (instance : ℕ) (r : Du M C) → Fits (release way ch ue instance r)
  unfolding release
  release_makes ch ue instance r =
      after (replies way ch (f1s.UeContextReleaseComplete ue instance) r) (λ s. released_on way ue s (context_of s ue))
      (replies_made ch (f1s.UeContextReleaseComplete ue instance) r) (λ s. released_makes ue s (context_of s ue))

  -- ---- control messages

  asked_makes : (ch : Channel) (m : Message C) (r : Du M C) → Fits (asked way ch m r)
  unfolding modify
  asked_makes ch (f1 (f1s.UeContextSetupRequest ue instance epoch uplinks sn peer)) r = setup_makes ch ue instance epoch uplinks sn peer r
  asked_makes ch (f1 (f1s.UeContextModificationRequest ue instance epoch)) r = modify_makes ch ue instance epoch r (context_of r ue)
  asked_makes ch (f1 (f1s.UeContextReleaseCommand ue instance)) r = release_makes ch ue instance r
  asked_makes ch m r = (tt, tt)

  relayed_down_makes : (ue : UeId) (container : C) (r : Du M C) (c : Option DuContext) → Fits (relayed_down way ue container r c)
  relayed_down_makes ue container r None = (tt, tt)
  relayed_down_makes ue container r (Some c) = (tt, tt)

  transferred_makes : (m : Message C) (r : Du M C) → Fits (transferred way m r)
  unfolding relay_down
  transferred_makes (f1 (f1s.DlRrcMessageTransfer ue container)) r = relayed_down_makes ue container r (context_of r ue)
  transferred_makes m r = (tt, tt)

  relayed_up_makes : (ue : UeId) (token : Token) (r : Du M C) (c : Option DuContext) → Fits (relayed_up way ue token r c)
  relayed_up_makes ue token r None = (tt, tt)
  relayed_up_makes ue token r (Some c) = (tt, tt)

  of_terminal_makes : (ue : ℕ) (m : Message C) (r : Du M C) → Fits (of_terminal way ue m r)
  unfolding relay_up
  of_terminal_makes ue (rrc token) r =
      either ((token_ue way token).0 == ue) _ (drops Unexpected r) (relayed_up_makes (token_ue way token) token r (context_of r (token_ue way token))) (tt, tt)
  of_terminal_makes ue m r = (tt, tt)

  set_up_makes : (ch : Channel) (r : Du M C) → Fits (set_up way ch r)
  unfolding set_up
  set_up_makes ch r =
      after (advance way (record r.transactions { caller = close r.transactions.caller ch }) ch)
      (λ a. nothing (record r { is_set_up = true; transactions = a.transactions }))
      (advance_made way (record r.transactions { caller = close r.transactions.caller ch }) ch) (λ a. tt)

  of_cp_makes : (from : NodeId) (m : Message C) (r : Du M C) (k : Kind) → Fits (of_cu_cp way from m r k)
  of_cp_makes from m r (request ue i) =
      on_request_made way r r.transactions (channel ue from) i (λ t. asked way (channel ue from) m (with_transactions r t))
      (λ t. asked_makes (channel ue from) m (with_transactions r t))
  of_cp_makes from m r (reply ue i) =
      on_reply_made way r r.transactions (channel ue from) i (set_up way (channel ue from) r) (set_up_makes (channel ue from) r)
  of_cp_makes from m r (transfer ue) = transferred_makes m r

  control_makes : (from : NodeId) (m : Message C) (r : Du M C) → Fits (control_received way from m r)
  unfolding control_received
  control_makes (CuCp gnb) m r =
      either (is_same_gnb gnb r.gnb) (of_cu_cp way (CuCp gnb) m r (kind_of m)) (drops Unexpected r) (of_cp_makes (CuCp gnb) m r (kind_of m)) (tt, tt)
  control_makes (Ue ue) m r = of_terminal_makes ue m r
  control_makes from m r = (tt, tt)

  -- ---- packets: a frame's PDU to the radio, and a radio's PDU up

  told_made : (ue : UeId) (bearer : BearerId) (b : DuBearer) (poll : Bool) (number : ℕ) → Put (told way ue bearer b poll number)
  told_made ue bearer b poll number = by (is_missing way b number || poll)
    where
      by : (t : Bool) → Put (if t then packet b.up b.uplink ue bearer Dl Absent (status (missing way b number) None) ∷ [] else [])
      by true = (tt, tt)
      by false = tt

  carried_makes : (ue : UeId) (bearer : BearerId) (c : DuContext) (gap : Bool) (pdu : Option P) (r : Du M C) → Fits (carried way ue bearer c gap pdu r)
  carried_makes ue bearer c gap None r = tt
  carried_makes ue bearer c true (Some pdu) r = (tt, tt)
  carried_makes ue bearer c false (Some pdu) r = (tt, tt)

  frame_makes : (ue : UeId) (bearer : BearerId) (c : DuContext) (b : DuBearer) (item : Taken P) (r : Du M C) → Fits (frame_received way ue bearer c b item r)
  frame_makes ue bearer c b (frame_item poll restart number pdu) r =
      let on : DuBearer = record b { awaited = number + 1; gap = gap_after way b number restart pdu } in
      after (gives (told way ue bearer b poll number) (with_bearer way ue bearer c on r)) (carried way ue bearer c (gap_after way b number restart pdu) pdu)
      (told_made ue bearer b poll number) (λ s. carried_makes ue bearer c (gap_after way b number restart pdu) pdu s)
  frame_makes ue bearer c b item r = (tt, tt)

  take_makes : (teid : ℕ) (item : Taken P) (r : Du M C) → Fits (take way teid item r)
  unfolding take
  take_makes teid item r = by (find nat_cmp r.tunnels teid)
    where
      in_bearer : (ue : UeId) (bearer : BearerId) (c : DuContext) (b : Option DuBearer) → Fits (taken_in way ue bearer c item r b)
      in_bearer ue bearer c None = (tt, tt)
      in_bearer ue bearer c (Some b) = frame_makes ue bearer c b item r

      in_context : (ue : UeId) (bearer : BearerId) (c : Option DuContext) → Fits (taken_of way ue bearer item r c)
      in_context ue bearer None = (tt, tt)
      in_context ue bearer (Some c) = in_bearer ue bearer c (find bearer_cmp c.bearers bearer)

      by : (t : Option DuTunnel) → Fits (taken_on way item r t)
      by None = (tt, tt)
      by (Some t) = in_context t.ue t.bearer (context_of r t.ue)

  of_context_makes : (r : Du M C) (row : DuContext → DuBearer → Answer M P (Du M C)) (bearer : BearerId) (c : Option DuContext)
      → ((d : DuContext) (b : DuBearer) → Fits (row d b)) → Fits (of_context way r row bearer c)
  of_context_makes r row bearer None each = (tt, tt)
  of_context_makes r row bearer (Some c) each = by (find bearer_cmp c.bearers bearer)
    where
      by : (b : Option DuBearer) → Fits (of_bearer way r row c b)
      by None = (tt, tt)
      by (Some b) = each c b

  confirmed_makes : (ue : UeId) (bearer : BearerId) (r : Du M C) (b : DuBearer) (number : Option ℕ) → Fits (confirmed way ue bearer r b number)
  confirmed_makes ue bearer r b None = tt
  confirmed_makes ue bearer r b (Some number) = (tt, tt)

  -- ---- F1 Setup, a tick, and the table

  start_makes : (r : Du M C) → Fits (start way r)
  unfolding start
  start_makes r =
      either r.is_set_up (nothing r) _ tt
      (after (ask way r.transactions (channel 0 (CuCp r.gnb))
      (record { message = f1 (f1s.F1SetupRequest no_instance (node_text (du_node r))); deadline = None; awaited = false }))
      (λ a. nothing (with_transactions r a.transactions)) (ask_made way r.transactions (channel 0 (CuCp r.gnb)) _) (λ a. tt))

  due_makes : (d : Due M) → Put (due_output way d)
  due_makes (repeats ch m) = (tt, tt)
  due_makes (expires ch) = tt

  tick_makes : (r : Du M C) → Fits (tick way r)
  unfolding tick
  tick_makes r = all_flat IsMade (due_output way) due_makes (due r.transactions.caller)

  pub du_makes : (r : Du M C) (input : Input C P) → Fits (du_acts way r input)
  unfolding du_acts pass_up confirm
  du_makes r (control_input from m) = control_makes from m r
  du_makes r (packet_input teid item) = take_makes teid item r
  du_makes r (radio_input ue bearer Ul pdu content) =
      of_context_makes r (λ c b. puts (packet b.up b.uplink ue bearer Ul Same (uplink pdu)) r) bearer (context_of r ue) (λ d b. (tt, tt))
  du_makes r (confirm_input ue bearer Dl pdu content) =
      of_context_makes r (λ c b. confirmed way ue bearer r b (way.number c.sn pdu)) bearer (context_of r ue) (λ d b. confirmed_makes ue bearer r b (way.number d.sn pdu))
  du_makes r tick_input = tick_makes r
  du_makes r (order_input orders.Start) = start_makes r
  du_makes r input = (tt, tt)

  pub du_stays : (r : Du M C) (input : Input C P) → StaysWhereLone r (du_acts way r input)
  du_stays r input = made_stays r (du_acts way r input) (du_makes r input)
