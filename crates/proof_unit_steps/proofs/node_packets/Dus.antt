-- A DU: what it puts has the property where what the input brings has it.
use Rattle.std.proofs.Common.{◌≡◌, ◌==◌, ℕ, ◌+◌, Bool, true, false, not, ◌||◌, List, [], ◌∷◌, ◌++◌, length, map, Option, Some, None, refl}
use Rattle.std.specs.Prelude.{if◌then◌else◌}
use Rattle.std.specs.Ordering.{nat_cmp}
use Rattle.std.specs.List.{AllByRecursion}
use Rattle.gnb_types.specs.declared.names.NodeId.{NodeId}
use Rattle.gnb_types.specs.declared.names.NodeId.TheVariants.{CuCp, Ue}
use Rattle.gnb_types.specs.declared.names.UeId.{UeId}
use Rattle.gnb_types.specs.declared.names.BearerId.{BearerId}
use Rattle.gnb_types.specs.declared.names.SnBits.{SnBits}
use Rattle.gnb_types.specs.declared.names.Dir.TheVariants.{Dl, Ul}
use Rattle.gnb_types.specs.declared.keys.Channel.{Channel}
use Rattle.gnb_types.specs.declared.plans.Peer.{Peer}
use Rattle.gnb_types.specs.declared.plans.Tunnel.{Tunnel}
use Rattle.gnb_types.specs.declared.inputs.Order.TheVariants as orders
use Rattle.gnb_types.specs.declared.outputs.Tag.TheVariants.{Absent, Same}
use Rattle.gnb_types.specs.declared.reasons.DropReason.TheVariants.{Unexpected}
use Rattle.gnb_types.specs.Names.{node_text}
use Rattle.gnb_types.specs.Orders.{bearer_cmp}
use Rattle.tables.specs.Tables.{find}
use Rattle.transaction_defs.specs.Callers.{close, due, Due, repeats, expires}
use Rattle.message_types.specs.declared.f1.F1.{F1}
use Rattle.message_types.specs.declared.f1.F1.TheVariants as f1s
use Rattle.message_types.specs.declared.rrc.Token.{Token}
use Rattle.unit_defs.specs.Ways.{Message, f1, rrc, uplink, status, end_marker, Taken, frame_item, Output, packet, opened, closed, Input, control_input, packet_input, radio_input, confirm_input, tick_input, order_input, Way, Answer, gives, spent, ◌then◌, nothing, puts, drops, teids_spent}
use Rattle.unit_defs.specs.Messages.{channel, is_same_gnb, bearers_of, are_first_bearers}
use Rattle.unit_defs.specs.Teids.{teids_are_left}
use Rattle.unit_defs.specs.Transactions.{Kind, request, reply, transfer, kind_of, no_instance, ask, advance, replied}
use Rattle.unit_defs.specs.Du.{DuBearer, DuContext, DuTunnel, Du, du_node, context_of, with_transactions, downlinks_of, downlink_list, replies, closings, openings, old_downlinks, replaced, replaces, context_with, setup, context_anew, modify_on, modify, end_markers, released_on, release, relayed_down, relay_down, relayed_up, relay_up, token_ue, start, set_up, asked, transferred, of_cu_cp, of_terminal, control_received, missing, is_missing, told, gap_after, carried, with_bearer, frame_received, taken_in, taken_of, taken_on, take, of_bearer, of_context, pass_up, confirmed, confirm, due_output, tick, du_acts}
use Rattle.intervals.proofs.Intervals.{all_append}
use Rattle.proof_unit_steps.specs.packets.Packets.{of, Property, PayloadHas, TakenHas, DuInputHas, OutputHas, OutputsHave}
use Rattle.proof_unit_steps.proofs.packets.Answers.{all_map, all_flat, either as either_way, after_any, ask_has, advance_has, replied_has, on_request_has, on_reply_has}

module _ {M C P : Type 0} {way : Way M C P} (has : Property way) where
  abbrev Fits : Answer M P (Du M C) → Type 0
  Fits a = OutputsHave has a

  abbrev Put : List (Output M P) → Type 0
  Put os = AllByRecursion (OutputHas has) os

  either : (t : Bool) (x y : Answer M P (Du M C)) → Fits x → Fits y → Fits (if t then x else y)
  either t x y p q = either_way has (λ (r : Du M C). Unit {0}) t x y p q

  after : {R : Type 0} (a : Answer M P R) (f : R → Answer M P (Du M C)) → OutputsHave has a → ((r : R) → Fits (f r)) → Fits (a then f)
  after a f p q = after_any has (λ (r : Du M C). Unit {0}) a f p q

  replies_have : (ch : Channel) (m : F1 C) (r : Du M C) → Fits (replies way ch m r)
  replies_have ch m r =
      after (replied way r.transactions ch (f1 m)) (λ t. nothing (with_transactions r t)) (replied_has has r.transactions ch (f1 m)) (λ t. (tt, tt))

  -- ---- contexts

  closed_have : (teids : List ℕ) → Put (map (λ teid. closed teid) teids)
  closed_have teids = all_map (OutputHas has) (λ teid. closed teid) (λ teid. tt) teids

  replaced_has : (ch : Channel) (ue : UeId) (old : Option DuContext) (c : DuContext) (m : F1 C) (r : Du M C) → Fits (replaces way ue old c r then replies way ch m)
  unfolding replaces
  replaced_has ch ue old c m r =
      after (replaces way ue old c r) (replies way ch m)
      (either (teids_are_left r.next_teid (length c.bearers))
      (gives (map (λ teid. closed teid) (old_downlinks way old) ++ openings way c) (replaced way ue old c r)) (spent teids_spent) (
        tt,
        all_append (OutputHas has) (map (λ teid. closed teid) (old_downlinks way old)) (openings way c) (closed_have (old_downlinks way old))
            (all_map (OutputHas has) (λ teid. opened teid) (λ teid. tt) (downlinks_of c)),
      ) tt) (replies_have ch m)

  setup_has : (ch : Channel) (ue : UeId) (instance epoch : ℕ) (uplinks : List Tunnel) (sn : SnBits) (peer : Peer) (r : Du M C)
      → Fits (setup way ch ue instance epoch uplinks sn peer r)
  unfolding setup
  setup_has ch ue instance epoch uplinks sn peer r =
      either (not (are_first_bearers (bearers_of uplinks))) (drops Unexpected r) _ (tt, (tt, tt))
      (replaced_has ch ue (context_of r ue) (context_with way r epoch uplinks sn peer)
      (f1s.UeContextSetupResponse ue instance (downlink_list (context_with way r epoch uplinks sn peer))) r)

  modify_has : (ch : Channel) (ue : UeId) (instance epoch : ℕ) (r : Du M C) (c : Option DuContext) → Fits (modify_on way ch ue instance epoch r c)
  modify_has ch ue instance epoch r None = (tt, (tt, tt))
  modify_has ch ue instance epoch r (Some c) =
      replaced_has ch ue (Some c) (context_anew way r epoch c) (f1s.UeContextModificationResponse ue instance (downlink_list (context_anew way r epoch c))) r

  released_has : (ue : UeId) (r : Du M C) (c : Option DuContext) → Fits (released_on way ue r c)
  released_has ue r None = (tt, tt)
  released_has ue r (Some c) = (
    tt,
    all_append (OutputHas has) (end_markers way ue c) (closings way c)
        (all_map (OutputHas has) (λ e. packet e.1.up e.1.uplink ue e.0 Ul Absent end_marker) (λ e. tt) c.bearers) (closed_have (downlinks_of c)),
  )

  release_has : (ch : Channel) (ue : UeId) (instance : ℕ) (r : Du M C) → Fits (release way ch ue instance r)
  unfolding release
  release_has ch ue instance r =
      after (replies way ch (f1s.UeContextReleaseComplete ue instance) r) (λ s. released_on way ue s (context_of s ue))
      (replies_have ch (f1s.UeContextReleaseComplete ue instance) r) (λ s. released_has ue s (context_of s ue))

  -- ---- control messages

  asked_has : (ch : Channel) (m : Message C) (r : Du M C) → Fits (asked way ch m r)
  unfolding modify
  asked_has ch (f1 (f1s.UeContextSetupRequest ue instance epoch uplinks sn peer)) r = setup_has ch ue instance epoch uplinks sn peer r
  asked_has ch (f1 (f1s.UeContextModificationRequest ue instance epoch)) r = modify_has ch ue instance epoch r (context_of r ue)
  asked_has ch (f1 (f1s.UeContextReleaseCommand ue instance)) r = release_has ch ue instance r
  asked_has ch m r = (tt, (tt, tt))

  relayed_down_has : (ue : UeId) (container : C) (r : Du M C) (c : Option DuContext) → Fits (relayed_down way ue container r c)
  relayed_down_has ue container r None = (tt, (tt, tt))
  relayed_down_has ue container r (Some c) = (tt, (tt, tt))

  transferred_has : (m : Message C) (r : Du M C) → Fits (transferred way m r)
  unfolding relay_down
  transferred_has (f1 (f1s.DlRrcMessageTransfer ue container)) r = relayed_down_has ue container r (context_of r ue)
  transferred_has m r = (tt, (tt, tt))

  relayed_up_has : (ue : UeId) (token : Token) (r : Du M C) (c : Option DuContext) → Fits (relayed_up way ue token r c)
  relayed_up_has ue token r None = (tt, (tt, tt))
  relayed_up_has ue token r (Some c) = (tt, (tt, tt))

  of_terminal_has : (ue : ℕ) (m : Message C) (r : Du M C) → Fits (of_terminal way ue m r)
  unfolding relay_up
  of_terminal_has ue (rrc token) r =
      either ((token_ue way token).0 == ue) _ (drops Unexpected r) (relayed_up_has (token_ue way token) token r (context_of r (token_ue way token))) (tt, (tt, tt))
  of_terminal_has ue m r = (tt, (tt, tt))

  set_up_has : (ch : Channel) (r : Du M C) → Fits (set_up way ch r)
  unfolding set_up
  set_up_has ch r =
      after (advance way (record r.transactions { caller = close r.transactions.caller ch }) ch)
      (λ a. nothing (record r { is_set_up = true; transactions = a.transactions }))
      (advance_has has (record r.transactions { caller = close r.transactions.caller ch }) ch) (λ a. (tt, tt))

  of_cp_has : (from : NodeId) (m : Message C) (r : Du M C) (k : Kind) → Fits (of_cu_cp way from m r k)
  of_cp_has from m r (request ue i) =
      on_request_has has (λ (x : Du M C). Unit {0}) r r.transactions (channel ue from) i (λ t. asked way (channel ue from) m (with_transactions r t)) tt
      (λ t. asked_has (channel ue from) m (with_transactions r t))
  of_cp_has from m r (reply ue i) =
      on_reply_has has (λ (x : Du M C). Unit {0}) r r.transactions (channel ue from) i (set_up way (channel ue from) r) tt (set_up_has (channel ue from) r)
  of_cp_has from m r (transfer ue) = transferred_has m r

  control_has : (from : NodeId) (m : Message C) (r : Du M C) → Fits (control_received way from m r)
  unfolding control_received
  control_has (CuCp gnb) m r =
      either (is_same_gnb gnb r.gnb) (of_cu_cp way (CuCp gnb) m r (kind_of m)) (drops Unexpected r) (of_cp_has (CuCp gnb) m r (kind_of m)) (tt, (tt, tt))
  control_has (Ue ue) m r = of_terminal_has ue m r
  control_has from m r = (tt, (tt, tt))

  -- ---- packets: a frame's PDU to the radio, and a radio's PDU up

  told_have : (ue : UeId) (bearer : BearerId) (b : DuBearer) (poll : Bool) (number : ℕ) → Put (told way ue bearer b poll number)
  told_have ue bearer b poll number = by (is_missing way b number || poll)
    where
      by : (t : Bool) → Put (if t then packet b.up b.uplink ue bearer Dl Absent (status (missing way b number) None) ∷ [] else [])
      by true = (tt, tt)
      by false = tt

  carried_has : (ue : UeId) (bearer : BearerId) (c : DuContext) (gap : Bool) (pdu : Option P) (r : Du M C) → PayloadHas has (of ue bearer Dl) pdu
      → Fits (carried way ue bearer c gap pdu r)
  carried_has ue bearer c gap None r is = (tt, tt)
  carried_has ue bearer c true (Some pdu) r is = (tt, (tt, tt))
  carried_has ue bearer c false (Some pdu) r is = (tt, (is, tt))

  frame_has : (ue : UeId) (bearer : BearerId) (c : DuContext) (b : DuBearer) (item : Taken P) (r : Du M C) → TakenHas has (of ue bearer Dl) item
      → Fits (frame_received way ue bearer c b item r)
  frame_has ue bearer c b (frame_item poll restart number pdu) r is =
      let on : DuBearer = record b { awaited = number + 1; gap = gap_after way b number restart pdu } in
      after (gives (told way ue bearer b poll number) (with_bearer way ue bearer c on r)) (carried way ue bearer c (gap_after way b number restart pdu) pdu)
      (tt, told_have ue bearer b poll number) (λ s. carried_has ue bearer c (gap_after way b number restart pdu) pdu s is)
  frame_has ue bearer c b item r is = (tt, (tt, tt))

  take_has : (teid : ℕ) (item : Taken P) (r : Du M C)
      → ((owner : DuTunnel) → find nat_cmp r.tunnels teid ≡ Some owner → TakenHas has (of owner.ue owner.bearer Dl) item) → Fits (take way teid item r)
  unfolding take
  take_has teid item r brings = by (find nat_cmp r.tunnels teid) refl
    where
      Brings : UeId → BearerId → Type 0
      Brings ue bearer = TakenHas has (of ue bearer Dl) item

      in_bearer : (ue : UeId) (bearer : BearerId) → Brings ue bearer → (c : DuContext) (b : Option DuBearer) → Fits (taken_in way ue bearer c item r b)
      in_bearer ue bearer is c None = (tt, (tt, tt))
      in_bearer ue bearer is c (Some b) = frame_has ue bearer c b item r is

      in_context : (ue : UeId) (bearer : BearerId) → Brings ue bearer → (c : Option DuContext) → Fits (taken_of way ue bearer item r c)
      in_context ue bearer is None = (tt, (tt, tt))
      in_context ue bearer is (Some c) = in_bearer ue bearer is c (find bearer_cmp c.bearers bearer)

      by : (t : Option DuTunnel) → find nat_cmp r.tunnels teid ≡ t → Fits (taken_on way item r t)
      by None there = (tt, (tt, tt))
      by (Some t) there = in_context t.ue t.bearer (brings t there) (context_of r t.ue)

  of_context_has : (r : Du M C) (row : DuContext → DuBearer → Answer M P (Du M C)) (bearer : BearerId) (c : Option DuContext)
      → ((d : DuContext) (b : DuBearer) → Fits (row d b)) → Fits (of_context way r row bearer c)
  of_context_has r row bearer None each = (tt, (tt, tt))
  of_context_has r row bearer (Some c) each = by (find bearer_cmp c.bearers bearer)
    where
      by : (b : Option DuBearer) → Fits (of_bearer way r row c b)
      by None = (tt, (tt, tt))
      by (Some b) = each c b

  confirmed_has : (ue : UeId) (bearer : BearerId) (r : Du M C) (b : DuBearer) (number : Option ℕ) → Fits (confirmed way ue bearer r b number)
  confirmed_has ue bearer r b None = (tt, tt)
  confirmed_has ue bearer r b (Some number) = (tt, (tt, tt))

  -- ---- F1 Setup, a tick, and the table

  start_has : (r : Du M C) → Fits (start way r)
  unfolding start
  start_has r =
      either r.is_set_up (nothing r) _ (tt, tt)
      (after (ask way r.transactions (channel 0 (CuCp r.gnb))
      (record { message = f1 (f1s.F1SetupRequest no_instance (node_text (du_node r))); deadline = None; awaited = false }))
      (λ a. nothing (with_transactions r a.transactions)) (ask_has has r.transactions (channel 0 (CuCp r.gnb)) _) (λ a. (tt, tt)))

  due_has : (d : Due M) → Put (due_output way d)
  due_has (repeats ch m) = (tt, tt)
  due_has (expires ch) = tt

  tick_has : (r : Du M C) → Fits (tick way r)
  unfolding tick
  tick_has r = (tt, all_flat (OutputHas has) (due_output way) due_has (due r.transactions.caller))

  pub du_has : (r : Du M C) (input : Input C P) → DuInputHas has r input → Fits (du_acts way r input)
  unfolding du_acts pass_up confirm
  du_has r (control_input from m) brings = control_has from m r
  du_has r (packet_input teid item) brings = take_has teid item r brings
  du_has r (radio_input ue bearer Ul pdu content) brings =
      of_context_has r (λ c b. puts (packet b.up b.uplink ue bearer Ul Same (uplink pdu)) r) bearer (context_of r ue) (λ d b. (tt, (brings, tt)))
  du_has r (confirm_input ue bearer Dl pdu content) brings =
      of_context_has r (λ c b. confirmed way ue bearer r b (way.number c.sn pdu)) bearer (context_of r ue) (λ d b. confirmed_has ue bearer r b (way.number d.sn pdu))
  du_has r tick_input brings = tick_has r
  du_has r (order_input orders.Start) brings = start_has r
  du_has r input brings = (tt, (tt, tt))
