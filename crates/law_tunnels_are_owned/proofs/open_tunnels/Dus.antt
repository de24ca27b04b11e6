-- What a DU opens and closes is what is open then.
use Rattle.std.proofs.Common.{◌≡◌, ◌==◌, ℕ, ◌+◌, Bool, true, false, not, ◌||◌, List, [], ◌∷◌, ◌++◌, length, map, Option, Some, None, refl, sym, ap, ◌∙◌}
use Rattle.std.specs.Prelude.{if◌then◌else◌}
use Rattle.std.specs.Ordering.{nat_cmp}
use Rattle.gnb_types.specs.declared.names.NodeId.{NodeId}
use Rattle.gnb_types.specs.declared.names.NodeId.TheVariants.{CuCp, CuUp, Du as du_id, Core, Ue}
use Rattle.gnb_types.specs.declared.names.UeId.{UeId}
use Rattle.gnb_types.specs.declared.names.BearerId.{BearerId}
use Rattle.gnb_types.specs.declared.names.SnBits.{SnBits}
use Rattle.gnb_types.specs.declared.names.Dir.TheVariants.{Dl, Ul}
use Rattle.gnb_types.specs.declared.keys.Channel.{Channel}
use Rattle.gnb_types.specs.declared.plans.Peer.{Peer}
use Rattle.gnb_types.specs.declared.plans.Tunnel.{Tunnel}
use Rattle.gnb_types.specs.declared.inputs.Order.TheVariants as orders
use Rattle.gnb_types.specs.declared.outputs.Tag.TheVariants.{Absent, Same}
use Rattle.gnb_types.specs.declared.reasons.DropReason.{DropReason}
use Rattle.gnb_types.specs.declared.reasons.DropReason.TheVariants.{NoContext, NoTunnel, Unexpected}
use Rattle.gnb_types.specs.Names.{node_text}
use Rattle.gnb_types.specs.Orders.{bearer_cmp}
use Rattle.tables.specs.Tables.{find, put}
use Rattle.transaction_defs.specs.Callers.{close, due}
use Rattle.message_types.specs.declared.f1.F1.{F1}
use Rattle.message_types.specs.declared.f1.F1.TheVariants as f1s
use Rattle.message_types.specs.declared.rrc.Token.{Token}
use Rattle.unit_defs.specs.Ways.{Message, f1, rrc, uplink, status, end_marker, Taken, frame_item, packet, closed, Input, control_input, packet_input, radio_input, confirm_input, offer_input, tick_input, order_input, Way, Answer, gives, spent, ◌then◌, nothing, puts, drops, teids_spent, Load}
use Rattle.unit_defs.specs.Messages.{channel, is_same_gnb, bearers_of, are_first_bearers}
use Rattle.unit_defs.specs.Teids.{teids_are_left, without_each}
use Rattle.unit_defs.specs.Transactions.{Kind, request, reply, transfer, kind_of, no_instance, ask, advance, replied}
use Rattle.unit_defs.specs.Du.{DuBearer, DuContext, DuTunnel, Du, du_node, context_of, with_transactions, downlinks_of, downlink_list, with_entries, replies, closings, openings, old_downlinks, replaced, replaces, context_with, setup, context_anew, modify_on, modify, end_markers, released_on, release, relayed_down, relay_down, relayed_up, relay_up, token_ue, start, set_up, asked, transferred, of_cu_cp, of_terminal, control_received, missing, is_missing, told, gap_after, carried, with_bearer, frame_received, taken_in, taken_of, taken_on, take, of_bearer, of_context, pass_up, confirmed, confirm, due_output, tick, du_acts}
use Rattle.law_tunnels_are_owned.specs.open_tunnels.Open.{open_after, is_open_in}
use Rattle.law_tunnels_are_owned.proofs.open_tunnels.Opened.{open_append, with_these, all_closed, all_opened, open_put, open_without_each}
use Rattle.law_tunnels_are_owned.proofs.open_tunnels.Shows.{none_ask, none_advance, none_replied, none_due, Shows, shows_if, none_then, shows_then, shows_request, shows_reply}

-- ---- downlinks that are put

abbrev pub Downlinks : Type 0
Downlinks = List (BearerId × DuBearer)

pub open_downlinks : (ue : UeId) (es : Downlinks) (table : List (ℕ × DuTunnel)) (q : ℕ)
    → is_open_in (with_entries ue table es) q ≡ with_these q (map (λ e. e.1.downlink) es) (is_open_in table q)
open_downlinks ue [] table q = refl
open_downlinks ue (e ∷ es) table q =
    open_downlinks ue es (put nat_cmp table e.1.downlink (record { ue = ue; bearer = e.0 })) q
    ∙ ap (with_these q (map (λ e. e.1.downlink) es)) (open_put table e.1.downlink (record { ue = ue; bearer = e.0 }) q)

module _ {M C P : Type 0} (way : Way M C P) where
  abbrev tunnels_of : Du M C → List (ℕ × DuTunnel)
  tunnels_of r = r.tunnels

  abbrev pub Fits : Du M C → Answer M P (Du M C) → Type 0
  Fits r a = Shows way tunnels_of r.tunnels a

  fits_if : (r : Du M C) (t : Bool) (x y : Answer M P (Du M C)) → Fits r x → Fits r y → Fits r (if t then x else y)
  fits_if r t x y p q = shows_if way tunnels_of r.tunnels t x y p q

  dropped_fits : (reason : DropReason) (r : Du M C) → Fits r (drops reason r)
  dropped_fits reason r = λ q. refl

  replies_fits : (ch : Channel) (m : F1 C) (r : Du M C) → Fits r (replies way ch m r)
  replies_fits ch m r =
      none_then way tunnels_of r.tunnels (replied way r.transactions ch (f1 m)) (with_transactions r)
      (none_replied way r.transactions ch (f1 m)) (λ s q. refl)

  -- ---- contexts

  replaces_fits : (ue : UeId) (old : Option DuContext) (c : DuContext) (r : Du M C) → Fits r (replaces way ue old c r)
  unfolding replaces
  replaces_fits ue old c r = by (teids_are_left r.next_teid (length c.bearers))
    where
      by : (t : Bool)
          → Fits r (if t then gives (map (λ teid. closed teid) (old_downlinks way old) ++ openings way c) (replaced way ue old c r) else spent teids_spent)
      by true = λ q.
          open_downlinks ue c.bearers (without_each r.tunnels (old_downlinks way old)) q
          ∙ ap (with_these q (downlinks_of c)) (open_without_each (old_downlinks way old) r.tunnels q
          ∙ sym (all_closed M (Load P) P q (old_downlinks way old) (is_open_in r.tunnels q)))
          ∙ sym (all_opened M (Load P) P q (downlinks_of c)
          (open_after {M = M} {L = Load P} {P = P} q (map (λ teid. closed teid) (old_downlinks way old)) (is_open_in r.tunnels q)))
          ∙ sym (open_append {M = M} {L = Load P} {P = P} q (map (λ teid. closed teid) (old_downlinks way old)) (openings way c) (is_open_in r.tunnels q))
      by false = tt

  replaced_fits : (ch : Channel) (ue : UeId) (old : Option DuContext) (c : DuContext) (m : F1 C) (r : Du M C)
      → Fits r (replaces way ue old c r then replies way ch m)
  replaced_fits ch ue old c m r =
      shows_then way tunnels_of r.tunnels (replaces way ue old c r) (replies way ch m) (replaces_fits ue old c r) (replies_fits ch m)

  setup_fits : (ch : Channel) (ue : UeId) (instance epoch : ℕ) (uplinks : List Tunnel) (sn : SnBits) (peer : Peer) (r : Du M C)
      → Fits r (setup way ch ue instance epoch uplinks sn peer r)
  unfolding setup
  setup_fits ch ue instance epoch uplinks sn peer r =
      fits_if r (not (are_first_bearers (bearers_of uplinks))) _ _ (dropped_fits Unexpected r)
      (replaced_fits ch ue (context_of r ue) (context_with way r epoch uplinks sn peer)
      (f1s.UeContextSetupResponse ue instance (downlink_list (context_with way r epoch uplinks sn peer))) r)

  modify_fits : (ch : Channel) (ue : UeId) (instance epoch : ℕ) (r : Du M C) (c : Option DuContext) → Fits r (modify_on way ch ue instance epoch r c)
  modify_fits ch ue instance epoch r None = dropped_fits NoContext r
  modify_fits ch ue instance epoch r (Some c) =
      replaced_fits ch ue (Some c) (context_anew way r epoch c)
      (f1s.UeContextModificationResponse ue instance (downlink_list (context_anew way r epoch c))) r

  none_ends : (ue : UeId) (es : Downlinks) (q : ℕ) (x : Bool)
      → open_after {M = M} {L = Load P} {P = P} q (map (λ e. packet e.1.up e.1.uplink ue e.0 Ul Absent end_marker) es) x ≡ x
  none_ends ue [] q x = refl
  none_ends ue (e ∷ es) q x = none_ends ue es q x

  released_fits : (ue : UeId) (r : Du M C) (c : Option DuContext) → Fits r (released_on way ue r c)
  released_fits ue r None = λ q. refl
  released_fits ue r (Some c) = λ q.
      open_without_each (downlinks_of c) r.tunnels q
      ∙ sym (open_append q (end_markers way ue c) (closings way c) (is_open_in r.tunnels q)
      ∙ ap (open_after q (closings way c)) (none_ends ue c.bearers q (is_open_in r.tunnels q))
      ∙ all_closed M (Load P) P q (downlinks_of c) (is_open_in r.tunnels q))

  release_fits : (ch : Channel) (ue : UeId) (instance : ℕ) (r : Du M C) → Fits r (release way ch ue instance r)
  unfolding release
  release_fits ch ue instance r =
      shows_then way tunnels_of r.tunnels (replies way ch (f1s.UeContextReleaseComplete ue instance) r)
      (λ s. released_on way ue s (context_of s ue)) (replies_fits ch (f1s.UeContextReleaseComplete ue instance) r) (λ s. released_fits ue s (context_of s ue))

  -- ---- control messages

  asked_fits : (ch : Channel) (m : Message C) (r : Du M C) → Fits r (asked way ch m r)
  unfolding modify
  asked_fits ch (f1 (f1s.UeContextSetupRequest ue instance epoch uplinks sn peer)) r = setup_fits ch ue instance epoch uplinks sn peer r
  asked_fits ch (f1 (f1s.UeContextModificationRequest ue instance epoch)) r = modify_fits ch ue instance epoch r (context_of r ue)
  asked_fits ch (f1 (f1s.UeContextReleaseCommand ue instance)) r = (release_fits ch ue instance r)
  asked_fits ch m r = dropped_fits Unexpected r

  relayed_down_fits : (ue : UeId) (container : C) (r : Du M C) (c : Option DuContext) → Fits r (relayed_down way ue container r c)
  relayed_down_fits ue container r None = dropped_fits NoContext r
  relayed_down_fits ue container r (Some c) = (λ q. refl)

  transferred_fits : (m : Message C) (r : Du M C) → Fits r (transferred way m r)
  unfolding relay_down
  transferred_fits (f1 (f1s.DlRrcMessageTransfer ue container)) r = relayed_down_fits ue container r (context_of r ue)
  transferred_fits m r = dropped_fits Unexpected r

  relayed_up_fits : (ue : UeId) (token : Token) (r : Du M C) (c : Option DuContext) → Fits r (relayed_up way ue token r c)
  relayed_up_fits ue token r None = dropped_fits NoContext r
  relayed_up_fits ue token r (Some c) = (λ q. refl)

  terminal_fits : (ue : ℕ) (m : Message C) (r : Du M C) → Fits r (of_terminal way ue m r)
  unfolding relay_up
  terminal_fits ue (rrc token) r =
      fits_if r ((token_ue way token).0 == ue) _ (drops Unexpected r)
      (relayed_up_fits (token_ue way token) token r (context_of r (token_ue way token))) (dropped_fits Unexpected r)
  terminal_fits ue m r = dropped_fits Unexpected r

  set_up_fits : (ch : Channel) (r : Du M C) → Fits r (set_up way ch r)
  unfolding set_up
  set_up_fits ch r =
      none_then way tunnels_of r.tunnels (advance way (record r.transactions { caller = close r.transactions.caller ch }) ch)
      (λ a. record r { is_set_up = true; transactions = a.transactions })
      (none_advance way (record r.transactions { caller = close r.transactions.caller ch }) ch) (λ s q. refl)

  of_cp_fits : (from : NodeId) (m : Message C) (r : Du M C) (k : Kind) → Fits r (of_cu_cp way from m r k)
  of_cp_fits from m r (request ue i) =
      shows_request way tunnels_of r r.transactions (channel ue from) i (λ t. asked way (channel ue from) m (with_transactions r t))
      (λ t. asked_fits (channel ue from) m (with_transactions r t))
  of_cp_fits from m r (reply ue i) =
      (shows_reply way tunnels_of r r.transactions (channel ue from) i (set_up way (channel ue from) r) (set_up_fits (channel ue from) r))
  of_cp_fits from m r (transfer ue) = (transferred_fits m r)

  control_fits : (from : NodeId) (m : Message C) (r : Du M C) → Fits r (control_received way from m r)
  unfolding control_received
  control_fits (CuCp gnb) m r =
      fits_if r (is_same_gnb gnb r.gnb) _ (drops Unexpected r) (of_cp_fits (CuCp gnb) m r (kind_of m)) (dropped_fits Unexpected r)
  control_fits (Ue ue) m r = (terminal_fits ue m r)
  control_fits (CuUp gnb number) m r = dropped_fits Unexpected r
  control_fits (du_id gnb number) m r = dropped_fits Unexpected r
  control_fits Core m r = dropped_fits Unexpected r

  -- ---- packets

  none_told : (ue : UeId) (bearer : BearerId) (b : DuBearer) (poll : Bool) (number q : ℕ) (x : Bool) → open_after q (told way ue bearer b poll number) x ≡ x
  none_told ue bearer b poll number q x = by (is_missing way b number || poll)
    where
      by : (t : Bool) → open_after {M = M} {L = Load P} {P = P} q
          (if t then packet b.up b.uplink ue bearer Dl Absent (status (missing way b number) None) ∷ [] else []) x ≡ x
      by true = refl
      by false = refl

  carried_fits : (ue : UeId) (bearer : BearerId) (c : DuContext) (gap : Bool) (pdu : Option P) (r : Du M C) → Fits r (carried way ue bearer c gap pdu r)
  carried_fits ue bearer c gap None r = (λ q. refl)
  carried_fits ue bearer c true (Some pdu) r = (λ q. refl)
  carried_fits ue bearer c false (Some pdu) r = (λ q. refl)

  frame_fits : (ue : UeId) (bearer : BearerId) (c : DuContext) (b : DuBearer) (item : Taken P) (r : Du M C) → Fits r (frame_received way ue bearer c b item r)
  frame_fits ue bearer c b (frame_item poll restart number pdu) r =
      shows_then way tunnels_of r.tunnels
      (gives (told way ue bearer b poll number) (with_bearer way ue bearer c (record b { awaited = number + 1; gap = gap_after way b number restart pdu }) r))
      (carried way ue bearer c (gap_after way b number restart pdu) pdu)
      (λ q. sym (none_told ue bearer b poll number q (is_open_in r.tunnels q)))
      (carried_fits ue bearer c (gap_after way b number restart pdu) pdu)
  frame_fits ue bearer c b item r = dropped_fits Unexpected r

  take_fits : (teid : ℕ) (item : Taken P) (r : Du M C) → Fits r (take way teid item r)
  unfolding take
  take_fits teid item r = by (find nat_cmp r.tunnels teid)
    where
      in_bearer : (ue : UeId) (bearer : BearerId) (c : DuContext) (b : Option DuBearer) → Fits r (taken_in way ue bearer c item r b)
      in_bearer ue bearer c None = dropped_fits NoContext r
      in_bearer ue bearer c (Some b) = frame_fits ue bearer c b item r

      in_context : (ue : UeId) (bearer : BearerId) (c : Option DuContext) → Fits r (taken_of way ue bearer item r c)
      in_context ue bearer None = dropped_fits NoContext r
      in_context ue bearer (Some c) = in_bearer ue bearer c (find bearer_cmp c.bearers bearer)

      by : (t : Option DuTunnel) → Fits r (taken_on way item r t)
      by None = dropped_fits NoTunnel r
      by (Some t) = in_context t.ue t.bearer (context_of r t.ue)

  context_fits : (r : Du M C) (row : DuContext → DuBearer → Answer M P (Du M C)) (bearer : BearerId) (c : Option DuContext)
      → ((d : DuContext) (b : DuBearer) → Fits r (row d b)) → Fits r (of_context way r row bearer c)
  context_fits r row bearer None each = dropped_fits NoContext r
  context_fits r row bearer (Some c) each = by (find bearer_cmp c.bearers bearer)
    where
      by : (b : Option DuBearer) → Fits r (of_bearer way r row c b)
      by None = dropped_fits NoContext r
      by (Some b) = each c b

  confirmed_fits : (ue : UeId) (bearer : BearerId) (r : Du M C) (b : DuBearer) (number : Option ℕ) → Fits r (confirmed way ue bearer r b number)
  confirmed_fits ue bearer r b None = (λ q. refl)
  confirmed_fits ue bearer r b (Some number) = (λ q. refl)

  -- ---- F1 Setup, a tick, and the table

  start_fits : (r : Du M C) → Fits r (start way r)
  unfolding start
  start_fits r =
      fits_if r r.is_set_up (nothing r) _ (λ q. refl)
      (none_then way tunnels_of r.tunnels (ask way r.transactions (channel 0 (CuCp r.gnb))
      (record { message = f1 (f1s.F1SetupRequest no_instance (node_text (du_node r))); deadline = None; awaited = false }))
      (λ a. with_transactions r a.transactions) (none_ask way r.transactions (channel 0 (CuCp r.gnb)) _) (λ s q. refl))

  tick_fits : (r : Du M C) → Fits r (tick way r)
  unfolding tick
  tick_fits r = λ q. sym (none_due way (due_output way) (λ c m. refl) (λ c. refl) (due r.transactions.caller) q (is_open_in r.tunnels q))

  pub du_fits : (r : Du M C) (input : Input C P) → Fits r (du_acts way r input)
  unfolding du_acts pass_up confirm
  du_fits r (control_input from m) = control_fits from m r
  du_fits r (packet_input teid item) = (take_fits teid item r)
  du_fits r (radio_input ue bearer Ul pdu content) =
      (context_fits r (λ c b. puts (packet b.up b.uplink ue bearer Ul Same (uplink pdu)) r) bearer (context_of r ue)
      (λ d b. (λ q. refl)))
  du_fits r (radio_input ue bearer Dl pdu content) = dropped_fits Unexpected r
  du_fits r (confirm_input ue bearer Dl pdu content) =
      (context_fits r (λ c b. confirmed way ue bearer r b (way.number c.sn pdu)) bearer (context_of r ue)
      (λ d b. confirmed_fits ue bearer r b (way.number d.sn pdu)))
  du_fits r (confirm_input ue bearer Ul pdu content) = dropped_fits Unexpected r
  du_fits r (offer_input ue bearer p) = dropped_fits Unexpected r
  du_fits r tick_input = (tick_fits r)
  du_fits r (order_input orders.Start) = (start_fits r)
  du_fits r (order_input order) = dropped_fits Unexpected r
