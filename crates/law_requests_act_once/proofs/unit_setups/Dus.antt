-- A DU: only its start asks anything.
use Rattle.std.proofs.Common.{inl, inr, ◌≡◌, ◌==◌, ℕ, Bool, true, false, Option, Some, None, refl, ap}
use Rattle.std.specs.Prelude.{if◌then◌else◌}
use Rattle.gnb_types.specs.declared.names.NodeId.{NodeId}
use Rattle.gnb_types.specs.declared.names.NodeId.TheVariants.{CuCp, Ue}
use Rattle.gnb_types.specs.declared.names.Dir.TheVariants.{Dl, Ul}
use Rattle.gnb_types.specs.declared.keys.Channel.{Channel}
use Rattle.gnb_types.specs.declared.inputs.Order.TheVariants as orders
use Rattle.gnb_types.specs.declared.outputs.Tag.TheVariants.{Same}
use Rattle.gnb_types.specs.declared.reasons.DropReason.TheVariants.{Unexpected}
use Rattle.gnb_types.specs.Names.{node_text}
use Rattle.gnb_types.specs.Orders.{channel_cmp}
use Rattle.tables.specs.Tables.{IsSorted}
use Rattle.message_types.specs.declared.f1.F1.TheVariants as f1s
use Rattle.transaction_defs.specs.Callees.{taken}
use Rattle.unit_defs.specs.Ways.{Message, f1, rrc, uplink, packet, Input, control_input, packet_input, radio_input, confirm_input, tick_input, order_input, Answer, gives, spent, ◌then◌, nothing, puts, drops}
use Rattle.unit_defs.specs.Messages.{channel, is_same_gnb}
use Rattle.unit_defs.specs.Transactions.{Kind, request, reply, transfer, kind_of, no_instance, Waiting, Transactions, waits_at, ask}
use Rattle.unit_defs.specs.Du.{Du, DuContext, du_node, context_of, with_transactions, asked, relayed_down, relay_down, relayed_up, relay_up, token_ue, transferred, of_terminal, set_up, of_cu_cp, control_received, start, take, confirmed, pass_up, confirm, tick, du_acts}
use Rattle.law_requests_act_once.specs.channel.Ends.{asking_at}
use Rattle.law_requests_act_once.specs.channel.Replies.{Talk}
use Rattle.law_requests_act_once.proofs.channel_rows.Requests.{Leaves, Replies}
use Rattle.law_requests_act_once.proofs.channel_rows.Dus.{kept, asked_replies, take_leaves, context_leaves, confirmed_leaves}
use Rattle.law_requests_act_once.proofs.unit_setups.Growing.{goes_same, ask_goes, ticked_goes, Goes, asked_goes, reply_goes, request_goes}

module _ {M C P : Type 0} (talk : Talk M C P) (n : NodeId) (r : Du M C) where
  abbrev before : Transactions M C
  before = r.transactions

  abbrev KeepsInvariant : Answer M P (Du M C) → Type 0
  KeepsInvariant a = Goes talk.way (kept talk n) before a

  same : (t : Transactions M C) → t ≡ before → (c : Channel) → asking_at t c ≡ asking_at before c
  same t is c = ap (λ (u : Transactions M C). asking_at u c) is

  whole : KeepsInvariant (nothing r)
  whole = goes_same talk.way before before (λ c. refl)

  leaves_fine : (a : Answer M P (Du M C)) → Leaves talk n (kept talk n) before a → KeepsInvariant a
  leaves_fine (gives os q) leaves = goes_same talk.way before q.transactions (same q.transactions leaves.1)
  leaves_fine (spent k) leaves = tt

  -- the row of a request that was taken
  replies_fine : (c : Channel) (m : Message C) (i : ℕ) (a : Answer M P (Du M C))
      → Replies talk n (kept talk n) (record before { callee = taken before.callee c i }) c m i a → KeepsInvariant a
  unfolding waits_at
  replies_fine c m i (gives os q) (inl none) =
      goes_same talk.way before q.transactions (λ k. ap (λ (u : Transactions M C). asking_at u k) none.1)
  replies_fine c m i (gives os q) (inr one) =
      goes_same talk.way before q.transactions (λ k. ap (λ (u : Transactions M C). asking_at u k) one.kept)
  replies_fine c m i (spent k) replies = tt

  transfer_fine : (m : Message C) → KeepsInvariant (transferred talk.way m r)
  unfolding relay_down
  transfer_fine (f1 (f1s.DlRrcMessageTransfer ue container)) = by (context_of r ue)
    where
      by : (c : Option DuContext) → KeepsInvariant (relayed_down talk.way ue container r c)
      by None = whole
      by (Some c) = whole
  transfer_fine m = whole

  terminal_fine : (ue : ℕ) (m : Message C) → KeepsInvariant (of_terminal talk.way ue m r)
  unfolding relay_up
  terminal_fine ue (rrc token) = by ((token_ue talk.way token).0 == ue) (context_of r (token_ue talk.way token))
    where
      by : (b : Bool) (c : Option DuContext) → KeepsInvariant (if b then relayed_up talk.way (token_ue talk.way token) token r c else drops Unexpected r)
      by true None = whole
      by true (Some c) = whole
      by false c = whole
  terminal_fine ue m = whole

  of_cp_fine : (from : NodeId) (m : Message C) (k : Kind) → kind_of m ≡ k → KeepsInvariant (of_cu_cp talk.way from m r k)
  unfolding set_up
  of_cp_fine from m (request ue i) is =
      request_goes talk.way (kept talk n) before r refl (channel ue from) i (λ u. asked talk.way (channel ue from) m (with_transactions r u))
      (replies_fine (channel ue from) m i _ (asked_replies talk n r (record before { callee = taken before.callee (channel ue from) i }) from m ue i is))
  of_cp_fine from m (reply ue i) is =
      reply_goes talk.way (kept talk n) before r refl (channel ue from) i (λ a. record r { is_set_up = true; transactions = a.transactions }) (λ a. refl)
  of_cp_fine from m (transfer ue) is = transfer_fine m

  control_fine : (from : NodeId) (m : Message C) → KeepsInvariant (control_received talk.way from m r)
  unfolding control_received
  control_fine (CuCp gnb) m = by (is_same_gnb gnb r.gnb)
    where
      by : (b : Bool) → KeepsInvariant (if b then of_cu_cp talk.way (CuCp gnb) m r (kind_of m) else drops Unexpected r)
      by true = of_cp_fine (CuCp gnb) m (kind_of m) refl
      by false = whole
  control_fine (Ue ue) m = terminal_fine ue m
  control_fine from m = whole

  start_fine : KeepsInvariant (start talk.way r)
  unfolding start
  start_fine = by r.is_set_up
    where
      first : Waiting C
      first = record { message = f1 (f1s.F1SetupRequest no_instance (node_text (du_node r))); deadline = None; awaited = false }

      by : (b : Bool) → KeepsInvariant (if b then nothing r else
          (ask talk.way before (channel 0 (CuCp r.gnb))
          (record { message = f1 (f1s.F1SetupRequest no_instance (node_text (du_node r))); deadline = None; awaited = false })
          then (λ a. nothing (with_transactions r a.transactions))))
      by true = whole
      by false =
          asked_goes talk.way (kept talk n) before (ask talk.way before (channel 0 (CuCp r.gnb)) first) (λ a. with_transactions r a.transactions) (λ a. refl)
          (ask_goes talk.way before (channel 0 (CuCp r.gnb)) first tt)

  pub du_asks : IsSorted channel_cmp before.caller.opened → (input : Input C P) → KeepsInvariant (du_acts talk.way r input)
  unfolding du_acts pass_up confirm tick
  du_asks sorted (control_input from m) = control_fine from m
  du_asks sorted (packet_input teid item) = leaves_fine (take talk.way teid item r) (take_leaves talk n teid item r)
  du_asks sorted (radio_input ue bearer Ul pdu content) =
      leaves_fine _ (context_leaves talk n r (λ c b. puts (packet b.up b.uplink ue bearer Ul Same (uplink pdu)) r) bearer (context_of r ue) (λ d b. (refl, refl)))
  du_asks sorted (confirm_input ue bearer Dl pdu content) =
      leaves_fine _ (context_leaves talk n r (λ c b. confirmed talk.way ue bearer r b (talk.way.number c.sn pdu)) bearer (context_of r ue)
      (λ d b. confirmed_leaves talk n ue bearer r b (talk.way.number d.sn pdu)))
  du_asks sorted tick_input = ticked_goes talk.way before sorted
  du_asks sorted (order_input orders.Start) = start_fine
  du_asks sorted input = whole
