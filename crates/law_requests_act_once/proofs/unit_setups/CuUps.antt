-- A CU-UP: only its start asks anything.
use Rattle.std.proofs.Common.{inl, inr, ◌≡◌, ℕ, Bool, true, false, None, refl, ap}
use Rattle.std.specs.Prelude.{if◌then◌else◌}
use Rattle.gnb_types.specs.declared.names.NodeId.{NodeId}
use Rattle.gnb_types.specs.declared.names.NodeId.TheVariants.{CuCp}
use Rattle.gnb_types.specs.declared.keys.Channel.{Channel}
use Rattle.gnb_types.specs.declared.inputs.Order.TheVariants as orders
use Rattle.gnb_types.specs.declared.reasons.DropReason.TheVariants.{Unexpected}
use Rattle.gnb_types.specs.Names.{node_text}
use Rattle.gnb_types.specs.Orders.{channel_cmp}
use Rattle.tables.specs.Tables.{IsSorted}
use Rattle.message_types.specs.declared.e1.E1Message.TheVariants as e1s
use Rattle.transaction_defs.specs.Callees.{taken}
use Rattle.unit_defs.specs.Ways.{Message, e1, Input, control_input, packet_input, tick_input, order_input, Answer, gives, spent, ◌then◌, nothing, drops}
use Rattle.unit_defs.specs.Messages.{channel}
use Rattle.unit_defs.specs.Transactions.{Kind, request, reply, transfer, kind_of, no_instance, Waiting, Transactions, waits_at, ask}
use Rattle.unit_defs.specs.CuUpRecords.{CuUp}
use Rattle.unit_defs.specs.CuUp.{with_transactions, up_node, asked, set_up, control_by, ue_in, is_own_cu_cp, control_received, start, take, poll, tick, cu_up_acts}
use Rattle.law_requests_act_once.specs.channel.Ends.{asking_at}
use Rattle.law_requests_act_once.specs.channel.Replies.{Talk}
use Rattle.law_requests_act_once.proofs.channel_rows.Requests.{Leaves, Replies}
use Rattle.law_requests_act_once.proofs.channel_rows.CuUps.{kept, asked_replies, take_leaves, poll_leaves}
use Rattle.law_requests_act_once.proofs.unit_setups.Growing.{goes_same, ask_goes, ticked_goes, Goes, asked_goes, reply_goes, request_goes}

module _ {M C P : Type 0} (talk : Talk M C P) (n : NodeId) (r : CuUp M C) where
  abbrev before : Transactions M C
  before = r.transactions

  abbrev KeepsInvariant : Answer M P (CuUp M C) → Type 0
  KeepsInvariant a = Goes talk.way (kept talk n) before a

  whole : KeepsInvariant (nothing r)
  whole = goes_same talk.way before before (λ c. refl)

  leaves_fine : (a : Answer M P (CuUp M C)) → Leaves talk n (kept talk n) before a → KeepsInvariant a
  leaves_fine (gives os q) leaves = goes_same talk.way before q.transactions (λ c. ap (λ (u : Transactions M C). asking_at u c) leaves.1)
  leaves_fine (spent k) leaves = tt

  -- the row of a request that was taken
  replies_fine : (c : Channel) (m : Message C) (i : ℕ) (a : Answer M P (CuUp M C))
      → Replies talk n (kept talk n) (record before { callee = taken before.callee c i }) c m i a → KeepsInvariant a
  unfolding waits_at
  replies_fine c m i (gives os q) (inl none) =
      goes_same talk.way before q.transactions (λ k. ap (λ (u : Transactions M C). asking_at u k) none.1)
  replies_fine c m i (gives os q) (inr one) =
      goes_same talk.way before q.transactions (λ k. ap (λ (u : Transactions M C). asking_at u k) one.kept)
  replies_fine c m i (spent k) replies = tt

  control_by_fine : (from : NodeId) (m : Message C) (k : Kind) → kind_of m ≡ k → KeepsInvariant (control_by talk.way (channel (ue_in talk.way k) from) m r k)
  unfolding set_up
  control_by_fine from m (request ue i) is =
      request_goes talk.way (kept talk n) before r refl (channel ue from) i (λ u. asked talk.way (channel ue from) m (with_transactions r u))
      (replies_fine (channel ue from) m i _ (asked_replies talk n r (record before { callee = taken before.callee (channel ue from) i }) from m ue i is))
  control_by_fine from m (reply ue i) is =
      reply_goes talk.way (kept talk n) before r refl (channel ue from) i (λ a. record r { is_set_up = true; transactions = a.transactions }) (λ a. refl)
  control_by_fine from m (transfer ue) is = whole

  control_fine : (from : NodeId) (m : Message C) → KeepsInvariant (control_received talk.way from m r)
  unfolding control_received
  control_fine from m = by (is_own_cu_cp talk.way r.gnb from)
    where
      by : (b : Bool) → KeepsInvariant (if b then control_by talk.way (channel (ue_in talk.way (kind_of m)) from) m r (kind_of m) else drops Unexpected r)
      by true = control_by_fine from m (kind_of m) refl
      by false = whole

  start_fine : KeepsInvariant (start talk.way r)
  unfolding start
  start_fine = by r.is_set_up
    where
      first : Waiting C
      first = record { message = e1 (e1s.E1SetupRequest no_instance (node_text (up_node r))); deadline = None; awaited = false }

      by : (b : Bool) → KeepsInvariant (if b then nothing r else
          (ask talk.way before (channel 0 (CuCp r.gnb))
          (record { message = e1 (e1s.E1SetupRequest no_instance (node_text (up_node r))); deadline = None; awaited = false })
          then (λ a. nothing (with_transactions r a.transactions))))
      by true = whole
      by false =
          asked_goes talk.way (kept talk n) before (ask talk.way before (channel 0 (CuCp r.gnb)) first) (λ a. with_transactions r a.transactions) (λ a. refl)
          (ask_goes talk.way before (channel 0 (CuCp r.gnb)) first tt)

  pub cu_up_asks : IsSorted channel_cmp before.caller.opened → (input : Input C P) → KeepsInvariant (cu_up_acts talk.way r input)
  unfolding cu_up_acts tick
  cu_up_asks sorted (control_input from m) = control_fine from m
  cu_up_asks sorted (packet_input teid item) = leaves_fine (take talk.way teid item r) (take_leaves talk n teid item r)
  cu_up_asks sorted tick_input = ticked_goes talk.way before sorted
  cu_up_asks sorted (order_input orders.Start) = start_fine
  cu_up_asks sorted (order_input (orders.Poll ue bearer)) = leaves_fine (poll talk.way ue bearer r) (poll_leaves talk n ue bearer r)
  cu_up_asks sorted input = whole
