-- A DU, a CU-UP and the core keep to their interfaces.
use Rattle.std.proofs.Common.{inl, inr, ◌≡◌, ◌==◌, ℕ, Bool, true, false, List, [], ◌∷◌, map, Option, Some, None, refl, sym, subst}
use Rattle.std.specs.Prelude.{if◌then◌else◌}
use Rattle.std.specs.List.{AllByRecursion, flat_map}
use Rattle.gnb_types.specs.declared.names.Gnb.{Gnb}
use Rattle.gnb_types.specs.declared.names.NodeId.{NodeId}
use Rattle.gnb_types.specs.declared.names.NodeId.TheVariants.{CuCp, CuUp as up_id, Du as du_id, Core, Ue}
use Rattle.gnb_types.specs.declared.names.UeId.{UeId}
use Rattle.gnb_types.specs.declared.names.Dir.TheVariants.{Dl, Ul}
use Rattle.gnb_types.specs.declared.keys.Channel.{Channel}
use Rattle.gnb_types.specs.declared.plans.Tunnel.{Tunnel}
use Rattle.gnb_types.specs.declared.inputs.Order.TheVariants as orders
use Rattle.gnb_types.specs.declared.outputs.Tag.TheVariants.{Same}
use Rattle.gnb_types.specs.declared.reasons.DropReason.TheVariants.{Unexpected}
use Rattle.gnb_types.specs.Names.{node_text}
use Rattle.gnb_types.specs.Orders.{ue_cmp}
use Rattle.tables.specs.Tables.{find}
use Rattle.message_types.specs.declared.f1.F1.TheVariants as f1s
use Rattle.message_types.specs.declared.e1.E1Message.TheVariants as e1s
use Rattle.message_types.specs.declared.xn.CoreMessage.TheVariants as cores
use Rattle.message_types.specs.declared.rrc.Token.{Token}
use Rattle.transaction_defs.specs.Callers.{close, due, Due, repeats, expires}
use Rattle.unit_defs.specs.Ways.{f1, e1, core, rrc, uplink, packet, Pdu, Input, control_input, packet_input, radio_input, confirm_input, tick_input, order_input, gives, spent, ◌then◌, nothing, puts, drops}
use Rattle.unit_defs.specs.Messages.{channel, is_same_gnb}
use Rattle.unit_defs.specs.Transactions.{Kind, request, reply, transfer, kind_of, no_instance, ask, advance, replied}
use Rattle.unit_defs.specs.Du.{Du, DuContext, du_node, context_of, with_transactions, asked, relayed_down, relay_down, relayed_up, relay_up, token_ue, transferred, of_terminal, set_up, of_cu_cp, control_received, start, take, confirmed, pass_up, confirm, due_output, tick, du_acts}
use Rattle.unit_defs.specs.CuUpRecords.{CuUp}
use Rattle.unit_defs.specs.CuUp.{with_transactions as up_with, up_node, asked as up_asked, set_up as up_set_up, control_by, ue_in, is_own_cu_cp, control_received as up_control, start as up_start, take as up_take, poll, due_output as up_due, tick as up_tick, cu_up_acts}
use Rattle.unit_defs.specs.Core.{CoreRecord, CorePath, end_of, old_ends, moved, asked as core_asked, came, core_acts, switch_path}
use Rattle.run_defs.specs.Runs.{plain_way}
use Rattle.law_requests_act_once.specs.channel.Replies.{answers, overtakes, Talk}
use Rattle.law_requests_act_once.specs.channel.Moves.{sent_by}
use Rattle.law_requests_act_once.proofs.channel_rows.Requests.{Leaves, Replies}
use Rattle.law_requests_act_once.proofs.channel_rows.Dus.{kept, asked_replies, take_leaves, context_leaves, confirmed_leaves}
use Rattle.law_requests_act_once.proofs.channel_rows.CuUps.{kept as up_kept, asked_replies as up_replies, take_leaves as up_take_leaves, poll_leaves}
use Rattle.law_units_act_locally.specs.cu_cp_interfaces.Interfaces.{IsOf}
use Rattle.law_units_act_locally.specs.cu_cp_interfaces.Ledgers.{Said, Ledger, Answered, SentOf, Of, Keeps, Asks, Gives, GivenOf}
use Rattle.law_units_act_locally.proofs.cu_cp_interfaces.Kept.{either, after, closed_keeps, ask_gives, advance_gives, reply_keeps, replied_gives, request_taken, reply_taken, DueOf, due_are, ticked_keeps}
use Rattle.law_units_act_locally.proofs.run_interfaces.Turns.{back}

-- messages are what they say
abbrev talk : Talk Said Token Pdu
talk = record { way = plain_way; kind = kind_of; answers = answers; overtakes = overtakes }

module _ {R : Type 0} (kept_of : R → Ledger) (node : NodeId) where
  abbrev pub Stays : R → Type 0
  Stays r = Keeps node (kept_of r)

  -- nothing is put of messages, and nothing changes of what is kept
  pub leaves_stay : (t : Ledger) (a : Answered R) → Leaves talk node kept_of t a → Keeps node t → Gives node Stays a
  leaves_stay t (gives os r) leaves p = (subst (Keeps node) (sym leaves.1) p, subst SentOf (sym leaves.0) tt)
  leaves_stay t (spent k) leaves p = tt

  -- or a request is answered, where it came from
  pub replies_stay : (t : Ledger) (c : Channel) (m : Said) (i : ℕ) (a : Answered R) → Replies talk node kept_of t c m i a
      → IsOf c.peer node m → Keeps node t
      → Gives node Stays a
  replies_stay t c m i (gives os r) (inl none) is p = (subst (Keeps node) (sym none.1) p, subst SentOf (sym none.0) tt)
  replies_stay t c m i (gives os r) (inr one) is p =
      let says : Of node c one.message = back c.peer node m one.message one.fits is in
      (subst (Keeps node) (sym one.kept) (reply_keeps node t c one.message p says), subst SentOf (sym one.sent) (says, tt))
  replies_stay t c m i (spent k) replies is p = tt

-- ---- a DU

module _ (g : Gnb) (n : ℕ) (r : Du Said Token) (own : r.gnb ≡ g) (p : Keeps (du_id g n) r.transactions) where
  abbrev DuInvariant : Du Said Token → Type 0
  DuInvariant s = Keeps (du_id g n) s.transactions

  abbrev DuDoes : Answered (Du Said Token) → Type 0
  DuDoes a = Gives (du_id g n) DuInvariant a

  leaves_does : (a : Answered (Du Said Token)) → Leaves talk (du_id g n) (kept talk (du_id g n)) r.transactions a → DuDoes a
  leaves_does a leaves = leaves_stay (kept talk (du_id g n)) (du_id g n) r.transactions a leaves p

  transferred_does : (m : Said) → DuDoes (transferred plain_way m r)
  unfolding relay_down
  transferred_does (f1 (f1s.DlRrcMessageTransfer ue container)) = by (context_of r ue)
    where
      by : (c : Option DuContext) → DuDoes (relayed_down plain_way ue container r c)
      by None = (p, tt)
      by (Some c) = (p, (tt, tt))
  transferred_does m = (p, tt)

  terminal_does : (ue : ℕ) (m : Said) → DuDoes (of_terminal plain_way ue m r)
  unfolding relay_up
  terminal_does ue (rrc token) = by ((token_ue plain_way token).0 == ue) (context_of r (token_ue plain_way token))
    where
      by : (b : Bool) (c : Option DuContext)
          → DuDoes (if b then relayed_up plain_way (token_ue plain_way token) token r c else drops Unexpected r)
      by true None = (p, tt)
      by true (Some c) = (p, (sym own, tt))
      by false c = (p, tt)
  terminal_does ue m = (p, tt)

  set_up_does : (ch : Channel) → DuDoes (set_up plain_way ch r)
  unfolding set_up
  set_up_does ch =
      after (du_id g n) (Asks (du_id g n)) DuInvariant (advance plain_way (record r.transactions { caller = close r.transactions.caller ch }) ch)
      (λ a. nothing (record r { is_set_up = true; transactions = a.transactions }))
      (advance_gives (du_id g n) (record r.transactions { caller = close r.transactions.caller ch }) ch
      (closed_keeps (du_id g n) r.transactions ch p))
      (λ a k. (k, tt))

  of_cp_does : (from : NodeId) (m : Said) → IsOf from (du_id g n) m → (k : Kind) → kind_of m ≡ k → DuDoes (of_cu_cp plain_way from m r k)
  of_cp_does from m is (request ue i) e =
      request_taken (du_id g n) DuInvariant r r.transactions (channel ue from) i
      (λ t. asked plain_way (channel ue from) m (with_transactions r t)) p p
      (λ t k. replies_stay (kept talk (du_id g n)) (du_id g n) t (channel ue from) m i _
      (asked_replies talk (du_id g n) r t from m ue i e) is k)
  of_cp_does from m is (reply ue i) e =
      reply_taken (du_id g n) DuInvariant r r.transactions (channel ue from) i (set_up plain_way (channel ue from) r) p
      (set_up_does (channel ue from))
  of_cp_does from m is (transfer ue) e = transferred_does m

  control_does : (from : NodeId) (m : Said) → IsOf from (du_id g n) m → DuDoes (control_received plain_way from m r)
  unfolding control_received
  control_does (CuCp h) m is =
      either (du_id g n) DuInvariant (is_same_gnb h r.gnb) (of_cu_cp plain_way (CuCp h) m r (kind_of m)) (drops Unexpected r)
      (of_cp_does (CuCp h) m is (kind_of m) refl) (p, tt)
  control_does (Ue ue) m is = terminal_does ue m
  control_does from m is = (p, tt)

  start_does : DuDoes (start plain_way r)
  unfolding start
  start_does =
      either (du_id g n) DuInvariant r.is_set_up (nothing r) _ (p, tt)
      (after (du_id g n) (Asks (du_id g n)) DuInvariant (ask plain_way r.transactions (channel 0 (CuCp r.gnb))
      (record { message = f1 (f1s.F1SetupRequest no_instance (node_text (du_node r))); deadline = None; awaited = false }))
      (λ a. nothing (with_transactions r a.transactions))
      (ask_gives (du_id g n) r.transactions (channel 0 (CuCp r.gnb))
      (record { message = f1 (f1s.F1SetupRequest no_instance (node_text (du_node r))); deadline = None; awaited = false }) p (sym own))
      (λ a k. (k, tt)))

  due_sent : (ds : List (Due Said)) → AllByRecursion (DueOf (du_id g n)) ds
      → SentOf (sent_by (du_id g n) (flat_map (due_output plain_way) ds))
  due_sent [] all = tt
  due_sent (repeats ch m ∷ ds) all = (all.0, due_sent ds all.1)
  due_sent (expires ch ∷ ds) all = due_sent ds all.1

  pub du_does : (input : Input Token Pdu) → GivenOf (du_id g n) input → DuDoes (du_acts plain_way r input)
  unfolding du_acts pass_up confirm tick
  du_does (control_input from m) is = control_does from m is
  du_does (packet_input teid item) is = leaves_does (take plain_way teid item r) (take_leaves talk (du_id g n) teid item r)
  du_does (radio_input ue bearer Ul pdu content) is =
      leaves_does _ (context_leaves talk (du_id g n) r (λ c b. puts (packet b.up b.uplink ue bearer Ul Same (uplink pdu)) r) bearer
      (context_of r ue)
      (λ d b. (refl, refl)))
  du_does (confirm_input ue bearer Dl pdu content) is =
      leaves_does _ (context_leaves talk (du_id g n) r (λ c b. confirmed plain_way ue bearer r b (plain_way.number c.sn pdu)) bearer
      (context_of r ue)
      (λ d b. confirmed_leaves talk (du_id g n) ue bearer r b (plain_way.number d.sn pdu)))
  du_does tick_input is =
      (ticked_keeps (du_id g n) r.transactions p, due_sent (due r.transactions.caller) (due_are (du_id g n) r.transactions.caller p.opened))
  du_does (order_input orders.Start) is = start_does
  du_does input is = (p, tt)

-- ---- a CU-UP

module _ (g : Gnb) (n : ℕ) (r : CuUp Said Token) (own : r.gnb ≡ g) (p : Keeps (up_id g n) r.transactions) where
  abbrev CuUpInvariant : CuUp Said Token → Type 0
  CuUpInvariant s = Keeps (up_id g n) s.transactions

  abbrev UpDoes : Answered (CuUp Said Token) → Type 0
  UpDoes a = Gives (up_id g n) CuUpInvariant a

  up_leaves_does : (a : Answered (CuUp Said Token)) → Leaves talk (up_id g n) (up_kept talk (up_id g n)) r.transactions a → UpDoes a
  up_leaves_does a leaves = leaves_stay (up_kept talk (up_id g n)) (up_id g n) r.transactions a leaves p

  up_set_up_does : (ch : Channel) → UpDoes (up_set_up plain_way ch r)
  unfolding up_set_up
  up_set_up_does ch =
      after (up_id g n) (Asks (up_id g n)) CuUpInvariant (advance plain_way (record r.transactions { caller = close r.transactions.caller ch }) ch)
      (λ a. nothing (record r { is_set_up = true; transactions = a.transactions }))
      (advance_gives (up_id g n) (record r.transactions { caller = close r.transactions.caller ch }) ch
      (closed_keeps (up_id g n) r.transactions ch p))
      (λ a k. (k, tt))

  by_kind_does : (from : NodeId) (m : Said) → IsOf from (up_id g n) m → (k : Kind) → kind_of m ≡ k
      → UpDoes (control_by plain_way (channel (ue_in plain_way k) from) m r k)
  by_kind_does from m is (request ue i) e =
      request_taken (up_id g n) CuUpInvariant r r.transactions (channel ue from) i (λ t. up_asked plain_way (channel ue from) m (up_with r t)) p p
      (λ t k. replies_stay (up_kept talk (up_id g n)) (up_id g n) t (channel ue from) m i _
      (up_replies talk (up_id g n) r t from m ue i e) is k)
  by_kind_does from m is (reply ue i) e =
      reply_taken (up_id g n) CuUpInvariant r r.transactions (channel ue from) i (up_set_up plain_way (channel ue from) r) p
      (up_set_up_does (channel ue from))
  by_kind_does from m is (transfer ue) e = (p, tt)

  up_control_does : (from : NodeId) (m : Said) → IsOf from (up_id g n) m → UpDoes (up_control plain_way from m r)
  unfolding up_control
  up_control_does from m is =
      either (up_id g n) CuUpInvariant (is_own_cu_cp plain_way r.gnb from)
      (control_by plain_way (channel (ue_in plain_way (kind_of m)) from) m r (kind_of m)) (drops Unexpected r)
      (by_kind_does from m is (kind_of m) refl) (p, tt)

  up_start_does : UpDoes (up_start plain_way r)
  unfolding up_start
  up_start_does =
      either (up_id g n) CuUpInvariant r.is_set_up (nothing r) _ (p, tt)
      (after (up_id g n) (Asks (up_id g n)) CuUpInvariant (ask plain_way r.transactions (channel 0 (CuCp r.gnb))
      (record { message = e1 (e1s.E1SetupRequest no_instance (node_text (up_node r))); deadline = None; awaited = false }))
      (λ a. nothing (up_with r a.transactions))
      (ask_gives (up_id g n) r.transactions (channel 0 (CuCp r.gnb))
      (record { message = e1 (e1s.E1SetupRequest no_instance (node_text (up_node r))); deadline = None; awaited = false }) p (sym own))
      (λ a k. (k, tt)))

  up_due_sent : (ds : List (Due Said)) → AllByRecursion (DueOf (up_id g n)) ds
      → SentOf (sent_by (up_id g n) (flat_map (up_due plain_way) ds))
  up_due_sent [] all = tt
  up_due_sent (repeats ch m ∷ ds) all = (all.0, up_due_sent ds all.1)
  up_due_sent (expires ch ∷ ds) all = up_due_sent ds all.1

  pub cu_up_does : (input : Input Token Pdu) → GivenOf (up_id g n) input → UpDoes (cu_up_acts plain_way r input)
  unfolding cu_up_acts up_tick
  cu_up_does (control_input from m) is = up_control_does from m is
  cu_up_does (packet_input teid item) is = up_leaves_does (up_take plain_way teid item r) (up_take_leaves talk (up_id g n) teid item r)
  cu_up_does tick_input is = (
    ticked_keeps (up_id g n) r.transactions p,
    up_due_sent (due r.transactions.caller)
        (due_are (up_id g n) r.transactions.caller p.opened),
  )
  cu_up_does (order_input orders.Start) is = up_start_does
  cu_up_does (order_input (orders.Poll ue bearer)) is =
      up_leaves_does (poll plain_way ue bearer r) (poll_leaves talk (up_id g n) ue bearer r)
  cu_up_does input is = (p, tt)

-- ---- the core

abbrev CoreInvariant : CoreRecord Said Token → Type 0
CoreInvariant s = Keeps Core s.transactions

abbrev CoreDoes : Answered (CoreRecord Said Token) → Type 0
CoreDoes a = Gives Core CoreInvariant a

ends_sent : (ue : UeId) (up : NodeId) (ts : List Tunnel) → SentOf (sent_by Core (map (end_of plain_way ue up) ts))
ends_sent ue up [] = tt
ends_sent ue up (t ∷ ts) = ends_sent ue up ts

old_sent : (ue : UeId) (o : Option CorePath) → SentOf (sent_by Core (old_ends plain_way ue o))
old_sent ue None = tt
old_sent ue (Some path) = ends_sent ue path.up path.n3

core_asked_does : (h : Gnb) (ue : ℕ) (m : Said) (r : CoreRecord Said Token) → CoreInvariant r
    → CoreDoes (core_asked plain_way (channel ue (CuCp h)) m r)
unfolding switch_path
core_asked_does h ue (core (cores.PathSwitchRequest owner instance peer paths)) r p =
    after Core (Keeps Core) CoreInvariant (replied plain_way r.transactions (channel ue (CuCp h))
    (core (cores.PathSwitchAcknowledge owner instance)))
    (λ t. moved plain_way owner peer paths (record r { transactions = t }))
    (replied_gives Core r.transactions (channel ue (CuCp h)) (core (cores.PathSwitchAcknowledge owner instance)) p tt)
    (λ t k. (k, old_sent owner (find ue_cmp r.paths owner)))
core_asked_does h ue m r p = (p, tt)

pub core_does : (r : CoreRecord Said Token) (from : NodeId) (m : Said) → CoreInvariant r → CoreDoes (core_acts plain_way r from m)
unfolding core_acts
core_does r (CuCp h) m p = by (kind_of m)
  where
    by : (k : Kind) → CoreDoes (came plain_way (CuCp h) m r k)
    by (request ue i) =
        request_taken Core CoreInvariant r r.transactions (channel ue (CuCp h)) i
        (λ t. core_asked plain_way (channel ue (CuCp h)) m (record r { transactions = t })) p p
        (λ t k. core_asked_does h ue m (record r { transactions = t }) k)
    by (reply ue i) = (p, tt)
    by (transfer ue) = (p, tt)
core_does r from m p = (p, tt)
