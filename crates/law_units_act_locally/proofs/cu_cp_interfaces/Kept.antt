-- What a unit keeps of messages is of the interface to the node that it is kept for: requests that are open and that wait, and replies; and
-- so is what it puts of them.
use Rattle.std.proofs.Common.{◌≡◌, ◌==◌, ℕ, ◌+◌, Bool, true, false, not, ◌||◌, List, [], ◌∷◌, ◌++◌, filter, Option, Some, None, refl, sym, subst}
use Rattle.std.specs.Prelude.{if◌then◌else◌, unwrap_or}
use Rattle.std.specs.List.{AllByRecursion, flat_map}
use Rattle.std.specs.BTreeMap.{is_at}
use Rattle.gnb_types.specs.declared.names.NodeId.{NodeId}
use Rattle.gnb_types.specs.declared.keys.Channel.{Channel}
use Rattle.gnb_types.specs.declared.reasons.DropReason.TheVariants.{Stale}
use Rattle.gnb_types.specs.Orders.{channel_cmp}
use Rattle.gnb_types.proofs.OrderLemmas.{channel_exact}
use Rattle.message_types.specs.declared.f1.F1.TheVariants as f1s
use Rattle.message_types.specs.declared.e1.E1Message.TheVariants as e1s
use Rattle.message_types.specs.declared.xn.XnMessage.TheVariants as xns
use Rattle.message_types.specs.declared.xn.CoreMessage.TheVariants as cores
use Rattle.message_types.specs.declared.rrc.Token.{Token}
use Rattle.tables.specs.Tables.{find, without, at}
use Rattle.transaction_defs.specs.Callers.{Opened, Caller, last_instance, opened_at, is_open, is_awaited, close, Begin, begun, running, spent as begins_no_more, begun_with, begin_after, begin, with_request, keep_request, Due, repeats, expires, is_last, repeated, due_of, aged, due, after_tick}
use Rattle.transaction_defs.specs.Callees.{Kept, kept_at, Verdict, new, again, stale, verdict, taken, reply_in, kept_reply, with_reply, keep, newest, is_newest, keep_for}
use Rattle.unit_defs.specs.Ways.{f1, e1, xn, core, gives, spent, with_outputs, ◌then◌, nothing, drops}
use Rattle.unit_defs.specs.Transactions.{with_instance, Waiting, is_empty, waits_at, waiting_then, with_waiting, begun_as, begin_request, ask, advance_with, advance, ask_at_once, replied, replied_late, answered_again, request_by, on_request, on_reply}
use Rattle.run_defs.specs.Runs.{plain_way}
use Rattle.intervals.proofs.Intervals.{all_append, all_filter}
use Rattle.proof_unit_steps.proofs.packets.Keyed.{keyed_found, keyed_put}
use Rattle.proof_unit_steps.proofs.tunnel_names.Kept.{all_mapped}
use Rattle.law_requests_act_once.specs.channel.Ends.{Sent}
use Rattle.law_requests_act_once.specs.channel.Moves.{sent_by}
use Rattle.law_requests_act_once.proofs.channel_rows.Requests.{sent_both}
use Rattle.law_units_act_locally.specs.cu_cp_interfaces.Interfaces.{Interface, interface_of, Joins, IsOf}
use Rattle.law_units_act_locally.specs.cu_cp_interfaces.Ledgers.{Said, Ledger, Answered, SentOf, Of, IfOf, OpenOf, WaitsOf, ReplyOf, OpensOf, Keeps, Asks, Gives}

-- an instance makes no message of another interface
instance_same : (i : ℕ) (m : Said) → interface_of (with_instance i m) ≡ interface_of m
unfolding with_instance
instance_same i (f1 (f1s.F1SetupRequest instance name)) = refl
instance_same i (f1 (f1s.UeContextSetupRequest ue instance epoch uplinks sn peer)) = refl
instance_same i (f1 (f1s.UeContextModificationRequest ue instance epoch)) = refl
instance_same i (f1 (f1s.UeContextReleaseCommand ue instance)) = refl
instance_same i (e1 (e1s.E1SetupRequest instance name)) = refl
instance_same i (e1 (e1s.BearerContextSetupRequest ue instance bearers sn quota forward)) = refl
instance_same i (e1 (e1s.BearerContextModificationRequest ue instance downlinks mode peer down up statuses du)) = refl
instance_same i (e1 (e1s.BearerContextReleaseCommand ue instance is_final)) = refl
instance_same i (xn (xns.HandoverRequest ue instance epoch bearers sn quota peer du origin)) = refl
instance_same i (xn (xns.SnStatusTransfer ue instance statuses)) = refl
instance_same i (xn (xns.HandoverCancel ue instance)) = refl
instance_same i (xn (xns.UeContextRelease ue instance)) = refl
instance_same i (core (cores.PathSwitchRequest ue instance peer n3)) = refl
instance_same i m = refl

module _ (node : NodeId) where
  -- ---- answers: what is put is of the interface to whom it is put; by cases, and one after another

  pub either : {R : Type 0} (Q : R → Type 0) (t : Bool) (x y : Answered R) → Gives node Q x → Gives node Q y
      → Gives node Q (if t then x else y)
  either Q true x y p q = p
  either Q false x y p q = q

  pub after : {R S : Type 0} (Q : R → Type 0) (T : S → Type 0) (a : Answered R) (f : R → Answered S) → Gives node Q a
      → ((r : R) → Q r → Gives node T (f r))
      → Gives node T (a then f)
  after {S = S} Q T (gives os r) f p q = by (f r) (q r p.0)
    where
      by : (b : Answered S) → Gives node T b → Gives node T (with_outputs os b)
      by (gives more s) h = (
        h.0,
        subst SentOf (sym (sent_both node os more))
            (all_append (λ (s : Sent Said). IsOf s.from s.to s.message) (sent_by node os) (sent_by node more) p.1 h.1),
      )
      by (spent k) h = tt
  after Q T (spent k) f p q = tt

  -- ---- requests that are begun

  kept_request : (r : Caller Said) (c : Channel) (m : Said) → OpensOf node r → Of node c m → OpensOf node (keep_request r c m)
  unfolding keep_request
  kept_request r c m all p = by (opened_at r c)
    where
      by : (o : Option (Opened Said)) → OpensOf node (with_request r c m o)
      by None = all
      by (Some opened) = keyed_put channel_cmp channel_exact (OpenOf node) r.opened c (record opened { request = Some m }) all p

  abbrev BegunWell : Begin Said → Type 0
  BegunWell (begun instance after) = OpensOf node after
  BegunWell running = Unit {0}
  BegunWell begins_no_more = Unit {0}

  begun_well : (r : Caller Said) (c : Channel) (deadline : Option ℕ) → OpensOf node r → BegunWell (begin r c deadline)
  unfolding begin
  begun_well r c deadline all = by (opened_at r c) (at channel_cmp 0 r.last c)
    where
      fresh : (t : Bool) (instance : ℕ) → BegunWell (if t then begins_no_more else begun_with r c deadline instance)
      fresh true instance = tt
      fresh false instance =
          keyed_put channel_cmp channel_exact (OpenOf node) r.opened c
          (record { instance = instance; deadline = deadline; request = None }) all tt

      by : (o : Option (Opened Said)) (last : ℕ) → BegunWell (begin_after r c deadline o last)
      by (Some opened) last = tt
      by None last = fresh (last == last_instance) (last + 1)

  begun_gives : (t : Ledger) (c : Channel) (w : Waiting Token) (b : Begin Said) → Keeps node t → Of node c w.message → BegunWell b
      → Gives node (Asks node) (begun_as plain_way t c w b)
  begun_gives t c w (begun instance after) p fits all =
      let says : Of node c (with_instance instance w.message) = subst Joined (sym (instance_same instance w.message)) fits in (
        record { opened = kept_request after c (with_instance instance w.message) all says; waiting = p.waiting; replies = p.replies },
        (says, tt),
      )
    where
      Joined : Interface → Type 0
      Joined x = Joins x node c.peer
  begun_gives t c w running p fits all = (p, tt)
  begun_gives t c w begins_no_more p fits all = tt

  request_gives : (t : Ledger) (c : Channel) (w : Waiting Token) → Keeps node t → Of node c w.message
      → Gives node (Asks node) (begin_request plain_way t c w)
  unfolding begin_request
  request_gives t c w p fits = begun_gives t c w (begin t.caller c w.deadline) p fits (begun_well t.caller c w.deadline p.opened)

  -- ---- what waits

  pub waits_are : (t : Ledger) (c : Channel) → Keeps node t → WaitsOf node c (waits_at t c)
  unfolding waits_at at
  waits_are t c p = by (find channel_cmp t.waiting c) refl
    where
      by : (o : Option (List (Waiting Token))) → find channel_cmp t.waiting c ≡ o → WaitsOf node c (unwrap_or o [])
      by None is_none = tt
      by (Some ws) there = keyed_found channel_cmp channel_exact (WaitsOf node) t.waiting c ws p.waiting there

  pub waiting_keeps : (t : Ledger) (c : Channel) (ws : List (Waiting Token)) → Keeps node t → WaitsOf node c ws
      → Keeps node (with_waiting t c ws)
  unfolding with_waiting without
  waiting_keeps t c ws p all = record { opened = p.opened; waiting = by ws all; replies = p.replies }
    where
      by : (vs : List (Waiting Token)) → WaitsOf node c vs
          → AllByRecursion (λ (e : Channel × List (Waiting Token)). WaitsOf node e.0 e.1) (waiting_then t.waiting c vs)
      by [] q =
          all_filter (λ (e : Channel × List (Waiting Token)). WaitsOf node e.0 e.1)
          (λ e. not (is_at (channel_cmp c) e.0)) t.waiting p.waiting
      by (v ∷ vs) q = keyed_put channel_cmp channel_exact (WaitsOf node) t.waiting c (v ∷ vs) p.waiting q

  pub closed_keeps : (t : Ledger) (c : Channel) → Keeps node t → Keeps node (record t { caller = close t.caller c })
  unfolding close without
  closed_keeps t c p = record {
    opened =
        all_filter (λ (e : Channel × Opened Said). OpenOf node e.0 e.1) (λ e. not (is_at (channel_cmp c) e.0)) t.caller.opened p.opened;
    waiting = p.waiting;
    replies = p.replies;
  }

  pub ask_gives : (t : Ledger) (c : Channel) (w : Waiting Token) → Keeps node t → Of node c w.message
      → Gives node (Asks node) (ask plain_way t c w)
  unfolding ask
  ask_gives t c w p fits =
      either (Asks node) (is_open t.caller c || not (is_empty (waits_at t c)))
      (nothing (record { transactions = with_waiting t c (waits_at t c ++ w ∷ []); awaited = None })) (begin_request plain_way t c w) (
        waiting_keeps t c (waits_at t c ++ w ∷ []) p
            (all_append (λ (v : Waiting Token). Of node c v.message) (waits_at t c) (w ∷ []) (waits_are t c p) (fits, tt)),
        tt,
      )
      (request_gives t c w p fits)

  pub advance_gives : (t : Ledger) (c : Channel) → Keeps node t → Gives node (Asks node) (advance plain_way t c)
  unfolding advance
  advance_gives t c p =
      either (Asks node) (is_open t.caller c) (nothing (record { transactions = t; awaited = None }))
      (advance_with plain_way t c (waits_at t c)) (p, tt)
      (by (waits_at t c) (waits_are t c p))
    where
      by : (ws : List (Waiting Token)) → WaitsOf node c ws → Gives node (Asks node) (advance_with plain_way t c ws)
      by [] all = (p, tt)
      by (w ∷ ws) all = request_gives (with_waiting t c ws) c w (waiting_keeps t c ws p all.1) all.0

  pub at_once_gives : (t : Ledger) (c : Channel) (w : Waiting Token) → Keeps node t → Of node c w.message
      → Gives node (Asks node) (ask_at_once plain_way t c w)
  unfolding ask_at_once
  at_once_gives t c w p fits =
      request_gives (with_waiting (record t { caller = close t.caller c }) c []) c w
      (waiting_keeps (record t { caller = close t.caller c }) c [] (closed_keeps t c p) tt) fits

  -- ---- replies

  pub reply_keeps : (t : Ledger) (c : Channel) (m : Said) → Keeps node t → Of node c m
      → Keeps node (record t { callee = keep t.callee c m })
  unfolding keep
  reply_keeps t c m p says = record { opened = p.opened; waiting = p.waiting; replies = by (kept_at t.callee c) }
    where
      by : (o : Option (Kept Said)) → AllByRecursion (λ (e : Channel × Kept Said). ReplyOf node e.0 e.1) (with_reply t.callee c m o)
      by None = p.replies
      by (Some kept) = keyed_put channel_cmp channel_exact (ReplyOf node) t.callee c (record kept { reply = Some m }) p.replies says

  pub replied_gives : (t : Ledger) (c : Channel) (m : Said) → Keeps node t → Of node c m → Gives node (Keeps node) (replied plain_way t c m)
  unfolding replied
  replied_gives t c m p says = (reply_keeps t c m p says, (says, tt))

  pub late_gives : (t : Ledger) (c : Channel) (instance : ℕ) (m : Said) → Keeps node t → Of node c m
      → Gives node (Keeps node) (replied_late plain_way t c instance m)
  unfolding replied_late keep_for
  late_gives t c instance m p says = (by (is_newest (newest t.callee c) instance), (says, tt))
    where
      by : (b : Bool) → Keeps node (record t { callee = if b then keep t.callee c m else t.callee })
      by true = reply_keeps t c m p says
      by false = record { opened = p.opened; waiting = p.waiting; replies = p.replies }

  taken_keeps : (t : Ledger) (c : Channel) (instance : ℕ) → Keeps node t → Keeps node (record t { callee = taken t.callee c instance })
  unfolding taken
  taken_keeps t c instance p = record {
    opened = p.opened;
    waiting = p.waiting;
    replies = keyed_put channel_cmp channel_exact (ReplyOf node) t.callee c (record { instance = instance; reply = None }) p.replies tt;
  }

  -- a request that is taken
  pub request_taken : {R : Type 0} (Q : R → Type 0) (same : R) (t : Ledger) (c : Channel) (instance : ℕ) (row : Ledger → Answered R)
      → Q same → Keeps node t → ((u : Ledger) → Keeps node u → Gives node Q (row u))
      → Gives node Q (on_request plain_way same t c instance row)
  unfolding on_request kept_reply kept_at
  request_taken {R} Q same t c instance row well p each = by (verdict t.callee c instance)
    where
      kept_again : (o : Option Said) → IfOf node c o → Gives node Q (answered_again plain_way same c o)
      kept_again None says = (well, tt)
      kept_again (Some m) says = (well, (says, tt))

      in_kept : (o : Option (Kept Said)) → kept_at t.callee c ≡ o → IfOf node c (reply_in o)
      in_kept None is_none = tt
      in_kept (Some kept) there = keyed_found channel_cmp channel_exact (ReplyOf node) t.callee c kept p.replies there

      by : (v : Verdict) → Gives node Q (request_by plain_way same t c instance row v)
      by new = each (record t { callee = taken t.callee c instance }) (taken_keeps t c instance p)
      by again = kept_again (kept_reply t.callee c) (in_kept (kept_at t.callee c) refl)
      by stale = (well, tt)

  pub reply_taken : {R : Type 0} (Q : R → Type 0) (same : R) (t : Ledger) (c : Channel) (instance : ℕ) (row : Answered R) → Q same
      → Gives node Q row
      → Gives node Q (on_reply plain_way same t c instance row)
  unfolding on_reply
  reply_taken Q same t c instance row well p = either Q (is_awaited t.caller c instance) row (drops Stale same) p (well, tt)

  -- ---- a tick

  abbrev pub DueOf : Due Said → Type 0
  DueOf (repeats c m) = Of node c m
  DueOf (expires c) = Unit {0}

  pub due_are : (r : Caller Said) → OpensOf node r → AllByRecursion DueOf (due r)
  unfolding due
  due_are r all = by r.opened all
    where
      again_are : (c : Channel) (o : Option Said) → IfOf node c o → AllByRecursion DueOf (repeated c o)
      again_are c None p = tt
      again_are c (Some m) p = (p, tt)

      one : (e : Channel × Opened Said) → OpenOf node e.0 e.1 → (t : Bool)
          → AllByRecursion DueOf (if t then expires e.0 ∷ [] else repeated e.0 e.1.request)
      one e p true = (tt, tt)
      one e p false = again_are e.0 e.1.request p

      by : (es : List (Channel × Opened Said)) → AllByRecursion (λ (e : Channel × Opened Said). OpenOf node e.0 e.1) es
          → AllByRecursion DueOf (flat_map due_of es)
      by [] q = tt
      by (e ∷ es) q = all_append DueOf (due_of e) (flat_map due_of es) (one e q.0 (is_last e.1.deadline)) (by es q.1)

  pub ticked_keeps : (t : Ledger) → Keeps node t → Keeps node (record t { caller = after_tick t.caller })
  unfolding after_tick
  ticked_keeps t p = record {
    opened =
        all_mapped (λ (e : Channel × Opened Said). OpenOf node e.0 e.1) (λ (e : Channel × Opened Said). OpenOf node e.0 e.1) aged (λ e q. q)
        (filter (λ e. not (is_last e.1.deadline)) t.caller.opened)
        (all_filter (λ (e : Channel × Opened Said). OpenOf node e.0 e.1) (λ e. not (is_last e.1.deadline)) t.caller.opened p.opened);
    waiting = p.waiting;
    replies = p.replies;
  }
