-- What a unit keeps of messages names tunnels as they do: requests that are begun, wait and are put again, and replies.
use Rattle.std.proofs.Common.{◌≡◌, ◌==◌, ℕ, ◌+◌, Bool, true, false, not, ◌||◌, List, [], ◌∷◌, ◌++◌, map, filter, Option, Some, None, refl}
use Rattle.std.specs.Prelude.{if◌then◌else◌, unwrap_or}
use Rattle.std.specs.List.{AllByRecursion, flat_map}
use Rattle.std.specs.BTreeMap.{is_at}
use Rattle.gnb_types.specs.declared.names.NodeId.{NodeId}
use Rattle.gnb_types.specs.declared.keys.Channel.{Channel}
use Rattle.gnb_types.specs.declared.reasons.DropReason.TheVariants.{Stale}
use Rattle.gnb_types.specs.Orders.{channel_cmp}
use Rattle.message_types.specs.declared.f1.F1.TheVariants as f1s
use Rattle.message_types.specs.declared.e1.E1Message.TheVariants as e1s
use Rattle.message_types.specs.declared.xn.XnMessage.TheVariants as xns
use Rattle.message_types.specs.declared.xn.CoreMessage.TheVariants as cores
use Rattle.tables.specs.Tables.{find, without, at}
use Rattle.transaction_defs.specs.Callers.{Opened, Caller, last_instance, opened_at, is_open, is_awaited, close, Begin, begun, running, spent as begins_no_more, begun_with, begin_after, begin, with_request, keep_request, Due, repeats, expires, is_last, repeated, due_of, aged, due, after_tick}
use Rattle.transaction_defs.specs.Callees.{Kept, kept_at, Verdict, new, again, stale, verdict, taken, reply_in, kept_reply, with_reply, keep, newest, is_newest, keep_for}
use Rattle.unit_defs.specs.Ways.{Message, f1, e1, xn, core, Way, Answer, gives, spent, with_outputs, ◌then◌, nothing, drops}
use Rattle.unit_defs.specs.Transactions.{kind_of, with_instance, Waiting, Transactions, Asked, is_empty, waits_at, waiting_then, with_waiting, begun_as, begin_request, ask, advance_with, advance, ask_at_once, replied, replied_late, answered_again, request_by, on_request, on_reply}
use Rattle.intervals.proofs.Intervals.{all_append, all_filter}
use Rattle.proof_unit_steps.proofs.packets.Answers.{found, each_put}
use Rattle.proof_unit_steps.specs.tunnel_names.Names.{Owners, IfAny, Names, Property, OutputNames, AnswerNames, KeptNames}

-- an instance names nothing
pub instance_names : {C : Type 0} (owners : Owners) (from : NodeId) (i : ℕ) (m : Message C) → Names owners from m → Names owners from (with_instance i m)
unfolding kind_of with_instance
instance_names owners from i (f1 (f1s.F1SetupRequest instance name)) p = p
instance_names owners from i (f1 (f1s.UeContextSetupRequest ue instance epoch uplinks sn peer)) p = p
instance_names owners from i (f1 (f1s.UeContextModificationRequest ue instance epoch)) p = p
instance_names owners from i (f1 (f1s.UeContextReleaseCommand ue instance)) p = p
instance_names owners from i (e1 (e1s.E1SetupRequest instance name)) p = p
instance_names owners from i (e1 (e1s.BearerContextSetupRequest ue instance bearers sn quota forward)) p = p
instance_names owners from i (e1 (e1s.BearerContextModificationRequest ue instance downlinks mode peer down up statuses du)) p = p
instance_names owners from i (e1 (e1s.BearerContextReleaseCommand ue instance is_final)) p = p
instance_names owners from i (xn (xns.HandoverRequest ue instance epoch bearers sn quota peer du origin)) p = p
instance_names owners from i (xn (xns.SnStatusTransfer ue instance statuses)) p = p
instance_names owners from i (xn (xns.HandoverCancel ue instance)) p = p
instance_names owners from i (xn (xns.UeContextRelease ue instance)) p = p
instance_names owners from i (core (cores.PathSwitchRequest ue instance peer n3)) p = p
instance_names owners from i m p = p

-- what holds of each of a list holds of each of its images
pub all_mapped : {X Y : Type 0} (Q : X → Type 0) (S : Y → Type 0) (f : X → Y) → ((x : X) → Q x → S (f x)) → (xs : List X) → AllByRecursion Q xs
    → AllByRecursion S (map f xs)
all_mapped Q S f each [] all = tt
all_mapped Q S f each (x ∷ xs) all = (each x all.0, all_mapped Q S f each xs all.1)

module _ {M C P : Type 0} {way : Way M C P} (is : Property way) (node : NodeId) where
  -- ---- answers: by cases, and one after another

  pub either : {R : Type 0} (Q : R → Type 0) (t : Bool) (x y : Answer M P R) → AnswerNames is Q node x → AnswerNames is Q node y
      → AnswerNames is Q node (if t then x else y)
  either Q true x y p q = p
  either Q false x y p q = q

  pub after : {R S : Type 0} (Q : R → Type 0) (T : S → Type 0) (a : Answer M P R) (f : R → Answer M P S) → AnswerNames is Q node a
      → ((r : R) → Q r → AnswerNames is T node (f r)) → AnswerNames is T node (a then f)
  after {S = S} Q T (gives os r) f p q = by (f r) (q r p.0)
    where
      by : (b : Answer M P S) → AnswerNames is T node b → AnswerNames is T node (with_outputs os b)
      by (gives more s) h = (h.0, all_append (OutputNames is node) os more p.1 h.1)
      by (spent k) h = tt
  after Q T (spent k) f p q = tt

  -- ---- open requests

  abbrev OpenNames : Channel × Opened M → Type 0
  OpenNames e = IfAny (is.says node) e.1.request

  abbrev OpensName : Caller M → Type 0
  OpensName r = AllByRecursion OpenNames r.opened

  abbrev WaitNames : Waiting C → Type 0
  WaitNames w = Names is.owners node w.message

  abbrev WaitsName : List (Waiting C) → Type 0
  WaitsName ws = AllByRecursion WaitNames ws

  abbrev ReplyNames : Kept M → Type 0
  ReplyNames k = IfAny (is.says node) k.reply

  abbrev Good : Transactions M C → Type 0
  Good t = KeptNames is node t

  abbrev GoodAsked : Asked M C → Type 0
  GoodAsked a = Good a.transactions

  kept_request : (r : Caller M) (c : Channel) (m : M) → OpensName r → is.says node m → OpensName (keep_request r c m)
  unfolding keep_request
  kept_request r c m all p = by (opened_at r c)
    where
      by : (o : Option (Opened M)) → OpensName (with_request r c m o)
      by None = all
      by (Some opened) = each_put channel_cmp (λ (x : Opened M). IfAny (is.says node) x.request) r.opened c (record opened { request = Some m }) all p

  abbrev BegunWell : Begin M → Type 0
  BegunWell (begun instance after) = OpensName after
  BegunWell running = Unit {0}
  BegunWell begins_no_more = Unit {0}

  begun_well : (r : Caller M) (c : Channel) (deadline : Option ℕ) → OpensName r → BegunWell (begin r c deadline)
  unfolding begin
  begun_well r c deadline all = by (opened_at r c) (at channel_cmp 0 r.last c)
    where
      fresh : (t : Bool) (instance : ℕ) → BegunWell (if t then begins_no_more else begun_with r c deadline instance)
      fresh true instance = tt
      fresh false instance =
          each_put channel_cmp (λ (x : Opened M). IfAny (is.says node) x.request) r.opened c (record { instance = instance; deadline = deadline; request = None }) all tt

      by : (o : Option (Opened M)) (last : ℕ) → BegunWell (begin_after r c deadline o last)
      by (Some opened) last = tt
      by None last = fresh (last == last_instance) (last + 1)

  begun_names : (t : Transactions M C) (c : Channel) (w : Waiting C) (b : Begin M) → Good t → WaitNames w → BegunWell b
      → AnswerNames is GoodAsked node (begun_as way t c w b)
  begun_names t c w (begun instance after) p names all =
      let says : is.says node (way.encode (with_instance instance w.message)) =
      is.spells node (with_instance instance w.message) (instance_names is.owners node instance w.message names) in
      (record { opened = kept_request after c (way.encode (with_instance instance w.message)) all says; waiting = p.waiting; replies = p.replies }, (says, tt))
  begun_names t c w running p names all = (p, tt)
  begun_names t c w begins_no_more p names all = tt

  request_names : (t : Transactions M C) (c : Channel) (w : Waiting C) → Good t → WaitNames w → AnswerNames is GoodAsked node (begin_request way t c w)
  unfolding begin_request
  request_names t c w p names = begun_names t c w (begin t.caller c w.deadline) p names (begun_well t.caller c w.deadline p.opened)

  -- ---- what waits

  pub waits_name : (t : Transactions M C) (c : Channel) → Good t → WaitsName (waits_at t c)
  unfolding waits_at at
  waits_name t c p = by (find channel_cmp t.waiting c) refl
    where
      by : (o : Option (List (Waiting C))) → find channel_cmp t.waiting c ≡ o → WaitsName (unwrap_or o [])
      by None is_none = tt
      by (Some ws) there = found channel_cmp WaitsName t.waiting c ws p.waiting there

  pub with_waiting_names : (t : Transactions M C) (c : Channel) (ws : List (Waiting C)) → Good t → WaitsName ws → Good (with_waiting t c ws)
  unfolding with_waiting without
  with_waiting_names t c ws p all = record { opened = p.opened; waiting = by ws all; replies = p.replies }
    where
      by : (vs : List (Waiting C)) → WaitsName vs → AllByRecursion (λ (e : Channel × List (Waiting C)). WaitsName e.1) (waiting_then t.waiting c vs)
      by [] q = all_filter (λ (e : Channel × List (Waiting C)). WaitsName e.1) (λ e. not (is_at (channel_cmp c) e.0)) t.waiting p.waiting
      by (v ∷ vs) q = each_put channel_cmp WaitsName t.waiting c (v ∷ vs) p.waiting q

  pub closed_names : (t : Transactions M C) (c : Channel) → Good t → Good (record t { caller = close t.caller c })
  unfolding close without
  closed_names t c p =
      record { opened = all_filter OpenNames (λ e. not (is_at (channel_cmp c) e.0)) t.caller.opened p.opened; waiting = p.waiting; replies = p.replies }

  pub ask_names : (t : Transactions M C) (c : Channel) (w : Waiting C) → Good t → WaitNames w → AnswerNames is GoodAsked node (ask way t c w)
  unfolding ask
  ask_names t c w p names =
      either GoodAsked (is_open t.caller c || not (is_empty (waits_at t c)))
      (nothing (record { transactions = with_waiting t c (waits_at t c ++ w ∷ []); awaited = None })) (begin_request way t c w)
      (with_waiting_names t c (waits_at t c ++ w ∷ []) p (all_append WaitNames (waits_at t c) (w ∷ []) (waits_name t c p) (names, tt)), tt) (request_names t c w p names)

  pub advance_names : (t : Transactions M C) (c : Channel) → Good t → AnswerNames is GoodAsked node (advance way t c)
  unfolding advance
  advance_names t c p =
      either GoodAsked (is_open t.caller c) (nothing (record { transactions = t; awaited = None })) (advance_with way t c (waits_at t c)) (p, tt)
      (by (waits_at t c) (waits_name t c p))
    where
      by : (ws : List (Waiting C)) → WaitsName ws → AnswerNames is GoodAsked node (advance_with way t c ws)
      by [] all = (p, tt)
      by (w ∷ ws) all = request_names (with_waiting t c ws) c w (with_waiting_names t c ws p all.1) all.0

  pub at_once_names : (t : Transactions M C) (c : Channel) (w : Waiting C) → Good t → WaitNames w → AnswerNames is GoodAsked node (ask_at_once way t c w)
  unfolding ask_at_once
  at_once_names t c w p names =
      request_names (with_waiting (record t { caller = close t.caller c }) c []) c w
      (with_waiting_names (record t { caller = close t.caller c }) c [] (closed_names t c p) tt) names

  -- ---- replies

  kept_keeps : (t : Transactions M C) (c : Channel) (m : M) → Good t → is.says node m → Good (record t { callee = keep t.callee c m })
  unfolding keep
  kept_keeps t c m p says = record { opened = p.opened; waiting = p.waiting; replies = by (kept_at t.callee c) }
    where
      by : (o : Option (Kept M)) → AllByRecursion (λ (e : Channel × Kept M). ReplyNames e.1) (with_reply t.callee c m o)
      by None = p.replies
      by (Some kept) = each_put channel_cmp ReplyNames t.callee c (record kept { reply = Some m }) p.replies says

  pub replied_names : (t : Transactions M C) (c : Channel) (m : Message C) → Good t → Names is.owners node m → AnswerNames is Good node (replied way t c m)
  unfolding replied
  replied_names t c m p names = let says : is.says node (way.encode m) = is.spells node m names in (kept_keeps t c (way.encode m) p says, (says, tt))

  pub late_names : (t : Transactions M C) (c : Channel) (instance : ℕ) (m : Message C) → Good t → Names is.owners node m
      → AnswerNames is Good node (replied_late way t c instance m)
  unfolding replied_late keep_for
  late_names t c instance m p names = (by (is_newest (newest t.callee c) instance), (says, tt))
    where
      says : is.says node (way.encode m)
      says = is.spells node m names

      by : (b : Bool) → Good (record t { callee = if b then keep t.callee c (way.encode m) else t.callee })
      by true = kept_keeps t c (way.encode m) p says
      by false = record { opened = p.opened; waiting = p.waiting; replies = p.replies }

  taken_keeps : (t : Transactions M C) (c : Channel) (instance : ℕ) → Good t → Good (record t { callee = taken t.callee c instance })
  unfolding taken
  taken_keeps t c instance p = record {
    opened = p.opened;
    waiting = p.waiting;
    replies = each_put channel_cmp ReplyNames t.callee c (record { instance = instance; reply = None }) p.replies tt;
  }

  -- a request that is taken: whatever is asked of its row, if what is kept is enough where there is none
  pub on_request_with : {R : Type 0} (Q : R → Type 0) (W : Answer M P R → Type 0) → ((a : Answer M P R) → AnswerNames is Q node a → W a)
      → (same : R) (t : Transactions M C) (c : Channel) (instance : ℕ) (row : Transactions M C → Answer M P R)
      → Q same → Good t → ((u : Transactions M C) → Good u → W (row u)) → W (on_request way same t c instance row)
  unfolding on_request kept_reply kept_at
  on_request_with Q W lifts same t c instance row well p each = by (verdict t.callee c instance)
    where
      kept_again : (o : Option M) → IfAny (is.says node) o → W (answered_again way same c o)
      kept_again None says = lifts (nothing same) (well, tt)
      kept_again (Some m) says = lifts (answered_again way same c (Some m)) (well, (says, tt))

      in_kept : (o : Option (Kept M)) → kept_at t.callee c ≡ o → IfAny (is.says node) (reply_in o)
      in_kept None is_none = tt
      in_kept (Some kept) there = found channel_cmp ReplyNames t.callee c kept p.replies there

      by : (v : Verdict) → W (request_by way same t c instance row v)
      by new = each (record t { callee = taken t.callee c instance }) (taken_keeps t c instance p)
      by again = kept_again (kept_reply t.callee c) (in_kept (kept_at t.callee c) refl)
      by stale = lifts (drops Stale same) (well, (tt, tt))

  pub on_request_names : {R : Type 0} (Q : R → Type 0) (same : R) (t : Transactions M C) (c : Channel) (instance : ℕ) (row : Transactions M C → Answer M P R)
      → Q same → Good t → ((u : Transactions M C) → Good u → AnswerNames is Q node (row u)) → AnswerNames is Q node (on_request way same t c instance row)
  on_request_names Q same t c instance row well p each =
      on_request_with Q (λ a. AnswerNames is Q node a) (λ a h. h) same t c instance row well p each

  pub on_reply_names : {R : Type 0} (Q : R → Type 0) (same : R) (t : Transactions M C) (c : Channel) (instance : ℕ) (row : Answer M P R) → Q same
      → AnswerNames is Q node row → AnswerNames is Q node (on_reply way same t c instance row)
  unfolding on_reply
  on_reply_names Q same t c instance row well p = either Q (is_awaited t.caller c instance) row (drops Stale same) p (well, (tt, tt))

  -- ---- a tick

  abbrev pub DueNames : Due M → Type 0
  DueNames (repeats c m) = is.says node m
  DueNames (expires c) = Unit {0}

  pub due_names : (r : Caller M) → OpensName r → AllByRecursion DueNames (due r)
  unfolding due
  due_names r all = by r.opened all
    where
      again_names : (c : Channel) (o : Option M) → IfAny (is.says node) o → AllByRecursion DueNames (repeated c o)
      again_names c None p = tt
      again_names c (Some m) p = (p, tt)

      one : (e : Channel × Opened M) → OpenNames e → (t : Bool) → AllByRecursion DueNames (if t then expires e.0 ∷ [] else repeated e.0 e.1.request)
      one e p true = (tt, tt)
      one e p false = again_names e.0 e.1.request p

      by : (es : List (Channel × Opened M)) → AllByRecursion OpenNames es → AllByRecursion DueNames (flat_map due_of es)
      by [] q = tt
      by (e ∷ es) q = all_append DueNames (due_of e) (flat_map due_of es) (one e q.0 (is_last e.1.deadline)) (by es q.1)

  pub ticked_names : (t : Transactions M C) → Good t → Good (record t { caller = after_tick t.caller })
  unfolding after_tick
  ticked_names t p = record {
    opened = all_mapped OpenNames OpenNames aged (λ e q. q) (filter (λ e. not (is_last e.1.deadline)) t.caller.opened)
        (all_filter OpenNames (λ e. not (is_last e.1.deadline)) t.caller.opened p.opened);
    waiting = p.waiting;
    replies = p.replies;
  }
