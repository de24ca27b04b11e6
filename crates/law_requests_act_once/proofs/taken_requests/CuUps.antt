-- The newest instance of a channel is never lowered.
use Rattle.std.proofs.Common.{◌≡◌, ◌≤◌, ◌==◌, ℕ, Bool, true, false, cond, inl, inr, not, ◌||◌, List, [], ◌∷◌, ◌++◌, Option, Some, None, refl, sym, ap, ◌∙◌, subst, ltb-true, ltb-false, arith}
use Rattle.std.specs.Prelude.{if◌then◌else◌, nat_lt}
use Rattle.std.specs.Ordering.{eq_by_cmp, is_eq}
use Rattle.std.specs.Cmp.{Equal-is, tied_itself}
use Rattle.gnb_types.specs.declared.names.Gnb.{Gnb}
use Rattle.gnb_types.specs.declared.names.Gnb.TheVariants.{A, B}
use Rattle.gnb_types.specs.declared.names.NodeId.{NodeId}
use Rattle.gnb_types.specs.declared.names.NodeId.TheVariants.{CuCp}
use Rattle.gnb_types.specs.declared.keys.Channel.{Channel}
use Rattle.gnb_types.specs.declared.inputs.Order.TheVariants as orders
use Rattle.gnb_types.specs.declared.reasons.DropReason.TheVariants.{Unexpected, Stale}
use Rattle.gnb_types.specs.Names.{node_text}
use Rattle.gnb_types.specs.Orders.{channel_cmp}
use Rattle.gnb_types.proofs.OrderLemmas.{channel_total, channel_exact}
use Rattle.tables.specs.Tables.{find, put}
use Rattle.tables.proofs.TableLaws.{find-put}
use Rattle.transaction_defs.specs.Callers.{is_open, is_awaited, close, Begin, begun, running, spent as begins_no_more, begin}
use Rattle.transaction_defs.specs.Callees.{Kept, Callee, kept_at, Verdict, new, again, stale, verdict_after, verdict, newest_in, newest, taken, kept_reply, with_reply, keep}
use Rattle.message_types.specs.declared.e1.E1Message.TheVariants as e1s
use Rattle.unit_defs.specs.Ways.{Message, e1, Input, control_input, packet_input, radio_input, confirm_input, offer_input, tick_input, order_input, Way, Answer, gives, spent, ◌then◌, nothing, drops}
use Rattle.unit_defs.specs.Messages.{channel, is_same_gnb}
use Rattle.unit_defs.specs.Transactions.{Kind, request, reply, transfer, kind_of, no_instance, Waiting, Transactions, Asked, is_empty, waits_at, with_waiting, begun_as, begin_request, ask, advance_with, advance, answered_again, request_by, on_request, on_reply}
use Rattle.unit_defs.specs.CuUpRecords.{CuUp}
use Rattle.unit_defs.specs.CuUp.{with_transactions, up_node, asked, start, set_up, control_by, ue_in, is_own_cu_cp, control_received, take, poll, tick, cu_up_acts}
use Rattle.law_requests_act_once.specs.channel.Replies.{Talk}
use Rattle.law_requests_act_once.proofs.channel_rows.Requests.{Leaves, Replies}
use Rattle.law_requests_act_once.proofs.channel_rows.CuUps.{kept, asked_replies, take_leaves, poll_leaves}
use Rattle.law_requests_act_once.specs.taken_requests.Taken.{NotAbove, WasTaken, StillTaken, IsTaken}

clash : true ≡ false → ⊥
clash e = absurd cc

-- ---- instances

above_new : (o : Option ℕ) (i : ℕ) → NotAbove o i → verdict_after o i ≡ new → ⊥
above_new None i was is = was
above_new (Some n) i was is = by (nat_lt n i) (n == i) refl is
  where
    by : (more same : Bool) → nat_lt n i ≡ more → (if more then new else (if same then again else stale)) ≡ new → ⊥
    by true same lt e = let low = ltb-true n i lt in absurd (omega (arith, low, was))
    by false true lt e = absurd cc
    by false false lt e = absurd cc

pub not_new : {M : Type 0} (r : Callee M) (c : Channel) (i : ℕ) → NotAbove (newest r c) i → verdict r c i ≡ new → ⊥
unfolding verdict
not_new r c i was is = above_new (newest r c) i was is

new_above : (o : Option ℕ) (i j : ℕ) → verdict_after o i ≡ new → NotAbove o j → j ≤ i
new_above None i j is was = absurd was
new_above (Some n) i j is was = by (nat_lt n i) (n == i) refl is
  where
    by : (more same : Bool) → nat_lt n i ≡ more → (if more then new else (if same then again else stale)) ≡ new → j ≤ i
    by true same lt e = let low = ltb-true n i lt in omega (arith, low, was)
    by false true lt e = absurd cc
    by false false lt e = absurd cc

-- a request that is not new was taken
old_taken : (o : Option ℕ) (i : ℕ) → (verdict_after o i ≡ new → ⊥) → NotAbove o i
old_taken None i old = old refl
old_taken (Some n) i old = by (nat_lt n i) refl old
  where
    by : (more : Bool) → nat_lt n i ≡ more → ((if more then new else (if n == i then again else stale)) ≡ new → ⊥) → i ≤ n
    by true lt off = absurd (off refl)
    by false lt off = let high = ltb-false n i lt in omega (arith, high)

module _ {M : Type 0} where
  abbrev More : Callee M → Callee M → Type 0
  More r s = (c : Channel) (i : ℕ) → NotAbove (newest r c) i → NotAbove (newest s c) i

  same_more : (r s : Callee M) → s ≡ r → More r s
  same_more r s e c i was = subst (λ (x : Callee M). NotAbove (newest x c) i) (sym e) was

  put_newest : (r : Callee M) (c : Channel) (k : Kept M) (d : Channel) → newest (put channel_cmp r c k) d ≡ newest_in (cond (eq_by_cmp channel_cmp d c) (Some k) (find channel_cmp r d))
  unfolding newest kept_at
  put_newest r c k d = ap (λ (o : Option (Kept M)). newest_in o) (find-put channel_total r c k d)

  put_more : (r : Callee M) (c : Channel) (k : Kept M) → ((i : ℕ) → NotAbove (newest r c) i → i ≤ k.instance) → More r (put channel_cmp r c k)
  unfolding newest kept_at
  put_more r c k low d i was = subst (λ (o : Option ℕ). NotAbove o i) (sym (put_newest r c k d)) (by (eq_by_cmp channel_cmp d c) refl)
    where
      by : (b : Bool) → eq_by_cmp channel_cmp d c ≡ b → NotAbove (newest_in (cond b (Some k) (find channel_cmp r d))) i
      by true tie =
          let one : d ≡ c = channel_exact d c ((Equal-is (channel_cmp d c)).0 tie) in
          low i (subst (λ (x : Channel). NotAbove (newest_in (find channel_cmp r x)) i) one was)
      by false off = was

  keep_more : (r : Callee M) (c : Channel) (m : M) → More r (keep r c m)
  unfolding keep kept_at newest
  keep_more r c m = by (find channel_cmp r c) refl
    where
      by : (o : Option (Kept M)) → find channel_cmp r c ≡ o → More r (with_reply r c m o)
      by None is = λ d i was. was
      by (Some k) is =
          put_more r c (record k { reply = Some m }) (λ i was. subst (λ (o : Option (Kept M)). NotAbove (newest_in o) i) is was)

  taken_more : (r : Callee M) (c : Channel) (i : ℕ) → verdict r c i ≡ new → More r (taken r c i)
  unfolding taken verdict
  taken_more r c i is = put_more r c (record { instance = i; reply = None }) (λ j was. new_above (newest r c) i j is was)

  taken_here : (r : Callee M) (c : Channel) (i : ℕ) → NotAbove (newest (taken r c i) c) i
  unfolding taken
  taken_here r c i =
      subst (λ (o : Option ℕ). NotAbove o i)
      (sym (put_newest r c (record { instance = i; reply = None }) c
      ∙ ap (λ (b : Bool). newest_in (cond b (Some (record { instance = i; reply = None })) (find channel_cmp r c))) (ap is_eq (tied_itself channel_total c))))
      (omega arith)

  more_then : (r s t : Callee M) → More r s → More s t → More r t
  more_then r s t a b c i was = b c i (a c i was)

module _ {M C P : Type 0} (way : Way M C P) where
  abbrev Record : Type 0
  Record = CuUp M C

  -- ---- requests that are asked for leave it

  abbrev SameAsked : Transactions M C → Answer M P (Asked M C) → Type 0
  SameAsked t (gives os a) = a.transactions.callee ≡ t.callee
  SameAsked t (spent k) = Unit {0}

  begun_same : (t : Transactions M C) (c : Channel) (w : Waiting C) (b : Begin M) → SameAsked t (begun_as way t c w b)
  begun_same t c w (begun i after) = refl
  begun_same t c w running = refl
  begun_same t c w begins_no_more = tt

  request_same : (t : Transactions M C) (c : Channel) (w : Waiting C) → SameAsked t (begin_request way t c w)
  unfolding begin_request
  request_same t c w = begun_same t c w (begin t.caller c w.deadline)

  with_waiting_same : (t : Transactions M C) (c : Channel) (ws : List (Waiting C)) (a : Answer M P (Asked M C)) → SameAsked (with_waiting t c ws) a → SameAsked t a
  unfolding with_waiting
  with_waiting_same t c ws (gives os a) h = h
  with_waiting_same t c ws (spent k) h = tt

  ask_same : (t : Transactions M C) (c : Channel) (w : Waiting C) → SameAsked t (ask way t c w)
  unfolding ask with_waiting
  ask_same t c w = by (is_open t.caller c || not (is_empty (waits_at t c)))
    where
      by : (b : Bool) → SameAsked t (if b then nothing (record { transactions = with_waiting t c (waits_at t c ++ w ∷ []); awaited = None }) else begin_request way t c w)
      by true = refl
      by false = request_same t c w

  advance_same : (t : Transactions M C) (c : Channel) → SameAsked t (advance way t c)
  unfolding advance
  advance_same t c = by (is_open t.caller c) (waits_at t c)
    where
      by : (b : Bool) (ws : List (Waiting C)) → SameAsked t (if b then nothing (record { transactions = t; awaited = None }) else advance_with way t c ws)
      by true ws = refl
      by false [] = refl
      by false (w ∷ ws) = with_waiting_same t c ws (begin_request way (with_waiting t c ws) c w) (request_same (with_waiting t c ws) c w)

  -- ---- answers after which no newest instance is lower than it was of these requests

  abbrev After : Callee M → Answer M P (CuUp M C) → Type 0
  After r (gives os q) = More r q.transactions.callee
  After r (spent k) = Unit {0}

  leaves_after : (n : NodeId) (talk : Talk M C P) (t : Transactions M C) (a : Answer M P Record) → Leaves talk n (kept talk n) t a → After t.callee a
  leaves_after n talk t (gives os q) h = same_more t.callee q.transactions.callee (ap (λ (x : Transactions M C). x.callee) h.1)
  leaves_after n talk t (spent k) h = tt

  replies_after : (n : NodeId) (talk : Talk M C P) (t : Transactions M C) (c : Channel) (m : Message C) (i : ℕ) (a : Answer M P Record)
      → Replies talk n (kept talk n) t c m i a → After t.callee a
  replies_after n talk t c m i (gives os q) (inl h) = same_more t.callee q.transactions.callee (ap (λ (x : Transactions M C). x.callee) h.1)
  replies_after n talk t c m i (gives os q) (inr one) =
      subst (λ (x : Callee M). More t.callee x) (sym (ap (λ (x : Transactions M C). x.callee) one.kept)) (keep_more t.callee c (talk.way.encode one.message))
  replies_after n talk t c m i (spent k) h = tt

  asked_after : (t : Transactions M C) (a : Answer M P (Asked M C)) (f : Asked M C → Record) → ((x : Asked M C) → (f x).transactions ≡ x.transactions)
      → SameAsked t a → After t.callee (a then (λ x. nothing (f x)))
  asked_after t (gives os x) f keeps h = same_more t.callee (f x).transactions.callee (ap (λ (y : Transactions M C). y.callee) (keeps x) ∙ h)
  asked_after t (spent k) f keeps h = tt

  any_talk : Talk M C P
  any_talk = record { way = way; kind = λ m. transfer 0; answers = λ a b. false; overtakes = λ a. false }

  abbrev TakenAfter : Channel → ℕ → Answer M P (CuUp M C) → Type 0
  TakenAfter c i (gives os q) = WasTaken q.transactions c i
  TakenAfter c i (spent k) = Unit {0}

  both_after : (r s : Callee M) (c : Channel) (i : ℕ) (a : Answer M P Record) → More r s → NotAbove (newest s c) i → After s a → After r a × TakenAfter c i a
  both_after r s c i (gives os q) more was h = (more_then r s q.transactions.callee more h, h c i was)
  both_after r s c i (spent k) more was h = (tt, tt)

  request_after : (n : NodeId) (r : Record) (from : NodeId) (m : Message C) (ue i : ℕ) → kind_of m ≡ request ue i
      → After r.transactions.callee (on_request way r r.transactions (channel ue from) i (λ u. asked way (channel ue from) m (with_transactions r u)))
      × TakenAfter (channel ue from) i (on_request way r r.transactions (channel ue from) i (λ u. asked way (channel ue from) m (with_transactions r u)))
  unfolding on_request any_talk newest verdict
  request_after n r from m ue i is = by (verdict r.transactions.callee (channel ue from) i) refl
    where
      same : More r.transactions.callee r.transactions.callee
      same = λ d j was. was

      old : (verdict r.transactions.callee (channel ue from) i ≡ new → ⊥) → NotAbove (newest r.transactions.callee (channel ue from)) i
      old off = old_taken (newest r.transactions.callee (channel ue from)) i off

      again_same : (o : Option M) → NotAbove (newest r.transactions.callee (channel ue from)) i → After r.transactions.callee (answered_again way r (channel ue from) o) × TakenAfter (channel ue from) i (answered_again way r (channel ue from) o)
      again_same None was = (same, was)
      again_same (Some x) was = (same, was)

      by : (v : Verdict) → verdict r.transactions.callee (channel ue from) i ≡ v
          → After r.transactions.callee (request_by way r r.transactions (channel ue from) i (λ u. asked way (channel ue from) m (with_transactions r u)) v)
          × TakenAfter (channel ue from) i (request_by way r r.transactions (channel ue from) i (λ u. asked way (channel ue from) m (with_transactions r u)) v)
      by new e =
          both_after r.transactions.callee (taken r.transactions.callee (channel ue from) i) (channel ue from) i
          (asked way (channel ue from) m (with_transactions r (record r.transactions { callee = taken r.transactions.callee (channel ue from) i })))
          (taken_more r.transactions.callee (channel ue from) i e) (taken_here r.transactions.callee (channel ue from) i)
          (replies_after n any_talk (record r.transactions { callee = taken r.transactions.callee (channel ue from) i }) (channel ue from) m i
          (asked way (channel ue from) m (with_transactions r (record r.transactions { callee = taken r.transactions.callee (channel ue from) i })))
          (asked_replies any_talk n r (record r.transactions { callee = taken r.transactions.callee (channel ue from) i }) from m ue i is))
      by again e = again_same (kept_reply r.transactions.callee (channel ue from)) (old (λ f. apart (sym e ∙ f)))
        where
          apart : again ≡ new → ⊥
          apart f = absurd cc
      by stale e = (same, old (λ f. apart (sym e ∙ f)))
        where
          apart : stale ≡ new → ⊥
          apart f = absurd cc

  if_after : (r : Callee M) (b : Bool) (x y : Answer M P Record) → After r x → After r y → After r (if b then x else y)
  if_after r true x y p q = p
  if_after r false x y p q = q

  set_up_after : (c : Channel) (r : Record) → After r.transactions.callee (set_up way c r)
  unfolding set_up close
  set_up_after c r =
      asked_after (record r.transactions { caller = close r.transactions.caller c }) (advance way (record r.transactions { caller = close r.transactions.caller c }) c)
      (λ a. record r { is_set_up = true; transactions = a.transactions }) (λ a. refl)
      (advance_same (record r.transactions { caller = close r.transactions.caller c }) c)

  kind_after : (n : NodeId) (r : Record) (from : NodeId) (m : Message C) (k : Kind) → kind_of m ≡ k → After r.transactions.callee (control_by way (channel (ue_in way k) from) m r k)
  unfolding on_reply
  kind_after n r from m (request ue i) is = (request_after n r from m ue i is).0
  kind_after n r from m (reply ue i) is =
      if_after r.transactions.callee (is_awaited r.transactions.caller (channel ue from) i) (set_up way (channel ue from) r) (drops Stale r)
      (set_up_after (channel ue from) r) (λ c j was. was)
  kind_after n r from m (transfer ue) is = λ c j was. was

  start_after : (r : Record) → After r.transactions.callee (start way r)
  unfolding start
  start_after r =
      if_after r.transactions.callee r.is_set_up (nothing r) _ (λ c i was. was)
      (asked_after r.transactions (ask way r.transactions (channel 0 (CuCp r.gnb))
      (record { message = e1 (e1s.E1SetupRequest no_instance (node_text (up_node r))); deadline = None; awaited = false }))
      (λ a. with_transactions r a.transactions) (λ a. refl)
      (ask_same r.transactions (channel 0 (CuCp r.gnb))
      (record { message = e1 (e1s.E1SetupRequest no_instance (node_text (up_node r))); deadline = None; awaited = false })))

  acts_after : (n : NodeId) (r : Record) (input : Input C P) → After r.transactions.callee (cu_up_acts way r input)
  unfolding cu_up_acts control_received tick any_talk
  acts_after n r (control_input from m) =
      if_after r.transactions.callee (is_own_cu_cp way r.gnb from) (control_by way (channel (ue_in way (kind_of m)) from) m r (kind_of m)) (drops Unexpected r)
      (kind_after n r from m (kind_of m) refl) (λ c i was. was)
  acts_after n r (packet_input teid item) = leaves_after n any_talk r.transactions (take way teid item r) (take_leaves any_talk n teid item r)
  acts_after n r tick_input = λ c i was. was
  acts_after n r (order_input orders.Start) = start_after r
  acts_after n r (order_input (orders.Poll ue bearer)) = leaves_after n any_talk r.transactions (poll way ue bearer r) (poll_leaves any_talk n ue bearer r)
  acts_after n r input = λ c i was. was

  still_of : (r : Record) (a : Answer M P Record) → After r.transactions.callee a → StillTaken r a
  still_of r (gives os q) h = h
  still_of r (spent k) h = tt

  pub cu_up_still : (r : Record) (input : Input C P) → StillTaken r (cu_up_acts way r input)
  cu_up_still r input = still_of r (cu_up_acts way r input) (acts_after (up_node r) r input)

  own : (g : Gnb) → is_same_gnb g g ≡ true
  own A = refl
  own B = refl

  taken_of : (r : Record) (from : NodeId) (m : Message C) (a : Answer M P Record)
      → (from ≡ CuCp r.gnb → (ue i : ℕ) → kind_of m ≡ request ue i → TakenAfter (channel ue from) i a) → IsTaken r (control_input from m) a
  taken_of r from m (gives os q) h = h
  taken_of r from m (spent k) h = tt

  came_taken : (r : Record) (from : NodeId) (m : Message C) → from ≡ CuCp r.gnb → (ue i : ℕ) → kind_of m ≡ request ue i
      → TakenAfter (channel ue from) i (control_received way from m r)
  unfolding control_received
  came_taken r from m is ue i kind =
      subst (λ (b : Bool). TakenAfter (channel ue from) i (if b then control_by way (channel (ue_in way (kind_of m)) from) m r (kind_of m) else drops Unexpected r))
      (sym (ap (λ (n : NodeId). is_own_cu_cp way r.gnb n) is ∙ own r.gnb))
      (subst (λ (k : Kind). TakenAfter (channel ue from) i (control_by way (channel (ue_in way k) from) m r k)) (sym kind)
      (request_after (up_node r) r from m ue i kind).1)

  pub cu_up_taken : (r : Record) (input : Input C P) → IsTaken r input (cu_up_acts way r input)
  unfolding cu_up_acts
  cu_up_taken r (control_input from m) = taken_of r from m (control_received way from m r) (came_taken r from m)
  cu_up_taken r (packet_input teid item) = tt
  cu_up_taken r (radio_input ue bearer dir pdu content) = tt
  cu_up_taken r (confirm_input ue bearer dir pdu content) = tt
  cu_up_taken r (offer_input ue bearer x) = tt
  cu_up_taken r tick_input = tt
  cu_up_taken r (order_input order) = tt
