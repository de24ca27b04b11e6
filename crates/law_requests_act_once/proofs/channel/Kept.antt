-- Each move that may be made keeps what holds of all channels; so does each list of them.
use Rattle.std.proofs.Common.{arith, inl, inr, ◌==◌, ◌≡◌, ◌<◌, ◌⊎◌, ℕ, ◌+◌, Bool, true, false, not, ◌||◌, List, [], ◌∷◌, ◌++◌, Option, Some, None, refl, sym, ap, ◌∙◌, subst, eqb-true}
use Rattle.std.specs.Prelude.{if◌then◌else◌, nat_lt, is_some}
use Rattle.std.specs.List.{AllByRecursion}
use Rattle.std.specs.List.Sorted.{IsStrictlySortedBy}
use Rattle.std.proofs.lemmas.Bool.{ltb-true}
use Rattle.std.proofs.lemmas.List.{append-nil}
use Rattle.gnb_types.specs.declared.names.NodeId.{NodeId}
use Rattle.gnb_types.specs.declared.names.UeId.{UeId}
use Rattle.gnb_types.specs.declared.keys.Channel.{Channel}
use Rattle.gnb_types.specs.Orders.{channel_cmp}
use Rattle.tables.specs.Tables.{at, find, IsSorted}
use Rattle.transaction_defs.specs.Callers.{Opened, spent as begins_no_more, begin, begin_after, begun_with, last_instance, opened_at, is_open, is_awaited, has_instance}
use Rattle.transaction_defs.specs.Callees.{Kept, new, again, stale, verdict, verdict_after, newest, newest_in, kept_at, kept_reply, reply_in}
use Rattle.unit_defs.specs.Ways.{Message, Output, Answer, gives, spent, ◌then◌, nothing, instances_spent}
use Rattle.unit_defs.specs.Transactions.{reply, with_instance, Waiting, Transactions, is_empty, waits_at, with_waiting, begun_as, begin_request, ask, advance, advance_with, ask_at_once, replied, replied_late, answered_again}
use Rattle.unit_defs.specs.Messages.{channel}
use Rattle.law_requests_act_once.specs.channel.Replies.{Talk}
use Rattle.law_requests_act_once.specs.channel.Ends.{Route, Asking, asking_at, answering_at, newest_number, Act, Sent, Note, asked, told, Put, Once}
use Rattle.law_requests_act_once.specs.channel.Moves.{Move, asks, asks_at_once, advances, waits_as, closes, ages, repeats, takes, replies, replies_late, replies_again, transfers, forgets, Net, new_net, ends_of, asked_by, answered_by, with_node, with_route, sent_by, after_answer, after_move, IsRequest, IsCancel, MayReply, May, Order, after, MayAll}
use Rattle.law_requests_act_once.proofs.channel.Keys.{with_route_here, with_route_other}
use Rattle.law_requests_act_once.proofs.channel.Steps.{Grows, once_same, once_begun, once_waiting, once_closed, once_taken, once_answered}
use Rattle.law_requests_act_once.proofs.channel.Bags.{grows_none, request_grows, request_elsewhere, reply_grows, reply_elsewhere, transfer_grows, again as put_again}
use Rattle.law_requests_act_once.proofs.channel.Projections.{Asks, Tells, begun_asks, waiting_asks, closed_asks, closed_at, asks_then, asks_nothing, taken_tells, kept_tells, kept_late_tells}
use Rattle.law_requests_act_once.proofs.channel.Nets.{Good, good_asking, good_telling, good_ticking, good_forgetting}

pub none_of : {X : Type 0} (o : Option X) → is_some o ≡ false → o ≡ None
none_of None e = refl
none_of (Some x) e = absurd cc

pub left_false : (a b : Bool) → (a || b) ≡ false → a ≡ false
left_false true b e = e
left_false false b e = refl

all_push : {X : Type 0} (P : X → Type 0) (xs : List X) (x : X) → AllByRecursion P xs → P x → AllByRecursion P (xs ++ x ∷ [])
all_push P [] x all here = (here, tt)
all_push P (y ∷ ys) x all here = (all.0, all_push P ys x all.1 here)

sorted_none : (X : Type 0) → IsSorted {X = X} channel_cmp []
unfolding IsStrictlySortedBy
sorted_none X = tt

module _ {M C P : Type 0} (talk : Talk M C P) {net : Net M C} (good : Good talk net) (n : NodeId) where
  abbrev here : Transactions M C
  here = net.nodes n

  -- how a net is after an answer, with what is expired then
  pub record Follows (late : Route → Bool) (F : Answer M P (Transactions M C) → Net M C) : Type 0 where
    pub gives_is : (outputs : List (Output M P)) (t : Transactions M C) → F (gives outputs t) ≡ record {
      nodes = with_node net.nodes n t;
      bag = net.bag ++ sent_by n outputs;
      acts = net.acts;
      expired = late;
    }
    pub spent_is : (counter : ℕ) → F (spent counter) ≡ net

  -- ---- a request is begun

  module _ {late : Route → Bool} {F : Answer M P (Transactions M C) → Net M C} (follows : Follows late F)
      {t : Transactions M C} {c : Channel} {a : Asking M C} (asks_first : Asks here t c a)
      (none : a.opened ≡ None) (last : a.last ≡ (asking_at here c).last) (w : Waiting C)
      (is : IsRequest talk c.ue w) (all : AllByRecursion (IsRequest talk c.ue) a.waits)
      (free : late (asked_by n c) ≡ false) (lates : (r : Route) → (r ≡ asked_by n c → ⊥) → late r ≡ net.expired r)
      (may : IsCancel talk w ⊎ ((opened_at here.caller c ≡ None) × (net.expired (asked_by n c) ≡ false))) where
    abbrev given_last : ℕ
    given_last = at channel_cmp 0 t.caller.last c

    abbrev message_of : ℕ → M
    message_of i = talk.way.encode (with_instance i w.message)

    last_is : given_last ≡ (asking_at here c).last
    last_is = ap (λ (b : Asking M C). b.last) asks_first.here ∙ last

    overtakes_or_free : (x : M) → x ≡ message_of (given_last + 1)
        → (talk.overtakes x ≡ true) ⊎ ((opened_at here.caller c ≡ None) × (net.expired (asked_by n c) ≡ false))
    overtakes_or_free x e = by may
      where
        by : IsCancel talk w ⊎ ((opened_at here.caller c ≡ None) × (net.expired (asked_by n c) ≡ false))
            → (talk.overtakes x ≡ true) ⊎ ((opened_at here.caller c ≡ None) × (net.expired (asked_by n c) ≡ false))
        by (inl cancel) = inl (ap talk.overtakes e ∙ cancel (given_last + 1))
        by (inr closed) = inr closed

    begun_once : Once talk (record (ends_of net (asked_by n c)) {
      asking = record {
        last = given_last + 1;
        opened = Some (record { instance = given_last + 1; deadline = w.deadline; request = Some (message_of (given_last + 1)) });
        waits = waits_at t c;
      };
      expired = late (asked_by n c);
    }) (Put talk (net.bag ++ record { from = n; to = c.peer; ue = c.ue; message = message_of (given_last + 1) } ∷ []) (asked_by n c))
    begun_once =
        subst (λ (b : Bool). Once talk (record (ends_of net (asked_by n c)) { asking = asking_of given_last; expired = b }) bag) (sym free)
        (subst (λ (l : ℕ). Once talk (record (ends_of net (asked_by n c)) { asking = asking_of l; expired = false }) bag) (sym last_is)
        (once_begun talk (good.channels (asked_by n c)) grown w.deadline (waits_at t c) (overtakes_or_free (message_of (given_last + 1)) refl)))
      where
        bag : Note M → Type 0
        bag = Put talk (net.bag ++ record { from = n; to = c.peer; ue = c.ue; message = message_of (given_last + 1) } ∷ []) (asked_by n c)

        asking_of : ℕ → Asking M C
        asking_of l = record {
          last = l + 1;
          opened = Some (record { instance = l + 1; deadline = w.deadline; request = Some (message_of (given_last + 1)) });
          waits = waits_at t c;
        }

        grown : Grows (Put talk net.bag (asked_by n c)) (Some (asked ((asking_at here c).last + 1) (message_of (given_last + 1)))) bag
        grown = subst (λ (l : ℕ). Grows (Put talk net.bag (asked_by n c)) (Some (asked (l + 1) (message_of (given_last + 1)))) bag) last_is
            (request_grows talk net.bag (asked_by n c) (given_last + 1) (message_of (given_last + 1)) (is (given_last + 1)))

    pub good_beginning : Good talk (F (begin_request talk.way t c w then (λ b. nothing b.transactions)))
    unfolding begin begin_request
    good_beginning =
        subst (λ (o : Option (Opened M)). Good talk (F (begun_as talk.way t c w (begin_after t.caller c w.deadline o given_last) then (λ b. nothing b.transactions))))
        (sym (ap (λ (b : Asking M C). b.opened) asks_first.here ∙ none)) (by (given_last == last_instance))
      where
        by : (b : Bool) → Good talk (F (begun_as talk.way t c w
            (if b then begins_no_more else begun_with t.caller c w.deadline (given_last + 1)) then (λ b. nothing b.transactions)))
        by true = subst (Good talk) (sym (follows.spent_is instances_spent)) good
        by false =
            subst (Good talk) (sym (follows.gives_is _ _))
            (good_asking talk good n
            (asks_then asks_first (begun_asks t c w.deadline (given_last + 1) (message_of (given_last + 1))))
            (record { from = n; to = c.peer; ue = c.ue; message = message_of (given_last + 1) } ∷ []) late begun_once
            (subst (λ (b : Asking M C). AllByRecursion (IsRequest talk c.ue) b.waits) (sym asks_first.here) all)
            (request_elsewhere talk net.bag (asked_by n c) (given_last + 1) (message_of (given_last + 1)) (is (given_last + 1)))
            lates)

  -- ---- what puts nothing at the initiator

  module _ {late : Route → Bool} {F : Answer M P (Transactions M C) → Net M C} (follows : Follows late F)
      {t : Transactions M C} {c : Channel} {a : Asking M C} (changes : Asks here t c a)
      (lates : (r : Route) → late r ≡ net.expired r) where
    pub good_quiet : Once talk (record (ends_of net (asked_by n c)) { asking = a }) (Put talk net.bag (asked_by n c))
        → AllByRecursion (IsRequest talk c.ue) a.waits → Good talk (F (gives [] t))
    good_quiet once all =
        subst (Good talk) (sym (follows.gives_is [] t))
        (good_asking talk good n changes [] late
        (once_same talk (grows_none talk net.bag (asked_by n c))
        (subst (λ (b : Bool). Once talk (record (ends_of net (asked_by n c)) { asking = a; expired = b }) (Put talk net.bag (asked_by n c)))
        (sym (lates (asked_by n c))) once))
        all (λ r other. grows_none talk net.bag r) (λ r other. lates r))

  abbrev after_of : Move M C → Answer M P (Transactions M C) → Net M C
  after_of move = after_answer talk net n move

  abbrev once_here : (c : Channel) → Once talk (ends_of net (asked_by n c)) (Put talk net.bag (asked_by n c))
  once_here c = good.channels (asked_by n c)

  abbrev waits_here : (c : Channel) → AllByRecursion (IsRequest talk c.ue) (waits_at here c)
  waits_here c = good.waits (asked_by n c)

  pub good_asks : (c : Channel) (w : Waiting C) → May talk net n (asks c w) → Good talk (after_move talk net n (asks c w))
  unfolding ask is_open
  good_asks c w may = by (is_some (opened_at here.caller c) || not (is_empty (waits_at here c))) refl
    where
      follows : Follows net.expired (after_of (asks c w))
      follows = record { gives_is = λ os t. refl; spent_is = λ k. refl }

      by : (b : Bool) → (is_some (opened_at here.caller c) || not (is_empty (waits_at here c))) ≡ b
          → Good talk (after_of (asks c w)
          ((if b then nothing (record { transactions = with_waiting here c (waits_at here c ++ w ∷ []); awaited = None }) else begin_request talk.way here c w)
          then (λ a. nothing a.transactions)))
      by true is =
          good_quiet follows (waiting_asks here c (waits_at here c ++ w ∷ [])) (λ r. refl)
          (once_waiting talk (once_here c) (waits_at here c ++ w ∷ []))
          (all_push (IsRequest talk c.ue) (waits_at here c) w (waits_here c) may.0)
      by false is =
          let none : opened_at here.caller c ≡ None = none_of (opened_at here.caller c) (left_false _ _ is) in
          good_beginning follows (asks_nothing here c) none refl w may.0 (waits_here c) may.1 (λ r other. refl) (inr (none, may.1))

  pub good_advances : (c : Channel) → May talk net n (advances c) → Good talk (after_move talk net n (advances c))
  unfolding advance is_open
  good_advances c may = by (is_some (opened_at here.caller c)) refl
    where
      follows : Follows net.expired (after_of (advances c))
      follows = record { gives_is = λ os t. refl; spent_is = λ k. refl }

      same : Good talk (after_of (advances c) (gives [] here))
      same = good_quiet follows (asks_nothing here c) (λ r. refl) (once_here c) (waits_here c)

      next : opened_at here.caller c ≡ None → (ws : List (Waiting C)) → waits_at here c ≡ ws
          → Good talk (after_of (advances c) (advance_with talk.way here c ws then (λ a. nothing a.transactions)))
      next none [] e = same
      next none (w ∷ ws) e =
          let all : AllByRecursion (IsRequest talk c.ue) (w ∷ ws) = subst (λ (xs : List (Waiting C)). AllByRecursion (IsRequest talk c.ue) xs) e (waits_here c) in
          good_beginning follows (waiting_asks here c ws) none refl w all.0 all.1 may (λ r other. refl) (inr (none, may))

      by : (b : Bool) → is_some (opened_at here.caller c) ≡ b
          → Good talk (after_of (advances c)
          ((if b then nothing (record { transactions = here; awaited = None }) else advance_with talk.way here c (waits_at here c))
          then (λ a. nothing a.transactions)))
      by true is = same
      by false is = next (none_of (opened_at here.caller c) is) (waits_at here c) refl

  pub good_asks_at_once : (c : Channel) (w : Waiting C) → May talk net n (asks_at_once c w) → Good talk (after_move talk net n (asks_at_once c w))
  unfolding ask_at_once
  good_asks_at_once c w may =
      good_beginning follows (asks_then (closed_asks here c) (waiting_asks (closed_at here c) c []))
      (ap (λ (a : Asking M C). a.opened) (closed_asks here c).here) (ap (λ (a : Asking M C). a.last) (closed_asks here c).here) w may.0 tt
      (with_route_here net.expired (asked_by n c) false) (λ r other. with_route_other net.expired (asked_by n c) false r other) (inl may.1)
    where
      follows : Follows (with_route net.expired (asked_by n c) false) (after_of (asks_at_once c w))
      follows = record { gives_is = λ os t. refl; spent_is = λ k. refl }

  pub good_waits_as : (c : Channel) (ws : List (Waiting C)) → May talk net n (waits_as c ws) → Good talk (after_move talk net n (waits_as c ws))
  good_waits_as c ws may = good_quiet follows (waiting_asks here c ws) (λ r. refl) (once_waiting talk (once_here c) ws) may
    where
      follows : Follows net.expired (after_of (waits_as c ws))
      follows = record { gives_is = λ os t. refl; spent_is = λ k. refl }

  pub good_closes : (c : Channel) → May talk net n (closes c) → Good talk (after_move talk net n (closes c))
  unfolding is_awaited
  good_closes c may = by (opened_at here.caller c) refl may.2
    where
      follows : Follows net.expired (after_of (closes c))
      follows = record { gives_is = λ os t. refl; spent_is = λ k. refl }

      by : (o : Option (Opened M)) → opened_at here.caller c ≡ o → has_instance o may.0 ≡ true → Good talk (after_move talk net n (closes c))
      by None e other = absurd cc
      by (Some o) e same =
          let at : may.0 ≡ o.instance = sym (eqb-true o.instance may.0 same) in
          good_quiet follows (closed_asks here c) (λ r. refl)
          (once_closed talk (once_here c) o may.1 e (subst (λ (i : ℕ). Put talk net.bag (asked_by n c) (told i may.1)) at may.3)) (waits_here c)

  pub good_ages : Good talk (after_move talk net n ages)
  good_ages =
      subst (λ (b : List (Sent M)). Good talk (record (after_move talk net n ages) { bag = b })) (sym (append-nil net.bag)) (good_ticking talk good n)

  pub good_repeats : (c : Channel) (x : M) → May talk net n (repeats c x) → Good talk (after_move talk net n (repeats c x))
  good_repeats c x may =
      good_asking talk good n (asks_nothing here c) (record { from = n; to = c.peer; ue = c.ue; message = x } ∷ []) net.expired
      (once_same talk (put_again talk net.bag (asked may.0 x) may.1 (request_grows talk net.bag (asked_by n c) may.0 x may.1.2)) (once_here c))
      (waits_here c) (request_elsewhere talk net.bag (asked_by n c) may.0 x may.1.2) (λ r other. refl)

  -- ---- what is on no channel

  pub good_transfers : (to : NodeId) (ue : ℕ) (x : M) → May talk net n (transfers to ue x) → Good talk (after_move talk net n (transfers to ue x))
  good_transfers to ue x may =
      good_asking talk good n (asks_nothing here (channel ue to)) (record { from = n; to = to; ue = ue; message = x } ∷ []) net.expired
      (once_same talk (grows (asked_by n (channel ue to))) (once_here (channel ue to))) (waits_here (channel ue to))
      (λ r other. grows r) (λ r other. refl)
    where
      grows : (r : Route) → Grows (Put talk net.bag r) None (Put talk (net.bag ++ record { from = n; to = to; ue = ue; message = x } ∷ []) r)
      grows = transfer_grows talk net.bag (record { from = n; to = to; ue = ue; message = x }) may.0 may.1

  pub good_forgets : (ue : UeId) → Good talk (after_move talk net n (forgets ue))
  good_forgets ue =
      subst (λ (b : List (Sent M)). Good talk (record (after_move talk net n (forgets ue)) { bag = b })) (sym (append-nil net.bag)) (good_forgetting talk good n ue)

  -- ---- at the responder

  abbrev once_there : (c : Channel) → Once talk (ends_of net (answered_by n c)) (Put talk net.bag (answered_by n c))
  once_there c = good.channels (answered_by n c)

  above_newest : (k : Option (Kept M)) (i : ℕ) → 0 < i → verdict_after (newest_in k) i ≡ new → newest_number k < i
  above_newest None i low is = low
  above_newest (Some k) i low is = by (nat_lt k.instance i) (k.instance == i) refl is
    where
      by : (b d : Bool) → nat_lt k.instance i ≡ b → (if b then new else (if d then again else stale)) ≡ new → k.instance < i
      by true d below e = ltb-true k.instance i below
      by false true below e = absurd cc
      by false false below e = absurd cc

  pub good_takes : (c : Channel) (i : ℕ) (x : M) → May talk net n (takes c i x) → Good talk (after_move talk net n (takes c i x))
  unfolding verdict newest
  good_takes c i x may =
      good_telling talk good n (taken_tells here c i) [] acts
      (once_same talk (grows_none talk net.bag (answered_by n c))
      (subst (λ (as' : List (Act M)). Once talk (record (ends_of net (answered_by n c)) { answering = record { newest = i; kept = None }; acts = as' })
      (Put talk net.bag (answered_by n c)))
      (sym (with_route_here net.acts (answered_by n c) (record { instance = i; message = x } ∷ net.acts (answered_by n c))))
      (once_taken talk (once_there c) i x
      (above_newest (kept_at here.callee c) i ((once_there c).given i x may.1).0 may.0) may.1)))
      (λ r other. grows_none talk net.bag r)
      (λ r other. with_route_other net.acts (answered_by n c) (record { instance = i; message = x } ∷ net.acts (answered_by n c)) r other)
    where
      acts : Route → List (Act M)
      acts = with_route net.acts (answered_by n c) (record { instance = i; message = x } ∷ net.acts (answered_by n c))

  number_of : (k : Option (Kept M)) (i : ℕ) → newest_in k ≡ Some i → newest_number k ≡ i
  number_of None i e = absurd cc
  number_of (Some k) i e = cc

  module _ {c : Channel} {i : ℕ} {y : M} (may : MayReply talk net n c i y) where
    newest_is : newest_number (kept_at here.callee c) ≡ i
    unfolding newest
    newest_is = number_of (kept_at here.callee c) i may.is_newest

    free_is : reply_in (kept_at here.callee c) ≡ None
    unfolding kept_reply
    free_is = may.is_unanswered

    replied_once : Once talk (record (ends_of net (answered_by n c)) { answering = record { newest = i; kept = Some y } })
        (Put talk (net.bag ++ record { from = n; to = c.peer; ue = c.ue; message = y } ∷ []) (answered_by n c))
    replied_once =
        subst (λ (j : ℕ). Once talk (record (ends_of net (answered_by n c)) { answering = record { newest = j; kept = Some y } })
        (Put talk (net.bag ++ record { from = n; to = c.peer; ue = c.ue; message = y } ∷ []) (answered_by n c))) newest_is
        (once_answered talk (once_there c)
        (reply_grows talk net.bag (answered_by n c) (newest_number (kept_at here.callee c)) y (may.is_reply ∙ ap (reply c.ue) (sym newest_is)))
        free_is may.request
        (subst (λ (j : ℕ). Put talk net.bag (answered_by n c) (asked j may.request)) (sym newest_is) may.was_put) may.fits)

    pub good_replying : {t : Transactions M C} → Tells here t c (record { newest = i; kept = Some y })
        → Good talk (record {
          nodes = with_node net.nodes n t;
          bag = net.bag ++ record { from = n; to = c.peer; ue = c.ue; message = y } ∷ [];
          acts = net.acts;
          expired = net.expired;
        })
    good_replying tells =
        good_telling talk good n tells (record { from = n; to = c.peer; ue = c.ue; message = y } ∷ []) net.acts replied_once
        (reply_elsewhere talk net.bag (answered_by n c) i y may.is_reply) (λ r other. refl)

  pub good_replies : (c : Channel) (m : Message C) → May talk net n (replies c m) → Good talk (after_move talk net n (replies c m))
  unfolding replied
  good_replies c m may = good_replying may.1 (kept_tells here c may.0 (talk.way.encode m) may.1.is_newest)

  pub good_replies_late : (c : Channel) (i : ℕ) (m : Message C) → May talk net n (replies_late c i m)
      → Good talk (after_move talk net n (replies_late c i m))
  unfolding replied_late
  good_replies_late c i m may = good_replying may (kept_late_tells here c i (talk.way.encode m) may.is_newest)

  tells_nothing : (c : Channel) → Tells here here c (answering_at here c)
  tells_nothing c = record { here = refl; apart = λ k other. refl; caller = refl; waiting = refl }

  pub good_replies_again : (c : Channel) → Good talk (after_move talk net n (replies_again c))
  unfolding kept_reply
  good_replies_again c = by (reply_in (kept_at here.callee c)) refl
    where
      by : (k : Option M) → reply_in (kept_at here.callee c) ≡ k → Good talk (after_of (replies_again c) (answered_again talk.way here c k))
      by None e =
          good_telling talk good n (tells_nothing c) [] net.acts (once_same talk (grows_none talk net.bag (answered_by n c)) (once_there c))
          (λ r other. grows_none talk net.bag r) (λ r other. refl)
      by (Some y) e =
          let was = (once_there c).kept_was_put y e in
          good_telling talk good n (tells_nothing c) (record { from = n; to = c.peer; ue = c.ue; message = y } ∷ []) net.acts
          (once_same talk (put_again talk net.bag (told (newest_number (kept_at here.callee c)) y) was
          (reply_grows talk net.bag (answered_by n c) (newest_number (kept_at here.callee c)) y was.2)) (once_there c))
          (reply_elsewhere talk net.bag (answered_by n c) (newest_number (kept_at here.callee c)) y was.2) (λ r other. refl)

  pub good_after : (m : Move M C) → May talk net n m → Good talk (after_move talk net n m)
  good_after (asks c w) may = good_asks c w may
  good_after (asks_at_once c w) may = good_asks_at_once c w may
  good_after (advances c) may = good_advances c may
  good_after (waits_as c ws) may = good_waits_as c ws may
  good_after (closes c) may = good_closes c may
  good_after ages may = good_ages
  good_after (repeats c x) may = good_repeats c x may
  good_after (takes c i x) may = good_takes c i x may
  good_after (replies c m) may = good_replies c m may
  good_after (replies_late c i m) may = good_replies_late c i m may
  good_after (replies_again c) may = good_replies_again c
  good_after (transfers to ue x) may = good_transfers to ue x may
  good_after (forgets ue) may = good_forgets ue

module _ {M C P : Type 0} (talk : Talk M C P) where
  pub good_all : (orders : List (Order talk)) (net : Net M C) → Good talk net → MayAll talk net orders → Good talk (after talk net orders)
  good_all [] net good may = good
  good_all (o ∷ os) net good may = good_all os (after_move talk net o.node o.move) (good_after talk good o.node o.move may.0) may.1

  -- at first nothing was put
  pub good_new : Good talk new_net
  unfolding waits_at kept_at opened_at at find
  good_new = record { channels = λ r. channel r; waits = λ r. tt; sorted = λ n. sorted_none (Opened M) }
    where
      none_put : (r : Route) (note : Note M) → Put talk [] r note → ⊥
      none_put r (asked i x) p = let h = p.1 in let l : h.0 < 0 = h.1 in absurd (omega arith)
      none_put r (told i x) p = let h = p.1 in let l : h.0 < 0 = h.1 in absurd (omega arith)

      channel : (r : Route) → Once talk (ends_of new_net r) (Put talk [] r)
      channel r = record {
        one_request = λ i x y a b. absurd (none_put r (asked i x) a);
        given = λ i x a. absurd (none_put r (asked i x) a);
        was_put = λ i low high. absurd (omega arith);
        opened = λ o e. absurd cc;
        unexpired = λ o e. refl;
        taken = omega arith;
        one_reply = λ i x y a b. absurd (none_put r (told i x) a);
        after_taken = λ i x a. absurd (none_put r (told i x) a);
        answers = λ i x y a b. absurd (none_put r (asked i x) a);
        kept_was_put = λ y e. absurd cc;
        put_is_kept = λ y a. absurd (none_put r (told 0 y) a);
        closed = λ e f. (refl, λ low. absurd (omega arith));
        overtakes = λ i x low a none. absurd (none_put r (asked (i + 1) x) a);
        acts = tt;
        newest_act = refl;
      }

  pub good_of : (orders : List (Order talk)) → MayAll talk new_net orders → Good talk (after talk new_net orders)
  good_of orders may = good_all orders new_net good_new may
