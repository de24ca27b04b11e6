-- What a word of requests and replies does for one terminal: all that it puts out is the terminal's, and of the others it keeps what
-- was kept.
use Rattle.std.proofs.Common.{◌≡◌, ℕ, ◌+◌, ◌==◌, Bool, true, false, not, ◌||◌, List, [], ◌∷◌, ◌++◌, Option, Some, None, refl, ◌∙◌}
use Rattle.std.specs.Prelude.{◌≢◌, if◌then◌else◌}
use Rattle.gnb_types.specs.declared.keys.Channel.{Channel}
use Rattle.gnb_types.specs.Orders.{channel_cmp}
use Rattle.tables.specs.Tables.{find, put, at}
use Rattle.transaction_defs.specs.Callers.{Opened, Caller, last_instance, begin_after, begun_with, begin, spent as begins_no_more, opened_at, is_open, is_awaited, keep_request, with_request, close}
use Rattle.transaction_defs.specs.Callees.{Kept, Verdict, new, again, stale, verdict, newest, kept_at, kept_reply, taken, keep, with_reply, keep_for, is_newest}
use Rattle.unit_defs.specs.Ways.{Message, Way, Answer, nothing}
use Rattle.unit_defs.specs.Transactions.{Transactions, Waiting, Asked, is_empty, waits_at, with_waiting, begun_as, begin_request, ask, advance_with, advance, ask_at_once, replied, replied_late, answered_again, request_by, on_request, on_reply}
use Rattle.law_terminals_are_isolated.specs.projections.Projections.{requests_of}
use Rattle.law_terminals_are_isolated.specs.projections.Steps.{PutsFor}
use Rattle.law_terminals_are_isolated.proofs.projections.Answers.{puts_if}
use Rattle.law_terminals_are_isolated.proofs.projections.Tables.{put_apart, without_apart, put_apart_at, without_apart_at}

module _ {M C P : Type 0} (way : Way M C P) where
  abbrev pub Leaves : ℕ → Transactions M C → Transactions M C → Type 0
  Leaves ue t u = (other : ℕ) → other ≢ ue → requests_of other u ≡ requests_of other t

  pub then_leaves : (ue : ℕ) (t u v : Transactions M C) → Leaves ue t u → Leaves ue u v → Leaves ue t v
  then_leaves ue t u v p q other apart = q other apart ∙ p other apart

  -- ---- what is kept

  abbrev with_caller : Transactions M C → Caller M → Transactions M C
  with_caller t a = record t { caller = a }

  pub closed_leaves : (t : Transactions M C) (c : Channel) → Leaves c.ue t (with_caller t (close t.caller c))
  unfolding close
  closed_leaves t c other apart = λ i. record (requests_of other t) { opened = λ peer. without_apart t.caller.opened c other apart peer i }

  kept_leaves : (t : Transactions M C) (c : Channel) (m : M) (a : Caller M) → Leaves c.ue (with_caller t a) (with_caller t (keep_request a c m))
  unfolding keep_request opened_at
  kept_leaves t c m a = by (find channel_cmp a.opened c)
    where
      by : (o : Option (Opened M)) → Leaves c.ue (with_caller t a) (with_caller t (with_request a c m o))
      by None other apart = refl
      by (Some x) other apart = λ i. record (requests_of other (with_caller t a)) { opened = λ peer. put_apart a.opened c other apart peer (record x { request = Some m }) i }

  abbrev begun_caller : Caller M → Channel → Option ℕ → ℕ → Caller M
  begun_caller a c deadline n = record {
    last = put channel_cmp a.last c n;
    opened = put channel_cmp a.opened c (record { instance = n; deadline = deadline; request = None });
  }

  begun_leaves : (t : Transactions M C) (c : Channel) (deadline : Option ℕ) (n : ℕ) → Leaves c.ue t (with_caller t (begun_caller t.caller c deadline n))
  begun_leaves t c deadline n other apart = λ i. record (requests_of other t) {
    last = λ peer. put_apart_at t.caller.last c other apart peer 0 n i;
    opened = λ peer. put_apart t.caller.opened c other apart peer (record { instance = n; deadline = deadline; request = None }) i;
  }

  pub waiting_leaves : (t : Transactions M C) (c : Channel) (ws : List (Waiting C)) → Leaves c.ue t (with_waiting t c ws)
  unfolding with_waiting
  waiting_leaves t c [] other apart = λ i. record (requests_of other t) { waiting = λ peer. without_apart_at t.waiting c other apart peer [] i }
  waiting_leaves t c (w ∷ ws) other apart = λ i. record (requests_of other t) { waiting = λ peer. put_apart_at t.waiting c other apart peer [] (w ∷ ws) i }

  callee_leaves : (t : Transactions M C) (c : Channel) (k : Kept M) → Leaves c.ue t (record t { callee = put channel_cmp t.callee c k })
  callee_leaves t c k other apart = λ i. record (requests_of other t) { kept = λ peer. put_apart t.callee c other apart peer k i }

  pub taken_leaves : (t : Transactions M C) (c : Channel) (instance : ℕ) → Leaves c.ue t (record t { callee = taken t.callee c instance })
  unfolding taken
  taken_leaves t c instance = callee_leaves t c (record { instance = instance; reply = None })

  reply_leaves : (t : Transactions M C) (c : Channel) (m : M) → Leaves c.ue t (record t { callee = keep t.callee c m })
  unfolding keep kept_at
  reply_leaves t c m = by (find channel_cmp t.callee c)
    where
      by : (o : Option (Kept M)) → Leaves c.ue t (record t { callee = with_reply t.callee c m o })
      by None = λ other apart. refl
      by (Some k) = callee_leaves t c (record k { reply = Some m })

  -- ---- requests

  abbrev pub Asks : Transactions M C → Channel → Answer M P (Asked M C) → Type 0
  Asks t c a = PutsFor c.ue (λ (x : Asked M C). Leaves c.ue t x.transactions) a

  none_asked : (t u : Transactions M C) (c : Channel) → Leaves c.ue t u → Asks t c (nothing (record { transactions = u; awaited = None }))
  none_asked t u c leaves = (tt, leaves)

  begun_asks : (s t : Transactions M C) (c : Channel) (w : Waiting C) → Leaves c.ue s t → Asks s c (begin_request way t c w)
  unfolding begin_request begin
  begun_asks s t c w leaves = by (opened_at t.caller c) (at channel_cmp 0 t.caller.last c)
    where
      begins : (n : ℕ) (b : Bool) → Asks s c (begun_as way t c w (if b then begins_no_more else begun_with t.caller c w.deadline n))
      begins n true = tt
      begins n false = (
        (refl, tt),
        then_leaves c.ue s t _ leaves
            (then_leaves c.ue t (with_caller t (begun_caller t.caller c w.deadline n)) _ (begun_leaves t c w.deadline n)
            (kept_leaves t c _ (begun_caller t.caller c w.deadline n))),
      )

      by : (o : Option (Opened M)) (n : ℕ) → Asks s c (begun_as way t c w (begin_after t.caller c w.deadline o n))
      by (Some x) n = none_asked s t c leaves
      by None n = begins (n + 1) (n == last_instance)

  stays_itself : (ue : ℕ) (t : Transactions M C) → Leaves ue t t
  stays_itself ue t other apart = refl

  pub ask_asks : (t : Transactions M C) (c : Channel) (w : Waiting C) → Asks t c (ask way t c w)
  unfolding ask
  ask_asks t c w =
      puts_if c.ue _ (is_open t.caller c || not (is_empty (waits_at t c))) _ (begin_request way t c w)
      (none_asked t (with_waiting t c (waits_at t c ++ w ∷ [])) c (waiting_leaves t c (waits_at t c ++ w ∷ [])))
      (begun_asks t t c w (stays_itself c.ue t))

  pub advance_asks : (t : Transactions M C) (c : Channel) → Asks t c (advance way t c)
  unfolding advance
  advance_asks t c =
      puts_if c.ue _ (is_open t.caller c) _ (advance_with way t c (waits_at t c)) (none_asked t t c (stays_itself c.ue t)) (by (waits_at t c))
    where
      by : (ws : List (Waiting C)) → Asks t c (advance_with way t c ws)
      by [] = none_asked t t c (stays_itself c.ue t)
      by (w ∷ ws) = begun_asks t (with_waiting t c ws) c w (waiting_leaves t c ws)

  pub ask_at_once_asks : (t : Transactions M C) (c : Channel) (w : Waiting C) → Asks t c (ask_at_once way t c w)
  unfolding ask_at_once
  ask_at_once_asks t c w =
      let a : Transactions M C = with_caller t (close t.caller c) in
      begun_asks t (with_waiting a c []) c w (then_leaves c.ue t a (with_waiting a c []) (closed_leaves t c) (waiting_leaves a c []))

  -- ---- replies

  pub replied_puts : (t : Transactions M C) (c : Channel) (m : Message C) → PutsFor c.ue (Leaves c.ue t) (replied way t c m)
  unfolding replied
  replied_puts t c m = ((refl, tt), reply_leaves t c (way.encode m))

  pub replied_late_puts : (t : Transactions M C) (c : Channel) (instance : ℕ) (m : Message C) → PutsFor c.ue (Leaves c.ue t) (replied_late way t c instance m)
  unfolding replied_late keep_for
  replied_late_puts t c instance m = ((refl, tt), by (is_newest (newest t.callee c) instance))
    where
      by : (b : Bool) → Leaves c.ue t (record t { callee = if b then keep t.callee c (way.encode m) else t.callee })
      by true = reply_leaves t c (way.encode m)
      by false = stays_itself c.ue t

  -- ---- what comes: a request, and a reply

  module _ {R : Type 0} (H : R → Type 0) (r : R) (t : Transactions M C) (c : Channel) (instance : ℕ) (stays : H r) where
    pub on_request_puts : (row : Transactions M C → Answer M P R) → ((u : Transactions M C) → Leaves c.ue t u → PutsFor c.ue H (row u))
        → PutsFor c.ue H (on_request way r t c instance row)
    unfolding on_request
    on_request_puts row rows = by (verdict t.callee c instance)
      where
        kept : (m : Option M) → PutsFor c.ue H (answered_again way r c m)
        kept None = (tt, stays)
        kept (Some m) = ((refl, tt), stays)

        by : (v : Verdict) → PutsFor c.ue H (request_by way r t c instance row v)
        by new = rows _ (taken_leaves t c instance)
        by again = kept (kept_reply t.callee c)
        by stale = ((tt, tt), stays)

    pub on_reply_puts : (row : Answer M P R) → PutsFor c.ue H row → PutsFor c.ue H (on_reply way r t c instance row)
    unfolding on_reply
    on_reply_puts row rows = puts_if c.ue H (is_awaited t.caller c instance) row _ rows ((tt, tt), stays)
