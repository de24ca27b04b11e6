-- What a unit asks: a request is put or waits; and a reply closes its request, and what waits longest is put.
use Rattle.std.proofs.Common.{◌≡◌, ℕ, Bool, true, false, List, [], ◌∷◌, ◌++◌, Option, Some, None, refl, sym, ap, ◌∙◌, subst}
use Rattle.std.specs.Prelude.{if◌then◌else◌}
use Rattle.std.proofs.lemmas.List.{append-nil}
use Rattle.gnb_types.specs.declared.names.NodeId.{NodeId}
use Rattle.gnb_types.specs.declared.keys.Channel.{Channel}
use Rattle.gnb_types.specs.declared.reasons.DropReason.TheVariants.{Stale}
use Rattle.transaction_defs.specs.Callers.{Opened, opened_at, is_awaited, has_instance, close}
use Rattle.unit_defs.specs.Ways.{Output, control, Answer, gives, spent, ◌then◌, nothing, puts, drops}
use Rattle.unit_defs.specs.Transactions.{Transactions, Asked, transfer, advance, on_reply}
use Rattle.law_requests_act_once.specs.channel.Replies.{Talk}
use Rattle.law_requests_act_once.specs.channel.Ends.{told, Sent, Put}
use Rattle.law_requests_act_once.specs.channel.Moves.{Move, advances, closes, transfers, Net, asked_by, sent_by, moved, after, May}
use Rattle.law_requests_act_once.proofs.channel.Nets.{Good}
use Rattle.law_requests_act_once.specs.channel_rows.IsPlayed.{orders_of, Plays, IsTickless, IsPlayed}
use Rattle.law_requests_act_once.proofs.channel_rows.Plays.{plays_one, plays_then}
use Rattle.law_requests_act_once.proofs.channel_rows.Requests.{drops_made}

module _ {M C P : Type 0} (talk : Talk M C P) (n : NodeId) where
  -- an order on what is asked, and what else the unit keeps then
  pub one_plays : (net : Net M C) (m : Move M C) (x : Answer M P (Asked M C)) → May talk net n m
      → moved talk (net.nodes n) m ≡ (x then (λ a. nothing a.transactions))
      → (os : List (Output M P)) (a : Asked M C) → x ≡ gives os a → Plays talk net n a.transactions (sent_by n os) (m ∷ [])
  one_plays net m x may is os a e =
      subst (λ (s : List (Sent M)). Plays talk net n a.transactions s (m ∷ [])) (ap (sent_by n) (append-nil os))
      (plays_one talk net n m may (os ++ []) a.transactions (is ∙ ap (λ (y : Answer M P (Asked M C)). y then (λ b. nothing b.transactions)) e))

  pub one_made : {R : Type 0} (kept : R → Transactions M C) (net : Net M C) (m : Move M C) (x : Answer M P (Asked M C)) → May talk net n m → IsTickless m
      → moved talk (net.nodes n) m ≡ (x then (λ a. nothing a.transactions))
      → (f : Asked M C → R) → ((a : Asked M C) → kept (f a) ≡ a.transactions) → IsPlayed talk net n kept (x then (λ a. nothing (f a)))
  one_made kept net m x may plain is f keeps = by x refl
    where
      by : (y : Answer M P (Asked M C)) → x ≡ y → IsPlayed talk net n kept (y then (λ a. nothing (f a)))
      by (gives os a) e = (
        m ∷ [],
        subst (λ (t : Transactions M C). Plays talk net n t (sent_by n (os ++ [])) (m ∷ [])) (sym (keeps a))
            (subst (λ (s : List (Sent M)). Plays talk net n a.transactions s (m ∷ [])) (sym (ap (sent_by n) (append-nil os)))
            (one_plays net m x may is os a e)),
        (plain, tt),
      )
      by (spent k) e = tt

  -- ---- the reply to the open request was taken

  module _ (net : Net M C) (good : Good talk net) (c : Channel) (i : ℕ) (y : M) (put : Put talk net.bag (asked_by n c) (told i y))
      (waits : is_awaited (net.nodes n).caller c i ≡ true) where
    abbrev pub closed_here : Transactions M C
    closed_here = record (net.nodes n) { caller = close (net.nodes n).caller c }

    pub closes_plays : Plays talk net n closed_here [] (closes c ∷ [])
    closes_plays = plays_one talk net n (closes c) (i, y, waits, put) [] closed_here refl

    abbrev pub closed_net : Net M C
    closed_net = after talk net (orders_of talk n (closes c ∷ []))

    unexpired_here : (o : Option (Opened M)) → opened_at (net.nodes n).caller c ≡ o → has_instance o i ≡ true → net.expired (asked_by n c) ≡ false
    unexpired_here None is same = absurd cc
    unexpired_here (Some o) is same = (good.channels (asked_by n c)).unexpired o is

    pub may_advance : May talk closed_net n (advances c)
    unfolding is_awaited
    may_advance = unexpired_here (opened_at (net.nodes n).caller c) refl waits

    pub next_made : {R : Type 0} (kept : R → Transactions M C) (f : Asked M C → R) → ((a : Asked M C) → kept (f a) ≡ a.transactions)
        → IsPlayed talk net n kept (advance talk.way closed_here c then (λ a. nothing (f a)))
    next_made kept f keeps = by (advance talk.way closed_here c) refl
      where
        by : (x : Answer M P (Asked M C)) → advance talk.way closed_here c ≡ x → IsPlayed talk net n kept (x then (λ a. nothing (f a)))
        by (gives os a) e = (
          closes c ∷ advances c ∷ [],
          subst (λ (t : Transactions M C). Plays talk net n t (sent_by n (os ++ [])) (closes c ∷ advances c ∷ [])) (sym (keeps a))
              (subst (λ (s : List (Sent M)). Plays talk net n a.transactions s (closes c ∷ advances c ∷ [])) (sym (ap (sent_by n) (append-nil os)))
              (plays_then talk net n closed_here a.transactions [] (sent_by n os) (closes c ∷ []) (advances c ∷ []) closes_plays
              (one_plays closed_net (advances c) (advance talk.way closed_here c) may_advance
              (ap (λ (t : Transactions M C). moved talk t (advances c)) closes_plays.node) os a e))),
          (tt, (tt, tt)),
        )
        by (spent k) e = tt

  -- ---- an awaited reply; a message that is neither request nor reply

  pub reply_made : {R : Type 0} (net : Net M C) → Good talk net → (kept : R → Transactions M C) (t : Transactions M C) → net.nodes n ≡ t
      → (c : Channel) (i : ℕ) (y : M) → Put talk net.bag (asked_by n c) (told i y) → (same : R) → t ≡ kept same
      → (f : Asked M C → R) → ((a : Asked M C) → kept (f a) ≡ a.transactions)
      → IsPlayed talk net n kept (on_reply talk.way same t c i (advance talk.way (record t { caller = close t.caller c }) c then (λ a. nothing (f a))))
  unfolding on_reply
  reply_made {R} net good kept t at c i y put same is f keeps =
      subst (λ (u : Transactions M C). IsPlayed talk net n kept
      (if is_awaited u.caller c i then advance talk.way (record u { caller = close u.caller c }) c then (λ a. nothing (f a)) else drops Stale same)) at
      (by (is_awaited (net.nodes n).caller c i) refl)
    where
      by : (b : Bool) → is_awaited (net.nodes n).caller c i ≡ b → IsPlayed talk net n kept
          (if b then advance talk.way (record (net.nodes n) { caller = close (net.nodes n).caller c }) c then (λ a. nothing (f a)) else drops Stale same)
      by true waits = next_made net good c i y put waits kept f keeps
      by false waits = drops_made talk n net kept same Stale (at ∙ is)

  pub transfer_made : {R : Type 0} (net : Net M C) (kept : R → Transactions M C) (to : NodeId) (ue : ℕ) (x : M) (u : ℕ) → talk.kind x ≡ transfer u
      → (r : R) → net.nodes n ≡ kept r → IsPlayed talk net n kept (puts (control to ue x) r)
  transfer_made net kept to ue x u is r at = (
    transfers to ue x ∷ [],
    subst (λ (t : Transactions M C). Plays talk net n t (record { from = n; to = to; ue = ue; message = x } ∷ []) (transfers to ue x ∷ [])) at
        (plays_one talk net n (transfers to ue x) (u, is) (control to ue x ∷ []) (net.nodes n) refl),
    (tt, tt),
  )
