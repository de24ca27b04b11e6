-- What a row of a CU-CP says is its moves: each of what it says is a move, or puts no control message.
use Rattle.std.proofs.Common.{◌≡◌, ℕ, Bool, true, false, List, [], ◌∷◌, ◌++◌, Option, Some, None, refl, sym, ap, ◌∙◌, subst}
use Rattle.std.specs.Prelude.{if◌then◌else◌}
use Rattle.std.proofs.lemmas.List.{append-nil}
use Rattle.gnb_types.specs.declared.names.NodeId.{NodeId}
use Rattle.gnb_types.specs.declared.names.UeId.{UeId}
use Rattle.unit_defs.specs.Ways.{Output, Answer, gives, spent, with_outputs, ◌then◌, nothing}
use Rattle.unit_defs.specs.Messages.{channel}
use Rattle.unit_defs.specs.Transactions.{Transactions, ask, ask_at_once, replied, replied_late}
use Rattle.unit_defs.specs.CuCpRecords.{CuCpRecord, with_transactions, with_terminal, waiting_of, after_begun, after_asked, noted, Action, asks as says_ask, cancels as says_cancel, replies as says_reply, replies_late as says_late, sends, fails, ignores, refuses, forgets as says_forget, act_one, act_all, Row, row, row_spent, carry_out}
use Rattle.law_requests_act_once.specs.channel.Replies.{Talk}
use Rattle.law_requests_act_once.specs.channel.Ends.{Sent}
use Rattle.law_requests_act_once.specs.channel.Moves.{Move, asks, asks_at_once, replies, replies_late, transfers, forgets, Net, sent_by, moved, May, after, after_move, MayAll}
use Rattle.law_requests_act_once.specs.channel_rows.IsPlayed.{orders_of, Plays}
use Rattle.law_requests_act_once.specs.channel_rows.Rows.{moves_of, moves_of_all, IsAllowed, RowPlays}
use Rattle.law_requests_act_once.proofs.channel_rows.Plays.{plays_none, plays_one, plays_then}
use Rattle.law_requests_act_once.proofs.channel_rows.Requests.{sent_both}

module _ {M C P : Type 0} (talk : Talk M C P) (n : NodeId) where
  abbrev pub kept : CuCpRecord M C → Transactions M C
  kept r = r.transactions

  -- Q holds of what is put, and of what is kept then
  abbrev pub Gives : {R : Type 0} → (List (Output M P) → R → Type 0) → Answer M P R → Type 0
  Gives Q (gives os r) = Q os r
  Gives Q (spent k) = Unit {0}

  pub begun_keeps : (ue : UeId) (node : NodeId) (r : CuCpRecord M C) (i : Option ℕ) → (after_begun talk.way ue node r i).transactions ≡ r.transactions
  begun_keeps ue node r None = refl
  begun_keeps ue node r (Some i) = refl

  noted_keeps : (ue : UeId) (node : NodeId) (b : Bool) (r : CuCpRecord M C) → (noted talk.way ue node b r).transactions ≡ r.transactions
  noted_keeps ue node true r = refl
  noted_keeps ue node false r = refl

  -- one move, where the answer is that of the move but for what else is kept
  pub from_move : {X : Type 0} (net : Net M C) (m : Move M C) (a : Answer M P X) (t : X → Transactions M C) (f : X → CuCpRecord M C)
      → May talk net n m → moved talk (net.nodes n) m ≡ (a then (λ x. nothing (t x))) → ((x : X) → (f x).transactions ≡ t x)
      → Gives (λ os s. Plays talk net n s.transactions (sent_by n os) (m ∷ [])) (a then (λ x. nothing (f x)))
  from_move {X} net m a t f may is keeps = by a refl
    where
      by : (b : Answer M P X) → a ≡ b → Gives (λ os s. Plays talk net n s.transactions (sent_by n os) (m ∷ [])) (b then (λ x. nothing (f x)))
      by (gives os x) e =
          subst (λ (u : Transactions M C). Plays talk net n u (sent_by n (os ++ [])) (m ∷ [])) (sym (keeps x))
          (plays_one talk net n m may (os ++ []) (t x) (is ∙ ap (λ (y : Answer M P X). y then (λ z. nothing (t z))) e))
      by (spent k) e = tt

  -- the same where the move's own answer is what is kept
  same_then : (a : Answer M P (Transactions M C)) → (a then (λ t. nothing t)) ≡ a
  same_then (gives os t) = ap (λ (o : List (Output M P)). gives o t) (append-nil os)
  same_then (spent k) = refl

  says_one : (net : Net M C) (ue : UeId) (r : CuCpRecord M C) → net.nodes n ≡ r.transactions → (s : Action C)
      → MayAll talk net (orders_of talk n (moves_of talk ue s))
      → Gives (λ os q. Plays talk net n q.transactions (sent_by n os) (moves_of talk ue s)) (act_one talk.way ue r s)
  unfolding act_one
  says_one net ue r at (says_ask to m deadline awaited) may =
      from_move net (asks (channel ue.0 to) (waiting_of talk.way m deadline awaited))
      (ask talk.way r.transactions (channel ue.0 to) (waiting_of talk.way m deadline awaited)) (λ a. a.transactions)
      (after_asked talk.way ue to (noted talk.way ue to awaited r)) may.0
      (ap (λ (t : Transactions M C). moved talk t (asks (channel ue.0 to) (waiting_of talk.way m deadline awaited))) at)
      (λ a. begun_keeps ue to (with_transactions (noted talk.way ue to awaited r) a.transactions) a.awaited)
  says_one net ue r at (says_cancel to m) may =
      from_move net (asks_at_once (channel ue.0 to) (waiting_of talk.way m None false))
      (ask_at_once talk.way r.transactions (channel ue.0 to) (waiting_of talk.way m None false)) (λ a. a.transactions)
      (after_asked talk.way ue to r) may.0
      (ap (λ (t : Transactions M C). moved talk t (asks_at_once (channel ue.0 to) (waiting_of talk.way m None false))) at)
      (λ a. begun_keeps ue to (with_transactions r a.transactions) a.awaited)
  says_one net ue r at (says_reply to m) may =
      from_move net (replies (channel ue.0 to) m) (replied talk.way r.transactions (channel ue.0 to) m) (λ t. t) (with_transactions r) may.0
      (ap (λ (t : Transactions M C). moved talk t (replies (channel ue.0 to) m)) at
      ∙ sym (same_then (replied talk.way r.transactions (channel ue.0 to) m))) (λ t. refl)
  says_one net ue r at (says_late to i m) may =
      from_move net (replies_late (channel ue.0 to) i m) (replied_late talk.way r.transactions (channel ue.0 to) i m) (λ t. t) (with_transactions r) may.0
      (ap (λ (t : Transactions M C). moved talk t (replies_late (channel ue.0 to) i m)) at
      ∙ sym (same_then (replied_late talk.way r.transactions (channel ue.0 to) i m))) (λ t. refl)
  says_one net ue r at (sends to m) may =
      plays_one talk net n (transfers to ue.0 (talk.way.encode m)) may.0 _ r.transactions
      (ap (λ (t : Transactions M C). moved talk t (transfers to ue.0 (talk.way.encode m))) at)
  says_one net ue r at (fails cause) may = subst (λ (t : Transactions M C). Plays talk net n t [] []) at (plays_none talk net n)
  says_one net ue r at (ignores reason) may = subst (λ (t : Transactions M C). Plays talk net n t [] []) at (plays_none talk net n)
  says_one net ue r at (refuses reason) may = subst (λ (t : Transactions M C). Plays talk net n t [] []) at (plays_none talk net n)
  says_one net ue r at says_forget may =
      plays_one talk net n (forgets ue) may.0 [] _ (ap (λ (t : Transactions M C). moved talk t (forgets ue)) at)

  gives_then : {R : Type 0} (net : Net M C) (ms ks : List (Move M C)) (a : Answer M P (CuCpRecord M C)) (f : CuCpRecord M C → Answer M P R)
      (also : R → Transactions M C)
      → Gives (λ os q. Plays talk net n q.transactions (sent_by n os) ms) a
      → ((q : CuCpRecord M C) → (after talk net (orders_of talk n ms)).nodes n ≡ q.transactions
      → Gives (λ os x. Plays talk (after talk net (orders_of talk n ms)) n (also x) (sent_by n os) ks) (f q))
      → Gives (λ os x. Plays talk net n (also x) (sent_by n os) (ms ++ ks)) (a then f)
  gives_then {R} net ms ks (gives os q) f also first second = by (f q) (second q first.node)
    where
      by : (b : Answer M P R) → Gives (λ os x. Plays talk (after talk net (orders_of talk n ms)) n (also x) (sent_by n os) ks) b
          → Gives (λ os x. Plays talk net n (also x) (sent_by n os) (ms ++ ks)) (with_outputs os b)
      by (gives more x) next =
          subst (λ (out : List (Sent M)). Plays talk net n (also x) out (ms ++ ks)) (sym (sent_both n os more))
          (plays_then talk net n q.transactions (also x) (sent_by n os) (sent_by n more) ms ks first next)
      by (spent k) next = tt
  gives_then net ms ks (spent k) f also first second = tt

  may_front : (net : Net M C) (ms ks : List (Move M C)) → MayAll talk net (orders_of talk n (ms ++ ks)) → MayAll talk net (orders_of talk n ms)
  may_front net [] ks may = tt
  may_front net (m ∷ ms) ks may = (may.0, may_front (after_move talk net n m) ms ks may.1)

  may_rest : (net : Net M C) (ms ks : List (Move M C)) → MayAll talk net (orders_of talk n (ms ++ ks))
      → MayAll talk (after talk net (orders_of talk n ms)) (orders_of talk n ks)
  may_rest net [] ks may = may
  may_rest net (m ∷ ms) ks may = may_rest (after_move talk net n m) ms ks may.1

  -- all that a row says, one after another
  pub says_all : (says : List (Action C)) (net : Net M C) (ue : UeId) (r : CuCpRecord M C) → net.nodes n ≡ r.transactions
      → MayAll talk net (orders_of talk n (moves_of_all talk ue says))
      → Gives (λ os q. Plays talk net n q.transactions (sent_by n os) (moves_of_all talk ue says)) (act_all talk.way ue says r)
  unfolding act_all
  says_all [] net ue r at may = subst (λ (t : Transactions M C). Plays talk net n t [] []) at (plays_none talk net n)
  says_all (s ∷ ss) net ue r at may =
      gives_then net (moves_of talk ue s) (moves_of_all talk ue ss) (act_one talk.way ue r s) (act_all talk.way ue ss) kept
      (says_one net ue r at s (may_front net (moves_of talk ue s) (moves_of_all talk ue ss) may))
      (λ q e. says_all ss (after talk net (orders_of talk n (moves_of talk ue s))) ue q e
      (may_rest net (moves_of talk ue s) (moves_of_all talk ue ss) may))

  pub row_says : (net : Net M C) (ue : UeId) (r : CuCpRecord M C) → net.nodes n ≡ r.transactions → (what : Row C)
      → IsAllowed talk net n ue what → RowPlays talk net n ue what (carry_out talk.way ue r what)
  unfolding carry_out
  row_says net ue r at (row says after) may = as_row (act_all talk.way ue says (with_terminal ue r after)) (says_all says net ue (with_terminal ue r after) at may)
    where
      as_row : (a : Answer M P (CuCpRecord M C)) → Gives (λ os q. Plays talk net n q.transactions (sent_by n os) (moves_of_all talk ue says)) a
          → RowPlays talk net n ue (row says after) a
      as_row (gives os q) plays = plays
      as_row (spent k) plays = tt
  row_says net ue r at (row_spent k) may = tt
