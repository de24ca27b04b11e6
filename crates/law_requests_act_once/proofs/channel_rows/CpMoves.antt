-- What a CU-CP says may be said, and its tokens, orders and ticks are moves.
use Rattle.std.proofs.Common.{inl, inr, ◌≡◌, ◌⊎◌, ℕ, ◌+◌, Bool, true, false, not, ◌&&◌, List, [], ◌∷◌, Option, Some, None, ap, ◌∙◌}
use Rattle.std.specs.Prelude.{if◌then◌else◌, ◌==◌}
use Rattle.gnb_types.specs.declared.names.NodeId.{NodeId}
use Rattle.gnb_types.specs.declared.names.UeId.{UeId}
use Rattle.gnb_types.specs.declared.keys.Channel.{Channel}
use Rattle.gnb_types.specs.declared.inputs.Order.{Order as UnitOrder}
use Rattle.gnb_types.specs.declared.inputs.Order.TheVariants as orders
use Rattle.gnb_types.specs.declared.reasons.DropReason.TheVariants.{Unexpected}
use Rattle.message_types.specs.declared.rrc.Token.{Token}
use Rattle.message_types.specs.declared.rrc.Token.TheVariants as tokens
use Rattle.message_types.specs.declared.f1.F1.TheVariants as f1s
use Rattle.unit_defs.specs.Ways.{Message, f1, Answer, gives, spent, ◌then◌}
use Rattle.unit_defs.specs.Messages.{channel}
use Rattle.unit_defs.specs.Transactions.{Transactions}
use Rattle.unit_defs.specs.CuCpRecords.{Attempt, CuCpContext, CuCpTerminal, CuCpRecord, terminal_of, same_node, waiting_of, Action, asks as says_ask, cancels as says_cancel, replies as says_reply, replies_late as says_late, sends, fails, ignores, refuses, forgets as says_forget, Row, row, row_spent, carry_out}
use Rattle.unit_defs.specs.CuCpRows.{CuCpScope, own_du}
use Rattle.unit_defs.specs.CuCp.{at_of, ordered, is_complete, is_reestablish, is_epoch, is_own_command, may_return, is_too_early, is_ready, token_in_ready, token_of_return, token_of_attempt, token_by_attempt, token_on, token_row, token_ue, container_row, no_context_first, token_received, transferred}
use Rattle.law_requests_act_once.specs.channel.Replies.{Talk}
use Rattle.law_requests_act_once.specs.channel.Moves.{Move, asks, asks_at_once, Net, asked_by, with_route, moved, expired_after, after_answer, MayAll, after}
use Rattle.law_requests_act_once.proofs.channel.Keys.{route_cases, with_route_here, with_route_other}
use Rattle.law_requests_act_once.specs.channel_rows.IsPlayed.{ReadsWell, orders_of, IsPlayed, NoneExpired}
use Rattle.law_requests_act_once.specs.channel_rows.Rows.{moves_of, moves_of_all, IsAllowed, RowPlays, SpeaksOne, Speaks, RowSpeaks}
use Rattle.law_requests_act_once.proofs.channel_rows.Plays.{may_both}
use Rattle.law_requests_act_once.proofs.channel_rows.Requests.{drops_made}
use Rattle.law_requests_act_once.proofs.channel_rows.Says.{kept, row_says}
use Rattle.law_requests_act_once.proofs.channel_rows.Tickless.{says_tickless}
use Rattle.law_requests_act_once.proofs.channel_rows.CpRows.{attach_fine, handover_fine, cancel_fine, release_fine, completes_fine, completes_again_fine, returns_fine, arrives_fine, arrives_again_fine, accepted_one}

module _ {M C P : Type 0} (talk : Talk M C P) (n : NodeId) where
  -- ---- no request expires by what is said

  pub none_after : (net : Net M C) (m : Move M C) (a : Answer M P (Transactions M C)) → NoneExpired talk net n
      → ((c : Channel) → expired_after talk net n m (asked_by n c) ≡ false) → (c : Channel) → (after_answer talk net n m a).expired (asked_by n c) ≡ false
  none_after net m (gives os t) none stays c = stays c
  none_after net m (spent k) none stays c = none c

  pub at_once_stays : (net : Net M C) (q : Channel) → NoneExpired talk net n → (c : Channel) → with_route net.expired (asked_by n q) false (asked_by n c) ≡ false
  at_once_stays net q none c = by (route_cases (asked_by n c) (asked_by n q))
    where
      by : (asked_by n c ≡ asked_by n q) ⊎ (asked_by n c ≡ asked_by n q → ⊥) → with_route net.expired (asked_by n q) false (asked_by n c) ≡ false
      by (inl same) = ap (with_route net.expired (asked_by n q) false) same ∙ with_route_here net.expired (asked_by n q) false
      by (inr other) = with_route_other net.expired (asked_by n q) false (asked_by n c) other ∙ none c

  one_may : (net : Net M C) (ue : UeId) (s : Action C) → NoneExpired talk net n → SpeaksOne talk ue s
      → MayAll talk net (orders_of talk n (moves_of talk ue s)) × NoneExpired talk (after talk net (orders_of talk n (moves_of talk ue s))) n
  one_may net ue (says_ask to m deadline awaited) none is = (
    ((is, none (channel ue.0 to)), tt),
    none_after net (asks (channel ue.0 to) (waiting_of talk.way m deadline awaited))
        (moved talk (net.nodes n) (asks (channel ue.0 to) (waiting_of talk.way m deadline awaited))) none none,
  )
  one_may net ue (says_cancel to m) none is = (
    (is, tt),
    none_after net (asks_at_once (channel ue.0 to) (waiting_of talk.way m None false))
        (moved talk (net.nodes n) (asks_at_once (channel ue.0 to) (waiting_of talk.way m None false))) none
        (at_once_stays net (channel ue.0 to) none),
  )
  one_may net ue (says_reply to m) none is = absurd is
  one_may net ue (says_late to i m) none is = absurd is
  one_may net ue (sends to m) none is = ((is, tt), none)
  one_may net ue (fails cause) none is = (tt, none)
  one_may net ue (ignores reason) none is = (tt, none)
  one_may net ue (refuses reason) none is = (tt, none)
  one_may net ue says_forget none is = ((tt, tt), none)

  pub speaks_may : (says : List (Action C)) (net : Net M C) (ue : UeId) → NoneExpired talk net n → Speaks talk ue says
      → MayAll talk net (orders_of talk n (moves_of_all talk ue says))
  speaks_may [] net ue none is = tt
  speaks_may (s ∷ ss) net ue none is =
      let first = one_may net ue s none is.0 in
      may_both talk net n (moves_of talk ue s) (moves_of_all talk ue ss) first.0
      (speaks_may ss (after talk net (orders_of talk n (moves_of talk ue s))) ue first.1 is.1)

  pub row_may : (net : Net M C) (ue : UeId) (what : Row C) → NoneExpired talk net n → RowSpeaks talk ue what → IsAllowed talk net n ue what
  row_may net ue (row says after) none is = speaks_may says net ue none is
  row_may net ue (row_spent k) none is = tt

  pub plays_made : (net : Net M C) (ue : UeId) (what : Row C) (a : Answer M P (CuCpRecord M C)) → RowPlays talk net n ue what a → IsPlayed talk net n (kept talk n) a
  plays_made net ue (row says after) (gives os r) plays = (moves_of_all talk ue says, plays, says_tickless talk ue says)
  plays_made net ue (row says after) (spent k) plays = tt
  plays_made net ue (row_spent j) (gives os r) plays = absurd plays
  plays_made net ue (row_spent j) (spent k) plays = tt

  -- a row that says no reply is made
  pub row_made : (net : Net M C) (ue : UeId) (r : CuCpRecord M C) → net.nodes n ≡ r.transactions → NoneExpired talk net n → (what : Row C)
      → RowSpeaks talk ue what → IsPlayed talk net n (kept talk n) (carry_out talk.way ue r what)
  row_made net ue r at none what is = plays_made net ue what (carry_out talk.way ue r what) (row_says talk n net ue r at what (row_may net ue what none is))

  module _ (reads : ReadsWell talk) (net : Net M C) (none : NoneExpired talk net n) (r : CuCpRecord M C) (at : net.nodes n ≡ r.transactions) where
    -- ---- orders

    pub ordered_made : (order : UnitOrder) → IsPlayed talk net n (kept talk n) (ordered talk.way order r)
    ordered_made (orders.Attach plan) = row_made net plan.ue r at none _ (attach_fine talk reads (at_of r plan.ue) plan (terminal_of r plan.ue))
    ordered_made (orders.Handover plan) = row_made net plan.ue r at none _ (handover_fine talk reads (at_of r plan.ue) plan (terminal_of r plan.ue))
    ordered_made (orders.Cancel ue) = row_made net ue r at none _ (cancel_fine talk reads (at_of r ue) (terminal_of r ue))
    ordered_made (orders.Release ue) = row_made net ue r at none _ (release_fine talk reads (at_of r ue) (terminal_of r ue))
    ordered_made order = drops_made talk n net (kept talk n) r Unexpected at

    -- ---- tokens

    module _ (a : CuCpScope) (from : NodeId) where
      abbrev KeepsInvariant : Row C → Type 0
      KeepsInvariant what = RowSpeaks talk a.ue what

      fine_if : (b : Bool) (x y : Row C) → KeepsInvariant x → KeepsInvariant y → KeepsInvariant (if b then x else y)
      fine_if true x y p q = p
      fine_if false x y p q = q

      ready_fine : (token : Token) (epoch : ℕ) (t : CuCpTerminal) (c : CuCpContext) (b : Attempt) → KeepsInvariant (token_in_ready talk.way a from token epoch t c b)
      ready_fine token epoch t c b =
          fine_if (not (is_ready talk.way c.state && same_node from (own_du a c.du))) _ _ (tt, tt)
          (fine_if (is_complete talk.way token && b.epoch == epoch) _ _ (arrives_fine talk reads a epoch t c b)
          (fine_if (is_reestablish talk.way token && b.epoch + 1 == epoch) _ _ (arrives_again_fine talk reads a epoch t c b) (tt, tt)))

      return_fine : (token : Token) (epoch : ℕ) (t : CuCpTerminal) (c : CuCpContext) (b : Attempt) → KeepsInvariant (token_of_return talk.way a from token epoch t c b)
      return_fine token epoch t c b =
          fine_if (is_reestablish talk.way token && is_epoch talk.way c.epoch 1 epoch && same_node from (own_du a c.du)) _ _
          (fine_if (may_return talk.way c.state b.kind) _ _ (returns_fine talk reads a epoch t c)
          (fine_if (is_too_early talk.way c.state b.kind) _ _ (tt, tt) (ready_fine token epoch t c b)))
          (ready_fine token epoch t c b)

      attempt_fine : (token : Token) (epoch : ℕ) (t : CuCpTerminal) (c : CuCpContext) (b : Attempt) → KeepsInvariant (token_of_attempt talk.way a from token epoch t c b)
      attempt_fine token epoch t c b =
          fine_if (not (is_own_command talk.way c.state b.kind && same_node from (own_du a b.du))) _ _ (return_fine token epoch t c b)
          (fine_if (is_complete talk.way token && is_epoch talk.way c.epoch 1 epoch) _ _ (completes_fine talk reads a epoch t c b)
          (fine_if (is_reestablish talk.way token && is_epoch talk.way c.epoch 2 epoch) _ _ (completes_again_fine talk reads a epoch t c b)
          (return_fine token epoch t c b)))

      by_attempt_fine : (token : Token) (epoch : ℕ) (t : CuCpTerminal) (c : CuCpContext) (b : Option Attempt) → KeepsInvariant (token_by_attempt talk.way a from token epoch t c b)
      by_attempt_fine token epoch t c None =
          fine_if (is_reestablish talk.way token && is_epoch talk.way c.epoch 1 epoch && same_node from (own_du a c.du)) _ _ (returns_fine talk reads a epoch t c) (tt, tt)
      by_attempt_fine token epoch t c (Some b) = attempt_fine token epoch t c b

      on_fine : (token : Token) (epoch : ℕ) (t : CuCpTerminal) (c : Option CuCpContext) → KeepsInvariant (token_on talk.way a from token epoch t c)
      on_fine token epoch t None = (tt, tt)
      on_fine token epoch t (Some c) =
          fine_if (is_epoch talk.way c.epoch 0 epoch && c.finished) _ _ (accepted_one talk reads a c epoch, tt) (by_attempt_fine token epoch t c c.attempt)

      row_fine : (t : CuCpTerminal) (token : Token) → KeepsInvariant (token_row talk.way a from t token)
      row_fine t (tokens.Complete ue epoch) = on_fine (tokens.Complete ue epoch) epoch t t.context
      row_fine t (tokens.Reestablish ue epoch) = on_fine (tokens.Reestablish ue epoch) epoch t t.context
      row_fine t token = (tt, tt)

      container_fine : (t : CuCpTerminal) (token : Option Token) → KeepsInvariant (container_row talk.way a from t token)
      container_fine t None = (tt, tt)
      container_fine t (Some token) = fine_if ((token_ue talk.way token).0 == a.ue.0) _ _ (row_fine t token) (tt, tt)

      first_fine : (t : CuCpTerminal) (c : Option CuCpContext) (token : Option Token) → KeepsInvariant (no_context_first talk.way a from t c token)
      first_fine t None token = (tt, tt)
      first_fine t (Some c) token = container_fine t token

    pub transferred_made : (from : NodeId) (m : Message C) → IsPlayed talk net n (kept talk n) (transferred talk.way from m r)
    unfolding token_received
    transferred_made from (f1 (f1s.UlRrcMessageTransfer ue container)) =
        row_made net ue r at none _
        (first_fine (at_of r ue) from (terminal_of r ue) (terminal_of r ue).context (talk.way.unwrap container))
    transferred_made from m = drops_made talk n net (kept talk n) r Unexpected at
