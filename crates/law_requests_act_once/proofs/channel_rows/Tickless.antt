-- Only a tick lets requests expire: after moves without one, none expired that didn't before.
use Rattle.std.proofs.Common.{inl, inr, ◌≡◌, ◌⊎◌, Bool, true, false, ◌&&◌, ◌||◌, List, [], ◌∷◌, ◌++◌, refl, sym, ap, ◌∙◌, true≢false}
use Rattle.gnb_types.specs.declared.names.NodeId.{NodeId}
use Rattle.gnb_types.specs.declared.names.UeId.{UeId}
use Rattle.gnb_types.specs.declared.keys.Channel.{Channel}
use Rattle.unit_defs.specs.Ways.{Answer, gives, spent}
use Rattle.unit_defs.specs.Transactions.{Transactions}
use Rattle.unit_defs.specs.CuCpRecords.{Action, asks as says_ask, cancels as says_cancel, replies as says_reply, replies_late as says_late, sends, fails, ignores, refuses, forgets as says_forget}
use Rattle.transaction_defs.specs.Callers.{opened_at}
use Rattle.law_requests_act_once.specs.channel.Replies.{Talk}
use Rattle.law_requests_act_once.specs.channel.Ends.{Route, same_node, at_initiator}
use Rattle.law_requests_act_once.specs.channel.Moves.{Move, asks_at_once, ages, Net, asked_by, with_route, expires_now, moved, expired_after, after_answer, after_move, after}
use Rattle.law_requests_act_once.proofs.channel.Keys.{node_same, route_cases, with_route_here, with_route_other}
use Rattle.law_requests_act_once.specs.channel_rows.IsPlayed.{orders_of, IsTickless, AreTickless, IsPlayed, IsPlayedWhole, NoneExpired}
use Rattle.law_requests_act_once.specs.channel_rows.Rows.{moves_of, moves_of_all}

pub tickless_both : {M C : Type 0} (ms ks : List (Move M C)) → AreTickless ms → AreTickless ks → AreTickless (ms ++ ks)
tickless_both [] ks first second = second
tickless_both (m ∷ ms) ks first second = (first.0, tickless_both ms ks first.1 second)

module _ {M C P : Type 0} (talk : Talk M C P) where
  say_tickless : (ue : UeId) (s : Action C) → AreTickless (moves_of talk ue s)
  say_tickless ue (says_ask to m deadline awaited) = (tt, tt)
  say_tickless ue (says_cancel to m) = (tt, tt)
  say_tickless ue (says_reply to m) = (tt, tt)
  say_tickless ue (says_late to i m) = (tt, tt)
  say_tickless ue (sends to m) = (tt, tt)
  say_tickless ue (fails cause) = tt
  say_tickless ue (ignores reason) = tt
  say_tickless ue (refuses reason) = tt
  say_tickless ue says_forget = (tt, tt)

  pub says_tickless : (ue : UeId) (ss : List (Action C)) → AreTickless (moves_of_all talk ue ss)
  says_tickless ue [] = tt
  says_tickless ue (s ∷ ss) = tickless_both (moves_of talk ue s) (moves_of_all talk ue ss) (say_tickless ue s) (says_tickless ue ss)

module _ {M C P : Type 0} (talk : Talk M C P) (n : NodeId) where
  -- ---- of the node's own requests

  at_once_shrinks : (net : Net M C) (q c : Channel) → with_route net.expired (asked_by n q) false (asked_by n c) ≡ true → net.expired (asked_by n c) ≡ true
  at_once_shrinks net q c = by (route_cases (asked_by n c) (asked_by n q))
    where
      by : (asked_by n c ≡ asked_by n q) ⊎ (asked_by n c ≡ asked_by n q → ⊥)
          → with_route net.expired (asked_by n q) false (asked_by n c) ≡ true → net.expired (asked_by n c) ≡ true
      by (inl same) e =
          absurd (true≢false (sym e ∙ ap (with_route net.expired (asked_by n q) false) same ∙ with_route_here net.expired (asked_by n q) false))
      by (inr other) e = sym (with_route_other net.expired (asked_by n q) false (asked_by n c) other) ∙ e

  move_shrinks : (net : Net M C) (m : Move M C) → IsTickless m → (c : Channel) → expired_after talk net n m (asked_by n c) ≡ true
      → net.expired (asked_by n c) ≡ true
  move_shrinks net (asks_at_once q w) plain c e = at_once_shrinks net q c e
  move_shrinks net ages plain c e = absurd plain
  move_shrinks net m plain c e = e

  answer_shrinks : (net : Net M C) (m : Move M C) → IsTickless m → (a : Answer M P (Transactions M C)) (c : Channel)
      → (after_answer talk net n m a).expired (asked_by n c) ≡ true → net.expired (asked_by n c) ≡ true
  answer_shrinks net m plain (gives os t) c e = move_shrinks net m plain c e
  answer_shrinks net m plain (spent k) c e = e

  pub shrinks : (ms : List (Move M C)) → AreTickless ms → (net : Net M C) (c : Channel)
      → (after talk net (orders_of talk n ms)).expired (asked_by n c) ≡ true → net.expired (asked_by n c) ≡ true
  shrinks [] plain net c e = e
  shrinks (m ∷ ms) plain net c e =
      answer_shrinks net m plain.0 (moved talk (net.nodes n) m) c (shrinks ms plain.1 (after_move talk net n m) c e)

  pub none_then : (net : Net M C) (ms : List (Move M C)) → AreTickless ms → NoneExpired talk net n → NoneExpired talk (after talk net (orders_of talk n ms)) n
  none_then net ms plain none c = by ((after talk net (orders_of talk n ms)).expired (asked_by n c)) refl
    where
      by : (b : Bool) → (after talk net (orders_of talk n ms)).expired (asked_by n c) ≡ b → b ≡ false
      by true e = absurd (true≢false (sym (shrinks ms plain net c e) ∙ none c))
      by false e = refl

  pub whole : {R : Type 0} (net : Net M C) (kept : R → Transactions M C) (a : Answer M P R) → NoneExpired talk net n → IsPlayed talk net n kept a
      → IsPlayedWhole talk net n kept a
  whole net kept (gives os r) none made = (made.0, made.1, none_then net made.0 made.2 none)
  whole net kept (spent k) none made = tt

  -- ---- those of other nodes stay as they are

  module _ (m : NodeId) (other : same_node m n ≡ false) (c : Channel) where
    apart : (q : Channel) → asked_by m c ≡ asked_by n q → ⊥
    apart q same = true≢false (sym (node_same n) ∙ ap (λ (r : Route). same_node r.from n) (sym same) ∙ other)

    move_leaves : (net : Net M C) (x : Move M C) → expired_after talk net n x (asked_by m c) ≡ net.expired (asked_by m c)
    move_leaves net (asks_at_once q w) = with_route_other net.expired (asked_by n q) false (asked_by m c) (apart q)
    move_leaves net ages =
        ap (λ (b : Bool). (b && expires_now (opened_at (net.nodes n).caller (at_initiator (asked_by m c)))) || net.expired (asked_by m c)) other
    move_leaves net x = refl

    answer_leaves : (net : Net M C) (x : Move M C) (a : Answer M P (Transactions M C))
        → (after_answer talk net n x a).expired (asked_by m c) ≡ net.expired (asked_by m c)
    answer_leaves net x (gives os t) = move_leaves net x
    answer_leaves net x (spent k) = refl

    pub others_leave : (ms : List (Move M C)) (net : Net M C) → (after talk net (orders_of talk n ms)).expired (asked_by m c) ≡ net.expired (asked_by m c)
    others_leave [] net = refl
    others_leave (x ∷ ms) net = others_leave ms (after_move talk net n x) ∙ answer_leaves net x (moved talk (net.nodes n) x)
