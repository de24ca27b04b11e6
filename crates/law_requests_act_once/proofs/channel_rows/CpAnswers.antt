-- What a CU-CP does on an awaited reply: it closes its request, makes the row of its state, and puts what waits longest.
use Rattle.std.proofs.Common.{◌≡◌, ℕ, Bool, true, false, ◌&&◌, List, [], ◌∷◌, ◌++◌, Option, Some, None, refl, sym, ap, ◌∙◌, subst}
use Rattle.std.specs.Prelude.{if◌then◌else◌}
use Rattle.std.specs.List.{AllByRecursion}
use Rattle.std.proofs.lemmas.List.Elements.{Contains-append_left}
use Rattle.gnb_types.specs.declared.names.NodeId.{NodeId}
use Rattle.gnb_types.specs.declared.names.UeId.{UeId}
use Rattle.gnb_types.specs.declared.keys.Channel.{Channel}
use Rattle.gnb_types.specs.declared.reasons.CauseName.{CauseName}
use Rattle.gnb_types.specs.declared.reasons.DropReason.TheVariants.{Unexpected, Stale}
use Rattle.message_types.specs.declared.f1.F1.TheVariants as f1s
use Rattle.message_types.specs.declared.e1.E1Message.TheVariants as e1s
use Rattle.message_types.specs.declared.xn.XnMessage.TheVariants as xns
use Rattle.message_types.specs.declared.xn.CoreMessage.TheVariants as cores
use Rattle.transaction_defs.specs.Callers.{close, is_awaited}
use Rattle.transaction_defs.specs.Callees.{newest, kept_reply}
use Rattle.unit_defs.specs.declared.StateName.{StateName}
use Rattle.unit_defs.specs.declared.StateName.TheVariants as states
use Rattle.unit_defs.specs.Ways.{Message, f1, e1, xn, core, Answer, gives, spent, with_outputs, ◌then◌, drops}
use Rattle.unit_defs.specs.Messages.{channel, cause_name, are_bearers, statuses_of}
use Rattle.unit_defs.specs.Transactions.{kind_of, Waiting, Transactions, waits_at, with_waiting, advance, on_reply}
use Rattle.unit_defs.specs.CuCpRecords.{Awaited, Attempt, CuCpContext, CuCpTerminal, CuCpRecord, terminal_of, with_transactions, bearers_in, answered, awaits_answer, after_asked, waiting_of, Action, asks as says_ask, cancels as says_cancel, replies as says_reply, replies_late as says_late, sends, fails, ignores, refuses, forgets as says_forget, Row, row, row_spent, carry_out}
use Rattle.unit_defs.specs.CuCpRows.{CuCpScope, other_cu_cp, name_bearers, is_between_dus, is_between_gnbs, attach_fails, handover_is_declined, handover_is_not_frozen, offer_is_declined, offer_is_placed, own_peer}
use Rattle.unit_defs.specs.CuCp.{at_of, listed, caused, in_attaching, in_moving, in_preparing, in_prepared, in_offered, in_switching, in_releasing, in_state, Answered, answers_none, answers_with, answer_of, answer_on, answer, is_cu_up_release, without_release, is_setup_failure, put_next, closed_at, answered_by, reply_received}
use Rattle.law_requests_act_once.specs.channel.Replies.{Talk}
use Rattle.law_requests_act_once.specs.channel.Ends.{told, Sent, Put}
use Rattle.law_requests_act_once.specs.channel.Moves.{Move, asks, asks_at_once, advances, waits_as, closes, replies, replies_late, Net, asked_by, sent_by, moved, after_move, after, IsRequest}
use Rattle.law_requests_act_once.proofs.channel.Keys.{with_node_here}
use Rattle.law_requests_act_once.proofs.channel.Nets.{Good}
use Rattle.law_requests_act_once.specs.channel_rows.IsPlayed.{ReadsWell, orders_of, Plays, AreTickless, IsPlayed, NoneExpired}
use Rattle.law_requests_act_once.specs.channel_rows.Assumed.{MayAnswerLate, Assumes}
use Rattle.law_requests_act_once.specs.channel_rows.Rows.{moves_of, moves_of_all, IsAllowed, RowPlays, RowSpeaks}
use Rattle.law_requests_act_once.proofs.channel_rows.Plays.{plays_one, plays_then, good_moves, after_both}
use Rattle.law_requests_act_once.proofs.channel_rows.Requests.{sent_both, drops_made}
use Rattle.law_requests_act_once.proofs.channel_rows.Tickless.{tickless_both, says_tickless}
use Rattle.law_requests_act_once.proofs.channel_rows.Says.{kept, Gives, row_says, from_move, begun_keeps}
use Rattle.law_requests_act_once.proofs.channel_rows.CpRows.{has_tunnels_fine, is_placed_fine, fails_fine, move_has_uplinks_fine, move_is_placed_fine, acknowledged_fine, declined_fine, is_frozen_fine, is_not_frozen_fine, offer_has_tunnels_fine, renewed_fine, is_switched_fine, path_is_switched_fine}
use Rattle.law_requests_act_once.proofs.channel_rows.CpMoves.{none_after, at_once_stays, row_may}

module _ {M C P : Type 0} (talk : Talk M C P) (n : NodeId) where
  module _ (reads : ReadsWell talk) (net : Net M C) (none : NoneExpired talk net n) (at : CuCpScope) where
    abbrev KeepsInvariant : Row C → Type 0
    KeepsInvariant what = IsAllowed talk net n at.ue what

    abbrev InvariantIf : Option (Row C) → Type 0
    InvariantIf None = Unit {0}
    InvariantIf (Some what) = KeepsInvariant what

    spoken : (what : Row C) → RowSpeaks talk at.ue what → KeepsInvariant what
    spoken what is = row_may talk n net at.ue what none is

    listed_fine : (b : Bool) (what : Row C) → KeepsInvariant what → InvariantIf (listed talk.way b what)
    listed_fine true what fine = fine
    listed_fine false what fine = tt

    caused_fine : (cause : Option CauseName) (f : CauseName → Row C) → ((name : CauseName) → KeepsInvariant (f name)) → InvariantIf (caused talk.way cause f)
    caused_fine None f fine = tt
    caused_fine (Some name) f fine = fine name

    attaching_fine : (m : Message C) (t : CuCpTerminal) (c : CuCpContext) (a : Attempt) → InvariantIf (in_attaching talk.way at m t c a)
    attaching_fine (e1 (e1s.BearerContextSetupResponse ue instance uplinks n3 down up)) t c a =
        listed_fine (name_bearers c uplinks && name_bearers c n3) _ (spoken _ (has_tunnels_fine talk reads at uplinks n3 t c a))
    attaching_fine (e1 (e1s.BearerContextSetupFailure ue instance cause)) t c a =
        caused_fine (cause_name cause) (λ name. attach_fails talk.way name t) (λ name. spoken _ (fails_fine talk reads at name t))
    attaching_fine (f1 (f1s.UeContextSetupResponse ue instance downlinks)) t c a =
        listed_fine (name_bearers c downlinks) _ (spoken _ (is_placed_fine talk reads at downlinks t c a))
    attaching_fine m t c a = tt

    moving_fine : (m : Message C) (t : CuCpTerminal) (c : CuCpContext) (a : Attempt) → InvariantIf (in_moving talk.way at m t c a)
    moving_fine (e1 (e1s.BearerContextModificationResponse ue instance (Some uplinks) statuses)) t c a =
        listed_fine (name_bearers c uplinks) _ (spoken _ (move_has_uplinks_fine talk reads at uplinks t c a))
    moving_fine (e1 (e1s.BearerContextModificationResponse ue instance None statuses)) t c a = tt
    moving_fine (f1 (f1s.UeContextSetupResponse ue instance downlinks)) t c a =
        listed_fine (name_bearers c downlinks) _ (spoken _ (move_is_placed_fine talk reads at downlinks t c a))
    moving_fine m t c a = tt

    preparing_fine : (m : Message C) (t : CuCpTerminal) (c : CuCpContext) (a : Attempt) → InvariantIf (in_preparing talk.way at m t c a)
    preparing_fine (xn (xns.HandoverRequestAcknowledge ue instance peer down up)) t c a =
        listed_fine (name_bearers c down && name_bearers c up) _ (spoken _ (acknowledged_fine talk reads at peer down up t c a))
    preparing_fine (xn (xns.HandoverPreparationFailure ue instance cause)) t c a =
        caused_fine (cause_name cause) (λ name. handover_is_declined talk.way name t c) (λ name. spoken _ (declined_fine talk reads at name t c))
    preparing_fine m t c a = tt

    prepared_fine : (m : Message C) (t : CuCpTerminal) (c : CuCpContext) (a : Attempt) → InvariantIf (in_prepared talk.way at m t c a)
    prepared_fine (e1 (e1s.BearerContextModificationResponse ue instance uplinks (Some ss))) t c a =
        listed_fine (are_bearers (bearers_in c) (statuses_of ss)) _ (spoken _ (is_frozen_fine talk reads at ss t c a))
    prepared_fine (e1 (e1s.BearerContextModificationResponse ue instance uplinks None)) t c a = tt
    prepared_fine (e1 (e1s.BearerContextModificationFailure ue instance cause)) t c a =
        caused_fine (cause_name cause) (λ name. handover_is_not_frozen talk.way at name t c) (λ name. spoken _ (is_not_frozen_fine talk reads at name t c))
    prepared_fine m t c a = tt

    offered_fine : (m : Message C) (t : CuCpTerminal) (c : CuCpContext) (a : Attempt) → MayAnswerLate talk n net at a → InvariantIf (in_offered talk.way at m t c a)
    unfolding offer_is_declined offer_is_placed kind_of
    offered_fine (e1 (e1s.BearerContextSetupResponse ue instance uplinks n3 (Some down) (Some up))) t c a late =
        listed_fine (name_bearers c uplinks && name_bearers c n3 && name_bearers c down && name_bearers c up) _
        (spoken _ (offer_has_tunnels_fine talk reads at uplinks n3 down up t c a))
    offered_fine (e1 (e1s.BearerContextSetupResponse ue instance uplinks n3 (Some down) None)) t c a late = tt
    offered_fine (e1 (e1s.BearerContextSetupResponse ue instance uplinks n3 None up)) t c a late = tt
    offered_fine (e1 (e1s.BearerContextSetupFailure ue instance cause)) t c a late =
        caused_fine (cause_name cause) (λ name. offer_is_declined talk.way at cause t a)
        (λ name. (late (xn (xns.HandoverPreparationFailure at.ue a.instance cause)) refl refl, tt))
    offered_fine (f1 (f1s.UeContextSetupResponse ue instance downlinks)) t c a late =
        listed_fine (name_bearers c downlinks) (offer_is_placed talk.way at downlinks t c a)
        (late (xn (xns.HandoverRequestAcknowledge at.ue a.instance (own_peer at c.up) a.forward_down a.forward_up)) refl refl, tt)
    offered_fine m t c a late = tt

    switching_fine : (m : Message C) (t : CuCpTerminal) (c : CuCpContext) (a : Attempt) → InvariantIf (in_switching talk.way at m t c a)
    switching_fine (f1 (f1s.UeContextModificationResponse ue instance downlinks)) t c a =
        listed_fine (name_bearers c downlinks) _ (spoken _ (renewed_fine talk reads at downlinks t c a))
    switching_fine (e1 (e1s.BearerContextModificationResponse ue instance uplinks ss)) t c a = spoken _ (is_switched_fine talk reads at t c a)
    switching_fine (core (cores.PathSwitchAcknowledge ue instance)) t c a = spoken _ (path_is_switched_fine talk reads at t c a)
    switching_fine m t c a = tt

    releasing_fine : (t : CuCpTerminal) (c : CuCpContext) (a : Attempt) (ws : List Awaited) → KeepsInvariant (in_releasing talk.way t c a ws)
    releasing_fine t c a [] = tt
    releasing_fine t c a (w ∷ ws) = tt

    fine_if : (b : Bool) (x y : Option (Row C)) → InvariantIf x → InvariantIf y → InvariantIf (if b then x else y)
    fine_if true x y p q = p
    fine_if false x y p q = q

    state_fine : (m : Message C) (t : CuCpTerminal) (c : CuCpContext) (s : StateName) (a : Attempt) → (s ≡ states.Offered → MayAnswerLate talk n net at a)
        → InvariantIf (in_state talk.way at m t c s a)
    state_fine m t c states.Attaching a late = attaching_fine m t c a
    state_fine m t c states.Preparing a late = fine_if (is_between_dus a.kind) _ _ (moving_fine m t c a) (preparing_fine m t c a)
    state_fine m t c states.Prepared a late = prepared_fine m t c a
    state_fine m t c states.Offered a late = offered_fine m t c a (late refl)
    state_fine m t c states.Returning a late = switching_fine m t c a
    state_fine m t c states.Arrived a late = switching_fine m t c a
    state_fine m t c states.Completing a late = fine_if (is_between_gnbs a.kind) _ _ (releasing_fine t c a a.awaits) (switching_fine m t c a)
    state_fine m t c s a late = tt

    abbrev InvariantAnswer : Answered talk.way → Type 0
    InvariantAnswer answers_none = Unit {0}
    InvariantAnswer (answers_with taken) = InvariantIf taken

    -- an answer that the attempt awaits, or none; where the offer of a target is answered, that may be done
    pub answer_fine : (from : NodeId) (i : ℕ) (m : Message C) (t : CuCpTerminal)
        → ((c : CuCpContext) (a : Attempt) → t.context ≡ Some c → c.attempt ≡ Some a → c.state ≡ states.Offered → MayAnswerLate talk n net at (answered a from))
        → InvariantAnswer (answer talk.way at from i m t)
    unfolding answer
    answer_fine from i m t late = by t.context refl
      where
        chosen : (c : CuCpContext) (a : Attempt) → (c.state ≡ states.Offered → MayAnswerLate talk n net at (answered a from)) → (b : Bool)
            → InvariantAnswer (if b then answers_with (in_state talk.way at m t c c.state (answered a from)) else answers_none)
        chosen c a may true = state_fine m t c c.state (answered a from) may
        chosen c a may false = tt

        of : (c : CuCpContext) → t.context ≡ Some c → (a : Option Attempt) → c.attempt ≡ a → InvariantAnswer (answer_of talk.way at from i m t c a)
        of c is None e = tt
        of c is (Some a) e = chosen c a (late c a is e) (awaits_answer a from i)

        by : (c : Option CuCpContext) → t.context ≡ c → InvariantAnswer (answer_on talk.way at from i m t c)
        by None is = tt
        by (Some c) is = of c is c.attempt refl

  -- ---- the reply closes its request, its row is made, and what waits longest is put

  after_close : (net : Net M C) (c : Channel) (at : CuCpScope) (a : Attempt) → MayAnswerLate talk n net at a → MayAnswerLate talk n (after_move talk net n (closes c)) at a
  after_close net c at a may answer kind fits =
      let was = may answer kind fits in
      record {
        is_newest = ap (λ (t : Transactions M C). newest t.callee (channel at.ue.0 (other_cu_cp at))) (with_node_here net.nodes n _) ∙ was.is_newest;
        is_unanswered = ap (λ (t : Transactions M C). kept_reply t.callee (channel at.ue.0 (other_cu_cp at))) (with_node_here net.nodes n _) ∙ was.is_unanswered;
        is_reply = was.is_reply;
        request = was.request;
        was_put = (was.was_put.0, Contains-append_left net.bag [] _ was.was_put.1, was.was_put.2);
        fits = was.fits;
      }

  -- nothing that is said lets a request expire
  one_none : (net : Net M C) (ue : UeId) (s : Action C) → NoneExpired talk net n → NoneExpired talk (after talk net (orders_of talk n (moves_of talk ue s))) n
  one_none net ue (says_ask to m deadline awaited) none =
      none_after talk n net (asks (channel ue.0 to) (waiting_of talk.way m deadline awaited))
      (moved talk (net.nodes n) (asks (channel ue.0 to) (waiting_of talk.way m deadline awaited))) none none
  one_none net ue (says_cancel to m) none =
      none_after talk n net (asks_at_once (channel ue.0 to) (waiting_of talk.way m None false))
      (moved talk (net.nodes n) (asks_at_once (channel ue.0 to) (waiting_of talk.way m None false))) none (at_once_stays talk n net (channel ue.0 to) none)
  one_none net ue (says_reply to m) none = none_after talk n net (replies (channel ue.0 to) m) (moved talk (net.nodes n) (replies (channel ue.0 to) m)) none none
  one_none net ue (says_late to i m) none =
      none_after talk n net (replies_late (channel ue.0 to) i m) (moved talk (net.nodes n) (replies_late (channel ue.0 to) i m)) none none
  one_none net ue (sends to m) none = none
  one_none net ue (fails cause) none = none
  one_none net ue (ignores reason) none = none
  one_none net ue (refuses reason) none = none
  one_none net ue says_forget none = none

  all_none : (says : List (Action C)) (net : Net M C) (ue : UeId) → NoneExpired talk net n
      → NoneExpired talk (after talk net (orders_of talk n (moves_of_all talk ue says))) n
  all_none [] net ue none = none
  all_none (s ∷ ss) net ue none =
      subst (λ (x : Net M C). NoneExpired talk x n) (sym (after_both talk net n (moves_of talk ue s) (moves_of_all talk ue ss)))
      (all_none ss (after talk net (orders_of talk n (moves_of talk ue s))) ue (one_none net ue s none))

  -- moves, and then those of an answer
  pub made_after : {R : Type 0} (k : R → Transactions M C) (net : Net M C) (ms : List (Move M C)) (t : Transactions M C) → Plays talk net n t [] ms
      → AreTickless ms → (a : Answer M P R) → IsPlayed talk (after talk net (orders_of talk n ms)) n k a → IsPlayed talk net n k a
  made_after k net ms t first plain (gives os r) second =
      (ms ++ second.0, plays_then talk net n t (k r) [] (sent_by n os) ms second.0 first second.1, tickless_both ms second.0 plain second.2)
  made_after k net ms t first plain (spent j) second = tt

  row_then : (net : Net M C) (ue : UeId) (what : Row C) (a : Answer M P (CuCpRecord M C)) (f : CuCpRecord M C → Answer M P (CuCpRecord M C))
      → NoneExpired talk net n → RowPlays talk net n ue what a
      → ((x : Net M C) (q : CuCpRecord M C) → NoneExpired talk x n → x.nodes n ≡ q.transactions → IsPlayed talk x n (kept talk n) (f q))
      → IsPlayed talk net n (kept talk n) (a then f)
  row_then net ue (row says now) (gives os q) f none plays next =
      by (f q) (next (after talk net (orders_of talk n (moves_of_all talk ue says))) q (all_none says net ue none) plays.node)
    where
      by : (b : Answer M P (CuCpRecord M C)) → IsPlayed talk (after talk net (orders_of talk n (moves_of_all talk ue says))) n (kept talk n) b
          → IsPlayed talk net n (kept talk n) (with_outputs os b)
      by (gives more x) second = (
        moves_of_all talk ue says ++ second.0,
        subst (λ (out : List (Sent M)). Plays talk net n x.transactions out (moves_of_all talk ue says ++ second.0)) (sym (sent_both n os more))
            (plays_then talk net n q.transactions x.transactions (sent_by n os) (sent_by n more) (moves_of_all talk ue says) second.0 plays second.1),
        tickless_both (moves_of_all talk ue says) second.0 (says_tickless talk ue says) second.2,
      )
      by (spent k) second = tt
  row_then net ue (row says now) (spent k) f none plays next = tt
  row_then net ue (row_spent j) (gives os q) f none plays next = absurd plays
  row_then net ue (row_spent j) (spent k) f none plays next = tt

  gives_made : {R : Type 0} (k : R → Transactions M C) (net : Net M C) (ms : List (Move M C)) → AreTickless ms → (a : Answer M P R)
      → Gives talk n (λ os x. Plays talk net n (k x) (sent_by n os) ms) a → IsPlayed talk net n k a
  gives_made k net ms plain (gives os r) plays = (ms, plays, plain)
  gives_made k net ms plain (spent j) plays = tt

  next_made : (ue : UeId) (ch : Channel) (net : Net M C) (q : CuCpRecord M C) → NoneExpired talk net n → net.nodes n ≡ q.transactions
      → IsPlayed talk net n (kept talk n) (put_next talk.way ue ch q)
  next_made ue ch net q none at =
      gives_made (kept talk n) net (advances ch ∷ []) (tt, tt) (put_next talk.way ue ch q)
      (from_move talk n net (advances ch) (advance talk.way q.transactions ch) (λ a. a.transactions) (after_asked talk.way ue ch.peer q) (none ch)
      (ap (λ (t : Transactions M C). moved talk t (advances ch)) at)
      (λ a. begun_keeps talk n ue ch.peer (with_transactions q a.transactions) a.awaited))

  kept_requests : (ue : ℕ) (ws : List (Waiting C)) → AllByRecursion (IsRequest talk ue) ws → AllByRecursion (IsRequest talk ue) (without_release talk.way ws)
  kept_requests ue [] all = tt
  kept_requests ue (w ∷ ws) all = by (is_cu_up_release talk.way w.message)
    where
      by : (b : Bool) → AllByRecursion (IsRequest talk ue) (if b then ws else w ∷ ws)
      by true = all.1
      by false = all

  module _ (reads : ReadsWell talk) (net : Net M C) (good : Good talk net) (none : NoneExpired talk net n) (r : CuCpRecord M C) (at : net.nodes n ≡ r.transactions)
      (owes : Assumes talk n net r) (ch : Channel) (i : ℕ) (m : Message C) (put : Put talk net.bag (asked_by n ch) (told i (talk.way.encode m))) where
    abbrev owner : UeId
    owner = record { 0 = ch.ue }

    abbrev closed : Transactions M C
    closed = record (net.nodes n) { caller = close (net.nodes n).caller ch }

    abbrev closed_net : Net M C
    closed_net = after talk net (orders_of talk n (closes ch ∷ []))

    module _ (waits : is_awaited (net.nodes n).caller ch i ≡ true) where
      first : Plays talk net n closed [] (closes ch ∷ [])
      first = plays_one talk net n (closes ch) (i, talk.way.encode m, waits, put) [] closed refl

      closed_at_is : closed_net.nodes n ≡ (closed_at talk.way ch r).transactions
      closed_at_is = first.node ∙ ap (λ (t : Transactions M C). record t { caller = close t.caller ch }) at

      good_closed : Good talk closed_net
      good_closed = good_moves talk net n (closes ch ∷ []) good first.may

      -- no attempt awaits it
      unanswered : (b : Bool) → IsPlayed talk closed_net n (kept talk n) (put_next talk.way owner ch (with_transactions (closed_at talk.way ch r)
          (if b then with_waiting (closed_at talk.way ch r).transactions ch (without_release talk.way (waits_at (closed_at talk.way ch r).transactions ch))
          else (closed_at talk.way ch r).transactions)))
      unanswered false = next_made owner ch closed_net (closed_at talk.way ch r) none closed_at_is
      unanswered true =
          let t : Transactions M C = (closed_at talk.way ch r).transactions in
          let ws : List (Waiting C) = without_release talk.way (waits_at t ch) in
          let all : AllByRecursion (IsRequest talk ch.ue) ws = kept_requests ch.ue (waits_at t ch)
          (subst (λ (u : Transactions M C). AllByRecursion (IsRequest talk ch.ue) (waits_at u ch)) closed_at_is (good_closed.waits (asked_by n ch))) in
          let second = plays_one talk closed_net n (waits_as ch ws) all [] (with_waiting t ch ws) (ap (λ (u : Transactions M C). moved talk u (waits_as ch ws)) closed_at_is) in
          made_after (kept talk n) closed_net (waits_as ch ws ∷ []) (with_waiting t ch ws) second (tt, tt)
          (put_next talk.way owner ch (with_transactions (closed_at talk.way ch r) (with_waiting t ch ws)))
          (next_made owner ch (after talk closed_net (orders_of talk n (waits_as ch ws ∷ []))) (with_transactions (closed_at talk.way ch r) (with_waiting t ch ws))
          none second.node)

      by_answer : (a : Answered talk.way) → InvariantAnswer reads closed_net none (at_of r owner) a
          → IsPlayed talk net n (kept talk n) (answered_by talk.way owner ch m r a)
      by_answer answers_none fine =
          made_after (kept talk n) net (closes ch ∷ []) closed first (tt, tt) _ (unanswered (is_setup_failure talk.way m))
      by_answer (answers_with None) fine = drops_made talk n net (kept talk n) r Unexpected at
      by_answer (answers_with (Some what)) fine =
          made_after (kept talk n) net (closes ch ∷ []) closed first (tt, tt) _
          (row_then closed_net owner what (carry_out talk.way owner (closed_at talk.way ch r) what) (put_next talk.way owner ch) none
          (row_says talk n closed_net owner (closed_at talk.way ch r) closed_at_is what fine)
          (λ x q free node. next_made owner ch x q free node))

      came_made : IsPlayed talk net n (kept talk n) (reply_received talk.way owner ch i m r)
      unfolding reply_received
      came_made =
          by_answer (answer talk.way (at_of r owner) ch.peer i m (terminal_of r owner))
          (answer_fine reads closed_net none (at_of r owner) ch.peer i m (terminal_of r owner)
          (λ c a is e s. after_close net ch (at_of r owner) (answered a ch.peer) (owes owner c a is e s)))

    pub reply_made : IsPlayed talk net n (kept talk n) (on_reply talk.way r r.transactions ch i (reply_received talk.way owner ch i m r))
    unfolding on_reply
    reply_made =
        subst (λ (t : Transactions M C). IsPlayed talk net n (kept talk n)
        (if is_awaited t.caller ch i then reply_received talk.way owner ch i m r else drops Stale r)) at
        (by (is_awaited (net.nodes n).caller ch i) refl)
      where
        by : (b : Bool) → is_awaited (net.nodes n).caller ch i ≡ b
            → IsPlayed talk net n (kept talk n) (if b then reply_received talk.way owner ch i m r else drops Stale r)
        by true waits = came_made waits
        by false waits = drops_made talk n net (kept talk n) r Stale at
