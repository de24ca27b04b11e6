-- A CU-CP: where it refuses an order its record stays; each other step is made. Its terminals go on to be in order.
use Rattle.std.proofs.Common.{◌≡◌, ◌==◌, ℕ, ◌+◌, Bool, true, false, not, ◌&&◌, ◌||◌, List, [], ◌∷◌, Option, Some, None, ◌⊎◌, inl, inr, refl, sym, ap, subst}
use Rattle.std.specs.Prelude.{if◌then◌else◌, is_some}
use Rattle.std.specs.List.{AllByRecursion}
use Rattle.gnb_types.specs.declared.names.NodeId.{NodeId}
use Rattle.gnb_types.specs.declared.names.NodeId.TheVariants.{CuCp}
use Rattle.gnb_types.specs.declared.names.UeId.{UeId}
use Rattle.gnb_types.specs.declared.keys.Channel.{Channel}
use Rattle.gnb_types.specs.declared.plans.Plan.{Plan}
use Rattle.gnb_types.specs.declared.inputs.Order.{Order}
use Rattle.gnb_types.specs.declared.inputs.Order.TheVariants as orders
use Rattle.gnb_types.specs.declared.reasons.CauseName.{CauseName}
use Rattle.gnb_types.specs.declared.reasons.DropReason.TheVariants.{Unexpected}
use Rattle.gnb_types.specs.declared.reasons.RefuseReason.{RefuseReason}
use Rattle.gnb_types.specs.declared.reasons.RefuseReason.TheVariants.{NotStarted, Attached, Same, NotAllowed, Busy, Empty, TooLate}
use Rattle.gnb_types.specs.Orders.{ue_cmp}
use Rattle.gnb_types.proofs.OrderLemmas.{ue_total}
use Rattle.tables.specs.Tables.{find, put, IsSorted}
use Rattle.transaction_defs.specs.Callers.{close, due, after_tick, Due, repeats, expires}
use Rattle.message_types.specs.declared.f1.F1.TheVariants as f1s
use Rattle.message_types.specs.declared.e1.E1Message.TheVariants as e1s
use Rattle.message_types.specs.declared.xn.XnMessage.TheVariants as xns
use Rattle.message_types.specs.declared.xn.CoreMessage.TheVariants as cores
use Rattle.message_types.specs.declared.rrc.Token.{Token}
use Rattle.message_types.specs.declared.rrc.Token.TheVariants as tokens
use Rattle.unit_defs.specs.declared.StateName.{StateName}
use Rattle.unit_defs.specs.declared.StateName.TheVariants as states
use Rattle.unit_defs.specs.declared.AttemptKind.{AttemptKind}
use Rattle.unit_defs.specs.declared.AttemptKind.TheVariants as kinds
use Rattle.unit_defs.specs.Ways.{Message, f1, e1, xn, core, Input, control_input, tick_input, order_input, Way, Answer, gives, spent, ◌then◌, nothing, drops}
use Rattle.unit_defs.specs.Messages.{cause_name, channel, is_same_gnb, shares_interface, are_bearers, statuses_of}
use Rattle.unit_defs.specs.Transactions.{Kind, request, reply, transfer, kind_of, Transactions, Asked, ask, ask_at_once, advance, replied, replied_late}
use Rattle.unit_defs.specs.CuCpRecords.{Attempt, CuCpContext, CuCpTerminal, CuCpRecord, no_terminal, terminal_in, terminal_of, is_blank, kept_terminals, with_terminal, with_transactions, with_attempt, awaiting, begun, on_context, same_node, has_unit, bearers_in, awaits_answer, answered, waiting_of, after_begun, after_asked, noted, Action, asks, cancels, replies, replies_late, sends, fails, ignores, refuses, forgets, act_one, act_all, Row, row, row_spent, carry_out}
use Rattle.unit_defs.proofs.Terminals.{kept_sorted}
use Rattle.unit_defs.specs.CuCpRows.{CuCpScope, own_up, own_du, name_bearers, is_between_dus, is_between_gnbs, attach_begins, attach_on, attach, move_begins, handover_begins, epoch_of, is_serving, handover_on, handover, cancel_attempt, cancel_of, cancel_on, cancel, release_on, release, accepted_action}
use Rattle.unit_defs.specs.CuCp.{at_of, listed, caused, only_closes, in_attaching, in_moving, in_preparing, in_prepared, in_offered, in_switching, in_releasing, in_state, Answered, answers_none, answers_with, answer_of, answer_on, answer, after_failed_setup, put_next, closed_at, answered_by, reply_received, with_unit, set_up, asked, is_complete, is_reestablish, is_epoch, is_own_command, may_return, is_too_early, is_ready, token_in_ready, token_of_return, token_of_attempt, token_while_serving, token_by_attempt, token_on, token_row, token_ue, container_row, no_context_first, token_received, transferred, control_by, control_received, expired_on, due_one, due_each, command_by, command_on, command_each, ues_of, tick, ordered, cu_cp_acts}
use Rattle.proof_site.specs.lone_units.Lone.{IsMade, Makes, MakesTo, EndsIn, StaysWhereLone}
use Rattle.proof_site.specs.lone_units.Orders.{AreInOrder}
use Rattle.proof_site.proofs.lone_units.Steps.{either_to, after_to, made_to, made_stays, ask_made, at_once_made, advance_made, replied_made, late_made, on_request_to, on_reply_to}
use Rattle.proof_site.proofs.lone_units.Standing.{put_back}
use Rattle.proof_site.proofs.lone_units.CpSays.{IsSaid, RowSays, row_if, attach_has_says, attach_placed_says, attach_fails_says, move_begins_says, move_has_says, move_placed_says, handover_begins_says, acknowledged_says, declined_says, expires_says, frozen_says, not_frozen_says, command_says, offer_says, offer_has_says, offer_declined_says, offer_placed_says, status_says, xn_cancelled_says, xn_released_says, renewed_says, switched_says, path_says, completes_says, completes_again_says, returns_says, arrives_says, arrives_again_says}

-- ---- the record

-- what is kept of a terminal is kept again
kept_again : (ts : List (UeId × CuCpTerminal)) (ue : UeId) → IsSorted ue_cmp ts → kept_terminals ts ue (terminal_in (find ue_cmp ts ue)) ≡ ts
kept_again ts ue sorted = by (find ue_cmp ts ue) refl
  where
    either : (b : Bool) (t : CuCpTerminal) → put ue_cmp ts ue t ≡ ts → (if b then ts else put ue_cmp ts ue t) ≡ ts
    either true t back = refl
    either false t back = back

    by : (o : Option CuCpTerminal) → find ue_cmp ts ue ≡ o → kept_terminals ts ue (terminal_in o) ≡ ts
    by None none = subst (λ (o : Option CuCpTerminal). (if not (is_some o) then ts else put ue_cmp ts ue no_terminal) ≡ ts) (sym none) refl
    by (Some t) there = either (is_blank t && not (is_some (find ue_cmp ts ue))) t (put_back ue_total ts ue t sorted there)

module _ {M C P : Type 0} (way : Way M C P) where
  abbrev Good : CuCpRecord M C → Type 0
  Good r = AreInOrder r

  abbrev Keeps : Answer M P (CuCpRecord M C) → Type 0
  Keeps a = MakesTo Good a

  terminal_put : (ue : UeId) (r : CuCpRecord M C) (t : CuCpTerminal) → Good r → Good (with_terminal ue r t)
  terminal_put ue r t p = kept_sorted r.terminals ue t p

  attempt_put : (ue : UeId) (f : Attempt → Attempt) (r : CuCpRecord M C) → Good r → Good (with_attempt ue f r)
  attempt_put ue f r p = terminal_put ue r (record (terminal_of r ue) { context = on_context f (terminal_of r ue).context }) p

  after_asked_good : (ue : UeId) (node : NodeId) (r : CuCpRecord M C) (a : Asked M C) → Good r → Good (after_asked way ue node r a)
  after_asked_good ue node r a p = by a.awaited
    where
      by : (o : Option ℕ) → Good (after_begun way ue node (with_transactions r a.transactions) o)
      by None = p
      by (Some instance) = attempt_put ue (λ x. begun x node instance) (with_transactions r a.transactions) p

  noted_good : (ue : UeId) (node : NodeId) (awaited : Bool) (r : CuCpRecord M C) → Good r → Good (noted way ue node awaited r)
  noted_good ue node true r p = attempt_put ue (λ a. awaiting a node) r p
  noted_good ue node false r p = p

  -- ---- what a row says is carried out

  says_one : (ue : UeId) (r : CuCpRecord M C) (s : Action C) → IsSaid s → Good r → Keeps (act_one way ue r s)
  unfolding act_one
  says_one ue r (asks to m deadline awaited) is p =
      made_to Good (ask way r.transactions (channel ue.0 to) (waiting_of way m deadline awaited)) (λ a. nothing (after_asked way ue to (noted way ue to awaited r) a))
      (ask_made way r.transactions (channel ue.0 to) (waiting_of way m deadline awaited))
      (λ a. (after_asked_good ue to (noted way ue to awaited r) a (noted_good ue to awaited r p), tt))
  says_one ue r (cancels to m) is p =
      made_to Good (ask_at_once way r.transactions (channel ue.0 to) (waiting_of way m None false)) (λ a. nothing (after_asked way ue to r a))
      (at_once_made way r.transactions (channel ue.0 to) (waiting_of way m None false)) (λ a. (after_asked_good ue to r a p, tt))
  says_one ue r (replies to m) is p =
      made_to Good (replied way r.transactions (channel ue.0 to) m) (λ t. nothing (with_transactions r t)) (replied_made way r.transactions (channel ue.0 to) m)
      (λ t. (p, tt))
  says_one ue r (replies_late to instance m) is p =
      made_to Good (replied_late way r.transactions (channel ue.0 to) instance m) (λ t. nothing (with_transactions r t))
      (late_made way r.transactions (channel ue.0 to) instance m) (λ t. (p, tt))
  says_one ue r (sends to m) is p = (p, (tt, tt))
  says_one ue r (fails cause) is p = (p, (tt, tt))
  says_one ue r (ignores reason) is p = (p, (tt, tt))
  says_one ue r (refuses reason) is p = absurd is
  says_one ue r forgets is p = (p, tt)

  says_all : (ue : UeId) (ss : List (Action C)) (r : CuCpRecord M C) → AllByRecursion IsSaid ss → Good r → Keeps (act_all way ue ss r)
  unfolding act_all
  says_all ue [] r all p = (p, tt)
  says_all ue (s ∷ ss) r all p = after_to Good Good (act_one way ue r s) (act_all way ue ss) (says_one ue r s all.0 p) (λ q h. says_all ue ss q all.1 h)

  carried_out : (ue : UeId) (r : CuCpRecord M C) (what : Row C) → RowSays what → Good r → Keeps (carry_out way ue r what)
  unfolding carry_out
  carried_out ue r (row says t) all p = says_all ue says (with_terminal ue r t) all (terminal_put ue r t p)
  carried_out ue r (row_spent counter) all p = tt

  -- ---- answers that an attempt awaits

  abbrev ListSays : Option (Row C) → Type 0
  ListSays None = Unit {0}
  ListSays (Some what) = RowSays what

  listed_says : (t : Bool) (what : Row C) → RowSays what → ListSays (listed way t what)
  listed_says true what p = p
  listed_says false what p = tt

  caused_says : (o : Option CauseName) (what : CauseName → Row C) → ((name : CauseName) → RowSays (what name)) → ListSays (caused way o what)
  caused_says None what each = tt
  caused_says (Some name) what each = each name

  module _ (at : CuCpScope) (t : CuCpTerminal) (c : CuCpContext) where
    attaching_says : (m : Message C) (a : Attempt) → ListSays (in_attaching way at m t c a)
    attaching_says (e1 (e1s.BearerContextSetupResponse ue instance uplinks n3 down up)) a =
        listed_says (name_bearers c uplinks && name_bearers c n3) _ (attach_has_says way at uplinks n3 t c a)
    attaching_says (e1 (e1s.BearerContextSetupFailure ue instance cause)) a = caused_says (cause_name cause) _ (λ name. attach_fails_says way name t)
    attaching_says (f1 (f1s.UeContextSetupResponse ue instance downlinks)) a =
        listed_says (name_bearers c downlinks) _ (attach_placed_says way at downlinks t c a)
    attaching_says m a = tt

    moving_says : (m : Message C) (a : Attempt) → ListSays (in_moving way at m t c a)
    moving_says (e1 (e1s.BearerContextModificationResponse ue instance (Some uplinks) statuses)) a =
        listed_says (name_bearers c uplinks) _ (move_has_says way at uplinks t c a)
    moving_says (e1 (e1s.BearerContextModificationResponse ue instance None statuses)) a = tt
    moving_says (f1 (f1s.UeContextSetupResponse ue instance downlinks)) a =
        listed_says (name_bearers c downlinks) _ (move_placed_says way downlinks t c a)
    moving_says m a = tt

    preparing_says : (m : Message C) (a : Attempt) → ListSays (in_preparing way at m t c a)
    preparing_says (xn (xns.HandoverRequestAcknowledge ue instance peer down up)) a =
        listed_says (name_bearers c down && name_bearers c up) _ (acknowledged_says way at peer down up t c a)
    preparing_says (xn (xns.HandoverPreparationFailure ue instance cause)) a = caused_says (cause_name cause) _ (λ name. declined_says way name t c)
    preparing_says m a = tt

    prepared_says : (m : Message C) (a : Attempt) → ListSays (in_prepared way at m t c a)
    prepared_says (e1 (e1s.BearerContextModificationResponse ue instance uplinks (Some statuses))) a =
        listed_says (are_bearers (bearers_in c) (statuses_of statuses)) _ (frozen_says way at statuses t c a)
    prepared_says (e1 (e1s.BearerContextModificationResponse ue instance uplinks None)) a = tt
    prepared_says (e1 (e1s.BearerContextModificationFailure ue instance cause)) a = caused_says (cause_name cause) _ (λ name. not_frozen_says way at name t c)
    prepared_says m a = tt

    offered_says : (m : Message C) (a : Attempt) → ListSays (in_offered way at m t c a)
    offered_says (e1 (e1s.BearerContextSetupResponse ue instance uplinks n3 (Some down) (Some up))) a =
        listed_says (name_bearers c uplinks && name_bearers c n3 && name_bearers c down && name_bearers c up) _ (offer_has_says way at uplinks n3 down up t c a)
    offered_says (e1 (e1s.BearerContextSetupResponse ue instance uplinks n3 None up)) a = tt
    offered_says (e1 (e1s.BearerContextSetupResponse ue instance uplinks n3 (Some down) None)) a = tt
    offered_says (e1 (e1s.BearerContextSetupFailure ue instance cause)) a = caused_says (cause_name cause) _ (λ name. offer_declined_says way at cause t a)
    offered_says (f1 (f1s.UeContextSetupResponse ue instance downlinks)) a =
        listed_says (name_bearers c downlinks) _ (offer_placed_says way at downlinks t c a)
    offered_says m a = tt

    switching_says : (m : Message C) (a : Attempt) → ListSays (in_switching way at m t c a)
    switching_says (f1 (f1s.UeContextModificationResponse ue instance downlinks)) a =
        listed_says (name_bearers c downlinks) _ (renewed_says way at downlinks t c a)
    switching_says (e1 (e1s.BearerContextModificationResponse ue instance uplinks statuses)) a = switched_says way at t c a
    switching_says (core (cores.PathSwitchAcknowledge ue instance)) a = path_says way at t c a
    switching_says m a = tt

    list_if : (t : Bool) (x y : Option (Row C)) → ListSays x → ListSays y → ListSays (if t then x else y)
    list_if true x y p q = p
    list_if false x y p q = q

    releasing_says : (a : Attempt) → ListSays (Some (in_releasing way t c a a.awaits))
    releasing_says a = by a.awaits
      where
        by : (ws : List _) → RowSays (in_releasing way t c a ws)
        by [] = tt
        by (w ∷ ws) = tt

    state_says : (m : Message C) (s : StateName) (a : Attempt) → ListSays (in_state way at m t c s a)
    state_says m states.Attaching a = attaching_says m a
    state_says m states.Preparing a = list_if (is_between_dus a.kind) _ _ (moving_says m a) (preparing_says m a)
    state_says m states.Prepared a = prepared_says m a
    state_says m states.Offered a = offered_says m a
    state_says m states.Returning a = switching_says m a
    state_says m states.Arrived a = switching_says m a
    state_says m states.Completing a = list_if (is_between_gnbs a.kind) _ _ (releasing_says a) (switching_says m a)
    state_says m s a = tt

  abbrev AnswerSays : Answered way → Type 0
  AnswerSays answers_none = Unit {0}
  AnswerSays (answers_with taken) = ListSays taken

  answer_says : (at : CuCpScope) (from : NodeId) (instance : ℕ) (m : Message C) (t : CuCpTerminal) → AnswerSays (answer way at from instance m t)
  unfolding answer
  answer_says at from instance m t = by t.context
    where
      of_test : (c : CuCpContext) (a : Attempt) (b : Bool) → AnswerSays (if b then answers_with (in_state way at m t c c.state (answered a from)) else answers_none)
      of_test c a true = state_says at t c m c.state (answered a from)
      of_test c a false = tt

      of_attempt : (c : CuCpContext) (a : Option Attempt) → AnswerSays (answer_of way at from instance m t c a)
      of_attempt c None = tt
      of_attempt c (Some a) = of_test c a (awaits_answer a from instance)

      by : (c : Option CuCpContext) → AnswerSays (answer_on way at from instance m t c)
      by None = tt
      by (Some c) = of_attempt c c.attempt

  next_keeps : (ue : UeId) (ch : Channel) (r : CuCpRecord M C) → Good r → Keeps (put_next way ue ch r)
  next_keeps ue ch r p =
      made_to Good (advance way r.transactions ch) (λ a. nothing (after_asked way ue ch.peer r a)) (advance_made way r.transactions ch)
      (λ a. (after_asked_good ue ch.peer r a p, tt))

  answered_keeps : (ue : UeId) (ch : Channel) (m : Message C) (r : CuCpRecord M C) (a : Answered way) → AnswerSays a → Good r → Keeps (answered_by way ue ch m r a)
  answered_keeps ue ch m r answers_none says p = next_keeps ue ch _ p
  answered_keeps ue ch m r (answers_with None) says p = (p, (tt, tt))
  answered_keeps ue ch m r (answers_with (Some what)) says p =
      after_to Good Good (carry_out way ue (closed_at way ch r) what) (put_next way ue ch)
      (carried_out ue (closed_at way ch r) what says p) (next_keeps ue ch)

  reply_keeps : (ue : UeId) (ch : Channel) (instance : ℕ) (m : Message C) (r : CuCpRecord M C) → Good r → Keeps (reply_received way ue ch instance m r)
  unfolding reply_received
  reply_keeps ue ch instance m r p =
      answered_keeps ue ch m r (answer way (at_of r ue) ch.peer instance m (terminal_of r ue)) (answer_says (at_of r ue) ch.peer instance m (terminal_of r ue)) p

  -- ---- requests and tokens

  set_up_keeps : (from : NodeId) (m : Message C) (r : CuCpRecord M C) → Good r → Keeps (set_up way from m r)
  set_up_keeps from m r p =
      made_to Good (replied way r.transactions (channel 0 from) m) (λ t. nothing (with_transactions (with_unit way from r) t))
      (replied_made way r.transactions (channel 0 from) m) (λ t. (p, tt))

  asked_keeps : (from : NodeId) (m : Message C) (r : CuCpRecord M C) → Good r → Keeps (asked way from m r)
  asked_keeps from (f1 (f1s.F1SetupRequest instance name)) r p = set_up_keeps from (f1 (f1s.F1SetupResponse instance)) r p
  asked_keeps from (e1 (e1s.E1SetupRequest instance name)) r p = set_up_keeps from (e1 (e1s.E1SetupResponse instance)) r p
  asked_keeps from (xn (xns.HandoverRequest ue instance epoch bearers sn quota peer du origin)) r p =
      carried_out ue r _ (offer_says way (at_of r ue) from instance _ (terminal_of r ue)) p
  asked_keeps from (xn (xns.SnStatusTransfer ue instance statuses)) r p =
      carried_out ue r _ (status_says way (at_of r ue) from instance statuses (terminal_of r ue)) p
  asked_keeps from (xn (xns.HandoverCancel ue instance)) r p =
      carried_out ue r _ (xn_cancelled_says way (at_of r ue) from instance (terminal_of r ue)) p
  asked_keeps from (xn (xns.UeContextRelease ue instance)) r p =
      carried_out ue r _ (xn_released_says way (at_of r ue) from instance (terminal_of r ue)) p
  asked_keeps from m r p = (p, (tt, tt))

  module _ (at : CuCpScope) (from : NodeId) (t : CuCpTerminal) where
    ready_says : (token : Token) (epoch : ℕ) (c : CuCpContext) (a : Attempt) → RowSays (token_in_ready way at from token epoch t c a)
    ready_says token epoch c a =
        row_if way (not (is_ready way c.state && same_node from (own_du at c.du))) _ _ (tt, tt)
        (row_if way (is_complete way token && a.epoch == epoch) _ _ (arrives_says way at epoch t c a)
        (row_if way (is_reestablish way token && a.epoch + 1 == epoch) _ _ (arrives_again_says way at epoch t c a) (tt, tt)))

    return_says : (token : Token) (epoch : ℕ) (c : CuCpContext) (a : Attempt) → RowSays (token_of_return way at from token epoch t c a)
    return_says token epoch c a =
        row_if way (is_reestablish way token && is_epoch way c.epoch 1 epoch && same_node from (own_du at c.du)) _ _
        (row_if way (may_return way c.state a.kind) _ _ (returns_says way at epoch t c)
        (row_if way (is_too_early way c.state a.kind) _ _ (tt, tt) (ready_says token epoch c a))) (ready_says token epoch c a)

    attempt_says : (token : Token) (epoch : ℕ) (c : CuCpContext) (a : Attempt) → RowSays (token_of_attempt way at from token epoch t c a)
    attempt_says token epoch c a =
        row_if way (not (is_own_command way c.state a.kind && same_node from (own_du at a.du))) _ _ (return_says token epoch c a)
        (row_if way (is_complete way token && is_epoch way c.epoch 1 epoch) _ _ (completes_says way at epoch t c a)
        (row_if way (is_reestablish way token && is_epoch way c.epoch 2 epoch) _ _ (completes_again_says way at epoch t c a) (return_says token epoch c a)))

    token_says : (token : Token) (epoch : ℕ) (c : Option CuCpContext) → RowSays (token_on way at from token epoch t c)
    token_says token epoch None = (tt, tt)
    token_says token epoch (Some c) =
        row_if way (is_epoch way c.epoch 0 epoch && c.finished) _ _ (tt, tt) (by c.attempt)
      where
        by : (a : Option Attempt) → RowSays (token_by_attempt way at from token epoch t c a)
        by None =
            row_if way (is_reestablish way token && is_epoch way c.epoch 1 epoch && same_node from (own_du at c.du)) _ _ (returns_says way at epoch t c) (tt, tt)
        by (Some a) = attempt_says token epoch c a

    token_row_says : (token : Token) → RowSays (token_row way at from t token)
    token_row_says (tokens.Complete ue epoch) = token_says (tokens.Complete ue epoch) epoch t.context
    token_row_says (tokens.Reestablish ue epoch) = token_says (tokens.Reestablish ue epoch) epoch t.context
    token_row_says token = (tt, tt)

    container_says : (c : Option CuCpContext) (token : Option Token) → RowSays (no_context_first way at from t c token)
    container_says None token = (tt, tt)
    container_says (Some c) None = (tt, tt)
    container_says (Some c) (Some token) =
        row_if way ((token_ue way token).0 == at.ue.0) _ _ (token_row_says token) (tt, tt)

  transferred_keeps : (from : NodeId) (m : Message C) (r : CuCpRecord M C) → Good r → Keeps (transferred way from m r)
  unfolding token_received
  transferred_keeps from (f1 (f1s.UlRrcMessageTransfer ue container)) r p =
      carried_out ue r _ (container_says (at_of r ue) from (terminal_of r ue) (terminal_of r ue).context (way.unwrap container)) p
  transferred_keeps from m r p = (p, (tt, tt))

  control_by_keeps : (from : NodeId) (m : Message C) (r : CuCpRecord M C) (k : Kind) → Good r → Keeps (control_by way from m r k)
  control_by_keeps from m r (request ue i) p =
      on_request_to way Good r r.transactions (channel ue from) i (λ t. asked way from m (with_transactions r t)) p
      (λ t. asked_keeps from m (with_transactions r t) p)
  control_by_keeps from m r (reply ue i) p =
      on_reply_to way Good r r.transactions (channel ue from) i (reply_received way (record { 0 = ue }) (channel ue from) i m r) p
      (reply_keeps (record { 0 = ue }) (channel ue from) i m r p)
  control_by_keeps from m r (transfer ue) p = transferred_keeps from m r p

  control_keeps : (from : NodeId) (m : Message C) (r : CuCpRecord M C) → Good r → Keeps (control_received way from m r)
  unfolding control_received
  control_keeps from m r p = by (shares_interface (CuCp r.gnb) from)
    where
      by : (t : Bool) → Keeps (if t then control_by way from m r (kind_of m) else drops Unexpected r)
      by true = control_by_keeps from m r (kind_of m) p
      by false = (p, (tt, tt))

  -- ---- a tick

  expired_says : (at : CuCpScope) (t : CuCpTerminal) (c : Option CuCpContext) → RowSays (expired_on way at t c)
  expired_says at t None = tt
  expired_says at t (Some c) = expires_says way at t c

  due_one_keeps : (r : CuCpRecord M C) (d : Due M) → Good r → Keeps (due_one way r d)
  due_one_keeps r (repeats ch m) p = (p, (tt, tt))
  due_one_keeps r (expires ch) p =
      carried_out (record { 0 = ch.ue }) r _
      (expired_says (at_of r (record { 0 = ch.ue })) (terminal_of r (record { 0 = ch.ue })) (terminal_of r (record { 0 = ch.ue })).context) p

  due_each_keeps : (ds : List (Due M)) (r : CuCpRecord M C) → Good r → Keeps (due_each way ds r)
  due_each_keeps [] r p = (p, tt)
  due_each_keeps (d ∷ ds) r p = after_to Good Good (due_one way r d) (due_each way ds) (due_one_keeps r d p) (due_each_keeps ds)

  commanded_says : (at : CuCpScope) (t : CuCpTerminal) (c : Option CuCpContext) → RowSays (command_on way at t c)
  commanded_says at t None = tt
  commanded_says at t (Some c) = by c.state c.attempt
    where
      by : (s : StateName) (a : Option Attempt) → RowSays (command_by way at t c s a)
      by states.Frozen (Some a) = command_says way at t c a
      by states.Commanded (Some a) = command_says way at t c a
      by s a = tt

  command_each_keeps : (ues : List UeId) (r : CuCpRecord M C) → Good r → Keeps (command_each way ues r)
  command_each_keeps [] r p = (p, tt)
  command_each_keeps (ue ∷ ues) r p =
      after_to Good Good (carry_out way ue r (command_on way (at_of r ue) (terminal_of r ue) (terminal_of r ue).context)) (command_each way ues)
      (carried_out ue r _ (commanded_says (at_of r ue) (terminal_of r ue) (terminal_of r ue).context) p) (command_each_keeps ues)

  tick_keeps : (r : CuCpRecord M C) → Good r → Keeps (tick way r)
  unfolding tick
  tick_keeps r p =
      let on : CuCpRecord M C = with_transactions r (record r.transactions { caller = after_tick r.transactions.caller }) in
      after_to Good Good (due_each way (due r.transactions.caller) on) (λ s. command_each way (ues_of way s) s)
      (due_each_keeps (due r.transactions.caller) on p) (λ s q. command_each_keeps (ues_of way s) s q)

  -- ---- orders: a row that refuses nothing, or one that refuses and keeps the terminal

  abbrev IsOrderRow : CuCpTerminal → Row C → Type 0
  IsOrderRow t what = RowSays what ⊎ ((reason : RefuseReason) × (what ≡ row (refuses reason ∷ []) t))

  order_if : (t : CuCpTerminal) (b : Bool) (x y : Row C) → IsOrderRow t x → IsOrderRow t y → IsOrderRow t (if b then x else y)
  order_if t true x y p q = p
  order_if t false x y p q = q

  -- what such a row comes to
  abbrev Comes : CuCpRecord M C → Answer M P (CuCpRecord M C) → Type 0
  Comes r a = EndsIn Good a × StaysWhereLone r a

  made_ends : (a : Answer M P (CuCpRecord M C)) → Keeps a → EndsIn Good a
  made_ends (gives outputs after) p = p.0
  made_ends (spent counter) p = tt

  made_stands : (r : CuCpRecord M C) (a : Answer M P (CuCpRecord M C)) → Keeps a → StaysWhereLone r a
  made_stands r a p = made_stays r a (by a p)
    where
      by : (a : Answer M P (CuCpRecord M C)) → Keeps a → Makes a
      by (gives outputs after) p = p.1
      by (spent counter) p = tt

  refused_comes : (ue : UeId) (r : CuCpRecord M C) (reason : RefuseReason) → Good r → Comes r (carry_out way ue r (row (refuses reason ∷ []) (terminal_of r ue)))
  unfolding carry_out act_all act_one
  refused_comes ue r reason p =
      (terminal_put ue r (terminal_of r ue) p, ap (λ (ts : List (UeId × CuCpTerminal)). record r { terminals = ts }) (kept_again r.terminals ue p))

  order_comes : (ue : UeId) (r : CuCpRecord M C) (what : Row C) → Good r → IsOrderRow (terminal_of r ue) what → Comes r (carry_out way ue r what)
  order_comes ue r what p (inl says) =
      (made_ends (carry_out way ue r what) (carried_out ue r what says p), made_stands r (carry_out way ue r what) (carried_out ue r what says p))
  order_comes ue r what p (inr refused) =
      subst (λ (x : Row C). Comes r (carry_out way ue r x)) (sym refused.1) (refused_comes ue r refused.0 p)

  handover_row : (at : CuCpScope) (goal : Plan) (t : CuCpTerminal) → IsOrderRow t (handover way at goal t)
  unfolding handover
  handover_row at goal t = by t.context
    where
      by : (c : Option CuCpContext) → IsOrderRow t (handover_on way at goal t c)
      by None = inr (Busy, refl)
      by (Some c) =
          order_if t (is_same_gnb goal.gnb at.gnb && goal.du == c.du) _ _ (inr (Same, refl))
          (order_if t (is_same_gnb goal.gnb at.gnb && not (goal.up == c.up)) _ _ (inr (NotAllowed, refl))
          (order_if t (not (is_serving way c.state)) _ _ (inr (Busy, refl))
          (order_if t (is_same_gnb goal.gnb at.gnb) _ _ (inl (move_begins_says way at goal (epoch_of way c) t c))
          (inl (handover_begins_says way at goal (epoch_of way c) t c)))))

  cancel_row : (at : CuCpScope) (t : CuCpTerminal) → IsOrderRow t (cancel way at t)
  unfolding cancel
  cancel_row at t = by t.context
    where
      of_state : (c : CuCpContext) (s : StateName) (k : AttemptKind) (a : Attempt) → IsOrderRow t (cancel_attempt way at t c s k a)
      of_state c states.Preparing kinds.BetweenGnbs a = inl (tt, tt)
      of_state c states.Preparing kinds.BetweenDus a = inr (Busy, refl)
      of_state c states.Prepared k a = inr (Busy, refl)
      of_state c states.Frozen kinds.BetweenDus a = inl (tt, tt)
      of_state c states.Frozen k a = inl (tt, (tt, tt))
      of_state c states.Commanded kinds.BetweenDus a = inr (TooLate, refl)
      of_state c states.Commanded kinds.BetweenGnbs a = inr (TooLate, refl)
      of_state c s k a = inr (Empty, refl)

      of_attempt : (c : CuCpContext) (a : Option Attempt) → IsOrderRow t (cancel_of way at t c a)
      of_attempt c None = inr (Empty, refl)
      of_attempt c (Some a) = of_state c c.state a.kind a

      by : (c : Option CuCpContext) → IsOrderRow t (cancel_on way at t c)
      by None = inr (Empty, refl)
      by (Some c) = of_attempt c c.attempt

  release_row : (at : CuCpScope) (t : CuCpTerminal) → IsOrderRow t (release way at t)
  unfolding release
  release_row at t = by t.context
    where
      by : (c : Option CuCpContext) → IsOrderRow t (release_on way at t c)
      by None = inr (Busy, refl)
      by (Some c) = order_if t (is_serving way c.state) _ _ (inl (tt, (tt, tt))) (inr (Busy, refl))

  attach_row : (at : CuCpScope) (plan : Plan) (t : CuCpTerminal) → IsOrderRow t (attach way at plan t)
  unfolding attach
  attach_row at plan t = by t.context
    where
      by : (c : Option CuCpContext) → IsOrderRow t (attach_on way at plan t c)
      by (Some c) = inr (Attached, refl)
      by None = order_if t (not (has_unit at.units (own_up at plan.up)) || not (has_unit at.units (own_du at plan.du))) _ _ (inr (NotStarted, refl)) (inl (tt, tt))

  -- ---- the table

  attach_comes : (r : CuCpRecord M C) (plan : Plan) → Good r → Comes r (carry_out way plan.ue r (attach way (at_of r plan.ue) plan (terminal_of r plan.ue)))
  attach_comes r plan p = order_comes plan.ue r _ p (attach_row (at_of r plan.ue) plan (terminal_of r plan.ue))

  handover_comes : (r : CuCpRecord M C) (plan : Plan) → Good r → Comes r (carry_out way plan.ue r (handover way (at_of r plan.ue) plan (terminal_of r plan.ue)))
  handover_comes r plan p = order_comes plan.ue r _ p (handover_row (at_of r plan.ue) plan (terminal_of r plan.ue))

  cancel_comes : (r : CuCpRecord M C) (ue : UeId) → Good r → Comes r (carry_out way ue r (cancel way (at_of r ue) (terminal_of r ue)))
  cancel_comes r ue p = order_comes ue r _ p (cancel_row (at_of r ue) (terminal_of r ue))

  release_comes : (r : CuCpRecord M C) (ue : UeId) → Good r → Comes r (carry_out way ue r (release way (at_of r ue) (terminal_of r ue)))
  release_comes r ue p = order_comes ue r _ p (release_row (at_of r ue) (terminal_of r ue))

  pub cu_cp_ends : (r : CuCpRecord M C) (input : Input C P) → Good r → EndsIn Good (cu_cp_acts way r input)
  unfolding cu_cp_acts
  cu_cp_ends r (control_input from m) p = made_ends (control_received way from m r) (control_keeps from m r p)
  cu_cp_ends r tick_input p = made_ends (tick way r) (tick_keeps r p)
  cu_cp_ends r (order_input (orders.Attach plan)) p = (attach_comes r plan p).0
  cu_cp_ends r (order_input (orders.Handover plan)) p = (handover_comes r plan p).0
  cu_cp_ends r (order_input (orders.Cancel ue)) p = (cancel_comes r ue p).0
  cu_cp_ends r (order_input (orders.Release ue)) p = (release_comes r ue p).0
  cu_cp_ends r input p = p

  pub cu_cp_stays : (r : CuCpRecord M C) (input : Input C P) → Good r → StaysWhereLone r (cu_cp_acts way r input)
  unfolding cu_cp_acts
  cu_cp_stays r (control_input from m) p = made_stands r (control_received way from m r) (control_keeps from m r p)
  cu_cp_stays r tick_input p = made_stands r (tick way r) (tick_keeps r p)
  cu_cp_stays r (order_input (orders.Attach plan)) p = (attach_comes r plan p).1
  cu_cp_stays r (order_input (orders.Handover plan)) p = (handover_comes r plan p).1
  cu_cp_stays r (order_input (orders.Cancel ue)) p = (cancel_comes r ue p).1
  cu_cp_stays r (order_input (orders.Release ue)) p = (release_comes r ue p).1
  cu_cp_stays r input p = tt
