-- The control plane of the central unit: which input goes to which row (rows: CuCpRows).
--
--   order Attach, Handover, Cancel, Release            attach, handover, cancel, release
--   F1 and E1 Setup Request                            set_up
--   Bearer Context Setup Response, Failure             attach_has_tunnels, attach_fails; offer_has_tunnels, offer_is_declined
--   UE Context Setup Response                          attach_is_placed, move_is_placed, offer_is_placed
--   Bearer Context Modification Response, Failure      move_has_uplinks; handover_is_frozen, handover_is_not_frozen; is_switched
--   UE Context Modification Response                   place_is_renewed
--   Release Complete (DU, CU-UP)                       after the source was told to release: the context ends
--   Path Switch Acknowledge                            path_is_switched
--   Handover Request                                   offer
--   Handover Request Acknowledge, Preparation Failure  handover_is_acknowledged, handover_is_declined
--   SN Status Transfer                                 status
--   Handover Cancel                                    xn_cancelled
--   UE Context Release (Xn)                            xn_released
--   UL RRC Message Transfer with a token               completes, completes_again, returns, arrives, arrives_again; accepted_action, where
--   its
--                                                      epoch is finished; Busy, where it is too early (token_on)
--   a tick                                             open requests again; handover_expires; command
use Rattle.std.specs.Prelude.{◌==◌, ℕ, ◌+◌, Bool, true, false, not, ◌&&◌, if◌then◌else◌, List, [], ◌∷◌, ◌++◌, map, Option, Some, None}
use Rattle.gnb_types.specs.declared.names.NodeId.{NodeId}
use Rattle.gnb_types.specs.declared.names.NodeId.TheVariants.{CuCp as cp_node}
use Rattle.gnb_types.specs.declared.names.UeId.{UeId}
use Rattle.gnb_types.specs.declared.keys.Channel.{Channel}
use Rattle.gnb_types.specs.declared.reasons.CauseName.{CauseName}
use Rattle.gnb_types.specs.declared.reasons.DropReason.TheVariants.{NoContext, Busy, Unexpected}
use Rattle.gnb_types.specs.declared.inputs.Order.{Order}
use Rattle.gnb_types.specs.declared.inputs.Order.TheVariants as orders
use Rattle.message_types.specs.declared.f1.F1.TheVariants as f1s
use Rattle.message_types.specs.declared.e1.E1Message.TheVariants as e1s
use Rattle.message_types.specs.declared.xn.XnMessage.TheVariants as xns
use Rattle.message_types.specs.declared.xn.CoreMessage.TheVariants as cores
use Rattle.message_types.specs.declared.rrc.Token.{Token}
use Rattle.message_types.specs.declared.rrc.Token.TheVariants as tokens
use Rattle.transaction_defs.specs.Callers.{close, due, after_tick, Due, repeats, expires}
use Rattle.unit_defs.specs.declared.StateName.{StateName}
use Rattle.unit_defs.specs.declared.StateName.TheVariants as states
use Rattle.unit_defs.specs.declared.AttemptKind.{AttemptKind}
use Rattle.unit_defs.specs.declared.AttemptKind.TheVariants as kinds
use Rattle.unit_defs.specs.Ways.{Message, f1, e1, xn, core, Input, control_input, tick_input, order_input, control, Way, Answer, ◌then◌, nothing, puts, drops}
use Rattle.unit_defs.specs.Transactions.{Kind, request, reply, transfer, kind_of, Waiting, Transactions, waits_at, with_waiting, advance, replied, on_request, on_reply}
use Rattle.unit_defs.specs.Messages.{cause_name, channel, shares_interface, are_bearers, statuses_of}
use Rattle.unit_defs.specs.CuCpRecords.{Awaited, Attempt, CuCpContext, CuCpTerminal, CuCpRecord, terminal_of, with_transactions, attempted, same_node, has_unit, bearers_in, ignores, Row, stays, keeps, gives_up, answered, awaits_answer, after_asked, carry_out}
use Rattle.unit_defs.specs.CuCpRows.{CuCpScope, own_du, name_bearers, is_between_dus, is_between_gnbs, attach, attach_has_tunnels, attach_is_placed, attach_fails, move_has_uplinks, move_is_placed, handover, handover_is_acknowledged, handover_is_declined, handover_expires, handover_is_frozen, handover_is_not_frozen, command, cancel, release, offer_context, offer, offer_has_tunnels, offer_is_declined, offer_is_placed, status, xn_cancelled, xn_released, place_is_renewed, is_switched, path_is_switched, accepted_action, completes, completes_again, returns, arrives, arrives_again}

abbrev pub at_of : {M C : Type 0} → CuCpRecord M C → UeId → CuCpScope
at_of r ue = record { gnb = r.gnb; ue = ue; units = r.units }

module _ {M C P : Type 0} (way : Way M C P) where
  -- ---- answers that an attempt awaits, by the state of the terminal: the row, or none where the message lacks what the row uses, its
  -- cause is past the root, or its lists don't name the bearers. Where no row is named the answer only closes its request.

  abbrev pub listed : Bool → Row C → Option (Row C)
  listed b taken = if b then Some taken else None

  abbrev pub caused : Option CauseName → (CauseName → Row C) → Option (Row C)
  caused None taken = None
  caused (Some cause) taken = Some (taken cause)

  abbrev pub only_closes : CuCpTerminal → CuCpContext → Attempt → Row C
  only_closes t c a = keeps t [] (attempted c c.state a)

  abbrev pub in_attaching : CuCpScope → Message C → CuCpTerminal → CuCpContext → Attempt → Option (Row C)
  in_attaching at (e1 (e1s.BearerContextSetupResponse ue instance uplinks n3 down up)) t c a =
      listed (name_bearers c uplinks && name_bearers c n3) (attach_has_tunnels way at uplinks n3 t c a)
  in_attaching at (e1 (e1s.BearerContextSetupFailure ue instance cause)) t c a = caused (cause_name cause) (λ name. attach_fails way name t)
  in_attaching at (f1 (f1s.UeContextSetupResponse ue instance downlinks)) t c a =
      listed (name_bearers c downlinks) (attach_is_placed way at downlinks t c a)
  in_attaching at message t c a = Some (only_closes t c a)

  abbrev pub in_moving : CuCpScope → Message C → CuCpTerminal → CuCpContext → Attempt → Option (Row C)
  in_moving at (e1 (e1s.BearerContextModificationResponse ue instance (Some uplinks) statuses)) t c a =
      listed (name_bearers c uplinks) (move_has_uplinks way at uplinks t c a)
  in_moving at (e1 (e1s.BearerContextModificationResponse ue instance None statuses)) t c a = None
  in_moving at (f1 (f1s.UeContextSetupResponse ue instance downlinks)) t c a =
      listed (name_bearers c downlinks) (move_is_placed way downlinks t c a)
  in_moving at message t c a = Some (only_closes t c a)

  abbrev pub in_preparing : CuCpScope → Message C → CuCpTerminal → CuCpContext → Attempt → Option (Row C)
  in_preparing at (xn (xns.HandoverRequestAcknowledge ue instance peer down up)) t c a =
      listed (name_bearers c down && name_bearers c up) (handover_is_acknowledged way at peer down up t c a)
  in_preparing at (xn (xns.HandoverPreparationFailure ue instance cause)) t c a = caused (cause_name cause) (λ name. handover_is_declined way name t c)
  in_preparing at message t c a = Some (only_closes t c a)

  abbrev pub in_prepared : CuCpScope → Message C → CuCpTerminal → CuCpContext → Attempt → Option (Row C)
  in_prepared at (e1 (e1s.BearerContextModificationResponse ue instance uplinks (Some statuses))) t c a =
      listed (are_bearers (bearers_in c) (statuses_of statuses)) (handover_is_frozen way at statuses t c a)
  in_prepared at (e1 (e1s.BearerContextModificationResponse ue instance uplinks None)) t c a = None
  in_prepared at (e1 (e1s.BearerContextModificationFailure ue instance cause)) t c a = caused (cause_name cause) (λ name. handover_is_not_frozen way at name t c)
  in_prepared at message t c a = Some (only_closes t c a)

  abbrev pub in_offered : CuCpScope → Message C → CuCpTerminal → CuCpContext → Attempt → Option (Row C)
  in_offered at (e1 (e1s.BearerContextSetupResponse ue instance uplinks n3 (Some down) (Some up))) t c a =
      listed (name_bearers c uplinks && name_bearers c n3 && name_bearers c down && name_bearers c up) (offer_has_tunnels way at uplinks n3 down up t c a)
  in_offered at (e1 (e1s.BearerContextSetupResponse ue instance uplinks n3 down up)) t c a = None
  in_offered at (e1 (e1s.BearerContextSetupFailure ue instance cause)) t c a = caused (cause_name cause) (λ name. offer_is_declined way at cause t a)
  in_offered at (f1 (f1s.UeContextSetupResponse ue instance downlinks)) t c a =
      listed (name_bearers c downlinks) (offer_is_placed way at downlinks t c a)
  in_offered at message t c a = Some (only_closes t c a)

  -- after an arrival or a return
  abbrev pub in_switching : CuCpScope → Message C → CuCpTerminal → CuCpContext → Attempt → Option (Row C)
  in_switching at (f1 (f1s.UeContextModificationResponse ue instance downlinks)) t c a =
      listed (name_bearers c downlinks) (place_is_renewed way at downlinks t c a)
  in_switching at (e1 (e1s.BearerContextModificationResponse ue instance uplinks statuses)) t c a = Some (is_switched way at t c a)
  in_switching at (core (cores.PathSwitchAcknowledge ue instance)) t c a = Some (path_is_switched way at t c a)
  in_switching at message t c a = Some (only_closes t c a)

  -- the source lets go: it is over once DU and CU-UP have answered
  abbrev pub in_releasing : CuCpTerminal → CuCpContext → Attempt → List Awaited → Row C
  in_releasing t c a [] = gives_up t []
  in_releasing t c a (w ∷ ws) = only_closes t c a

  abbrev pub in_state : CuCpScope → Message C → CuCpTerminal → CuCpContext → StateName → Attempt → Option (Row C)
  in_state at message t c states.Attaching a = in_attaching at message t c a
  in_state at message t c states.Preparing a = if is_between_dus a.kind then in_moving at message t c a else in_preparing at message t c a
  in_state at message t c states.Prepared a = in_prepared at message t c a
  in_state at message t c states.Offered a = in_offered at message t c a
  in_state at message t c states.Returning a = in_switching at message t c a
  in_state at message t c states.Arrived a = in_switching at message t c a
  in_state at message t c states.Completing a = if is_between_gnbs a.kind then Some (in_releasing t c a a.awaits) else in_switching at message t c a
  in_state at message t c state a = Some (only_closes t c a)

  -- ---- an awaited answer closes its request; then its row is made, if the attempt awaits it, and what waits longest is put

  -- what an answer is to the terminal's attempt
  pub data Answered : Type 0 where
    answers_none : Answered
    answers_with : (taken : Option (Row C)) → Answered

  abbrev pub answer_of : CuCpScope → NodeId → ℕ → Message C → CuCpTerminal → CuCpContext → Option Attempt → Answered
  answer_of at from instance message t c None = answers_none
  answer_of at from instance message t c (Some a) =
      if awaits_answer a from instance then answers_with (in_state at message t c c.state (answered a from)) else answers_none

  abbrev pub answer_on : CuCpScope → NodeId → ℕ → Message C → CuCpTerminal → Option CuCpContext → Answered
  answer_on at from instance message t None = answers_none
  answer_on at from instance message t (Some c) = answer_of at from instance message t c c.attempt

  unfoldable pub answer : CuCpScope → NodeId → ℕ → Message C → CuCpTerminal → Answered
  answer at from instance message t = answer_on at from instance message t t.context

  -- A setup failed that no attempt awaits any more: its offer was cancelled, and the release that waits first is the one after
  -- it, and isn't needed.
  abbrev pub is_cu_up_release : Message C → Bool
  is_cu_up_release (e1 (e1s.BearerContextReleaseCommand ue instance is_final)) = true
  is_cu_up_release message = false

  abbrev pub without_release : List (Waiting C) → List (Waiting C)
  without_release [] = []
  without_release (w ∷ ws) = if is_cu_up_release w.message then ws else w ∷ ws

  abbrev pub is_setup_failure : Message C → Bool
  is_setup_failure (e1 (e1s.BearerContextSetupFailure ue instance cause)) = true
  is_setup_failure message = false

  abbrev pub after_failed_setup : Message C → Channel → Transactions M C → Transactions M C
  after_failed_setup message ch t =
      if is_setup_failure message then with_waiting t ch (without_release (waits_at t ch)) else t

  abbrev pub put_next : UeId → Channel → CuCpRecord M C → Answer M P (CuCpRecord M C)
  put_next ue ch r = advance way r.transactions ch then (λ a. nothing (after_asked way ue ch.peer r a))

  abbrev pub closed_at : Channel → CuCpRecord M C → CuCpRecord M C
  closed_at ch r = with_transactions r (record r.transactions { caller = close r.transactions.caller ch })

  abbrev pub answered_by : UeId → Channel → Message C → CuCpRecord M C → Answered → Answer M P (CuCpRecord M C)
  answered_by ue ch message r answers_none =
      let c : CuCpRecord M C = closed_at ch r in put_next ue ch (with_transactions c (after_failed_setup message ch c.transactions))
  answered_by ue ch message r (answers_with None) = drops Unexpected r
  answered_by ue ch message r (answers_with (Some taken)) = carry_out way ue (closed_at ch r) taken then put_next ue ch

  unfoldable pub reply_received : UeId → Channel → ℕ → Message C → CuCpRecord M C → Answer M P (CuCpRecord M C)
  reply_received ue ch instance message r =
      answered_by ue ch message r (answer (at_of r ue) ch.peer instance message (terminal_of r ue))

  -- ---- requests of others, each of which is taken

  abbrev pub with_unit : NodeId → CuCpRecord M C → CuCpRecord M C
  with_unit node r = record r { units = if has_unit r.units node then r.units else r.units ++ node ∷ [] }

  abbrev pub set_up : NodeId → Message C → CuCpRecord M C → Answer M P (CuCpRecord M C)
  set_up from message r = replied way r.transactions (channel 0 from) message then (λ t. nothing (with_transactions (with_unit from r) t))

  abbrev pub by_row : UeId → Row C → CuCpRecord M C → Answer M P (CuCpRecord M C)
  by_row ue taken r = carry_out way ue r taken

  abbrev pub asked : NodeId → Message C → CuCpRecord M C → Answer M P (CuCpRecord M C)
  asked from (f1 (f1s.F1SetupRequest instance name)) r = set_up from (f1 (f1s.F1SetupResponse instance)) r
  asked from (e1 (e1s.E1SetupRequest instance name)) r = set_up from (e1 (e1s.E1SetupResponse instance)) r
  asked from (xn (xns.HandoverRequest ue instance epoch bearers sn quota peer du origin)) r =
      by_row ue (offer way (at_of r ue) from instance (offer_context way peer.up du instance bearers sn quota epoch) (terminal_of r ue)) r
  asked from (xn (xns.SnStatusTransfer ue instance statuses)) r = by_row ue (status way (at_of r ue) from instance statuses (terminal_of r ue)) r
  asked from (xn (xns.HandoverCancel ue instance)) r = by_row ue (xn_cancelled way (at_of r ue) from instance (terminal_of r ue)) r
  asked from (xn (xns.UeContextRelease ue instance)) r = by_row ue (xn_released way (at_of r ue) from instance (terminal_of r ue)) r
  asked from message r = drops Unexpected r

  -- ---- tokens, by the state of the terminal, the epoch, and the DU that relays them. k is the epoch accepted last.

  abbrev pub is_complete : Token → Bool
  is_complete (tokens.Complete ue epoch) = true
  is_complete token = false

  abbrev pub is_reestablish : Token → Bool
  is_reestablish (tokens.Reestablish ue epoch) = true
  is_reestablish token = false

  abbrev pub is_epoch : Option ℕ → ℕ → ℕ → Bool
  is_epoch None more epoch = false
  is_epoch (Some k) more epoch = k + more == epoch

  abbrev pub is_own_command : StateName → AttemptKind → Bool
  is_own_command states.Commanded kinds.Attach = true
  is_own_command states.Commanded kinds.BetweenDus = true
  is_own_command state kind = false

  -- from which states a return is taken, and in which it comes too early
  abbrev pub may_return : StateName → AttemptKind → Bool
  may_return states.Preparing kinds.BetweenGnbs = true
  may_return states.Frozen kind = true
  may_return states.Commanded kinds.BetweenDus = true
  may_return states.Commanded kinds.BetweenGnbs = true
  may_return state kind = false

  abbrev pub is_too_early : StateName → AttemptKind → Bool
  is_too_early states.Prepared kind = true
  is_too_early states.Preparing kinds.BetweenDus = true
  is_too_early state kind = false

  abbrev pub is_ready : StateName → Bool
  is_ready states.Ready = true
  is_ready state = false

  abbrev pub unexpected_token : CuCpTerminal → Row C
  unexpected_token t = stays t (ignores Unexpected ∷ [])

  abbrev pub token_in_ready : CuCpScope → NodeId → Token → ℕ → CuCpTerminal → CuCpContext → Attempt → Row C
  token_in_ready at from token epoch t c a =
      if not (is_ready c.state && same_node from (own_du at c.du)) then unexpected_token t else
      (if is_complete token && a.epoch == epoch then arrives way at epoch t c a else
      (if is_reestablish token && a.epoch + 1 == epoch then arrives_again way at epoch t c a else unexpected_token t))

  abbrev pub token_of_return : CuCpScope → NodeId → Token → ℕ → CuCpTerminal → CuCpContext → Attempt → Row C
  token_of_return at from token epoch t c a =
      if is_reestablish token && is_epoch c.epoch 1 epoch && same_node from (own_du at c.du) then
      (if may_return c.state a.kind then returns way at epoch t c else
      (if is_too_early c.state a.kind then stays t (ignores Busy ∷ []) else token_in_ready at from token epoch t c a))
      else token_in_ready at from token epoch t c a

  abbrev pub token_of_attempt : CuCpScope → NodeId → Token → ℕ → CuCpTerminal → CuCpContext → Attempt → Row C
  token_of_attempt at from token epoch t c a =
      if not (is_own_command c.state a.kind && same_node from (own_du at a.du)) then token_of_return at from token epoch t c a else
      (if is_complete token && is_epoch c.epoch 1 epoch then completes way at epoch t c a else
      (if is_reestablish token && is_epoch c.epoch 2 epoch then completes_again way at epoch t c a else token_of_return at from token epoch t c a))

  abbrev pub token_while_serving : CuCpScope → NodeId → Token → ℕ → CuCpTerminal → CuCpContext → Row C
  token_while_serving at from token epoch t c =
      if is_reestablish token && is_epoch c.epoch 1 epoch && same_node from (own_du at c.du) then returns way at epoch t c else unexpected_token t

  abbrev pub token_by_attempt : CuCpScope → NodeId → Token → ℕ → CuCpTerminal → CuCpContext → Option Attempt → Row C
  token_by_attempt at from token epoch t c None = token_while_serving at from token epoch t c
  token_by_attempt at from token epoch t c (Some a) = token_of_attempt at from token epoch t c a

  -- an epoch that is accepted and finished is accepted again
  abbrev pub token_on : CuCpScope → NodeId → Token → ℕ → CuCpTerminal → Option CuCpContext → Row C
  token_on at from token epoch t None = stays t (ignores NoContext ∷ [])
  token_on at from token epoch t (Some c) =
      if is_epoch c.epoch 0 epoch && c.finished then stays t (accepted_action way at c epoch ∷ []) else token_by_attempt at from token epoch t c c.attempt

  abbrev pub token_row : CuCpScope → NodeId → CuCpTerminal → Token → Row C
  token_row at from t (tokens.Complete ue epoch) = token_on at from (tokens.Complete ue epoch) epoch t t.context
  token_row at from t (tokens.Reestablish ue epoch) = token_on at from (tokens.Reestablish ue epoch) epoch t t.context
  token_row at from t token = unexpected_token t

  -- a container that is no token, or that of another terminal, is unexpected
  abbrev pub token_ue : Token → UeId
  token_ue (tokens.Command ue epoch gnb du) = ue
  token_ue (tokens.Complete ue epoch) = ue
  token_ue (tokens.Reestablish ue epoch) = ue
  token_ue (tokens.Accepted ue epoch) = ue

  abbrev pub container_row : CuCpScope → NodeId → CuCpTerminal → Option Token → Row C
  container_row at from t None = unexpected_token t
  container_row at from t (Some token) = if (token_ue token).0 == at.ue.0 then token_row at from t token else unexpected_token t

  abbrev pub no_context_first : CuCpScope → NodeId → CuCpTerminal → Option CuCpContext → Option Token → Row C
  no_context_first at from t None token = stays t (ignores NoContext ∷ [])
  no_context_first at from t (Some c) token = container_row at from t token

  unfoldable pub token_received : UeId → NodeId → C → CuCpRecord M C → Answer M P (CuCpRecord M C)
  token_received ue from container r =
      let t = terminal_of r ue in
      carry_out way ue r (no_context_first (at_of r ue) from t t.context (way.unwrap container))

  abbrev pub transferred : NodeId → Message C → CuCpRecord M C → Answer M P (CuCpRecord M C)
  transferred from (f1 (f1s.UlRrcMessageTransfer ue container)) r = token_received ue from container r
  transferred from message r = drops Unexpected r

  -- ---- a control message

  abbrev pub control_by : NodeId → Message C → CuCpRecord M C → Kind → Answer M P (CuCpRecord M C)
  control_by from message r (request ue instance) =
      on_request way r r.transactions (channel ue from) instance (λ t. asked from message (with_transactions r t))
  control_by from message r (reply ue instance) =
      on_reply way r r.transactions (channel ue from) instance (reply_received (record { 0 = ue }) (channel ue from) instance message r)
  control_by from message r (transfer ue) = transferred from message r

  unfoldable pub control_received : NodeId → Message C → CuCpRecord M C → Answer M P (CuCpRecord M C)
  control_received from message r = if shares_interface (cp_node r.gnb) from then control_by from message r (kind_of message) else drops Unexpected r

  -- ---- a tick: open requests again, or what expires; then the commands

  abbrev pub expired_on : CuCpScope → CuCpTerminal → Option CuCpContext → Row C
  expired_on at t None = stays t []
  expired_on at t (Some c) = handover_expires way at t c

  abbrev pub due_one : CuCpRecord M C → Due M → Answer M P (CuCpRecord M C)
  due_one r (repeats ch message) = puts (control ch.peer ch.ue message) r
  due_one r (expires ch) =
      let ue : UeId = record { 0 = ch.ue } in
      carry_out way ue r (expired_on (at_of r ue) (terminal_of r ue) (terminal_of r ue).context)

  abbrev pub due_each : List (Due M) → CuCpRecord M C → Answer M P (CuCpRecord M C)
  due_each [] r = nothing r
  due_each (d ∷ ds) r = due_one r d then due_each ds

  abbrev pub command_by : CuCpScope → CuCpTerminal → CuCpContext → StateName → Option Attempt → Row C
  command_by at t c states.Frozen (Some a) = command way at t c a
  command_by at t c states.Commanded (Some a) = command way at t c a
  command_by at t c state attempt = stays t []

  abbrev pub command_on : CuCpScope → CuCpTerminal → Option CuCpContext → Row C
  command_on at t None = stays t []
  command_on at t (Some c) = command_by at t c c.state c.attempt

  abbrev pub command_each : List UeId → CuCpRecord M C → Answer M P (CuCpRecord M C)
  command_each [] r = nothing r
  command_each (ue ∷ ues) r =
      carry_out way ue r (command_on (at_of r ue) (terminal_of r ue) (terminal_of r ue).context) then command_each ues

  abbrev pub ues_of : CuCpRecord M C → List UeId
  ues_of r = map (λ e. e.0) r.terminals

  unfoldable pub tick : CuCpRecord M C → Answer M P (CuCpRecord M C)
  tick r =
      due_each (due r.transactions.caller) (with_transactions r (record r.transactions { caller = after_tick r.transactions.caller }))
      then (λ s. command_each (ues_of s) s)

  -- ---- the table

  abbrev pub ordered : Order → CuCpRecord M C → Answer M P (CuCpRecord M C)
  ordered (orders.Attach plan) r = by_row plan.ue (attach way (at_of r plan.ue) plan (terminal_of r plan.ue)) r
  ordered (orders.Handover plan) r = by_row plan.ue (handover way (at_of r plan.ue) plan (terminal_of r plan.ue)) r
  ordered (orders.Cancel ue) r = by_row ue (cancel way (at_of r ue) (terminal_of r ue)) r
  ordered (orders.Release ue) r = by_row ue (release way (at_of r ue) (terminal_of r ue)) r
  ordered order r = drops Unexpected r

  unfoldable pub cu_cp_acts : CuCpRecord M C → Input C P → Answer M P (CuCpRecord M C)
  cu_cp_acts r (control_input from message) = control_received from message r
  cu_cp_acts r tick_input = tick r
  cu_cp_acts r (order_input order) = ordered order r
  cu_cp_acts r input = drops Unexpected r
