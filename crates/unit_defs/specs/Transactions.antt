-- Requests and replies of a unit: which messages are which, what waits for an open request, and the rules that hold of all of
-- them (TS 38.401, 8; the class 1 procedures of F1AP, E1AP and XnAP).
use Rattle.std.specs.Prelude.{◌==◌, ℕ, Bool, true, false, not, ◌&&◌, ◌||◌, if◌then◌else◌, List, [], ◌∷◌, ◌++◌, Option, Some, None}
use Rattle.std.specs.List.{list_any}
use Rattle.gnb_types.specs.declared.keys.Channel.{Channel}
use Rattle.gnb_types.specs.declared.reasons.DropReason.TheVariants.{Stale}
use Rattle.gnb_types.specs.Orders.{channel_cmp}
use Rattle.tables.specs.Tables.{put, without, at}
use Rattle.transaction_defs.specs.Callers.{Caller, Begin, begun, running, spent as begins_no_more, no_requests, begin, is_open, is_awaited, keep_request, close, rests}
use Rattle.transaction_defs.specs.Callees.{Callee, Verdict, new, again, stale, verdict, taken, keep, keep_for, kept_reply}
use Rattle.message_types.specs.declared.f1.F1.TheVariants as f1s
use Rattle.message_types.specs.declared.e1.E1Message.TheVariants as e1s
use Rattle.message_types.specs.declared.xn.XnMessage.TheVariants as xns
use Rattle.message_types.specs.declared.xn.CoreMessage.TheVariants as cores
use Rattle.unit_defs.specs.Ways.{Message, f1, e1, xn, core, rrc, control, Way, Answer, spent, nothing, puts, drops, instances_spent}

-- ---- what a message is: a request or a reply, with its terminal (0: none) and instance; or neither

pub data Kind : Type 0 where
  request : (ue instance : ℕ) → Kind
  reply : (ue instance : ℕ) → Kind
  transfer : (ue : ℕ) → Kind

unfoldable pub kind_of : {C : Type 0} → Message C → Kind
kind_of (f1 (f1s.F1SetupRequest instance name)) = request 0 instance
kind_of (f1 (f1s.F1SetupResponse instance)) = reply 0 instance
kind_of (f1 (f1s.UeContextSetupRequest ue instance epoch uplinks sn peer)) = request ue.0 instance
kind_of (f1 (f1s.UeContextSetupResponse ue instance downlinks)) = reply ue.0 instance
kind_of (f1 (f1s.UeContextModificationRequest ue instance epoch)) = request ue.0 instance
kind_of (f1 (f1s.UeContextModificationResponse ue instance downlinks)) = reply ue.0 instance
kind_of (f1 (f1s.UeContextReleaseCommand ue instance)) = request ue.0 instance
kind_of (f1 (f1s.UeContextReleaseComplete ue instance)) = reply ue.0 instance
kind_of (f1 (f1s.DlRrcMessageTransfer ue container)) = transfer ue.0
kind_of (f1 (f1s.UlRrcMessageTransfer ue container)) = transfer ue.0
kind_of (e1 (e1s.E1SetupRequest instance name)) = request 0 instance
kind_of (e1 (e1s.E1SetupResponse instance)) = reply 0 instance
kind_of (e1 (e1s.BearerContextSetupRequest ue instance bearers sn quota forward)) = request ue.0 instance
kind_of (e1 (e1s.BearerContextSetupResponse ue instance uplinks n3 down up)) = reply ue.0 instance
kind_of (e1 (e1s.BearerContextSetupFailure ue instance cause)) = reply ue.0 instance
kind_of (e1 (e1s.BearerContextModificationRequest ue instance downlinks mode peer down up statuses du)) = request ue.0 instance
kind_of (e1 (e1s.BearerContextModificationResponse ue instance uplinks statuses)) = reply ue.0 instance
kind_of (e1 (e1s.BearerContextModificationFailure ue instance cause)) = reply ue.0 instance
kind_of (e1 (e1s.BearerContextReleaseCommand ue instance is_final)) = request ue.0 instance
kind_of (e1 (e1s.BearerContextReleaseComplete ue instance)) = reply ue.0 instance
kind_of (xn (xns.HandoverRequest ue instance epoch bearers sn quota peer du origin)) = request ue.0 instance
kind_of (xn (xns.HandoverRequestAcknowledge ue instance peer down up)) = reply ue.0 instance
kind_of (xn (xns.HandoverPreparationFailure ue instance cause)) = reply ue.0 instance
kind_of (xn (xns.SnStatusTransfer ue instance statuses)) = request ue.0 instance
kind_of (xn (xns.HandoverCancel ue instance)) = request ue.0 instance
kind_of (xn (xns.UeContextRelease ue instance)) = request ue.0 instance
kind_of (xn (xns.TransportConfirm ue instance)) = reply ue.0 instance
kind_of (core (cores.PathSwitchRequest ue instance peer n3)) = request ue.0 instance
kind_of (core (cores.PathSwitchAcknowledge ue instance)) = reply ue.0 instance
kind_of (rrc token) = transfer 0

-- a request is made without an instance, and gets it when it is begun; other messages stay
unfoldable pub with_instance : {C : Type 0} → ℕ → Message C → Message C
with_instance i (f1 (f1s.F1SetupRequest instance name)) = f1 (f1s.F1SetupRequest i name)
with_instance i (f1 (f1s.UeContextSetupRequest ue instance epoch uplinks sn peer)) = f1 (f1s.UeContextSetupRequest ue i epoch uplinks sn peer)
with_instance i (f1 (f1s.UeContextModificationRequest ue instance epoch)) = f1 (f1s.UeContextModificationRequest ue i epoch)
with_instance i (f1 (f1s.UeContextReleaseCommand ue instance)) = f1 (f1s.UeContextReleaseCommand ue i)
with_instance i (e1 (e1s.E1SetupRequest instance name)) = e1 (e1s.E1SetupRequest i name)
with_instance i (e1 (e1s.BearerContextSetupRequest ue instance bearers sn quota forward)) = e1 (e1s.BearerContextSetupRequest ue i bearers sn quota forward)
with_instance i (e1 (e1s.BearerContextModificationRequest ue instance downlinks mode peer down up statuses du)) = e1 (e1s.BearerContextModificationRequest ue i downlinks mode peer down up statuses du)
with_instance i (e1 (e1s.BearerContextReleaseCommand ue instance is_final)) = e1 (e1s.BearerContextReleaseCommand ue i is_final)
with_instance i (xn (xns.HandoverRequest ue instance epoch bearers sn quota peer du origin)) = xn (xns.HandoverRequest ue i epoch bearers sn quota peer du origin)
with_instance i (xn (xns.SnStatusTransfer ue instance statuses)) = xn (xns.SnStatusTransfer ue i statuses)
with_instance i (xn (xns.HandoverCancel ue instance)) = xn (xns.HandoverCancel ue i)
with_instance i (xn (xns.UeContextRelease ue instance)) = xn (xns.UeContextRelease ue i)
with_instance i (core (cores.PathSwitchRequest ue instance peer n3)) = core (cores.PathSwitchRequest ue i peer n3)
with_instance i message = message

-- the instance of a request that has none yet
abbrev pub no_instance : ℕ
no_instance = 0

-- ---- what a unit keeps of its requests and replies

-- a request that waits, its deadline in ticks from when it is put, and whether an attempt awaits its answer
pub record Waiting (C : Type 0) : Type 0 where
  pub message : Message C
  pub deadline : Option ℕ
  pub awaited : Bool

pub record Transactions (M C : Type 0) : Type 0 where
  pub caller : Caller M
  pub waiting : List (Channel × List (Waiting C))
  pub callee : Callee M

abbrev pub no_transactions : {M C : Type 0} → Transactions M C
no_transactions = record { caller = no_requests; waiting = []; callee = [] }

-- after a request was asked for: the instance that it got, where it was begun and an attempt awaits its answer
pub record Asked (M C : Type 0) : Type 0 where
  pub transactions : Transactions M C
  pub awaited : Option ℕ

abbrev pub is_empty : {X : Type 0} → List X → Bool
is_empty [] = true
is_empty (x ∷ xs) = false

unfoldable pub waits_at : {M C : Type 0} → Transactions M C → Channel → List (Waiting C)
waits_at t c = at channel_cmp [] t.waiting c

abbrev pub waiting_then : {C : Type 0} → List (Channel × List (Waiting C)) → Channel → List (Waiting C) → List (Channel × List (Waiting C))
waiting_then table c [] = without channel_cmp table c
waiting_then table c (w ∷ ws) = put channel_cmp table c (w ∷ ws)

unfoldable pub with_waiting : {M C : Type 0} → Transactions M C → Channel → List (Waiting C) → Transactions M C
with_waiting t c ws = record t { waiting = waiting_then t.waiting c ws }

-- no request of the terminal is open or waits
unfoldable pub terminal_rests : {M C : Type 0} → Transactions M C → ℕ → Bool
terminal_rests t ue = rests t.caller ue && not (list_any (λ e. e.0.ue == ue) t.waiting)

module _ {M C P : Type 0} (way : Way M C P) where
  -- ---- requests

  abbrev pub awaited_as : Bool → ℕ → Option ℕ
  awaited_as b instance = if b then Some instance else None

  abbrev pub begun_as : Transactions M C → Channel → Waiting C → Begin M → Answer M P (Asked M C)
  begun_as t c w (begun instance after) =
      let message = way.encode (with_instance instance w.message) in
      puts (control c.peer c.ue message)
      (record { transactions = record t { caller = keep_request after c message }; awaited = awaited_as w.awaited instance })
  begun_as t c w running = nothing (record { transactions = t; awaited = None })
  begun_as t c w begins_no_more = spent instances_spent

  -- it is put, with the next instance
  unfoldable pub begin_request : Transactions M C → Channel → Waiting C → Answer M P (Asked M C)
  begin_request t c w = begun_as t c w (begin t.caller c w.deadline)

  -- it waits while one is open for the same peer and terminal, or while others wait
  unfoldable pub ask : Transactions M C → Channel → Waiting C → Answer M P (Asked M C)
  ask t c w =
      if is_open t.caller c || not (is_empty (waits_at t c))
      then nothing (record { transactions = with_waiting t c (waits_at t c ++ w ∷ []); awaited = None })
      else begin_request t c w

  -- what waits longest is put, where none is open any more
  abbrev pub advance_with : Transactions M C → Channel → List (Waiting C) → Answer M P (Asked M C)
  advance_with t c [] = nothing (record { transactions = t; awaited = None })
  advance_with t c (w ∷ ws) = begin_request (with_waiting t c ws) c w

  unfoldable pub advance : Transactions M C → Channel → Answer M P (Asked M C)
  advance t c = if is_open t.caller c then nothing (record { transactions = t; awaited = None }) else advance_with t c (waits_at t c)

  -- it goes before all else: what is open is closed, and what waits is given up
  unfoldable pub ask_at_once : Transactions M C → Channel → Waiting C → Answer M P (Asked M C)
  ask_at_once t c w = begin_request (with_waiting (record t { caller = close t.caller c }) c []) c w

  -- ---- replies to others

  unfoldable pub replied : Transactions M C → Channel → Message C → Answer M P (Transactions M C)
  replied t c message =
      puts (control c.peer c.ue (way.encode message)) (record t { callee = keep t.callee c (way.encode message) })

  -- a reply that comes later than the step that took its request
  unfoldable pub replied_late : Transactions M C → Channel → ℕ → Message C → Answer M P (Transactions M C)
  replied_late t c instance message =
      puts (control c.peer c.ue (way.encode message)) (record t { callee = keep_for t.callee c instance (way.encode message) })

  -- A request is acted on once: where its instance is new the row is made, of what is kept then. The newest one is answered
  -- again with its reply, if one is kept; a lower one is stale.
  abbrev pub answered_again : {R : Type 0} → R → Channel → Option M → Answer M P R
  answered_again same c None = nothing same
  answered_again same c (Some kept) = puts (control c.peer c.ue kept) same

  abbrev pub request_by : {R : Type 0} → R → Transactions M C → Channel → ℕ → (Transactions M C → Answer M P R) → Verdict → Answer M P R
  request_by same t c instance row new = row (record t { callee = taken t.callee c instance })
  request_by same t c instance row again = answered_again same c (kept_reply t.callee c)
  request_by same t c instance row stale = drops Stale same

  unfoldable pub on_request : {R : Type 0} → R → Transactions M C → Channel → ℕ → (Transactions M C → Answer M P R) → Answer M P R
  on_request same t c instance row = request_by same t c instance row (verdict t.callee c instance)

  -- a reply that isn't awaited is stale
  unfoldable pub on_reply : {R : Type 0} → R → Transactions M C → Channel → ℕ → Answer M P R → Answer M P R
  on_reply same t c instance row = if is_awaited t.caller c instance then row else drops Stale same
