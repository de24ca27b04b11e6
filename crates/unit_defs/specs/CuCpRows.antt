-- The rows of a CU-CP, by procedure (TS 38.401, 8.9; TS 38.473; TS 37.483; TS 38.423). Each row is told of one terminal.
use Rattle.std.specs.Prelude.{◌==◌, ℕ, ◌+◌, Bool, true, false, not, ◌&&◌, ◌||◌, nat_lt, nat_le, if◌then◌else◌, List, [], ◌∷◌, ◌++◌, Option, Some, None, max}
use Rattle.gnb_types.specs.declared.names.Gnb.{Gnb}
use Rattle.gnb_types.specs.declared.names.NodeId.{NodeId}
use Rattle.gnb_types.specs.declared.names.NodeId.TheVariants.{CuCp, CuUp, Du, Core}
use Rattle.gnb_types.specs.declared.names.UeId.{UeId}
use Rattle.gnb_types.specs.declared.plans.Plan.{Plan}
use Rattle.gnb_types.specs.declared.plans.Peer.{Peer}
use Rattle.gnb_types.specs.declared.plans.Tunnel.{Tunnel}
use Rattle.gnb_types.specs.declared.plans.SnStatus.{SnStatus}
use Rattle.gnb_types.specs.declared.names.SnBits.{SnBits}
use Rattle.gnb_types.specs.declared.reasons.DropReason.TheVariants.{NoContext, Unexpected}
use Rattle.gnb_types.specs.declared.reasons.CauseName.{CauseName}
use Rattle.gnb_types.specs.declared.reasons.CauseName.TheVariants.{Timeout}
use Rattle.gnb_types.specs.declared.reasons.RefuseReason.TheVariants.{Attached, NotStarted, Same, NotAllowed, Busy, Empty, TooLate}
use Rattle.message_types.specs.declared.f1.F1.TheVariants as f1s
use Rattle.message_types.specs.declared.e1.E1Message.TheVariants as e1s
use Rattle.message_types.specs.declared.xn.XnMessage.TheVariants as xns
use Rattle.message_types.specs.declared.xn.CoreMessage.TheVariants as cores
use Rattle.message_types.specs.declared.rrc.Token.{Token}
use Rattle.message_types.specs.declared.rrc.Token.TheVariants as tokens
use Rattle.unit_defs.specs.declared.StateName.{StateName}
use Rattle.unit_defs.specs.declared.StateName.TheVariants as states
use Rattle.unit_defs.specs.declared.AttemptKind.{AttemptKind}
use Rattle.unit_defs.specs.declared.AttemptKind.TheVariants as kinds
use Rattle.unit_defs.specs.Ways.{f1, e1, xn, core, Way, epochs_spent}
use Rattle.unit_defs.specs.Transactions.{no_instance}
use Rattle.unit_defs.specs.Messages.{cause_busy, cause_unit, mode_uplinks, mode_switch, mode_freeze, mode_status, mode_resume, is_same_gnb, other_gnb, bearers_of, statuses_of, are_bearers}
use Rattle.unit_defs.specs.CuCpRecords.{Attempt, CuCpContext, CuCpTerminal, attempted, serving, has_unit, last_epoch, bearers_in, Action, asks, cancels, replies, replies_late, sends, fails, ignores, refuses, forgets, Row, row, row_spent, stays, keeps, gives_up}

-- who acts, and for which terminal
pub record CuCpScope : Type 0 where
  pub gnb : Gnb
  pub ue : UeId
  pub units : List NodeId

-- a new attempt, of which nothing is known yet
abbrev pub new_attempt : AttemptKind → ℕ → ℕ → ℕ → Attempt
new_attempt kind epoch up du = record {
  kind = kind;
  epoch = epoch;
  up = up;
  du = du;
  n3 = [];
  downlinks = [];
  forward_down = [];
  forward_up = [];
  instance = 0;
  du_begun = false;
  switched = false;
  path_open = false;
  awaits = [];
}

abbrev pub other_cu_cp : CuCpScope → NodeId
other_cu_cp at = CuCp (other_gnb at.gnb)

abbrev pub own_up : CuCpScope → ℕ → NodeId
own_up at up = CuUp at.gnb up

abbrev pub own_du : CuCpScope → ℕ → NodeId
own_du at du = Du at.gnb du

abbrev pub own_peer : CuCpScope → ℕ → Peer
own_peer at up = record { gnb = at.gnb; up = up }

-- the lists of a message name the bearers of the context
abbrev pub name_bearers : CuCpContext → List Tunnel → Bool
name_bearers c tunnels = are_bearers (bearers_in c) (bearers_of tunnels)

abbrev pub is_between_gnbs : AttemptKind → Bool
is_between_gnbs kinds.BetweenGnbs = true
is_between_gnbs kind = false

abbrev pub is_between_dus : AttemptKind → Bool
is_between_dus kinds.BetweenDus = true
is_between_dus kind = false

module _ {M C P : Type 0} (way : Way M C P) where
  -- ---- what is said in more than one row

  abbrev pub bearer_setup : CuCpScope → CuCpContext → Bool → Action C
  bearer_setup at c forward =
      asks (own_up at c.up) (e1 (e1s.BearerContextSetupRequest at.ue no_instance c.bearers c.sn c.quota forward)) None true

  abbrev pub du_setup : CuCpScope → CuCpContext → ℕ → ℕ → List Tunnel → Action C
  du_setup at c du epoch uplinks =
      asks (own_du at du) (f1 (f1s.UeContextSetupRequest at.ue no_instance epoch uplinks c.sn (own_peer at c.up))) None true

  abbrev pub du_modify : CuCpScope → ℕ → ℕ → Action C
  du_modify at du epoch = asks (own_du at du) (f1 (f1s.UeContextModificationRequest at.ue no_instance epoch)) None true

  abbrev pub du_release : CuCpScope → ℕ → Bool → Action C
  du_release at du awaited = asks (own_du at du) (f1 (f1s.UeContextReleaseCommand at.ue no_instance)) None awaited

  abbrev pub cu_up_release : CuCpScope → ℕ → Bool → Bool → Action C
  cu_up_release at up is_final awaited = asks (own_up at up) (e1 (e1s.BearerContextReleaseCommand at.ue no_instance is_final)) None awaited

  abbrev pub uplinks_action : CuCpScope → CuCpContext → Action C
  uplinks_action at c =
      asks (own_up at c.up) (e1 (e1s.BearerContextModificationRequest at.ue no_instance None mode_uplinks None None None None None)) None true

  abbrev pub switch_action : CuCpScope → CuCpContext → List Tunnel → Action C
  switch_action at c downlinks =
      asks (own_up at c.up) (e1 (e1s.BearerContextModificationRequest at.ue no_instance (Some downlinks) mode_switch None None None None (Some c.du))) None true

  abbrev pub freeze_action : CuCpScope → CuCpContext → Peer → List Tunnel → List Tunnel → Action C
  freeze_action at c peer down up =
      asks (own_up at c.up) (e1 (e1s.BearerContextModificationRequest at.ue no_instance None mode_freeze (Some peer) (Some down) (Some up) None None)) None true

  abbrev pub status_action : CuCpScope → CuCpContext → List SnStatus → Action C
  status_action at c statuses =
      asks (own_up at c.up) (e1 (e1s.BearerContextModificationRequest at.ue no_instance None mode_status None None None (Some statuses) None)) None false

  abbrev pub resume_action : CuCpScope → CuCpContext → Action C
  resume_action at c =
      asks (own_up at c.up) (e1 (e1s.BearerContextModificationRequest at.ue no_instance None mode_resume None None None None None)) None false

  abbrev pub xn_cancel : CuCpScope → Action C
  xn_cancel at = cancels (other_cu_cp at) (xn (xns.HandoverCancel at.ue no_instance))

  abbrev pub path_switch : CuCpScope → CuCpContext → Attempt → Action C
  path_switch at c a = asks Core (core (cores.PathSwitchRequest at.ue no_instance (own_peer at c.up) a.n3)) None true

  -- a token for the terminal, by way of its serving DU
  abbrev pub token_action : CuCpScope → CuCpContext → Token → Action C
  token_action at c token = sends (own_du at c.du) (f1 (f1s.DlRrcMessageTransfer at.ue (way.wrap token)))

  abbrev pub target_gnb : CuCpScope → AttemptKind → Gnb
  target_gnb at kinds.BetweenGnbs = other_gnb at.gnb
  target_gnb at kind = at.gnb

  abbrev pub command_action : CuCpScope → CuCpContext → Attempt → Action C
  command_action at c a = token_action at c (tokens.Command at.ue a.epoch (target_gnb at a.kind) a.du)

  abbrev pub accepted_action : CuCpScope → CuCpContext → ℕ → Action C
  accepted_action at c epoch = token_action at c (tokens.Accepted at.ue epoch)

  -- ---- attach (TS 38.401, 8.1)

  abbrev pub attach_context : Plan → CuCpContext
  attach_context plan = record {
    state = states.Attaching;
    epoch = Some 0;
    finished = false;
    up = plan.up;
    du = plan.du;
    sn = plan.sn;
    bearers = plan.bearers;
    quota = plan.quota;
    by_xn = false;
    attempt = Some (new_attempt kinds.Attach 1 plan.up plan.du);
  }

  abbrev pub attach_begins : CuCpScope → Plan → CuCpTerminal → Row C
  attach_begins at plan t =
      if not (has_unit at.units (own_up at plan.up)) || not (has_unit at.units (own_du at plan.du)) then stays t (refuses NotStarted ∷ []) else
      keeps t (bearer_setup at (attach_context plan) false ∷ []) (attach_context plan)

  abbrev pub attach_on : CuCpScope → Plan → CuCpTerminal → Option CuCpContext → Row C
  attach_on at plan t None = attach_begins at plan t
  attach_on at plan t (Some c) = stays t (refuses Attached ∷ [])

  unfoldable pub attach : CuCpScope → Plan → CuCpTerminal → Row C
  attach at plan t = attach_on at plan t t.context

  -- its tunnels are there: the DU gets the context of epoch 1
  unfoldable pub attach_has_tunnels : CuCpScope → List Tunnel → List Tunnel → CuCpTerminal → CuCpContext → Attempt → Row C
  attach_has_tunnels at uplinks n3 t c a =
      keeps t (du_setup at c c.du 1 uplinks ∷ []) (attempted c states.Attaching (record a { n3 = n3 }))

  -- the DU is ready: the command
  unfoldable pub attach_is_placed : CuCpScope → List Tunnel → CuCpTerminal → CuCpContext → Attempt → Row C
  attach_is_placed at downlinks t c a =
      let b : Attempt = record a { downlinks = downlinks } in
      keeps t (command_action at c b ∷ []) (attempted c states.Commanded b)

  unfoldable pub attach_fails : CauseName → CuCpTerminal → Row C
  attach_fails cause t = gives_up t (fails cause ∷ [])

  -- ---- handover between own DUs (TS 38.401, 8.2.1)

  unfoldable pub move_begins : CuCpScope → Plan → ℕ → CuCpTerminal → CuCpContext → Row C
  move_begins at goal epoch t c =
      keeps t (uplinks_action at c ∷ []) (attempted c states.Preparing (new_attempt kinds.BetweenDus (epoch + 1) c.up goal.du))

  unfoldable pub move_has_uplinks : CuCpScope → List Tunnel → CuCpTerminal → CuCpContext → Attempt → Row C
  move_has_uplinks at uplinks t c a =
      if nat_lt last_epoch a.epoch then row_spent epochs_spent else
      keeps t (du_setup at c a.du a.epoch uplinks ∷ []) (attempted c states.Preparing a)

  -- nothing was frozen, but the next step is the same
  unfoldable pub move_is_placed : List Tunnel → CuCpTerminal → CuCpContext → Attempt → Row C
  move_is_placed downlinks t c a = keeps t [] (attempted c states.Frozen (record a { downlinks = downlinks }))

  -- ---- handover between gNBs, at the source (TS 38.423, 8.2; TS 38.300, 9.2.3.2)

  -- ticks from the request until it is given up
  abbrev pub preparation_ticks : ℕ
  preparation_ticks = 8

  abbrev pub handover_request : CuCpScope → Plan → CuCpContext → ℕ → Action C
  handover_request at goal c epoch =
      asks (other_cu_cp at) (xn (xns.HandoverRequest at.ue no_instance epoch c.bearers c.sn c.quota (record { gnb = goal.gnb; up = goal.up }) goal.du None))
      (Some preparation_ticks) true

  unfoldable pub handover_begins : CuCpScope → Plan → ℕ → CuCpTerminal → CuCpContext → Row C
  handover_begins at goal epoch t c =
      if nat_le last_epoch epoch then row_spent epochs_spent else
      keeps t (handover_request at goal c (epoch + 1) ∷ []) (attempted c states.Preparing (new_attempt kinds.BetweenGnbs (epoch + 1) goal.up goal.du))

  -- an order: to another DU of the own gNB with the same CU-UP, or to the other gNB, of a terminal that is served
  abbrev pub epoch_in : Option ℕ → ℕ
  epoch_in None = 0
  epoch_in (Some epoch) = epoch

  abbrev pub epoch_of : CuCpContext → ℕ
  epoch_of c = epoch_in c.epoch

  abbrev pub is_serving : StateName → Bool
  is_serving states.Serving = true
  is_serving state = false

  abbrev pub handover_on : CuCpScope → Plan → CuCpTerminal → Option CuCpContext → Row C
  handover_on at goal t None = stays t (refuses Busy ∷ [])
  handover_on at goal t (Some c) =
      if is_same_gnb goal.gnb at.gnb && goal.du == c.du then stays t (refuses Same ∷ []) else
      (if is_same_gnb goal.gnb at.gnb && not (goal.up == c.up) then stays t (refuses NotAllowed ∷ []) else
      (if not (is_serving c.state) then stays t (refuses Busy ∷ []) else
      (if is_same_gnb goal.gnb at.gnb then move_begins at goal (epoch_of c) t c else handover_begins at goal (epoch_of c) t c)))

  unfoldable pub handover : CuCpScope → Plan → CuCpTerminal → Row C
  handover at goal t = handover_on at goal t t.context

  -- the target is ready: what is here is frozen, and goes there
  unfoldable pub handover_is_acknowledged : CuCpScope → Peer → List Tunnel → List Tunnel → CuCpTerminal → CuCpContext → Attempt → Row C
  handover_is_acknowledged at peer down up t c a = keeps t (freeze_action at c peer down up ∷ []) (attempted c states.Prepared a)

  unfoldable pub handover_is_declined : CauseName → CuCpTerminal → CuCpContext → Row C
  handover_is_declined cause t c = keeps t (fails cause ∷ []) (serving c)

  unfoldable pub handover_expires : CuCpScope → CuCpTerminal → CuCpContext → Row C
  handover_expires at t c = keeps t (xn_cancel at ∷ fails Timeout ∷ []) (serving c)

  -- it is frozen: the SN status
  unfoldable pub handover_is_frozen : CuCpScope → List SnStatus → CuCpTerminal → CuCpContext → Attempt → Row C
  handover_is_frozen at statuses t c a =
      keeps t (asks (other_cu_cp at) (xn (xns.SnStatusTransfer at.ue no_instance statuses)) None false ∷ []) (attempted c states.Frozen a)

  unfoldable pub handover_is_not_frozen : CuCpScope → CauseName → CuCpTerminal → CuCpContext → Row C
  handover_is_not_frozen at cause t c = keeps t (xn_cancel at ∷ fails cause ∷ []) (serving c)

  -- ---- the command, at the tick after all is ready, and again at each tick

  unfoldable pub command : CuCpScope → CuCpTerminal → CuCpContext → Attempt → Row C
  command at t c a = keeps t (command_action at c a ∷ []) (attempted c states.Commanded a)

  -- ---- cancel, at the source (TS 38.423, 8.2.3)

  abbrev pub cancel_attempt : CuCpScope → CuCpTerminal → CuCpContext → StateName → AttemptKind → Attempt → Row C
  cancel_attempt at t c states.Preparing kinds.BetweenGnbs a = keeps t (xn_cancel at ∷ []) (serving c)
  cancel_attempt at t c states.Preparing kinds.BetweenDus a = stays t (refuses Busy ∷ [])
  cancel_attempt at t c states.Prepared kind a = stays t (refuses Busy ∷ [])
  cancel_attempt at t c states.Frozen kinds.BetweenDus a = keeps t (du_release at a.du false ∷ []) (serving c)
  cancel_attempt at t c states.Frozen kind a = keeps t (xn_cancel at ∷ resume_action at c ∷ []) (serving c)
  cancel_attempt at t c states.Commanded kinds.BetweenDus a = stays t (refuses TooLate ∷ [])
  cancel_attempt at t c states.Commanded kinds.BetweenGnbs a = stays t (refuses TooLate ∷ [])
  cancel_attempt at t c state kind a = stays t (refuses Empty ∷ [])

  abbrev pub cancel_of : CuCpScope → CuCpTerminal → CuCpContext → Option Attempt → Row C
  cancel_of at t c None = stays t (refuses Empty ∷ [])
  cancel_of at t c (Some a) = cancel_attempt at t c c.state a.kind a

  abbrev pub cancel_on : CuCpScope → CuCpTerminal → Option CuCpContext → Row C
  cancel_on at t None = stays t (refuses Empty ∷ [])
  cancel_on at t (Some c) = cancel_of at t c c.attempt

  unfoldable pub cancel : CuCpScope → CuCpTerminal → Row C
  cancel at t = cancel_on at t t.context

  -- ---- release (TS 38.401, 8.6)

  abbrev pub release_on : CuCpScope → CuCpTerminal → Option CuCpContext → Row C
  release_on at t None = stays t (refuses Busy ∷ [])
  release_on at t (Some c) =
      if is_serving c.state then gives_up t (du_release at c.du false ∷ cu_up_release at c.up true false ∷ []) else stays t (refuses Busy ∷ [])

  unfoldable pub release : CuCpScope → CuCpTerminal → Row C
  release at t = release_on at t t.context

  -- ---- the source lets go: the target has the terminal (TS 38.423, 8.2.7)

  unfoldable pub handed_over : CuCpScope → NodeId → ℕ → CuCpTerminal → CuCpContext → Attempt → Row C
  handed_over at from instance t c a =
      keeps t (replies from (xn (xns.TransportConfirm at.ue instance)) ∷ du_release at c.du true ∷ cu_up_release at c.up false true ∷ [])
      (attempted c states.Completing a)

  -- ---- handover between gNBs, at the target

  abbrev pub offer_context : ℕ → ℕ → ℕ → ℕ → SnBits → ℕ → ℕ → CuCpContext
  offer_context up du instance bearers sn quota epoch = record {
    state = states.Offered;
    epoch = None;
    finished = false;
    up = up;
    du = du;
    sn = sn;
    bearers = bearers;
    quota = quota;
    by_xn = true;
    attempt = Some (record (new_attempt kinds.Offer epoch up du) { instance = instance });
  }

  abbrev pub refuse_offer : CuCpScope → NodeId → ℕ → ℕ → Action C
  refuse_offer at from instance cause = replies from (xn (xns.HandoverPreparationFailure at.ue instance cause))

  abbrev pub offer_on : CuCpScope → NodeId → ℕ → CuCpContext → CuCpTerminal → Option CuCpContext → Row C
  offer_on at from instance new t (Some c) = stays t (refuse_offer at from instance cause_busy ∷ [])
  offer_on at from instance new t None =
      if has_unit at.units (own_up at new.up) && has_unit at.units (own_du at new.du)
      then keeps t (bearer_setup at new true ∷ []) new
      else stays t (refuse_offer at from instance cause_unit ∷ [])

  unfoldable pub offer : CuCpScope → NodeId → ℕ → CuCpContext → CuCpTerminal → Row C
  offer at from instance new t = offer_on at from instance new t t.context

  unfoldable pub offer_has_tunnels : CuCpScope → List Tunnel → List Tunnel → List Tunnel → List Tunnel → CuCpTerminal → CuCpContext → Attempt → Row C
  offer_has_tunnels at uplinks n3 down up t c a =
      keeps t (du_setup at c c.du a.epoch uplinks ∷ [])
      (attempted c states.Offered (record a { n3 = n3; forward_down = down; forward_up = up; du_begun = true }))

  unfoldable pub offer_is_declined : CuCpScope → ℕ → CuCpTerminal → Attempt → Row C
  offer_is_declined at cause t a =
      gives_up t (replies_late (other_cu_cp at) a.instance (xn (xns.HandoverPreparationFailure at.ue a.instance cause)) ∷ [])

  unfoldable pub offer_is_placed : CuCpScope → List Tunnel → CuCpTerminal → CuCpContext → Attempt → Row C
  offer_is_placed at downlinks t c a =
      keeps t (replies_late (other_cu_cp at) a.instance
      (xn (xns.HandoverRequestAcknowledge at.ue a.instance (own_peer at c.up) a.forward_down a.forward_up)) ∷ [])
      (attempted c states.Ready (record a { downlinks = downlinks }))

  -- the SN status: to the CU-UP of a target that is ready, or later
  abbrev pub is_offered : StateName → Bool
  is_offered states.Offered = true
  is_offered state = false

  abbrev pub takes_status : CuCpContext → Bool
  takes_status c = c.by_xn && not (is_offered c.state)

  abbrev pub status_on : CuCpScope → NodeId → ℕ → List SnStatus → CuCpTerminal → Option CuCpContext → Row C
  status_on at from instance statuses t None = stays t (ignores NoContext ∷ [])
  status_on at from instance statuses t (Some c) =
      if takes_status c && are_bearers (bearers_in c) (statuses_of statuses)
      then stays t (replies from (xn (xns.TransportConfirm at.ue instance)) ∷ status_action at c statuses ∷ [])
      else stays t (ignores Unexpected ∷ [])

  unfoldable pub status : CuCpScope → NodeId → ℕ → List SnStatus → CuCpTerminal → Row C
  status at from instance statuses t = status_on at from instance statuses t t.context

  -- a cancel: the units that were begun are released; to any other state it is only confirmed
  abbrev pub du_release_if : CuCpScope → CuCpContext → Bool → List (Action C)
  du_release_if at c b = if b then du_release at c.du false ∷ [] else []

  abbrev pub offer_cancelled : CuCpScope → NodeId → ℕ → CuCpTerminal → CuCpContext → Attempt → Row C
  offer_cancelled at from instance t c a =
      gives_up t (forgets ∷ replies from (xn (xns.TransportConfirm at.ue instance)) ∷ [] ++ du_release_if at c a.du_begun ++ cu_up_release at c.up true false ∷ [])

  abbrev pub is_cancellable : StateName → Bool
  is_cancellable states.Offered = true
  is_cancellable states.Ready = true
  is_cancellable state = false

  abbrev pub xn_cancelled_of : CuCpScope → NodeId → ℕ → CuCpTerminal → CuCpContext → Option Attempt → Row C
  xn_cancelled_of at from instance t c None = stays t (replies from (xn (xns.TransportConfirm at.ue instance)) ∷ [])
  xn_cancelled_of at from instance t c (Some a) =
      if is_cancellable c.state then offer_cancelled at from instance t c a
      else stays t (replies from (xn (xns.TransportConfirm at.ue instance)) ∷ [])

  abbrev pub xn_cancelled_on : CuCpScope → NodeId → ℕ → CuCpTerminal → Option CuCpContext → Row C
  xn_cancelled_on at from instance t None = stays t (replies from (xn (xns.TransportConfirm at.ue instance)) ∷ [])
  xn_cancelled_on at from instance t (Some c) = xn_cancelled_of at from instance t c c.attempt

  unfoldable pub xn_cancelled : CuCpScope → NodeId → ℕ → CuCpTerminal → Row C
  xn_cancelled at from instance t = xn_cancelled_on at from instance t t.context

  -- ---- the source is told to release

  abbrev pub xn_released_of : CuCpScope → NodeId → ℕ → CuCpTerminal → CuCpContext → StateName → Option Attempt → Row C
  xn_released_of at from instance t c states.Commanded (Some a) =
      if is_between_gnbs a.kind then handed_over at from instance t c a else stays t (ignores Unexpected ∷ [])
  xn_released_of at from instance t c state attempt = stays t (ignores Unexpected ∷ [])

  abbrev pub xn_released_on : CuCpScope → NodeId → ℕ → CuCpTerminal → Option CuCpContext → Row C
  xn_released_on at from instance t None = stays t (ignores NoContext ∷ [])
  xn_released_on at from instance t (Some c) = xn_released_of at from instance t c c.state c.attempt

  unfoldable pub xn_released : CuCpScope → NodeId → ℕ → CuCpTerminal → Row C
  xn_released at from instance t = xn_released_on at from instance t t.context

  -- ---- after an arrival or a return: the switch, the acceptance and the path switch

  -- the DU has new downlinks: the switch
  unfoldable pub place_is_renewed : CuCpScope → List Tunnel → CuCpTerminal → CuCpContext → Attempt → Row C
  place_is_renewed at downlinks t c a = keeps t (switch_action at c downlinks ∷ []) (attempted c c.state a)

  -- it is over where the bearers were switched and no path switch is open
  abbrev pub completed : CuCpContext → Attempt → CuCpContext
  completed c a = if a.switched && not a.path_open then serving c else attempted c c.state a

  unfoldable pub is_switched : CuCpScope → CuCpTerminal → CuCpContext → Attempt → Row C
  is_switched at t c a =
      keeps t (accepted_action at c a.epoch ∷ []) (completed (record c { epoch = Some a.epoch; finished = true }) (record a { switched = true }))

  abbrev pub let_source_go : CuCpScope → StateName → List (Action C)
  let_source_go at states.Arrived = asks (other_cu_cp at) (xn (xns.UeContextRelease at.ue no_instance)) None false ∷ []
  let_source_go at state = []

  unfoldable pub path_is_switched : CuCpScope → CuCpTerminal → CuCpContext → Attempt → Row C
  path_is_switched at t c a = keeps t (let_source_go at c.state) (completed c (record a { path_open = false }))

  -- ---- tokens of a terminal (TS 38.331, 5.3.5, 5.3.7)

  -- the greatest epoch of a token that was taken
  abbrev pub greatest : Option ℕ → ℕ → Option ℕ
  greatest None epoch = Some epoch
  greatest (Some taken) epoch = Some (max taken epoch)

  abbrev pub took : CuCpTerminal → ℕ → List (Action C) → CuCpContext → Row C
  took t epoch actions c = row actions (record { context = Some c; taken = greatest t.taken epoch })

  -- arrival at the target of a move or an attach: the bearers are switched, and the old DU lets go
  abbrev pub leave_old : CuCpScope → CuCpContext → CuCpContext → Attempt → AttemptKind → List (Action C)
  leave_old at old c a kinds.Attach = path_switch at c a ∷ []
  leave_old at old c a kind = du_release at old.du false ∷ []

  abbrev pub opens_path : AttemptKind → Bool
  opens_path kinds.Attach = true
  opens_path kind = false

  unfoldable pub completes : CuCpScope → ℕ → CuCpTerminal → CuCpContext → Attempt → Row C
  completes at epoch t c a =
      let there : CuCpContext = record c { du = a.du; epoch = Some epoch; finished = false } in
      took t epoch (switch_action at there a.downlinks ∷ leave_old at c there a a.kind)
      (attempted there states.Completing (record a { path_open = opens_path a.kind }))

  -- it arrived there, and lost its radio before that was known
  abbrev pub leave_old_again : CuCpScope → CuCpContext → CuCpContext → Attempt → AttemptKind → ℕ → List (Action C)
  leave_old_again at old c a kinds.Attach epoch = du_modify at c.du epoch ∷ path_switch at c a ∷ []
  leave_old_again at old c a kind epoch = du_release at old.du false ∷ du_modify at c.du epoch ∷ []

  unfoldable pub completes_again : CuCpScope → ℕ → CuCpTerminal → CuCpContext → Attempt → Row C
  completes_again at epoch t c a =
      let there : CuCpContext = record c { du = a.du } in
      took t epoch (leave_old_again at c there a a.kind epoch)
      (attempted there states.Returning (record a { epoch = epoch; path_open = opens_path a.kind }))

  -- it is back at its DU: what was under way is given up
  abbrev pub give_up_attempt : CuCpScope → Option Attempt → List (Action C)
  give_up_attempt at None = []
  give_up_attempt at (Some a) = if is_between_dus a.kind then du_release at a.du false ∷ [] else xn_cancel at ∷ []

  unfoldable pub returns : CuCpScope → ℕ → CuCpTerminal → CuCpContext → Row C
  returns at epoch t c =
      took t epoch (du_modify at c.du epoch ∷ give_up_attempt at c.attempt)
      (attempted c states.Returning (new_attempt kinds.Return epoch c.up c.du))

  -- arrival at a target of the other gNB
  unfoldable pub arrives : CuCpScope → ℕ → CuCpTerminal → CuCpContext → Attempt → Row C
  arrives at epoch t c a =
      took t epoch (switch_action at c a.downlinks ∷ path_switch at c a ∷ []) (attempted c states.Arrived (record a { path_open = true }))

  unfoldable pub arrives_again : CuCpScope → ℕ → CuCpTerminal → CuCpContext → Attempt → Row C
  arrives_again at epoch t c a =
      took t epoch (du_modify at c.du epoch ∷ path_switch at c a ∷ []) (attempted c states.Arrived (record a { epoch = epoch; path_open = true }))
