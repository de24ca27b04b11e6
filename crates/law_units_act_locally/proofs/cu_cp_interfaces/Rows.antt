-- The rows of a CU-CP: each says what it says to a node with which it shares the interface of that.
use Rattle.std.proofs.Common.{◌≡◌, ◌==◌, ℕ, ◌+◌, Bool, true, false, not, ◌&&◌, ◌||◌, List, [], ◌∷◌, ◌++◌, Option, Some, None, refl}
use Rattle.std.specs.Prelude.{if◌then◌else◌, nat_lt, nat_le}
use Rattle.std.specs.List.{AllByRecursion}
use Rattle.gnb_types.specs.declared.names.Gnb.{Gnb}
use Rattle.gnb_types.specs.declared.names.Gnb.TheVariants.{A, B}
use Rattle.gnb_types.specs.declared.names.NodeId.{NodeId}
use Rattle.gnb_types.specs.declared.names.NodeId.TheVariants.{CuCp}
use Rattle.gnb_types.specs.declared.plans.Plan.{Plan}
use Rattle.gnb_types.specs.declared.plans.Peer.{Peer}
use Rattle.gnb_types.specs.declared.plans.Tunnel.{Tunnel}
use Rattle.gnb_types.specs.declared.plans.SnStatus.{SnStatus}
use Rattle.gnb_types.specs.declared.reasons.CauseName.{CauseName}
use Rattle.message_types.specs.declared.f1.F1.TheVariants as f1s
use Rattle.message_types.specs.declared.e1.E1Message.TheVariants as e1s
use Rattle.message_types.specs.declared.xn.XnMessage.TheVariants as xns
use Rattle.message_types.specs.declared.xn.CoreMessage.TheVariants as cores
use Rattle.message_types.specs.declared.rrc.Token.{Token}
use Rattle.message_types.specs.declared.rrc.Token.TheVariants as tokens
use Rattle.unit_defs.specs.declared.StateName.{StateName}
use Rattle.unit_defs.specs.declared.StateName.TheVariants as states
use Rattle.unit_defs.specs.declared.AttemptKind.{AttemptKind}
use Rattle.unit_defs.specs.declared.AttemptKind.TheVariants as kinds
use Rattle.unit_defs.specs.Ways.{f1, e1, xn, core}
use Rattle.unit_defs.specs.Messages.{cause_name, is_same_gnb, other_gnb, statuses_of, are_bearers}
use Rattle.unit_defs.specs.CuCpRecords.{Attempt, Awaited, CuCpContext, CuCpTerminal, has_unit, last_epoch, bearers_in, same_node, answered, awaits_answer, Action, asks, cancels, replies, replies_late, sends, Row, row, row_spent}
use Rattle.unit_defs.specs.CuCpRows.{CuCpScope, own_up, own_du, name_bearers, is_between_gnbs, is_between_dus, attach_on, attach, attach_has_tunnels, attach_is_placed, attach_fails, move_begins, move_has_uplinks, move_is_placed, handover_begins, epoch_of, is_serving, handover_on, handover, handover_is_acknowledged, handover_is_declined, handover_expires, handover_is_frozen, handover_is_not_frozen, command, cancel_attempt, cancel_of, cancel_on, cancel, release_on, release, handed_over, offer_on, offer, offer_has_tunnels, offer_is_declined, offer_is_placed, takes_status, status_on, status, du_release_if, offer_cancelled, is_cancellable, xn_cancelled_of, xn_cancelled_on, xn_cancelled, xn_released_of, xn_released_on, xn_released, place_is_renewed, is_switched, let_source_go, path_is_switched, leave_old, completes, leave_old_again, completes_again, give_up_attempt, returns, arrives, arrives_again, cu_up_release, xn_cancel, du_release}
use Rattle.unit_defs.specs.CuCp.{listed, caused, in_attaching, in_moving, in_preparing, in_prepared, in_offered, in_switching, in_releasing, in_state, Answered, answers_none, answers_with, answer_of, answer_on, answer, is_complete, is_reestablish, is_epoch, is_own_command, may_return, is_too_early, is_ready, token_in_ready, token_of_return, token_of_attempt, token_by_attempt, token_on, token_row, token_ue, no_context_first}
use Rattle.run_defs.specs.Runs.{plain_way}
use Rattle.law_units_act_locally.specs.cu_cp_interfaces.Interfaces.{xn_c, Joins, IsOf}
use Rattle.law_units_act_locally.specs.cu_cp_interfaces.Ledgers.{Said}

pub apart : (g : Gnb) → is_same_gnb g (other_gnb g) ≡ false
apart A = refl
apart B = refl

abbrev pub SayOf : Gnb → Action Token → Type 0
SayOf g (asks to m deadline awaited) = IsOf (CuCp g) to m
SayOf g (cancels to m) = IsOf (CuCp g) to m
SayOf g (replies to m) = IsOf (CuCp g) to m
SayOf g (replies_late to instance m) = IsOf (CuCp g) to m
SayOf g (sends to m) = IsOf (CuCp g) to m
SayOf g what = Unit {0}

abbrev pub SaysOf : Gnb → List (Action Token) → Type 0
SaysOf g says = AllByRecursion (SayOf g) says

abbrev pub RowOf : Gnb → Row Token → Type 0
RowOf g (row says t) = SaysOf g says
RowOf g (row_spent k) = Unit {0}

module _ (at : CuCpScope) where
  abbrev Fits : Row Token → Type 0
  Fits what = RowOf at.gnb what

  -- a node of Xn
  abbrev pub Other : NodeId → Type 0
  Other from = Joins xn_c (CuCp at.gnb) from

  fits_if : (b : Bool) (x y : Row Token) → Fits x → Fits y → Fits (if b then x else y)
  fits_if true x y p q = p
  fits_if false x y p q = q

  -- ---- attach

  pub attach_of : (plan : Plan) (t : CuCpTerminal) → Fits (attach plain_way at plan t)
  unfolding attach
  attach_of plan t = by t.context
    where
      by : (o : Option CuCpContext) → Fits (attach_on plain_way at plan t o)
      by (Some c) = (tt, tt)
      by None = fits_if (not (has_unit at.units (own_up at plan.up)) || not (has_unit at.units (own_du at plan.du))) _ _ (tt, tt) (refl, tt)

  has_tunnels_of : (uplinks paths : List Tunnel) (t : CuCpTerminal) (c : CuCpContext) (a : Attempt)
      → Fits (attach_has_tunnels plain_way at uplinks paths t c a)
  unfolding attach_has_tunnels
  has_tunnels_of uplinks paths t c a = (refl, tt)

  attach_placed_of : (downlinks : List Tunnel) (t : CuCpTerminal) (c : CuCpContext) (a : Attempt)
      → Fits (attach_is_placed plain_way at downlinks t c a)
  unfolding attach_is_placed
  attach_placed_of downlinks t c a = (refl, tt)

  attach_fails_of : (cause : CauseName) (t : CuCpTerminal) → Fits (attach_fails plain_way cause t)
  unfolding attach_fails
  attach_fails_of cause t = (tt, tt)

  -- ---- between own DUs, and between gNBs at the source

  move_begins_of : (goal : Plan) (epoch : ℕ) (t : CuCpTerminal) (c : CuCpContext) → Fits (move_begins plain_way at goal epoch t c)
  unfolding move_begins
  move_begins_of goal epoch t c = (refl, tt)

  move_has_of : (uplinks : List Tunnel) (t : CuCpTerminal) (c : CuCpContext) (a : Attempt) → Fits (move_has_uplinks plain_way at uplinks t c a)
  unfolding move_has_uplinks
  move_has_of uplinks t c a = fits_if (nat_lt last_epoch a.epoch) _ _ tt (refl, tt)

  move_placed_of : (downlinks : List Tunnel) (t : CuCpTerminal) (c : CuCpContext) (a : Attempt)
      → Fits (move_is_placed plain_way downlinks t c a)
  unfolding move_is_placed
  move_placed_of downlinks t c a = tt

  handover_begins_of : (goal : Plan) (epoch : ℕ) (t : CuCpTerminal) (c : CuCpContext) → Fits (handover_begins plain_way at goal epoch t c)
  unfolding handover_begins
  handover_begins_of goal epoch t c = fits_if (nat_le last_epoch epoch) _ _ tt (apart at.gnb, tt)

  pub handover_of : (goal : Plan) (t : CuCpTerminal) → Fits (handover plain_way at goal t)
  unfolding handover
  handover_of goal t = by t.context
    where
      by : (o : Option CuCpContext) → Fits (handover_on plain_way at goal t o)
      by None = (tt, tt)
      by (Some c) =
          fits_if (is_same_gnb goal.gnb at.gnb && goal.du == c.du) _ _ (tt, tt)
          (fits_if (is_same_gnb goal.gnb at.gnb && not (goal.up == c.up)) _ _ (tt, tt)
          (fits_if (not (is_serving plain_way c.state)) _ _ (tt, tt)
          (fits_if (is_same_gnb goal.gnb at.gnb) _ _ (move_begins_of goal (epoch_of plain_way c) t c)
          (handover_begins_of goal (epoch_of plain_way c) t c))))

  acknowledged_of : (peer : Peer) (down up : List Tunnel) (t : CuCpTerminal) (c : CuCpContext) (a : Attempt)
      → Fits (handover_is_acknowledged plain_way at peer down up t c a)
  unfolding handover_is_acknowledged
  acknowledged_of peer down up t c a = (refl, tt)

  declined_of : (cause : CauseName) (t : CuCpTerminal) (c : CuCpContext) → Fits (handover_is_declined plain_way cause t c)
  unfolding handover_is_declined
  declined_of cause t c = (tt, tt)

  pub expires_of : (t : CuCpTerminal) (c : CuCpContext) → Fits (handover_expires plain_way at t c)
  unfolding handover_expires
  expires_of t c = (apart at.gnb, (tt, tt))

  frozen_of : (statuses : List SnStatus) (t : CuCpTerminal) (c : CuCpContext) (a : Attempt)
      → Fits (handover_is_frozen plain_way at statuses t c a)
  unfolding handover_is_frozen
  frozen_of statuses t c a = (apart at.gnb, tt)

  not_frozen_of : (cause : CauseName) (t : CuCpTerminal) (c : CuCpContext) → Fits (handover_is_not_frozen plain_way at cause t c)
  unfolding handover_is_not_frozen
  not_frozen_of cause t c = (apart at.gnb, (tt, tt))

  pub command_of : (t : CuCpTerminal) (c : CuCpContext) (a : Attempt) → Fits (command plain_way at t c a)
  unfolding command
  command_of t c a = (refl, tt)

  -- ---- cancel and release

  cancel_by : (t : CuCpTerminal) (c : CuCpContext) (state : StateName) (kind : AttemptKind) (a : Attempt)
      → Fits (cancel_attempt plain_way at t c state kind a)
  cancel_by t c states.Preparing kinds.BetweenGnbs a = (apart at.gnb, tt)
  cancel_by t c states.Preparing kinds.BetweenDus a = (tt, tt)
  cancel_by t c states.Prepared kind a = (tt, tt)
  cancel_by t c states.Frozen kinds.BetweenDus a = (refl, tt)
  cancel_by t c states.Frozen kind a = (apart at.gnb, (refl, tt))
  cancel_by t c states.Commanded kinds.BetweenDus a = (tt, tt)
  cancel_by t c states.Commanded kinds.BetweenGnbs a = (tt, tt)
  cancel_by t c state kind a = (tt, tt)

  pub cancel_is_of : (t : CuCpTerminal) → Fits (cancel plain_way at t)
  unfolding cancel
  cancel_is_of t = by t.context
    where
      of_attempt : (c : CuCpContext) (o : Option Attempt) → Fits (cancel_of plain_way at t c o)
      of_attempt c None = (tt, tt)
      of_attempt c (Some a) = cancel_by t c c.state a.kind a

      by : (o : Option CuCpContext) → Fits (cancel_on plain_way at t o)
      by None = (tt, tt)
      by (Some c) = of_attempt c c.attempt

  pub release_of : (t : CuCpTerminal) → Fits (release plain_way at t)
  unfolding release
  release_of t = by t.context
    where
      by : (o : Option CuCpContext) → Fits (release_on plain_way at t o)
      by None = (tt, tt)
      by (Some c) = fits_if (is_serving plain_way c.state) _ _ (refl, (refl, tt)) (tt, tt)

  -- ---- requests of the other CU-CP

  module _ (from : NodeId) (other : Other from) where
    handed_of : (instance : ℕ) (t : CuCpTerminal) (c : CuCpContext) (a : Attempt) → Fits (handed_over plain_way at from instance t c a)
    unfolding handed_over
    handed_of instance t c a = (other, (refl, (refl, tt)))

    pub xn_released_is_of : (instance : ℕ) (t : CuCpTerminal) → Fits (xn_released plain_way at from instance t)
    unfolding xn_released
    xn_released_is_of instance t = by t.context
      where
        in_state_of : (c : CuCpContext) (state : StateName) (o : Option Attempt)
            → Fits (xn_released_of plain_way at from instance t c state o)
        in_state_of c states.Commanded (Some a) = fits_if (is_between_gnbs a.kind) _ _ (handed_of instance t c a) (tt, tt)
        in_state_of c state o = (tt, tt)

        by : (o : Option CuCpContext) → Fits (xn_released_on plain_way at from instance t o)
        by None = (tt, tt)
        by (Some c) = in_state_of c c.state c.attempt

    pub offer_of : (instance : ℕ) (new : CuCpContext) (t : CuCpTerminal) → Fits (offer plain_way at from instance new t)
    unfolding offer
    offer_of instance new t = by t.context
      where
        by : (o : Option CuCpContext) → Fits (offer_on plain_way at from instance new t o)
        by (Some c) = (other, tt)
        by None = fits_if (has_unit at.units (own_up at new.up) && has_unit at.units (own_du at new.du)) _ _ (refl, tt) (other, tt)

    pub status_of : (instance : ℕ) (statuses : List SnStatus) (t : CuCpTerminal) → Fits (status plain_way at from instance statuses t)
    unfolding status
    status_of instance statuses t = by t.context
      where
        by : (o : Option CuCpContext) → Fits (status_on plain_way at from instance statuses t o)
        by None = (tt, tt)
        by (Some c) =
            fits_if (takes_status plain_way c && are_bearers (bearers_in c) (statuses_of statuses)) _ _ (other, (refl, tt)) (tt, tt)

    cancelled_says : (instance : ℕ) (t : CuCpTerminal) (c : CuCpContext) (a : Attempt) → Fits (offer_cancelled plain_way at from instance t c a)
    cancelled_says instance t c a = (tt, (other, rest a.du_begun))
      where
        rest : (b : Bool) → SaysOf at.gnb (du_release_if plain_way at c b ++ cu_up_release plain_way at c.up true false ∷ [])
        rest true = (refl, (refl, tt))
        rest false = (refl, tt)

    pub xn_cancelled_is_of : (instance : ℕ) (t : CuCpTerminal) → Fits (xn_cancelled plain_way at from instance t)
    unfolding xn_cancelled
    xn_cancelled_is_of instance t = by t.context
      where
        of_attempt : (c : CuCpContext) (o : Option Attempt) → Fits (xn_cancelled_of plain_way at from instance t c o)
        of_attempt c None = (other, tt)
        of_attempt c (Some a) = fits_if (is_cancellable plain_way c.state) _ _ (cancelled_says instance t c a) (other, tt)

        by : (o : Option CuCpContext) → Fits (xn_cancelled_on plain_way at from instance t o)
        by None = (other, tt)
        by (Some c) = of_attempt c c.attempt

  -- ---- at the target

  offer_has_of : (uplinks paths down up : List Tunnel) (t : CuCpTerminal) (c : CuCpContext) (a : Attempt)
      → Fits (offer_has_tunnels plain_way at uplinks paths down up t c a)
  unfolding offer_has_tunnels
  offer_has_of uplinks paths down up t c a = (refl, tt)

  offer_declined_of : (cause : ℕ) (t : CuCpTerminal) (a : Attempt) → Fits (offer_is_declined plain_way at cause t a)
  unfolding offer_is_declined
  offer_declined_of cause t a = (apart at.gnb, tt)

  offer_placed_of : (downlinks : List Tunnel) (t : CuCpTerminal) (c : CuCpContext) (a : Attempt)
      → Fits (offer_is_placed plain_way at downlinks t c a)
  unfolding offer_is_placed
  offer_placed_of downlinks t c a = (apart at.gnb, tt)

  -- ---- after an arrival or a return

  renewed_of : (downlinks : List Tunnel) (t : CuCpTerminal) (c : CuCpContext) (a : Attempt)
      → Fits (place_is_renewed plain_way at downlinks t c a)
  unfolding place_is_renewed
  renewed_of downlinks t c a = (refl, tt)

  switched_of : (t : CuCpTerminal) (c : CuCpContext) (a : Attempt) → Fits (is_switched plain_way at t c a)
  unfolding is_switched
  switched_of t c a = (refl, tt)

  path_of : (t : CuCpTerminal) (c : CuCpContext) (a : Attempt) → Fits (path_is_switched plain_way at t c a)
  unfolding path_is_switched
  path_of t c a = by c.state
    where
      by : (state : StateName) → SaysOf at.gnb (let_source_go plain_way at state)
      by states.Arrived = (apart at.gnb, tt)
      by state = tt

  -- ---- tokens

  completes_of : (epoch : ℕ) (t : CuCpTerminal) (c : CuCpContext) (a : Attempt) → Fits (completes plain_way at epoch t c a)
  unfolding completes
  completes_of epoch t c a = (refl, by a.kind)
    where
      by : (kind : AttemptKind)
          → SaysOf at.gnb (leave_old plain_way at c (record c { du = a.du; epoch = Some epoch; finished = false }) a kind)
      by kinds.Attach = (tt, tt)
      by kind = (refl, tt)

  completes_again_of : (epoch : ℕ) (t : CuCpTerminal) (c : CuCpContext) (a : Attempt) → Fits (completes_again plain_way at epoch t c a)
  unfolding completes_again
  completes_again_of epoch t c a = by a.kind
    where
      by : (kind : AttemptKind) → SaysOf at.gnb (leave_old_again plain_way at c (record c { du = a.du }) a kind epoch)
      by kinds.Attach = (refl, (tt, tt))
      by kind = (refl, (refl, tt))

  returns_of : (epoch : ℕ) (t : CuCpTerminal) (c : CuCpContext) → Fits (returns plain_way at epoch t c)
  unfolding returns
  returns_of epoch t c = (refl, by c.attempt)
    where
      of_kind : (a : Attempt) (b : Bool)
          → SaysOf at.gnb (if b then du_release plain_way at a.du false ∷ [] else xn_cancel plain_way at ∷ [])
      of_kind a true = (refl, tt)
      of_kind a false = (apart at.gnb, tt)

      by : (o : Option Attempt) → SaysOf at.gnb (give_up_attempt plain_way at o)
      by None = tt
      by (Some a) = of_kind a (is_between_dus a.kind)

  arrives_of : (epoch : ℕ) (t : CuCpTerminal) (c : CuCpContext) (a : Attempt) → Fits (arrives plain_way at epoch t c a)
  unfolding arrives
  arrives_of epoch t c a = (refl, (tt, tt))

  arrives_again_of : (epoch : ℕ) (t : CuCpTerminal) (c : CuCpContext) (a : Attempt) → Fits (arrives_again plain_way at epoch t c a)
  unfolding arrives_again
  arrives_again_of epoch t c a = (refl, (tt, tt))

  module _ (from : NodeId) (token : Token) (epoch : ℕ) (t : CuCpTerminal) where
    ready_of : (c : CuCpContext) (a : Attempt) → Fits (token_in_ready plain_way at from token epoch t c a)
    ready_of c a =
        fits_if (not (is_ready plain_way c.state && same_node from (own_du at c.du))) _ _ (tt, tt)
        (fits_if (is_complete plain_way token && a.epoch == epoch) _ _ (arrives_of epoch t c a)
        (fits_if (is_reestablish plain_way token && a.epoch + 1 == epoch) _ _ (arrives_again_of epoch t c a) (tt, tt)))

    return_of : (c : CuCpContext) (a : Attempt) → Fits (token_of_return plain_way at from token epoch t c a)
    return_of c a =
        fits_if (is_reestablish plain_way token && is_epoch plain_way c.epoch 1 epoch && same_node from (own_du at c.du)) _ _
        (fits_if (may_return plain_way c.state a.kind) _ _ (returns_of epoch t c)
        (fits_if (is_too_early plain_way c.state a.kind) _ _ (tt, tt) (ready_of c a))) (ready_of c a)

    attempt_of : (c : CuCpContext) (a : Attempt) → Fits (token_of_attempt plain_way at from token epoch t c a)
    attempt_of c a =
        fits_if (not (is_own_command plain_way c.state a.kind && same_node from (own_du at a.du))) _ _ (return_of c a)
        (fits_if (is_complete plain_way token && is_epoch plain_way c.epoch 1 epoch) _ _ (completes_of epoch t c a)
        (fits_if (is_reestablish plain_way token && is_epoch plain_way c.epoch 2 epoch) _ _ (completes_again_of epoch t c a)
        (return_of c a)))

    by_attempt_of : (c : CuCpContext) (o : Option Attempt) → Fits (token_by_attempt plain_way at from token epoch t c o)
    by_attempt_of c None =
        fits_if (is_reestablish plain_way token && is_epoch plain_way c.epoch 1 epoch && same_node from (own_du at c.du)) _ _
        (returns_of epoch t c) (tt, tt)
    by_attempt_of c (Some a) = attempt_of c a

    on_of : (o : Option CuCpContext) → Fits (token_on plain_way at from token epoch t o)
    on_of None = (tt, tt)
    on_of (Some c) = fits_if (is_epoch plain_way c.epoch 0 epoch && c.finished) _ _ (refl, tt) (by_attempt_of c c.attempt)

  token_of : (from : NodeId) (t : CuCpTerminal) (token : Token) → Fits (token_row plain_way at from t token)
  token_of from t (tokens.Complete ue epoch) = on_of from (tokens.Complete ue epoch) epoch t t.context
  token_of from t (tokens.Reestablish ue epoch) = on_of from (tokens.Reestablish ue epoch) epoch t t.context
  token_of from t token = (tt, tt)

  pub container_of : (from : NodeId) (t : CuCpTerminal) (c : Option CuCpContext) (token : Option Token)
      → Fits (no_context_first plain_way at from t c token)
  container_of from t None token = (tt, tt)
  container_of from t (Some c) None = (tt, tt)
  container_of from t (Some c) (Some token) = fits_if ((token_ue plain_way token).0 == at.ue.0) _ _ (token_of from t token) (tt, tt)

  -- ---- awaited answers

  abbrev FitsIf : Option (Row Token) → Type 0
  FitsIf None = Unit {0}
  FitsIf (Some what) = Fits what

  listed_of : (b : Bool) (x : Row Token) → Fits x → FitsIf (listed plain_way b x)
  listed_of true x p = p
  listed_of false x p = tt

  caused_of : (o : Option CauseName) (f : CauseName → Row Token) → ((name : CauseName) → Fits (f name)) → FitsIf (caused plain_way o f)
  caused_of None f p = tt
  caused_of (Some name) f p = p name

  module _ (t : CuCpTerminal) (c : CuCpContext) (a : Attempt) where
    attaching_of : (m : Said) → FitsIf (in_attaching plain_way at m t c a)
    attaching_of (e1 (e1s.BearerContextSetupResponse ue instance uplinks paths down up)) =
        listed_of (name_bearers c uplinks && name_bearers c paths) _ (has_tunnels_of uplinks paths t c a)
    attaching_of (e1 (e1s.BearerContextSetupFailure ue instance cause)) =
        caused_of (cause_name cause) (λ name. attach_fails plain_way name t) (λ name. attach_fails_of name t)
    attaching_of (f1 (f1s.UeContextSetupResponse ue instance downlinks)) =
        listed_of (name_bearers c downlinks) _ (attach_placed_of downlinks t c a)
    attaching_of m = tt

    moving_of : (m : Said) → FitsIf (in_moving plain_way at m t c a)
    moving_of (e1 (e1s.BearerContextModificationResponse ue instance (Some uplinks) statuses)) =
        listed_of (name_bearers c uplinks) _ (move_has_of uplinks t c a)
    moving_of (e1 (e1s.BearerContextModificationResponse ue instance None statuses)) = tt
    moving_of (f1 (f1s.UeContextSetupResponse ue instance downlinks)) =
        listed_of (name_bearers c downlinks) _ (move_placed_of downlinks t c a)
    moving_of m = tt

    preparing_of : (m : Said) → FitsIf (in_preparing plain_way at m t c a)
    preparing_of (xn (xns.HandoverRequestAcknowledge ue instance peer down up)) =
        listed_of (name_bearers c down && name_bearers c up) _ (acknowledged_of peer down up t c a)
    preparing_of (xn (xns.HandoverPreparationFailure ue instance cause)) =
        caused_of (cause_name cause) (λ name. handover_is_declined plain_way name t c) (λ name. declined_of name t c)
    preparing_of m = tt

    prepared_of : (m : Said) → FitsIf (in_prepared plain_way at m t c a)
    prepared_of (e1 (e1s.BearerContextModificationResponse ue instance uplinks (Some statuses))) =
        listed_of (are_bearers (bearers_in c) (statuses_of statuses)) _ (frozen_of statuses t c a)
    prepared_of (e1 (e1s.BearerContextModificationResponse ue instance uplinks None)) = tt
    prepared_of (e1 (e1s.BearerContextModificationFailure ue instance cause)) =
        caused_of (cause_name cause) (λ name. handover_is_not_frozen plain_way at name t c) (λ name. not_frozen_of name t c)
    prepared_of m = tt

    offered_of : (m : Said) → FitsIf (in_offered plain_way at m t c a)
    offered_of (e1 (e1s.BearerContextSetupResponse ue instance uplinks paths (Some down) (Some up))) =
        listed_of (name_bearers c uplinks && name_bearers c paths && name_bearers c down && name_bearers c up) _
        (offer_has_of uplinks paths down up t c a)
    offered_of (e1 (e1s.BearerContextSetupResponse ue instance uplinks paths down up)) = tt
    offered_of (e1 (e1s.BearerContextSetupFailure ue instance cause)) =
        caused_of (cause_name cause) (λ name. offer_is_declined plain_way at cause t a) (λ name. offer_declined_of cause t a)
    offered_of (f1 (f1s.UeContextSetupResponse ue instance downlinks)) =
        listed_of (name_bearers c downlinks) _ (offer_placed_of downlinks t c a)
    offered_of m = tt

    switching_of : (m : Said) → FitsIf (in_switching plain_way at m t c a)
    switching_of (f1 (f1s.UeContextModificationResponse ue instance downlinks)) =
        listed_of (name_bearers c downlinks) _ (renewed_of downlinks t c a)
    switching_of (e1 (e1s.BearerContextModificationResponse ue instance uplinks statuses)) = switched_of t c a
    switching_of (core (cores.PathSwitchAcknowledge ue instance)) = path_of t c a
    switching_of m = tt

    releasing_of : (ws : List Awaited) → Fits (in_releasing plain_way t c a ws)
    releasing_of [] = tt
    releasing_of (w ∷ ws) = tt

    if_of : (b : Bool) (x y : Option (Row Token)) → FitsIf x → FitsIf y → FitsIf (if b then x else y)
    if_of true x y p q = p
    if_of false x y p q = q

    state_of : (m : Said) (state : StateName) → FitsIf (in_state plain_way at m t c state a)
    state_of m states.Attaching = attaching_of m
    state_of m states.Preparing = if_of (is_between_dus a.kind) _ _ (moving_of m) (preparing_of m)
    state_of m states.Prepared = prepared_of m
    state_of m states.Offered = offered_of m
    state_of m states.Returning = switching_of m
    state_of m states.Arrived = switching_of m
    state_of m states.Completing = if_of (is_between_gnbs a.kind) _ _ (releasing_of a.awaits) (switching_of m)
    state_of m state = tt

  abbrev pub AnsweredOf : Answered plain_way → Type 0
  AnsweredOf answers_none = Unit {0}
  AnsweredOf (answers_with o) = FitsIf o

  pub answer_is_of : (from : NodeId) (instance : ℕ) (m : Said) (t : CuCpTerminal) → AnsweredOf (answer plain_way at from instance m t)
  unfolding answer
  answer_is_of from instance m t = by t.context
    where
      awaited : (c : CuCpContext) (a : Attempt) (b : Bool)
          → AnsweredOf (if b then answers_with (in_state plain_way at m t c c.state (answered a from)) else answers_none)
      awaited c a true = state_of t c (answered a from) m c.state
      awaited c a false = tt

      of_attempt : (c : CuCpContext) (o : Option Attempt) → AnsweredOf (answer_of plain_way at from instance m t c o)
      of_attempt c None = tt
      of_attempt c (Some a) = awaited c a (awaits_answer a from instance)

      by : (o : Option CuCpContext) → AnsweredOf (answer_on plain_way at from instance m t o)
      by None = tt
      by (Some c) = of_attempt c c.attempt
