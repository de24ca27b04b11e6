-- What the rows of a CU-CP say: none but those of an order refuses anything.
use Rattle.std.proofs.Common.{ℕ, Bool, true, false, not, ◌&&◌, ◌||◌, List, [], ◌∷◌, ◌++◌, Option, Some, None}
use Rattle.std.specs.Prelude.{if◌then◌else◌, nat_lt, nat_le}
use Rattle.std.specs.List.{AllByRecursion}
use Rattle.gnb_types.specs.declared.names.NodeId.{NodeId}
use Rattle.gnb_types.specs.declared.plans.Plan.{Plan}
use Rattle.gnb_types.specs.declared.plans.Peer.{Peer}
use Rattle.gnb_types.specs.declared.plans.Tunnel.{Tunnel}
use Rattle.gnb_types.specs.declared.plans.SnStatus.{SnStatus}
use Rattle.gnb_types.specs.declared.reasons.CauseName.{CauseName}
use Rattle.unit_defs.specs.declared.StateName.{StateName}
use Rattle.unit_defs.specs.declared.StateName.TheVariants as states
use Rattle.unit_defs.specs.declared.AttemptKind.{AttemptKind}
use Rattle.unit_defs.specs.declared.AttemptKind.TheVariants as kinds
use Rattle.unit_defs.specs.Ways.{Way}
use Rattle.unit_defs.specs.Messages.{are_bearers, statuses_of}
use Rattle.unit_defs.specs.CuCpRecords.{Attempt, CuCpContext, CuCpTerminal, has_unit, last_epoch, bearers_in, Action, refuses, Row, row, row_spent}
use Rattle.unit_defs.specs.CuCpRows.{CuCpScope, own_up, own_du, is_between_gnbs, is_between_dus, attach_has_tunnels, attach_is_placed, attach_fails, move_begins, move_has_uplinks, move_is_placed, handover_begins, handover_is_acknowledged, handover_is_declined, handover_expires, handover_is_frozen, handover_is_not_frozen, command, handed_over, offer_on, offer, offer_has_tunnels, offer_is_declined, offer_is_placed, takes_status, status_on, status, du_release_if, offer_cancelled, cu_up_release, du_release, xn_cancel, is_cancellable, xn_cancelled_of, xn_cancelled_on, xn_cancelled, xn_released_of, xn_released_on, xn_released, place_is_renewed, is_switched, let_source_go, path_is_switched, leave_old, completes, leave_old_again, completes_again, give_up_attempt, returns, arrives, arrives_again}

abbrev pub IsSaid : {C : Type 0} → Action C → Type 0
IsSaid (refuses reason) = ⊥
IsSaid say = Unit {0}

abbrev pub RowSays : {C : Type 0} → Row C → Type 0
RowSays (row says after) = AllByRecursion IsSaid says
RowSays (row_spent counter) = Unit {0}

module _ {M C P : Type 0} (way : Way M C P) where
  pub row_if : (t : Bool) (x y : Row C) → RowSays x → RowSays y → RowSays (if t then x else y)
  row_if true x y p q = p
  row_if false x y p q = q

  -- ---- attach, and moves between own DUs

  pub attach_has_says : (at : CuCpScope) (uplinks paths : List Tunnel) (t : CuCpTerminal) (c : CuCpContext) (a : Attempt) → RowSays (attach_has_tunnels way at uplinks paths t c a)
  unfolding attach_has_tunnels
  attach_has_says at uplinks paths t c a = (tt, tt)

  pub attach_placed_says : (at : CuCpScope) (downlinks : List Tunnel) (t : CuCpTerminal) (c : CuCpContext) (a : Attempt) → RowSays (attach_is_placed way at downlinks t c a)
  unfolding attach_is_placed
  attach_placed_says at downlinks t c a = (tt, tt)

  pub attach_fails_says : (cause : CauseName) (t : CuCpTerminal) → RowSays (attach_fails way cause t)
  unfolding attach_fails
  attach_fails_says cause t = (tt, tt)

  pub move_begins_says : (at : CuCpScope) (goal : Plan) (epoch : ℕ) (t : CuCpTerminal) (c : CuCpContext) → RowSays (move_begins way at goal epoch t c)
  unfolding move_begins
  move_begins_says at goal epoch t c = (tt, tt)

  pub move_has_says : (at : CuCpScope) (uplinks : List Tunnel) (t : CuCpTerminal) (c : CuCpContext) (a : Attempt) → RowSays (move_has_uplinks way at uplinks t c a)
  unfolding move_has_uplinks
  move_has_says at uplinks t c a = row_if (nat_lt last_epoch a.epoch) (row_spent _) _ tt (tt, tt)

  pub move_placed_says : (downlinks : List Tunnel) (t : CuCpTerminal) (c : CuCpContext) (a : Attempt) → RowSays (move_is_placed way downlinks t c a)
  unfolding move_is_placed
  move_placed_says downlinks t c a = tt

  -- ---- handover, at the source

  pub handover_begins_says : (at : CuCpScope) (goal : Plan) (epoch : ℕ) (t : CuCpTerminal) (c : CuCpContext) → RowSays (handover_begins way at goal epoch t c)
  unfolding handover_begins
  handover_begins_says at goal epoch t c = row_if (nat_le last_epoch epoch) (row_spent _) _ tt (tt, tt)

  pub acknowledged_says : (at : CuCpScope) (peer : Peer) (down up : List Tunnel) (t : CuCpTerminal) (c : CuCpContext) (a : Attempt)
      → RowSays (handover_is_acknowledged way at peer down up t c a)
  unfolding handover_is_acknowledged
  acknowledged_says at peer down up t c a = (tt, tt)

  pub declined_says : (cause : CauseName) (t : CuCpTerminal) (c : CuCpContext) → RowSays (handover_is_declined way cause t c)
  unfolding handover_is_declined
  declined_says cause t c = (tt, tt)

  pub expires_says : (at : CuCpScope) (t : CuCpTerminal) (c : CuCpContext) → RowSays (handover_expires way at t c)
  unfolding handover_expires
  expires_says at t c = (tt, (tt, tt))

  pub frozen_says : (at : CuCpScope) (statuses : List SnStatus) (t : CuCpTerminal) (c : CuCpContext) (a : Attempt) → RowSays (handover_is_frozen way at statuses t c a)
  unfolding handover_is_frozen
  frozen_says at statuses t c a = (tt, tt)

  pub not_frozen_says : (at : CuCpScope) (cause : CauseName) (t : CuCpTerminal) (c : CuCpContext) → RowSays (handover_is_not_frozen way at cause t c)
  unfolding handover_is_not_frozen
  not_frozen_says at cause t c = (tt, (tt, tt))

  pub command_says : (at : CuCpScope) (t : CuCpTerminal) (c : CuCpContext) (a : Attempt) → RowSays (command way at t c a)
  unfolding command
  command_says at t c a = (tt, tt)

  -- ---- handover, at the target

  pub offer_says : (at : CuCpScope) (from : NodeId) (instance : ℕ) (new : CuCpContext) (t : CuCpTerminal) → RowSays (offer way at from instance new t)
  unfolding offer
  offer_says at from instance new t = by t.context
    where
      by : (c : Option CuCpContext) → RowSays (offer_on way at from instance new t c)
      by (Some c) = (tt, tt)
      by None = row_if (has_unit at.units (own_up at new.up) && has_unit at.units (own_du at new.du)) _ _ (tt, tt) (tt, tt)

  pub offer_has_says : (at : CuCpScope) (uplinks paths down up : List Tunnel) (t : CuCpTerminal) (c : CuCpContext) (a : Attempt)
      → RowSays (offer_has_tunnels way at uplinks paths down up t c a)
  unfolding offer_has_tunnels
  offer_has_says at uplinks paths down up t c a = (tt, tt)

  pub offer_declined_says : (at : CuCpScope) (cause : ℕ) (t : CuCpTerminal) (a : Attempt) → RowSays (offer_is_declined way at cause t a)
  unfolding offer_is_declined
  offer_declined_says at cause t a = (tt, tt)

  pub offer_placed_says : (at : CuCpScope) (downlinks : List Tunnel) (t : CuCpTerminal) (c : CuCpContext) (a : Attempt) → RowSays (offer_is_placed way at downlinks t c a)
  unfolding offer_is_placed
  offer_placed_says at downlinks t c a = (tt, tt)

  pub status_says : (at : CuCpScope) (from : NodeId) (instance : ℕ) (statuses : List SnStatus) (t : CuCpTerminal) → RowSays (status way at from instance statuses t)
  unfolding status
  status_says at from instance statuses t = by t.context
    where
      by : (c : Option CuCpContext) → RowSays (status_on way at from instance statuses t c)
      by None = (tt, tt)
      by (Some c) = row_if (takes_status way c && are_bearers (bearers_in c) (statuses_of statuses)) _ _ (tt, (tt, tt)) (tt, tt)

  cancelled_says : (at : CuCpScope) (from : NodeId) (instance : ℕ) (t : CuCpTerminal) (c : CuCpContext) (a : Attempt) → RowSays (offer_cancelled way at from instance t c a)
  cancelled_says at from instance t c a = (tt, (tt, by a.du_begun))
    where
      by : (b : Bool) → AllByRecursion IsSaid (du_release_if way at c b ++ cu_up_release way at c.up true false ∷ [])
      by true = (tt, (tt, tt))
      by false = (tt, tt)

  pub xn_cancelled_says : (at : CuCpScope) (from : NodeId) (instance : ℕ) (t : CuCpTerminal) → RowSays (xn_cancelled way at from instance t)
  unfolding xn_cancelled
  xn_cancelled_says at from instance t = by t.context
    where
      of_attempt : (c : CuCpContext) (a : Option Attempt) → RowSays (xn_cancelled_of way at from instance t c a)
      of_attempt c None = (tt, tt)
      of_attempt c (Some a) = row_if (is_cancellable way c.state) (offer_cancelled way at from instance t c a) _ (cancelled_says at from instance t c a) (tt, tt)

      by : (c : Option CuCpContext) → RowSays (xn_cancelled_on way at from instance t c)
      by None = (tt, tt)
      by (Some c) = of_attempt c c.attempt

  -- ---- the source lets go

  handed_over_says : (at : CuCpScope) (from : NodeId) (instance : ℕ) (t : CuCpTerminal) (c : CuCpContext) (a : Attempt) → RowSays (handed_over way at from instance t c a)
  unfolding handed_over
  handed_over_says at from instance t c a = (tt, (tt, (tt, tt)))

  pub xn_released_says : (at : CuCpScope) (from : NodeId) (instance : ℕ) (t : CuCpTerminal) → RowSays (xn_released way at from instance t)
  unfolding xn_released
  xn_released_says at from instance t = by t.context
    where
      of_state : (c : CuCpContext) (state : StateName) (a : Option Attempt) → RowSays (xn_released_of way at from instance t c state a)
      of_state c states.Commanded (Some a) = row_if (is_between_gnbs a.kind) (handed_over way at from instance t c a) _ (handed_over_says at from instance t c a) (tt, tt)
      of_state c state a = (tt, tt)

      by : (c : Option CuCpContext) → RowSays (xn_released_on way at from instance t c)
      by None = (tt, tt)
      by (Some c) = of_state c c.state c.attempt

  -- ---- after an arrival or a return

  pub renewed_says : (at : CuCpScope) (downlinks : List Tunnel) (t : CuCpTerminal) (c : CuCpContext) (a : Attempt) → RowSays (place_is_renewed way at downlinks t c a)
  unfolding place_is_renewed
  renewed_says at downlinks t c a = (tt, tt)

  pub switched_says : (at : CuCpScope) (t : CuCpTerminal) (c : CuCpContext) (a : Attempt) → RowSays (is_switched way at t c a)
  unfolding is_switched
  switched_says at t c a = (tt, tt)

  pub path_says : (at : CuCpScope) (t : CuCpTerminal) (c : CuCpContext) (a : Attempt) → RowSays (path_is_switched way at t c a)
  unfolding path_is_switched
  path_says at t c a = by c.state
    where
      by : (s : StateName) → AllByRecursion IsSaid (let_source_go way at s)
      by states.Arrived = (tt, tt)
      by s = tt

  pub completes_says : (at : CuCpScope) (epoch : ℕ) (t : CuCpTerminal) (c : CuCpContext) (a : Attempt) → RowSays (completes way at epoch t c a)
  unfolding completes
  completes_says at epoch t c a = (tt, by a.kind)
    where
      by : (k : AttemptKind) → AllByRecursion IsSaid (leave_old way at c (record c { du = a.du; epoch = Some epoch; finished = false }) a k)
      by kinds.Attach = (tt, tt)
      by k = (tt, tt)

  pub completes_again_says : (at : CuCpScope) (epoch : ℕ) (t : CuCpTerminal) (c : CuCpContext) (a : Attempt) → RowSays (completes_again way at epoch t c a)
  unfolding completes_again
  completes_again_says at epoch t c a = by a.kind
    where
      by : (k : AttemptKind) → AllByRecursion IsSaid (leave_old_again way at c (record c { du = a.du }) a k epoch)
      by kinds.Attach = (tt, (tt, tt))
      by k = (tt, (tt, tt))

  pub returns_says : (at : CuCpScope) (epoch : ℕ) (t : CuCpTerminal) (c : CuCpContext) → RowSays (returns way at epoch t c)
  unfolding returns
  returns_says at epoch t c = (tt, by c.attempt)
    where
      one : (a : Attempt) (b : Bool) → AllByRecursion IsSaid (if b then du_release way at a.du false ∷ [] else xn_cancel way at ∷ [])
      one a true = (tt, tt)
      one a false = (tt, tt)

      by : (a : Option Attempt) → AllByRecursion IsSaid (give_up_attempt way at a)
      by None = tt
      by (Some a) = one a (is_between_dus a.kind)

  pub arrives_says : (at : CuCpScope) (epoch : ℕ) (t : CuCpTerminal) (c : CuCpContext) (a : Attempt) → RowSays (arrives way at epoch t c a)
  unfolding arrives
  arrives_says at epoch t c a = (tt, (tt, tt))

  pub arrives_again_says : (at : CuCpScope) (epoch : ℕ) (t : CuCpTerminal) (c : CuCpContext) (a : Attempt) → RowSays (arrives_again way at epoch t c a)
  unfolding arrives_again
  arrives_again_says at epoch t c a = (tt, (tt, tt))
