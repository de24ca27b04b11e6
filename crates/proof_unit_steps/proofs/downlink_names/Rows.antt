-- The rows of a CU-CP: none but the first of what a row says switches bearers, to tunnels that the terminal's attempt knew; and then the
-- attempt may not say so again.
use Rattle.std.proofs.Common.{◌≡◌, ◌==◌, ℕ, Bool, true, false, ◌⊎◌, inl, inr, not, ◌&&◌, ◌||◌, List, [], ◌∷◌, ◌++◌, Option, Some, None, refl, sym, ◌∙◌}
use Rattle.std.specs.Prelude.{if◌then◌else◌, nat_lt, nat_le}
use Rattle.std.specs.List.{AllByRecursion}
use Rattle.gnb_types.specs.declared.names.NodeId.{NodeId}
use Rattle.gnb_types.specs.declared.names.UeId.{UeId}
use Rattle.gnb_types.specs.declared.names.SnBits.{SnBits}
use Rattle.gnb_types.specs.declared.plans.Plan.{Plan}
use Rattle.gnb_types.specs.declared.plans.Peer.{Peer}
use Rattle.gnb_types.specs.declared.plans.Tunnel.{Tunnel}
use Rattle.gnb_types.specs.declared.plans.SnStatus.{SnStatus}
use Rattle.gnb_types.specs.declared.reasons.CauseName.{CauseName}
use Rattle.unit_defs.specs.declared.StateName.{StateName}
use Rattle.unit_defs.specs.declared.StateName.TheVariants as states
use Rattle.unit_defs.specs.declared.AttemptKind.{AttemptKind}
use Rattle.unit_defs.specs.declared.AttemptKind.TheVariants as kinds
use Rattle.unit_defs.specs.Ways.{Message, Way}
use Rattle.unit_defs.specs.Messages.{is_same_gnb, statuses_of, are_bearers}
use Rattle.unit_defs.specs.CuCpRecords.{Attempt, CuCpContext, CuCpTerminal, attempted, serving, has_unit, last_epoch, bearers_in, Action, asks, cancels, replies, replies_late, sends, Row, row, row_spent, keeps}
use Rattle.unit_defs.specs.CuCpRows.{CuCpScope, own_up, own_du, is_between_gnbs, is_between_dus, attach_on, attach, attach_has_tunnels, attach_is_placed, attach_fails, move_begins, move_has_uplinks, move_is_placed, handover_begins, epoch_of, is_serving, handover_on, handover, handover_is_acknowledged, handover_is_declined, handover_expires, handover_is_frozen, handover_is_not_frozen, command, cancel_attempt, cancel_of, cancel_on, cancel, release_on, release, handed_over, offer_context, offer_on, offer, offer_has_tunnels, offer_is_declined, offer_is_placed, takes_status, status_on, status, du_release_if, offer_cancelled, is_cancellable, xn_cancelled_of, xn_cancelled_on, xn_cancelled, xn_released_of, xn_released_on, xn_released, place_is_renewed, is_switched, let_source_go, path_is_switched, leave_old, completes, leave_old_again, completes_again, give_up_attempt, returns, arrives, arrives_again, cu_up_release, du_release, xn_cancel, accepted_action}
use Rattle.proof_unit_steps.specs.downlink_names.Places.{DownlinkTeid, Place, known, Gives, OnSwitch, NoSwitch}
use Rattle.proof_unit_steps.specs.downlink_names.Claims.{is_used, HeldBy}

-- an attempt that may not say so any more, wherever the TEID is
abbrev pub Settled : DownlinkTeid → UeId → Option CuCpContext → Type 0
Settled d ue c = (q : Place) → HeldBy d q ue c

not_used : (state : StateName) → is_used state ≡ true → is_used state ≡ false → ⊥
not_used state so isnt = both (sym so ∙ isnt)
  where
    both : true ≡ false → ⊥
    both e = absurd cc

module _ (d : DownlinkTeid) {C : Type 0} where
  -- what says nothing of switches
  abbrev pub SayIs : Action C → Type 0
  SayIs (asks to message deadline awaited) = NoSwitch message
  SayIs (cancels to message) = NoSwitch message
  SayIs (replies to message) = NoSwitch message
  SayIs (replies_late to instance message) = NoSwitch message
  SayIs (sends to message) = NoSwitch message
  SayIs what = Unit {0}

  abbrev pub AllPlain : List (Action C) → Type 0
  AllPlain says = AllByRecursion SayIs says

  -- a request for the terminal whose list, where it is of the DU, its attempt knew
  abbrev pub SwitchFrom : Place → UeId → Message C → Type 0
  SwitchFrom p ue message = OnSwitch (λ u i du list. (u.0 ≡ ue.0) × (du ≡ d.du → Gives d.teid p (known ue.0) list)) message

  abbrev pub Switches : Place → UeId → Action C → Type 0
  Switches p ue (asks to message deadline awaited) = SwitchFrom p ue message
  Switches p ue what = ⊥

  abbrev pub Switching : Place → UeId → List (Action C) → Option CuCpContext → Type 0
  Switching p ue [] c = ⊥
  Switching p ue (s ∷ ss) c = Switches p ue s × Settled d ue c × AllPlain ss

  abbrev pub RowIs : Place → UeId → Row C → Type 0
  RowIs p ue (row says after) = (AllPlain says × HeldBy d p ue after.context) ⊎ Switching p ue says after.context
  RowIs p ue (row_spent counter) = Unit {0}

module _ (d : DownlinkTeid) {M C P : Type 0} (way : Way M C P) (at : CuCpScope) (p : Place) where
  abbrev Fits : Row C → Type 0
  Fits what = RowIs d p at.ue what

  abbrev FitsOf : CuCpTerminal → Type 0
  FitsOf t = HeldBy d p at.ue t.context

  -- what the attempt knows, while it may still say so
  abbrev pub Knows : Attempt → Type 0
  Knows a = a.du ≡ d.du → Gives d.teid p (known at.ue.0) a.downlinks

  pub row_if : (t : Bool) (x y : Row C) → (t ≡ true → Fits x) → (t ≡ false → Fits y) → Fits (if t then x else y)
  row_if true x y h k = h refl
  row_if false x y h k = k refl

  -- ---- attach

  pub attach_is : (plan : Plan) (t : CuCpTerminal) → FitsOf t → Fits (attach way at plan t)
  unfolding attach
  attach_is plan t h = by t.context
    where
      by : (o : Option CuCpContext) → Fits (attach_on way at plan t o)
      by (Some c) = inl ((tt, tt), h)
      by None =
          row_if (not (has_unit at.units (own_up at plan.up)) || not (has_unit at.units (own_du at plan.du))) _ _ (λ e. inl ((tt, tt), h))
          (λ e. inl ((tt, tt), λ used same. tt))

  pub attach_has : (uplinks paths : List Tunnel) (t : CuCpTerminal) (c : CuCpContext) (a : Attempt) → Knows a → Fits (attach_has_tunnels way at uplinks paths t c a)
  unfolding attach_has_tunnels
  attach_has uplinks paths t c a knows = inl ((tt, tt), λ used. knows)

  pub attach_placed : (downlinks : List Tunnel) (t : CuCpTerminal) (c : CuCpContext) (a : Attempt) → Knows (record a { downlinks = downlinks })
      → Fits (attach_is_placed way at downlinks t c a)
  unfolding attach_is_placed
  attach_placed downlinks t c a knows = inl ((tt, tt), λ used. knows)

  pub attach_failed : (cause : CauseName) (t : CuCpTerminal) → Fits (attach_fails way cause t)
  unfolding attach_fails
  attach_failed cause t = inl ((tt, tt), tt)

  -- ---- between own DUs

  move_begun : (goal : Plan) (epoch : ℕ) (t : CuCpTerminal) (c : CuCpContext) → Fits (move_begins way at goal epoch t c)
  unfolding move_begins
  move_begun goal epoch t c = inl ((tt, tt), λ used same. tt)

  pub move_has : (uplinks : List Tunnel) (t : CuCpTerminal) (c : CuCpContext) (a : Attempt) → Knows a → Fits (move_has_uplinks way at uplinks t c a)
  unfolding move_has_uplinks
  move_has uplinks t c a knows = row_if (nat_lt last_epoch a.epoch) _ _ (λ e. tt) (λ e. inl ((tt, tt), λ used. knows))

  pub move_placed : (downlinks : List Tunnel) (t : CuCpTerminal) (c : CuCpContext) (a : Attempt) → Knows (record a { downlinks = downlinks })
      → Fits (move_is_placed way downlinks t c a)
  unfolding move_is_placed
  move_placed downlinks t c a knows = inl (tt, λ used. knows)

  -- ---- between gNBs, at the source

  handover_begun : (goal : Plan) (epoch : ℕ) (t : CuCpTerminal) (c : CuCpContext) → Fits (handover_begins way at goal epoch t c)
  unfolding handover_begins
  handover_begun goal epoch t c = row_if (nat_le last_epoch epoch) _ _ (λ e. tt) (λ e. inl ((tt, tt), λ used same. tt))

  pub handover_is : (goal : Plan) (t : CuCpTerminal) → FitsOf t → Fits (handover way at goal t)
  unfolding handover
  handover_is goal t h = by t.context
    where
      by : (o : Option CuCpContext) → Fits (handover_on way at goal t o)
      by None = inl ((tt, tt), h)
      by (Some c) =
          row_if (is_same_gnb goal.gnb at.gnb && goal.du == c.du) _ _ (λ e. inl ((tt, tt), h))
          (λ e. row_if (is_same_gnb goal.gnb at.gnb && not (goal.up == c.up)) _ _ (λ e. inl ((tt, tt), h))
          (λ e. row_if (not (is_serving way c.state)) _ _ (λ e. inl ((tt, tt), h))
          (λ e. row_if (is_same_gnb goal.gnb at.gnb) _ _ (λ e. move_begun goal (epoch_of way c) t c)
          (λ e. handover_begun goal (epoch_of way c) t c))))

  pub acknowledged_is : (peer : Peer) (down up : List Tunnel) (t : CuCpTerminal) (c : CuCpContext) (a : Attempt) → Knows a
      → Fits (handover_is_acknowledged way at peer down up t c a)
  unfolding handover_is_acknowledged
  acknowledged_is peer down up t c a knows = inl ((tt, tt), λ used. knows)

  pub declined_is : (cause : CauseName) (t : CuCpTerminal) (c : CuCpContext) → Fits (handover_is_declined way cause t c)
  unfolding handover_is_declined
  declined_is cause t c = inl ((tt, tt), tt)

  pub expires_is : (t : CuCpTerminal) (c : CuCpContext) → Fits (handover_expires way at t c)
  unfolding handover_expires
  expires_is t c = inl ((tt, (tt, tt)), tt)

  pub frozen_is : (statuses : List SnStatus) (t : CuCpTerminal) (c : CuCpContext) (a : Attempt) → Knows a → Fits (handover_is_frozen way at statuses t c a)
  unfolding handover_is_frozen
  frozen_is statuses t c a knows = inl ((tt, tt), λ used. knows)

  pub not_frozen_is : (cause : CauseName) (t : CuCpTerminal) (c : CuCpContext) → Fits (handover_is_not_frozen way at cause t c)
  unfolding handover_is_not_frozen
  not_frozen_is cause t c = inl ((tt, (tt, tt)), tt)

  pub command_is : (t : CuCpTerminal) (c : CuCpContext) (a : Attempt) → Knows a → Fits (command way at t c a)
  unfolding command
  command_is t c a knows = inl ((tt, tt), λ used. knows)

  -- ---- cancel and release

  cancel_in : (t : CuCpTerminal) (c : CuCpContext) (state : StateName) (kind : AttemptKind) (a : Attempt) → FitsOf t
      → Fits (cancel_attempt way at t c state kind a)
  cancel_in t c states.Preparing kinds.BetweenGnbs a h = inl ((tt, tt), tt)
  cancel_in t c states.Preparing kinds.BetweenDus a h = inl ((tt, tt), h)
  cancel_in t c states.Prepared kind a h = inl ((tt, tt), h)
  cancel_in t c states.Frozen kinds.BetweenDus a h = inl ((tt, tt), tt)
  cancel_in t c states.Frozen kind a h = inl ((tt, (tt, tt)), tt)
  cancel_in t c states.Commanded kinds.BetweenDus a h = inl ((tt, tt), h)
  cancel_in t c states.Commanded kinds.BetweenGnbs a h = inl ((tt, tt), h)
  cancel_in t c state kind a h = inl ((tt, tt), h)

  pub cancel_is : (t : CuCpTerminal) → FitsOf t → Fits (cancel way at t)
  unfolding cancel
  cancel_is t h = by t.context
    where
      of_attempt : (c : CuCpContext) (o : Option Attempt) → Fits (cancel_of way at t c o)
      of_attempt c None = inl ((tt, tt), h)
      of_attempt c (Some a) = cancel_in t c c.state a.kind a h

      by : (o : Option CuCpContext) → Fits (cancel_on way at t o)
      by None = inl ((tt, tt), h)
      by (Some c) = of_attempt c c.attempt

  pub release_is : (t : CuCpTerminal) → FitsOf t → Fits (release way at t)
  unfolding release
  release_is t h = by t.context
    where
      by : (o : Option CuCpContext) → Fits (release_on way at t o)
      by None = inl ((tt, tt), h)
      by (Some c) = row_if (is_serving way c.state) _ _ (λ e. inl ((tt, (tt, tt)), tt)) (λ e. inl ((tt, tt), h))

  -- ---- the source lets go

  pub xn_released_is : (from : NodeId) (instance : ℕ) (t : CuCpTerminal) → FitsOf t → Fits (xn_released way at from instance t)
  unfolding xn_released handed_over
  xn_released_is from instance t h = by t.context
    where
      handed : (c : CuCpContext) (a : Attempt) → Fits (handed_over way at from instance t c a)
      handed c a = inl ((tt, (tt, (tt, tt))), λ used. absurd cc)

      in_state : (c : CuCpContext) (state : StateName) (o : Option Attempt) → Fits (xn_released_of way at from instance t c state o)
      in_state c states.Commanded (Some a) = row_if (is_between_gnbs a.kind) _ _ (λ e. handed c a) (λ e. inl ((tt, tt), h))
      in_state c state o = inl ((tt, tt), h)

      by : (o : Option CuCpContext) → Fits (xn_released_on way at from instance t o)
      by None = inl ((tt, tt), h)
      by (Some c) = in_state c c.state c.attempt

  -- ---- at the target

  pub offer_is : (from : NodeId) (up du instance bearers : ℕ) (sn : SnBits) (quota epoch : ℕ) (t : CuCpTerminal) → FitsOf t
      → Fits (offer way at from instance (offer_context way up du instance bearers sn quota epoch) t)
  unfolding offer
  offer_is from up du instance bearers sn quota epoch t h = by t.context
    where
      by : (o : Option CuCpContext) → Fits (offer_on way at from instance (offer_context way up du instance bearers sn quota epoch) t o)
      by (Some c) = inl ((tt, tt), h)
      by None =
          row_if (has_unit at.units (own_up at up) && has_unit at.units (own_du at du)) _ _
          (λ e. inl ((tt, tt), λ used same. tt)) (λ e. inl ((tt, tt), h))

  pub offer_has : (uplinks paths down up : List Tunnel) (t : CuCpTerminal) (c : CuCpContext) (a : Attempt) → Knows a
      → Fits (offer_has_tunnels way at uplinks paths down up t c a)
  unfolding offer_has_tunnels
  offer_has uplinks paths down up t c a knows = inl ((tt, tt), λ used. knows)

  pub offer_declined : (cause : ℕ) (t : CuCpTerminal) (a : Attempt) → Fits (offer_is_declined way at cause t a)
  unfolding offer_is_declined
  offer_declined cause t a = inl ((tt, tt), tt)

  pub offer_placed : (downlinks : List Tunnel) (t : CuCpTerminal) (c : CuCpContext) (a : Attempt) → Knows (record a { downlinks = downlinks })
      → Fits (offer_is_placed way at downlinks t c a)
  unfolding offer_is_placed
  offer_placed downlinks t c a knows = inl ((tt, tt), λ used. knows)

  pub status_is : (from : NodeId) (instance : ℕ) (statuses : List SnStatus) (t : CuCpTerminal) → FitsOf t → Fits (status way at from instance statuses t)
  unfolding status
  status_is from instance statuses t h = by t.context
    where
      by : (o : Option CuCpContext) → Fits (status_on way at from instance statuses t o)
      by None = inl ((tt, tt), h)
      by (Some c) =
          row_if (takes_status way c && are_bearers (bearers_in c) (statuses_of statuses)) _ _
          (λ e. inl ((tt, (tt, tt)), h)) (λ e. inl ((tt, tt), h))

  cancelled_says : (from : NodeId) (instance : ℕ) (t : CuCpTerminal) (c : CuCpContext) (a : Attempt) → Fits (offer_cancelled way at from instance t c a)
  cancelled_says from instance t c a = inl ((tt, (tt, rest a.du_begun)), tt)
    where
      rest : (b : Bool) → AllPlain d {C = C} (du_release_if way at c b ++ cu_up_release way at c.up true false ∷ [])
      rest true = (tt, (tt, tt))
      rest false = (tt, tt)

  pub xn_cancelled_is : (from : NodeId) (instance : ℕ) (t : CuCpTerminal) → FitsOf t → Fits (xn_cancelled way at from instance t)
  unfolding xn_cancelled
  xn_cancelled_is from instance t h = by t.context
    where
      of_attempt : (c : CuCpContext) (o : Option Attempt) → Fits (xn_cancelled_of way at from instance t c o)
      of_attempt c None = inl ((tt, tt), h)
      of_attempt c (Some a) = row_if (is_cancellable way c.state) _ _ (λ e. cancelled_says from instance t c a) (λ e. inl ((tt, tt), h))

      by : (o : Option CuCpContext) → Fits (xn_cancelled_on way at from instance t o)
      by None = inl ((tt, tt), h)
      by (Some c) = of_attempt c c.attempt

  -- ---- after an arrival or a return: the attempt may not say so any more

  pub renewed_is : (downlinks : List Tunnel) (t : CuCpTerminal) (c : CuCpContext) (a : Attempt) → is_used c.state ≡ true
      → (c.du ≡ d.du → Gives d.teid p (known at.ue.0) downlinks) → Fits (place_is_renewed way at downlinks t c a)
  unfolding place_is_renewed
  renewed_is downlinks t c a used fits =
      inr (λ is. (refl, fits), λ q no. absurd (not_used c.state used no), tt)

  -- where it is over, or goes on
  ended_or_on : (says : List (Action C)) (t : CuCpTerminal) (c : CuCpContext) (a : Attempt) → is_used c.state ≡ true → AllPlain d says → (b : Bool)
      → Fits (keeps t says (if b then serving c else attempted c c.state a))
  ended_or_on says t c a used all true = inl (all, tt)
  ended_or_on says t c a used all false = inl (all, λ no. absurd (not_used c.state used no))

  pub switched_is : (t : CuCpTerminal) (c : CuCpContext) (a : Attempt) → is_used c.state ≡ true → Fits (is_switched way at t c a)
  unfolding is_switched
  switched_is t c a used =
      ended_or_on (accepted_action way at c a.epoch ∷ []) t (record c { epoch = Some a.epoch; finished = true }) (record a { switched = true })
      used (tt, tt) (not a.path_open)

  pub path_is : (t : CuCpTerminal) (c : CuCpContext) (a : Attempt) → is_used c.state ≡ true → Fits (path_is_switched way at t c a)
  unfolding path_is_switched
  path_is t c a used = ended_or_on (let_source_go way at c.state) t c (record a { path_open = false }) used (by c.state) (a.switched && true)
    where
      by : (state : StateName) → AllPlain d (let_source_go way at state)
      by states.Arrived = (tt, tt)
      by state = tt

  -- ---- tokens

  pub completes_is : (epoch : ℕ) (t : CuCpTerminal) (c : CuCpContext) (a : Attempt) → Knows a → Fits (completes way at epoch t c a)
  unfolding completes
  completes_is epoch t c a knows = inr (λ is. (refl, knows), λ q used. absurd cc, by a.kind)
    where
      by : (kind : AttemptKind) → AllPlain d (leave_old way at c (record c { du = a.du; epoch = Some epoch; finished = false }) a kind)
      by kinds.Attach = (tt, tt)
      by kind = (tt, tt)

  pub completes_again_is : (epoch : ℕ) (t : CuCpTerminal) (c : CuCpContext) (a : Attempt) → Fits (completes_again way at epoch t c a)
  unfolding completes_again
  completes_again_is epoch t c a = inl (by a.kind, λ used. absurd cc)
    where
      by : (kind : AttemptKind) → AllPlain d (leave_old_again way at c (record c { du = a.du }) a kind epoch)
      by kinds.Attach = (tt, (tt, tt))
      by kind = (tt, (tt, tt))

  pub returns_is : (epoch : ℕ) (t : CuCpTerminal) (c : CuCpContext) → Fits (returns way at epoch t c)
  unfolding returns
  returns_is epoch t c = inl ((tt, by c.attempt), λ used. absurd cc)
    where
      of_kind : (a : Attempt) (t : Bool) → AllPlain d {C = C} (if t then du_release way at a.du false ∷ [] else (xn_cancel way at ∷ []))
      of_kind a true = (tt, tt)
      of_kind a false = (tt, tt)

      by : (o : Option Attempt) → AllPlain d (give_up_attempt way at o)
      by None = tt
      by (Some a) = of_kind a (is_between_dus a.kind)

  pub arrives_is : (epoch : ℕ) (t : CuCpTerminal) (c : CuCpContext) (a : Attempt) → Knows a → a.du ≡ c.du → Fits (arrives way at epoch t c a)
  unfolding arrives
  arrives_is epoch t c a knows same = inr (λ is. (refl, λ du. knows (same ∙ du)), λ q used. absurd cc, (tt, tt))

  pub arrives_again_is : (epoch : ℕ) (t : CuCpTerminal) (c : CuCpContext) (a : Attempt) → Fits (arrives_again way at epoch t c a)
  unfolding arrives_again
  arrives_again_is epoch t c a = inl ((tt, (tt, tt)), λ used. absurd cc)
