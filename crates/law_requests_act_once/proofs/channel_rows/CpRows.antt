-- What each row of a CU-CP says, but for replies: requests of its terminal, cancels, and tokens for it.
use Rattle.std.proofs.Common.{ℕ, ◌+◌, Bool, true, false, not, ◌&&◌, ◌||◌, List, [], ◌∷◌, Option, Some, None}
use Rattle.std.specs.Prelude.{if◌then◌else◌, ◌==◌, nat_lt, nat_le}
use Rattle.gnb_types.specs.declared.plans.Plan.{Plan}
use Rattle.gnb_types.specs.declared.plans.Peer.{Peer}
use Rattle.gnb_types.specs.declared.plans.Tunnel.{Tunnel}
use Rattle.gnb_types.specs.declared.plans.SnStatus.{SnStatus}
use Rattle.gnb_types.specs.declared.reasons.CauseName.{CauseName}
use Rattle.message_types.specs.declared.rrc.Token.{Token}
use Rattle.message_types.specs.declared.xn.XnMessage.TheVariants as xns
use Rattle.unit_defs.specs.declared.StateName.{StateName}
use Rattle.unit_defs.specs.declared.StateName.TheVariants as states
use Rattle.unit_defs.specs.declared.AttemptKind.{AttemptKind}
use Rattle.unit_defs.specs.declared.AttemptKind.TheVariants as kinds
use Rattle.unit_defs.specs.Ways.{xn, epochs_spent}
use Rattle.unit_defs.specs.Messages.{is_same_gnb}
use Rattle.unit_defs.specs.Transactions.{kind_of, with_instance, no_instance}
use Rattle.unit_defs.specs.CuCpRecords.{Attempt, CuCpContext, CuCpTerminal, has_unit, last_epoch, Action, asks, Row, row_spent}
use Rattle.unit_defs.specs.CuCpRows.{CuCpScope, other_cu_cp, own_up, own_du, is_between_dus, bearer_setup, du_setup, du_modify, du_release, cu_up_release, uplinks_action, switch_action, freeze_action, status_action, resume_action, xn_cancel, path_switch, token_action, accepted_action, attach_context, attach_on, attach, attach_has_tunnels, attach_is_placed, attach_fails, move_begins, move_has_uplinks, move_is_placed, handover_request, handover_begins, epoch_of, is_serving, handover_on, handover, handover_is_acknowledged, handover_is_declined, handover_expires, handover_is_frozen, handover_is_not_frozen, command, cancel_attempt, cancel_of, cancel_on, cancel, release_on, release, offer_has_tunnels, place_is_renewed, is_switched, let_source_go, path_is_switched, leave_old, completes, leave_old_again, completes_again, give_up_attempt, returns, arrives, arrives_again}
use Rattle.law_requests_act_once.specs.channel.Replies.{Talk}
use Rattle.law_requests_act_once.specs.channel_rows.IsPlayed.{ReadsWell}
use Rattle.law_requests_act_once.specs.channel_rows.Rows.{SpeaksOne, Speaks, RowSpeaks}

module _ {M C P : Type 0} (talk : Talk M C P) (reads : ReadsWell talk) (at : CuCpScope) where
  abbrev One : Action C → Type 0
  One s = SpeaksOne talk at.ue s

  abbrev pub KeepsInvariant : Row C → Type 0
  KeepsInvariant r = RowSpeaks talk at.ue r

  -- ---- what is said in more than one row

  pub bearer_setup_one : (c : CuCpContext) (forward : Bool) → One (bearer_setup talk.way at c forward)
  unfolding kind_of with_instance
  bearer_setup_one c forward i = reads.kinds _

  du_setup_one : (c : CuCpContext) (du epoch : ℕ) (uplinks : List Tunnel) → One (du_setup talk.way at c du epoch uplinks)
  unfolding kind_of with_instance
  du_setup_one c du epoch uplinks i = reads.kinds _

  du_modify_one : (du epoch : ℕ) → One (du_modify talk.way at du epoch)
  unfolding kind_of with_instance
  du_modify_one du epoch i = reads.kinds _

  pub du_release_one : (du : ℕ) (awaited : Bool) → One (du_release talk.way at du awaited)
  unfolding kind_of with_instance
  du_release_one du awaited i = reads.kinds _

  pub up_release_one : (up : ℕ) (is_final awaited : Bool) → One (cu_up_release talk.way at up is_final awaited)
  unfolding kind_of with_instance
  up_release_one up is_final awaited i = reads.kinds _

  uplinks_one : (c : CuCpContext) → One (uplinks_action talk.way at c)
  unfolding kind_of with_instance
  uplinks_one c i = reads.kinds _

  switch_one : (c : CuCpContext) (downlinks : List Tunnel) → One (switch_action talk.way at c downlinks)
  unfolding kind_of with_instance
  switch_one c downlinks i = reads.kinds _

  freeze_one : (c : CuCpContext) (peer : Peer) (down up : List Tunnel) → One (freeze_action talk.way at c peer down up)
  unfolding kind_of with_instance
  freeze_one c peer down up i = reads.kinds _

  pub status_one : (c : CuCpContext) (ss : List SnStatus) → One (status_action talk.way at c ss)
  unfolding kind_of with_instance
  status_one c ss i = reads.kinds _

  resume_one : (c : CuCpContext) → One (resume_action talk.way at c)
  unfolding kind_of with_instance
  resume_one c i = reads.kinds _

  path_one : (c : CuCpContext) (a : Attempt) → One (path_switch talk.way at c a)
  unfolding kind_of with_instance
  path_one c a i = reads.kinds _

  request_one : (goal : Plan) (c : CuCpContext) (epoch : ℕ) → One (handover_request talk.way at goal c epoch)
  unfolding kind_of with_instance
  request_one goal c epoch i = reads.kinds _

  sn_one : (ss : List SnStatus) → One (asks (other_cu_cp at) (xn (xns.SnStatusTransfer at.ue no_instance ss)) None false)
  unfolding kind_of with_instance
  sn_one ss i = reads.kinds _

  let_go_one : One (asks (other_cu_cp at) (xn (xns.UeContextRelease at.ue no_instance)) None false)
  unfolding kind_of with_instance
  let_go_one i = reads.kinds _

  cancel_one : One (xn_cancel talk.way at)
  unfolding kind_of with_instance
  cancel_one = ((λ i. reads.kinds _), (λ i. reads.overtakes_is _))

  token_one : (c : CuCpContext) (token : Token) → One (token_action talk.way at c token)
  unfolding kind_of
  token_one c token = (at.ue.0, reads.kinds _)

  fine_if : (b : Bool) (x y : Row C) → KeepsInvariant x → KeepsInvariant y → KeepsInvariant (if b then x else y)
  fine_if true x y p q = p
  fine_if false x y p q = q

  -- ---- orders

  pub attach_fine : (plan : Plan) (t : CuCpTerminal) → KeepsInvariant (attach talk.way at plan t)
  unfolding attach
  attach_fine plan t = by t.context
    where
      by : (c : Option CuCpContext) → KeepsInvariant (attach_on talk.way at plan t c)
      by None =
          fine_if (not (has_unit at.units (own_up at plan.up)) || not (has_unit at.units (own_du at plan.du))) _ _ (tt, tt)
          (bearer_setup_one (attach_context talk.way plan) false, tt)
      by (Some c) = (tt, tt)

  handover_begins_fine : (goal : Plan) (epoch : ℕ) (t : CuCpTerminal) (c : CuCpContext) → KeepsInvariant (handover_begins talk.way at goal epoch t c)
  unfolding handover_begins
  handover_begins_fine goal epoch t c = fine_if (nat_le last_epoch epoch) (row_spent epochs_spent) _ tt (request_one goal c (epoch + 1), tt)

  move_begins_fine : (goal : Plan) (epoch : ℕ) (t : CuCpTerminal) (c : CuCpContext) → KeepsInvariant (move_begins talk.way at goal epoch t c)
  unfolding move_begins
  move_begins_fine goal epoch t c = (uplinks_one c, tt)

  pub handover_fine : (goal : Plan) (t : CuCpTerminal) → KeepsInvariant (handover talk.way at goal t)
  unfolding handover
  handover_fine goal t = by t.context
    where
      by : (c : Option CuCpContext) → KeepsInvariant (handover_on talk.way at goal t c)
      by None = (tt, tt)
      by (Some c) =
          fine_if (is_same_gnb goal.gnb at.gnb && goal.du == c.du) _ _ (tt, tt)
          (fine_if (is_same_gnb goal.gnb at.gnb && not (goal.up == c.up)) _ _ (tt, tt)
          (fine_if (not (is_serving talk.way c.state)) _ _ (tt, tt)
          (fine_if (is_same_gnb goal.gnb at.gnb) _ _ (move_begins_fine goal (epoch_of talk.way c) t c) (handover_begins_fine goal (epoch_of talk.way c) t c))))

  cancel_attempt_fine : (t : CuCpTerminal) (c : CuCpContext) (s : StateName) (k : AttemptKind) (a : Attempt) → KeepsInvariant (cancel_attempt talk.way at t c s k a)
  cancel_attempt_fine t c states.Preparing kinds.BetweenGnbs a = (cancel_one, tt)
  cancel_attempt_fine t c states.Preparing kinds.BetweenDus a = (tt, tt)
  cancel_attempt_fine t c states.Prepared k a = (tt, tt)
  cancel_attempt_fine t c states.Frozen kinds.BetweenDus a = (du_release_one a.du false, tt)
  cancel_attempt_fine t c states.Frozen k a = (cancel_one, (resume_one c, tt))
  cancel_attempt_fine t c states.Commanded kinds.BetweenDus a = (tt, tt)
  cancel_attempt_fine t c states.Commanded kinds.BetweenGnbs a = (tt, tt)
  cancel_attempt_fine t c s k a = (tt, tt)

  pub cancel_fine : (t : CuCpTerminal) → KeepsInvariant (cancel talk.way at t)
  unfolding cancel
  cancel_fine t = by t.context
    where
      of : (c : CuCpContext) (a : Option Attempt) → KeepsInvariant (cancel_of talk.way at t c a)
      of c None = (tt, tt)
      of c (Some a) = cancel_attempt_fine t c c.state a.kind a

      by : (c : Option CuCpContext) → KeepsInvariant (cancel_on talk.way at t c)
      by None = (tt, tt)
      by (Some c) = of c c.attempt

  pub release_fine : (t : CuCpTerminal) → KeepsInvariant (release talk.way at t)
  unfolding release
  release_fine t = by t.context
    where
      by : (c : Option CuCpContext) → KeepsInvariant (release_on talk.way at t c)
      by None = (tt, tt)
      by (Some c) = fine_if (is_serving talk.way c.state) _ _ (du_release_one c.du false, (up_release_one c.up true false, tt)) (tt, tt)

  -- ---- answers

  pub has_tunnels_fine : (uplinks n3 : List Tunnel) (t : CuCpTerminal) (c : CuCpContext) (a : Attempt) → KeepsInvariant (attach_has_tunnels talk.way at uplinks n3 t c a)
  unfolding attach_has_tunnels
  has_tunnels_fine uplinks n3 t c a = (du_setup_one c c.du 1 uplinks, tt)

  pub is_placed_fine : (downlinks : List Tunnel) (t : CuCpTerminal) (c : CuCpContext) (a : Attempt) → KeepsInvariant (attach_is_placed talk.way at downlinks t c a)
  unfolding attach_is_placed
  is_placed_fine downlinks t c a = (token_one c _, tt)

  pub fails_fine : (cause : CauseName) (t : CuCpTerminal) → KeepsInvariant (attach_fails talk.way cause t)
  unfolding attach_fails
  fails_fine cause t = (tt, tt)

  pub move_has_uplinks_fine : (uplinks : List Tunnel) (t : CuCpTerminal) (c : CuCpContext) (a : Attempt) → KeepsInvariant (move_has_uplinks talk.way at uplinks t c a)
  unfolding move_has_uplinks
  move_has_uplinks_fine uplinks t c a = fine_if (nat_lt last_epoch a.epoch) (row_spent epochs_spent) _ tt (du_setup_one c a.du a.epoch uplinks, tt)

  pub move_is_placed_fine : (downlinks : List Tunnel) (t : CuCpTerminal) (c : CuCpContext) (a : Attempt) → KeepsInvariant (move_is_placed talk.way downlinks t c a)
  unfolding move_is_placed
  move_is_placed_fine downlinks t c a = tt

  pub acknowledged_fine : (peer : Peer) (down up : List Tunnel) (t : CuCpTerminal) (c : CuCpContext) (a : Attempt)
      → KeepsInvariant (handover_is_acknowledged talk.way at peer down up t c a)
  unfolding handover_is_acknowledged
  acknowledged_fine peer down up t c a = (freeze_one c peer down up, tt)

  pub declined_fine : (cause : CauseName) (t : CuCpTerminal) (c : CuCpContext) → KeepsInvariant (handover_is_declined talk.way cause t c)
  unfolding handover_is_declined
  declined_fine cause t c = (tt, tt)

  pub expires_fine : (t : CuCpTerminal) (c : CuCpContext) → KeepsInvariant (handover_expires talk.way at t c)
  unfolding handover_expires
  expires_fine t c = (cancel_one, (tt, tt))

  pub is_frozen_fine : (ss : List SnStatus) (t : CuCpTerminal) (c : CuCpContext) (a : Attempt) → KeepsInvariant (handover_is_frozen talk.way at ss t c a)
  unfolding handover_is_frozen
  is_frozen_fine ss t c a = (sn_one ss, tt)

  pub is_not_frozen_fine : (cause : CauseName) (t : CuCpTerminal) (c : CuCpContext) → KeepsInvariant (handover_is_not_frozen talk.way at cause t c)
  unfolding handover_is_not_frozen
  is_not_frozen_fine cause t c = (cancel_one, (tt, tt))

  pub command_fine : (t : CuCpTerminal) (c : CuCpContext) (a : Attempt) → KeepsInvariant (command talk.way at t c a)
  unfolding command
  command_fine t c a = (token_one c _, tt)

  pub offer_has_tunnels_fine : (uplinks n3 down up : List Tunnel) (t : CuCpTerminal) (c : CuCpContext) (a : Attempt)
      → KeepsInvariant (offer_has_tunnels talk.way at uplinks n3 down up t c a)
  unfolding offer_has_tunnels
  offer_has_tunnels_fine uplinks n3 down up t c a = (du_setup_one c c.du a.epoch uplinks, tt)

  pub renewed_fine : (downlinks : List Tunnel) (t : CuCpTerminal) (c : CuCpContext) (a : Attempt) → KeepsInvariant (place_is_renewed talk.way at downlinks t c a)
  unfolding place_is_renewed
  renewed_fine downlinks t c a = (switch_one c downlinks, tt)

  pub is_switched_fine : (t : CuCpTerminal) (c : CuCpContext) (a : Attempt) → KeepsInvariant (is_switched talk.way at t c a)
  unfolding is_switched
  is_switched_fine t c a = (token_one c _, tt)

  pub let_go_fine : (s : StateName) → Speaks talk at.ue (let_source_go talk.way at s)
  let_go_fine states.Arrived = (let_go_one, tt)
  let_go_fine s = tt

  pub path_is_switched_fine : (t : CuCpTerminal) (c : CuCpContext) (a : Attempt) → KeepsInvariant (path_is_switched talk.way at t c a)
  unfolding path_is_switched
  path_is_switched_fine t c a = let_go_fine c.state

  -- ---- tokens

  leave_fine : (old c : CuCpContext) (a : Attempt) (k : AttemptKind) → Speaks talk at.ue (leave_old talk.way at old c a k)
  leave_fine old c a kinds.Attach = (path_one c a, tt)
  leave_fine old c a k = (du_release_one old.du false, tt)

  pub completes_fine : (epoch : ℕ) (t : CuCpTerminal) (c : CuCpContext) (a : Attempt) → KeepsInvariant (completes talk.way at epoch t c a)
  unfolding completes
  completes_fine epoch t c a =
      let there : CuCpContext = record c { du = a.du; epoch = Some epoch; finished = false } in
      (switch_one there a.downlinks, leave_fine c there a a.kind)

  leave_again_fine : (old c : CuCpContext) (a : Attempt) (k : AttemptKind) (epoch : ℕ) → Speaks talk at.ue (leave_old_again talk.way at old c a k epoch)
  leave_again_fine old c a kinds.Attach epoch = (du_modify_one c.du epoch, (path_one c a, tt))
  leave_again_fine old c a k epoch = (du_release_one old.du false, (du_modify_one c.du epoch, tt))

  pub completes_again_fine : (epoch : ℕ) (t : CuCpTerminal) (c : CuCpContext) (a : Attempt) → KeepsInvariant (completes_again talk.way at epoch t c a)
  unfolding completes_again
  completes_again_fine epoch t c a = leave_again_fine c (record c { du = a.du }) a a.kind epoch

  give_up_fine : (a : Option Attempt) → Speaks talk at.ue (give_up_attempt talk.way at a)
  give_up_fine None = tt
  give_up_fine (Some a) = by (is_between_dus a.kind)
    where
      by : (b : Bool) → Speaks talk at.ue (if b then du_release talk.way at a.du false ∷ [] else xn_cancel talk.way at ∷ [])
      by true = (du_release_one a.du false, tt)
      by false = (cancel_one, tt)

  pub returns_fine : (epoch : ℕ) (t : CuCpTerminal) (c : CuCpContext) → KeepsInvariant (returns talk.way at epoch t c)
  unfolding returns
  returns_fine epoch t c = (du_modify_one c.du epoch, give_up_fine c.attempt)

  pub arrives_fine : (epoch : ℕ) (t : CuCpTerminal) (c : CuCpContext) (a : Attempt) → KeepsInvariant (arrives talk.way at epoch t c a)
  unfolding arrives
  arrives_fine epoch t c a = (switch_one c a.downlinks, (path_one c a, tt))

  pub arrives_again_fine : (epoch : ℕ) (t : CuCpTerminal) (c : CuCpContext) (a : Attempt) → KeepsInvariant (arrives_again talk.way at epoch t c a)
  unfolding arrives_again
  arrives_again_fine epoch t c a = (du_modify_one c.du epoch, (path_one c a, tt))

  pub accepted_one : (c : CuCpContext) (epoch : ℕ) → One (accepted_action talk.way at c epoch)
  accepted_one c epoch = token_one c _
