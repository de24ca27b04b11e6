-- The rows of a CU-CP: what each says names tunnels as it should, and the terminal's context afterwards.
use Rattle.std.proofs.Common.{◌≡◌, ◌==◌, ℕ, ◌+◌, Bool, true, false, not, ◌&&◌, ◌||◌, List, [], ◌∷◌, ◌++◌, Option, Some, None, refl, sym, ap, ◌∙◌, subst}
use Rattle.std.specs.Prelude.{if◌then◌else◌, nat_lt, nat_le}
use Rattle.std.specs.List.{AllByRecursion}
use Rattle.gnb_types.specs.declared.names.Gnb.{Gnb}
use Rattle.gnb_types.specs.declared.names.NodeId.{NodeId}
use Rattle.gnb_types.specs.declared.names.NodeId.TheVariants.{CuCp}
use Rattle.gnb_types.specs.declared.names.UeId.{UeId}
use Rattle.gnb_types.specs.declared.names.SnBits.{SnBits}
use Rattle.gnb_types.specs.declared.plans.Plan.{Plan}
use Rattle.gnb_types.specs.declared.plans.Peer.{Peer}
use Rattle.gnb_types.specs.declared.plans.Tunnel.{Tunnel}
use Rattle.gnb_types.specs.declared.plans.SnStatus.{SnStatus}
use Rattle.gnb_types.specs.declared.reasons.CauseName.{CauseName}
use Rattle.unit_defs.specs.declared.StateName.{StateName}
use Rattle.unit_defs.specs.declared.StateName.TheVariants as states
use Rattle.unit_defs.specs.declared.AttemptKind.{AttemptKind}
use Rattle.unit_defs.specs.declared.AttemptKind.TheVariants as kinds
use Rattle.unit_defs.specs.Ways.{Way}
use Rattle.unit_defs.specs.Transactions.{kind_of}
use Rattle.unit_defs.specs.Messages.{is_same_gnb, statuses_of, are_bearers}
use Rattle.unit_defs.specs.CuUpRecords.{n3, f1u_uplink, forwarding_down, forwarding_up}
use Rattle.unit_defs.specs.CuCpRecords.{Awaited, Attempt, CuCpContext, CuCpTerminal, attempted, serving, has_unit, last_epoch, bearers_in, Action, asks, cancels, replies, replies_late, sends, Row, row, row_spent, keeps}
use Rattle.unit_defs.specs.CuCpRows.{CuCpScope, new_attempt, own_up, own_du, is_between_gnbs, is_between_dus, attach_context, attach_on, attach, attach_has_tunnels, attach_is_placed, attach_fails, move_begins, move_has_uplinks, move_is_placed, handover_begins, epoch_of, is_serving, handover_on, handover, handover_is_acknowledged, handover_is_declined, handover_expires, handover_is_frozen, handover_is_not_frozen, command, cancel_attempt, cancel_of, cancel_on, cancel, release_on, release, handed_over, offer_context, offer_on, offer, offer_has_tunnels, offer_is_declined, offer_is_placed, takes_status, status_on, status, du_release_if, offer_cancelled, is_cancellable, xn_cancelled_of, xn_cancelled_on, xn_cancelled, xn_released_of, xn_released_on, xn_released, place_is_renewed, is_switched, let_source_go, path_is_switched, leave_old, completes, leave_old_again, completes_again, give_up_attempt, returns, arrives, arrives_again, cu_up_release, xn_cancel, du_release, accepted_action}
use Rattle.proof_unit_steps.specs.tunnel_names.Names.{Property, CuUpList, DuList, Names}
use Rattle.proof_unit_steps.specs.tunnel_names.CuCps.{asked_du, AwaitedOf, is_at_goal, AttemptNames, ContextNames, TerminalNames}

-- ---- whom a terminal's attempt may await: the number of its CU-UP and that of a DU, where there is an attempt

abbrev pub key_of : CuCpContext → Option Attempt → Option (ℕ × ℕ)
key_of c None = None
key_of c (Some a) = Some (c.up, asked_du c a)

abbrev pub awaits_at : Option CuCpContext → Option (ℕ × ℕ)
awaits_at None = None
awaits_at (Some c) = key_of c c.attempt

abbrev pub MayAwait : Gnb → Option (ℕ × ℕ) → NodeId → Type 0
MayAwait gnb None node = Unit {0}
MayAwait gnb (Some k) node = AwaitedOf gnb k.0 k.1 node

-- the DU that is asked: the attempt's, but at the source of a handover between gNBs
pub asked_here : (c : CuCpContext) (a : Attempt) → a.du ≡ c.du → c.du ≡ asked_du c a
asked_here c a same = by (is_between_gnbs a.kind)
  where
    by : (t : Bool) → c.du ≡ (if t then c.du else a.du)
    by true = refl
    by false = sym same

pub asked_there : (c : CuCpContext) (a : Attempt) → is_between_gnbs a.kind ≡ false → a.du ≡ asked_du c a
asked_there c a own = sym (ap (λ (t : Bool). if t then c.du else a.du) own)

asked_source : (c : CuCpContext) (a : Attempt) → is_between_gnbs a.kind ≡ true → c.du ≡ asked_du c a
asked_source c a between = sym (ap (λ (t : Bool). if t then c.du else a.du) between)

pub dus_not_gnbs : (kind : AttemptKind) → is_between_dus kind ≡ true → is_between_gnbs kind ≡ false
dus_not_gnbs kinds.BetweenDus h = refl
dus_not_gnbs kinds.BetweenGnbs h = absurd cc
dus_not_gnbs kind h = absurd cc

not_both : {X : Type 0} (b : Bool) → b ≡ true → not b ≡ true → X
not_both true h k = absurd cc
not_both false h k = absurd cc

module _ {M C P : Type 0} {way : Way M C P} (is : Property way) where
  abbrev pub SayNames : Gnb → Option (ℕ × ℕ) → Action C → Type 0
  SayNames gnb key (asks to message deadline awaited) = Names is.owners (CuCp gnb) message × (awaited ≡ true → MayAwait gnb key to)
  SayNames gnb key (cancels to message) = Names is.owners (CuCp gnb) message
  SayNames gnb key (replies to message) = Names is.owners (CuCp gnb) message
  SayNames gnb key (replies_late to instance message) = Names is.owners (CuCp gnb) message
  SayNames gnb key (sends to message) = Names is.owners (CuCp gnb) message
  SayNames gnb key what = Unit {0}

  abbrev pub SaysName : Gnb → Option (ℕ × ℕ) → List (Action C) → Type 0
  SaysName gnb key says = AllByRecursion (SayNames gnb key) says

  abbrev pub RowNames : Gnb → UeId → Row C → Type 0
  RowNames gnb ue (row says after) = TerminalNames is gnb ue after.context × SaysName gnb (awaits_at after.context) says
  RowNames gnb ue (row_spent counter) = Unit {0}

  module _ (at : CuCpScope) where
    abbrev Fits : Row C → Type 0
    Fits what = RowNames at.gnb at.ue what

    abbrev FitsOf : CuCpTerminal → Type 0
    FitsOf t = TerminalNames is at.gnb at.ue t.context

    abbrev Good : CuCpContext → Attempt → Type 0
    Good c a = AttemptNames is at.gnb at.ue c a

    abbrev Ups : CuCpContext → List Tunnel → Type 0
    Ups c tunnels = CuUpList is.owners at.gnb c.up f1u_uplink at.ue tunnels

    -- the length of the terminal's numbers
    abbrev Of : SnBits → Type 0
    Of sn = is.owners.length at.ue sn

    length_of : (c : CuCpContext) (o : Option Attempt) → ContextNames is at.gnb at.ue c o → Of c.sn
    length_of c None n = n
    length_of c (Some a) n = n.sn

    pub row_if : (t : Bool) (x y : Row C) → (t ≡ true → Fits x) → (t ≡ false → Fits y) → Fits (if t then x else y)
    row_if true x y p q = p refl
    row_if false x y p q = q refl

    -- an attempt in another state
    moved : (c : CuCpContext) (a : Attempt) (state : StateName) → Good c a → (is_at_goal state a.kind ≡ true → a.du ≡ c.du) → Good (attempted c state a) a
    moved c a state n goal =
        record { paths = n.paths; downlinks = n.downlinks; down = n.down; up = n.up; awaits = n.awaits; at_goal = goal; sn = n.sn }

    placed : (c : CuCpContext) (a : Attempt) (state : StateName) (downlinks : List Tunnel) → Good c a → DuList is.owners at.gnb a.du at.ue downlinks
        → (is_at_goal state a.kind ≡ true → a.du ≡ c.du) → Good (attempted c state (record a { downlinks = downlinks })) (record a { downlinks = downlinks })
    placed c a state downlinks n fits goal =
        record { paths = n.paths; downlinks = fits; down = n.down; up = n.up; awaits = n.awaits; at_goal = goal; sn = n.sn }

    new_names : (c : CuCpContext) (kind : AttemptKind) (epoch up du : ℕ) → Of c.sn → (is_at_goal c.state kind ≡ true → du ≡ c.du)
        → Good c (new_attempt kind epoch up du)
    new_names c kind epoch up du s goal = record { paths = tt; downlinks = tt; down = tt; up = tt; awaits = tt; at_goal = goal; sn = s }

    -- ---- attach

    pub attach_names : (plan : Plan) (t : CuCpTerminal) → Of plan.sn → FitsOf t → Fits (attach way at plan t)
    unfolding attach kind_of
    attach_names plan t s h = by t.context
      where
        by : (o : Option CuCpContext) → Fits (attach_on way at plan t o)
        by (Some c) = (h, (tt, tt))
        by None =
            row_if (not (has_unit at.units (own_up at plan.up)) || not (has_unit at.units (own_du at plan.du))) _ _ (λ e. (h, (tt, tt)))
            (λ e. (new_names (attach_context way plan) kinds.Attach 1 plan.up plan.du s (λ g. refl), ((s, λ w. (refl, refl)), tt)))

    pub attach_has_names : (uplinks paths : List Tunnel) (t : CuCpTerminal) (c : CuCpContext) (a : Attempt) → Good c a → a.du ≡ c.du → Ups c uplinks
        → CuUpList is.owners at.gnb c.up n3 at.ue paths → Fits (attach_has_tunnels way at uplinks paths t c a)
    unfolding attach_has_tunnels kind_of
    attach_has_names uplinks paths t c a n same ups fits = (
      record { paths = fits; downlinks = n.downlinks; down = n.down; up = n.up; awaits = n.awaits; at_goal = λ g. same; sn = n.sn },
      (((ups, n.sn), λ w. (refl, asked_here c a same)), tt),
    )

    pub attach_placed_names : (downlinks : List Tunnel) (t : CuCpTerminal) (c : CuCpContext) (a : Attempt) → Good c a → DuList is.owners at.gnb a.du at.ue downlinks
        → Fits (attach_is_placed way at downlinks t c a)
    unfolding attach_is_placed kind_of
    attach_placed_names downlinks t c a n fits = (placed c a states.Commanded downlinks n fits (λ g. absurd cc), (tt, tt))

    pub attach_fails_names : (cause : CauseName) (t : CuCpTerminal) → Fits (attach_fails way cause t)
    unfolding attach_fails
    attach_fails_names cause t = (tt, (tt, tt))

    -- ---- between own DUs

    move_begins_names : (goal : Plan) (epoch : ℕ) (t : CuCpTerminal) (c : CuCpContext) → Of c.sn → Fits (move_begins way at goal epoch t c)
    unfolding move_begins kind_of
    move_begins_names goal epoch t c s = (
      new_names (attempted c states.Preparing (new_attempt kinds.BetweenDus (epoch + 1) c.up goal.du)) kinds.BetweenDus (epoch + 1) c.up goal.du s (λ g. absurd cc),
      (((tt, tt), λ w. (refl, refl)), tt),
    )

    pub move_has_names : (uplinks : List Tunnel) (t : CuCpTerminal) (c : CuCpContext) (a : Attempt) → Good c a → is_between_gnbs a.kind ≡ false → Ups c uplinks
        → Fits (move_has_uplinks way at uplinks t c a)
    unfolding move_has_uplinks kind_of
    move_has_names uplinks t c a n own ups =
        row_if (nat_lt last_epoch a.epoch) _ _ (λ e. tt)
        (λ e. (moved c a states.Preparing n (λ g. absurd cc), (((ups, n.sn), λ w. (refl, asked_there c a own)), tt)))

    pub move_placed_names : (downlinks : List Tunnel) (t : CuCpTerminal) (c : CuCpContext) (a : Attempt) → Good c a → DuList is.owners at.gnb a.du at.ue downlinks
        → Fits (move_is_placed way downlinks t c a)
    unfolding move_is_placed
    move_placed_names downlinks t c a n fits = (placed c a states.Frozen downlinks n fits (λ g. absurd cc), tt)

    -- ---- between gNBs, at the source

    handover_begins_names : (goal : Plan) (epoch : ℕ) (t : CuCpTerminal) (c : CuCpContext) → Of c.sn → Fits (handover_begins way at goal epoch t c)
    unfolding handover_begins kind_of
    handover_begins_names goal epoch t c s =
        row_if (nat_le last_epoch epoch) _ _ (λ e. tt)
        (λ e. (
          new_names (attempted c states.Preparing (new_attempt kinds.BetweenGnbs (epoch + 1) goal.up goal.du)) kinds.BetweenGnbs (epoch + 1) goal.up goal.du s
              (λ g. absurd cc),
          ((s, λ w. tt), tt),
        ))

    pub handover_names : (goal : Plan) (t : CuCpTerminal) → FitsOf t → Fits (handover way at goal t)
    unfolding handover
    handover_names goal t h = by t.context h
      where
        by : (o : Option CuCpContext) → TerminalNames is at.gnb at.ue o → Fits (handover_on way at goal t o)
        by None n = (h, (tt, tt))
        by (Some c) n =
            row_if (is_same_gnb goal.gnb at.gnb && goal.du == c.du) _ _ (λ e. (h, (tt, tt)))
            (λ e. row_if (is_same_gnb goal.gnb at.gnb && not (goal.up == c.up)) _ _ (λ e. (h, (tt, tt)))
            (λ e. row_if (not (is_serving way c.state)) _ _ (λ e. (h, (tt, tt)))
            (λ e. row_if (is_same_gnb goal.gnb at.gnb) _ _ (λ e. move_begins_names goal (epoch_of way c) t c (length_of c c.attempt n))
            (λ e. handover_begins_names goal (epoch_of way c) t c (length_of c c.attempt n)))))

    pub acknowledged_names : (peer : Peer) (down up : List Tunnel) (t : CuCpTerminal) (c : CuCpContext) (a : Attempt) → Good c a
        → CuUpList is.owners peer.gnb peer.up forwarding_down at.ue down → CuUpList is.owners peer.gnb peer.up forwarding_up at.ue up
        → Fits (handover_is_acknowledged way at peer down up t c a)
    unfolding handover_is_acknowledged kind_of
    acknowledged_names peer down up t c a n downs ups =
        (moved c a states.Prepared n (λ g. absurd cc), (((tt, (downs, ups)), λ w. (refl, refl)), tt))

    pub declined_names : (cause : CauseName) (t : CuCpTerminal) (c : CuCpContext) → Of c.sn → Fits (handover_is_declined way cause t c)
    unfolding handover_is_declined
    declined_names cause t c s = (s, (tt, tt))

    pub expires_names : (t : CuCpTerminal) (c : CuCpContext) (o : Option Attempt) → ContextNames is at.gnb at.ue c o → Fits (handover_expires way at t c)
    unfolding handover_expires kind_of
    expires_names t c o n = (length_of c o n, (tt, (tt, tt)))

    pub frozen_names : (statuses : List SnStatus) (t : CuCpTerminal) (c : CuCpContext) (a : Attempt) → Good c a → Fits (handover_is_frozen way at statuses t c a)
    unfolding handover_is_frozen kind_of
    frozen_names statuses t c a n = (moved c a states.Frozen n (λ g. absurd cc), ((tt, λ w. absurd cc), tt))

    pub not_frozen_names : (cause : CauseName) (t : CuCpTerminal) (c : CuCpContext) → Of c.sn → Fits (handover_is_not_frozen way at cause t c)
    unfolding handover_is_not_frozen kind_of
    not_frozen_names cause t c s = (s, (tt, (tt, tt)))

    pub command_names : (t : CuCpTerminal) (c : CuCpContext) (a : Attempt) → Good c a → Fits (command way at t c a)
    unfolding command kind_of
    command_names t c a n = (moved c a states.Commanded n (λ g. absurd cc), (tt, tt))

    -- ---- cancel and release

    cancel_names_of : (t : CuCpTerminal) (c : CuCpContext) (state : StateName) (kind : AttemptKind) (a : Attempt) → Of c.sn → FitsOf t
        → Fits (cancel_attempt way at t c state kind a)
    unfolding kind_of
    cancel_names_of t c states.Preparing kinds.BetweenGnbs a s h = (s, (tt, tt))
    cancel_names_of t c states.Preparing kinds.BetweenDus a s h = (h, (tt, tt))
    cancel_names_of t c states.Prepared kind a s h = (h, (tt, tt))
    cancel_names_of t c states.Frozen kinds.BetweenDus a s h = (s, ((tt, λ w. absurd cc), tt))
    cancel_names_of t c states.Frozen kind a s h = (s, (tt, (((tt, tt), λ w. absurd cc), tt)))
    cancel_names_of t c states.Commanded kinds.BetweenDus a s h = (h, (tt, tt))
    cancel_names_of t c states.Commanded kinds.BetweenGnbs a s h = (h, (tt, tt))
    cancel_names_of t c state kind a s h = (h, (tt, tt))

    pub cancel_names : (t : CuCpTerminal) → FitsOf t → Fits (cancel way at t)
    unfolding cancel
    cancel_names t h = by t.context h
      where
        of_attempt : (c : CuCpContext) (o : Option Attempt) → ContextNames is at.gnb at.ue c o → Fits (cancel_of way at t c o)
        of_attempt c None n = (h, (tt, tt))
        of_attempt c (Some a) n = cancel_names_of t c c.state a.kind a n.sn h

        by : (o : Option CuCpContext) → TerminalNames is at.gnb at.ue o → Fits (cancel_on way at t o)
        by None n = (h, (tt, tt))
        by (Some c) n = of_attempt c c.attempt n

    pub release_names : (t : CuCpTerminal) → FitsOf t → Fits (release way at t)
    unfolding release kind_of
    release_names t h = by t.context
      where
        by : (o : Option CuCpContext) → Fits (release_on way at t o)
        by None = (h, (tt, tt))
        by (Some c) = row_if (is_serving way c.state) _ _ (λ e. (tt, ((tt, λ w. tt), ((tt, λ w. tt), tt)))) (λ e. (h, (tt, tt)))

    -- ---- the source lets go

    handed_names : (from : NodeId) (instance : ℕ) (t : CuCpTerminal) (c : CuCpContext) (a : Attempt) → Good c a → is_between_gnbs a.kind ≡ true
        → Fits (handed_over way at from instance t c a)
    unfolding handed_over kind_of
    handed_names from instance t c a n between = (
      moved c a states.Completing n (λ g. not_both (is_between_gnbs a.kind) between g),
      (tt, ((tt, λ w. (refl, asked_source c a between)), ((tt, λ w. (refl, refl)), tt))),
    )

    pub xn_released_names : (from : NodeId) (instance : ℕ) (t : CuCpTerminal) → FitsOf t → Fits (xn_released way at from instance t)
    unfolding xn_released
    xn_released_names from instance t h = by t.context h
      where
        in_state : (c : CuCpContext) (state : StateName) (o : Option Attempt) → ContextNames is at.gnb at.ue c o → Fits (xn_released_of way at from instance t c state o)
        in_state c states.Commanded (Some a) n = row_if (is_between_gnbs a.kind) _ _ (λ e. handed_names from instance t c a n e) (λ e. (h, (tt, tt)))
        in_state c state o n = (h, (tt, tt))

        by : (o : Option CuCpContext) → TerminalNames is at.gnb at.ue o → Fits (xn_released_on way at from instance t o)
        by None n = (h, (tt, tt))
        by (Some c) n = in_state c c.state c.attempt n

    -- ---- at the target

    pub offer_names : (from : NodeId) (up du instance bearers : ℕ) (sn : SnBits) (quota epoch : ℕ) (t : CuCpTerminal) → Of sn → FitsOf t
        → Fits (offer way at from instance (offer_context way up du instance bearers sn quota epoch) t)
    unfolding offer kind_of
    offer_names from up du instance bearers sn quota epoch t s h = by t.context
      where
        new : CuCpContext
        new = offer_context way up du instance bearers sn quota epoch

        by : (o : Option CuCpContext) → Fits (offer_on way at from instance (offer_context way up du instance bearers sn quota epoch) t o)
        by (Some c) = (h, (tt, tt))
        by None =
            row_if (has_unit at.units (own_up at up) && has_unit at.units (own_du at du)) _ _
            (λ e. (record { paths = tt; downlinks = tt; down = tt; up = tt; awaits = tt; at_goal = λ g. refl; sn = s }, ((s, λ w. (refl, refl)), tt))) (λ e. (h, (tt, tt)))

    pub offer_has_names : (uplinks paths down up : List Tunnel) (t : CuCpTerminal) (c : CuCpContext) (a : Attempt) → Good c a → a.du ≡ c.du → Ups c uplinks
        → CuUpList is.owners at.gnb c.up n3 at.ue paths → CuUpList is.owners at.gnb c.up forwarding_down at.ue down
        → CuUpList is.owners at.gnb c.up forwarding_up at.ue up → Fits (offer_has_tunnels way at uplinks paths down up t c a)
    unfolding offer_has_tunnels kind_of
    offer_has_names uplinks paths down up t c a n same ups fits downs forwards = (
      record { paths = fits; downlinks = n.downlinks; down = downs; up = forwards; awaits = n.awaits; at_goal = λ g. same; sn = n.sn },
      (((ups, n.sn), λ w. (refl, asked_here c a same)), tt),
    )

    pub offer_declined_names : (cause : ℕ) (t : CuCpTerminal) (a : Attempt) → Fits (offer_is_declined way at cause t a)
    unfolding offer_is_declined kind_of
    offer_declined_names cause t a = (tt, (tt, tt))

    pub offer_placed_names : (downlinks : List Tunnel) (t : CuCpTerminal) (c : CuCpContext) (a : Attempt) → Good c a → a.du ≡ c.du
        → DuList is.owners at.gnb a.du at.ue downlinks → Fits (offer_is_placed way at downlinks t c a)
    unfolding offer_is_placed kind_of
    offer_placed_names downlinks t c a n same fits = (placed c a states.Ready downlinks n fits (λ g. same), ((n.down, n.up), tt))

    pub status_names : (from : NodeId) (instance : ℕ) (statuses : List SnStatus) (t : CuCpTerminal) → FitsOf t → Fits (status way at from instance statuses t)
    unfolding status kind_of
    status_names from instance statuses t h = by t.context
      where
        by : (o : Option CuCpContext) → Fits (status_on way at from instance statuses t o)
        by None = (h, (tt, tt))
        by (Some c) =
            row_if (takes_status way c && are_bearers (bearers_in c) (statuses_of statuses)) _ _
            (λ e. (h, (tt, (((tt, tt), λ w. absurd cc), tt)))) (λ e. (h, (tt, tt)))

    cancelled_says : (from : NodeId) (instance : ℕ) (t : CuCpTerminal) (c : CuCpContext) (a : Attempt) → Fits (offer_cancelled way at from instance t c a)
    unfolding kind_of
    cancelled_says from instance t c a = (tt, (tt, (tt, rest a.du_begun)))
      where
        last : SaysName at.gnb None (cu_up_release way at c.up true false ∷ [])
        last = ((tt, λ w. tt), tt)

        rest : (b : Bool) → SaysName at.gnb None (du_release_if way at c b ++ cu_up_release way at c.up true false ∷ [])
        rest true = ((tt, λ w. tt), last)
        rest false = last

    pub xn_cancelled_names : (from : NodeId) (instance : ℕ) (t : CuCpTerminal) → FitsOf t → Fits (xn_cancelled way at from instance t)
    unfolding xn_cancelled kind_of
    xn_cancelled_names from instance t h = by t.context
      where
        of_attempt : (c : CuCpContext) (o : Option Attempt) → Fits (xn_cancelled_of way at from instance t c o)
        of_attempt c None = (h, (tt, tt))
        of_attempt c (Some a) = row_if (is_cancellable way c.state) _ _ (λ e. cancelled_says from instance t c a) (λ e. (h, (tt, tt)))

        by : (o : Option CuCpContext) → Fits (xn_cancelled_on way at from instance t o)
        by None = (h, (tt, tt))
        by (Some c) = of_attempt c c.attempt

    -- ---- after an arrival or a return

    pub renewed_names : (downlinks : List Tunnel) (t : CuCpTerminal) (c : CuCpContext) (a : Attempt) → Good c a → DuList is.owners at.gnb c.du at.ue downlinks
        → Fits (place_is_renewed way at downlinks t c a)
    unfolding place_is_renewed kind_of
    renewed_names downlinks t c a n fits = (moved c a c.state n n.at_goal, (((fits, tt), λ w. (refl, refl)), tt))

    -- where it is over, or goes on
    ended_or_on : (says : List (Action C)) (t : CuCpTerminal) (c : CuCpContext) (a : Attempt) → Good c a → ((key : Option (ℕ × ℕ)) → SaysName at.gnb key says) → (b : Bool)
        → Fits (keeps t says (if b then serving c else attempted c c.state a))
    ended_or_on says t c a n all true = (n.sn, all None)
    ended_or_on says t c a n all false = (moved c a c.state n n.at_goal, all (Some (c.up, asked_du c a)))

    pub switched_names : (t : CuCpTerminal) (c : CuCpContext) (a : Attempt) → Good c a → Fits (is_switched way at t c a)
    unfolding is_switched kind_of
    switched_names t c a n =
        ended_or_on (accepted_action way at c a.epoch ∷ []) t (record c { epoch = Some a.epoch; finished = true }) (record a { switched = true })
        (record { paths = n.paths; downlinks = n.downlinks; down = n.down; up = n.up; awaits = n.awaits; at_goal = n.at_goal; sn = n.sn }) (λ key. (tt, tt)) (not a.path_open)

    pub path_names : (t : CuCpTerminal) (c : CuCpContext) (a : Attempt) → Good c a → Fits (path_is_switched way at t c a)
    unfolding path_is_switched kind_of
    path_names t c a n =
        ended_or_on (let_source_go way at c.state) t c (record a { path_open = false })
        (record { paths = n.paths; downlinks = n.downlinks; down = n.down; up = n.up; awaits = n.awaits; at_goal = n.at_goal; sn = n.sn }) (λ key. by key c.state) (a.switched && true)
      where
        by : (key : Option (ℕ × ℕ)) (state : StateName) → SaysName at.gnb key (let_source_go way at state)
        by key states.Arrived = ((tt, λ w. absurd cc), tt)
        by key state = tt

    -- ---- tokens

    pub completes_names : (epoch : ℕ) (t : CuCpTerminal) (c : CuCpContext) (a : Attempt) → Good c a → is_between_gnbs a.kind ≡ false
        → Fits (completes way at epoch t c a)
    unfolding completes kind_of
    completes_names epoch t c a n own = (
      record {
        paths = n.paths;
        downlinks = n.downlinks;
        down = n.down;
        up = n.up;
        awaits = subst (λ (du : ℕ). AllByRecursion (λ (w : Awaited). AwaitedOf at.gnb c.up du w.from) a.awaits)
            (sym (asked_there c a own) ∙ asked_there (record c { du = a.du }) a own) n.awaits;
        at_goal = λ g. refl;
        sn = n.sn;
      },
      (((n.downlinks, tt), λ w. (refl, refl)), by a.kind),
    )
      where
        key : Option (ℕ × ℕ)
        key = Some (c.up, asked_du (record c { du = a.du }) a)

        by : (kind : AttemptKind) → SaysName at.gnb (Some (c.up, asked_du (record c { du = a.du }) a))
            (leave_old way at c (record c { du = a.du; epoch = Some epoch; finished = false }) a kind)
        by kinds.Attach = ((n.paths, λ w. tt), tt)
        by kind = ((tt, λ w. absurd cc), tt)

    pub completes_again_names : (epoch : ℕ) (t : CuCpTerminal) (c : CuCpContext) (a : Attempt) → Good c a → is_between_gnbs a.kind ≡ false
        → Fits (completes_again way at epoch t c a)
    unfolding completes_again kind_of
    completes_again_names epoch t c a n own = (
      record {
        paths = n.paths;
        downlinks = n.downlinks;
        down = n.down;
        up = n.up;
        awaits = subst (λ (du : ℕ). AllByRecursion (λ (w : Awaited). AwaitedOf at.gnb c.up du w.from) a.awaits)
            (sym (asked_there c a own) ∙ asked_there (record c { du = a.du }) a own) n.awaits;
        at_goal = λ g. refl;
        sn = n.sn;
      },
      by a.kind,
    )
      where
        by : (kind : AttemptKind) → SaysName at.gnb (Some (c.up, asked_du (record c { du = a.du }) a))
            (leave_old_again way at c (record c { du = a.du }) a kind epoch)
        by kinds.Attach = ((tt, λ w. (refl, asked_there (record c { du = a.du }) a own)), ((n.paths, λ w. tt), tt))
        by kind = ((tt, λ w. absurd cc), ((tt, λ w. (refl, asked_there (record c { du = a.du }) a own)), tt))

    pub returns_names : (epoch : ℕ) (t : CuCpTerminal) (c : CuCpContext) → Of c.sn → Fits (returns way at epoch t c)
    unfolding returns kind_of
    returns_names epoch t c s = (
      new_names (attempted c states.Returning (new_attempt kinds.Return epoch c.up c.du)) kinds.Return epoch c.up c.du s (λ g. refl),
      ((tt, λ w. (refl, refl)), by c.attempt),
    )
      where
        of_kind : (a : Attempt) (t : Bool) → SaysName at.gnb (Some (c.up, c.du)) (if t then du_release way at a.du false ∷ [] else (xn_cancel way at ∷ []))
        of_kind a true = ((tt, λ w. absurd cc), tt)
        of_kind a false = (tt, tt)

        by : (o : Option Attempt) → SaysName at.gnb (Some (c.up, c.du)) (give_up_attempt way at o)
        by None = tt
        by (Some a) = of_kind a (is_between_dus a.kind)

    pub arrives_names : (epoch : ℕ) (t : CuCpTerminal) (c : CuCpContext) (a : Attempt) → Good c a → a.du ≡ c.du → Fits (arrives way at epoch t c a)
    unfolding arrives kind_of
    arrives_names epoch t c a n same = (
      record { paths = n.paths; downlinks = n.downlinks; down = n.down; up = n.up; awaits = n.awaits; at_goal = λ g. same; sn = n.sn },
      (((subst (λ (du : ℕ). DuList is.owners at.gnb du at.ue a.downlinks) same n.downlinks, tt), λ w. (refl, refl)), ((n.paths, λ w. tt), tt)),
    )

    pub arrives_again_names : (epoch : ℕ) (t : CuCpTerminal) (c : CuCpContext) (a : Attempt) → Good c a → a.du ≡ c.du → Fits (arrives_again way at epoch t c a)
    unfolding arrives_again kind_of
    arrives_again_names epoch t c a n same = (
      record { paths = n.paths; downlinks = n.downlinks; down = n.down; up = n.up; awaits = n.awaits; at_goal = λ g. same; sn = n.sn },
      ((tt, λ w. (refl, asked_here c a same)), ((n.paths, λ w. tt), tt)),
    )
