-- The answers and tokens of a CU-CP: which row is made of them, by the state of the terminal.
use Rattle.std.proofs.Common.{◌≡◌, ◌==◌, ℕ, ◌+◌, Bool, true, false, not, ◌&&◌, ◌||◌, List, [], ◌∷◌, Option, Some, None, refl, sym, ap, subst}
use Rattle.std.proofs.lemmas.Bool.{and_parts}
use Rattle.std.specs.Prelude.{if◌then◌else◌}
use Rattle.std.specs.List.{AllByRecursion, list_any}
use Rattle.std.specs.Cmp.{Equal-is}
use Rattle.gnb_types.specs.declared.names.Gnb.{Gnb}
use Rattle.gnb_types.specs.declared.names.NodeId.{NodeId}
use Rattle.gnb_types.specs.declared.names.NodeId.TheVariants.{CuUp, Du}
use Rattle.gnb_types.specs.declared.plans.Tunnel.{Tunnel}
use Rattle.gnb_types.specs.declared.reasons.CauseName.{CauseName}
use Rattle.gnb_types.specs.Orders.{node_cmp}
use Rattle.gnb_types.proofs.OrderLemmas.{node_exact}
use Rattle.message_types.specs.declared.f1.F1.TheVariants as f1s
use Rattle.message_types.specs.declared.e1.E1Message.TheVariants as e1s
use Rattle.message_types.specs.declared.xn.XnMessage.TheVariants as xns
use Rattle.message_types.specs.declared.xn.CoreMessage.TheVariants as cores
use Rattle.message_types.specs.declared.rrc.Token.{Token}
use Rattle.message_types.specs.declared.rrc.Token.TheVariants as tokens
use Rattle.unit_defs.specs.declared.StateName.{StateName}
use Rattle.unit_defs.specs.declared.StateName.TheVariants as states
use Rattle.unit_defs.specs.declared.AttemptKind.{AttemptKind}
use Rattle.unit_defs.specs.declared.AttemptKind.TheVariants as kinds
use Rattle.unit_defs.specs.Ways.{Message, f1, e1, xn, core, Way}
use Rattle.unit_defs.specs.Transactions.{kind_of}
use Rattle.unit_defs.specs.Messages.{cause_name, are_bearers, statuses_of}
use Rattle.unit_defs.specs.CuUpRecords.{TunnelKind, n3, f1u_uplink, forwarding_down, forwarding_up}
use Rattle.unit_defs.specs.CuCpRecords.{Awaited, Attempt, CuCpContext, CuCpTerminal, same_node, bearers_in, Row, is_from, answered, is_instance, awaits_answer}
use Rattle.unit_defs.specs.CuCpRows.{CuCpScope, own_du, name_bearers, is_between_dus, is_between_gnbs, attach_has_tunnels, attach_is_placed, attach_fails, move_has_uplinks, move_is_placed, handover_is_acknowledged, handover_is_declined, handover_is_frozen, handover_is_not_frozen, offer_has_tunnels, offer_is_declined, offer_is_placed, place_is_renewed}
use Rattle.unit_defs.specs.CuCp.{listed, caused, only_closes, in_attaching, in_moving, in_preparing, in_prepared, in_offered, in_switching, in_releasing, in_state, Answered, answers_none, answers_with, answer_of, answer_on, answer, is_complete, is_reestablish, is_epoch, is_own_command, may_return, is_too_early, is_ready, token_in_ready, token_of_return, token_of_attempt, token_by_attempt, token_on, token_row, token_ue, no_context_first}
use Rattle.intervals.proofs.Intervals.{all_filter}
use Rattle.proof_unit_steps.specs.tunnel_names.Names.{Property, IfAny, CuUpList, DuList, OwnUpList, OwnDuList, NamesFor}
use Rattle.proof_unit_steps.specs.tunnel_names.CuCps.{asked_du, AwaitedOf, is_at_goal, AttemptNames, ContextNames, TerminalNames}
use Rattle.proof_unit_steps.proofs.tunnel_names.Rows.{dus_not_gnbs, asked_there, RowNames, row_if, attach_has_names, attach_placed_names, attach_fails_names, move_has_names, move_placed_names, acknowledged_names, declined_names, frozen_names, not_frozen_names, offer_has_names, offer_declined_names, offer_placed_names, renewed_names, switched_names, path_names, completes_names, completes_again_names, returns_names, arrives_names, arrives_again_names}

-- who is awaited is this node
pub awaited_from : (gnb : Gnb) (up du : ℕ) (node : NodeId) (instance : ℕ) (ws : List Awaited) → AllByRecursion (λ (w : Awaited). AwaitedOf gnb up du w.from) ws
    → list_any (λ w. is_from node w && is_instance w.instance instance) ws ≡ true → AwaitedOf gnb up du node
awaited_from gnb up du node instance [] all h = absurd cc
awaited_from gnb up du node instance (w ∷ ws) all h =
    by (awaited_from gnb up du node instance ws all.1) (is_from node w && is_instance w.instance instance) refl h
  where
    by : (list_any (λ v. is_from node v && is_instance v.instance instance) ws ≡ true → AwaitedOf gnb up du node)
        → (t : Bool) → (is_from node w && is_instance w.instance instance) ≡ t
        → (t || list_any (λ v. is_from node v && is_instance v.instance instance) ws) ≡ true → AwaitedOf gnb up du node
    by later true e k =
        let same : w.from ≡ node =
        node_exact w.from node ((Equal-is (node_cmp w.from node)).0 (and_parts (is_from node w) (is_instance w.instance instance) e).0) in
        subst (AwaitedOf gnb up du) same all.0
    by later false e k = later k

pub in_ready : {M C P : Type 0} (way : Way M C P) (state : StateName) (kind : AttemptKind) → is_ready way state ≡ true → is_at_goal state kind ≡ true
in_ready way states.Ready kind h = refl
in_ready way state kind h = absurd cc

pub own_command : {M C P : Type 0} (way : Way M C P) (state : StateName) (kind : AttemptKind) → is_own_command way state kind ≡ true → is_between_gnbs kind ≡ false
own_command way states.Commanded kinds.Attach h = refl
own_command way states.Commanded kinds.BetweenDus h = refl
own_command way state kind h = absurd cc

pub both : (a b : Bool) → not (a && b) ≡ false → (a ≡ true) × (b ≡ true)
both true true h = (refl, refl)
both true false h = absurd cc
both false b h = absurd cc

module _ {M C P : Type 0} {way : Way M C P} (is : Property way) (at : CuCpScope) where
  abbrev Fits : Row C → Type 0
  Fits what = RowNames is at.gnb at.ue what

  abbrev FitsIf : Option (Row C) → Type 0
  FitsIf o = IfAny Fits o

  abbrev FitsOf : CuCpTerminal → Type 0
  FitsOf t = TerminalNames is at.gnb at.ue t.context

  abbrev Good : CuCpContext → Attempt → Type 0
  Good c a = AttemptNames is at.gnb at.ue c a

  -- a response of an awaited node names tunnels of the attempt's CU-UP, or DU
  from_up : (up du : ℕ) (from : NodeId) (kind : TunnelKind) (ts : List Tunnel) → AwaitedOf at.gnb up du from → OwnUpList is.owners from kind at.ue ts
      → CuUpList is.owners at.gnb up kind at.ue ts
  from_up up du (CuUp gnb number) kind ts w p =
      subst (λ (g : Gnb). CuUpList is.owners g up kind at.ue ts) w.0 (subst (λ (n : ℕ). CuUpList is.owners gnb n kind at.ue ts) w.1 p)
  from_up up du from kind ts w p = absurd p

  from_du : (up du : ℕ) (from : NodeId) (ts : List Tunnel) → AwaitedOf at.gnb up du from → OwnDuList is.owners from at.ue ts → DuList is.owners at.gnb du at.ue ts
  from_du up du (Du gnb number) ts w p =
      subst (λ (g : Gnb). DuList is.owners g du at.ue ts) w.0 (subst (λ (n : ℕ). DuList is.owners gnb n at.ue ts) w.1 p)
  from_du up du from ts w p = absurd p

  listed_names : (b : Bool) (x : Row C) → Fits x → FitsIf (listed way b x)
  listed_names true x p = p
  listed_names false x p = tt

  caused_names : (o : Option CauseName) (f : CauseName → Row C) → ((name : CauseName) → Fits (f name)) → FitsIf (caused way o f)
  caused_names None f p = tt
  caused_names (Some name) f p = p name

  -- ---- an awaited answer

  module _ (from : NodeId) (t : CuCpTerminal) (c : CuCpContext) (a : Attempt) (n : Good c a) (w : AwaitedOf at.gnb c.up (asked_du c a) from) where
    ups : (kind : TunnelKind) (ts : List Tunnel) → OwnUpList is.owners from kind at.ue ts → CuUpList is.owners at.gnb c.up kind at.ue ts
    ups kind ts p = from_up c.up (asked_du c a) from kind ts w p

    -- tunnels of the DU that is asked, where that is the attempt's
    dus : (ts : List Tunnel) → a.du ≡ asked_du c a → OwnDuList is.owners from at.ue ts → DuList is.owners at.gnb a.du at.ue ts
    dus ts same p = subst (λ (du : ℕ). DuList is.owners at.gnb du at.ue ts) (sym same) (from_du c.up (asked_du c a) from ts w p)

    -- at the goal the two are one
    at_one : a.du ≡ c.du → a.du ≡ asked_du c a
    at_one same = by (is_between_gnbs a.kind)
      where
        by : (b : Bool) → a.du ≡ (if b then c.du else a.du)
        by true = same
        by false = refl

    closes_names : Fits (only_closes way t c a)
    closes_names = (record { paths = n.paths; downlinks = n.downlinks; down = n.down; up = n.up; awaits = n.awaits; at_goal = n.at_goal; sn = n.sn }, tt)

    attaching_names : (m : Message C) → NamesFor is.owners from at.ue m → a.du ≡ c.du → FitsIf (in_attaching way at m t c a)
    attaching_names (e1 (e1s.BearerContextSetupResponse ue instance uplinks paths down up)) p same =
        listed_names (name_bearers c uplinks && name_bearers c paths) (attach_has_tunnels way at uplinks paths t c a)
        (attach_has_names is at uplinks paths t c a n same (ups f1u_uplink uplinks p.0) (ups n3 paths p.1))
    attaching_names (e1 (e1s.BearerContextSetupFailure ue instance cause)) p same =
        caused_names (cause_name cause) (λ name. attach_fails way name t) (λ name. attach_fails_names is at name t)
    attaching_names (f1 (f1s.UeContextSetupResponse ue instance downlinks)) p same =
        listed_names (name_bearers c downlinks) (attach_is_placed way at downlinks t c a) (attach_placed_names is at downlinks t c a n (dus downlinks (at_one same) p))
    attaching_names m p same = closes_names

    moving_names : (m : Message C) → NamesFor is.owners from at.ue m → is_between_gnbs a.kind ≡ false → FitsIf (in_moving way at m t c a)
    moving_names (e1 (e1s.BearerContextModificationResponse ue instance (Some uplinks) statuses)) p own =
        listed_names (name_bearers c uplinks) (move_has_uplinks way at uplinks t c a) (move_has_names is at uplinks t c a n own (ups f1u_uplink uplinks p))
    moving_names (e1 (e1s.BearerContextModificationResponse ue instance None statuses)) p own = tt
    moving_names (f1 (f1s.UeContextSetupResponse ue instance downlinks)) p own =
        listed_names (name_bearers c downlinks) (move_is_placed way downlinks t c a) (move_placed_names is at downlinks t c a n (dus downlinks (asked_there c a own) p))
    moving_names m p own = closes_names

    preparing_names : (m : Message C) → NamesFor is.owners from at.ue m → FitsIf (in_preparing way at m t c a)
    preparing_names (xn (xns.HandoverRequestAcknowledge ue instance peer down up)) p =
        listed_names (name_bearers c down && name_bearers c up) (handover_is_acknowledged way at peer down up t c a)
        (acknowledged_names is at peer down up t c a n p.0 p.1)
    preparing_names (xn (xns.HandoverPreparationFailure ue instance cause)) p =
        caused_names (cause_name cause) (λ name. handover_is_declined way name t c) (λ name. declined_names is at name t c n.sn)
    preparing_names m p = closes_names

    prepared_names : (m : Message C) → FitsIf (in_prepared way at m t c a)
    prepared_names (e1 (e1s.BearerContextModificationResponse ue instance uplinks (Some statuses))) =
        listed_names (are_bearers (bearers_in c) (statuses_of statuses)) (handover_is_frozen way at statuses t c a) (frozen_names is at statuses t c a n)
    prepared_names (e1 (e1s.BearerContextModificationResponse ue instance uplinks None)) = tt
    prepared_names (e1 (e1s.BearerContextModificationFailure ue instance cause)) =
        caused_names (cause_name cause) (λ name. handover_is_not_frozen way at name t c) (λ name. not_frozen_names is at name t c n.sn)
    prepared_names m = closes_names

    offered_names : (m : Message C) → NamesFor is.owners from at.ue m → a.du ≡ c.du → FitsIf (in_offered way at m t c a)
    offered_names (e1 (e1s.BearerContextSetupResponse ue instance uplinks paths (Some down) (Some up))) p same =
        listed_names (name_bearers c uplinks && name_bearers c paths && name_bearers c down && name_bearers c up) (offer_has_tunnels way at uplinks paths down up t c a)
        (offer_has_names is at uplinks paths down up t c a n same (ups f1u_uplink uplinks p.0) (ups n3 paths p.1) (ups forwarding_down down p.2)
        (ups forwarding_up up p.3))
    offered_names (e1 (e1s.BearerContextSetupResponse ue instance uplinks paths down up)) p same = tt
    offered_names (e1 (e1s.BearerContextSetupFailure ue instance cause)) p same =
        caused_names (cause_name cause) (λ name. offer_is_declined way at cause t a) (λ name. offer_declined_names is at cause t a)
    offered_names (f1 (f1s.UeContextSetupResponse ue instance downlinks)) p same =
        listed_names (name_bearers c downlinks) (offer_is_placed way at downlinks t c a)
        (offer_placed_names is at downlinks t c a n same (dus downlinks (at_one same) p))
    offered_names m p same = closes_names

    switching_names : (m : Message C) → NamesFor is.owners from at.ue m → a.du ≡ c.du → FitsIf (in_switching way at m t c a)
    switching_names (f1 (f1s.UeContextModificationResponse ue instance downlinks)) p same =
        listed_names (name_bearers c downlinks) (place_is_renewed way at downlinks t c a)
        (renewed_names is at downlinks t c a n (subst (λ (du : ℕ). DuList is.owners at.gnb du at.ue downlinks) same (dus downlinks (at_one same) p)))
    switching_names (e1 (e1s.BearerContextModificationResponse ue instance uplinks statuses)) p same = switched_names is at t c a n
    switching_names (core (cores.PathSwitchAcknowledge ue instance)) p same = path_names is at t c a n
    switching_names m p same = closes_names

    releasing_names : (ws : List Awaited) → Fits (in_releasing way t c a ws)
    releasing_names [] = (tt, tt)
    releasing_names (v ∷ vs) = closes_names

    if_names : (b : Bool) (x y : Option (Row C)) → (b ≡ true → FitsIf x) → (b ≡ false → FitsIf y) → FitsIf (if b then x else y)
    if_names true x y p q = p refl
    if_names false x y p q = q refl

    state_names : (m : Message C) → NamesFor is.owners from at.ue m → (state : StateName) → (is_at_goal state a.kind ≡ true → a.du ≡ c.du)
        → FitsIf (in_state way at m t c state a)
    state_names m p states.Attaching goal = attaching_names m p (goal refl)
    state_names m p states.Preparing goal =
        if_names (is_between_dus a.kind) _ _ (λ e. moving_names m p (dus_not_gnbs a.kind e)) (λ e. preparing_names m p)
    state_names m p states.Prepared goal = prepared_names m
    state_names m p states.Offered goal = offered_names m p (goal refl)
    state_names m p states.Returning goal = switching_names m p (goal refl)
    state_names m p states.Arrived goal = switching_names m p (goal refl)
    state_names m p states.Completing goal =
        if_names (is_between_gnbs a.kind) _ _ (λ e. releasing_names a.awaits) (λ e. switching_names m p (goal (ap (λ (b : Bool). not b) e)))
    state_names m p state goal = closes_names

  abbrev pub AnsweredNames : Answered way → Type 0
  AnsweredNames answers_none = Unit {0}
  AnsweredNames (answers_with o) = FitsIf o

  answered_names : (from : NodeId) (c : CuCpContext) (a : Attempt) → Good c a → Good c (answered a from)
  answered_names from c a n = record {
    paths = n.paths;
    downlinks = n.downlinks;
    down = n.down;
    up = n.up;
    awaits = all_filter (λ (v : Awaited). AwaitedOf at.gnb c.up (asked_du c a) v.from) (λ v. not (is_from from v)) a.awaits n.awaits;
    at_goal = n.at_goal;
    sn = n.sn;
  }

  pub answer_names : (from : NodeId) (instance : ℕ) (m : Message C) (t : CuCpTerminal) → NamesFor is.owners from at.ue m → FitsOf t
      → AnsweredNames (answer way at from instance m t)
  unfolding answer
  answer_names from instance m t p h = by t.context h
    where
      awaited : (c : CuCpContext) (a : Attempt) → Good c a → (b : Bool) → awaits_answer a from instance ≡ b
          → AnsweredNames (if b then answers_with (in_state way at m t c c.state (answered a from)) else answers_none)
      awaited c a n true e =
          state_names from t c (answered a from) (answered_names from c a n) (awaited_from at.gnb c.up (asked_du c a) from instance a.awaits n.awaits e) m p c.state
          n.at_goal
      awaited c a n false e = tt

      of_attempt : (c : CuCpContext) (o : Option Attempt) → ContextNames is at.gnb at.ue c o → AnsweredNames (answer_of way at from instance m t c o)
      of_attempt c None n = tt
      of_attempt c (Some a) n = awaited c a n (awaits_answer a from instance) refl

      by : (o : Option CuCpContext) → TerminalNames is at.gnb at.ue o → AnsweredNames (answer_on way at from instance m t o)
      by None n = tt
      by (Some c) n = of_attempt c c.attempt n

  -- ---- a token

  module _ (from : NodeId) (token : Token) (epoch : ℕ) (t : CuCpTerminal) (h : FitsOf t) where
    ready_names : (c : CuCpContext) (a : Attempt) → Good c a → Fits (token_in_ready way at from token epoch t c a)
    ready_names c a n =
        row_if is at (not (is_ready way c.state && same_node from (own_du at c.du))) _ _ (λ e. (h, (tt, tt)))
        (λ e. let same : a.du ≡ c.du = n.at_goal (in_ready way c.state a.kind (both (is_ready way c.state) (same_node from (own_du at c.du)) e).0) in
        row_if is at (is_complete way token && a.epoch == epoch) _ _ (λ f. arrives_names is at epoch t c a n same)
        (λ f. row_if is at (is_reestablish way token && a.epoch + 1 == epoch) _ _ (λ g. arrives_again_names is at epoch t c a n same) (λ g. (h, (tt, tt)))))

    return_names : (c : CuCpContext) (a : Attempt) → Good c a → Fits (token_of_return way at from token epoch t c a)
    return_names c a n =
        row_if is at (is_reestablish way token && is_epoch way c.epoch 1 epoch && same_node from (own_du at c.du)) _ _
        (λ e. row_if is at (may_return way c.state a.kind) _ _ (λ f. returns_names is at epoch t c n.sn)
        (λ f. row_if is at (is_too_early way c.state a.kind) _ _ (λ g. (h, (tt, tt))) (λ g. ready_names c a n))) (λ e. ready_names c a n)

    attempt_names : (c : CuCpContext) (a : Attempt) → Good c a → Fits (token_of_attempt way at from token epoch t c a)
    attempt_names c a n =
        row_if is at (not (is_own_command way c.state a.kind && same_node from (own_du at a.du))) _ _ (λ e. return_names c a n)
        (λ e. let own : is_between_gnbs a.kind ≡ false =
        own_command way c.state a.kind (both (is_own_command way c.state a.kind) (same_node from (own_du at a.du)) e).0 in
        row_if is at (is_complete way token && is_epoch way c.epoch 1 epoch) _ _ (λ f. completes_names is at epoch t c a n own)
        (λ f. row_if is at (is_reestablish way token && is_epoch way c.epoch 2 epoch) _ _ (λ g. completes_again_names is at epoch t c a n own)
        (λ g. return_names c a n)))

    by_attempt_names : (c : CuCpContext) (o : Option Attempt) → ContextNames is at.gnb at.ue c o → Fits (token_by_attempt way at from token epoch t c o)
    by_attempt_names c None n =
        row_if is at (is_reestablish way token && is_epoch way c.epoch 1 epoch && same_node from (own_du at c.du)) _ _ (λ e. returns_names is at epoch t c n)
        (λ e. (h, (tt, tt)))
    by_attempt_names c (Some a) n = attempt_names c a n

    on_names : (o : Option CuCpContext) → TerminalNames is at.gnb at.ue o → Fits (token_on way at from token epoch t o)
    unfolding kind_of
    on_names None n = (h, (tt, tt))
    on_names (Some c) n =
        row_if is at (is_epoch way c.epoch 0 epoch && c.finished) _ _ (λ e. (h, (tt, tt))) (λ e. by_attempt_names c c.attempt n)

  token_names : (from : NodeId) (t : CuCpTerminal) (token : Token) → FitsOf t → Fits (token_row way at from t token)
  token_names from t (tokens.Complete ue epoch) h = on_names from (tokens.Complete ue epoch) epoch t h t.context h
  token_names from t (tokens.Reestablish ue epoch) h = on_names from (tokens.Reestablish ue epoch) epoch t h t.context h
  token_names from t token h = (h, (tt, tt))

  pub container_names : (from : NodeId) (t : CuCpTerminal) (c : Option CuCpContext) (token : Option Token) → FitsOf t → Fits (no_context_first way at from t c token)
  container_names from t None token h = (h, (tt, tt))
  container_names from t (Some c) None h = (h, (tt, tt))
  container_names from t (Some c) (Some token) h =
      row_if is at ((token_ue way token).0 == at.ue.0) _ _ (λ e. token_names from t token h) (λ e. (h, (tt, tt)))
