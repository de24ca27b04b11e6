-- The answers and tokens of a CU-CP: which row is made of them, by the state of the terminal. A DU's answer may give its tunnels to the
-- attempt that awaits it.
use Rattle.std.proofs.Common.{◌≡◌, ◌==◌, ℕ, ◌+◌, Bool, true, false, ◌⊎◌, inl, inr, not, ◌&&◌, List, [], ◌∷◌, Option, Some, None, refl, sym, ap, ◌∙◌}
use Rattle.std.specs.Prelude.{if◌then◌else◌}
use Rattle.gnb_types.specs.declared.names.NodeId.{NodeId}
use Rattle.gnb_types.specs.declared.names.NodeId.TheVariants.{Du}
use Rattle.gnb_types.specs.declared.names.BearerId.{BearerId}
use Rattle.gnb_types.specs.declared.plans.Tunnel.{Tunnel}
use Rattle.gnb_types.specs.declared.reasons.CauseName.{CauseName}
use Rattle.message_types.specs.declared.f1.F1.TheVariants as f1s
use Rattle.message_types.specs.declared.e1.E1Message.TheVariants as e1s
use Rattle.message_types.specs.declared.xn.XnMessage.TheVariants as xns
use Rattle.message_types.specs.declared.xn.CoreMessage.TheVariants as cores
use Rattle.message_types.specs.declared.rrc.Token.{Token}
use Rattle.message_types.specs.declared.rrc.Token.TheVariants as tokens
use Rattle.unit_defs.specs.declared.StateName.{StateName}
use Rattle.unit_defs.specs.declared.StateName.TheVariants as states
use Rattle.unit_defs.specs.declared.AttemptKind.{AttemptKind}
use Rattle.unit_defs.specs.Ways.{Message, f1, e1, xn, core, Way}
use Rattle.unit_defs.specs.Messages.{channel, cause_name, are_bearers, statuses_of}
use Rattle.unit_defs.specs.CuCpRecords.{Awaited, Attempt, CuCpContext, CuCpTerminal, same_node, bearers_in, Row, answered, awaits_answer}
use Rattle.unit_defs.specs.CuCpRows.{CuCpScope, own_du, name_bearers, is_between_dus, is_between_gnbs, attach_has_tunnels, attach_is_placed, attach_fails, move_has_uplinks, move_is_placed, handover_is_acknowledged, handover_is_declined, handover_is_frozen, handover_is_not_frozen, offer_has_tunnels, offer_is_declined, offer_is_placed, place_is_renewed}
use Rattle.unit_defs.specs.CuCp.{listed, caused, only_closes, in_attaching, in_moving, in_preparing, in_prepared, in_offered, in_switching, in_releasing, in_state, Answered, answers_none, answers_with, answer_of, answer_on, answer, is_complete, is_reestablish, is_epoch, is_own_command, may_return, is_too_early, is_ready, token_in_ready, token_of_return, token_of_attempt, token_by_attempt, token_on, token_row, token_ue, no_context_first}
use Rattle.proof_unit_steps.specs.tunnel_names.Names.{Property, OwnDuList, NamesFor}
use Rattle.proof_unit_steps.specs.tunnel_names.CuCps.{asked_du, AwaitedOf, is_at_goal, AttemptNames, ContextNames, TerminalNames}
use Rattle.proof_unit_steps.proofs.tunnel_names.Rows.{dus_not_gnbs, asked_there}
use Rattle.proof_unit_steps.proofs.tunnel_names.Answers.{awaited_from, in_ready, both}
use Rattle.proof_unit_steps.specs.downlink_names.Places.{DownlinkTeid, du_of_teid, Grant, Place, away, known, Gives, Granted, OnAnswer}
use Rattle.proof_unit_steps.specs.downlink_names.Claims.{is_used, HeldIn, HeldBy}
use Rattle.proof_unit_steps.proofs.downlink_names.Moves.{take, take_gives}
use Rattle.proof_unit_steps.proofs.downlink_names.Rows.{RowIs, Knows, row_if, attach_has, attach_placed, attach_failed, move_has, move_placed, acknowledged_is, declined_is, frozen_is, not_frozen_is, offer_has, offer_declined, offer_placed, renewed_is, switched_is, path_is, completes_is, completes_again_is, returns_is, arrives_is, arrives_again_is}

-- in these states the attempt may still say so
unused_ready : {M C P : Type 0} (way : Way M C P) (state : StateName) → is_ready way state ≡ true → is_used state ≡ false
unused_ready way states.Ready h = refl
unused_ready way state h = absurd cc

unused_command : {M C P : Type 0} (way : Way M C P) (state : StateName) (kind : AttemptKind) → is_own_command way state kind ≡ true → is_used state ≡ false
unused_command way states.Commanded kind h = refl
unused_command way state kind h = absurd cc

module _ (d : DownlinkTeid) {M C P : Type 0} {way : Way M C P} (is : Property way) (at : CuCpScope) (g : Option Grant) (p : Place) where
  abbrev Held : CuCpContext → Attempt → Type 0
  Held c a = HeldIn d p at.ue c.state (Some a)

  -- ---- an awaited answer: its row is as it should be where the TEID is, or where it is once it was taken from the answer

  module _ (from : NodeId) (instance : ℕ) where
    abbrev pub taken : Place
    taken = take g (channel at.ue.0 from) instance at.ue.0 p

    abbrev pub Fits : Row C → Type 0
    Fits what = RowIs d p at.ue what ⊎ RowIs d taken at.ue what

    abbrev pub FitsIf : Option (Row C) → Type 0
    FitsIf None = Unit {0}
    FitsIf (Some what) = Fits what

    abbrev pub AnsweredIs : Answered way → Type 0
    AnsweredIs answers_none = Unit {0}
    AnsweredIs (answers_with o) = FitsIf o

    -- the answer is of the request that is open
    abbrev pub IsFresh : Type 0
    IsFresh = (b : BearerId) → g ≡ Some (record { channel = channel at.ue.0 from; instance = instance; bearer = b }) → (p ≡ away → ⊥) → ⊥

    abbrev pub IsGiven : Message C → Type 0
    IsGiven m = from ≡ du_of_teid d → OnAnswer (λ u i list. Granted d.teid g (channel at.ue.0 from) instance list) m

    listed_is : (b : Bool) (x : Row C) → Fits x → FitsIf (listed way b x)
    listed_is true x h = h
    listed_is false x h = tt

    caused_is : (o : Option CauseName) (f : CauseName → Row C) → ((name : CauseName) → Fits (f name)) → FitsIf (caused way o f)
    caused_is None f h = tt
    caused_is (Some name) f h = h name

    if_fits : (b : Bool) (x y : Option (Row C)) → (b ≡ true → FitsIf x) → (b ≡ false → FitsIf y) → FitsIf (if b then x else y)
    if_fits true x y h k = h refl
    if_fits false x y h k = k refl

    -- it is of the DU that was asked
    from_here : (up du : ℕ) (n : NodeId) (list : List Tunnel) → at.gnb ≡ d.gnb → AwaitedOf at.gnb up du n → OwnDuList is.owners n at.ue list → du ≡ d.du → n ≡ du_of_teid d
    from_here up du (Du gnb number) list own w names same = λ i. Du ((w.0 ∙ own) i) ((w.1 ∙ same) i)
    from_here up du n list own w names same = absurd names

    module _ (t : CuCpTerminal) (c : CuCpContext) (a : Attempt) (own : at.gnb ≡ d.gnb) (w : AwaitedOf at.gnb c.up (asked_du c a) from) (fresh : IsFresh) (held : Held c a) where
      gives_of : (list : List Tunnel) → OwnDuList is.owners from at.ue list → (from ≡ du_of_teid d → Granted d.teid g (channel at.ue.0 from) instance list)
          → asked_du c a ≡ d.du → Gives d.teid taken (known at.ue.0) list
      gives_of list names given same =
          take_gives d.teid g (channel at.ue.0 from) instance at.ue.0 p list (given (from_here c.up (asked_du c a) from list own w names same)) fresh

      at_one : a.du ≡ c.du → asked_du c a ≡ a.du
      at_one same = by (is_between_gnbs a.kind)
        where
          by : (b : Bool) → (if b then c.du else a.du) ≡ a.du
          by true = sym same
          by false = refl

      -- its tunnels are the attempt's then
      knows_of : (list : List Tunnel) → OwnDuList is.owners from at.ue list → (from ≡ du_of_teid d → Granted d.teid g (channel at.ue.0 from) instance list)
          → asked_du c a ≡ a.du → Knows d way at taken (record a { downlinks = list })
      knows_of list names given same = λ du. gives_of list names given (same ∙ du)

      closes_is : Fits (only_closes way t c a)
      closes_is = inl (inl (tt, held))

      -- where the attempt may still say so it knows its tunnels
      knows : is_used c.state ≡ false → Knows d way at p a
      knows unused = held unused

      attaching_is : (m : Message C) → NamesFor is.owners from at.ue m → IsGiven m → is_used c.state ≡ false → a.du ≡ c.du → FitsIf (in_attaching way at m t c a)
      attaching_is (e1 (e1s.BearerContextSetupResponse ue i uplinks paths down up)) names given unused same =
          listed_is (name_bearers c uplinks && name_bearers c paths) (attach_has_tunnels way at uplinks paths t c a)
          (inl (attach_has d way at p uplinks paths t c a (knows unused)))
      attaching_is (e1 (e1s.BearerContextSetupFailure ue i cause)) names given unused same =
          caused_is (cause_name cause) (λ name. attach_fails way name t) (λ name. inl (attach_failed d way at p name t))
      attaching_is (f1 (f1s.UeContextSetupResponse ue i downlinks)) names given unused same =
          listed_is (name_bearers c downlinks) (attach_is_placed way at downlinks t c a)
          (inr (attach_placed d way at taken downlinks t c a (knows_of downlinks names given (at_one same))))
      attaching_is m names given unused same = closes_is

      moving_is : (m : Message C) → NamesFor is.owners from at.ue m → IsGiven m → is_used c.state ≡ false → is_between_gnbs a.kind ≡ false
          → FitsIf (in_moving way at m t c a)
      moving_is (e1 (e1s.BearerContextModificationResponse ue i (Some uplinks) statuses)) names given unused mine =
          listed_is (name_bearers c uplinks) (move_has_uplinks way at uplinks t c a) (inl (move_has d way at p uplinks t c a (knows unused)))
      moving_is (e1 (e1s.BearerContextModificationResponse ue i None statuses)) names given unused mine = tt
      moving_is (f1 (f1s.UeContextSetupResponse ue i downlinks)) names given unused mine =
          listed_is (name_bearers c downlinks) (move_is_placed way downlinks t c a)
          (inr (move_placed d way at taken downlinks t c a (knows_of downlinks names given (sym (asked_there c a mine)))))
      moving_is m names given unused mine = closes_is

      preparing_is : (m : Message C) → is_used c.state ≡ false → FitsIf (in_preparing way at m t c a)
      preparing_is (xn (xns.HandoverRequestAcknowledge ue i peer down up)) unused =
          listed_is (name_bearers c down && name_bearers c up) (handover_is_acknowledged way at peer down up t c a)
          (inl (acknowledged_is d way at p peer down up t c a (knows unused)))
      preparing_is (xn (xns.HandoverPreparationFailure ue i cause)) unused =
          caused_is (cause_name cause) (λ name. handover_is_declined way name t c) (λ name. inl (declined_is d way at p name t c))
      preparing_is m unused = closes_is

      prepared_is : (m : Message C) → is_used c.state ≡ false → FitsIf (in_prepared way at m t c a)
      prepared_is (e1 (e1s.BearerContextModificationResponse ue i uplinks (Some statuses))) unused =
          listed_is (are_bearers (bearers_in c) (statuses_of statuses)) (handover_is_frozen way at statuses t c a)
          (inl (frozen_is d way at p statuses t c a (knows unused)))
      prepared_is (e1 (e1s.BearerContextModificationResponse ue i uplinks None)) unused = tt
      prepared_is (e1 (e1s.BearerContextModificationFailure ue i cause)) unused =
          caused_is (cause_name cause) (λ name. handover_is_not_frozen way at name t c) (λ name. inl (not_frozen_is d way at p name t c))
      prepared_is m unused = closes_is

      offered_is : (m : Message C) → NamesFor is.owners from at.ue m → IsGiven m → is_used c.state ≡ false → a.du ≡ c.du → FitsIf (in_offered way at m t c a)
      offered_is (e1 (e1s.BearerContextSetupResponse ue i uplinks paths (Some down) (Some up))) names given unused same =
          listed_is (name_bearers c uplinks && name_bearers c paths && name_bearers c down && name_bearers c up) (offer_has_tunnels way at uplinks paths down up t c a)
          (inl (offer_has d way at p uplinks paths down up t c a (knows unused)))
      offered_is (e1 (e1s.BearerContextSetupResponse ue i uplinks paths down up)) names given unused same = tt
      offered_is (e1 (e1s.BearerContextSetupFailure ue i cause)) names given unused same =
          caused_is (cause_name cause) (λ name. offer_is_declined way at cause t a) (λ name. inl (offer_declined d way at p cause t a))
      offered_is (f1 (f1s.UeContextSetupResponse ue i downlinks)) names given unused same =
          listed_is (name_bearers c downlinks) (offer_is_placed way at downlinks t c a)
          (inr (offer_placed d way at taken downlinks t c a (knows_of downlinks names given (at_one same))))
      offered_is m names given unused same = closes_is

      switching_is : (m : Message C) → NamesFor is.owners from at.ue m → IsGiven m → is_used c.state ≡ true → a.du ≡ c.du → FitsIf (in_switching way at m t c a)
      switching_is (f1 (f1s.UeContextModificationResponse ue i downlinks)) names given used same =
          listed_is (name_bearers c downlinks) (place_is_renewed way at downlinks t c a)
          (inr (renewed_is d way at taken downlinks t c a used (λ du. gives_of downlinks names given (at_one same ∙ same ∙ du))))
      switching_is (e1 (e1s.BearerContextModificationResponse ue i uplinks statuses)) names given used same = inl (switched_is d way at p t c a used)
      switching_is (core (cores.PathSwitchAcknowledge ue i)) names given used same = inl (path_is d way at p t c a used)
      switching_is m names given used same = closes_is

      releasing_is : (ws : List Awaited) → Fits (in_releasing way t c a ws)
      releasing_is [] = inl (inl (tt, tt))
      releasing_is (v ∷ vs) = closes_is

      state_is : (m : Message C) → NamesFor is.owners from at.ue m → IsGiven m → (state : StateName) → c.state ≡ state
          → (is_at_goal state a.kind ≡ true → a.du ≡ c.du) → FitsIf (in_state way at m t c state a)
      state_is m names given states.Attaching same goal = attaching_is m names given (ap is_used same) (goal refl)
      state_is m names given states.Preparing same goal =
          if_fits (is_between_dus a.kind) _ _ (λ e. moving_is m names given (ap is_used same) (dus_not_gnbs a.kind e))
          (λ e. preparing_is m (ap is_used same))
      state_is m names given states.Prepared same goal = prepared_is m (ap is_used same)
      state_is m names given states.Offered same goal = offered_is m names given (ap is_used same) (goal refl)
      state_is m names given states.Returning same goal = switching_is m names given (ap is_used same) (goal refl)
      state_is m names given states.Arrived same goal = switching_is m names given (ap is_used same) (goal refl)
      state_is m names given states.Completing same goal =
          if_fits (is_between_gnbs a.kind) _ _ (λ e. releasing_is a.awaits)
          (λ e. switching_is m names given (ap is_used same) (goal (ap (λ (b : Bool). not b) e)))
      state_is m names given state same goal = closes_is

    pub answer_is : (m : Message C) (t : CuCpTerminal) → at.gnb ≡ d.gnb → NamesFor is.owners from at.ue m → IsGiven m → IsFresh
        → TerminalNames is at.gnb at.ue t.context → HeldBy d p at.ue t.context → AnsweredIs (answer way at from instance m t)
    unfolding answer
    answer_is m t own names given fresh n h = by t.context n h
      where
        awaited : (c : CuCpContext) (a : Attempt) → AttemptNames is at.gnb at.ue c a → Held c a → (b : Bool) → awaits_answer a from instance ≡ b
            → AnsweredIs (if b then answers_with (in_state way at m t c c.state (answered a from)) else answers_none)
        awaited c a n held true e =
            state_is t c (answered a from) own (awaited_from at.gnb c.up (asked_du c a) from instance a.awaits n.awaits e) fresh held m names given c.state refl n.at_goal
        awaited c a n held false e = tt

        of_attempt : (c : CuCpContext) (o : Option Attempt) → ContextNames is at.gnb at.ue c o → HeldIn d p at.ue c.state o → AnsweredIs (answer_of way at from instance m t c o)
        of_attempt c None n held = tt
        of_attempt c (Some a) n held = awaited c a n held (awaits_answer a from instance) refl

        by : (o : Option CuCpContext) → TerminalNames is at.gnb at.ue o → HeldBy d p at.ue o → AnsweredIs (answer_on way at from instance m t o)
        by None n held = tt
        by (Some c) n held = of_attempt c c.attempt n held

  -- ---- a token

  abbrev Tells : Row C → Type 0
  Tells what = RowIs d p at.ue what

  module _ (from : NodeId) (token : Token) (epoch : ℕ) (t : CuCpTerminal) (h : HeldBy d p at.ue t.context) where
    ready_is : (c : CuCpContext) (a : Attempt) → AttemptNames is at.gnb at.ue c a → Held c a → Tells (token_in_ready way at from token epoch t c a)
    ready_is c a n held =
        row_if d way at p (not (is_ready way c.state && same_node from (own_du at c.du))) _ _ (λ e. inl ((tt, tt), h))
        (λ e. let ready = (both (is_ready way c.state) (same_node from (own_du at c.du)) e).0 in
        row_if d way at p (is_complete way token && a.epoch == epoch) _ _
        (λ f. arrives_is d way at p epoch t c a (held (unused_ready way c.state ready)) (n.at_goal (in_ready way c.state a.kind ready)))
        (λ f. row_if d way at p (is_reestablish way token && a.epoch + 1 == epoch) _ _ (λ k. arrives_again_is d way at p epoch t c a)
        (λ k. inl ((tt, tt), h))))

    return_is : (c : CuCpContext) (a : Attempt) → AttemptNames is at.gnb at.ue c a → Held c a → Tells (token_of_return way at from token epoch t c a)
    return_is c a n held =
        row_if d way at p (is_reestablish way token && is_epoch way c.epoch 1 epoch && same_node from (own_du at c.du)) _ _
        (λ e. row_if d way at p (may_return way c.state a.kind) _ _ (λ f. returns_is d way at p epoch t c)
        (λ f. row_if d way at p (is_too_early way c.state a.kind) _ _ (λ k. inl ((tt, tt), h)) (λ k. ready_is c a n held))) (λ e. ready_is c a n held)

    attempt_is : (c : CuCpContext) (a : Attempt) → AttemptNames is at.gnb at.ue c a → Held c a → Tells (token_of_attempt way at from token epoch t c a)
    attempt_is c a n held =
        row_if d way at p (not (is_own_command way c.state a.kind && same_node from (own_du at a.du))) _ _ (λ e. return_is c a n held)
        (λ e. let mine = (both (is_own_command way c.state a.kind) (same_node from (own_du at a.du)) e).0 in
        row_if d way at p (is_complete way token && is_epoch way c.epoch 1 epoch) _ _
        (λ f. completes_is d way at p epoch t c a (held (unused_command way c.state a.kind mine)))
        (λ f. row_if d way at p (is_reestablish way token && is_epoch way c.epoch 2 epoch) _ _ (λ k. completes_again_is d way at p epoch t c a)
        (λ k. return_is c a n held)))

    by_attempt_is : (c : CuCpContext) (o : Option Attempt) → ContextNames is at.gnb at.ue c o → HeldIn d p at.ue c.state o
        → Tells (token_by_attempt way at from token epoch t c o)
    by_attempt_is c None n held =
        row_if d way at p (is_reestablish way token && is_epoch way c.epoch 1 epoch && same_node from (own_du at c.du)) _ _
        (λ e. returns_is d way at p epoch t c) (λ e. inl ((tt, tt), h))
    by_attempt_is c (Some a) n held = attempt_is c a n held

    on_is : (o : Option CuCpContext) → TerminalNames is at.gnb at.ue o → HeldBy d p at.ue o → Tells (token_on way at from token epoch t o)
    on_is None n held = inl ((tt, tt), h)
    on_is (Some c) n held =
        row_if d way at p (is_epoch way c.epoch 0 epoch && c.finished) _ _ (λ e. inl ((tt, tt), h)) (λ e. by_attempt_is c c.attempt n held)

  token_is : (from : NodeId) (t : CuCpTerminal) (token : Token) → TerminalNames is at.gnb at.ue t.context → HeldBy d p at.ue t.context
      → Tells (token_row way at from t token)
  token_is from t (tokens.Complete ue epoch) n h = on_is from (tokens.Complete ue epoch) epoch t h t.context n h
  token_is from t (tokens.Reestablish ue epoch) n h = on_is from (tokens.Reestablish ue epoch) epoch t h t.context n h
  token_is from t token n h = inl ((tt, tt), h)

  pub container_is : (from : NodeId) (t : CuCpTerminal) (c : Option CuCpContext) (token : Option Token) → TerminalNames is at.gnb at.ue t.context
      → HeldBy d p at.ue t.context → Tells (no_context_first way at from t c token)
  container_is from t None token n h = inl ((tt, tt), h)
  container_is from t (Some c) None n h = inl ((tt, tt), h)
  container_is from t (Some c) (Some token) n h =
      row_if d way at p ((token_ue way token).0 == at.ue.0) _ _ (λ e. token_is from t token n h) (λ e. inl ((tt, tt), h))
