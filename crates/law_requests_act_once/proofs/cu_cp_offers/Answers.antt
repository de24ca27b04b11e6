-- The answers that an attempt awaits, and tokens: what each row leaves of offers, by the state of the terminal.
use Rattle.std.proofs.Common.{◌≡◌, ◌==◌, ℕ, ◌+◌, Bool, true, false, not, ◌&&◌, List, [], ◌∷◌, Option, Some, None, refl, sym, ap, ◌∙◌, subst}
use Rattle.std.specs.Prelude.{if◌then◌else◌, nat_lt}
use Rattle.std.specs.List.{AllByRecursion}
use Rattle.gnb_types.specs.declared.names.NodeId.{NodeId}
use Rattle.gnb_types.specs.declared.names.UeId.{UeId}
use Rattle.gnb_types.specs.declared.reasons.CauseName.{CauseName}
use Rattle.message_types.specs.declared.f1.F1.TheVariants as f1s
use Rattle.message_types.specs.declared.e1.E1Message.TheVariants as e1s
use Rattle.message_types.specs.declared.xn.XnMessage.TheVariants as xns
use Rattle.message_types.specs.declared.xn.CoreMessage.TheVariants as cores
use Rattle.message_types.specs.declared.rrc.Token.{Token}
use Rattle.message_types.specs.declared.rrc.Token.TheVariants as tokens
use Rattle.transaction_defs.specs.Callees.{Callee}
use Rattle.unit_defs.specs.declared.StateName.{StateName}
use Rattle.unit_defs.specs.declared.StateName.TheVariants as states
use Rattle.unit_defs.specs.Ways.{Message, f1, e1, xn, core, Way}
use Rattle.unit_defs.specs.Messages.{cause_name, are_bearers, statuses_of}
use Rattle.unit_defs.specs.CuCpRecords.{Awaited, Attempt, CuCpContext, CuCpTerminal, attempted, serving, last_epoch, same_node, bearers_in, Row, answered, awaits_answer}
use Rattle.unit_defs.specs.CuCpRows.{CuCpScope, own_du, name_bearers, is_between_dus, is_between_gnbs, attach_has_tunnels, attach_is_placed, attach_fails, move_has_uplinks, move_is_placed, handover_is_acknowledged, handover_is_declined, handover_is_frozen, handover_is_not_frozen, offer_has_tunnels, offer_is_declined, offer_is_placed, place_is_renewed, completed, is_switched, let_source_go, path_is_switched, completes, completes_again, returns, arrives, arrives_again}
use Rattle.unit_defs.specs.CuCp.{listed, caused, only_closes, in_attaching, in_moving, in_preparing, in_prepared, in_offered, in_switching, in_releasing, in_state, Answered, answers_none, answers_with, answer_of, answer_on, answer, is_complete, is_reestablish, is_epoch, is_own_command, may_return, is_too_early, is_ready, token_in_ready, token_of_return, token_of_attempt, token_by_attempt, token_on, token_row, token_ue, no_context_first}
use Rattle.law_requests_act_once.specs.cu_cp_offers.Offers.{offered_in, offered_of, offer_of}
use Rattle.law_requests_act_once.proofs.cu_cp_offers.Carried.{offered_same, Stands, SayFits, RowFits, leaves, leaves_none, spends}
use Rattle.law_requests_act_once.proofs.cu_cp_offers.Rows.{fits_if}

module _ {M C P : Type 0} (way : Way M C P) (was_asked : UeId → ℕ → Type 0) (at : CuCpScope) (e : Callee M) (t : CuCpTerminal) where
  abbrev Fits : Row C → Type 0
  Fits what = RowFits way at.gnb was_asked at.ue e what

  abbrev pub FitsIf : Option (Row C) → Type 0
  FitsIf None = Unit {0}
  FitsIf (Some what) = Fits what

  abbrev StandsFor : Option ℕ → Type 0
  StandsFor o = Stands way at.gnb was_asked e at.ue o

  listed_fits : (b : Bool) (x : Row C) → Fits x → FitsIf (listed way b x)
  listed_fits true x p = p
  listed_fits false x p = tt

  caused_fits : (o : Option CauseName) (f : CauseName → Row C) → ((name : CauseName) → Fits (f name)) → FitsIf (caused way o f)
  caused_fits None f p = tt
  caused_fits (Some name) f p = p name

  -- ---- an awaited answer

  module _ (c : CuCpContext) (a : Attempt) (h : StandsFor (offered_in c.state a)) where
    closes_fits : Fits (only_closes way t c a)
    closes_fits = leaves _ _ h tt

    attaching_fits : (m : Message C) → FitsIf (in_attaching way at m t c a)
    unfolding attach_has_tunnels attach_is_placed attach_fails
    attaching_fits (e1 (e1s.BearerContextSetupResponse ue instance uplinks paths down up)) =
        listed_fits (name_bearers c uplinks && name_bearers c paths) _ (leaves_none _ _ refl)
    attaching_fits (e1 (e1s.BearerContextSetupFailure ue instance cause)) =
        caused_fits (cause_name cause) (λ name. attach_fails way name t) (λ name. leaves_none _ _ refl)
    attaching_fits (f1 (f1s.UeContextSetupResponse ue instance downlinks)) = listed_fits (name_bearers c downlinks) _ (leaves_none _ _ refl)
    attaching_fits m = closes_fits

    moving_fits : (m : Message C) → FitsIf (in_moving way at m t c a)
    unfolding move_has_uplinks move_is_placed
    moving_fits (e1 (e1s.BearerContextModificationResponse ue instance (Some uplinks) statuses)) =
        listed_fits (name_bearers c uplinks) _
        (fits_if way was_asked at e t (nat_lt last_epoch a.epoch) _ _ (λ f. spends _) (λ f. leaves_none _ _ refl))
    moving_fits (e1 (e1s.BearerContextModificationResponse ue instance None statuses)) = tt
    moving_fits (f1 (f1s.UeContextSetupResponse ue instance downlinks)) = listed_fits (name_bearers c downlinks) _ (leaves_none _ _ refl)
    moving_fits m = closes_fits

    preparing_fits : (m : Message C) → FitsIf (in_preparing way at m t c a)
    unfolding handover_is_acknowledged handover_is_declined
    preparing_fits (xn (xns.HandoverRequestAcknowledge ue instance peer down up)) =
        listed_fits (name_bearers c down && name_bearers c up) _ (leaves_none _ _ refl)
    preparing_fits (xn (xns.HandoverPreparationFailure ue instance cause)) =
        caused_fits (cause_name cause) (λ name. handover_is_declined way name t c) (λ name. leaves_none _ _ refl)
    preparing_fits m = closes_fits

    prepared_fits : (m : Message C) → FitsIf (in_prepared way at m t c a)
    unfolding handover_is_frozen handover_is_not_frozen
    prepared_fits (e1 (e1s.BearerContextModificationResponse ue instance uplinks (Some statuses))) =
        listed_fits (are_bearers (bearers_in c) (statuses_of statuses)) _ (leaves_none _ _ refl)
    prepared_fits (e1 (e1s.BearerContextModificationResponse ue instance uplinks None)) = tt
    prepared_fits (e1 (e1s.BearerContextModificationFailure ue instance cause)) =
        caused_fits (cause_name cause) (λ name. handover_is_not_frozen way at name t c) (λ name. leaves_none _ _ refl)
    prepared_fits m = closes_fits

    offered_fits : (m : Message C) → c.state ≡ states.Offered → FitsIf (in_offered way at m t c a)
    unfolding offer_has_tunnels offer_is_declined offer_is_placed
    offered_fits (e1 (e1s.BearerContextSetupResponse ue instance uplinks paths (Some down) (Some up))) s =
        listed_fits (name_bearers c uplinks && name_bearers c paths && name_bearers c down && name_bearers c up) _
        (leaves _ _ (subst (λ (x : StateName). StandsFor (offered_in x a)) s h) (tt, tt))
    offered_fits (e1 (e1s.BearerContextSetupResponse ue instance uplinks paths down up)) s = tt
    offered_fits (e1 (e1s.BearerContextSetupFailure ue instance cause)) s =
        caused_fits (cause_name cause) (λ name. offer_is_declined way at cause t a) (λ name. leaves_none _ _ refl)
    offered_fits (f1 (f1s.UeContextSetupResponse ue instance downlinks)) s = listed_fits (name_bearers c downlinks) _ (leaves_none _ _ refl)
    offered_fits m s = closes_fits

    completed_stands : (d : CuCpContext) (b : Attempt) → d.state ≡ c.state → b.instance ≡ a.instance → StandsFor (offer_of (Some (completed way d b)))
    completed_stands d b s same = by (b.switched && not b.path_open)
      where
        by : (x : Bool) → StandsFor (offer_of (Some (if x then serving d else attempted d d.state b)))
        by true = λ i is. absurd cc
        by false = subst (λ (o : Option ℕ). StandsFor o) (sym (offered_same d.state b a same ∙ ap (λ (x : StateName). offered_in x a) s)) h

    let_go_fits : (o : Option ℕ) (s : StateName) → AllByRecursion (SayFits way at.gnb was_asked at.ue o) (let_source_go way at s)
    let_go_fits o states.Arrived = (tt, tt)
    let_go_fits o s = tt

    switching_fits : (m : Message C) → FitsIf (in_switching way at m t c a)
    unfolding place_is_renewed is_switched path_is_switched
    switching_fits (f1 (f1s.UeContextModificationResponse ue instance downlinks)) = listed_fits (name_bearers c downlinks) _ (leaves _ _ h (tt, tt))
    switching_fits (e1 (e1s.BearerContextModificationResponse ue instance uplinks statuses)) =
        leaves _ _ (completed_stands (record c { epoch = Some a.epoch; finished = true }) (record a { switched = true }) refl refl) (tt, tt)
    switching_fits (core (cores.PathSwitchAcknowledge ue instance)) =
        leaves _ _ (completed_stands c (record a { path_open = false }) refl refl) (let_go_fits _ c.state)
    switching_fits m = closes_fits

    releasing_fits : (ws : List Awaited) → Fits (in_releasing way t c a ws)
    releasing_fits [] = leaves_none _ _ refl
    releasing_fits (w ∷ ws) = closes_fits

    if_fits : (b : Bool) (x y : Option (Row C)) → FitsIf x → FitsIf y → FitsIf (if b then x else y)
    if_fits true x y p q = p
    if_fits false x y p q = q

    state_fits : (m : Message C) (s : StateName) → c.state ≡ s → FitsIf (in_state way at m t c s a)
    state_fits m states.Attaching s = attaching_fits m
    state_fits m states.Preparing s = if_fits (is_between_dus a.kind) _ _ (moving_fits m) (preparing_fits m)
    state_fits m states.Prepared s = prepared_fits m
    state_fits m states.Offered s = offered_fits m s
    state_fits m states.Returning s = switching_fits m
    state_fits m states.Arrived s = switching_fits m
    state_fits m states.Completing s = if_fits (is_between_gnbs a.kind) _ _ (releasing_fits a.awaits) (switching_fits m)
    state_fits m x s = closes_fits

  abbrev pub AnswerFits : Answered way → Type 0
  AnswerFits answers_none = Unit {0}
  AnswerFits (answers_with o) = FitsIf o

  pub answer_fits : (from : NodeId) (instance : ℕ) (m : Message C) → StandsFor (offer_of t.context) → AnswerFits (answer way at from instance m t)
  unfolding answer
  answer_fits from instance m h = by t.context refl
    where
      awaited : (c : CuCpContext) (a : Attempt) → StandsFor (offered_in c.state a) → (b : Bool)
          → AnswerFits (if b then answers_with (in_state way at m t c c.state (answered a from)) else answers_none)
      awaited c a k true = state_fits c (answered a from) (subst (λ (o : Option ℕ). StandsFor o) (offered_same c.state a (answered a from) refl) k) m c.state refl
      awaited c a k false = tt

      of : (c : CuCpContext) → t.context ≡ Some c → (o : Option Attempt) → c.attempt ≡ o → AnswerFits (answer_of way at from instance m t c o)
      of c is None f = tt
      of c is (Some a) f =
          awaited c a (subst (λ (o : Option ℕ). StandsFor o) (ap offer_of is ∙ ap (λ (o : Option Attempt). offered_of c.state o) f) h) (awaits_answer a from instance)

      by : (o : Option CuCpContext) → t.context ≡ o → AnswerFits (answer_on way at from instance m t o)
      by None is = tt
      by (Some c) is = of c is c.attempt refl

  -- ---- a token

  module _ (from : NodeId) (token : Token) (epoch : ℕ) (h : StandsFor (offer_of t.context)) where
    choose : (b : Bool) (x y : Row C) → Fits x → Fits y → Fits (if b then x else y)
    choose b x y p q = fits_if way was_asked at e t b x y (λ f. p) (λ f. q)

    returns_fits : (c : CuCpContext) → Fits (returns way at epoch t c)
    unfolding returns
    returns_fits c = leaves_none _ _ refl

    ready_fits : (c : CuCpContext) (a : Attempt) → Fits (token_in_ready way at from token epoch t c a)
    unfolding arrives arrives_again
    ready_fits c a =
        choose (not (is_ready way c.state && same_node from (own_du at c.du))) _ _ (leaves _ _ h (tt, tt))
        (choose (is_complete way token && a.epoch == epoch) _ _ (leaves_none _ _ refl)
        (choose (is_reestablish way token && a.epoch + 1 == epoch) _ _ (leaves_none _ _ refl) (leaves _ _ h (tt, tt))))

    return_fits : (c : CuCpContext) (a : Attempt) → Fits (token_of_return way at from token epoch t c a)
    return_fits c a =
        choose (is_reestablish way token && is_epoch way c.epoch 1 epoch && same_node from (own_du at c.du)) _ _
        (choose (may_return way c.state a.kind) _ _ (returns_fits c) (choose (is_too_early way c.state a.kind) _ _ (leaves _ _ h (tt, tt)) (ready_fits c a))) (ready_fits c a)

    attempt_fits : (c : CuCpContext) (a : Attempt) → Fits (token_of_attempt way at from token epoch t c a)
    unfolding completes completes_again
    attempt_fits c a =
        choose (not (is_own_command way c.state a.kind && same_node from (own_du at a.du))) _ _ (return_fits c a)
        (choose (is_complete way token && is_epoch way c.epoch 1 epoch) _ _ (leaves_none _ _ refl)
        (choose (is_reestablish way token && is_epoch way c.epoch 2 epoch) _ _ (leaves_none _ _ refl) (return_fits c a)))

    by_attempt_fits : (c : CuCpContext) (o : Option Attempt) → Fits (token_by_attempt way at from token epoch t c o)
    by_attempt_fits c None =
        choose (is_reestablish way token && is_epoch way c.epoch 1 epoch && same_node from (own_du at c.du)) _ _ (returns_fits c) (leaves _ _ h (tt, tt))
    by_attempt_fits c (Some a) = attempt_fits c a

    on_fits : (o : Option CuCpContext) → Fits (token_on way at from token epoch t o)
    on_fits None = (leaves _ _ h (tt, tt))
    on_fits (Some c) = choose (is_epoch way c.epoch 0 epoch && c.finished) _ _ (leaves _ _ h (tt, tt)) (by_attempt_fits c c.attempt)

  token_fits : (from : NodeId) → StandsFor (offer_of t.context) → (token : Token) → Fits (token_row way at from t token)
  token_fits from h (tokens.Complete ue epoch) = on_fits from (tokens.Complete ue epoch) epoch h t.context
  token_fits from h (tokens.Reestablish ue epoch) = on_fits from (tokens.Reestablish ue epoch) epoch h t.context
  token_fits from h token = (leaves _ _ h (tt, tt))

  pub container_fits : (from : NodeId) → StandsFor (offer_of t.context) → (c : Option CuCpContext) (token : Option Token) → Fits (no_context_first way at from t c token)
  container_fits from h None token = (leaves _ _ h (tt, tt))
  container_fits from h (Some c) None = (leaves _ _ h (tt, tt))
  container_fits from h (Some c) (Some token) =
      fits_if way was_asked at e t ((token_ue way token).0 == at.ue.0) _ _ (λ f. token_fits from h token) (λ f. (leaves _ _ h (tt, tt)))
