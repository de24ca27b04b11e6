-- The answers that an attempt awaits, and tokens: each row keeps deadlines, by the state of the terminal.
use Rattle.std.proofs.Common.{inl, inr, ◌≡◌, ◌==◌, ℕ, ◌+◌, Bool, true, false, not, ◌&&◌, List, [], ◌∷◌, Option, Some, None, refl, ap}
use Rattle.std.specs.Prelude.{if◌then◌else◌, nat_lt}
use Rattle.std.specs.List.{AllByRecursion}
use Rattle.gnb_types.specs.declared.names.NodeId.{NodeId}
use Rattle.gnb_types.specs.declared.reasons.CauseName.{CauseName}
use Rattle.message_types.specs.declared.f1.F1.TheVariants as f1s
use Rattle.message_types.specs.declared.e1.E1Message.TheVariants as e1s
use Rattle.message_types.specs.declared.xn.XnMessage.TheVariants as xns
use Rattle.message_types.specs.declared.xn.CoreMessage.TheVariants as cores
use Rattle.message_types.specs.declared.rrc.Token.{Token}
use Rattle.message_types.specs.declared.rrc.Token.TheVariants as tokens
use Rattle.unit_defs.specs.declared.StateName.{StateName}
use Rattle.unit_defs.specs.declared.StateName.TheVariants as states
use Rattle.unit_defs.specs.declared.AttemptKind.{AttemptKind}
use Rattle.unit_defs.specs.Ways.{Message, f1, e1, xn, core, Way, epochs_spent}
use Rattle.unit_defs.specs.Messages.{cause_name, are_bearers, statuses_of}
use Rattle.unit_defs.specs.CuCpRecords.{Awaited, Attempt, CuCpContext, CuCpTerminal, attempted, serving, last_epoch, same_node, bearers_in, Row}
use Rattle.unit_defs.specs.CuCpRows.{CuCpScope, own_du, name_bearers, is_between_dus, is_between_gnbs, attach_has_tunnels, attach_is_placed, attach_fails, move_has_uplinks, move_is_placed, handover_is_acknowledged, handover_is_declined, handover_is_frozen, handover_is_not_frozen, offer_has_tunnels, offer_is_declined, offer_is_placed, place_is_renewed, completed, is_switched, let_source_go, path_is_switched}
use Rattle.unit_defs.specs.CuCp.{listed, caused, only_closes, in_attaching, in_moving, in_preparing, in_prepared, in_offered, in_switching, in_releasing, in_state, is_complete, is_reestablish, is_epoch, is_own_command, may_return, is_too_early, is_ready, token_in_ready, token_of_return, token_of_attempt, token_by_attempt, token_on, token_row, token_ue, no_context_first}
use Rattle.law_requests_act_once.specs.cu_cp_deadlines.Deadlines.{prepared_in, preparation, AwaitsOnly}
use Rattle.law_requests_act_once.proofs.cu_cp_deadlines.Midway.{other}
use Rattle.law_requests_act_once.proofs.cu_cp_deadlines.Says.{IsPlain, RowKeeps, leaves_it, AnswerKeeps, then_none, then_as_before, then_spent}
use Rattle.law_requests_act_once.proofs.cu_cp_deadlines.Rows.{is_preparing, rests_in, between_dus, keeps_if, none_in, completes_keeps, completes_again_keeps, returns_keeps, arrives_keeps, arrives_again_keeps}

module _ {M C P : Type 0} (way : Way M C P) (at : CuCpScope) where
  abbrev Answers : Row C → Type 0
  Answers what = AnswerKeeps way at.gnb at.ue what

  abbrev pub AnswersIf : Option (Row C) → Type 0
  AnswersIf None = Unit {0}
  AnswersIf (Some what) = Answers what

  listed_keeps : (b : Bool) (x : Row C) → Answers x → AnswersIf (listed way b x)
  listed_keeps true x p = p
  listed_keeps false x p = tt

  caused_keeps : (o : Option CauseName) (f : CauseName → Row C) → ((name : CauseName) → Answers (f name)) → AnswersIf (caused way o f)
  caused_keeps None f p = tt
  caused_keeps (Some name) f p = p name

  answers_if : (b : Bool) (x y : Row C) → (b ≡ true → Answers x) → (b ≡ false → Answers y) → Answers (if b then x else y)
  answers_if true x y p q = p refl
  answers_if false x y p q = q refl

  -- an awaited answer; if a handover is prepared, the attempt awaits nobody but the other CU-CP
  module _ (t : CuCpTerminal) (c : CuCpContext) (a : Attempt) (awaits : (b : Attempt) → prepared_in c.state a.kind a ≡ Some b → AwaitsOnly (other at.gnb) b) where
    closes_keeps : Answers (only_closes way t c a)
    closes_keeps = then_as_before _ awaits

    attaching_keeps : (m : Message C) → AnswersIf (in_attaching way at m t c a)
    unfolding attach_has_tunnels attach_is_placed attach_fails
    attaching_keeps (e1 (e1s.BearerContextSetupResponse ue instance uplinks paths down up)) =
        listed_keeps (name_bearers c uplinks && name_bearers c paths) _ (then_none _ _ refl ((refl, inl tt), tt))
    attaching_keeps (e1 (e1s.BearerContextSetupFailure ue instance cause)) =
        caused_keeps (cause_name cause) (λ name. attach_fails way name t) (λ name. then_none _ _ refl (tt, tt))
    attaching_keeps (f1 (f1s.UeContextSetupResponse ue instance downlinks)) = listed_keeps (name_bearers c downlinks) _ (then_none _ _ refl (tt, tt))
    attaching_keeps m = closes_keeps

    moving_keeps : (m : Message C) → is_between_dus a.kind ≡ true → AnswersIf (in_moving way at m t c a)
    unfolding move_has_uplinks move_is_placed
    moving_keeps (e1 (e1s.BearerContextModificationResponse ue instance (Some uplinks) statuses)) own =
        listed_keeps (name_bearers c uplinks) _
        (answers_if (nat_lt last_epoch a.epoch) _ _ (λ e. then_spent epochs_spent)
        (λ e. then_none _ _ (between_dus states.Preparing a.kind a own) ((refl, inl tt), tt)))
    moving_keeps (e1 (e1s.BearerContextModificationResponse ue instance None statuses)) own = tt
    moving_keeps (f1 (f1s.UeContextSetupResponse ue instance downlinks)) own = listed_keeps (name_bearers c downlinks) _ (then_none _ _ refl tt)
    moving_keeps m own = closes_keeps

    preparing_keeps : (m : Message C) → AnswersIf (in_preparing way at m t c a)
    unfolding handover_is_acknowledged handover_is_declined
    preparing_keeps (xn (xns.HandoverRequestAcknowledge ue instance peer down up)) =
        listed_keeps (name_bearers c down && name_bearers c up) _ (then_none _ _ refl ((refl, inl tt), tt))
    preparing_keeps (xn (xns.HandoverPreparationFailure ue instance cause)) =
        caused_keeps (cause_name cause) (λ name. handover_is_declined way name t c) (λ name. then_none _ _ refl (tt, tt))
    preparing_keeps m = closes_keeps

    prepared_keeps : (m : Message C) → AnswersIf (in_prepared way at m t c a)
    unfolding handover_is_frozen handover_is_not_frozen
    prepared_keeps (e1 (e1s.BearerContextModificationResponse ue instance uplinks (Some statuses))) =
        listed_keeps (are_bearers (bearers_in c) (statuses_of statuses)) _ (then_none _ _ refl ((refl, inr refl), tt))
    prepared_keeps (e1 (e1s.BearerContextModificationResponse ue instance uplinks None)) = tt
    prepared_keeps (e1 (e1s.BearerContextModificationFailure ue instance cause)) =
        caused_keeps (cause_name cause) (λ name. handover_is_not_frozen way at name t c) (λ name. then_none _ _ refl (refl, (tt, tt)))
    prepared_keeps m = closes_keeps

    offered_keeps : (m : Message C) → AnswersIf (in_offered way at m t c a)
    unfolding offer_has_tunnels offer_is_declined offer_is_placed
    offered_keeps (e1 (e1s.BearerContextSetupResponse ue instance uplinks paths (Some down) (Some up))) =
        listed_keeps (name_bearers c uplinks && name_bearers c paths && name_bearers c down && name_bearers c up) _ (then_none _ _ refl ((refl, inl tt), tt))
    offered_keeps (e1 (e1s.BearerContextSetupResponse ue instance uplinks paths down up)) = tt
    offered_keeps (e1 (e1s.BearerContextSetupFailure ue instance cause)) =
        caused_keeps (cause_name cause) (λ name. offer_is_declined way at cause t a) (λ name. then_none _ _ refl (tt, tt))
    offered_keeps (f1 (f1s.UeContextSetupResponse ue instance downlinks)) = listed_keeps (name_bearers c downlinks) _ (then_none _ _ refl (tt, tt))
    offered_keeps m = closes_keeps

    completed_none : (d : CuCpContext) (b : Attempt) → is_preparing d.state ≡ false → preparation (Some (completed way d b)) ≡ None
    completed_none d b h = by (b.switched && not b.path_open)
      where
        by : (t : Bool) → preparation (Some (if t then serving d else attempted d d.state b)) ≡ None
        by true = refl
        by false = rests_in d.state h (Some b)

    let_go_plain : (s : StateName) → AllByRecursion (IsPlain way at.gnb at.ue) (let_source_go way at s)
    let_go_plain states.Arrived = ((refl, inr refl), tt)
    let_go_plain s = tt

    switching_keeps : (m : Message C) → is_preparing c.state ≡ false → AnswersIf (in_switching way at m t c a)
    unfolding place_is_renewed is_switched path_is_switched
    switching_keeps (f1 (f1s.UeContextModificationResponse ue instance downlinks)) h =
        listed_keeps (name_bearers c downlinks) _ (then_none _ _ (rests_in c.state h (Some a)) ((refl, inl tt), tt))
    switching_keeps (e1 (e1s.BearerContextModificationResponse ue instance uplinks statuses)) h =
        then_none _ _ (completed_none (record c { epoch = Some a.epoch; finished = true }) (record a { switched = true }) h) (tt, tt)
    switching_keeps (core (cores.PathSwitchAcknowledge ue instance)) h =
        then_none _ _ (completed_none c (record a { path_open = false }) h) (let_go_plain c.state)
    switching_keeps m h = closes_keeps

    releasing_keeps : (ws : List Awaited) → Answers (in_releasing way t c a ws)
    releasing_keeps [] = then_none _ _ refl tt
    releasing_keeps (w ∷ ws) = closes_keeps

    if_keeps : (b : Bool) (x y : Option (Row C)) → (b ≡ true → AnswersIf x) → (b ≡ false → AnswersIf y) → AnswersIf (if b then x else y)
    if_keeps true x y p q = p refl
    if_keeps false x y p q = q refl

    pub state_keeps : (m : Message C) (s : StateName) → c.state ≡ s → AnswersIf (in_state way at m t c s a)
    state_keeps m states.Attaching e = attaching_keeps m
    state_keeps m states.Preparing e = if_keeps (is_between_dus a.kind) _ _ (λ h. moving_keeps m h) (λ h. preparing_keeps m)
    state_keeps m states.Prepared e = prepared_keeps m
    state_keeps m states.Offered e = offered_keeps m
    state_keeps m states.Returning e = switching_keeps m (ap is_preparing e)
    state_keeps m states.Arrived e = switching_keeps m (ap is_preparing e)
    state_keeps m states.Completing e = if_keeps (is_between_gnbs a.kind) _ _ (λ h. releasing_keeps a.awaits) (λ h. switching_keeps m (ap is_preparing e))
    state_keeps m s e = closes_keeps

  -- ---- a token

  abbrev Keeps : CuCpTerminal → Row C → Type 0
  Keeps t what = RowKeeps way at.gnb at.ue t what

  readies : (s : StateName) → is_ready way s ≡ true → is_preparing s ≡ false
  readies states.Ready h = refl
  readies s h = absurd cc

  commands : (s : StateName) (k : AttemptKind) → is_own_command way s k ≡ true → is_preparing s ≡ false
  commands states.Commanded k h = refl
  commands s k h = absurd cc

  first : (a b : Bool) → not (a && b) ≡ false → a ≡ true
  first true b h = refl
  first false b h = absurd cc

  module _ (from : NodeId) (token : Token) (epoch : ℕ) (t : CuCpTerminal) where
    ready_keeps : (c : CuCpContext) → t.context ≡ Some c → (a : Attempt) → Keeps t (token_in_ready way at from token epoch t c a)
    ready_keeps c is a =
        keeps_if way at t (not (is_ready way c.state && same_node from (own_du at c.du))) _ _ (λ e. leaves_it _ t refl (tt, tt))
        (λ e. let before : preparation t.context ≡ None =
        none_in way at t c is (readies c.state (first (is_ready way c.state) (same_node from (own_du at c.du)) e)) in
        keeps_if way at t (is_complete way token && a.epoch == epoch) _ _ (λ f. arrives_keeps way at epoch t c a before)
        (λ f. keeps_if way at t (is_reestablish way token && a.epoch + 1 == epoch) _ _ (λ g. arrives_again_keeps way at epoch t c a before)
        (λ g. leaves_it _ t refl (tt, tt))))

    return_keeps : (c : CuCpContext) → t.context ≡ Some c → (a : Attempt) → Keeps t (token_of_return way at from token epoch t c a)
    return_keeps c is a =
        keeps_if way at t (is_reestablish way token && is_epoch way c.epoch 1 epoch && same_node from (own_du at c.du)) _ _
        (λ e. keeps_if way at t (may_return way c.state a.kind) _ _ (λ f. returns_keeps way at epoch t c is)
        (λ f. keeps_if way at t (is_too_early way c.state a.kind) _ _ (λ g. leaves_it _ t refl (tt, tt)) (λ g. ready_keeps c is a))) (λ e. ready_keeps c is a)

    attempt_keeps : (c : CuCpContext) → t.context ≡ Some c → (a : Attempt) → Keeps t (token_of_attempt way at from token epoch t c a)
    attempt_keeps c is a =
        keeps_if way at t (not (is_own_command way c.state a.kind && same_node from (own_du at a.du))) _ _ (λ e. return_keeps c is a)
        (λ e. let before : preparation t.context ≡ None =
        none_in way at t c is (commands c.state a.kind (first (is_own_command way c.state a.kind) (same_node from (own_du at a.du)) e)) in
        keeps_if way at t (is_complete way token && is_epoch way c.epoch 1 epoch) _ _ (λ f. completes_keeps way at epoch t c a before)
        (λ f. keeps_if way at t (is_reestablish way token && is_epoch way c.epoch 2 epoch) _ _ (λ g. completes_again_keeps way at epoch t c a before)
        (λ g. return_keeps c is a)))

    by_attempt_keeps : (c : CuCpContext) → t.context ≡ Some c → (o : Option Attempt) → Keeps t (token_by_attempt way at from token epoch t c o)
    by_attempt_keeps c is None =
        keeps_if way at t (is_reestablish way token && is_epoch way c.epoch 1 epoch && same_node from (own_du at c.du)) _ _ (λ e. returns_keeps way at epoch t c is)
        (λ e. leaves_it _ t refl (tt, tt))
    by_attempt_keeps c is (Some a) = attempt_keeps c is a

    on_keeps : (o : Option CuCpContext) → t.context ≡ o → Keeps t (token_on way at from token epoch t o)
    on_keeps None is = leaves_it _ t refl (tt, tt)
    on_keeps (Some c) is =
        keeps_if way at t (is_epoch way c.epoch 0 epoch && c.finished) _ _ (λ e. leaves_it _ t refl (tt, tt)) (λ e. by_attempt_keeps c is c.attempt)

  token_keeps : (from : NodeId) (t : CuCpTerminal) (token : Token) → Keeps t (token_row way at from t token)
  token_keeps from t (tokens.Complete ue epoch) = on_keeps from (tokens.Complete ue epoch) epoch t t.context refl
  token_keeps from t (tokens.Reestablish ue epoch) = on_keeps from (tokens.Reestablish ue epoch) epoch t t.context refl
  token_keeps from t token = leaves_it _ t refl (tt, tt)

  pub container_keeps : (from : NodeId) (t : CuCpTerminal) (c : Option CuCpContext) (token : Option Token) → Keeps t (no_context_first way at from t c token)
  container_keeps from t None token = leaves_it _ t refl (tt, tt)
  container_keeps from t (Some c) None = leaves_it _ t refl (tt, tt)
  container_keeps from t (Some c) (Some token) =
      keeps_if way at t ((token_ue way token).0 == at.ue.0) _ _ (λ e. token_keeps from t token) (λ e. leaves_it _ t refl (tt, tt))
