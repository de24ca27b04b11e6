-- The rows of a CU-CP, by procedure: each keeps deadlines.
use Rattle.std.proofs.Common.{inl, ◌≡◌, ◌==◌, ℕ, Bool, true, false, not, ◌&&◌, ◌||◌, List, [], ◌∷◌, ◌++◌, Option, Some, None, refl, ap, ◌∙◌}
use Rattle.std.specs.Prelude.{if◌then◌else◌, nat_le}
use Rattle.std.specs.List.{AllByRecursion}
use Rattle.gnb_types.specs.declared.names.NodeId.{NodeId}
use Rattle.gnb_types.specs.declared.plans.Plan.{Plan}
use Rattle.gnb_types.specs.declared.plans.SnStatus.{SnStatus}
use Rattle.unit_defs.specs.declared.StateName.{StateName}
use Rattle.unit_defs.specs.declared.StateName.TheVariants as states
use Rattle.unit_defs.specs.declared.AttemptKind.{AttemptKind}
use Rattle.unit_defs.specs.declared.AttemptKind.TheVariants as kinds
use Rattle.unit_defs.specs.Ways.{Way, epochs_spent}
use Rattle.unit_defs.specs.Messages.{is_same_gnb, statuses_of, are_bearers}
use Rattle.unit_defs.specs.CuCpRecords.{Attempt, CuCpContext, CuCpTerminal, attempted, has_unit, last_epoch, bearers_in, Action, Row, row}
use Rattle.unit_defs.specs.CuCpRows.{CuCpScope, new_attempt, own_up, own_du, is_between_gnbs, is_between_dus, du_modify, du_release, cu_up_release, xn_cancel, attach_on, attach, move_begins, handover_begins, epoch_of, is_serving, handover_on, handover, handover_expires, command, cancel_attempt, cancel_of, cancel_on, cancel, release_on, release, handed_over, offer_on, offer, takes_status, status_on, status, du_release_if, is_cancellable, xn_cancelled_of, xn_cancelled_on, xn_cancelled, xn_released_of, xn_released_on, xn_released, greatest, leave_old, completes, leave_old_again, completes_again, give_up_attempt, returns, arrives, arrives_again}
use Rattle.law_requests_act_once.specs.cu_cp_deadlines.Deadlines.{prepared_in, prepared_of, preparation}
use Rattle.law_requests_act_once.proofs.cu_cp_deadlines.Says.{IsPlain, RowKeeps, leaves_it, prepares_none, prepares_one, cancels_it, cancels_then, is_spent, AnswerKeeps}

-- ---- states in which no handover to the other gNB is prepared

abbrev pub is_preparing : StateName → Bool
is_preparing states.Preparing = true
is_preparing state = false

pub rests_in : (s : StateName) → is_preparing s ≡ false → (o : Option Attempt) → prepared_of s o ≡ None
rests_in s h None = refl
rests_in s h (Some a) = by s h
  where
    by : (s : StateName) → is_preparing s ≡ false → prepared_in s a.kind a ≡ None
    by states.Preparing h = absurd cc
    by s h = refl

pub between_dus : (s : StateName) (k : AttemptKind) (a : Attempt) → is_between_dus k ≡ true → prepared_in s k a ≡ None
between_dus states.Preparing kinds.BetweenGnbs a h = absurd cc
between_dus s k a h = refl

module _ {M C P : Type 0} (way : Way M C P) (at : CuCpScope) where
  abbrev Keeps : CuCpTerminal → Row C → Type 0
  Keeps t what = RowKeeps way at.gnb at.ue t what

  abbrev Answers : Row C → Type 0
  Answers what = AnswerKeeps way at.gnb at.ue what

  pub keeps_if : (t : CuCpTerminal) (b : Bool) (x y : Row C) → (b ≡ true → Keeps t x) → (b ≡ false → Keeps t y) → Keeps t (if b then x else y)
  keeps_if t true x y p q = p refl
  keeps_if t false x y p q = q refl

  -- a terminal in another state than Preparing prepares nothing
  pub none_in : (t : CuCpTerminal) (c : CuCpContext) → t.context ≡ Some c → is_preparing c.state ≡ false → preparation t.context ≡ None
  none_in t c is h = ap preparation is ∙ rests_in c.state h c.attempt

  -- ---- orders

  pub attach_keeps : (plan : Plan) (t : CuCpTerminal) → Keeps t (attach way at plan t)
  unfolding attach
  attach_keeps plan t = by t.context refl
    where
      by : (o : Option CuCpContext) → t.context ≡ o → Keeps t (attach_on way at plan t o)
      by (Some c) is = leaves_it _ t refl (tt, tt)
      by None is =
          keeps_if t (not (has_unit at.units (own_up at plan.up)) || not (has_unit at.units (own_du at plan.du))) _ _ (λ e. leaves_it _ t refl (tt, tt))
          (λ e. prepares_none _ _ (ap preparation is) refl ((refl, inl tt), tt))

  serves : (s : StateName) → not (is_serving way s) ≡ false → is_preparing s ≡ false
  serves states.Serving h = refl
  serves s h = absurd cc

  pub handover_keeps : (goal : Plan) (t : CuCpTerminal) → Keeps t (handover way at goal t)
  unfolding handover move_begins handover_begins
  handover_keeps goal t = by t.context refl
    where
      by : (o : Option CuCpContext) → t.context ≡ o → Keeps t (handover_on way at goal t o)
      by None is = leaves_it _ t refl (tt, tt)
      by (Some c) is =
          keeps_if t (is_same_gnb goal.gnb at.gnb && goal.du == c.du) _ _ (λ e. leaves_it _ t refl (tt, tt))
          (λ e. keeps_if t (is_same_gnb goal.gnb at.gnb && not (goal.up == c.up)) _ _ (λ f. leaves_it _ t refl (tt, tt))
          (λ f. keeps_if t (not (is_serving way c.state)) _ _ (λ g. leaves_it _ t refl (tt, tt))
          (λ g. let before : preparation t.context ≡ None = none_in t c is (serves c.state g) in
          keeps_if t (is_same_gnb goal.gnb at.gnb) _ _
          (λ h. prepares_none _ _ before refl ((refl, inl tt), tt))
          (λ h. keeps_if t (nat_le last_epoch (epoch_of way c)) _ _ (λ k. is_spent epochs_spent) (λ k. prepares_one _ _ _ before (_, refl, refl))))))

  pub cancel_keeps : (t : CuCpTerminal) → Keeps t (cancel way at t)
  unfolding cancel
  cancel_keeps t = by t.context refl
    where
      of : (c : CuCpContext) → t.context ≡ Some c → (s : StateName) → c.state ≡ s → (k : AttemptKind) (a : Attempt) → Keeps t (cancel_attempt way at t c s k a)
      of c is states.Preparing e kinds.BetweenGnbs a = cancels_it _ _ _ refl tt
      of c is states.Preparing e kinds.BetweenDus a = leaves_it _ t refl (tt, tt)
      of c is states.Prepared e k a = leaves_it _ t refl (tt, tt)
      of c is states.Frozen e kinds.BetweenDus a = prepares_none _ _ (none_in t c is (ap is_preparing e)) refl ((refl, inl tt), tt)
      of c is states.Frozen e k a = cancels_it _ _ _ refl ((refl, inl tt), tt)
      of c is states.Commanded e kinds.BetweenDus a = leaves_it _ t refl (tt, tt)
      of c is states.Commanded e kinds.BetweenGnbs a = leaves_it _ t refl (tt, tt)
      of c is s e k a = leaves_it _ t refl (tt, tt)

      with_attempt : (c : CuCpContext) → t.context ≡ Some c → (o : Option Attempt) → Keeps t (cancel_of way at t c o)
      with_attempt c is None = leaves_it _ t refl (tt, tt)
      with_attempt c is (Some a) = of c is c.state refl a.kind a

      by : (o : Option CuCpContext) → t.context ≡ o → Keeps t (cancel_on way at t o)
      by None is = leaves_it _ t refl (tt, tt)
      by (Some c) is = with_attempt c is c.attempt

  is_served : (s : StateName) → is_serving way s ≡ true → is_preparing s ≡ false
  is_served states.Serving h = refl
  is_served s h = absurd cc

  pub release_keeps : (t : CuCpTerminal) → Keeps t (release way at t)
  unfolding release
  release_keeps t = by t.context refl
    where
      by : (o : Option CuCpContext) → t.context ≡ o → Keeps t (release_on way at t o)
      by None is = leaves_it _ t refl (tt, tt)
      by (Some c) is =
          keeps_if t (is_serving way c.state) _ _
          (λ e. prepares_none _ _ (none_in t c is (is_served c.state e)) refl ((refl, inl tt), ((refl, inl tt), tt)))
          (λ e. leaves_it _ t refl (tt, tt))

  -- ---- ticks

  pub expires_keeps : (t : CuCpTerminal) (c : CuCpContext) → Keeps t (handover_expires way at t c)
  unfolding handover_expires
  expires_keeps t c = cancels_it _ _ _ refl (tt, tt)

  pub command_keeps : (t : CuCpTerminal) (c : CuCpContext) (a : Attempt) → preparation t.context ≡ None → Keeps t (command way at t c a)
  unfolding command
  command_keeps t c a before = prepares_none _ _ before refl (tt, tt)

  -- ---- requests of others

  pub offer_keeps : (from : NodeId) (instance : ℕ) (new : CuCpContext) → preparation (Some new) ≡ None → (t : CuCpTerminal) → Keeps t (offer way at from instance new t)
  unfolding offer
  offer_keeps from instance new none t = by t.context refl
    where
      by : (o : Option CuCpContext) → t.context ≡ o → Keeps t (offer_on way at from instance new t o)
      by (Some c) is = leaves_it _ t refl (tt, tt)
      by None is =
          keeps_if t (has_unit at.units (own_up at new.up) && has_unit at.units (own_du at new.du)) _ _
          (λ e. prepares_none _ _ (ap preparation is) none ((refl, inl tt), tt)) (λ e. leaves_it _ t refl (tt, tt))

  pub status_keeps : (from : NodeId) (instance : ℕ) (ss : List SnStatus) (t : CuCpTerminal) → Keeps t (status way at from instance ss t)
  unfolding status
  status_keeps from instance ss t = by t.context
    where
      by : (o : Option CuCpContext) → Keeps t (status_on way at from instance ss t o)
      by None = leaves_it _ t refl (tt, tt)
      by (Some c) =
          keeps_if t (takes_status way c && are_bearers (bearers_in c) (statuses_of ss)) _ _
          (λ e. leaves_it _ t refl (tt, ((tt, refl, refl), tt))) (λ e. leaves_it _ t refl (tt, tt))

  cancellable : (s : StateName) → is_cancellable way s ≡ true → is_preparing s ≡ false
  cancellable states.Offered h = refl
  cancellable states.Ready h = refl
  cancellable s h = absurd cc

  release_if : (c : CuCpContext) (b : Bool) (rest : List (Action C)) → AllByRecursion (IsPlain way at.gnb at.ue) rest
      → AllByRecursion (IsPlain way at.gnb at.ue) (du_release_if way at c b ++ rest)
  release_if c true rest all = ((refl, inl tt), all)
  release_if c false rest all = all

  pub cancelled_keeps : (from : NodeId) (instance : ℕ) (t : CuCpTerminal) → Keeps t (xn_cancelled way at from instance t)
  unfolding xn_cancelled
  cancelled_keeps from instance t = by t.context refl
    where
      of : (c : CuCpContext) → t.context ≡ Some c → (o : Option Attempt) → Keeps t (xn_cancelled_of way at from instance t c o)
      of c is None = leaves_it _ t refl (tt, tt)
      of c is (Some a) =
          keeps_if t (is_cancellable way c.state) _ _
          (λ e. prepares_none _ _ (none_in t c is (cancellable c.state e)) refl
          (tt, (tt, release_if c a.du_begun (cu_up_release way at c.up true false ∷ []) ((refl, inl tt), tt))))
          (λ e. leaves_it _ t refl (tt, tt))

      by : (o : Option CuCpContext) → t.context ≡ o → Keeps t (xn_cancelled_on way at from instance t o)
      by None is = leaves_it _ t refl (tt, tt)
      by (Some c) is = of c is c.attempt

  pub released_keeps : (from : NodeId) (instance : ℕ) (t : CuCpTerminal) → Keeps t (xn_released way at from instance t)
  unfolding xn_released handed_over
  released_keeps from instance t = by t.context refl
    where
      of : (c : CuCpContext) → t.context ≡ Some c → (s : StateName) → c.state ≡ s → (o : Option Attempt) → Keeps t (xn_released_of way at from instance t c s o)
      of c is states.Commanded e (Some a) =
          keeps_if t (is_between_gnbs a.kind) _ _
          (λ f. prepares_none _ _ (none_in t c is (ap is_preparing e)) refl (tt, ((refl, inl tt), ((refl, inl tt), tt)))) (λ f. leaves_it _ t refl (tt, tt))
      of c is s e o = leaves_it _ t refl (tt, tt)

      by : (o : Option CuCpContext) → t.context ≡ o → Keeps t (xn_released_on way at from instance t o)
      by None is = leaves_it _ t refl (tt, tt)
      by (Some c) is = of c is c.state refl c.attempt

  -- ---- tokens

  leave_old_plain : (old c : CuCpContext) (a : Attempt) (k : AttemptKind) → AllByRecursion (IsPlain way at.gnb at.ue) (leave_old way at old c a k)
  leave_old_plain old c a kinds.Attach = ((refl, inl tt), tt)
  leave_old_plain old c a k = ((refl, inl tt), tt)

  pub completes_keeps : (epoch : ℕ) (t : CuCpTerminal) (c : CuCpContext) (a : Attempt) → preparation t.context ≡ None → Keeps t (completes way at epoch t c a)
  unfolding completes
  completes_keeps epoch t c a before =
      prepares_none _ _ before refl ((refl, inl tt), leave_old_plain c (record c { du = a.du; epoch = Some epoch; finished = false }) a a.kind)

  leave_old_again_plain : (old c : CuCpContext) (a : Attempt) (k : AttemptKind) (epoch : ℕ) → AllByRecursion (IsPlain way at.gnb at.ue) (leave_old_again way at old c a k epoch)
  leave_old_again_plain old c a kinds.Attach epoch = ((refl, inl tt), ((refl, inl tt), tt))
  leave_old_again_plain old c a k epoch = ((refl, inl tt), ((refl, inl tt), tt))

  pub completes_again_keeps : (epoch : ℕ) (t : CuCpTerminal) (c : CuCpContext) (a : Attempt) → preparation t.context ≡ None → Keeps t (completes_again way at epoch t c a)
  unfolding completes_again
  completes_again_keeps epoch t c a before = prepares_none _ _ before refl (leave_old_again_plain c (record c { du = a.du }) a a.kind epoch)

  pub returns_keeps : (epoch : ℕ) (t : CuCpTerminal) (c : CuCpContext) → t.context ≡ Some c → Keeps t (returns way at epoch t c)
  unfolding returns
  returns_keeps epoch t c is = by c.attempt refl
    where
      own : (a : Attempt) → c.attempt ≡ Some a → is_between_dus a.kind ≡ true → preparation t.context ≡ None
      own a e h = ap preparation is ∙ ap (λ (o : Option Attempt). prepared_of c.state o) e ∙ between_dus c.state a.kind a h

      after : CuCpTerminal
      after = record { context = Some (attempted c states.Returning (new_attempt kinds.Return epoch c.up c.du)); taken = greatest way t.taken epoch }

      of : (a : Attempt) → c.attempt ≡ Some a → (b : Bool) → is_between_dus a.kind ≡ b
          → Keeps t (row (du_modify way at c.du epoch ∷ (if b then du_release way at a.du false ∷ [] else xn_cancel way at ∷ [])) after)
      of a e true h = prepares_none _ _ (own a e h) refl ((refl, inl tt), ((refl, inl tt), tt))
      of a e false h = cancels_then _ _ _ (tt, refl) refl

      by : (o : Option Attempt) → c.attempt ≡ o → Keeps t (row (du_modify way at c.du epoch ∷ give_up_attempt way at o) after)
      by None e = prepares_none _ _ (ap preparation is ∙ ap (λ (o : Option Attempt). prepared_of c.state o) e) refl ((refl, inl tt), tt)
      by (Some a) e = of a e (is_between_dus a.kind) refl

  pub arrives_keeps : (epoch : ℕ) (t : CuCpTerminal) (c : CuCpContext) (a : Attempt) → preparation t.context ≡ None → Keeps t (arrives way at epoch t c a)
  unfolding arrives
  arrives_keeps epoch t c a before = prepares_none _ _ before refl ((refl, inl tt), ((refl, inl tt), tt))

  pub arrives_again_keeps : (epoch : ℕ) (t : CuCpTerminal) (c : CuCpContext) (a : Attempt) → preparation t.context ≡ None → Keeps t (arrives_again way at epoch t c a)
  unfolding arrives_again
  arrives_again_keeps epoch t c a before = prepares_none _ _ before refl ((refl, inl tt), ((refl, inl tt), tt))
