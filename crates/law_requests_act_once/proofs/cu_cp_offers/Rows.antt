-- The rows of a CU-CP: what each leaves of offers.
use Rattle.std.proofs.Common.{inl, ◌≡◌, ◌⊎◌, ◌==◌, ℕ, Bool, true, false, not, ◌&&◌, ◌||◌, List, Option, Some, None, refl, ap, ◌∙◌}
use Rattle.std.specs.Prelude.{if◌then◌else◌, nat_le}
use Rattle.gnb_types.specs.declared.names.NodeId.{NodeId}
use Rattle.gnb_types.specs.declared.names.NodeId.TheVariants.{CuCp}
use Rattle.gnb_types.specs.declared.names.UeId.{UeId}
use Rattle.gnb_types.specs.declared.plans.Plan.{Plan}
use Rattle.gnb_types.specs.declared.plans.SnStatus.{SnStatus}
use Rattle.transaction_defs.specs.Callees.{Callee}
use Rattle.unit_defs.specs.declared.StateName.{StateName}
use Rattle.unit_defs.specs.declared.StateName.TheVariants as states
use Rattle.unit_defs.specs.declared.AttemptKind.{AttemptKind}
use Rattle.unit_defs.specs.declared.AttemptKind.TheVariants as kinds
use Rattle.unit_defs.specs.Ways.{Way}
use Rattle.unit_defs.specs.Messages.{is_same_gnb, other_gnb, statuses_of, are_bearers}
use Rattle.unit_defs.specs.CuCpRecords.{Attempt, CuCpContext, CuCpTerminal, has_unit, last_epoch, bearers_in, Row}
use Rattle.unit_defs.specs.CuCpRows.{CuCpScope, own_up, own_du, is_between_gnbs, attach_on, attach, move_begins, handover_begins, epoch_of, is_serving, handover_on, handover, handover_expires, command, cancel_attempt, cancel_of, cancel_on, cancel, release_on, release, handed_over, offer_on, offer, takes_status, status_on, status, is_cancellable, xn_cancelled_of, xn_cancelled_on, xn_cancelled, xn_released_of, xn_released_on, xn_released}
use Rattle.law_requests_act_once.specs.channel.Ends.{same_node}
use Rattle.law_requests_act_once.specs.cu_cp_offers.Offers.{offered_in, offered_of, offer_of}
use Rattle.law_requests_act_once.proofs.cu_cp_offers.Carried.{Stands, RowFits, leaves, leaves_none, spends}

module _ {M C P : Type 0} (way : Way M C P) (was_asked : UeId → ℕ → Type 0) (at : CuCpScope) (e : Callee M) (t : CuCpTerminal) where
  abbrev Fits : Row C → Type 0
  Fits what = RowFits way at.gnb was_asked at.ue e what

  -- what stands for the terminal before
  abbrev Before : Type 0
  Before = Stands way at.gnb was_asked e at.ue (offer_of t.context)

  pub fits_if : (b : Bool) (x y : Row C) → (b ≡ true → Fits x) → (b ≡ false → Fits y) → Fits (if b then x else y)
  fits_if true x y p q = p refl
  fits_if false x y p q = q refl

  -- ---- orders

  pub attach_fits : Before → (plan : Plan) → Fits (attach way at plan t)
  unfolding attach
  attach_fits h plan = by t.context
    where
      by : (o : Option CuCpContext) → Fits (attach_on way at plan t o)
      by (Some c) = (leaves _ _ h (tt, tt))
      by None =
          fits_if (not (has_unit at.units (own_up at plan.up)) || not (has_unit at.units (own_du at plan.du))) _ _ (λ f. (leaves _ _ h (tt, tt)))
          (λ f. leaves_none _ _ refl)

  pub handover_fits : Before → (goal : Plan) → Fits (handover way at goal t)
  unfolding handover move_begins handover_begins
  handover_fits h goal = by t.context
    where
      by : (o : Option CuCpContext) → Fits (handover_on way at goal t o)
      by None = (leaves _ _ h (tt, tt))
      by (Some c) =
          fits_if (is_same_gnb goal.gnb at.gnb && goal.du == c.du) _ _ (λ f. (leaves _ _ h (tt, tt)))
          (λ f. fits_if (is_same_gnb goal.gnb at.gnb && not (goal.up == c.up)) _ _ (λ g. (leaves _ _ h (tt, tt)))
          (λ g. fits_if (not (is_serving way c.state)) _ _ (λ k. (leaves _ _ h (tt, tt)))
          (λ k. fits_if (is_same_gnb goal.gnb at.gnb) _ _ (λ l. leaves_none _ _ refl)
          (λ l. fits_if (nat_le last_epoch (epoch_of way c)) _ _ (λ n. spends _) (λ n. leaves_none _ _ refl)))))

  pub cancel_fits : Before → Fits (cancel way at t)
  unfolding cancel
  cancel_fits h = by t.context
    where
      of : (c : CuCpContext) (s : StateName) (k : AttemptKind) (a : Attempt) → Fits (cancel_attempt way at t c s k a)
      of c states.Preparing kinds.BetweenGnbs a = leaves_none _ _ refl
      of c states.Preparing kinds.BetweenDus a = (leaves _ _ h (tt, tt))
      of c states.Prepared k a = (leaves _ _ h (tt, tt))
      of c states.Frozen kinds.BetweenDus a = leaves_none _ _ refl
      of c states.Frozen k a = leaves_none _ _ refl
      of c states.Commanded kinds.BetweenDus a = (leaves _ _ h (tt, tt))
      of c states.Commanded kinds.BetweenGnbs a = (leaves _ _ h (tt, tt))
      of c s k a = (leaves _ _ h (tt, tt))

      with_attempt : (c : CuCpContext) (o : Option Attempt) → Fits (cancel_of way at t c o)
      with_attempt c None = (leaves _ _ h (tt, tt))
      with_attempt c (Some a) = of c c.state a.kind a

      by : (o : Option CuCpContext) → Fits (cancel_on way at t o)
      by None = (leaves _ _ h (tt, tt))
      by (Some c) = with_attempt c c.attempt

  pub release_fits : Before → Fits (release way at t)
  unfolding release
  release_fits h = by t.context
    where
      by : (o : Option CuCpContext) → Fits (release_on way at t o)
      by None = (leaves _ _ h (tt, tt))
      by (Some c) = fits_if (is_serving way c.state) _ _ (λ f. leaves_none _ _ refl) (λ f. (leaves _ _ h (tt, tt)))

  -- ---- ticks

  pub expires_fits : (c : CuCpContext) → Fits (handover_expires way at t c)
  unfolding handover_expires
  expires_fits c = leaves_none _ _ refl

  pub command_fits : (c : CuCpContext) (a : Attempt) → Fits (command way at t c a)
  unfolding command
  command_fits c a = leaves_none _ _ refl

  -- ---- requests of others

  pub offer_fits : Before → (from : NodeId) (instance : ℕ) (new : CuCpContext) → offer_of t.context ≡ None
      → Stands way at.gnb was_asked e at.ue (offer_of (Some new)) → Fits (offer way at from instance new t)
  unfolding offer
  offer_fits h from instance new none stands = by t.context
    where
      by : (o : Option CuCpContext) → Fits (offer_on way at from instance new t o)
      by (Some c) = (leaves _ _ h (inl none, tt))
      by None =
          fits_if (has_unit at.units (own_up at new.up) && has_unit at.units (own_du at new.du)) _ _ (λ f. (leaves _ _ stands (tt, tt))) (λ f. (leaves _ _ h (inl none, tt)))

  module _ (from : NodeId) (instance : ℕ) where
    pub status_fits : Before → (offer_of t.context ≡ None) ⊎ (same_node from (CuCp (other_gnb at.gnb)) ≡ false) → (ss : List SnStatus) → Fits (status way at from instance ss t)
    unfolding status
    status_fits h apart ss = by t.context
      where
        by : (o : Option CuCpContext) → Fits (status_on way at from instance ss t o)
        by None = (leaves _ _ h (tt, tt))
        by (Some c) = fits_if (takes_status way c && are_bearers (bearers_in c) (statuses_of ss)) _ _ (λ f. (leaves _ _ h (apart, (tt, tt)))) (λ f. (leaves _ _ h (tt, tt)))

    not_offered : (s : StateName) (a : Attempt) → is_cancellable way s ≡ false → offered_in s a ≡ None
    not_offered states.Offered a f = absurd cc
    not_offered s a f = refl

    -- a cancel leaves no offer
    pub cancelled_fits : Fits (xn_cancelled way at from instance t)
    unfolding xn_cancelled
    cancelled_fits = by t.context refl
      where
        of : (c : CuCpContext) → t.context ≡ Some c → (o : Option Attempt) → c.attempt ≡ o → Fits (xn_cancelled_of way at from instance t c o)
        of c is None f = leaves_none _ t (ap offer_of is ∙ ap (λ (o : Option Attempt). offered_of c.state o) f)
        of c is (Some a) f =
            fits_if (is_cancellable way c.state) _ _ (λ g. leaves_none _ _ refl)
            (λ g. leaves_none _ t (ap offer_of is ∙ ap (λ (o : Option Attempt). offered_of c.state o) f ∙ not_offered c.state a g))

        by : (o : Option CuCpContext) → t.context ≡ o → Fits (xn_cancelled_on way at from instance t o)
        by None is = leaves_none _ t (ap offer_of is)
        by (Some c) is = of c is c.attempt refl

    pub released_fits : Before → Fits (xn_released way at from instance t)
    unfolding xn_released handed_over
    released_fits h = by t.context
      where
        of : (c : CuCpContext) (s : StateName) (o : Option Attempt) → Fits (xn_released_of way at from instance t c s o)
        of c states.Commanded (Some a) = fits_if (is_between_gnbs a.kind) _ _ (λ f. leaves_none _ _ refl) (λ f. (leaves _ _ h (tt, tt)))
        of c s o = (leaves _ _ h (tt, tt))

        by : (o : Option CuCpContext) → Fits (xn_released_on way at from instance t o)
        by None = (leaves _ _ h (tt, tt))
        by (Some c) = of c c.state c.attempt
