-- A context's downlinks are given from the next TEID on, one after another: each TEID to at most one bearer.
use Rattle.std.proofs.Common.{◌≡◌, ◌≤◌, ◌==◌, ℕ, ◌+◌, ◌-◌, Bool, true, false, not, List, [], ◌∷◌, length, map, Option, Some, None, refl, sym, ap, ◌∙◌, eqb-true, eq-eqb, arith}
use Rattle.std.proofs.lemmas.Bool.{and_parts}
use Rattle.std.specs.Prelude.{if◌then◌else◌, nat_le}
use Rattle.gnb_types.specs.declared.names.NodeId.{NodeId}
use Rattle.gnb_types.specs.declared.names.BearerId.{BearerId}
use Rattle.gnb_types.specs.declared.keys.Channel.{Channel}
use Rattle.gnb_types.specs.declared.plans.Tunnel.{Tunnel}
use Rattle.unit_defs.specs.Teids.{last_teid, teids_are_left, teid_after}
use Rattle.unit_defs.specs.Du.{DuBearer, bearers_made, bearers_anew}
use Rattle.proof_unit_steps.specs.downlink_names.Places.{Grant, Granted}
use Rattle.proof_unit_steps.specs.downlink_grants.Grants.{IsLeft}

clash : true ≡ false → ⊥
clash e = absurd cc

-- bearers whose downlinks go on from here
abbrev pub GoOn : ℕ → List (BearerId × DuBearer) → Type 0
GoOn next [] = Unit {0}
GoOn next (e ∷ es) = (e.1.downlink ≡ next) × GoOn (next + 1) es

abbrev pub tunnels_in : List (BearerId × DuBearer) → List Tunnel
tunnels_in es = map (λ e. record { bearer = e.0; teid = e.1.downlink }) es

pub made_go_on : (up : NodeId) (next : ℕ) (ts : List Tunnel) → GoOn next (bearers_made up next ts)
made_go_on up next [] = tt
made_go_on up next (t ∷ ts) = (refl, made_go_on up (next + 1) ts)

pub anew_go_on : (next : ℕ) (es : List (BearerId × DuBearer)) → GoOn next (bearers_anew next es)
anew_go_on next [] = tt
anew_go_on next (e ∷ es) = (refl, anew_go_on (next + 1) es)

module _ (ch : Channel) (i teid : ℕ) where
  -- the answer in which a list gives the TEID, if it does
  abbrev pub given_in : List (BearerId × DuBearer) → Option Grant
  given_in [] = None
  given_in (e ∷ es) = if e.1.downlink == teid then Some (record { channel = ch; instance = i; bearer = e.0 }) else given_in es

  -- TEIDs from above this one are others
  none_above : (next : ℕ) (es : List (BearerId × DuBearer)) (g : Option Grant) → GoOn next es → teid + 1 ≤ next → Granted teid g ch i (tunnels_in es)
  none_above next [] g on above = tt
  none_above next (e ∷ es) g on above = (
    λ named. let at : e.1.downlink ≡ next = on.0 in let it : e.1.downlink ≡ teid = named in absurd (omega (arith, at, it, above)),
    none_above (next + 1) es g on.1 (omega (arith, above)),
  )

  pub granted_in : (next : ℕ) (es : List (BearerId × DuBearer)) → GoOn next es → Granted teid (given_in es) ch i (tunnels_in es)
  granted_in next [] on = tt
  granted_in next (e ∷ es) on = by (granted_in (next + 1) es on.1) (e.1.downlink == teid) refl
    where
      by : Granted teid (given_in es) ch i (tunnels_in es) → (t : Bool) → e.1.downlink == teid ≡ t
          → Granted teid (if t then Some (record { channel = ch; instance = i; bearer = e.0 }) else given_in es) ch i (tunnels_in (e ∷ es))
      by rest true is =
          let at : e.1.downlink ≡ next = on.0 in
          let it : e.1.downlink ≡ teid = eqb-true e.1.downlink teid is in
          (λ named. refl, none_above (next + 1) es (Some (record { channel = ch; instance = i; bearer = e.0 })) on.1 (omega (arith, at, it)))
      by rest false is = (λ named. absurd (clash (sym (eq-eqb e.1.downlink teid named) ∙ is)), rest)

  -- where it doesn't, no tunnel of it has the TEID
  pub not_in : (es : List (BearerId × DuBearer)) (g : Option Grant) → given_in es ≡ None → Granted teid g ch i (tunnels_in es)
  not_in [] g none = tt
  not_in (e ∷ es) g none = by (not_in es g) (e.1.downlink == teid) refl none
    where
      by : (given_in es ≡ None → Granted teid g ch i (tunnels_in es)) → (t : Bool) → e.1.downlink == teid ≡ t → (if t then Some (record { channel = ch; instance = i; bearer = e.0 }) else given_in es) ≡ None
          → Granted teid g ch i (tunnels_in (e ∷ es))
      by rest true is h = absurd cc
      by rest false is h = (λ named. absurd (clash (sym (eq-eqb e.1.downlink teid named) ∙ is)), rest h)

  -- where it does, the TEID is one of those that were left
  pub is_in : (next : ℕ) (es : List (BearerId × DuBearer)) (g : Grant) → GoOn next es → given_in es ≡ Some g → (next ≤ teid) × (teid + 1 ≤ next + length es)
  is_in next [] g on is = absurd cc
  is_in next (e ∷ es) g on is = by (is_in (next + 1) es g on.1) (e.1.downlink == teid) refl is
    where
      by : (given_in es ≡ Some g → (next + 1 ≤ teid) × (teid + 1 ≤ (next + 1) + length es)) → (t : Bool) → e.1.downlink == teid ≡ t → (if t then Some (record { channel = ch; instance = i; bearer = e.0 }) else given_in es) ≡ Some g
          → (next ≤ teid) × (teid + 1 ≤ next + length (e ∷ es))
      by more true tie h =
          let at : e.1.downlink ≡ next = on.0 in
          let it : e.1.downlink ≡ teid = eqb-true e.1.downlink teid tie in (omega (arith, at, it), omega (arith, at, it))
      by more false off h =
          let rest = more h in
          let low = rest.0 in
          let high = rest.1 in (omega (arith, low), omega (arith, high))

-- ---- the next one

pub left_before : (next count teid : ℕ) → teids_are_left next count ≡ true → IsLeft (teid_after next count) teid → IsLeft next teid × (next + count ≤ teid)
left_before next count teid left is = by (next + count - 1 == last_teid) refl is
  where
    zero_not : next ≡ 0 → ⊥
    zero_not e = clash (sym (and_parts (not (next == 0)) (nat_le (next + count - 1) last_teid) left).0 ∙ ap (λ (b : Bool). not b) (eq-eqb next 0 e))

    by : (t : Bool) → next + count - 1 == last_teid ≡ t → IsLeft (if t then 0 else next + count) teid → IsLeft next teid × (next + count ≤ teid)
    by true at h = absurd (h.0 refl)
    by false at h = let high = h.1 in ((zero_not, omega (arith, high)), high)

pub is_left : (next count teid : ℕ) → teids_are_left next count ≡ true → next ≤ teid → IsLeft next teid
is_left next count teid left low = (
  λ e. clash (sym (and_parts (not (next == 0)) (nat_le (next + count - 1) last_teid) left).0 ∙ ap (λ (b : Bool). not b) (eq-eqb next 0 e)),
  low,
)
