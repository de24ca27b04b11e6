-- The rows of the bearers of a context, one after another, as one of them sees it.
use Rattle.std.proofs.Common.{◌≡◌, ◌==◌, ℕ, ◌+◌, Bool, true, false, cond, ◌&&◌, List, [], ◌∷◌, ◌++◌, map, Option, Some, None, refl, sym, ap, subst, ◌∙◌, eqb-true, eq-eqb}
use Rattle.std.specs.Prelude.{if◌then◌else◌}
use Rattle.std.specs.Ordering.{eq_by_cmp, is_eq}
use Rattle.std.specs.Cmp.{tied_itself, Equal-is}
use Rattle.std.specs.Map.{lookup, keys_of}
use Rattle.std.specs.BTreeMap.{is_at}
use Rattle.std.proofs.lemmas.List.{append-nil}
use Rattle.std.proofs.lemmas.List.Elements.{filter-append}
use Rattle.gnb_types.specs.declared.names.UeId.{UeId}
use Rattle.gnb_types.specs.declared.names.BearerId.{BearerId}
use Rattle.gnb_types.specs.declared.plans.SnStatus.{SnStatus}
use Rattle.gnb_types.specs.Orders.{ue_cmp, bearer_cmp}
use Rattle.gnb_types.proofs.OrderLemmas.{bearer_total, bearer_exact}
use Rattle.tables.specs.Tables.{find}
use Rattle.unit_defs.specs.Ways.{Output, Way, Answer, gives, spent}
use Rattle.unit_defs.specs.Messages.{are_bearers, statuses_of, teid_of}
use Rattle.unit_defs.specs.CuUpRecords.{CuUpBearer, CuUpContext, cu_up_scope}
use Rattle.unit_defs.specs.CuUpBearers.{with_status, with_uplink}
use Rattle.unit_defs.specs.CuUp.{UpStep, steps, stops, step_with, each_bearer, status_each, uplinks_from, teids_from}
use Rattle.proof_unit_steps.proofs.tunnel_frames.Contexts.{Bearers, Others, Apart}
use Rattle.proof_cu_up_orders.specs.context_orders.Inputs.{status_in}
use Rattle.proof_cu_up_orders.specs.context_orders.Shown.{is_bearer, is_on, on_bearer}
use Rattle.proof_cu_up_orders.proofs.context_orders.Others.{Off, off_both, off_status, off_uplink}

pub and_false : (t b : Bool) → b ≡ false → t && b ≡ false
and_false true b e = e
and_false false b e = refl

both_true : (a b : Bool) → a && b ≡ true → (a ≡ true) × (b ≡ true)
both_true true b h = (refl, h)
both_true false b h = absurd cc

same_bearer : (a b : BearerId) → eq_by_cmp bearer_cmp a b ≡ true → a ≡ b
same_bearer a b tie = bearer_exact a b ((Equal-is (bearer_cmp a b)).0 tie)

is_itself : (a b : BearerId) → a ≡ b → eq_by_cmp bearer_cmp a b ≡ true
is_itself a b same = ap (eq_by_cmp bearer_cmp a) (sym same) ∙ ap is_eq (tied_itself bearer_total a)

-- the same by numbers
numbers_tie : (a b : BearerId) (t : Bool) → eq_by_cmp bearer_cmp a b ≡ t → (b.0 == a.0) ≡ t
numbers_tie a b true tie = eq-eqb b.0 a.0 (ap (λ (c : BearerId). c.0) (sym (same_bearer a b tie)))
numbers_tie a b false off = by (b.0 == a.0) refl
  where
    by : (t : Bool) → (b.0 == a.0) ≡ t → t ≡ false
    by true e = sym (is_itself a b (ap (λ (n : ℕ). record { 0 = n }) (sym (eqb-true b.0 a.0 e)))) ∙ off
    by false e = refl

-- none of these has the key
none_found : (b : BearerId) (es : Bearers) → Others b es → find bearer_cmp es b ≡ None
unfolding find
none_found b [] others = refl
none_found b (e ∷ es) others = by (none_found b es others.1) (is_at (bearer_cmp b) e.0) refl
  where
    by : find bearer_cmp es b ≡ None → (t : Bool) → is_at (bearer_cmp b) e.0 ≡ t → cond t (Some e.1) (lookup (is_at (bearer_cmp b)) es) ≡ None
    by later true tie = absurd (others.0 (sym (same_bearer b e.0 tie)))
    by later false off = later

module _ {M C P : Type 0} (way : Way M C P) (ue : UeId) (bearer : BearerId) where
  abbrev pub Row : Type 0
  Row = CuUpBearer → Answer M P CuUpBearer

  -- what a row of this bearer gives: its outputs, and the bearer that is found then
  abbrev pub Given : List (Output M P) → Option CuUpBearer → Answer M P CuUpBearer → Type 0
  Given os found (gives more y) = (found ≡ Some y) × (on_bearer ue bearer os ≡ on_bearer ue bearer more)
  Given os found (spent counter) = ⊥

  -- where the bearer is there; else nothing is put on it
  abbrev pub Turned : Row → List (Output M P) → Option CuUpBearer → Option CuUpBearer → Type 0
  Turned row os found None = (found ≡ None) × (on_bearer ue bearer os ≡ [])
  Turned row os found (Some x) = Given os found (row x)

  abbrev pub StepIs : Row → Bearers → UpStep way → Type 0
  StepIs row es (steps os bs) = Turned row os (find bearer_cmp bs bearer) (find bearer_cmp es bearer) × (keys_of bs ≡ keys_of es)
  StepIs row es (stops counter) = Unit {0}

  step_one : (row later : Row) (e : BearerId × CuUpBearer) (es : Bearers) (a : Answer M P CuUpBearer) (s : UpStep way) → Others e.0 es
      → (eq_by_cmp bearer_cmp bearer e.0 ≡ true → a ≡ row e.1) → (eq_by_cmp bearer_cmp bearer e.0 ≡ false → Off way ue bearer a)
      → (eq_by_cmp bearer_cmp bearer e.0 ≡ false → (x : CuUpBearer) → later x ≡ row x) → StepIs later es s → StepIs row (e ∷ es) (step_with way e.0 a s)
  unfolding find
  step_one row later e es (spent k) s others mine off same h = tt
  step_one row later e es (gives os b) (stops k) others mine off same h = tt
  step_one row later e es (gives os b) (steps more bs) others mine off same h =
      (by (is_at (bearer_cmp bearer) e.0) refl, ap (λ (ks : List BearerId). e.0 ∷ ks) h.1)
    where
      found : Option CuUpBearer
      found = find bearer_cmp bs bearer

      -- what the others put besides is nothing on this one
      given : on_bearer ue bearer os ≡ [] → (a : Answer M P CuUpBearer) → Given more found a → Given (os ++ more) found a
      given none (gives ys y) g =
          (g.0, filter-append (is_on ue bearer) os more ∙ ap (λ (zs : List (Output M P)). zs ++ on_bearer ue bearer more) none ∙ g.1)
      given none (spent k) g = g

      turned : eq_by_cmp bearer_cmp bearer e.0 ≡ false → (o : Option CuUpBearer) → Turned later more found o → Turned row (os ++ more) found o
      turned tie None t = (t.0, off_both way ue bearer os more (off tie) t.1)
      turned tie (Some x) t = given (off tie) (row x) (subst (λ (a : Answer M P CuUpBearer). Given more found a) (same tie x) t)

      by : (t : Bool) → is_at (bearer_cmp bearer) e.0 ≡ t
          → Turned row (os ++ more) (cond t (Some b) (find bearer_cmp bs bearer)) (cond t (Some e.1) (find bearer_cmp es bearer))
      by true tie =
          let none : find bearer_cmp es bearer ≡ None =
          subst (λ (k : BearerId). find bearer_cmp es k ≡ None) (sym (same_bearer bearer e.0 tie)) (none_found e.0 es others) in
          let rest : Turned later more found None = subst (λ (o : Option CuUpBearer). Turned later more found o) none h.0 in
          subst (λ (a : Answer M P CuUpBearer). Given (os ++ more) (Some b) a) (mine tie) (
            refl,
            filter-append (is_on ue bearer) os more ∙ ap (λ (zs : List (Output M P)). on_bearer ue bearer os ++ zs) rest.1 ∙ append-nil (on_bearer ue bearer os),
          )
      by false tie = turned tie (find bearer_cmp es bearer) h.0

  pub each_step : (order : BearerId → Row) → ((b : BearerId) (x : CuUpBearer) → eq_by_cmp bearer_cmp bearer b ≡ false → Off way ue bearer (order b x))
      → (es : Bearers) → Apart es → StepIs (order bearer) es (each_bearer way order es)
  unfolding find
  each_step order off [] apart = ((refl, refl), refl)
  each_step order off (e ∷ es) apart =
      step_one (order bearer) (order bearer) e es (order e.0 e.1) (each_bearer way order es) apart.0
      (λ tie. ap (λ (b : BearerId). order b e.1) (sym (same_bearer bearer e.0 tie))) (off e.0 e.1) (λ tie x. refl) (each_step order off es apart.1)

  is_other : (b : BearerId) → eq_by_cmp bearer_cmp bearer b ≡ false → is_bearer ue bearer ue b ≡ false
  is_other b off = and_false (eq_by_cmp ue_cmp ue ue) (eq_by_cmp bearer_cmp bearer b) off

  abbrev status_row : CuUpContext → List SnStatus → Row
  status_row c ss x = with_status way (cu_up_scope ue c bearer) (status_in way ss bearer) x

  pub status_step : (c : CuUpContext) (ss : List SnStatus) (es : Bearers) → Apart es → are_bearers (map (λ e. e.0) es) (statuses_of ss) ≡ true
      → StepIs (status_row c ss) es (status_each way ue c ss es)
  unfolding find
  status_step c [] [] apart named = ((refl, refl), refl)
  status_step c [] (e ∷ es) apart named = absurd cc
  status_step c (s ∷ ss) [] apart named = absurd cc
  status_step c (s ∷ ss) (e ∷ es) apart named =
      step_one (status_row c (s ∷ ss)) (status_row c ss) e es (with_status way (cu_up_scope ue c e.0) s e.1) (status_each way ue c ss es) apart.0
      (λ tie. sym (λ i. with_status way (cu_up_scope ue c (same_bearer bearer e.0 tie i)) (picked true (at_s tie) i) e.1))
      (λ tie. off_status way ue bearer (cu_up_scope ue c e.0) (is_other e.0 tie) s e.1)
      (λ tie x. ap (λ (t : SnStatus). with_status way (cu_up_scope ue c bearer) t x) (sym (picked false (at_s tie)))) (status_step c ss es apart.1 both.1)
    where
      both : (e.0.0 == s.bearer.0 ≡ true) × (are_bearers (map (λ e. e.0) es) (statuses_of ss) ≡ true)
      both = both_true (e.0.0 == s.bearer.0) (are_bearers (map (λ e. e.0) es) (statuses_of ss)) named

      same : e.0 ≡ s.bearer
      same = ap (λ (n : ℕ). record { 0 = n }) (eqb-true e.0.0 s.bearer.0 both.0)

      at_s : {t : Bool} → eq_by_cmp bearer_cmp bearer e.0 ≡ t → eq_by_cmp bearer_cmp bearer s.bearer ≡ t
      at_s tie = ap (eq_by_cmp bearer_cmp bearer) (sym same) ∙ tie

      picked : (t : Bool) → eq_by_cmp bearer_cmp bearer s.bearer ≡ t → status_in way (s ∷ ss) bearer ≡ (if t then s else status_in way ss bearer)
      picked t tie i = if tie i then s else status_in way ss bearer

  abbrev uplink_row : ℕ → Bearers → Row
  uplink_row next es x = with_uplink way (teid_of (teids_from way next es) bearer) x

  pub uplink_step : (next : ℕ) (es : Bearers) → Apart es → StepIs (uplink_row next es) es (uplinks_from way next es)
  unfolding find
  uplink_step next [] apart = ((refl, refl), refl)
  uplink_step next (e ∷ es) apart =
      step_one (uplink_row next (e ∷ es)) (uplink_row (next + 1) es) e es (with_uplink way next e.1) (uplinks_from way (next + 1) es) apart.0
      (λ tie. ap (λ (n : ℕ). with_uplink way n e.1) (sym (picked true (numbers_tie bearer e.0 true tie)))) (λ tie. off_uplink way ue bearer next e.1)
      (λ tie x. ap (λ (n : ℕ). with_uplink way n x) (sym (picked false (numbers_tie bearer e.0 false tie)))) (uplink_step (next + 1) es apart.1)
    where
      picked : (t : Bool) → (e.0.0 == bearer.0) ≡ t
          → teid_of (teids_from way next (e ∷ es)) bearer ≡ (if t then next else teid_of (teids_from way (next + 1) es) bearer)
      picked t tie i = if tie i then next else teid_of (teids_from way (next + 1) es) bearer

  -- ---- the bearers of another terminal

  abbrev pub StepOff : Bearers → UpStep way → Type 0
  StepOff es (steps os bs) = (on_bearer ue bearer os ≡ []) × (keys_of bs ≡ keys_of es)
  StepOff es (stops counter) = Unit {0}

  off_one : (e : BearerId × CuUpBearer) (es : Bearers) (a : Answer M P CuUpBearer) (s : UpStep way) → Off way ue bearer a → StepOff es s
      → StepOff (e ∷ es) (step_with way e.0 a s)
  off_one e es (spent k) s p h = tt
  off_one e es (gives os b) (stops k) p h = tt
  off_one e es (gives os b) (steps more bs) p h = (off_both way ue bearer os more p h.0, ap (λ (ks : List BearerId). e.0 ∷ ks) h.1)

  pub off_bearers : (order : BearerId → Row) → ((b : BearerId) (x : CuUpBearer) → Off way ue bearer (order b x)) → (es : Bearers)
      → StepOff es (each_bearer way order es)
  off_bearers order off [] = (refl, refl)
  off_bearers order off (e ∷ es) = off_one e es (order e.0 e.1) (each_bearer way order es) (off e.0 e.1) (off_bearers order off es)

  pub off_uplinks : (next : ℕ) (es : Bearers) → StepOff es (uplinks_from way next es)
  off_uplinks next [] = (refl, refl)
  off_uplinks next (e ∷ es) =
      off_one e es (with_uplink way next e.1) (uplinks_from way (next + 1) es) (off_uplink way ue bearer next e.1) (off_uplinks (next + 1) es)

  pub off_statuses : (u : UeId) → eq_by_cmp ue_cmp ue u ≡ false → (c : CuUpContext) (ss : List SnStatus) (es : Bearers)
      → StepOff es (status_each way u c ss es)
  off_statuses u other c [] es = (refl, refl)
  off_statuses u other c (s ∷ ss) [] = (refl, refl)
  off_statuses u other c (s ∷ ss) (e ∷ es) =
      off_one e es (with_status way (cu_up_scope u c e.0) s e.1) (status_each way u c ss es)
      (off_status way ue bearer (cu_up_scope u c e.0) (ap (λ (t : Bool). t && eq_by_cmp bearer_cmp bearer e.0) other) s e.1) (off_statuses u other c ss es)
