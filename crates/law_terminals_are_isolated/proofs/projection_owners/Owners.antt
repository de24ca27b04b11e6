-- Whose an open TEID is follows from the contexts, so it stays where they stay.
use Rattle.std.proofs.Common.{◌≡◌, ◌≤◌, ℕ, ◌+◌, ◌==◌, Bool, true, false, cond, List, [], ◌∷◌, map, Option, Some, None, refl, sym, ap, ◌∙◌, subst, arith, eqb-true}
use Rattle.std.specs.Prelude.{if◌then◌else◌}
use Rattle.std.specs.List.{AllByRecursion}
use Rattle.std.specs.List.Sorted.{IsStrictlySortedBy}
use Rattle.std.specs.declared.cmp.Ordering.{Ordering}
use Rattle.std.specs.declared.cmp.Ordering.TheVariants.{Less, Equal}
use Rattle.std.specs.Ordering.{nat_cmp, is_eq}
use Rattle.std.specs.Map.{lookup}
use Rattle.std.specs.BTreeMap.{is_at}
use Rattle.std.specs.Cmp.{tied_itself}
use Rattle.std.proofs.lemmas.Bool.{eq-eqb}
use Rattle.gnb_types.specs.declared.names.UeId.{UeId}
use Rattle.gnb_types.specs.declared.names.BearerId.{BearerId}
use Rattle.gnb_types.specs.Orders.{ue_cmp, bearer_cmp}
use Rattle.gnb_types.proofs.OrderLemmas.{bearer_total, bearer_exact}
use Rattle.tables.specs.Tables.{find, IsSorted}
use Rattle.tables.proofs.TableLaws.{other_key}
use Rattle.unit_defs.specs.Ways.{Input, Way, Answer, gives, spent}
use Rattle.unit_defs.specs.Teids.{last_teid}
use Rattle.unit_defs.specs.CuUpRecords.{CuUpTunnel, CuUp}
use Rattle.unit_defs.specs.CuUp.{cu_up_acts}
use Rattle.unit_defs.specs.Du.{DuBearer, DuContext, DuTunnel, Du, du_acts}
use Rattle.proof_run_steps.specs.teids.Given.{below}
use Rattle.proof_unit_steps.specs.answers.After.{HoldsAfter}
use Rattle.law_tunnels_are_owned.specs.owner_facts.Owned.{cu_up_names, up_context_names, du_names, du_context_names, is_downlink, CuUpOwns, DuOwns}
use Rattle.law_tunnels_are_owned.proofs.tunnel_owners.CuUps.{cu_up_owns}
use Rattle.law_terminals_are_isolated.specs.projections.Steps.{PutsFor, StaysFor}
use Rattle.law_terminals_are_isolated.specs.cu_up_projection.CuUps.{CuUpWithoutTeids, cu_up_without_teids, cu_up_projection, own_tunnel, cu_up_ue}
use Rattle.law_terminals_are_isolated.proofs.cu_up_projection.Others.{up_steps}
use Rattle.law_terminals_are_isolated.specs.du_projection.Dus.{du_projection, du_ue, IsApart}
use Rattle.law_terminals_are_isolated.proofs.du_projection.Others.{du_steps}

-- ---- CU-UP

module _ (ue : UeId) where
  same_ue : (t : CuUpTunnel) → (t.ue.0 == ue.0) ≡ true → t.ue ≡ ue
  same_ue t e = ap (λ (n : ℕ). record { 0 = n }) (eqb-true t.ue.0 ue.0 e)

  -- each one of the terminal's in one of two places is in the other
  own_equal : (a b : Option CuUpTunnel) → ((t : CuUpTunnel) → t.ue ≡ ue → a ≡ Some t → b ≡ Some t) → ((t : CuUpTunnel) → t.ue ≡ ue → b ≡ Some t → a ≡ Some t)
      → own_tunnel ue a ≡ own_tunnel ue b
  own_equal None None there back = refl
  own_equal None (Some u) there back = by (u.ue.0 == ue.0) refl
    where
      by : (c : Bool) → (u.ue.0 == ue.0) ≡ c → None ≡ own_tunnel ue (Some u)
      by true e = ap (own_tunnel ue) (back u (same_ue u e) refl)
      by false e = sym (ap (λ (c : Bool). if c then Some u else None) e)
  own_equal (Some t) b there back = by (t.ue.0 == ue.0) refl
    where
      none : (x : Option CuUpTunnel) → (t.ue.0 == ue.0) ≡ false → ((u : CuUpTunnel) → u.ue ≡ ue → x ≡ Some u → Some t ≡ Some u) → None ≡ own_tunnel ue x
      none None e same = refl
      none (Some u) e same = at (u.ue.0 == ue.0) refl
        where
          at : (c : Bool) → (u.ue.0 == ue.0) ≡ c → None ≡ own_tunnel ue (Some u)
          at true f = sym (ap (λ (c : Bool). if c then Some t else None) e) ∙ ap (own_tunnel ue) (same u (same_ue u f) refl)
          at false f = sym (ap (λ (c : Bool). if c then Some u else None) f)

      by : (c : Bool) → (t.ue.0 == ue.0) ≡ c → own_tunnel ue (Some t) ≡ own_tunnel ue b
      by true e = ap (own_tunnel ue) (sym (there t (same_ue t e) refl))
      by false e = ap (λ (c : Bool). if c then Some t else None) e ∙ none b e back

  module _ {M C : Type 0} (r s : CuUp M C) (p : CuUpOwns r) (q : CuUpOwns s) (same : find ue_cmp s.contexts ue ≡ find ue_cmp r.contexts ue) where
    names_same : (t : CuUpTunnel) (teid : ℕ) → t.ue ≡ ue → cu_up_names s.contexts t teid ≡ cu_up_names r.contexts t teid
    names_same t teid is =
        ap (up_context_names t teid) (subst (λ (v : UeId). find ue_cmp s.contexts v ≡ find ue_cmp r.contexts v) (sym is) same)

    pub tunnels_same : (teid : ℕ) → own_tunnel ue (find nat_cmp s.tunnels teid) ≡ own_tunnel ue (find nat_cmp r.tunnels teid)
    tunnels_same teid =
        own_equal (find nat_cmp s.tunnels teid) (find nat_cmp r.tunnels teid)
        (λ t is e. p.0.stands teid t (sym (names_same t teid is) ∙ q.0.named teid t e))
        (λ t is e. q.0.stands teid t (names_same t teid is ∙ p.0.named teid t e))

module _ {M C P : Type 0} (way : Way M C P) (ue : UeId) where
  pub up_owning : (input : Input C P) (r : CuUp M C) → CuUpOwns r → cu_up_ue r input ≡ Some ue → PutsFor ue.0 (StaysFor cu_up_projection ue r) (cu_up_acts way r input)
  up_owning input r owns is = by (cu_up_acts way r input) (up_steps way ue input r is) (cu_up_owns way r input owns)
    where
      by : (a : Answer M P (CuUp M C)) → PutsFor ue.0 (StaysFor cu_up_without_teids ue r) a → HoldsAfter CuUpOwns a → PutsFor ue.0 (StaysFor cu_up_projection ue r) a
      by (gives outputs s) p q = (
        p.0,
        λ other apart i. record {
          context = (p.1 other apart i).context;
          tunnels = λ teid. tunnels_same other r s owns q (ap (λ (x : CuUpWithoutTeids M C). x.context) (p.1 other apart)) teid i;
          requests = (p.1 other apart i).requests;
        },
      )
      by (spent counter) p q = tt

-- ---- DU

-- what stands at each key of a list in order is its own
extend : (e : BearerId × DuBearer) (es fs : List (BearerId × DuBearer)) → AllByRecursion (λ y. bearer_cmp e.0 y ≡ Less) (map (λ f. f.0) fs)
    → AllByRecursion (λ (f : BearerId × DuBearer). find bearer_cmp es f.0 ≡ Some f.1) fs
    → AllByRecursion (λ (f : BearerId × DuBearer). find bearer_cmp (e ∷ es) f.0 ≡ Some f.1) fs
unfolding find
extend e es [] below all = tt
extend e es (f ∷ fs) below all = (
  ap (λ (b : Bool). cond b (Some e.1) (lookup (is_at (bearer_cmp f.0)) es))
      (other_key (record { total = bearer_total; exact = bearer_exact }) f.0 e.0
      (λ same. differs (sym (tied_itself bearer_total e.0) ∙ ap (bearer_cmp e.0) (sym same) ∙ below.0))) ∙ all.0,
  extend e es fs below.1 all.1,
)
  where
    differs : Equal ≡ Less → ⊥
    differs e = absurd cc

all_found : (es : List (BearerId × DuBearer)) → IsSorted bearer_cmp es → AllByRecursion (λ (e : BearerId × DuBearer). find bearer_cmp es e.0 ≡ Some e.1) es
unfolding find IsStrictlySortedBy
all_found [] sorted = tt
all_found (e ∷ es) sorted = (
  ap (λ (o : Ordering). cond (is_eq o) (Some e.1) (lookup (is_at (bearer_cmp e.0)) es)) (tied_itself bearer_total e.0),
  extend e es es sorted.0 (all_found es sorted.1),
)

module _ {M C : Type 0} (r : Du M C) (owns : DuOwns r) where
  own_downlinks : (ue : UeId) (c : DuContext) → find ue_cmp r.contexts ue ≡ Some c → (es : List (BearerId × DuBearer))
      → AllByRecursion (λ (e : BearerId × DuBearer). find bearer_cmp c.bearers e.0 ≡ Some e.1) es
      → AllByRecursion (λ teid. (owner : DuTunnel) → find nat_cmp r.tunnels teid ≡ Some owner → owner.ue ≡ ue) (map (λ e. e.1.downlink) es)
  own_downlinks ue c is [] all = tt
  own_downlinks ue c is (e ∷ es) all = (λ owner there. its owner (sym there ∙ owns.0.stands e.1.downlink t named), own_downlinks ue c is es all.1)
    where
      t : DuTunnel
      t = record { ue = ue; bearer = e.0 }

      named : du_names r.contexts t e.1.downlink ≡ true
      named =
          ap (du_context_names t e.1.downlink) is
          ∙ ap (is_downlink e.1.downlink) all.0
          ∙ eq-eqb e.1.downlink e.1.downlink refl

      its : (owner : DuTunnel) → Some owner ≡ Some t → owner.ue ≡ ue
      its owner same = let at : owner ≡ t = cc in ap (λ (x : DuTunnel). x.ue) at

  none_ahead : (r.next_teid == 0) ≡ false → (teid : ℕ) → r.next_teid ≤ teid → find nat_cmp r.tunnels teid ≡ None
  none_ahead some teid above = by (find nat_cmp r.tunnels teid) refl
    where
      here : below r.next_teid ≡ r.next_teid
      here = ap (λ (b : Bool). if b then last_teid + 1 else r.next_teid) some

      by : (o : Option DuTunnel) → find nat_cmp r.tunnels teid ≡ o → o ≡ None
      by None e = refl
      by (Some owner) e = let given : teid + 1 ≤ below r.next_teid = owns.2 teid owner e in absurd (omega (arith, given, here, above))

  pub apart_of : IsApart r
  apart_of = (λ ue c is. own_downlinks ue c is c.bearers (all_found c.bearers (owns.1 ue c is)), none_ahead)

module _ {M C P : Type 0} (way : Way M C P) (ue : UeId) where
  pub du_owning : (input : Input C P) (r : Du M C) → DuOwns r → du_ue r input ≡ Some ue → PutsFor ue.0 (StaysFor du_projection ue r) (du_acts way r input)
  du_owning input r owns is = du_steps way ue input r (apart_of r owns) is
