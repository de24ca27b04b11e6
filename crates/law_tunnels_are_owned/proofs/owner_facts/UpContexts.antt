-- What a CU-UP's contexts name, where one of them changes, closes tunnels, or ends.
use Rattle.std.proofs.Common.{◌≡◌, ◌==◌, ℕ, Bool, true, false, cond, not, ◌&&◌, ◌||◌, List, [], ◌∷◌, Option, Some, None, refl, sym, ap, ◌∙◌, subst, eqb-true, eq-eqb}
use Rattle.std.specs.Ordering.{eq_by_cmp, is_eq}
use Rattle.std.specs.Cmp.{tied_itself, Equal-is}
use Rattle.gnb_types.specs.declared.names.UeId.{UeId}
use Rattle.gnb_types.specs.declared.names.BearerId.{BearerId}
use Rattle.gnb_types.specs.Orders.{ue_cmp, bearer_cmp}
use Rattle.gnb_types.proofs.OrderLemmas.{ue_total, ue_exact, bearer_total, bearer_exact}
use Rattle.tables.specs.Tables.{find, put, without, IsSorted}
use Rattle.tables.proofs.TableLaws.{find-put, find-without, sorted-put}
use Rattle.unit_defs.specs.Teids.{without_each}
use Rattle.unit_defs.specs.CuUpRecords.{CuUpBearer, CuUpContext, TunnelKind, n3, f1u_uplink, forwarding_down, forwarding_up, CuUpTunnel}
use Rattle.unit_defs.specs.CuUpBearers.{is_one_of}
use Rattle.proof_run_steps.proofs.teids.Bearers.{ends}
use Rattle.proof_run_steps.proofs.teids.CuUps.{Entry}
use Rattle.law_tunnels_are_owned.specs.owner_facts.Owned.{ends_of, has_end, up_context_names, cu_up_names, AreNamed, UpInOrder}
use Rattle.law_tunnels_are_owned.proofs.owner_facts.Owners.{and_true, second_of, both_of, and_apart, unless, holds_not, one_owner, named_without}
use Rattle.law_tunnels_are_owned.proofs.owner_facts.UpEnds.{owner_of, ends_same, all_open, held_is_open, open_is_held}

-- ---- kinds

abbrev same_kind : TunnelKind → TunnelKind → Bool
same_kind n3 n3 = true
same_kind f1u_uplink f1u_uplink = true
same_kind forwarding_down forwarding_down = true
same_kind forwarding_up forwarding_up = true
same_kind n3 b = false
same_kind f1u_uplink b = false
same_kind forwarding_down b = false
same_kind forwarding_up b = false

kind_itself : (a : TunnelKind) → same_kind a a ≡ true
kind_itself n3 = refl
kind_itself f1u_uplink = refl
kind_itself forwarding_down = refl
kind_itself forwarding_up = refl

kind_exact : (a b : TunnelKind) → same_kind a b ≡ true → a ≡ b
kind_exact n3 n3 h = refl
kind_exact f1u_uplink f1u_uplink h = refl
kind_exact forwarding_down forwarding_down h = refl
kind_exact forwarding_up forwarding_up h = refl
kind_exact _ _ h = absurd cc

kind_apart : (a b : TunnelKind) → same_kind a b ≡ false → a ≡ b → ⊥
kind_apart a b apart same =
    let tie : same_kind a b ≡ true = ap (λ (x : TunnelKind). same_kind x b) same ∙ kind_itself b in absurd cc

pub one_is : (t q : ℕ) → is_one_of (t ∷ []) q ≡ true → t ≡ q
one_is t q h = eqb-true t q (by (t == q) h)
  where
    by : (a : Bool) → a || false ≡ true → a ≡ true
    by true e = refl
    by false e = e

abbrev pub Contexts : Type 0
Contexts = List (UeId × CuUpContext)

-- what is open is what is named, and bearers are in order
abbrev pub Named : List Entry → Contexts → Type 0
Named ts contexts = AreNamed ts (cu_up_names contexts) × UpInOrder contexts

-- another terminal's context is the same, and the names of this one are those of its new context
pub names_put : (contexts : Contexts) (ue : UeId) (d : CuUpContext) (o : CuUpTunnel) (q : ℕ)
    → cu_up_names (put ue_cmp contexts ue d) o q ≡ up_context_names o q (cond (eq_by_cmp ue_cmp o.ue ue) (Some d) (find ue_cmp contexts o.ue))
names_put contexts ue d o q = ap (up_context_names o q) (find-put ue_total contexts ue d o.ue)

pub same_ue : (a b : UeId) → eq_by_cmp ue_cmp a b ≡ true → a ≡ b
same_ue a b tie = ue_exact a b ((Equal-is (ue_cmp a b)).0 tie)

pub ue_tie : (a b : UeId) → a ≡ b → eq_by_cmp ue_cmp a b ≡ true
ue_tie a b same = ap (λ (x : UeId). eq_by_cmp ue_cmp x b) same ∙ ap is_eq (tied_itself ue_total b)

pub order_put : (contexts : Contexts) (ue : UeId) (d : CuUpContext) → UpInOrder contexts → IsSorted bearer_cmp d.bearers → UpInOrder (put ue_cmp contexts ue d)
order_put contexts ue d order sorted u c e = by (eq_by_cmp ue_cmp u ue) (sym (find-put ue_total contexts ue d u) ∙ e)
  where
    by : (t : Bool) → cond t (Some d) (find ue_cmp contexts u) ≡ Some c → IsSorted bearer_cmp c.bearers
    by true h = let same : d ≡ c = cc in subst (λ (x : CuUpContext). IsSorted bearer_cmp x.bearers) same sorted
    by false h = order u c h

-- ---- a context's bearers change, and TEIDs of theirs are closed

module _ (ts : List Entry) (contexts : Contexts) (k : Named ts contexts) (ue : UeId) (c : CuUpContext) (is : find ue_cmp contexts ue ≡ Some c) where
  -- a tunnel of a bearer has an owner
  abbrev owner_in : BearerId → TunnelKind → CuUpTunnel
  owner_in x kind = owner_of ue c.instance x kind

  pub own_names : (o : CuUpTunnel) (q : ℕ) → o.ue ≡ ue → cu_up_names contexts o q ≡ up_context_names o q (Some c)
  own_names o q same = ap (λ (x : UeId). up_context_names o q (find ue_cmp contexts x)) same ∙ ap (up_context_names o q) is

  pub held_is_named : (x : BearerId) (kind : TunnelKind) (q : ℕ) → has_end kind q (find bearer_cmp c.bearers x) ≡ true → cu_up_names contexts (owner_in x kind) q ≡ true
  held_is_named x kind q h = own_names (owner_in x kind) q refl ∙ both_of (c.instance == c.instance) _ (eq-eqb c.instance c.instance refl) h

  -- the names that are left where these TEIDs are closed
  module _ (cs : List ℕ) (closes : (q : ℕ) (o : CuUpTunnel) → is_one_of cs q ≡ true → cu_up_names contexts o q ≡ true → o.ue ≡ ue) where
    others_left : (o : CuUpTunnel) (q : ℕ) → eq_by_cmp ue_cmp o.ue ue ≡ false → cu_up_names contexts o q ≡ cu_up_names contexts o q && not (is_one_of cs q)
    others_left o q apart = unless (cu_up_names contexts o q) (is_one_of cs q) (λ h closed. let tie : eq_by_cmp ue_cmp o.ue ue ≡ true = ue_tie o.ue ue (closes q o closed h) in absurd cc)

    pub context_changes : (d : CuUpContext) → d.instance ≡ c.instance → IsSorted bearer_cmp d.bearers
        → ((x : BearerId) (kind : TunnelKind) (q : ℕ) → has_end kind q (find bearer_cmp d.bearers x) ≡ has_end kind q (find bearer_cmp c.bearers x) && not (is_one_of cs q))
        → Named (without_each ts cs) (put ue_cmp contexts ue d)
    context_changes d same sorted ends_left = (
      named_without ts (cu_up_names contexts) (cu_up_names (put ue_cmp contexts ue d)) cs k.0
          (λ o q. names_put contexts ue d o q ∙ by o q (eq_by_cmp ue_cmp o.ue ue) refl),
      order_put contexts ue d k.1 sorted,
    )
      where
        by : (o : CuUpTunnel) (q : ℕ) (t : Bool) → eq_by_cmp ue_cmp o.ue ue ≡ t
            → up_context_names o q (cond t (Some d) (find ue_cmp contexts o.ue)) ≡ cu_up_names contexts o q && not (is_one_of cs q)
        by o q true tie =
            (λ i. (same i == o.context) && ends_left o.bearer o.kind q i)
            ∙ and_apart (c.instance == o.context) (has_end o.kind q (find bearer_cmp c.bearers o.bearer)) (not (is_one_of cs q))
            ∙ ap (λ (t : Bool). t && not (is_one_of cs q)) (sym (own_names o q (same_ue o.ue ue tie)))
        by o q false apart = others_left o q apart

    -- the context ends
    pub context_ends : ((x : BearerId) (kind : TunnelKind) (q : ℕ) → has_end kind q (find bearer_cmp c.bearers x) ≡ true → is_one_of cs q ≡ true)
        → Named (without_each ts cs) (without ue_cmp contexts ue)
    context_ends all = (
      named_without ts (cu_up_names contexts) (cu_up_names (without ue_cmp contexts ue)) cs k.0
          (λ o q. ap (up_context_names o q) (find-without ue_total contexts ue o.ue) ∙ by o q (eq_by_cmp ue_cmp o.ue ue) refl),
      λ u e h. k.1 u e (kept u e (eq_by_cmp ue_cmp u ue) (sym (find-without ue_total contexts ue u) ∙ h)),
    )
      where
        kept : (u : UeId) (e : CuUpContext) (t : Bool) → cond t None (find ue_cmp contexts u) ≡ Some e → find ue_cmp contexts u ≡ Some e
        kept u e true h = absurd cc
        kept u e false h = h

        by : (o : CuUpTunnel) (q : ℕ) (t : Bool) → eq_by_cmp ue_cmp o.ue ue ≡ t
            → up_context_names o q (cond t None (find ue_cmp contexts o.ue)) ≡ cu_up_names contexts o q && not (is_one_of cs q)
        by o q true tie =
            holds_not (cu_up_names contexts o q) (is_one_of cs q)
            (λ h. all o.bearer o.kind q (second_of (c.instance == o.context) _ (sym (own_names o q (same_ue o.ue ue tie)) ∙ h)))
        by o q false apart = others_left o q apart

  -- the bearers keep their tunnels
  pub context_stays : (d : CuUpContext) → d.instance ≡ c.instance → IsSorted bearer_cmp d.bearers
      → ((x : BearerId) (kind : TunnelKind) (q : ℕ) → has_end kind q (find bearer_cmp d.bearers x) ≡ has_end kind q (find bearer_cmp c.bearers x))
      → Named ts (put ue_cmp contexts ue d)
  context_stays d same sorted ends_stay =
      context_changes [] (λ q o closed. absurd cc) d same sorted (λ x kind q. ends_stay x kind q ∙ and_true (has_end kind q (find bearer_cmp c.bearers x)))

  pub all_close : Named (without_each ts (all_open c.bearers)) (without ue_cmp contexts ue)
  all_close = context_ends (all_open c.bearers) owned (held_is_open c.bearers)
    where
      owned : (q : ℕ) (o : CuUpTunnel) → is_one_of (all_open c.bearers) q ≡ true → cu_up_names contexts o q ≡ true → o.ue ≡ ue
      owned q o closed h =
          let held : (x : BearerId) × (kind : TunnelKind) × (has_end kind q (find bearer_cmp c.bearers x) ≡ true) = open_is_held c.bearers q (k.1 ue c is) closed in
          let same : o ≡ owner_in held.0 held.1 =
          one_owner ts (cu_up_names contexts) k.0 q o (owner_in held.0 held.1) h (held_is_named held.0 held.1 q held.2) in
          ap (λ (p : CuUpTunnel). p.ue) same

  -- one bearer's tunnel is closed
  module _ (bearer : BearerId) (b : CuUpBearer) (there : find bearer_cmp c.bearers bearer ≡ Some b) (b' : CuUpBearer) where
    abbrev changed : CuUpContext
    changed = record c { bearers = put bearer_cmp c.bearers bearer b' }

    in_order : IsSorted bearer_cmp (put bearer_cmp c.bearers bearer b')
    in_order = sorted-put bearer_total c.bearers bearer b' (k.1 ue c is)

    found_then : (x : BearerId) → find bearer_cmp (put bearer_cmp c.bearers bearer b') x ≡ cond (eq_by_cmp bearer_cmp x bearer) (Some b') (find bearer_cmp c.bearers x)
    found_then x = find-put bearer_total c.bearers bearer b' x

    at_bearer : (x : BearerId) → eq_by_cmp bearer_cmp x bearer ≡ true → find bearer_cmp c.bearers x ≡ Some b
    at_bearer x tie = ap (find bearer_cmp c.bearers) (bearer_exact x bearer ((Equal-is (bearer_cmp x bearer)).0 tie)) ∙ there

    pub bearer_stays : ends b' ≡ ends b → Named ts (put ue_cmp contexts ue (record c { bearers = put bearer_cmp c.bearers bearer b' }))
    bearer_stays p = context_stays changed refl in_order (λ x kind q. ap (has_end kind q) (found_then x) ∙ by x kind q (eq_by_cmp bearer_cmp x bearer) refl)
      where
        by : (x : BearerId) (kind : TunnelKind) (q : ℕ) (t : Bool) → eq_by_cmp bearer_cmp x bearer ≡ t
            → has_end kind q (cond t (Some b') (find bearer_cmp c.bearers x)) ≡ has_end kind q (find bearer_cmp c.bearers x)
        by x kind q true tie = ap (λ (es : List ℕ). is_one_of es q) (ends_same kind b b' p) ∙ ap (has_end kind q) (sym (at_bearer x tie))
        by x kind q false apart = refl

    -- the tunnel t of this kind
    module _ (own : TunnelKind) (t : ℕ) (has : is_one_of (ends_of own b) t ≡ true) where
      its_name : cu_up_names contexts (owner_in bearer own) t ≡ true
      its_name = held_is_named bearer own t (ap (has_end own t) there ∙ has)

      only_own : (x : BearerId) (kind : TunnelKind) → has_end kind t (find bearer_cmp c.bearers x) ≡ true → owner_in x kind ≡ owner_in bearer own
      only_own x kind h = one_owner ts (cu_up_names contexts) k.0 t (owner_in x kind) (owner_in bearer own) (held_is_named x kind t h) its_name

      -- what isn't this tunnel is left
      is_left : (x : BearerId) (kind : TunnelKind) (q : ℕ) → (owner_in x kind ≡ owner_in bearer own → ⊥)
          → has_end kind q (find bearer_cmp c.bearers x) ≡ has_end kind q (find bearer_cmp c.bearers x) && not (is_one_of (t ∷ []) q)
      is_left x kind q another = unless (has_end kind q (find bearer_cmp c.bearers x)) (is_one_of (t ∷ []) q) none
        where
          none : has_end kind q (find bearer_cmp c.bearers x) ≡ true → is_one_of (t ∷ []) q ≡ true → ⊥
          none h closed =
              let same : t ≡ q = one_is t q closed in
              another (only_own x kind (ap (λ (n : ℕ). has_end kind n (find bearer_cmp c.bearers x)) same ∙ h))

      pub bearer_closes : ((kind : TunnelKind) → (kind ≡ own → ⊥) → ends_of kind b' ≡ ends_of kind b)
          → ((q : ℕ) → is_one_of (ends_of own b') q ≡ is_one_of (ends_of own b) q && not (is_one_of (t ∷ []) q))
          → Named (without_each ts (t ∷ [])) (put ue_cmp contexts ue (record c { bearers = put bearer_cmp c.bearers bearer b' }))
      bearer_closes rest gone =
          context_changes (t ∷ []) owned changed refl in_order (λ x kind q. ap (has_end kind q) (found_then x) ∙ by x kind q (eq_by_cmp bearer_cmp x bearer) refl)
        where
          owned : (q : ℕ) (o : CuUpTunnel) → is_one_of (t ∷ []) q ≡ true → cu_up_names contexts o q ≡ true → o.ue ≡ ue
          owned q o closed h =
              let same : t ≡ q = one_is t q closed in
              ap (λ (p : CuUpTunnel). p.ue)
              (one_owner ts (cu_up_names contexts) k.0 t o (owner_in bearer own) (ap (cu_up_names contexts o) same ∙ h) its_name)

          at_own : (x : BearerId) (kind : TunnelKind) (q : ℕ) → find bearer_cmp c.bearers x ≡ Some b → (s : Bool) → same_kind kind own ≡ s
              → is_one_of (ends_of kind b') q ≡ has_end kind q (find bearer_cmp c.bearers x) && not (is_one_of (t ∷ []) q)
          at_own x kind q here true tie =
              let same : kind ≡ own = kind_exact kind own tie in
              ap (λ (n : TunnelKind). is_one_of (ends_of n b') q) same ∙ gone q
              ∙ ap (λ (n : TunnelKind). is_one_of (ends_of n b) q && not (is_one_of (t ∷ []) q)) (sym same)
              ∙ ap (λ (s : Option CuUpBearer). has_end kind q s && not (is_one_of (t ∷ []) q)) (sym here)
          at_own x kind q here false apart =
              ap (λ (es : List ℕ). is_one_of es q) (rest kind (kind_apart kind own apart))
              ∙ ap (has_end kind q) (sym here)
              ∙ is_left x kind q (λ same. kind_apart kind own apart (ap (λ (p : CuUpTunnel). p.kind) same))

          by : (x : BearerId) (kind : TunnelKind) (q : ℕ) (s : Bool) → eq_by_cmp bearer_cmp x bearer ≡ s
              → has_end kind q (cond s (Some b') (find bearer_cmp c.bearers x)) ≡ has_end kind q (find bearer_cmp c.bearers x) && not (is_one_of (t ∷ []) q)
          by x kind q true tie = at_own x kind q (at_bearer x tie) (same_kind kind own) refl
          by x kind q false apart =
              is_left x kind q (λ same. let tie : eq_by_cmp bearer_cmp x bearer ≡ true =
              ap (λ (p : CuUpTunnel). eq_by_cmp bearer_cmp p.bearer bearer) same ∙ ap is_eq (tied_itself bearer_total bearer) in absurd cc)
