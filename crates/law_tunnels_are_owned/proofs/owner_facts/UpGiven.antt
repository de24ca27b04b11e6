-- What a CU-UP's contexts name, where TEIDs are given to one of them.
use Rattle.std.proofs.Common.{◌≡◌, ◌≤◌, ◌==◌, ℕ, ◌+◌, Bool, true, false, cond, List, [], ◌∷◌, ◌++◌, Some, None, ◌⊎◌, inl, inr, refl, sym, ap, ◌∙◌, subst, eqb-true, eq-eqb}
use Rattle.std.specs.List.{flat_map}
use Rattle.std.specs.Ordering.{nat_cmp, eq_by_cmp}
use Rattle.gnb_types.specs.declared.names.UeId.{UeId}
use Rattle.gnb_types.specs.declared.names.BearerId.{BearerId}
use Rattle.gnb_types.specs.Orders.{bearer_cmp, ue_cmp}
use Rattle.std.specs.List.Sorted.{IsStrictlySortedBy}
use Rattle.std.specs.Map.{keys_of}
use Rattle.std.proofs.lemmas.Map.Keys.{sorted_tail}
use Rattle.unit_defs.specs.CuUpRecords.{TunnelKind, n3, f1u_uplink, forwarding_down, forwarding_up, CuUpBearer, CuUpContext, CuUpTunnel}
use Rattle.unit_defs.specs.CuUpBearers.{teid_in, is_one_of}
use Rattle.tables.specs.Tables.{find, put, IsSorted}
use Rattle.unit_defs.specs.Ways.{Way}
use Rattle.unit_defs.specs.CuUp.{entries_of, with_entries, teids_from, uplink_entries}
use Rattle.proof_run_steps.proofs.teids.Bearers.{Ends, ends}
use Rattle.proof_run_steps.proofs.teids.CuUps.{Entry}
use Rattle.law_tunnels_are_owned.specs.owner_facts.Owned.{ends_of, has_end, up_context_names, cu_up_names, AreNamed}
use Rattle.law_tunnels_are_owned.proofs.owner_facts.Owners.{both_of, first_of, second_of, one_or, put_each, AreFrom, IsIn, named_given}
use Rattle.law_tunnels_are_owned.proofs.owner_facts.UpEnds.{Bearers, or_left, or_right, owner_of, found_is_in, IsFound, in_is_found, has_it, append_one}
use Rattle.law_tunnels_are_owned.proofs.owner_facts.Found.{has_first, has_later, has_either}
use Rattle.law_tunnels_are_owned.proofs.owner_facts.UpContexts.{Contexts, Named, names_put, same_ue, ue_tie, order_put, own_names, one_is}

entries_each : (es table : List Entry) → with_entries table es ≡ put_each table es
entries_each [] table = refl
entries_each (e ∷ es) table = entries_each es (put nat_cmp table e.0 e.1)

-- ---- TEIDs are given to a terminal's context

module _ (ts : List Entry) (contexts : Contexts) (k : Named ts contexts) (ue : UeId) (next : ℕ)
    (low : (q : ℕ) (o : CuUpTunnel) → find nat_cmp ts q ≡ Some o → q + 1 ≤ next) where
  grown : (d : CuUpContext) (es : List Entry) → IsSorted bearer_cmp d.bearers → AreFrom next es
      → ((o : CuUpTunnel) (q : ℕ) → o.ue ≡ ue → up_context_names o q (Some d) ≡ true → IsIn q o es ⊎ (cu_up_names contexts o q ≡ true))
      → ((o : CuUpTunnel) (q : ℕ) → IsIn q o es → (o.ue ≡ ue) × (up_context_names o q (Some d) ≡ true))
      → ((o : CuUpTunnel) (q : ℕ) → o.ue ≡ ue → cu_up_names contexts o q ≡ true → up_context_names o q (Some d) ≡ true)
      → Named (with_entries ts es) (put ue_cmp contexts ue d)
  grown d es sorted from either added old = (
    subst (λ (table : List Entry). AreNamed table (cu_up_names (put ue_cmp contexts ue d))) (sym (entries_each es ts))
        (named_given ts es (cu_up_names contexts) (cu_up_names (put ue_cmp contexts ue d)) next k.0 low from
        (λ o q h. split o q (eq_by_cmp ue_cmp o.ue ue) refl (sym (names_put contexts ue d o q) ∙ h))
        (λ o q h. names_put contexts ue d o q
        ∙ ap (λ (t : Bool). up_context_names o q (cond t (Some d) (find ue_cmp contexts o.ue))) (ue_tie o.ue ue (added o q h).0) ∙ (added o q h).1)
        (λ o q h. names_put contexts ue d o q ∙ stays o q h (eq_by_cmp ue_cmp o.ue ue) refl)),
    order_put contexts ue d k.1 sorted,
  )
    where
      split : (o : CuUpTunnel) (q : ℕ) (t : Bool) → eq_by_cmp ue_cmp o.ue ue ≡ t → up_context_names o q (cond t (Some d) (find ue_cmp contexts o.ue)) ≡ true
          → IsIn q o es ⊎ (cu_up_names contexts o q ≡ true)
      split o q true tie h = either o q (same_ue o.ue ue tie) h
      split o q false apart h = inr h

      stays : (o : CuUpTunnel) (q : ℕ) → cu_up_names contexts o q ≡ true → (t : Bool) → eq_by_cmp ue_cmp o.ue ue ≡ t
          → up_context_names o q (cond t (Some d) (find ue_cmp contexts o.ue)) ≡ true
      stays o q h true tie = old o q (same_ue o.ue ue tie) h
      stays o q h false apart = h

  -- an owner of this terminal and context
  owns : (context : ℕ) (o : CuUpTunnel) → o.ue ≡ ue → context ≡ o.context → owner_of ue context o.bearer o.kind ≡ o
  owns context o same is = λ i. record { ue = sym same i; bearer = o.bearer; kind = o.kind; context = is i }

  -- a new context
  pub new_named : (d : CuUpContext) → find ue_cmp contexts ue ≡ None → IsSorted bearer_cmp d.bearers → AreFrom next (flat_map (entries_of ue d.instance) d.bearers)
      → Named (with_entries ts (flat_map (entries_of ue d.instance) d.bearers)) (put ue_cmp contexts ue d)
  new_named d none sorted from = grown d (flat_map (entries_of ue d.instance) d.bearers) sorted from either added old
    where
      either : (o : CuUpTunnel) (q : ℕ) → o.ue ≡ ue → up_context_names o q (Some d) ≡ true
          → IsIn q o (flat_map (entries_of ue d.instance) d.bearers) ⊎ (cu_up_names contexts o q ≡ true)
      either o q same h =
          let is : d.instance ≡ o.context = eqb-true d.instance o.context (first_of _ (has_end o.kind q (find bearer_cmp d.bearers o.bearer)) h) in
          inl (subst (λ (p : CuUpTunnel). IsIn q p (flat_map (entries_of ue d.instance) d.bearers)) (owns d.instance o same is)
          (found_is_in ue d.instance d.bearers o.bearer o.kind q (second_of (d.instance == o.context) _ h)))

      added : (o : CuUpTunnel) (q : ℕ) → IsIn q o (flat_map (entries_of ue d.instance) d.bearers) → (o.ue ≡ ue) × (up_context_names o q (Some d) ≡ true)
      added o q h =
          let found : IsFound ue d.instance d.bearers q o = in_is_found ue d.instance d.bearers q o sorted h in
          (found.0, both_of (d.instance == o.context) _ (eq-eqb d.instance o.context (sym found.1)) found.2)

      old : (o : CuUpTunnel) (q : ℕ) → o.ue ≡ ue → cu_up_names contexts o q ≡ true → up_context_names o q (Some d) ≡ true
      old o q same h =
          let nothing : cu_up_names contexts o q ≡ false =
          ap (λ (x : UeId). up_context_names o q (find ue_cmp contexts x)) same ∙ ap (up_context_names o q) none in
          absurd cc

-- ---- one more uplink of each bearer

abbrev pub with_end : ℕ → Ends → Ends
with_end teid e = record e { uplinks = e.uplinks ++ teid ∷ [] }

-- the bearers with TEIDs from this one on added to their uplinks
abbrev pub HaveMore : ℕ → Bearers → Bearers → Type 0
HaveMore next [] [] = Unit {0}
HaveMore next [] (f ∷ fs) = ⊥
HaveMore next (e ∷ es) [] = ⊥
HaveMore next (e ∷ es) (f ∷ fs) = (e.0 ≡ f.0) × (ends f.1 ≡ with_end next (ends e.1)) × HaveMore (next + 1) es fs

more_keys : (next : ℕ) (es fs : Bearers) → HaveMore next es fs → keys_of es ≡ keys_of fs
more_keys next [] [] p = refl
more_keys next [] (f ∷ fs) p = absurd p
more_keys next (e ∷ es) [] p = absurd p
more_keys next (e ∷ es) (f ∷ fs) p = λ i. p.0 i ∷ more_keys (next + 1) es fs p.2 i

-- a tunnel of the bearer then was its tunnel, or is the new one
more_ends : (next : ℕ) (b c : CuUpBearer) → ends c ≡ with_end next (ends b) → (kind : TunnelKind) (q : ℕ) → is_one_of (ends_of kind c) q ≡ true
    → (is_one_of (ends_of kind b) q ≡ true) ⊎ ((next ≡ q) × (kind ≡ f1u_uplink))
more_ends next b c p n3 q h = inl (sym (ap (λ (e : Ends). is_one_of (teid_in e.n3) q) p) ∙ h)
more_ends next b c p forwarding_down q h = inl (sym (ap (λ (e : Ends). is_one_of (teid_in e.forward_down) q) p) ∙ h)
more_ends next b c p forwarding_up q h = inl (sym (ap (λ (e : Ends). is_one_of (teid_in e.forward_up) q) p) ∙ h)
more_ends next b c p f1u_uplink q h =
    by (one_or (is_one_of b.uplinks q) (is_one_of (next ∷ []) q) (sym (append_one b.uplinks (next ∷ []) q) ∙ sym (ap (λ (e : Ends). is_one_of e.uplinks q) p) ∙ h))
  where
    by : (is_one_of b.uplinks q ≡ true) ⊎ (is_one_of (next ∷ []) q ≡ true) → (is_one_of b.uplinks q ≡ true) ⊎ ((next ≡ q) × (f1u_uplink ≡ f1u_uplink))
    by (inl e) = inl e
    by (inr e) = inr (one_is next q e, refl)

more_kept : (next : ℕ) (b c : CuUpBearer) → ends c ≡ with_end next (ends b) → (kind : TunnelKind) (q : ℕ) → is_one_of (ends_of kind b) q ≡ true
    → is_one_of (ends_of kind c) q ≡ true
more_kept next b c p n3 q h = ap (λ (e : Ends). is_one_of (teid_in e.n3) q) p ∙ h
more_kept next b c p forwarding_down q h = ap (λ (e : Ends). is_one_of (teid_in e.forward_down) q) p ∙ h
more_kept next b c p forwarding_up q h = ap (λ (e : Ends). is_one_of (teid_in e.forward_up) q) p ∙ h
more_kept next b c p f1u_uplink q h =
    ap (λ (e : Ends). is_one_of e.uplinks q) p ∙ append_one b.uplinks (next ∷ []) q ∙ or_left (is_one_of b.uplinks q) _ h

more_added : (next : ℕ) (b c : CuUpBearer) → ends c ≡ with_end next (ends b) → (q : ℕ) → next ≡ q → is_one_of (ends_of f1u_uplink c) q ≡ true
more_added next b c p q same =
    ap (λ (e : Ends). is_one_of e.uplinks q) p ∙ append_one b.uplinks (next ∷ []) q
    ∙ or_right (is_one_of b.uplinks q) _ (or_left (next == q) false (eq-eqb next q same))

module _ {M C P : Type 0} (way : Way M C P) where
  abbrev pub more_of : UeId → ℕ → ℕ → Bearers → List Entry
  more_of ue context next es = uplink_entries way ue context (teids_from way next es)

  more_from : (ue : UeId) (context next : ℕ) (es : Bearers) → AreFrom next (more_of ue context next es)
  more_from ue context next [] = tt
  more_from ue context next (e ∷ es) = (refl, more_from ue context (next + 1) es)

  more_either : (ue : UeId) (context next : ℕ) (es fs : Bearers) → HaveMore next es fs → IsSorted bearer_cmp es → (x : BearerId) (kind : TunnelKind) (q : ℕ)
      → has_end kind q (find bearer_cmp fs x) ≡ true → IsIn q (owner_of ue context x kind) (more_of ue context next es) ⊎ (has_end kind q (find bearer_cmp es x) ≡ true)
  more_either ue context next [] [] p sorted x kind q h = inr h
  more_either ue context next [] (f ∷ fs) p sorted x kind q h = absurd p
  more_either ue context next (e ∷ es) [] p sorted x kind q h = absurd p
  more_either ue context next (e ∷ es) (f ∷ fs) p sorted x kind q h =
      by (more_either ue context (next + 1) es fs p.2 (sorted_tail bearer_cmp e.0 (keys_of es) sorted) x kind q) (has_either (has_it kind q) f fs x h)
    where
      first : f.0 ≡ x → (is_one_of (ends_of kind e.1) q ≡ true) ⊎ ((next ≡ q) × (kind ≡ f1u_uplink))
          → IsIn q (owner_of ue context x kind) (more_of ue context next (e ∷ es)) ⊎ (has_end kind q (find bearer_cmp (e ∷ es) x) ≡ true)
      first at (inl k) = inr (ap (λ (y : BearerId). has_end kind q (find bearer_cmp (e ∷ es) y)) (sym at ∙ sym p.0) ∙ has_first (has_it kind q) e es ∙ k)
      first at (inr k) = inl (inl (k.0, λ i. owner_of ue context ((p.0 ∙ at) i) (sym k.1 i)))

      later : IsIn q (owner_of ue context x kind) (more_of ue context (next + 1) es) ⊎ (has_end kind q (find bearer_cmp es x) ≡ true)
          → IsIn q (owner_of ue context x kind) (more_of ue context next (e ∷ es)) ⊎ (has_end kind q (find bearer_cmp (e ∷ es) x) ≡ true)
      later (inl k) = inl (inr k)
      later (inr k) = inr (has_later (has_it kind q) e es x sorted k)

      by : (has_end kind q (find bearer_cmp fs x) ≡ true
          → IsIn q (owner_of ue context x kind) (more_of ue context (next + 1) es) ⊎ (has_end kind q (find bearer_cmp es x) ≡ true))
          → ((f.0 ≡ x) × (is_one_of (ends_of kind f.1) q ≡ true)) ⊎ (has_end kind q (find bearer_cmp fs x) ≡ true)
          → IsIn q (owner_of ue context x kind) (more_of ue context next (e ∷ es)) ⊎ (has_end kind q (find bearer_cmp (e ∷ es) x) ≡ true)
      by more (inl k) = first k.0 (more_ends next e.1 f.1 p.1 kind q k.1)
      by more (inr k) = later (more k)

  more_new : (ue : UeId) (context next : ℕ) (es fs : Bearers) → HaveMore next es fs → IsSorted bearer_cmp fs → (q : ℕ) (o : CuUpTunnel)
      → IsIn q o (more_of ue context next es) → IsFound ue context fs q o
  more_new ue context next [] fs p sorted q o h = absurd h
  more_new ue context next (e ∷ es) [] p sorted q o h = absurd p
  more_new ue context next (e ∷ es) (f ∷ fs) p sorted q o (inl h) =
      subst (IsFound ue context (f ∷ fs) q) ((λ i. owner_of ue context (sym p.0 i) f1u_uplink) ∙ h.1)
      (refl, refl, has_first (has_it f1u_uplink q) f fs ∙ more_added next e.1 f.1 p.1 q h.0)
  more_new ue context next (e ∷ es) (f ∷ fs) p sorted q o (inr h) =
      let found : IsFound ue context fs q o = more_new ue context (next + 1) es fs p.2 (sorted_tail bearer_cmp f.0 (keys_of fs) sorted) q o h in
      (found.0, found.1, has_later (has_it o.kind q) f fs o.bearer sorted found.2)

  more_old : (next : ℕ) (es fs : Bearers) → HaveMore next es fs → IsSorted bearer_cmp fs → (x : BearerId) (kind : TunnelKind) (q : ℕ)
      → has_end kind q (find bearer_cmp es x) ≡ true → has_end kind q (find bearer_cmp fs x) ≡ true
  more_old next [] [] p sorted x kind q h = h
  more_old next [] (f ∷ fs) p sorted x kind q h = absurd p
  more_old next (e ∷ es) [] p sorted x kind q h = absurd p
  more_old next (e ∷ es) (f ∷ fs) p sorted x kind q h =
      by (more_old (next + 1) es fs p.2 (sorted_tail bearer_cmp f.0 (keys_of fs) sorted) x kind q) (has_either (has_it kind q) e es x h)
    where
      by : (has_end kind q (find bearer_cmp es x) ≡ true → has_end kind q (find bearer_cmp fs x) ≡ true)
          → ((e.0 ≡ x) × (is_one_of (ends_of kind e.1) q ≡ true)) ⊎ (has_end kind q (find bearer_cmp es x) ≡ true) → has_end kind q (find bearer_cmp (f ∷ fs) x) ≡ true
      by more (inl k) =
          ap (λ (y : BearerId). has_end kind q (find bearer_cmp (f ∷ fs) y)) (sym k.0 ∙ p.0) ∙ has_first (has_it kind q) f fs ∙ more_kept next e.1 f.1 p.1 kind q k.1
      by more (inr k) = has_later (has_it kind q) f fs x sorted (more k)

  module _ (ts : List Entry) (contexts : Contexts) (k : Named ts contexts) (ue : UeId) (next : ℕ)
      (low : (q : ℕ) (o : CuUpTunnel) → find nat_cmp ts q ≡ Some o → q + 1 ≤ next) where
    pub more_named : (c : CuUpContext) (bs : Bearers) → find ue_cmp contexts ue ≡ Some c → HaveMore next c.bearers bs
        → Named (with_entries ts (more_of ue c.instance next c.bearers)) (put ue_cmp contexts ue (record c { bearers = bs }))
    more_named c bs is p =
        grown ts contexts k ue next low (record c { bearers = bs }) (more_of ue c.instance next c.bearers) order (more_from ue c.instance next c.bearers) either added old
      where
        order : IsSorted bearer_cmp bs
        order = subst (λ (ks : List BearerId). IsStrictlySortedBy bearer_cmp ks) (more_keys next c.bearers bs p) (k.1 ue c is)

        held : (o : CuUpTunnel) (q : ℕ) → o.ue ≡ ue → c.instance ≡ o.context
            → IsIn q (owner_of ue c.instance o.bearer o.kind) (more_of ue c.instance next c.bearers) ⊎ (has_end o.kind q (find bearer_cmp c.bearers o.bearer) ≡ true)
            → IsIn q o (more_of ue c.instance next c.bearers) ⊎ (cu_up_names contexts o q ≡ true)
        held o q same at (inl h) =
            inl (subst (λ (x : CuUpTunnel). IsIn q x (more_of ue c.instance next c.bearers)) (λ i. record { ue = sym same i; bearer = o.bearer; kind = o.kind; context = at i }) h)
        held o q same at (inr h) =
            inr (own_names ts contexts k ue c is o q same ∙ both_of (c.instance == o.context) _ (eq-eqb c.instance o.context at) h)

        either : (o : CuUpTunnel) (q : ℕ) → o.ue ≡ ue → up_context_names o q (Some (record c { bearers = bs })) ≡ true
            → IsIn q o (more_of ue c.instance next c.bearers) ⊎ (cu_up_names contexts o q ≡ true)
        either o q same h =
            held o q same (eqb-true c.instance o.context (first_of _ (has_end o.kind q (find bearer_cmp bs o.bearer)) h))
            (more_either ue c.instance next c.bearers bs p (k.1 ue c is) o.bearer o.kind q (second_of (c.instance == o.context) _ h))

        added : (o : CuUpTunnel) (q : ℕ) → IsIn q o (more_of ue c.instance next c.bearers) → (o.ue ≡ ue) × (up_context_names o q (Some (record c { bearers = bs })) ≡ true)
        added o q h =
            let found : IsFound ue c.instance bs q o = more_new ue c.instance next c.bearers bs p order q o h in
            (found.0, both_of (c.instance == o.context) _ (eq-eqb c.instance o.context (sym found.1)) found.2)

        old : (o : CuUpTunnel) (q : ℕ) → o.ue ≡ ue → cu_up_names contexts o q ≡ true → up_context_names o q (Some (record c { bearers = bs })) ≡ true
        old o q same h =
            let own : up_context_names o q (Some c) ≡ true = sym (own_names ts contexts k ue c is o q same) ∙ h in
            both_of (c.instance == o.context) _ (first_of (c.instance == o.context) _ own)
            (more_old next c.bearers bs p order o.bearer o.kind q (second_of (c.instance == o.context) _ own))
