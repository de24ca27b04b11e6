-- The frames on one tunnel of the bearers of a context, one after another, and of one of them.
use Rattle.std.proofs.Common.{◌≡◌, ℕ, ◌+◌, Bool, true, false, cond, List, [], ◌∷◌, Option, Some, None, refl, sym, ap, ◌∙◌, subst}
use Rattle.std.specs.Ordering.{eq_by_cmp, is_eq}
use Rattle.std.specs.Cmp.{tied_itself, Equal-is}
use Rattle.std.specs.List.{AllByRecursion}
use Rattle.std.specs.declared.cmp.Ordering.{Ordering}
use Rattle.std.specs.declared.cmp.Ordering.TheVariants.{Less, Equal}
use Rattle.std.specs.Map.{lookup, keys_of}
use Rattle.std.specs.BTreeMap.{is_at}
use Rattle.std.proofs.lemmas.Grind.{flat_map-append}
use Rattle.std.proofs.lemmas.Map.Keys.{sorted_head, sorted_tail}
use Rattle.gnb_types.specs.declared.names.UeId.{UeId}
use Rattle.gnb_types.specs.declared.names.BearerId.{BearerId}
use Rattle.gnb_types.specs.declared.plans.SnStatus.{SnStatus}
use Rattle.gnb_types.specs.Orders.{ue_cmp, bearer_cmp}
use Rattle.gnb_types.proofs.OrderLemmas.{ue_total, ue_exact, bearer_total, bearer_exact}
use Rattle.tables.specs.Tables.{find, put, IsSorted}
use Rattle.tables.proofs.TableLaws.{find-put}
use Rattle.unit_defs.specs.Ways.{Way, Answer, gives, spent}
use Rattle.unit_defs.specs.CuUpRecords.{DownlinkTunnel, CuUpBearer, CuUpContext, CuUp, cu_up_scope}
use Rattle.unit_defs.specs.CuUpBearers.{with_status, with_uplink}
use Rattle.unit_defs.specs.CuUp.{UpStep, steps, stops, step_with, each_bearer, answer_with, status_each, uplinks_from, with_bearer}
use Rattle.proof_unit_steps.specs.frames.Numbered.{Frame, frames_in, frames_by, NumbersFrom}
use Rattle.proof_unit_steps.proofs.frames.Bearers.{status_stays, with_uplink_stays}
use Rattle.proof_unit_steps.specs.tunnel_frames.OneTunnel.{OwnedTunnel, number_on, numbers_on, CountTo, NextIs, BearerCounts, CuUpCounts, NumbersTunnel}
use Rattle.proof_unit_steps.proofs.tunnel_frames.Counting.{count_then, not_both, Went, went}

abbrev pub Bearers : Type 0
Bearers = List (BearerId × CuUpBearer)

-- ---- bearers in ascending order are apart, so each of them is found

abbrev pub Others : BearerId → Bearers → Type 0
Others b es = AllByRecursion (λ (f : BearerId × CuUpBearer). f.0 ≡ b → ⊥) es

abbrev pub Apart : Bearers → Type 0
Apart [] = Unit {0}
Apart (e ∷ es) = Others e.0 es × Apart es

less_differs : (a b : BearerId) → bearer_cmp a b ≡ Less → b ≡ a → ⊥
less_differs a b less same =
    let tied : bearer_cmp a a ≡ Equal = tied_itself bearer_total a in
    let below : bearer_cmp a a ≡ Less = ap (bearer_cmp a) (sym same) ∙ less in
    differ (sym tied ∙ below)
  where
    differ : ◌≡◌ {A = Ordering} Equal Less → ⊥
    differ e = absurd cc

others_above : (b : BearerId) (es : Bearers) → AllByRecursion (λ (y : BearerId). bearer_cmp b y ≡ Less) (keys_of es) → Others b es
others_above b [] all = tt
others_above b (e ∷ es) all = (less_differs b e.0 all.0, others_above b es all.1)

pub sorted_apart : (es : Bearers) → IsSorted bearer_cmp es → Apart es
sorted_apart [] sorted = tt
sorted_apart (e ∷ es) sorted =
    (others_above e.0 es (sorted_head bearer_cmp e.0 (keys_of es) sorted), sorted_apart es (sorted_tail bearer_cmp e.0 (keys_of es) sorted))

not_found : (b : BearerId) (es : Bearers) (x : CuUpBearer) → Others b es → find bearer_cmp es b ≡ Some x → ⊥
unfolding find
not_found b [] x all e = absurd cc
not_found b (f ∷ fs) x all e = by (not_found b fs x all.1) (is_at (bearer_cmp b) f.0) refl e
  where
    by : (find bearer_cmp fs b ≡ Some x → ⊥) → (t : Bool) → is_at (bearer_cmp b) f.0 ≡ t → cond t (Some f.1) (lookup (is_at (bearer_cmp b)) fs) ≡ Some x → ⊥
    by later true tie h = all.0 (sym (bearer_exact b f.0 ((Equal-is (bearer_cmp b f.0)).0 tie)))
    by later false apart h = later h

pub each_found : (Q : BearerId → CuUpBearer → Type 0) (es : Bearers) → Apart es → ((b : BearerId) (x : CuUpBearer) → find bearer_cmp es b ≡ Some x → Q b x)
    → AllByRecursion (λ (e : BearerId × CuUpBearer). Q e.0 e.1) es
unfolding find
each_found Q [] apart each = tt
each_found Q (e ∷ es) apart each = (
  each e.0 e.1 (ap (λ (t : Bool). cond t (Some e.1) (lookup (is_at (bearer_cmp e.0)) es)) (ap is_eq (tied_itself bearer_total e.0))),
  each_found Q es apart.1 (λ b x found. each b x (by b x found (is_at (bearer_cmp b) e.0) refl)),
)
  where
    by : (b : BearerId) (x : CuUpBearer) → find bearer_cmp es b ≡ Some x → (t : Bool) → is_at (bearer_cmp b) e.0 ≡ t
        → cond (is_at (bearer_cmp b) e.0) (Some e.1) (lookup (is_at (bearer_cmp b)) es) ≡ Some x
    by b x found true tie =
        let same : b ≡ e.0 = bearer_exact b e.0 ((Equal-is (bearer_cmp b e.0)).0 tie) in
        absurd (not_found e.0 es x apart.0 (subst (λ (k : BearerId). find bearer_cmp es k ≡ Some x) same found))
    by b x found false off = ap (λ (t : Bool). cond t (Some e.1) (lookup (is_at (bearer_cmp b)) es)) off ∙ found

pub found_all : (Q : BearerId → CuUpBearer → Type 0) (es : Bearers) → AllByRecursion (λ (e : BearerId × CuUpBearer). Q e.0 e.1) es
    → (b : BearerId) (x : CuUpBearer) → find bearer_cmp es b ≡ Some x → Q b x
unfolding find
found_all Q [] all b x e = absurd cc
found_all Q (f ∷ fs) all b x e = by (found_all Q fs all.1 b x) (is_at (bearer_cmp b) f.0) refl e
  where
    by : (find bearer_cmp fs b ≡ Some x → Q b x) → (t : Bool) → is_at (bearer_cmp b) f.0 ≡ t → cond t (Some f.1) (lookup (is_at (bearer_cmp b)) fs) ≡ Some x → Q b x
    by later true tie h =
        let same : f.0 ≡ b = sym (bearer_exact b f.0 ((Equal-is (bearer_cmp b f.0)).0 tie)) in
        let it : f.1 ≡ x = cc in
        subst (λ (k : BearerId). Q k x) same (subst (Q f.0) it all.0)
    by later false apart h = later h

other_ue : (u ue : UeId) → eq_by_cmp ue_cmp u ue ≡ false → u ≡ ue → ⊥
other_ue u ue off same = not_both (eq_by_cmp ue_cmp u ue) (ap (eq_by_cmp ue_cmp u) (sym same) ∙ ap is_eq (tied_itself ue_total u)) off

other_bearer : (b c : BearerId) → eq_by_cmp bearer_cmp b c ≡ false → b ≡ c → ⊥
other_bearer b c off same = not_both (eq_by_cmp bearer_cmp b c) (ap (eq_by_cmp bearer_cmp b) (sym same) ∙ ap is_eq (tied_itself bearer_total b)) off

-- ---- one bearer after another

one_owner : (a b : UeId × BearerId) → ◌≡◌ {A = Option (UeId × BearerId)} (Some a) (Some b) → a ≡ b
one_owner a b e = let same : a ≡ b = cc in same

module _ (t : OwnedTunnel) where
  -- what counted so far counts on, where nothing was put meanwhile if this is the owner
  pub counts_on : (k j : ℕ) (ue : UeId) (b : BearerId) (d : Option DownlinkTunnel) → BearerCounts t k ue b d → (t.owner ≡ Some (ue, b) → j ≡ k) → BearerCounts t j ue b d
  counts_on k j ue b d is same l = let now = is l in (now.0, subst (λ (m : ℕ). NextIs m d) (sym (same now.0)) now.1)

  module _ {M C P : Type 0} (way : Way M C P) (ue : UeId) where
    abbrev pub EachCounts : (BearerId → CuUpBearer → Option DownlinkTunnel) → ℕ → Bearers → Type 0
    EachCounts start k es = AllByRecursion (λ (e : BearerId × CuUpBearer). BearerCounts t k ue e.0 (start e.0 e.1)) es

    abbrev pub stood : BearerId → CuUpBearer → Option DownlinkTunnel
    stood b x = x.downlink

    -- the owner is none of these
    abbrev pub Elsewhere : Bearers → Type 0
    Elsewhere es = AllByRecursion (λ (e : BearerId × CuUpBearer). t.owner ≡ Some (ue, e.0) → ⊥) es

    abbrev pub StepNumbers : ℕ → Bearers → UpStep way → Type 0
    StepNumbers k es (steps os bs) =
        (more : ℕ) × CountTo k (numbers_on t.end (frames_by os)) more × EachCounts stood more bs × (Elsewhere es → more ≡ k)
    StepNumbers k es (stops c) = Unit {0}

    one_bearer : (a b : BearerId) → t.owner ≡ Some (ue, a) → t.owner ≡ Some (ue, b) → b ≡ a
    one_bearer a b p q = ap (λ (o : UeId × BearerId). o.1) (one_owner (ue, b) (ue, a) (sym q ∙ p))

    elsewhere_then : (b : BearerId) (es : Bearers) → t.owner ≡ Some (ue, b) → Others b es → Elsewhere es
    elsewhere_then b [] own others = tt
    elsewhere_then b (e ∷ es) own others = (λ mine. others.0 (one_bearer b e.0 own mine), elsewhere_then b es own others.1)

    pub nowhere : (es : Bearers) → ((b : BearerId) → t.owner ≡ Some (ue, b) → ⊥) → Elsewhere es
    nowhere [] not = tt
    nowhere (e ∷ es) not = (not e.0, nowhere es not)

    moved : (start : BearerId → CuUpBearer → Option DownlinkTunnel) (k j : ℕ) (b : BearerId) (es : Bearers) → Others b es
        → ((t.owner ≡ Some (ue, b) → ⊥) → j ≡ k) → EachCounts start k es → EachCounts start j es
    moved start k j b [] others same all = tt
    moved start k j b (e ∷ es) others same all = (
      counts_on k j ue e.0 (start e.0 e.1) all.0 (λ own. same (λ mine. others.0 (one_bearer b e.0 mine own))),
      moved start k j b es others.1 same all.1,
    )

    step_numbers : (k : ℕ) (e : BearerId × CuUpBearer) (es : Bearers) (d : Option DownlinkTunnel) (a : Answer M P CuUpBearer) (s : UpStep way)
        → NumbersFrom d a → BearerCounts t k ue e.0 d → Others e.0 es
        → ((j : ℕ) → ((t.owner ≡ Some (ue, e.0) → ⊥) → j ≡ k) → StepNumbers j es s) → StepNumbers k (e ∷ es) (step_with way e.0 a s)
    step_numbers k e es d (spent c) s p is others rest = tt
    step_numbers k e es d (gives os b) s p is others rest = by s (rest first.0 only)
      where
        first : Went t.end k d (frames_by os) b.downlink
        first = went t.end k d (frames_by os) b.downlink p (λ l. (is l).1)

        only : (t.owner ≡ Some (ue, e.0) → ⊥) → first.0 ≡ k
        only not = first.3 (λ l. not (is l).0)

        here : (j : ℕ) → (Elsewhere es → j ≡ first.0) → BearerCounts t j ue e.0 b.downlink
        here j later l =
            let now = first.2 l in
            let own : t.owner ≡ Some (ue, e.0) = (is now.1).0 in
            (own, subst (λ (m : ℕ). NextIs m b.downlink) (sym (later (elsewhere_then e.0 es own others))) now.0)

        by : (s : UpStep way) → StepNumbers first.0 es s → StepNumbers k (e ∷ es) (step_with way e.0 (gives os b) s)
        by (steps more bs) h = (
          h.0,
          subst (λ (fs : List Frame). CountTo k (numbers_on t.end fs) h.0) (sym (flat_map-append frames_in os more))
              (subst (λ (ns : List ℕ). CountTo k ns h.0) (sym (flat_map-append (number_on t.end) (frames_by os) (frames_by more)))
              (count_then k (numbers_on t.end (frames_by os)) first.0 (numbers_on t.end (frames_by more)) h.0 first.1 h.1)),
          (here h.0 h.3, h.2),
          λ off. h.3 off.1 ∙ only off.0,
        )
        by (stops c) h = tt

    pub each_numbers : (start : BearerId → CuUpBearer → Option DownlinkTunnel) (order : BearerId → CuUpBearer → Answer M P CuUpBearer)
        → ((b : BearerId) (x : CuUpBearer) → NumbersFrom (start b x) (order b x)) → (k : ℕ) (es : Bearers) → Apart es → EachCounts start k es
        → StepNumbers k es (each_bearer way order es)
    each_numbers start order each k [] apart all = (k, refl, tt, λ off. refl)
    each_numbers start order each k (e ∷ es) apart all =
        step_numbers k e es (start e.0 e.1) (order e.0 e.1) (each_bearer way order es) (each e.0 e.1) all.0 apart.0
        (λ j same. each_numbers start order each j es apart.1 (moved start k j e.0 es apart.0 same all.1))

    pub statuses_number : (c : CuUpContext) (ss : List SnStatus) (k : ℕ) (es : Bearers) → Apart es → EachCounts stood k es
        → StepNumbers k es (status_each way ue c ss es)
    statuses_number c [] k es apart all = (k, refl, all, λ off. refl)
    statuses_number c (s ∷ ss) k [] apart all = (k, refl, tt, λ off. refl)
    statuses_number c (s ∷ ss) k (e ∷ es) apart all =
        step_numbers k e es e.1.downlink (with_status way (cu_up_scope ue c e.0) s e.1) (status_each way ue c ss es) (status_stays way (cu_up_scope ue c e.0) s e.1) all.0 apart.0
        (λ j same. statuses_number c ss j es apart.1 (moved stood k j e.0 es apart.0 same all.1))

    pub uplinks_number : (next : ℕ) (k : ℕ) (es : Bearers) → Apart es → EachCounts stood k es → StepNumbers k es (uplinks_from way next es)
    uplinks_number next k [] apart all = (k, refl, tt, λ off. refl)
    uplinks_number next k (e ∷ es) apart all =
        step_numbers k e es e.1.downlink (with_uplink way next e.1) (uplinks_from way (next + 1) es) (with_uplink_stays way next e.1) all.0 apart.0
        (λ j same. uplinks_number (next + 1) j es apart.1 (moved stood k j e.0 es apart.0 same all.1))

    -- ---- the context with these bearers, and with one of them

    other_owner : (u : UeId) (b : BearerId) → (u ≡ ue → ⊥) → t.owner ≡ Some (u, b) → (c : BearerId) → t.owner ≡ Some (ue, c) → ⊥
    other_owner u b off own c mine = off (ap (λ (o : UeId × BearerId). o.0) (one_owner (u, b) (ue, c) (sym own ∙ mine)))

    no_owner : t.owner ≡ None → (c : BearerId) → t.owner ≡ Some (ue, c) → ⊥
    no_owner none c mine = absurd (gone (sym none ∙ mine))
      where
        gone : ◌≡◌ {A = Option (UeId × BearerId)} None (Some (ue, c)) → ⊥
        gone e = absurd cc

    pub answer_numbers : (k : ℕ) (r : CuUp M C) (d : CuUpContext) (es : Bearers) (s : UpStep way) → CuUpCounts t k r → StepNumbers k es s
        → NumbersTunnel t k (answer_with way r ue d s)
    answer_numbers k r d es (stops c) p h = tt
    answer_numbers k r d es (steps os bs) p h = (
      h.0,
      h.1,
      (p.0, λ u x b y at found. by u x b y (eq_by_cmp ue_cmp u ue) refl (sym (find-put ue_total r.contexts ue (record d { bearers = bs }) u) ∙ at) found),
      λ none. h.3 (nowhere es (no_owner none)),
    )
      where
        by : (u : UeId) (x : CuUpContext) (b : BearerId) (y : CuUpBearer) (tie : Bool) → eq_by_cmp ue_cmp u ue ≡ tie
            → cond tie (Some (record d { bearers = bs })) (find ue_cmp r.contexts u) ≡ Some x → find bearer_cmp x.bearers b ≡ Some y
            → BearerCounts t h.0 u b y.downlink
        by u x b y true tie e found =
            let same : u ≡ ue = ue_exact u ue ((Equal-is (ue_cmp u ue)).0 tie) in
            let those : ◌≡◌ {A = CuUpContext} (record d { bearers = bs }) x = cc in
            subst (λ (v : UeId). BearerCounts t h.0 v b y.downlink) (sym same)
            (found_all (λ c z. BearerCounts t h.0 ue c z.downlink) bs h.2 b y (subst (λ (z : CuUpContext). find bearer_cmp z.bearers b ≡ Some y) (sym those) found))
        by u x b y false off e found =
            counts_on k h.0 u b y.downlink (p.1 u x b y e found) (λ own. h.3 (nowhere es (other_owner u b (other_ue u ue off) own)))

    pub bearer_numbers : (k : ℕ) (r : CuUp M C) (c : CuUpContext) (bearer : BearerId) (x : CuUpBearer) (a : Answer M P CuUpBearer) → CuUpCounts t k r
        → find ue_cmp r.contexts ue ≡ Some c → find bearer_cmp c.bearers bearer ≡ Some x → NumbersFrom x.downlink a
        → NumbersTunnel t k (with_bearer way r ue c bearer a)
    bearer_numbers k r c bearer x (spent s) p at found numbers = tt
    bearer_numbers k r c bearer x (gives os b) p at found numbers = (
      first.0,
      first.1,
      (p.0, λ u z y w here found. by u z y w (eq_by_cmp ue_cmp u ue) refl (sym (find-put ue_total r.contexts ue (record c { bearers = put bearer_cmp c.bearers bearer b }) u) ∙ here) found),
      λ none. only (no_owner none bearer),
    )
      where
        stands : BearerCounts t k ue bearer x.downlink
        stands = p.1 ue c bearer x at found

        first : Went t.end k x.downlink (frames_by os) b.downlink
        first = went t.end k x.downlink (frames_by os) b.downlink numbers (λ l. (stands l).1)

        only : (t.owner ≡ Some (ue, bearer) → ⊥) → first.0 ≡ k
        only not = first.3 (λ l. not (stands l).0)

        in_context : (y : BearerId) (w : CuUpBearer) (tie : Bool) → eq_by_cmp bearer_cmp y bearer ≡ tie
            → cond tie (Some b) (find bearer_cmp c.bearers y) ≡ Some w → BearerCounts t first.0 ue y w.downlink
        in_context y w true tie e =
            let same : y ≡ bearer = bearer_exact y bearer ((Equal-is (bearer_cmp y bearer)).0 tie) in
            let it : b ≡ w = cc in
            subst (λ (v : BearerId). BearerCounts t first.0 ue v w.downlink) (sym same)
            (subst (λ (v : CuUpBearer). BearerCounts t first.0 ue bearer v.downlink) it (λ l. let now = first.2 l in ((stands now.1).0, now.0)))
        in_context y w false off e =
            counts_on k first.0 ue y w.downlink (p.1 ue c y w at e) (λ own. only (λ mine. other_bearer y bearer off (one_bearer bearer y mine own)))

        by : (u : UeId) (z : CuUpContext) (y : BearerId) (w : CuUpBearer) (tie : Bool) → eq_by_cmp ue_cmp u ue ≡ tie
            → cond tie (Some (record c { bearers = put bearer_cmp c.bearers bearer b })) (find ue_cmp r.contexts u) ≡ Some z → find bearer_cmp z.bearers y ≡ Some w
            → BearerCounts t first.0 u y w.downlink
        by u z y w true tie e there =
            let same : u ≡ ue = ue_exact u ue ((Equal-is (ue_cmp u ue)).0 tie) in
            let those : ◌≡◌ {A = CuUpContext} (record c { bearers = put bearer_cmp c.bearers bearer b }) z = cc in
            subst (λ (v : UeId). BearerCounts t first.0 v y w.downlink) (sym same)
            (in_context y w (eq_by_cmp bearer_cmp y bearer) refl
            (sym (find-put bearer_total c.bearers bearer b y) ∙ subst (λ (v : CuUpContext). find bearer_cmp v.bearers y ≡ Some w) (sym those) there))
        by u z y w false off e there =
            counts_on k first.0 u y w.downlink (p.1 u z y w e there) (λ own. only (λ mine. absurd (other_owner u y (other_ue u ue off) own bearer mine)))
