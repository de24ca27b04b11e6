-- The tunnels of a CU-UP's bearers, as they are named in a list of bearers, and as entries of the table.
use Rattle.std.proofs.Common.{◌≡◌, ◌≤◌, ◌==◌, ℕ, zero, suc, ◌+◌, Bool, true, false, cond, ◌||◌, List, [], ◌∷◌, ◌++◌, Option, Some, None, ◌⊎◌, inl, inr, refl, sym, ap, ◌∙◌, subst, arith, eqb-true, eq-eqb}
use Rattle.std.specs.List.{flat_map, AllByRecursion}
use Rattle.std.specs.List.Sorted.{IsStrictlySortedBy}
use Rattle.std.specs.declared.cmp.Ordering.TheVariants.{Less}
use Rattle.std.specs.Map.{lookup, keys_of}
use Rattle.std.specs.BTreeMap.{is_at}
use Rattle.std.proofs.lemmas.Map.Keys.{sorted_tail}
use Rattle.gnb_types.specs.declared.names.UeId.{UeId}
use Rattle.gnb_types.specs.declared.names.BearerId.{BearerId}
use Rattle.gnb_types.specs.Orders.{bearer_cmp}
use Rattle.tables.specs.Tables.{find, IsSorted}
use Rattle.unit_defs.specs.CuUpRecords.{CuUpBearer, TunnelKind, n3, f1u_uplink, forwarding_down, forwarding_up, CuUpTunnel}
use Rattle.unit_defs.specs.CuUpBearers.{made, teids_of_bearer, teid_in, is_one_of, open_teids}
use Rattle.unit_defs.specs.CuUp.{entries, entries_of, bearers_from, bearers_made}
use Rattle.proof_run_steps.proofs.teids.Bearers.{Ends, ends}
use Rattle.law_tunnels_are_owned.specs.owner_facts.Owned.{ends_of, has_end}
use Rattle.law_tunnels_are_owned.proofs.owner_facts.Found.{has_later, has_first, has_either, less}
use Rattle.law_tunnels_are_owned.proofs.owner_facts.Owners.{one_or, IsIn, in_left, in_right, in_either, AreFrom}

abbrev pub Bearers : Type 0
Bearers = List (BearerId × CuUpBearer)

-- a bearer's tunnels are read off its ends
pub ends_same : (kind : TunnelKind) (b c : CuUpBearer) → ends c ≡ ends b → ends_of kind c ≡ ends_of kind b
ends_same n3 b c p = ap (λ (e : Ends). teid_in e.n3) p
ends_same f1u_uplink b c p = ap (λ (e : Ends). e.uplinks) p
ends_same forwarding_down b c p = ap (λ (e : Ends). teid_in e.forward_down) p
ends_same forwarding_up b c p = ap (λ (e : Ends). teid_in e.forward_up) p

-- the same bearers, with the same tunnels
abbrev pub SameEnds : Bearers → Bearers → Type 0
SameEnds [] [] = Unit {0}
SameEnds [] (f ∷ fs) = ⊥
SameEnds (e ∷ es) [] = ⊥
SameEnds (e ∷ es) (f ∷ fs) = (e.0 ≡ f.0) × (ends f.1 ≡ ends e.1) × SameEnds es fs

pub same_has_end : (es fs : Bearers) → SameEnds es fs → (x : BearerId) (kind : TunnelKind) (q : ℕ)
    → has_end kind q (find bearer_cmp fs x) ≡ has_end kind q (find bearer_cmp es x)
unfolding find
same_has_end [] [] p x kind q = refl
same_has_end [] (f ∷ fs) p x kind q = absurd p
same_has_end (e ∷ es) [] p x kind q = absurd p
same_has_end (e ∷ es) (f ∷ fs) p x kind q =
    ap (λ (k : BearerId). has_end kind q (cond (is_at (bearer_cmp x) k) (Some f.1) (lookup (is_at (bearer_cmp x)) fs))) (sym p.0)
    ∙ by (is_at (bearer_cmp x) e.0) (same_has_end es fs p.2 x kind q)
  where
    by : (t : Bool) → has_end kind q (lookup (is_at (bearer_cmp x)) fs) ≡ has_end kind q (lookup (is_at (bearer_cmp x)) es)
        → has_end kind q (cond t (Some f.1) (lookup (is_at (bearer_cmp x)) fs)) ≡ has_end kind q (cond t (Some e.1) (lookup (is_at (bearer_cmp x)) es))
    by true rest = ap (λ (ts : List ℕ). is_one_of ts q) (ends_same kind e.1 f.1 p.1)
    by false rest = rest

same_keys : (es fs : Bearers) → SameEnds es fs → keys_of es ≡ keys_of fs
same_keys [] [] p = refl
same_keys [] (f ∷ fs) p = absurd p
same_keys (e ∷ es) [] p = absurd p
same_keys (e ∷ es) (f ∷ fs) p = λ i. p.0 i ∷ same_keys es fs p.2 i

pub same_order : (es fs : Bearers) → SameEnds es fs → IsSorted bearer_cmp es → IsSorted bearer_cmp fs
same_order es fs p sorted = subst (λ (ks : List BearerId). IsStrictlySortedBy bearer_cmp ks) (same_keys es fs p) sorted

-- ---- the bearer that is found

abbrev pub has_it : TunnelKind → ℕ → CuUpBearer → Bool
has_it kind q b = is_one_of (ends_of kind b) q

-- ---- all tunnels of a context

pub append_one : (xs ys : List ℕ) (q : ℕ) → is_one_of (xs ++ ys) q ≡ is_one_of xs q || is_one_of ys q
append_one [] ys q = refl
append_one (x ∷ xs) ys q = ap (λ (t : Bool). x == q || t) (append_one xs ys q) ∙ by (x == q)
  where
    by : (a : Bool) → a || (is_one_of xs q || is_one_of ys q) ≡ (a || is_one_of xs q) || is_one_of ys q
    by true = refl
    by false = refl

pub or_left : (a b : Bool) → a ≡ true → a || b ≡ true
or_left a b h = ap (λ (t : Bool). t || b) h

pub or_right : (a b : Bool) → b ≡ true → a || b ≡ true
or_right true b h = refl
or_right false b h = h

open_four : (b : CuUpBearer) (q : ℕ) → is_one_of (open_teids b) q
    ≡ ((is_one_of (teid_in b.n3) q || is_one_of (teid_in b.forward_down) q) || is_one_of b.uplinks q) || is_one_of (teid_in b.forward_up) q
open_four b q =
    append_one (teid_in b.n3 ++ teid_in b.forward_down ++ b.uplinks) (teid_in b.forward_up) q
    ∙ ap (λ (t : Bool). t || is_one_of (teid_in b.forward_up) q)
    (append_one (teid_in b.n3 ++ teid_in b.forward_down) b.uplinks q
    ∙ ap (λ (t : Bool). t || is_one_of b.uplinks q) (append_one (teid_in b.n3) (teid_in b.forward_down) q))

end_is_open : (kind : TunnelKind) (b : CuUpBearer) (q : ℕ) → is_one_of (ends_of kind b) q ≡ true → is_one_of (open_teids b) q ≡ true
end_is_open kind b q h = open_four b q ∙ by kind h
  where
    by : (k : TunnelKind) → is_one_of (ends_of k b) q ≡ true
        → ((is_one_of (teid_in b.n3) q || is_one_of (teid_in b.forward_down) q) || is_one_of b.uplinks q) || is_one_of (teid_in b.forward_up) q ≡ true
    by n3 e = or_left _ _ (or_left _ _ (or_left _ _ e))
    by forwarding_down e = or_left _ _ (or_left _ _ (or_right (is_one_of (teid_in b.n3) q) _ e))
    by f1u_uplink e = or_left _ _ (or_right (is_one_of (teid_in b.n3) q || is_one_of (teid_in b.forward_down) q) _ e)
    by forwarding_up e = or_right ((is_one_of (teid_in b.n3) q || is_one_of (teid_in b.forward_down) q) || is_one_of b.uplinks q) _ e

open_is_end : (b : CuUpBearer) (q : ℕ) → is_one_of (open_teids b) q ≡ true → (kind : TunnelKind) × (is_one_of (ends_of kind b) q ≡ true)
open_is_end b q h = last (one_or _ (is_one_of (teid_in b.forward_up) q) (sym (open_four b q) ∙ h))
  where
    first : (is_one_of (teid_in b.n3) q ≡ true) ⊎ (is_one_of (teid_in b.forward_down) q ≡ true) → (kind : TunnelKind) × (is_one_of (ends_of kind b) q ≡ true)
    first (inl e) = (n3, e)
    first (inr e) = (forwarding_down, e)

    second : (is_one_of (teid_in b.n3) q || is_one_of (teid_in b.forward_down) q ≡ true) ⊎ (is_one_of b.uplinks q ≡ true)
        → (kind : TunnelKind) × (is_one_of (ends_of kind b) q ≡ true)
    second (inl e) = first (one_or (is_one_of (teid_in b.n3) q) (is_one_of (teid_in b.forward_down) q) e)
    second (inr e) = (f1u_uplink, e)

    last : ((is_one_of (teid_in b.n3) q || is_one_of (teid_in b.forward_down) q) || is_one_of b.uplinks q ≡ true) ⊎ (is_one_of (teid_in b.forward_up) q ≡ true)
        → (kind : TunnelKind) × (is_one_of (ends_of kind b) q ≡ true)
    last (inl e) = second (one_or (is_one_of (teid_in b.n3) q || is_one_of (teid_in b.forward_down) q) (is_one_of b.uplinks q) e)
    last (inr e) = (forwarding_up, e)

abbrev pub all_open : Bearers → List ℕ
all_open es = flat_map (λ e. open_teids e.1) es

pub held_is_open : (es : Bearers) (x : BearerId) (kind : TunnelKind) (q : ℕ) → has_end kind q (find bearer_cmp es x) ≡ true → is_one_of (all_open es) q ≡ true
unfolding find
held_is_open [] x kind q h = absurd cc
held_is_open (e ∷ es) x kind q h = append_one (open_teids e.1) (all_open es) q ∙ by (held_is_open es x kind q) (has_either (has_it kind q) e es x h)
  where
    by : (has_end kind q (find bearer_cmp es x) ≡ true → is_one_of (all_open es) q ≡ true)
        → ((e.0 ≡ x) × (is_one_of (ends_of kind e.1) q ≡ true)) ⊎ (has_end kind q (find bearer_cmp es x) ≡ true)
        → is_one_of (open_teids e.1) q || is_one_of (all_open es) q ≡ true
    by later (inl k) = or_left _ _ (end_is_open kind e.1 q k.1)
    by later (inr k) = or_right (is_one_of (open_teids e.1) q) _ (later k)

pub open_is_held : (es : Bearers) (q : ℕ) → IsSorted bearer_cmp es → is_one_of (all_open es) q ≡ true
    → (x : BearerId) × (kind : TunnelKind) × (has_end kind q (find bearer_cmp es x) ≡ true)
open_is_held [] q sorted h = absurd cc
open_is_held (e ∷ es) q sorted h = by (open_is_held es q (sorted_tail bearer_cmp e.0 (keys_of es) sorted)) (one_or (is_one_of (open_teids e.1) q) (is_one_of (all_open es) q) (sym (append_one (open_teids e.1) (all_open es) q) ∙ h))
  where
    by : (is_one_of (all_open es) q ≡ true → (x : BearerId) × (kind : TunnelKind) × (has_end kind q (find bearer_cmp es x) ≡ true))
        → (is_one_of (open_teids e.1) q ≡ true) ⊎ (is_one_of (all_open es) q ≡ true)
        → (x : BearerId) × (kind : TunnelKind) × (has_end kind q (find bearer_cmp (e ∷ es) x) ≡ true)
    by more (inl k) =
        let end : (kind : TunnelKind) × (is_one_of (ends_of kind e.1) q ≡ true) = open_is_end e.1 q k in
        (e.0, end.0, has_first (has_it end.0 q) e es ∙ end.1)
    by more (inr k) =
        let later : (x : BearerId) × (kind : TunnelKind) × (has_end kind q (find bearer_cmp es x) ≡ true) = more k in
        (later.0, later.1, has_later (has_it later.1 q) e es later.0 sorted later.2)

-- ---- the entries of a context's bearers

module _ (ue : UeId) (context : ℕ) where
  abbrev pub owner_of : BearerId → TunnelKind → CuUpTunnel
  owner_of x kind = record { ue = ue; bearer = x; kind = kind; context = context }

  in_option : (x : BearerId) (kind : TunnelKind) (o : Option ℕ) (q : ℕ) → is_one_of (teid_in o) q ≡ true → IsIn q (owner_of x kind) (entries ue x context kind o)
  in_option x kind None q h = absurd cc
  in_option x kind (Some t) q h = inl (eqb-true t q (by (t == q) h), refl)
    where
      by : (a : Bool) → a || false ≡ true → a ≡ true
      by true e = refl
      by false e = e

  in_uplinks : (x : BearerId) (ts : List ℕ) (q : ℕ) → is_one_of ts q ≡ true
      → IsIn q (owner_of x f1u_uplink) (flat_map (λ teid. entries ue x context f1u_uplink (Some teid)) ts)
  in_uplinks x [] q h = absurd cc
  in_uplinks x (t ∷ ts) q h = by (in_uplinks x ts q) (one_or (t == q) (is_one_of ts q) h)
    where
      by : (is_one_of ts q ≡ true → IsIn q (owner_of x f1u_uplink) (flat_map (λ teid. entries ue x context f1u_uplink (Some teid)) ts))
          → ((t == q) ≡ true) ⊎ (is_one_of ts q ≡ true) → IsIn q (owner_of x f1u_uplink) (flat_map (λ teid. entries ue x context f1u_uplink (Some teid)) (t ∷ ts))
      by later (inl e) = inl (eqb-true t q e, refl)
      by later (inr e) = inr (later e)

  in_bearer : (x : BearerId) (b : CuUpBearer) (kind : TunnelKind) (q : ℕ) → is_one_of (ends_of kind b) q ≡ true → IsIn q (owner_of x kind) (entries_of ue context (x, b))
  in_bearer x b n3 q h =
      in_left q (owner_of x n3) _ (entries ue x context forwarding_up b.forward_up)
      (in_left q (owner_of x n3) _ (entries ue x context forwarding_down b.forward_down)
      (in_left q (owner_of x n3) (entries ue x context n3 b.n3) _ (in_option x n3 b.n3 q h)))
  in_bearer x b f1u_uplink q h =
      in_left q (owner_of x f1u_uplink) _ (entries ue x context forwarding_up b.forward_up)
      (in_left q (owner_of x f1u_uplink) _ (entries ue x context forwarding_down b.forward_down)
      (in_right q (owner_of x f1u_uplink) (entries ue x context n3 b.n3) _ (in_uplinks x b.uplinks q h)))
  in_bearer x b forwarding_down q h =
      in_left q (owner_of x forwarding_down) _ (entries ue x context forwarding_up b.forward_up)
      (in_right q (owner_of x forwarding_down) (entries ue x context n3 b.n3 ++ flat_map (λ teid. entries ue x context f1u_uplink (Some teid)) b.uplinks) _
      (in_option x forwarding_down b.forward_down q h))
  in_bearer x b forwarding_up q h =
      in_right q (owner_of x forwarding_up)
      (entries ue x context n3 b.n3 ++ flat_map (λ teid. entries ue x context f1u_uplink (Some teid)) b.uplinks ++ entries ue x context forwarding_down b.forward_down) _
      (in_option x forwarding_up b.forward_up q h)

  -- what is found is among the entries
  pub found_is_in : (es : Bearers) (x : BearerId) (kind : TunnelKind) (q : ℕ) → has_end kind q (find bearer_cmp es x) ≡ true
      → IsIn q (owner_of x kind) (flat_map (entries_of ue context) es)
  unfolding find
  found_is_in [] x kind q h = absurd cc
  found_is_in (e ∷ es) x kind q h = by (found_is_in es x kind q) (has_either (has_it kind q) e es x h)
    where
      by : (has_end kind q (find bearer_cmp es x) ≡ true → IsIn q (owner_of x kind) (flat_map (entries_of ue context) es))
          → ((e.0 ≡ x) × (is_one_of (ends_of kind e.1) q ≡ true)) ⊎ (has_end kind q (find bearer_cmp es x) ≡ true)
          → IsIn q (owner_of x kind) (entries_of ue context e ++ flat_map (entries_of ue context) es)
      by later (inl k) =
          in_left q (owner_of x kind) (entries_of ue context e) (flat_map (entries_of ue context) es)
          (subst (λ (y : BearerId). IsIn q (owner_of y kind) (entries_of ue context e)) k.0 (in_bearer e.0 e.1 kind q k.1))
      by later (inr k) = in_right q (owner_of x kind) (entries_of ue context e) (flat_map (entries_of ue context) es) (later k)

  -- an entry is its bearer's
  abbrev IsOf : BearerId → CuUpBearer → ℕ → CuUpTunnel → Type 0
  IsOf x b q o = (kind : TunnelKind) × ((owner_of x kind ≡ o) × (is_one_of (ends_of kind b) q ≡ true))

  of_option : (x : BearerId) (kind : TunnelKind) (t : Option ℕ) (q : ℕ) (o : CuUpTunnel) → IsIn q o (entries ue x context kind t)
      → (owner_of x kind ≡ o) × (is_one_of (teid_in t) q ≡ true)
  of_option x kind None q o h = absurd h
  of_option x kind (Some t) q o (inl h) = (h.1, or_left (t == q) false (eq-eqb t q h.0))
  of_option x kind (Some t) q o (inr h) = absurd h

  of_uplinks : (x : BearerId) (ts : List ℕ) (q : ℕ) (o : CuUpTunnel) → IsIn q o (flat_map (λ teid. entries ue x context f1u_uplink (Some teid)) ts)
      → (owner_of x f1u_uplink ≡ o) × (is_one_of ts q ≡ true)
  of_uplinks x [] q o h = absurd h
  of_uplinks x (t ∷ ts) q o (inl h) = (h.1, or_left (t == q) (is_one_of ts q) (eq-eqb t q h.0))
  of_uplinks x (t ∷ ts) q o (inr h) =
      let later : (owner_of x f1u_uplink ≡ o) × (is_one_of ts q ≡ true) = of_uplinks x ts q o h in (later.0, or_right (t == q) (is_one_of ts q) later.1)

  of_bearer : (x : BearerId) (b : CuUpBearer) (q : ℕ) (o : CuUpTunnel) → IsIn q o (entries_of ue context (x, b)) → IsOf x b q o
  of_bearer x b q o h = last (in_either q o _ (entries ue x context forwarding_up b.forward_up) h)
    where
      first : IsIn q o (entries ue x context n3 b.n3) ⊎ IsIn q o (flat_map (λ teid. entries ue x context f1u_uplink (Some teid)) b.uplinks) → IsOf x b q o
      first (inl k) = (n3, of_option x n3 b.n3 q o k)
      first (inr k) = (f1u_uplink, of_uplinks x b.uplinks q o k)

      second : IsIn q o (entries ue x context n3 b.n3 ++ flat_map (λ teid. entries ue x context f1u_uplink (Some teid)) b.uplinks)
          ⊎ IsIn q o (entries ue x context forwarding_down b.forward_down) → IsOf x b q o
      second (inl k) = first (in_either q o (entries ue x context n3 b.n3) _ k)
      second (inr k) = (forwarding_down, of_option x forwarding_down b.forward_down q o k)

      last : IsIn q o (entries ue x context n3 b.n3 ++ flat_map (λ teid. entries ue x context f1u_uplink (Some teid)) b.uplinks
          ++ entries ue x context forwarding_down b.forward_down) ⊎ IsIn q o (entries ue x context forwarding_up b.forward_up) → IsOf x b q o
      last (inl k) = second (in_either q o _ (entries ue x context forwarding_down b.forward_down) k)
      last (inr k) = (forwarding_up, of_option x forwarding_up b.forward_up q o k)

  -- an entry of bearers in ascending order is found
  abbrev pub IsFound : Bearers → ℕ → CuUpTunnel → Type 0
  IsFound es q o = (o.ue ≡ ue) × (o.context ≡ context) × (has_end o.kind q (find bearer_cmp es o.bearer) ≡ true)

  pub in_is_found : (es : Bearers) (q : ℕ) (o : CuUpTunnel) → IsSorted bearer_cmp es → IsIn q o (flat_map (entries_of ue context) es) → IsFound es q o
  in_is_found [] q o sorted h = absurd h
  in_is_found (e ∷ es) q o sorted h = by (in_is_found es q o (sorted_tail bearer_cmp e.0 (keys_of es) sorted)) (in_either q o (entries_of ue context e) (flat_map (entries_of ue context) es) h)
    where
      by : (IsIn q o (flat_map (entries_of ue context) es) → IsFound es q o)
          → IsIn q o (entries_of ue context e) ⊎ IsIn q o (flat_map (entries_of ue context) es) → IsFound (e ∷ es) q o
      by more (inl k) =
          let here : IsOf e.0 e.1 q o = of_bearer e.0 e.1 q o k in
          subst (IsFound (e ∷ es) q) here.1.0 (refl, refl, has_first (has_it here.0 q) e es ∙ here.1.1)
      by more (inr k) =
          let later : IsFound es q o = more k in
          (later.0, later.1, has_later (has_it o.kind q) e es o.bearer sorted later.2)

  -- the entries of a new context are those of its TEIDs, from its first one on
  pub made_from : (target : Bool) (bs : List BearerId) (next : ℕ) → AreFrom next (flat_map (entries_of ue context) (bearers_made target next bs))
  unfolding made
  made_from target [] next = tt
  made_from true (b ∷ bs) next =
      let two : next + 2 ≡ next + 1 + 1 = omega arith in
      let three : next + 3 ≡ next + 1 + 1 + 1 = omega arith in
      let four : next + 4 ≡ next + 1 + 1 + 1 + 1 = omega arith in
      (refl, (refl, (two, (three, subst (λ (k : ℕ). AreFrom k (flat_map (entries_of ue context) (bearers_made true (next + 4) bs))) four (made_from true bs (next + 4))))))
  made_from false (b ∷ bs) next =
      let two : next + 2 ≡ next + 1 + 1 = omega arith in
      (refl, (refl, subst (λ (k : ℕ). AreFrom k (flat_map (entries_of ue context) (bearers_made false (next + 2) bs))) two (made_from false bs (next + 2))))

-- ---- the bearers of a new context are in ascending order

all_above : (target : Bool) (k i n next : ℕ) → k + 1 ≤ i
    → AllByRecursion (λ y. bearer_cmp (record { 0 = k }) y ≡ Less) (keys_of (bearers_made target next (bearers_from i n)))
all_above target k i zero next h = tt
all_above target k i (suc n) next h = (less k i h, all_above target k (i + 1) n (next + teids_of_bearer target) (omega (arith, h)))

pub made_in_order : (target : Bool) (i n next : ℕ) → IsSorted bearer_cmp (bearers_made target next (bearers_from i n))
unfolding IsStrictlySortedBy
made_in_order target i zero next = tt
made_in_order target i (suc n) next = (
  all_above target i (i + 1) n (next + teids_of_bearer target) (omega arith),
  made_in_order target (i + 1) n (next + teids_of_bearer target),
)
