-- Packets that are given up one after another: each is one reference less.
use Rattle.std.proofs.Common.{◌≡◌, ◌≢◌, ℕ, ◌+◌, ◌<◌, ◌≤◌, Bool, true, false, cond, List, [], ◌∷◌, length, Option, Some, None, refl, sym, ap, ◌∙◌, subst, arith}
use Rattle.std.specs.Prelude.{IsSome}
use Rattle.std.specs.Ordering.{nat_cmp, eq_by_cmp}
use Rattle.std.specs.List.{AllByRecursion}
use Rattle.std.specs.Map.{lookup}
use Rattle.std.specs.BTreeMap.{is_at}
use Rattle.std.proofs.lemmas.Cmp.{nat_cmp_total}
use Rattle.std.specs.Cmp.{Equal-is}
use Rattle.tables.specs.Tables.{find, without}
use Rattle.tables.proofs.TableLaws.{find-without, find-without-other, other_key}
use Rattle.pdcp_defs.specs.pool_defs.Pools.{Stored, PoolState, packet_by, packet_at, without_packet, without_place, AreApart, IsPool}
use Rattle.pdcp_defs.proofs.pool_defs.PoolLaws.{numbers_ordered}
use Rattle.pdcp_entities.specs.Packets.{HasNone, freed, freed_by, all_freed}
use Rattle.pdcp_bearers.proofs.ue_bearers.RefLemmas.{length_without}

-- ---- a reference is at one place

none_among : (m : List (ℕ × ℕ)) (r : ℕ) → AllByRecursion (λ x. x.1 ≡ r → ⊥) m → (q : ℕ) → find nat_cmp m q ≡ Some r → ⊥
unfolding find
none_among [] r apart q found = cc
none_among (e ∷ es) r apart q found = by (is_at (nat_cmp q) e.0) found (none_among es r apart.1 q)
  where
    by : (b : Bool) → cond b (Some e.1) (lookup (is_at (nat_cmp q)) es) ≡ Some r → (lookup (is_at (nat_cmp q)) es ≡ Some r → ⊥) → ⊥
    by true found again = apart.0 (let same : e.1 ≡ r = cc in same)
    by false found again = again found

one_place : (m : List (ℕ × ℕ)) → AreApart m → (a b r : ℕ) → find nat_cmp m a ≡ Some r → find nat_cmp m b ≡ Some r → a ≢ b → ⊥
unfolding find
one_place [] apart a b r at_a at_b other = cc
one_place (e ∷ es) apart a b r at_a at_b other =
    by (is_at (nat_cmp a) e.0) (is_at (nat_cmp b) e.0) refl refl at_a at_b (λ x y. one_place es apart.1 a b r x y other)
  where
    is_here : (q k : ℕ) → is_at (nat_cmp q) k ≡ true → q ≡ k
    is_here q k here = numbers_ordered.exact q k ((Equal-is (nat_cmp q k)).0 here)

    gone : e.1 ≡ r → (q : ℕ) → lookup (is_at (nat_cmp q)) es ≡ Some r → ⊥
    gone same q found = none_among es r (subst (λ (k : ℕ). AllByRecursion (λ x. x.1 ≡ k → ⊥) es) same apart.0) q found

    by : (c d : Bool) → is_at (nat_cmp a) e.0 ≡ c → is_at (nat_cmp b) e.0 ≡ d
        → cond c (Some e.1) (lookup (is_at (nat_cmp a)) es) ≡ Some r → cond d (Some e.1) (lookup (is_at (nat_cmp b)) es) ≡ Some r
        → (lookup (is_at (nat_cmp a)) es ≡ Some r → lookup (is_at (nat_cmp b)) es ≡ Some r → ⊥) → ⊥
    by true true is_a is_b at_a at_b again = other (is_here a e.0 is_a ∙ sym (is_here b e.0 is_b))
    by true false is_a is_b at_a at_b again = gone (let same : e.1 ≡ r = cc in same) b at_b
    by false true is_a is_b at_a at_b again = gone (let same : e.1 ≡ r = cc in same) a at_a
    by false false is_a is_b at_a at_b again = again at_a at_b

-- each reference is at one place of the pool
abbrev pub AreSole : PoolState → Type 0
AreSole p = (a b r : ℕ) → find nat_cmp p.parked a ≡ Some r → find nat_cmp p.parked b ≡ Some r → a ≢ b → ⊥

pub pool_sole : (limit : ℕ) (p : PoolState) → IsPool limit p → AreSole p
pool_sole limit p sound = one_place p.parked sound.apart

-- ---- a packet is given up

still_there : (m : List (ℕ × ℕ)) (k q r : ℕ) → find nat_cmp (without nat_cmp m k) q ≡ Some r → find nat_cmp m q ≡ Some r
still_there m k q r found = by (eq_by_cmp nat_cmp q k) (sym (find-without nat_cmp_total m k q) ∙ found)
  where
    by : (b : Bool) → cond b None (find nat_cmp m q) ≡ Some r → find nat_cmp m q ≡ Some r
    by true found = cc
    by false found = found

-- the reference at a place where a packet is
abbrev Parked : PoolState → ℕ → Type 0
Parked p place = (r : ℕ) × (find nat_cmp p.parked place ≡ Some r) × IsSome (find nat_cmp p.refs r)

reference_at : (p : PoolState) (place : ℕ) → IsSome (packet_at p place) → Parked p place
unfolding packet_at
reference_at p place there = by (find nat_cmp p.parked place) refl there
  where
    by : (o : Option ℕ) → find nat_cmp p.parked place ≡ o → IsSome (packet_by p o) → Parked p place
    by None is some = cc
    by (Some r) is some = (r, is, some)

freed_is : (p : PoolState) (place r : ℕ) → find nat_cmp p.parked place ≡ Some r → freed p place ≡ without_packet (without_place p place) r
unfolding freed
freed_is p place r is = ap (freed_by p place) is

module _ (p : PoolState) (place r : ℕ) (is : find nat_cmp p.parked place ≡ Some r) (some : IsSome (find nat_cmp p.refs r)) (sole : AreSole p) where
  freed_fewer : length (freed p place).refs < length p.refs
  freed_fewer =
      let less = length_without p.refs r some in
      subst (λ (q : PoolState). length q.refs < length p.refs) (sym (freed_is p place r is)) less

  freed_sole : AreSole (freed p place)
  freed_sole =
      subst (λ (q : PoolState). AreSole q) (sym (freed_is p place r is))
      (λ a b n at_a at_b other. sole a b n (still_there p.parked place a n at_a) (still_there p.parked place b n at_b) other)

  freed_keeps : (q n : ℕ) → q ≢ place → find nat_cmp p.parked q ≡ Some n → IsSome (find nat_cmp p.refs n) → IsSome (packet_at (freed p place) q)
  unfolding packet_at
  freed_keeps q n other at_q live =
      let other_reference : n ≢ r = λ same. sole q place r (at_q ∙ ap (λ (k : ℕ). Some k) same) is other in
      let place_kept : find nat_cmp (without nat_cmp p.parked place) q ≡ Some n =
      find-without-other nat_cmp_total p.parked place q (other_key numbers_ordered q place other) ∙ at_q in
      let packet_kept = find-without-other nat_cmp_total p.refs r n (other_key numbers_ordered n r other_reference) in
      subst (λ (s : PoolState). IsSome (packet_by s (find nat_cmp s.parked q))) (sym (freed_is p place r is))
      (subst (λ (o : Option ℕ). IsSome (packet_by (without_packet (without_place p place) r) o)) (sym place_kept)
      (subst (λ (o : Option Stored). IsSome o) (sym packet_kept) live))

-- those of other entries stay
others_kept : (p : PoolState) (e : ℕ × ℕ) (here : Parked p e.1) → AreSole p → (es : List (ℕ × ℕ)) → HasNone es e.1
    → AllByRecursion (λ x. IsSome (packet_at p x.1)) es → AllByRecursion (λ x. IsSome (packet_at (freed p e.1) x.1)) es
others_kept p e here sole [] none there = tt
others_kept p e here sole (x ∷ es) none there =
    let at_x = reference_at p x.1 there.0 in
    (freed_keeps p e.1 here.0 here.1 here.2 sole x.1 at_x.0 none.0 at_x.1 at_x.2, others_kept p e here sole es none.1 there.1)

-- as many references fewer, at least, as entries are given up
pub all_freed_fewer : (es : List (ℕ × ℕ)) (p : PoolState) → AreSole p → AllByRecursion (λ e. IsSome (packet_at p e.1)) es → AreApart es
    → length (all_freed p es).refs + length es ≤ length p.refs
all_freed_fewer [] p sole there apart = omega arith
all_freed_fewer (e ∷ es) p sole there apart =
    let here = reference_at p e.1 there.0 in
    let less = freed_fewer p e.1 here.0 here.1 here.2 sole in
    let rest = all_freed_fewer es (freed p e.1) (freed_sole p e.1 here.0 here.1 here.2 sole) (others_kept p e here sole es apart.0 there.1) apart.1 in
    omega (arith, less, rest)
