-- What each call of a pool leaves of its packets: those of references that are held, those at places, and how many there are of a key.
use Rattle.std.proofs.Common.{◌≡◌, ◌≢◌, ◌==◌, ℕ, ◌+◌, Bool, true, false, cond, not, ◌||◌, List, [], ◌∷◌, Option, Some, None, refl, sym, ap, ◌∙◌, subst, true≢false, eqb-true, add-zero}
use Rattle.std.specs.Prelude.{IsSome, is_some, unwrap_or}
use Rattle.std.specs.Ordering.{nat_cmp, eq_by_cmp, match_ordering, is_eq}
use Rattle.std.specs.declared.cmp.Ordering.{Ordering}
use Rattle.std.specs.declared.cmp.Ordering.TheVariants.{Less, Equal, Greater}
use Rattle.std.specs.List.{list_any, AllByRecursion, filter}
use Rattle.std.specs.Map.{keys_of, lookup}
use Rattle.std.specs.BTreeMap.{is_at, insert_entry}
use Rattle.std.proofs.lemmas.Bool.{eqb-false}
use Rattle.std.proofs.lemmas.Cmp.{nat_cmp_total, eq_by_cmp_equiv}
use Rattle.std.proofs.lemmas.Map.Lookups.{exact_unsigned}
use Rattle.std.proofs.lemmas.Map.Entries.{none_past_head}
use Rattle.std.proofs.lemmas.Map.Keys.{sorted_tail, IsDistinct-from_sorted}
use Rattle.std.proofs.lemmas.Map.{lookup-none}
use Rattle.gnb_types.specs.declared.keys.EntityKey.{EntityKey}
use Rattle.gnb_types.specs.Orders.{entity_cmp}
use Rattle.tables.specs.Tables.{find, put, without, IsKeyOrder, IsSorted}
use Rattle.tables.proofs.TableLaws.{find-put-same, find-put-other, find-without-same, find-without-other, other_key, sum-put, sum-without}
use Rattle.pdcp_defs.specs.pool_defs.Pools.{Stored, PoolState, is_of, used, is_parked, packet_of, packet_by, packet_at, with_packet, without_packet, with_place, without_place, AreApart, IsPool}

pub numbers_ordered : IsKeyOrder nat_cmp
numbers_ordered = record { total = nat_cmp_total; exact = exact_unsigned }

pub same_number : (n : ℕ) → (n == n) ≡ true
same_number n = by (n == n) refl
  where
    by : (b : Bool) → (n == n) ≡ b → b ≡ true
    by true same = refl
    by false other = absurd (eqb-false n n other refl)

or_right : (a b : Bool) → b ≡ true → (a || b) ≡ true
or_right true b h = refl
or_right false b h = h

none_is : {X : Type 0} {P : Type 0} (x : Option X) → x ≡ None → IsSome x → P
none_is None h some = absurd (true≢false (sym some))
none_is (Some x) h some = absurd (true≢false (ap is_some h))

-- ---- places and the references there

module _ {X : Type 0} (refs : List (ℕ × X)) (r : ℕ) where
  pub live_parked : (m : List (ℕ × ℕ)) → AllByRecursion (λ e. IsSome (find nat_cmp refs e.1)) m → list_any (λ e. e.1 == r) m ≡ true
      → IsSome (find nat_cmp refs r)
  live_parked [] live h = absurd (true≢false (sym h))
  live_parked (e ∷ es) live h = by (e.1 == r) refl h (live_parked es live.1)
    where
      by : (b : Bool) → (e.1 == r) ≡ b → (b || list_any (λ e. e.1 == r) es) ≡ true
          → (list_any (λ e. e.1 == r) es ≡ true → IsSome (find nat_cmp refs r)) → IsSome (find nat_cmp refs r)
      by true same h again = subst (λ (n : ℕ). IsSome (find nat_cmp refs n)) (eqb-true e.1 r same) live.0
      by false other h again = again h

  pub fresh_unparked : (m : List (ℕ × ℕ)) → AllByRecursion (λ e. IsSome (find nat_cmp refs e.1)) m → find nat_cmp refs r ≡ None
      → list_any (λ e. e.1 == r) m ≡ false
  fresh_unparked m live fresh = by (list_any (λ e. e.1 == r) m) refl
    where
      by : (b : Bool) → list_any (λ e. e.1 == r) m ≡ b → b ≡ false
      by true there = none_is (find nat_cmp refs r) fresh (live_parked m live there)
      by false not_there = refl

pub found_parked : (m : List (ℕ × ℕ)) (q r : ℕ) → find nat_cmp m q ≡ Some r → list_any (λ e. e.1 == r) m ≡ true
unfolding find
found_parked [] q r found = cc
found_parked (e ∷ es) q r found = by (is_at (nat_cmp q) e.0) found (found_parked es q r)
  where
    by : (b : Bool) → cond b (Some e.1) (lookup (is_at (nat_cmp q)) es) ≡ Some r
        → (lookup (is_at (nat_cmp q)) es ≡ Some r → list_any (λ e. e.1 == r) es ≡ true)
        → (e.1 == r || list_any (λ e. e.1 == r) es) ≡ true
    by true found again =
        let here : e.1 ≡ r = cc in
        ap (λ (n : ℕ). n == r || list_any (λ e. e.1 == r) es) here
        ∙ ap (λ (b : Bool). b || list_any (λ e. e.1 == r) es) (same_number r)
    by false later again = or_right (e.1 == r) (list_any (λ e. e.1 == r) es) (again later)

-- a new place has a reference more
any_put : (f : ℕ → Bool) (m : List (ℕ × ℕ)) (k v : ℕ) → find nat_cmp m k ≡ None
    → list_any (λ e. f e.1) (put nat_cmp m k v) ≡ (f v || list_any (λ e. f e.1) m)
unfolding find put
any_put f [] k v none = refl
any_put f (e ∷ es) k v none = by (nat_cmp k e.0) none (any_put f es k v)
  where
    swapped : (a b c : Bool) → (a || (b || c)) ≡ (b || (a || c))
    swapped true true c = refl
    swapped true false c = refl
    swapped false b c = refl

    by : (o : Ordering) → cond (is_eq o) (Some e.1) (lookup (is_at (nat_cmp k)) es) ≡ None
        → (lookup (is_at (nat_cmp k)) es ≡ None → list_any (λ e. f e.1) (insert_entry nat_cmp es k v) ≡ (f v || list_any (λ e. f e.1) es))
        → list_any (λ e. f e.1) (match_ordering o ((k, v) ∷ e ∷ es) ((e.0, v) ∷ es) (e ∷ insert_entry nat_cmp es k v))
        ≡ (f v || (f e.1 || list_any (λ e. f e.1) es))
    by Less none again = refl
    by Equal none again = cc
    by Greater none again =
        ap (λ (b : Bool). f e.1 || b) (again none) ∙ swapped (f e.1) (f v) (list_any (λ e. f e.1) es)

absent_kept : {X : Type 0} (m : List (ℕ × X)) (k : ℕ) → find nat_cmp m k ≡ None → without nat_cmp m k ≡ m
unfolding find without
absent_kept [] k none = refl
absent_kept {X} (e ∷ es) k none = by (is_at (nat_cmp k) e.0) none (absent_kept es k)
  where
    by : (b : Bool) → cond b (Some e.1) (lookup (is_at (nat_cmp k)) es) ≡ None
        → (lookup (is_at (nat_cmp k)) es ≡ None → filter (λ x. not (is_at (nat_cmp k) x.0)) es ≡ es)
        → cond (not b) (e ∷ filter (λ x. not (is_at (nat_cmp k) x.0)) es) (filter (λ x. not (is_at (nat_cmp k) x.0)) es) ≡ e ∷ es
    by true none again = cc
    by false none again = ap (λ (m : List (ℕ × X)). e ∷ m) (again none)

none_among : (m : List (ℕ × ℕ)) (r : ℕ) → AllByRecursion (λ x. x.1 ≡ r → ⊥) m → list_any (λ e. e.1 == r) m ≡ false
none_among [] r apart = refl
none_among (e ∷ es) r apart = by (e.1 == r) refl (none_among es r apart.1)
  where
    by : (b : Bool) → (e.1 == r) ≡ b → list_any (λ e. e.1 == r) es ≡ false → (b || list_any (λ e. e.1 == r) es) ≡ false
    by true same again = absurd (apart.0 (eqb-true e.1 r same))
    by false other again = again

-- a reference that was found is not that of an entry that is apart from all of these
found_apart : (m : List (ℕ × ℕ)) (q r n : ℕ) → AllByRecursion (λ x. x.1 ≡ n → ⊥) m → find nat_cmp m q ≡ Some r → n ≡ r → ⊥
found_apart m q r n apart found same =
    true≢false (sym (found_parked m q r found) ∙ none_among m r (subst (λ (k : ℕ). AllByRecursion (λ x. x.1 ≡ k → ⊥) m) same apart))

head_alone : (e : ℕ × ℕ) (es : List (ℕ × ℕ)) (q : ℕ) → IsSorted nat_cmp (e ∷ es) → is_at (nat_cmp q) e.0 ≡ true → find nat_cmp es q ≡ None
unfolding find
head_alone e es q sorted here =
    lookup-none (is_at (nat_cmp q)) es
    (none_past_head (eq_by_cmp_equiv nat_cmp_total) q e es (IsDistinct-from_sorted nat_cmp (keys_of (e ∷ es)) sorted) here)

-- the reference of a place is at no other place
module _ (q r n : ℕ) where
  taken_out : (m : List (ℕ × ℕ)) → IsSorted nat_cmp m → AreApart m → find nat_cmp m q ≡ Some r
      → list_any (λ e. e.1 == n) (without nat_cmp m q) ≡ cond (n == r) false (list_any (λ e. e.1 == n) m)
  unfolding find without
  taken_out [] sorted apart found = cc
  taken_out (e ∷ es) sorted apart found =
      by (is_at (nat_cmp q) e.0) (n == r) (e.1 == n) refl refl refl found
      (λ here. absent_kept es q (head_alone e es q sorted here))
      (taken_out es (sorted_tail nat_cmp e.0 (keys_of es) sorted) apart.1)
    where
      by : (b c d : Bool) → is_at (nat_cmp q) e.0 ≡ b → (n == r) ≡ c → (e.1 == n) ≡ d
          → cond b (Some e.1) (lookup (is_at (nat_cmp q)) es) ≡ Some r
          → (is_at (nat_cmp q) e.0 ≡ true → filter (λ x. not (is_at (nat_cmp q) x.0)) es ≡ es)
          → (lookup (is_at (nat_cmp q)) es ≡ Some r
          → list_any (λ e. e.1 == n) (filter (λ x. not (is_at (nat_cmp q) x.0)) es) ≡ cond c false (list_any (λ e. e.1 == n) es))
          → list_any (λ e. e.1 == n) (cond (not b) (e ∷ filter (λ x. not (is_at (nat_cmp q) x.0)) es) (filter (λ x. not (is_at (nat_cmp q) x.0)) es))
          ≡ cond c false (d || list_any (λ e. e.1 == n) es)
      by true true d at_q same at_n found kept again =
          let here : e.1 ≡ n = (ap (λ (x : Option ℕ). unwrap_or x r) found) ∙ sym (eqb-true n r same) in
          ap (list_any (λ (e : ℕ × ℕ). e.1 == n)) (kept at_q)
          ∙ none_among es n (subst (λ (k : ℕ). AllByRecursion (λ x. x.1 ≡ k → ⊥) es) here apart.0)
      by true false true at_q other at_n found kept again =
          absurd (eqb-false n r other (sym (eqb-true e.1 n at_n) ∙ ap (λ (x : Option ℕ). unwrap_or x r) found))
      by true false false at_q other at_n found kept again = ap (list_any (λ (e : ℕ × ℕ). e.1 == n)) (kept at_q)
      by false true true at_q same at_n found kept again =
          absurd (found_apart es q r e.1 apart.0 found (eqb-true e.1 n at_n ∙ eqb-true n r same))
      by false true false at_q same at_n found kept again =
          ap (λ (b : Bool). b || list_any (λ e. e.1 == n) (filter (λ x. not (is_at (nat_cmp q) x.0)) es)) at_n ∙ again found
      by false false d at_q other at_n found kept again =
          ap (λ (b : Bool). b || list_any (λ e. e.1 == n) (filter (λ x. not (is_at (nat_cmp q) x.0)) es)) at_n
          ∙ ap (λ (b : Bool). d || b) (again found)

-- ---- a packet is put

module _ (limit : ℕ) (p : PoolState) (sound : IsPool limit p) (r : ℕ) (x : Stored) where
  pub packet_of_put : find nat_cmp p.refs r ≡ None → packet_of (with_packet p r x) r ≡ Some x
  unfolding packet_of is_parked
  packet_of_put fresh =
      ap (λ (b : Bool). cond b None (find nat_cmp (put nat_cmp p.refs r x) r)) (fresh_unparked p.refs r p.parked sound.live fresh)
      ∙ find-put-same nat_cmp_total p.refs r x

  pub packet_of_put_other : (n : ℕ) → n ≢ r → packet_of (with_packet p r x) n ≡ packet_of p n
  unfolding packet_of is_parked
  packet_of_put_other n other =
      ap (cond (is_parked p n) None) (find-put-other nat_cmp_total p.refs r x n (other_key numbers_ordered n r other))

  pub packet_at_put : (place : ℕ) → find nat_cmp p.refs r ≡ None → packet_at (with_packet p r x) place ≡ packet_at p place
  unfolding packet_at
  packet_at_put place fresh = by (find nat_cmp p.parked place) refl
    where
      by : (o : Option ℕ) → find nat_cmp p.parked place ≡ o → packet_by (with_packet p r x) o ≡ packet_by p o
      by None is = refl
      by (Some n) is =
          find-put-other nat_cmp_total p.refs r x n
          (other_key numbers_ordered n r
          (λ same. none_is (find nat_cmp p.refs r) fresh
          (live_parked p.refs r p.parked sound.live (found_parked p.parked place r (is ∙ ap Some same)))))

  pub used_put : (key : EntityKey) → find nat_cmp p.refs r ≡ None
      → used (with_packet p r x) key ≡ used p key + cond (eq_by_cmp entity_cmp x.key key) 1 0
  unfolding used
  used_put key fresh =
      let total = sum-put nat_cmp_total (λ y. cond (is_of key y) 1 0) p.refs r x sound.refs_sorted in
      sym (add-zero _) ∙ (rw fresh at total)

-- ---- a reference is spent

module _ (p : PoolState) (r : ℕ) where
  -- what is held is at no place, and is of the pool
  pub held_apart : IsSome (packet_of p r) → is_parked p r ≡ false
  unfolding packet_of
  held_apart held = by (is_parked p r) refl held
    where
      by : (b : Bool) → is_parked p r ≡ b → IsSome (cond b None (find nat_cmp p.refs r)) → b ≡ false
      by true is held = none_is {X = Stored} None refl held
      by false is held = refl

  pub held_packet : (x : Stored) → packet_of p r ≡ Some x → find nat_cmp p.refs r ≡ Some x
  unfolding packet_of
  held_packet x held = by (is_parked p r) held
    where
      by : (b : Bool) → cond b None (find nat_cmp p.refs r) ≡ Some x → find nat_cmp p.refs r ≡ Some x
      by true held = cc
      by false held = held

  pub packet_of_take : packet_of (without_packet p r) r ≡ None
  unfolding packet_of is_parked
  packet_of_take = by (is_parked p r)
    where
      by : (b : Bool) → cond b None (find nat_cmp (without nat_cmp p.refs r) r) ≡ None
      by true = refl
      by false = find-without-same nat_cmp_total p.refs r

  pub packet_of_take_other : (n : ℕ) → n ≢ r → packet_of (without_packet p r) n ≡ packet_of p n
  unfolding packet_of is_parked
  packet_of_take_other n other =
      ap (cond (is_parked p n) None) (find-without-other nat_cmp_total p.refs r n (other_key numbers_ordered n r other))

  pub packet_at_take : (place : ℕ) → IsSome (packet_of p r) → packet_at (without_packet p r) place ≡ packet_at p place
  unfolding packet_at is_parked
  packet_at_take place held = by (find nat_cmp p.parked place) refl
    where
      by : (o : Option ℕ) → find nat_cmp p.parked place ≡ o → packet_by (without_packet p r) o ≡ packet_by p o
      by None is = refl
      by (Some n) is =
          find-without-other nat_cmp_total p.refs r n
          (other_key numbers_ordered n r
          (λ same. true≢false (sym (found_parked p.parked place r (is ∙ ap Some same)) ∙ held_apart held)))

  pub used_take : (limit : ℕ) → IsPool limit p → (x : Stored) (key : EntityKey) → packet_of p r ≡ Some x
      → used (without_packet p r) key + cond (eq_by_cmp entity_cmp x.key key) 1 0 ≡ used p key
  unfolding used
  used_take limit sound x key held =
      let total = sum-without nat_cmp_total (λ y. cond (is_of key y) 1 0) p.refs r sound.refs_sorted in
      rw (held_packet x held) at total

-- ---- a reference is laid at a place

module _ (p : PoolState) (place r : ℕ) where
  pub packet_of_park : find nat_cmp p.parked place ≡ None → packet_of (with_place p place r) r ≡ None
  unfolding packet_of is_parked
  packet_of_park fresh =
      ap (λ (b : Bool). cond b None (find nat_cmp p.refs r))
      (any_put (λ n. n == r) p.parked place r fresh ∙ ap (λ (b : Bool). b || list_any (λ e. e.1 == r) p.parked) (same_number r))

  pub packet_of_park_other : (n : ℕ) → n ≢ r → find nat_cmp p.parked place ≡ None → packet_of (with_place p place r) n ≡ packet_of p n
  unfolding packet_of is_parked
  packet_of_park_other n other fresh =
      ap (λ (b : Bool). cond b None (find nat_cmp p.refs n))
      (any_put (λ m. m == n) p.parked place r fresh ∙ by (r == n) refl)
    where
      by : (b : Bool) → (r == n) ≡ b → (b || list_any (λ e. e.1 == n) p.parked) ≡ list_any (λ e. e.1 == n) p.parked
      by true same = absurd (other (sym (eqb-true r n same)))
      by false apart = refl

  pub packet_at_park : (x : Stored) → packet_of p r ≡ Some x → packet_at (with_place p place r) place ≡ Some x
  unfolding packet_at
  packet_at_park x held = ap (packet_by p) (find-put-same nat_cmp_total p.parked place r) ∙ held_packet p r x held

  pub packet_at_park_other : (q : ℕ) → q ≢ place → packet_at (with_place p place r) q ≡ packet_at p q
  unfolding packet_at
  packet_at_park_other q other =
      ap (packet_by p) (find-put-other nat_cmp_total p.parked place r q (other_key numbers_ordered q place other))

-- ---- the reference at a place is given back

module _ (p : PoolState) (place : ℕ) where
  pub packet_of_unpark : (limit : ℕ) → IsPool limit p → (r : ℕ) → find nat_cmp p.parked place ≡ Some r
      → packet_of (without_place p place) r ≡ packet_at p place
  unfolding packet_of packet_at is_parked
  packet_of_unpark limit sound r there =
      ap (λ (b : Bool). cond b None (find nat_cmp p.refs r))
      (taken_out place r r p.parked sound.places_sorted sound.apart there
      ∙ ap (λ (b : Bool). cond b false (list_any (λ e. e.1 == r) p.parked)) (same_number r))
      ∙ sym (ap (packet_by p) there)

  pub packet_of_unpark_other : (limit : ℕ) → IsPool limit p → (r n : ℕ) → n ≢ r → find nat_cmp p.parked place ≡ Some r
      → packet_of (without_place p place) n ≡ packet_of p n
  unfolding packet_of is_parked
  packet_of_unpark_other limit sound r n other there =
      ap (λ (b : Bool). cond b None (find nat_cmp p.refs n))
      (taken_out place r n p.parked sound.places_sorted sound.apart there ∙ by (n == r) refl)
    where
      by : (b : Bool) → (n == r) ≡ b → cond b false (list_any (λ e. e.1 == n) p.parked) ≡ list_any (λ e. e.1 == n) p.parked
      by true same = absurd (other (eqb-true n r same))
      by false apart = refl

  pub packet_at_unpark : packet_at (without_place p place) place ≡ None
  unfolding packet_at
  packet_at_unpark = ap (packet_by p) (find-without-same nat_cmp_total p.parked place)

  pub packet_at_unpark_other : (q : ℕ) → q ≢ place → packet_at (without_place p place) q ≡ packet_at p q
  unfolding packet_at
  packet_at_unpark_other q other =
      ap (packet_by p) (find-without-other nat_cmp_total p.parked place q (other_key numbers_ordered q place other))

-- ---- what may be done next, from what a call says of the pool before and after it

pub put_held : (limit : ℕ) (p q : PoolState) (r : ℕ) (x : Stored) → IsPool limit p → find nat_cmp p.refs r ≡ None → q ≡ with_packet p r x
    → IsSome (packet_of q r)
put_held limit p q r x sound fresh is =
    subst (λ (s : PoolState). IsSome (packet_of s r)) (sym is) (subst IsSome (sym (packet_of_put limit p sound r x fresh)) refl)

-- a reference that is held isn't the new one
pub new_other : (p : PoolState) (r n : ℕ) → find nat_cmp p.refs r ≡ None → IsSome (packet_of p n) → n ≢ r
new_other p r n fresh held same =
    some_packet (packet_of p n) refl
  where
    some_packet : (o : Option Stored) → packet_of p n ≡ o → ⊥
    some_packet None is = none_is (packet_of p n) is held
    some_packet (Some x) is = absurd (true≢false (ap is_some (sym (held_packet p n x is) ∙ ap (find nat_cmp p.refs) same ∙ fresh)))

pub put_keeps : (limit : ℕ) (p q : PoolState) (r n : ℕ) (x : Stored) → IsPool limit p → find nat_cmp p.refs r ≡ None
    → q ≡ with_packet p r x → IsSome (packet_of p n) → packet_of q n ≡ packet_of p n
put_keeps limit p q r n x sound fresh is held =
    ap (λ (s : PoolState). packet_of s n) is ∙ packet_of_put_other limit p sound r x n (new_other p r n fresh held)

pub take_keeps : (p q : PoolState) (r n : ℕ) → q ≡ without_packet p r → n ≢ r → packet_of q n ≡ packet_of p n
take_keeps p q r n is other = ap (λ (s : PoolState). packet_of s n) is ∙ packet_of_take_other p r n other

pub park_parked : (p q : PoolState) (place r : ℕ) → IsSome (packet_of p r) → q ≡ with_place p place r → IsSome (packet_at q place)
park_parked p q place r held is = by (packet_of p r) refl held
  where
    by : (o : Option Stored) → packet_of p r ≡ o → IsSome o → IsSome (packet_at q place)
    by None has some = none_is {X = Stored} None refl some
    by (Some x) has some =
        subst (λ (s : PoolState). IsSome (packet_at s place)) (sym is) (subst IsSome (sym (packet_at_park p place r x has)) refl)

pub unpark_held : (limit : ℕ) (p q : PoolState) (place r : ℕ) → IsPool limit p → IsSome (packet_at p place)
    → find nat_cmp p.parked place ≡ Some r → q ≡ without_place p place → IsSome (packet_of q r)
unpark_held limit p q place r sound parked there is =
    subst (λ (s : PoolState). IsSome (packet_of s r)) (sym is) (subst IsSome (sym (packet_of_unpark p place limit sound r there)) parked)
