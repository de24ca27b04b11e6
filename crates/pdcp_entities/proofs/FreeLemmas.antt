-- Packets that are given up one after another.
use Rattle.std.proofs.Common.{◌≡◌, ◌≢◌, ◌==◌, ℕ, ◌+◌, ◌<◌, ◌≤◌, Bool, true, false, cond, not, List, [], ◌∷◌, ◌++◌, length, filter, Option, Some, None, refl, sym, ap, ◌∙◌, subst, eqb-true, arith, true≢false}
use Rattle.std.specs.Prelude.{IsSome, is_some}
use Rattle.std.specs.Ordering.{nat_cmp}
use Rattle.std.specs.List.{AllByRecursion}
use Rattle.std.proofs.lemmas.Bool.{eqb-false}
use Rattle.tables.specs.Tables.{find}
use Rattle.pdcp_defs.specs.pool_defs.Pools.{Stored, PoolState, is_parked, packet_of, packet_at, packet_by, with_packet, without_packet, with_place, without_place, AreApart, IsPool}
use Rattle.pdcp_defs.proofs.pool_defs.PoolLaws.{found_parked, packet_of_unpark, packet_of_unpark_other, packet_at_unpark, packet_at_unpark_other, packet_of_take, packet_of_take_other, packet_at_take}
use Rattle.pdcp_entities.specs.Packets.{AreParked, HasNone, OthersStay, Frees, freed, freed_by, all_freed}
use Rattle.pdcp_entities.specs.inside.Freeing.{freed_if, AreLeft}

-- one case or the other
pub same_or_other : {P : Type 0} (a b : ℕ) → (a ≡ b → P) → ((a ≡ b → ⊥) → P) → P
same_or_other {P} a b same other = by (a == b) refl
  where
    by : (t : Bool) → (a == b) ≡ t → P
    by true e = same (eqb-true a b e)
    by false e = other (eqb-false a b e)

module _ (limit : ℕ) (p : PoolState) (sound : IsPool limit p) (place : ℕ) (there : IsSome (packet_at p place)) where
  pub taken_reference : (r : ℕ) → find nat_cmp p.parked place ≡ Some r → IsSome (packet_of (without_place p place) r)
  taken_reference r is = subst (λ (x : Option Stored). IsSome x) (sym (packet_of_unpark p place limit sound r is)) there

  parked_reference : (r : ℕ) → find nat_cmp p.parked place ≡ Some r → packet_of p r ≡ None
  unfolding packet_of is_parked
  parked_reference r is = ap (λ (b : Bool). cond b None (find nat_cmp p.refs r)) (found_parked p.parked place r is)

  -- the reference at the place
  with_reference : (P : PoolState → Type 0) → ((r : ℕ) → find nat_cmp p.parked place ≡ Some r → IsSome (packet_of (without_place p place) r) → P (without_packet (without_place p place) r))
      → P (freed p place)
  unfolding freed packet_at
  with_reference P h = by (find nat_cmp p.parked place) refl there
    where
      by : (o : Option ℕ) → find nat_cmp p.parked place ≡ o → IsSome (packet_by p o) → P (freed_by p place o)
      by None is some = cc
      by (Some r) is some = h r is (taken_reference r is)

  pub freed_here : packet_at (freed p place) place ≡ None
  freed_here = with_reference (λ q. packet_at q place ≡ None) (λ r is some. packet_at_take (without_place p place) r place some ∙ packet_at_unpark p place)

  pub freed_other : (q : ℕ) → (q ≡ place → ⊥) → packet_at (freed p place) q ≡ packet_at p q
  freed_other q other =
      with_reference (λ s. packet_at s q ≡ packet_at p q)
      (λ r is some. packet_at_take (without_place p place) r q some ∙ packet_at_unpark_other p place q other)

  pub freed_reference : (n : ℕ) → packet_of (freed p place) n ≡ packet_of p n
  freed_reference n = with_reference (λ s. packet_of s n ≡ packet_of p n) (λ r is some. same_or_other n r (λ e. subst (λ (k : ℕ). packet_of (without_packet (without_place p place) r) k ≡ packet_of p k) (sym e) (packet_of_take (without_place p place) r ∙ sym (parked_reference r is))) (λ other. packet_of_take_other (without_place p place) r n other ∙ packet_of_unpark_other p place limit sound r n other is))

  pub freed_quotas : (freed p place).quotas ≡ p.quotas
  freed_quotas = with_reference (λ s. s.quotas ≡ p.quotas) (λ r is some. refl)

-- ---- lists of entries

module _ {X : Type 0} where
  pub all_append : (P : X → Type 0) (xs ys : List X) → AllByRecursion P xs → AllByRecursion P ys → AllByRecursion P (xs ++ ys)
  all_append P [] ys a b = b
  all_append P (x ∷ xs) ys a b = (a.0, all_append P xs ys a.1 b)

  pub all_left : (P : X → Type 0) (xs ys : List X) → AllByRecursion P (xs ++ ys) → AllByRecursion P xs
  all_left P [] ys a = tt
  all_left P (x ∷ xs) ys a = (a.0, all_left P xs ys a.1)

  pub all_right : (P : X → Type 0) (xs ys : List X) → AllByRecursion P (xs ++ ys) → AllByRecursion P ys
  all_right P [] ys a = a
  all_right P (x ∷ xs) ys a = all_right P xs ys a.1

  pub all_both : (P Q R : X → Type 0) → ((x : X) → P x → Q x → R x) → (xs : List X) → AllByRecursion P xs → AllByRecursion Q xs → AllByRecursion R xs
  all_both P Q R f [] a b = tt
  all_both P Q R f (x ∷ xs) a b = (f x a.0 b.0, all_both P Q R f xs a.1 b.1)

-- an entry is taken out of the middle
pub apart_without : (xs ys : List (ℕ × ℕ)) (e : ℕ × ℕ) → AreApart (xs ++ e ∷ ys) → AreApart (xs ++ ys)
apart_without [] ys e apart = apart.1
apart_without (a ∷ xs) ys e apart =
    let all = apart.0 in (
      all_append (λ x. x.1 ≡ a.1 → ⊥) xs ys (all_left (λ x. x.1 ≡ a.1 → ⊥) xs (e ∷ ys) all) (all_right (λ x. x.1 ≡ a.1 → ⊥) xs (e ∷ ys) all).1,
      apart_without xs ys e apart.1,
    )

pub none_without : (xs ys : List (ℕ × ℕ)) (e : ℕ × ℕ) → AreApart (xs ++ e ∷ ys) → HasNone (xs ++ ys) e.1
none_without [] ys e apart = apart.0
none_without (a ∷ xs) ys e apart =
    let other = (all_right (λ x. x.1 ≡ a.1 → ⊥) xs (e ∷ ys) apart.0).0 in
    ((λ same. other (sym same)), none_without xs ys e apart.1)

pub parked_without : (limit : ℕ) (p : PoolState) → IsPool limit p → (xs ys : List (ℕ × ℕ)) (e : ℕ × ℕ) → AreParked p (xs ++ e ∷ ys)
    → AreParked (freed p e.1) (xs ++ ys)
parked_without limit p sound xs ys e parked =
    let there = parked.there in
    let here = all_right (λ x. IsSome (packet_at p x.1)) xs (e ∷ ys) there in
    record {
      there =
          all_both (λ x. IsSome (packet_at p x.1)) (λ x. x.1 ≡ e.1 → ⊥) (λ x. IsSome (packet_at (freed p e.1) x.1))
          (λ x some other. subst (λ (s : Option Stored). IsSome s) (sym (freed_other limit p sound e.1 here.0 x.1 other)) some)
          (xs ++ ys)
          (all_append (λ x. IsSome (packet_at p x.1)) xs ys (all_left (λ x. IsSome (packet_at p x.1)) xs (e ∷ ys) there) here.1)
          (none_without xs ys e parked.apart);
      apart = apart_without xs ys e parked.apart;
    }

-- ---- what is left to be given up

pub begins : (all : List (ℕ × ℕ)) (p : PoolState) → AreLeft all all p p
begins all p =
    record {
      others = record { references = λ r other. refl; places = λ place none. refl; quotas = refl };
      rest = λ place none. none;
      gone = λ place none some. absurd (some none);
      freed = refl;
    }

pub goes_on : (limit : ℕ) (p : PoolState) → IsPool limit p → (all left : List (ℕ × ℕ)) (e : ℕ × ℕ) (first : PoolState) → IsSome (packet_at p e.1)
    → AreLeft all (e ∷ left) first p → AreLeft all left first (freed p e.1)
goes_on limit p sound all left e first there l =
    record {
      others = record {
        references = λ r other. freed_reference limit p sound e.1 there r ∙ l.others.references r other;
        places = λ place none.
            let none_left = l.rest place none in
            freed_other limit p sound e.1 there place (λ same. none_left.0 (sym same)) ∙ l.others.places place none;
        quotas = freed_quotas limit p sound e.1 there ∙ l.others.quotas;
      };
      rest = λ place none. (l.rest place none).1;
      gone = λ place none some.
          same_or_other place e.1 (λ same. ap (λ (q : ℕ). packet_at (freed p e.1) q) same ∙ freed_here limit p sound e.1 there)
          (λ other. freed_other limit p sound e.1 there place other ∙ l.gone place ((λ same. other (sym same)), none) some);
      freed = l.freed;
    }

mine : (es : List (ℕ × ℕ)) (P : ℕ → Type 0) → ((place : ℕ) → (HasNone es place → ⊥) → P place) → AllByRecursion (λ e. P e.1) es
mine [] P h = tt
mine (e ∷ es) P h = (h e.1 (λ none. none.0 refl), mine es P (λ place some. h place (λ none. some none.1)))

pub ends : (all : List (ℕ × ℕ)) (first p : PoolState) → AreLeft all [] first p → Frees all first p
ends all first p l =
    record {
      pool = l.freed;
      gone = mine all (λ place. packet_at p place ≡ None) (λ place some. l.gone place tt some);
      others = l.others;
    }
