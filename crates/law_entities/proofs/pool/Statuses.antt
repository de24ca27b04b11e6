-- What a key's own calls depend on: what its names stand for, how many references it was given, what it uses and what it may use.
use Rattle.std.proofs.Common.{◌≡◌, ◌≢◌, ◌==◌, ℕ, Bool, true, false, cond, ◌&&◌, Option, Some, None, refl, sym, ap, ◌∙◌, subst, true≢false, eqb-true}
use Rattle.std.specs.Prelude.{IsSome, is_some}
use Rattle.std.specs.Ordering.{nat_cmp, is_eq}
use Rattle.std.specs.Cmp.{tied_itself, Equal-is}
use Rattle.gnb_types.specs.declared.keys.EntityKey.{EntityKey}
use Rattle.gnb_types.specs.Orders.{entity_cmp}
use Rattle.gnb_types.proofs.OrderLemmas.{entity_total, entity_exact}
use Rattle.tables.specs.Tables.{find}
use Rattle.pdcp_defs.specs.pool_defs.Pools.{Stored, PoolState, is_parked, packet_of, packet_by, packet_at, with_packet, without_packet, with_place, without_place, IsPool}
use Rattle.pdcp_defs.proofs.pool_defs.PoolLaws.{same_number, found_parked, held_apart, new_other, packet_of_put_other, packet_at_put, packet_of_take_other, packet_at_take, packet_of_park_other, packet_at_park_other, packet_of_unpark_other, packet_at_unpark_other}
use Rattle.law_entities.specs.pool.Calls.{Fate, held, laid, spent, is_key}

-- what stands for a name
pub data Sight : Type 0 where
  nothing : Sight
  out : (packet : Option Stored) → Sight
  in_place : (packet : Option Stored) → Sight

abbrev pub sight : PoolState → Option Fate → Sight
sight p None = nothing
sight p (Some (held r)) = out (packet_of p r)
sight p (Some (laid place)) = in_place (packet_at p place)
sight p (Some spent) = nothing

abbrev pub IsOwned : EntityKey → Sight → Type 0
IsOwned key nothing = Unit {0}
IsOwned key (out packet) = (x : Stored) × ((packet ≡ Some x) × (x.key ≡ key))
IsOwned key (in_place packet) = (x : Stored) × ((packet ≡ Some x) × (x.key ≡ key))

-- each name stands for a packet of its key, and no two for one
pub record AreNames (p : PoolState) (fate : EntityKey → ℕ → Option Fate) : Type 0 where
  pub owned : (k : EntityKey) (m : ℕ) → IsOwned k (sight p (fate k m))
  pub once : (k : EntityKey) (m : ℕ) (k2 : EntityKey) (m2 : ℕ) (f : Fate) → fate k m ≡ Some f → fate k2 m2 ≡ Some f → f ≢ spent
      → (k ≡ k2) × (m ≡ m2)

pub same_key : (a b : EntityKey) → is_key a b ≡ true → a ≡ b
same_key a b tie = sym (entity_exact b a ((Equal-is (entity_cmp b a)).0 tie))

pub own_key : (a b : EntityKey) → a ≡ b → is_key a b ≡ true
own_key a b same = subst (λ (k : EntityKey). is_key a k ≡ true) same (ap is_eq (tied_itself entity_total a))

both_true : (a b : Bool) → (a && b) ≡ true → (a ≡ true) × (b ≡ true)
both_true true true h = (refl, refl)
both_true true false h = absurd cc
both_true false b h = absurd cc

held_spent : (r : ℕ) → held r ≢ spent
held_spent r h = absurd cc

laid_spent : (r : ℕ) → laid r ≢ spent
laid_spent r h = absurd cc

none_no : {X : Type 0} (x : Option X) (y : X) → x ≡ None → x ≡ Some y → ⊥
none_no x y none some = true≢false (ap is_some (sym some ∙ none))

module _ (p : PoolState) (fate : EntityKey → ℕ → Option Fate) (names : AreNames p fate) (key : EntityKey) (n : ℕ) where
  -- what stands under another name is another
  pub other_fate : (f : Fate) → fate key n ≡ Some f → f ≢ spent → (k : EntityKey) (m : ℕ) → (is_key key k && m == n) ≡ false → fate k m ≡ Some f → ⊥
  other_fate f here alive k m other there =
      let same = names.once k m key n f there here alive in
      true≢false (sym (ap (λ (b : Bool). b && m == n) (own_key key k (sym same.0)) ∙ ap (λ (j : ℕ). m == j) (sym same.1) ∙ same_number m) ∙ other)

  pub owned_held : (k : EntityKey) (m r : ℕ) → fate k m ≡ Some (held r) → (x : Stored) × ((packet_of p r ≡ Some x) × (x.key ≡ k))
  owned_held k m r is = subst (λ (o : Option Fate). IsOwned k (sight p o)) is (names.owned k m)

  pub owned_laid : (k : EntityKey) (m place : ℕ) → fate k m ≡ Some (laid place) → (x : Stored) × ((packet_at p place ≡ Some x) × (x.key ≡ k))
  owned_laid k m place is = subst (λ (o : Option Fate). IsOwned k (sight p o)) is (names.owned k m)

  -- the names after a change of one of them
  pub names_after : (q : PoolState) (f : Fate)
      → ((k : EntityKey) (m : ℕ) → (is_key key k && m == n) ≡ false → sight q (fate k m) ≡ sight p (fate k m))
      → IsOwned key (sight q (Some f))
      → ((k : EntityKey) (m : ℕ) → (is_key key k && m == n) ≡ false → f ≢ spent → fate k m ≡ Some f → ⊥)
      → AreNames q (λ k m. cond (is_key key k && m == n) (Some f) (fate k m))
  names_after q f kept here fresh =
      record {
        owned = λ k m. owned k m (is_key key k && m == n) refl;
        once = λ k m k2 m2 g a b alive. once k m k2 m2 g (is_key key k && m == n) (is_key key k2 && m2 == n) refl refl a b alive;
      }
    where
      owned : (k : EntityKey) (m : ℕ) (t : Bool) → (is_key key k && m == n) ≡ t → IsOwned k (sight q (cond t (Some f) (fate k m)))
      owned k m true is = subst (λ (j : EntityKey). IsOwned j (sight q (Some f))) (same_key key k (both_true (is_key key k) (m == n) is).0) here
      owned k m false is = subst (IsOwned k) (sym (kept k m is)) (names.owned k m)

      once : (k : EntityKey) (m : ℕ) (k2 : EntityKey) (m2 : ℕ) (g : Fate) (t u : Bool) → (is_key key k && m == n) ≡ t → (is_key key k2 && m2 == n) ≡ u
          → cond t (Some f) (fate k m) ≡ Some g → cond u (Some f) (fate k2 m2) ≡ Some g → g ≢ spent → (k ≡ k2) × (m ≡ m2)
      once k m k2 m2 g true true is is2 a b alive =
          let x = both_true (is_key key k) (m == n) is in
          let y = both_true (is_key key k2) (m2 == n) is2 in
          (sym (same_key key k x.0) ∙ same_key key k2 y.0, eqb-true m n x.1 ∙ sym (eqb-true m2 n y.1))
      once k m k2 m2 g true false is is2 a b alive =
          let same : f ≡ g = cc in
          absurd (fresh k2 m2 is2 (λ dead. alive (sym same ∙ dead)) (b ∙ ap Some (sym same)))
      once k m k2 m2 g false true is is2 a b alive =
          let same : f ≡ g = cc in
          absurd (fresh k m is (λ dead. alive (sym same ∙ dead)) (a ∙ ap Some (sym same)))
      once k m k2 m2 g false false is is2 a b alive = names.once k m k2 m2 g a b alive

-- ---- what each change of the pool leaves of the other names

module _ (limit : ℕ) (p : PoolState) (sound : IsPool limit p) (fate : EntityKey → ℕ → Option Fate) (names : AreNames p fate) where
  pub kept_put : (r : ℕ) (x : Stored) → find nat_cmp p.refs r ≡ None → (k : EntityKey) (m : ℕ)
      → sight (with_packet p r x) (fate k m) ≡ sight p (fate k m)
  kept_put r x fresh k m = by (fate k m) refl
    where
      by : (o : Option Fate) → fate k m ≡ o → sight (with_packet p r x) o ≡ sight p o
      by None is = refl
      by (Some (held r2)) is =
          let mine = owned_held p fate names k m k m r2 is in
          ap out (packet_of_put_other limit p sound r x r2 (new_other p r r2 fresh (subst IsSome (sym mine.1.0) refl)))
      by (Some (laid place)) is = ap in_place (packet_at_put limit p sound r x place fresh)
      by (Some spent) is = refl

  pub kept_take : (key : EntityKey) (n r : ℕ) → fate key n ≡ Some (held r) → (k : EntityKey) (m : ℕ) → (is_key key k && m == n) ≡ false
      → sight (without_packet p r) (fate k m) ≡ sight p (fate k m)
  kept_take key n r here k m other = by (fate k m) refl
    where
      by : (o : Option Fate) → fate k m ≡ o → sight (without_packet p r) o ≡ sight p o
      by None is = refl
      by (Some (held r2)) is =
          ap out (packet_of_take_other p r r2
          (λ same. other_fate p fate names key n (held r) here (held_spent r) k m other (is ∙ ap (λ (j : ℕ). Some (held j)) same)))
      by (Some (laid place)) is =
          let mine = owned_held p fate names key n key n r here in
          ap in_place (packet_at_take p r place (subst IsSome (sym mine.1.0) refl))
      by (Some spent) is = refl

  pub kept_park : (key : EntityKey) (n r place : ℕ) → fate key n ≡ Some (held r) → find nat_cmp p.parked place ≡ None
      → (k : EntityKey) (m : ℕ) → (is_key key k && m == n) ≡ false → sight (with_place p place r) (fate k m) ≡ sight p (fate k m)
  unfolding packet_at
  kept_park key n r place here fresh k m other = by (fate k m) refl
    where
      by : (o : Option Fate) → fate k m ≡ o → sight (with_place p place r) o ≡ sight p o
      by None is = refl
      by (Some (held r2)) is =
          ap out (packet_of_park_other p place r r2
          (λ same. other_fate p fate names key n (held r) here (held_spent r) k m other (is ∙ ap (λ (j : ℕ). Some (held j)) same)) fresh)
      by (Some (laid place2)) is =
          let mine = owned_laid p fate names k m k m place2 is in
          ap in_place (packet_at_park_other p place r place2
          (λ same. none_no (packet_at p place2) mine.0 (ap (λ (j : ℕ). packet_at p j) same ∙ ap (packet_by p) fresh) mine.1.0))
      by (Some spent) is = refl

  pub kept_unpark : (key : EntityKey) (n r place : ℕ) → fate key n ≡ Some (laid place) → find nat_cmp p.parked place ≡ Some r
      → (k : EntityKey) (m : ℕ) → (is_key key k && m == n) ≡ false → sight (without_place p place) (fate k m) ≡ sight p (fate k m)
  unfolding is_parked
  kept_unpark key n r place here there k m other = by (fate k m) refl
    where
      by : (o : Option Fate) → fate k m ≡ o → sight (without_place p place) o ≡ sight p o
      by None is = refl
      by (Some (held r2)) is =
          let mine = owned_held p fate names k m k m r2 is in
          ap out (packet_of_unpark_other p place limit sound r r2
          (λ same. true≢false (sym (found_parked p.parked place r2 (there ∙ ap Some (sym same))) ∙ held_apart p r2 (subst IsSome (sym mine.1.0) refl))) there)
      by (Some (laid place2)) is =
          ap in_place (packet_at_unpark_other p place place2
          (λ same. other_fate p fate names key n (laid place) here (laid_spent place) k m other (is ∙ ap (λ (j : ℕ). Some (laid j)) same)))
      by (Some spent) is = refl
