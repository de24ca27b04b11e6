-- The packets of an entity in the pool, over what its calls do.
use Rattle.std.proofs.Common.{◌≡◌, ◌≢◌, ℕ, ◌+◌, Bool, true, false, cond, not, List, [], ◌∷◌, ◌++◌, filter, Option, Some, None, refl, sym, ap, ◌∙◌, subst}
use Rattle.std.specs.Prelude.{IsSome, is_some}
use Rattle.std.specs.Ordering.{nat_cmp, match_ordering, is_eq}
use Rattle.std.specs.Cmp.{tied_itself}
use Rattle.std.specs.declared.cmp.Ordering.{Ordering}
use Rattle.std.specs.declared.cmp.Ordering.TheVariants.{Less, Equal, Greater}
use Rattle.std.specs.List.{AllByRecursion}
use Rattle.std.specs.BTreeMap.{insert_entry}
use Rattle.gnb_types.proofs.OrderLemmas.{entity_total}
use Rattle.tables.specs.Tables.{find, put, map_values}
use Rattle.tables.proofs.TableLaws.{put-mapped}
use Rattle.pdcp_defs.specs.pool_defs.Pools.{Stored, PoolState, is_parked, used, packet_of, packet_at, packet_by, with_packet, without_packet, with_place, without_place, AreApart, IsPool}
use Rattle.pdcp_defs.proofs.pool_defs.PoolLaws.{used_put, packet_of_put, packet_of_put_other, packet_at_put, packet_at_take, packet_of_park, packet_of_park_other, packet_at_park, packet_at_park_other, packet_of_unpark, packet_of_unpark_other, packet_at_unpark, packet_at_unpark_other}
use Rattle.pdcp_entities.specs.Packets.{AreParked, HasNone, OthersStay, Parks, Puts, Unparks, Frees, bytes_of, octets_at, octets_in}
use Rattle.pdcp_entities.proofs.FreeLemmas.{same_or_other, all_append, all_both}
use Rattle.pdcp_entities.proofs.TurnLemmas.{passing}

-- ---- a reference is parked

free_place : (p : PoolState) (place : ℕ) → find nat_cmp p.parked place ≡ None → packet_at p place ≡ None
unfolding packet_at
free_place p place fresh = ap (packet_by p) fresh

pub parks : (p : PoolState) (r : ℕ) (e : ℕ × ℕ) → IsSome (packet_of p r) → find nat_cmp p.parked e.1 ≡ None → Parks r e p (with_place p e.1 r)
parks p r e given fresh =
    record {
      free = free_place p e.1 fresh;
      pool = refl;
      packet = by (packet_of p r) refl given;
      others = record {
        references = λ n other. packet_of_park_other p e.1 r n (λ same. other (ap (λ k. Some k) (sym same))) fresh;
        places = λ q none. packet_at_park_other p e.1 r q (λ same. none.0 (sym same));
        quotas = refl;
      };
    }
  where
    by : (o : Option Stored) → packet_of p r ≡ o → IsSome o → packet_at (with_place p e.1 r) e.1 ≡ packet_of p r
    by None is some = cc
    by (Some x) is some = packet_at_park p e.1 r x is ∙ sym is

-- ---- entries that stay

-- none of the entries has a place that is free
pub all_elsewhere : (p : PoolState) (place : ℕ) → packet_at p place ≡ None → (es : List (ℕ × ℕ)) → AllByRecursion (λ e. IsSome (packet_at p e.1)) es → HasNone es place
all_elsewhere p place free [] there = tt
all_elsewhere p place free (e ∷ es) there = ((λ same. away (packet_at p e.1) there.0 (ap (packet_at p) same ∙ free)), all_elsewhere p place free es there.1)
  where
    away : (o : Option Stored) → IsSome o → o ≡ None → ⊥
    away None some is = cc
    away (Some x) some is = cc

abbrev pub AllSame : PoolState → PoolState → List (ℕ × ℕ) → Type 0
AllSame p q es = AllByRecursion (λ e. packet_at q e.1 ≡ packet_at p e.1) es

-- all entries but one stay
pub others_same : (given : Option ℕ) (e : ℕ × ℕ) (p q : PoolState) → OthersStay given (e ∷ []) p q → (es : List (ℕ × ℕ)) → HasNone es e.1 → AllSame p q es
others_same given e p q o [] none = tt
others_same given e p q o (x ∷ es) none = (o.places x.1 ((λ same. none.0 (sym same)), tt), others_same given e p q o es none.1)

pub same_there : (p q : PoolState) (es : List (ℕ × ℕ)) → AllSame p q es → AllByRecursion (λ e. IsSome (packet_at p e.1)) es → AllByRecursion (λ e. IsSome (packet_at q e.1)) es
same_there p q es same there =
    all_both (λ e. packet_at q e.1 ≡ packet_at p e.1) (λ e. IsSome (packet_at p e.1)) (λ e. IsSome (packet_at q e.1))
    (λ e s some. subst (λ (o : Option Stored). IsSome o) (sym s) some) es same there

pub octets_same : (p q : PoolState) (es : List (ℕ × ℕ)) → AllSame p q es → octets_in q es ≡ octets_in p es
unfolding octets_in map_values
octets_same p q [] same = refl
octets_same p q (e ∷ es) same =
    ap (λ o. (e.0, bytes_of o) ∷ map_values (octets_at q) es) same.0 ∙ ap (λ m. (e.0, octets_at p e.1) ∷ m) (octets_same p q es same.1)

pub octets_append : (p : PoolState) (xs ys : List (ℕ × ℕ)) → octets_in p (xs ++ ys) ≡ octets_in p xs ++ octets_in p ys
unfolding octets_in map_values
octets_append p [] ys = refl
octets_append p (x ∷ xs) ys = ap (λ m. (x.0, octets_at p x.1) ∷ m) (octets_append p xs ys)

octets_one : (p : PoolState) (e : ℕ × ℕ) → octets_in p (e ∷ []) ≡ (e.0, octets_at p e.1) ∷ []
unfolding octets_in map_values
octets_one p e = refl

-- ---- an entry is added at the end

apart_added : (es : List (ℕ × ℕ)) (e : ℕ × ℕ) → AreApart es → HasNone es e.1 → AreApart (es ++ e ∷ [])
apart_added [] e apart none = (tt, tt)
apart_added (x ∷ es) e apart none =
    (all_append (λ y. y.1 ≡ x.1 → ⊥) es (e ∷ []) apart.0 ((λ same. none.0 (sym same)), tt), apart_added es e apart.1 none.1)

module _ (r : ℕ) (e : ℕ × ℕ) (p q : PoolState) (es : List (ℕ × ℕ)) (given : IsSome (packet_of p r)) (parks : Parks r e p q) (parked : AreParked p es) where
  none_there : HasNone es e.1
  none_there = all_elsewhere p e.1 parks.free es parked.there

  pub parks_same : AllSame p q es
  parks_same = others_same (Some r) e p q parks.others es none_there

  pub parks_parked : AreParked q (es ++ e ∷ [])
  parks_parked =
      record {
        there =
            all_append (λ x. IsSome (packet_at q x.1)) es (e ∷ []) (same_there p q es parks_same parked.there)
            (subst (λ (o : Option Stored). IsSome o) (sym parks.packet) given, tt);
        apart = apart_added es e parked.apart none_there;
      }

  pub parks_octets : octets_in q (es ++ e ∷ []) ≡ octets_in p es ++ (e.0, bytes_of (packet_of p r)) ∷ []
  parks_octets =
      octets_append q es (e ∷ [])
      ∙ (ap (λ m. m ++ octets_in q (e ∷ [])) (octets_same p q es parks_same)
      ∙ (ap (λ m. octets_in p es ++ m) (octets_one q e) ∙ ap (λ o. octets_in p es ++ (e.0, bytes_of o) ∷ []) parks.packet))

-- ---- some entries are given up

pub passing_octets : (t : ℕ → Bool) (p : PoolState) (es : List (ℕ × ℕ)) → filter (λ e. t e.0) (octets_in p es) ≡ octets_in p (passing t es)
unfolding octets_in map_values
passing_octets t p [] = refl
passing_octets t p (e ∷ es) = by (t e.0) (passing_octets t p es)
  where
    by : (b : Bool) → filter (λ e. t e.0) (map_values (octets_at p) es) ≡ map_values (octets_at p) (passing t es)
        → cond b ((e.0, octets_at p e.1) ∷ filter (λ e. t e.0) (map_values (octets_at p) es)) (filter (λ e. t e.0) (map_values (octets_at p) es))
        ≡ map_values (octets_at p) (cond b (e ∷ passing t es) (passing t es))
    by true again = ap (λ m. (e.0, octets_at p e.1) ∷ m) again
    by false again = again

all_passing : (t : ℕ → Bool) (P : ℕ × ℕ → Type 0) (es : List (ℕ × ℕ)) → AllByRecursion P es → AllByRecursion P (passing t es)
all_passing t P [] all = tt
all_passing t P (e ∷ es) all = by (t e.0) (all_passing t P es all.1)
  where
    by : (b : Bool) → AllByRecursion P (passing t es) → AllByRecursion P (cond b (e ∷ passing t es) (passing t es))
    by true again = (all.0, again)
    by false again = again

-- what is kept has no place of what is given up
module _ (named kept : ℕ → Bool) (opposite : (k : ℕ) → named k ≡ true → kept k ≡ true → ⊥) where
  kept_apart : (es : List (ℕ × ℕ)) → AreApart es → AllByRecursion (λ x. HasNone (passing named es) x.1) (passing kept es)
  kept_apart [] apart = tt
  kept_apart (e ∷ es) apart = by (named e.0) (kept e.0) refl refl (kept_apart es apart.1)
    where
      away : AllByRecursion (λ x. x.1 ≡ e.1 → ⊥) (passing named es)
      away = all_passing named (λ x. x.1 ≡ e.1 → ⊥) es apart.0

      by : (b d : Bool) → named e.0 ≡ b → kept e.0 ≡ d → AllByRecursion (λ x. HasNone (passing named es) x.1) (passing kept es)
          → AllByRecursion (λ x. HasNone (cond b (e ∷ passing named es) (passing named es)) x.1) (cond d (e ∷ passing kept es) (passing kept es))
      by true true n k again = absurd (opposite e.0 n k)
      by true false n k again =
          all_both (λ x. x.1 ≡ e.1 → ⊥) (λ x. HasNone (passing named es) x.1) (λ x. HasNone (e ∷ passing named es) x.1)
          (λ x other none. ((λ same. other (sym same)), none)) (passing kept es) (all_passing kept (λ x. x.1 ≡ e.1 → ⊥) es apart.0) again
      by false true n k again = (away, again)
      by false false n k again = again

  pub frees_same : (p q : PoolState) (es : List (ℕ × ℕ)) → AreApart es → Frees (passing named es) p q → AllSame p q (passing kept es)
  frees_same p q es apart frees =
      all_both (λ x. HasNone (passing named es) x.1) (λ x. HasNone (passing named es) x.1) (λ x. packet_at q x.1 ≡ packet_at p x.1)
      (λ x none again. frees.others.places x.1 none) (passing kept es) (kept_apart es apart) (kept_apart es apart)

  pub frees_octets : (p q : PoolState) (es : List (ℕ × ℕ)) → AreApart es → Frees (passing named es) p q
      → octets_in q (passing kept es) ≡ filter (λ e. kept e.0) (octets_in p es)
  frees_octets p q es apart frees = octets_same p q (passing kept es) (frees_same p q es apart frees) ∙ sym (passing_octets kept p es)

-- ---- an entry is put into its place

module _ (k s : ℕ) where
  all_insert : (Q : ℕ × ℕ → Type 0) (es : List (ℕ × ℕ)) → ((j : ℕ) (x : ℕ) → Q (j, x) → (i : ℕ) → Q (i, x)) → AllByRecursion Q es → Q (k, s)
      → AllByRecursion Q (put nat_cmp es k s)
  unfolding put
  all_insert Q [] moved all here = (here, tt)
  all_insert Q (e ∷ es) moved all here = by (nat_cmp k e.0) (all_insert Q es moved all.1 here)
    where
      by : (o : Ordering) → AllByRecursion Q (insert_entry nat_cmp es k s)
          → AllByRecursion Q (match_ordering o ((k, s) ∷ e ∷ es) ((e.0, s) ∷ es) (e ∷ insert_entry nat_cmp es k s))
      by Less rest = (here, all)
      by Equal rest = (moved k s here e.0, all.1)
      by Greater rest = (all.0, rest)

  apart_insert : (es : List (ℕ × ℕ)) → HasNone es s → AreApart es → AreApart (put nat_cmp es k s)
  unfolding put
  apart_insert [] none apart = (tt, tt)
  apart_insert (e ∷ es) none apart =
      by (nat_cmp k e.0) (apart_insert es none.1 apart.1)
      (all_insert (λ x. x.1 ≡ e.1 → ⊥) es (λ j x h i. h) apart.0 (λ same. none.0 (sym same)))
    where
      by : (o : Ordering) → AreApart (insert_entry nat_cmp es k s) → AllByRecursion (λ x. x.1 ≡ e.1 → ⊥) (insert_entry nat_cmp es k s)
          → AreApart (match_ordering o ((k, s) ∷ e ∷ es) ((e.0, s) ∷ es) (e ∷ insert_entry nat_cmp es k s))
      by Less rest all = (none, apart)
      by Equal rest all = (none.1, apart.1)
      by Greater rest all = (all, rest)

-- ---- a packet is put and parked

absent : (p : PoolState) (n : ℕ) → find nat_cmp p.refs n ≡ None → packet_of p n ≡ None
unfolding packet_of
absent p n none = by (is_parked p n)
  where
    by : (b : Bool) → cond b None (find nat_cmp p.refs n) ≡ None
    by true = refl
    by false = none

pub puts : (limit : ℕ) (p : PoolState) → IsPool limit p → (r : ℕ) (x : Stored) (e : ℕ × ℕ) → find nat_cmp p.refs r ≡ None → find nat_cmp p.parked e.1 ≡ None
    → Puts x e p (with_place (with_packet p r x) e.1 r)
puts limit p sound r x e unused fresh =
    record {
      reference = r;
      unused = unused;
      free = free_place p e.1 fresh;
      pool = refl;
      packet = packet_at_park (with_packet p r x) e.1 r x (packet_of_put limit p sound r x unused);
      others = record {
        references = λ n other.
            same_or_other n r
            (λ same.
            subst (λ (m : ℕ). packet_of (with_place (with_packet p r x) e.1 r) m ≡ packet_of p m) (sym same)
            (packet_of_park (with_packet p r x) e.1 r fresh ∙ sym (absent p r unused)))
            (λ away. packet_of_park_other (with_packet p r x) e.1 r n away fresh ∙ packet_of_put_other limit p sound r x n away);
        places = λ q none.
            packet_at_park_other (with_packet p r x) e.1 r q (λ same. none.0 (sym same)) ∙ packet_at_put limit p sound r x q unused;
        quotas = refl;
      };
    }

module _ (x : Stored) (e : ℕ × ℕ) (p q : PoolState) (es : List (ℕ × ℕ)) (puts : Puts x e p q) (parked : AreParked p es) where
  none_put : HasNone es e.1
  none_put = all_elsewhere p e.1 puts.free es parked.there

  pub puts_parked : AreParked q (put nat_cmp es e.0 e.1)
  puts_parked =
      record {
        there =
            all_insert e.0 e.1 (λ y. IsSome (packet_at q y.1)) es (λ j y h i. h)
            (same_there p q es (others_same None e p q puts.others es none_put) parked.there)
            (subst (λ (o : Option Stored). IsSome o) (sym puts.packet) refl);
        apart = apart_insert e.0 e.1 es none_put parked.apart;
      }

  pub puts_octets : octets_in q (put nat_cmp es e.0 e.1) ≡ put nat_cmp (octets_in p es) e.0 x.bytes
  unfolding octets_in
  puts_octets =
      sym (put-mapped nat_cmp (octets_at q) es e.0 e.1)
      ∙ (ap (λ o. put nat_cmp (map_values (octets_at q) es) e.0 (bytes_of o)) puts.packet
      ∙ ap (λ m. put nat_cmp m e.0 x.bytes) (octets_same p q es (others_same None e p q puts.others es none_put)))

pub puts_used : (limit : ℕ) (p : PoolState) → IsPool limit p → (r : ℕ) (x : Stored) (place : ℕ) → find nat_cmp p.refs r ≡ None
    → used (with_place (with_packet p r x) place r) x.key ≡ used p x.key + 1
unfolding used
puts_used limit p sound r x place unused =
    used_put limit p sound r x x.key unused ∙ ap (λ (b : Bool). used p x.key + cond b 1 0) (ap is_eq (tied_itself entity_total x.key))

-- ---- a reference is taken out

pub unparks : (limit : ℕ) (p : PoolState) → IsPool limit p → (r : ℕ) (e : ℕ × ℕ) → find nat_cmp p.parked e.1 ≡ Some r → Unparks r e p (without_place p e.1)
unparks limit p sound r e there =
    record {
      pool = refl;
      packet = packet_of_unpark p e.1 limit sound r there;
      gone = packet_at_unpark p e.1;
      others = record {
        references = λ n other. packet_of_unpark_other p e.1 limit sound r n (λ same. other (ap (λ k. Some k) (sym same))) there;
        places = λ q none. packet_at_unpark_other p e.1 q (λ same. none.0 (sym same));
        quotas = refl;
      };
    }

module _ (r : ℕ) (e : ℕ × ℕ) (p q : PoolState) (es : List (ℕ × ℕ)) (unparks : Unparks r e p q) (parked : AreParked p (e ∷ es)) where
  unparks_same : AllSame p q es
  unparks_same = others_same (Some r) e p q unparks.others es parked.apart.0

  pub unparks_parked : AreParked q es
  unparks_parked = record { there = same_there p q es unparks_same parked.there.1; apart = parked.apart.1 }

  pub unparks_octets : octets_in p (e ∷ es) ≡ (e.0, bytes_of (packet_of q r)) ∷ octets_in q es
  unfolding octets_in map_values
  unparks_octets = ap (λ o. (e.0, bytes_of o) ∷ octets_in p es) (sym unparks.packet) ∙ ap (λ m. (e.0, bytes_of (packet_of q r)) ∷ m) (sym (octets_same p q es unparks_same))

-- ---- what the pool's own calls leave of an entity's packets

-- another packet is put
pub parked_put : (limit : ℕ) (p : PoolState) → IsPool limit p → (r : ℕ) (x : Stored) → find nat_cmp p.refs r ≡ None
    → (es : List (ℕ × ℕ)) → AreParked p es → AreParked (with_packet p r x) es
parked_put limit p sound r x unused es parked =
    record { there = same_there p (with_packet p r x) es (all_at es) parked.there; apart = parked.apart }
  where
    all_at : (fs : List (ℕ × ℕ)) → AllSame p (with_packet p r x) fs
    all_at [] = tt
    all_at (e ∷ fs) = (packet_at_put limit p sound r x e.1 unused, all_at fs)

-- a reference is spent
pub parked_taken : (p : PoolState) (r : ℕ) → IsSome (packet_of p r) → (es : List (ℕ × ℕ)) → AreParked p es → AreParked (without_packet p r) es
parked_taken p r given es parked =
    record { there = same_there p (without_packet p r) es (all_at es) parked.there; apart = parked.apart }
  where
    all_at : (fs : List (ℕ × ℕ)) → AllSame p (without_packet p r) fs
    all_at [] = tt
    all_at (e ∷ fs) = (packet_at_take p r e.1 given, all_at fs)

-- a reference that is handed back, by a pool that stayed as it was
pub still_given : (p q : PoolState) (r s : ℕ) → q ≡ p → s ≡ r → IsSome (packet_of p r) → IsSome (packet_of q s)
still_given p q r s pool same given =
    subst (λ (t : PoolState). IsSome (packet_of t s)) (sym pool) (subst (λ (n : ℕ). IsSome (packet_of p n)) (sym same) given)
