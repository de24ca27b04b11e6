-- The list of free blocks along their first octets: what a write to another block and a change of its front leave of it.
use Rattle.std.proofs.Common.{◌≡◌, ◌≢◌, ◌==◌, ℕ, zero, suc, ◌+◌, ◌-◌, ◌<◌, ◌≤◌, Bool, true, false, cond, List, [], ◌∷◌, ◌++◌, length, Option, Some, refl, sym, ap, ◌∙◌, subst, eqb-true, get_or, set, length-set, arith, add-one, length-append}
use Rattle.std.specs.Prelude.{slice_get}
use Rattle.std.specs.List.{count_by, AllByRecursion}
use Rattle.std.proofs.lemmas.Bool.{eqb-false}
use Rattle.std.proofs.lemmas.Option.{slice_get-get_or}
use Rattle.std.proofs.lemmas.List.Sums.{sum_by-cons}
use Rattle.packet_pool.specs.declared.region.Block.{Block}
use Rattle.packet_pool.specs.inside.Regions.{link, octets_of, octets_at, chain, numbers_from, IsRegion}

module _ {X : Type 0} where
  pub get_set : (xs : List X) (i : ℕ) (v : X) → i < length xs → slice_get (set xs i v) i ≡ Some v
  get_set [] i v within = absurd (omega arith)
  get_set (x ∷ xs) zero v within = refl
  get_set (x ∷ xs) (suc i) v within = get_set xs i v (omega arith)

  pub get_set_other : (xs : List X) (i k : ℕ) (v : X) → k ≢ i → slice_get (set xs i v) k ≡ slice_get xs k
  get_set_other [] i k v other = refl
  get_set_other (x ∷ xs) zero zero v other = absurd (other refl)
  get_set_other (x ∷ xs) zero (suc k) v other = refl
  get_set_other (x ∷ xs) (suc i) zero v other = refl
  get_set_other (x ∷ xs) (suc i) (suc k) v other = get_set_other xs i k v (λ same. other (ap suc same))

pub octets_got : (blocks : List Block) (i : ℕ) (b : Block) → i < length blocks → b ≡ get_or blocks i b → octets_at blocks i ≡ b.octets
octets_got blocks i b within is = ap octets_of (slice_get-get_or blocks i b within ∙ ap Some (sym is))

pub octets_set : (blocks : List Block) (i : ℕ) (b : Block) → i < length blocks → octets_at (set blocks i b) i ≡ b.octets
octets_set blocks i b within = ap octets_of (get_set blocks i b within)

pub octets_set_other : (blocks : List Block) (i : ℕ) (b : Block) (k : ℕ) → k ≢ i → octets_at (set blocks i b) k ≡ octets_at blocks k
octets_set_other blocks i b k other = ap octets_of (get_set_other blocks i k b other)

-- ---- the list of free blocks

pub chain_length : (blocks : List Block) (first n : ℕ) → length (chain blocks first n) ≡ n
unfolding chain
chain_length blocks first zero = refl
chain_length blocks first (suc n) = ap suc (chain_length blocks (link (octets_at blocks first)) n)

pub chain_next : (blocks : List Block) (first n : ℕ) → 1 ≤ n → chain blocks first n ≡ first ∷ chain blocks (link (octets_at blocks first)) (n - 1)
unfolding chain
chain_next blocks first zero some = absurd (omega arith)
chain_next blocks first (suc n) some =
    let less : n ≡ suc n - 1 = omega arith in
    ap (λ (k : ℕ). first ∷ chain blocks (link (octets_at blocks first)) k) less

-- a block that the list doesn't name may change
pub chain_same : (blocks new : List Block) (b : ℕ) → ((k : ℕ) → k ≢ b → octets_at new k ≡ octets_at blocks k) → (first n : ℕ)
    → count_by (λ m. m == b) (chain blocks first n) ≡ 0 → chain new first n ≡ chain blocks first n
unfolding chain
chain_same blocks new b same first zero unnamed = refl
chain_same blocks new b same first (suc n) unnamed =
    by (first == b) refl (sym (sum_by-cons (λ m. cond (m == b) 1 0) first (chain blocks (link (octets_at blocks first)) n)) ∙ unnamed)
    (chain_same blocks new b same (link (octets_at blocks first)) n)
  where
    by : (c : Bool) → (first == b) ≡ c → cond c 1 0 + count_by (λ m. m == b) (chain blocks (link (octets_at blocks first)) n) ≡ 0
        → (count_by (λ m. m == b) (chain blocks (link (octets_at blocks first)) n) ≡ 0
        → chain new (link (octets_at blocks first)) n ≡ chain blocks (link (octets_at blocks first)) n)
        → first ∷ chain new (link (octets_at new first)) n ≡ first ∷ chain blocks (link (octets_at blocks first)) n
    by true is unnamed again = absurd (omega arith)
    by false is unnamed again =
        ap (λ (o : List ℕ). first ∷ chain new (link o) n) (same first (eqb-false first b is))
        ∙ ap (λ (rest : List ℕ). first ∷ rest) (again (omega arith))

all_within : (l k : ℕ) → l ≡ k → (ns : List ℕ) → AllByRecursion (λ n. n < l) ns → AllByRecursion (λ n. n < k) ns
all_within l k same ns all = subst (λ (m : ℕ). AllByRecursion (λ n. n < m) ns) same all

-- a front that stands in the list is a block
pub first_within : (blocks : List Block) (first n : ℕ) → IsRegion blocks first n → 1 ≤ n → first < length blocks
first_within blocks first n region some =
    (subst (AllByRecursion (λ m. m < length blocks)) (chain_next blocks first n some) region.within).0

-- the first block is taken off
pub region_taken : (blocks : List Block) (first n next : ℕ) → IsRegion blocks first n → 1 ≤ n → next ≡ link (octets_at blocks first)
    → IsRegion blocks next (n - 1)
region_taken blocks first n next region some is =
    record {
      within =
          subst (λ (k : ℕ). AllByRecursion (λ m. m < length blocks) (chain blocks k (n - 1))) (sym is)
          (subst (AllByRecursion (λ m. m < length blocks)) (chain_next blocks first n some) region.within).1;
      limit = region.limit;
    }

-- a block that isn't named is put in front
pub chain_given : (blocks : List Block) (first n b : ℕ) (new : Block) → b < length blocks
    → count_by (λ m. m == b) (chain blocks first n) ≡ 0 → link new.octets ≡ first
    → chain (set blocks b new) b (n + 1) ≡ b ∷ chain blocks first n
unfolding chain
chain_given blocks first n b new within unnamed linked =
    ap (chain (set blocks b new) b) (add-one n)
    ∙ ap (λ (k : ℕ). b ∷ chain (set blocks b new) k n) (ap link (octets_set blocks b new within) ∙ linked)
    ∙ ap (λ (rest : List ℕ). b ∷ rest) (chain_same blocks (set blocks b new) b (octets_set_other blocks b new) first n unnamed)

pub region_given : (blocks : List Block) (first n b : ℕ) (new : Block) → IsRegion blocks first n → b < length blocks
    → count_by (λ m. m == b) (chain blocks first n) ≡ 0 → link new.octets ≡ first
    → IsRegion (set blocks b new) b (n + 1)
region_given blocks first n b new region within unnamed linked =
    let size : length (set blocks b new) ≡ length blocks = length-set blocks b new in
    record {
      within =
          all_within (length blocks) (length (set blocks b new)) (sym size) (chain (set blocks b new) b (n + 1))
          (subst (AllByRecursion (λ m. m < length blocks)) (sym (chain_given blocks first n b new within unnamed linked)) (within, region.within));
      limit = omega (arith, size, region.limit);
    }

-- a block that isn't named is written
pub chain_written : (blocks : List Block) (first n b : ℕ) (new : Block)
    → count_by (λ m. m == b) (chain blocks first n) ≡ 0 → chain (set blocks b new) first n ≡ chain blocks first n
chain_written blocks first n b new unnamed = chain_same blocks (set blocks b new) b (octets_set_other blocks b new) first n unnamed

pub region_written : (blocks : List Block) (first n b : ℕ) (new : Block) → IsRegion blocks first n
    → count_by (λ m. m == b) (chain blocks first n) ≡ 0 → IsRegion (set blocks b new) first n
region_written blocks first n b new region unnamed =
    let size : length (set blocks b new) ≡ length blocks = length-set blocks b new in
    record {
      within =
          all_within (length blocks) (length (set blocks b new)) (sym size) (chain (set blocks b new) first n)
          (subst (AllByRecursion (λ m. m < length blocks)) (sym (chain_written blocks first n b new unnamed)) region.within);
      limit = omega (arith, size, region.limit);
    }

-- ---- a new region

abbrev pub AreLinked : List Block → Type 0
AreLinked blocks = (k : ℕ) → k < length blocks → link (octets_at blocks k) ≡ k + 1

get_push : {X : Type 0} (xs : List X) (x : X) → slice_get (xs ++ x ∷ []) (length xs) ≡ Some x
get_push [] x = refl
get_push (y ∷ xs) x = get_push xs x

get_push_below : {X : Type 0} (xs : List X) (x : X) (k : ℕ) → k < length xs → slice_get (xs ++ x ∷ []) k ≡ slice_get xs k
get_push_below [] x k below = absurd (omega arith)
get_push_below (y ∷ xs) x zero below = refl
get_push_below (y ∷ xs) x (suc k) below = get_push_below xs x k (omega arith)

pub linked_push : (blocks : List Block) (b : Block) → AreLinked blocks → link b.octets ≡ length blocks + 1 → AreLinked (blocks ++ b ∷ [])
linked_push blocks b all linked k within = by (k == length blocks) refl
  where
    by : (c : Bool) → (k == length blocks) ≡ c → link (octets_at (blocks ++ b ∷ []) k) ≡ k + 1
    by true is =
        let at_end : k ≡ length blocks = eqb-true k (length blocks) is in
        ap (λ (n : ℕ). link (octets_at (blocks ++ b ∷ []) n)) at_end
        ∙ ap (λ (o : Option Block). link (octets_of o)) (get_push blocks b) ∙ linked ∙ ap (λ (n : ℕ). n + 1) (sym at_end)
    by false is =
        let apart : k ≢ length blocks = eqb-false k (length blocks) is in
        let below : k < length blocks = omega (arith, length-append blocks (b ∷ []), within, apart) in
        ap (λ (o : Option Block). link (octets_of o)) (get_push_below blocks b k below) ∙ all k below

pub chain_new : (blocks : List Block) (first n : ℕ) → AreLinked blocks → first + n ≤ length blocks → chain blocks first n ≡ numbers_from first n
unfolding chain numbers_from
chain_new blocks first zero all fits = refl
chain_new blocks first (suc n) all fits =
    let next : link (octets_at blocks first) ≡ suc first = all first (omega arith) ∙ add-one first in
    ap (λ (k : ℕ). first ∷ chain blocks k n) next
    ∙ ap (λ (rest : List ℕ). first ∷ rest) (chain_new blocks (suc first) n all (omega arith))

pub numbers_within : (first n l : ℕ) → first + n ≤ l → AllByRecursion (λ m. m < l) (numbers_from first n)
unfolding numbers_from
numbers_within first zero l fits = tt
numbers_within first (suc n) l fits = (omega arith, numbers_within (suc first) n l (omega arith))

pub region_new : (blocks : List Block) (n : ℕ) → AreLinked blocks → length blocks ≡ n → n ≤ 65536 → IsRegion blocks 0 n
region_new blocks n all size limit =
    record {
      within =
          subst (AllByRecursion (λ m. m < length blocks)) (sym (chain_new blocks 0 n all (omega arith)))
          (numbers_within 0 n (length blocks) (omega arith));
      limit = omega arith;
    }

pub some_free : (blocks : List Block) (first n : ℕ) (free : List ℕ) → chain blocks first n ≡ free → 0 < length free → 1 ≤ n
some_free blocks first n free is some =
    let size : n ≡ length free = sym (chain_length blocks first n) ∙ ap length is in
    omega arith

pub linked_none : (blocks : List Block) → blocks ≡ [] → AreLinked blocks
linked_none blocks none k within =
    let size : length blocks ≡ 0 = ap length none in
    absurd (omega arith)
