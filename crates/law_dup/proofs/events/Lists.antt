-- Lists of COUNTs with their packets.
use Rattle.std.proofs.Common.{◌≡◌, ℕ, zero, suc, ◌+◌, ◌<◌, ◌≤◌, Bool, true, false, cond, nat_lt, max, List, [], ◌∷◌, ◌++◌, length, drop, Some, refl, sym, ap, ◌∙◌, subst, arith}
use Rattle.std.specs.Prelude.{slice_get}
use Rattle.std.specs.List.{filter, AllByRecursion}
use Rattle.std.specs.Ordering.{nat_cmp, match_ordering, MatchOrdering}
use Rattle.std.specs.Cmp.{ranks}
use Rattle.std.specs.declared.cmp.Ordering.{Ordering}
use Rattle.std.specs.declared.cmp.Ordering.TheVariants.{Less, Equal, Greater}
use Rattle.std.specs.BTreeMap.{insert_entry}
use Rattle.std.proofs.lemmas.Bool.Decides.{nat_tests}
use Rattle.tables.specs.Tables.{put}
use Rattle.law_dup.specs.events.Counted.{AreOf, AreCounted}
use Rattle.law_dup.specs.events.Kept.{IsCarried, AreAbove}

-- ---- packets at their places

get_front : {X : Type 0} (xs ys : List X) (i : ℕ) (x : X) → slice_get xs i ≡ Some x → slice_get (xs ++ ys) i ≡ Some x
get_front [] ys i x e = cc
get_front (z ∷ xs) ys zero x e = e
get_front (z ∷ xs) ys (suc i) x e = get_front xs ys i x e

pub of_more : (packets more : List (List ℕ)) (es : List (ℕ × List ℕ)) → AreOf packets es → AreOf (packets ++ more) es
of_more packets more [] all = tt
of_more packets more (e ∷ es) all = (get_front packets more e.0 e.1 all.0, of_more packets more es all.1)

pub of_added : (packets : List (List ℕ)) (es fs : List (ℕ × List ℕ)) → AreOf packets es → AreOf packets fs → AreOf packets (es ++ fs)
of_added packets [] fs all more = more
of_added packets (e ∷ es) fs all more = (all.0, of_added packets es fs all.1 more)

-- the packet at the front of what is left after some
pub get_dropped : {X : Type 0} (xs : List X) (i : ℕ) (x : X) (ys : List X) → drop i xs ≡ x ∷ ys → slice_get xs i ≡ Some x
get_dropped [] zero x ys e = cc
get_dropped [] (suc i) x ys e = cc
get_dropped (z ∷ xs) zero x ys e = let same : z ≡ x = cc in ap (λ y. Some y) same
get_dropped (z ∷ xs) (suc i) x ys e = get_dropped xs i x ys e

pub drop_one : {X : Type 0} (xs : List X) (i : ℕ) (x : X) (ys : List X) → drop i xs ≡ x ∷ ys → drop (suc i) xs ≡ ys
drop_one [] zero x ys e = cc
drop_one [] (suc i) x ys e = cc
drop_one (z ∷ xs) zero x ys e = let same : xs ≡ ys = cc in same
drop_one (z ∷ xs) (suc i) x ys e = drop_one xs i x ys e

pub drop_short : {X : Type 0} (xs : List X) (i : ℕ) (x : X) (ys : List X) → drop i xs ≡ x ∷ ys → i + 1 ≤ length xs
drop_short [] zero x ys e = cc
drop_short [] (suc i) x ys e = cc
drop_short (z ∷ xs) zero x ys e = omega arith
drop_short (z ∷ xs) (suc i) x ys e = let l = drop_short xs i x ys e in omega (arith, l)

-- ---- COUNTs one after another

pub counted_added : (a b c : ℕ) (es fs : List (ℕ × List ℕ)) → AreCounted a b es → AreCounted b c fs → AreCounted a c (es ++ fs)
counted_added a b c [] fs is more = subst (λ (n : ℕ). AreCounted n c fs) (sym is) more
counted_added a b c (e ∷ es) fs is more = (is.0, counted_added (a + 1) b c es fs is.1 more)

pub counted_up : (a b : ℕ) (es : List (ℕ × List ℕ)) → AreCounted a b es → a ≤ b
counted_up a b [] is = let same : a ≡ b = is in omega (arith, same)
counted_up a b (e ∷ es) is = let l = counted_up (a + 1) b es is.1 in omega (arith, l)

pub counted_one : (a b : ℕ) (e : ℕ × List ℕ) (es : List (ℕ × List ℕ)) → AreCounted a b (e ∷ es) → a < b
counted_one a b e es is = let l = counted_up (a + 1) b es is.1 in omega (arith, l)

pub counted_none : (a b : ℕ) → AreCounted a b [] → a ≡ b
counted_none a b is = is

-- ---- of items one after another, those above a COUNT

not_under : (a b : ℕ) → b ≤ a → nat_lt a b ≡ false
not_under a b l = grind (arith, nat_tests)

is_under : (a b : ℕ) → a < b → nat_lt a b ≡ true
is_under a b l = grind (arith, nat_tests)

abbrev pub above : ℕ → List (ℕ × List ℕ) → List (ℕ × List ℕ)
above count es = filter (λ e. nat_lt count e.0) es

pub above_all : (count a b : ℕ) (es : List (ℕ × List ℕ)) → AreCounted a b es → count < a → above count es ≡ es
above_all count a b [] is l = refl
above_all count a b (e ∷ es) is l =
    let here : e.0 ≡ a = is.0 in
    let test : nat_lt count e.0 ≡ true = is_under count e.0 (omega (arith, here, l)) in
    ap (λ (t : Bool). cond t (e ∷ above count es) (above count es)) test
    ∙ ap (λ (xs : List (ℕ × List ℕ)). e ∷ xs) (above_all count (a + 1) b es is.1 (omega (arith, l)))

pub above_counted : (count a b : ℕ) (es : List (ℕ × List ℕ)) → AreCounted a b es → count < b → AreCounted (max a (count + 1)) b (above count es)
above_counted count a b [] is l = let same : a ≡ b = is in omega (arith, same, l)
above_counted count a b (e ∷ es) is l = by (nat_lt count e.0) refl (above_counted count (a + 1) b es is.1 l)
  where
    by : (t : Bool) → nat_lt count e.0 ≡ t → AreCounted (max (a + 1) (count + 1)) b (above count es)
        → AreCounted (max a (count + 1)) b (cond t (e ∷ above count es) (above count es))
    by true test again =
        let here : e.0 ≡ a = is.0 in
        let low : count < a = grind (arith, nat_tests) in
        let start : max a (count + 1) ≡ a = omega (arith, low) in
        subst (λ (n : ℕ). AreCounted n b (e ∷ above count es)) (sym start)
        (here, subst (λ (xs : List (ℕ × List ℕ)). AreCounted (a + 1) b xs) (sym (above_all count (a + 1) b es is.1 (omega (arith, low)))) is.1)
    by false test again =
        let here : e.0 ≡ a = is.0 in
        let high : a ≤ count = grind (arith, nat_tests) in
        let same : max (a + 1) (count + 1) ≡ max a (count + 1) = omega (arith, high) in
        subst (λ (n : ℕ). AreCounted n b (above count es)) same again

pub of_above : (packets : List (List ℕ)) (count : ℕ) (es : List (ℕ × List ℕ)) → AreOf packets es → AreOf packets (above count es)
of_above packets count [] all = tt
of_above packets count (e ∷ es) all = by (nat_lt count e.0) (of_above packets count es all.1)
  where
    by : (t : Bool) → AreOf packets (above count es) → AreOf packets (cond t (e ∷ above count es) (above count es))
    by true rest = (all.0, rest)
    by false rest = rest

-- ---- what was carried on a leg

-- one more
pub carried_more : (low high : ℕ) (cs : List ℕ) → low ≤ high → IsCarried low high cs → IsCarried low (high + 1) (cs ++ high ∷ [])
carried_more low high [] l is = (is, omega arith, omega arith)
carried_more low high (c ∷ cs) l is = (
  is.0,
  (let b : c < high = is.1 in omega (arith, b)),
  carried_more (max low (c + 1)) high cs (let b : c < high = is.1 in omega (arith, l, b)) is.2,
)

-- the least COUNT that nothing confirmed rises
pub carried_raised : (low more high top : ℕ) (cs : List ℕ) → low ≤ more → high ≤ top → top ≤ max high more → IsCarried low high cs → IsCarried more top cs
carried_raised low more high top [] l m n is = omega (arith, l, m, n, is)
carried_raised low more high top (c ∷ cs) l m n is = (
  (let a : c ≤ low = is.0 in omega (arith, l, a)),
  (let b : c < high = is.1 in omega (arith, m, b)),
  carried_raised (max low (c + 1)) (max more (c + 1)) high top cs (omega (arith, l)) m (omega (arith, n)) is.2,
)

-- ---- what is stored

equal_is : (a b : ℕ) → nat_cmp a b ≡ Equal → a ≡ b
equal_is a b e = by (nat_cmp a b) (ranks a b) e
  where
    by : (r : Ordering) → MatchOrdering r (a < b) (a ≡ b) (b < a) → r ≡ Equal → a ≡ b
    by Less is h = cc
    by Equal is h = is
    by Greater is h = cc

less_is : (a b : ℕ) → nat_cmp a b ≡ Less → a < b
less_is a b e = by (nat_cmp a b) (ranks a b) e
  where
    by : (r : Ordering) → MatchOrdering r (a < b) (a ≡ b) (b < a) → r ≡ Less → a < b
    by Less is h = is
    by Equal is h = absurd cc
    by Greater is h = absurd cc

greater_is : (a b : ℕ) → nat_cmp a b ≡ Greater → b < a
greater_is a b e = by (nat_cmp a b) (ranks a b) e
  where
    by : (r : Ordering) → MatchOrdering r (a < b) (a ≡ b) (b < a) → r ≡ Greater → b < a
    by Less is h = absurd cc
    by Equal is h = absurd cc
    by Greater is h = is

-- what holds of all holds of one more
pub all_put : (P : ℕ × List ℕ → Type 0) (es : List (ℕ × List ℕ)) (k : ℕ) (v : List ℕ) → AllByRecursion P es → P (k, v) → AllByRecursion P (put nat_cmp es k v)
unfolding put
all_put P [] k v all here = (here, tt)
all_put P (e ∷ es) k v all here = by (nat_cmp k e.0) refl (all_put P es k v all.1 here)
  where
    by : (o : Ordering) → nat_cmp k e.0 ≡ o → AllByRecursion P (insert_entry nat_cmp es k v)
        → AllByRecursion P (match_ordering o ((k, v) ∷ e ∷ es) ((e.0, v) ∷ es) (e ∷ insert_entry nat_cmp es k v))
    by Less is rest = (here, all)
    by Equal is rest = (subst (λ (n : ℕ). P (n, v)) (equal_is k e.0 is) here, all.1)
    by Greater is rest = (all.0, rest)

-- strictly rising, and none below a COUNT
abbrev pub AreFrom : ℕ → List (ℕ × List ℕ) → Type 0
AreFrom low [] = Unit {0}
AreFrom low (e ∷ es) = (low ≤ e.0) × AreAbove e.0 es

above_put : (low : ℕ) (es : List (ℕ × List ℕ)) (k : ℕ) (v : List ℕ) → AreAbove low es → low < k → AreAbove low (put nat_cmp es k v)
unfolding put
above_put low [] k v up l = (l, tt)
above_put low (e ∷ es) k v up l = by (nat_cmp k e.0) refl (λ m. above_put e.0 es k v up.1 m)
  where
    by : (o : Ordering) → nat_cmp k e.0 ≡ o → (e.0 < k → AreAbove e.0 (insert_entry nat_cmp es k v))
        → AreAbove low (match_ordering o ((k, v) ∷ e ∷ es) ((e.0, v) ∷ es) (e ∷ insert_entry nat_cmp es k v))
    by Less is rest = (l, (less_is k e.0 is, up.1))
    by Equal is rest = up
    by Greater is rest = (up.0, rest (greater_is k e.0 is))

lower : (a b : ℕ) (es : List (ℕ × List ℕ)) → a ≤ b → AreAbove b es → AreAbove a es
lower a b [] l up = tt
lower a b (e ∷ es) l up = ((let h : b < e.0 = up.0 in omega (arith, l, h)), up.1)

pub from_put : (low : ℕ) (es : List (ℕ × List ℕ)) (k : ℕ) (v : List ℕ) → AreAbove low es → low ≤ k → AreFrom low (put nat_cmp es k v)
unfolding put
from_put low [] k v up l = (l, tt)
from_put low (e ∷ es) k v up l = by (nat_cmp k e.0) refl (λ m. above_put e.0 es k v up.1 m)
  where
    by : (o : Ordering) → nat_cmp k e.0 ≡ o → (e.0 < k → AreAbove e.0 (insert_entry nat_cmp es k v))
        → AreFrom low (match_ordering o ((k, v) ∷ e ∷ es) ((e.0, v) ∷ es) (e ∷ insert_entry nat_cmp es k v))
    by Less is rest = (l, (less_is k e.0 is, up.1))
    by Equal is rest = ((let h : low < e.0 = up.0 in omega (arith, h)), up.1)
    by Greater is rest = ((let h : low < e.0 = up.0 in omega (arith, h)), rest (greater_is k e.0 is))

pub from_above : (low : ℕ) (es : List (ℕ × List ℕ)) → AreAbove low es → AreFrom (low + 1) es
from_above low [] up = tt
from_above low (e ∷ es) up = ((let h : low < e.0 = up.0 in omega (arith, h)), up.1)

pub all_more : {X : Type 0} (P : X → Type 0) (xs : List X) (x : X) → AllByRecursion P xs → P x → AllByRecursion P (xs ++ x ∷ [])
all_more P [] x all here = (here, tt)
all_more P (y ∷ xs) x all here = (all.0, all_more P xs x all.1 here)

pub all_as : {X : Type 0} (P Q : X → Type 0) → ((x : X) → P x → Q x) → (xs : List X) → AllByRecursion P xs → AllByRecursion Q xs
all_as P Q f [] all = tt
all_as P Q f (x ∷ xs) all = (f x all.0, all_as P Q f xs all.1)
