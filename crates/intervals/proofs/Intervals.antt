-- Intervals at their two ends, their parts, and lists without a gap.
use Rattle.std.proofs.Common.{◌≡◌, ℕ, zero, suc, ◌+◌, ◌-◌, ◌<◌, ◌≤◌, max, Bool, true, false, cond, List, [], ◌∷◌, ◌++◌, map, length, filter, refl, sym, ap, ◌∙◌, nat_lt, arith}
use Rattle.std.specs.List.{AllByRecursion}
use Rattle.intervals.specs.Intervals.{segment, upto, HasNoGap, reach}

module _ {X : Type 0} (f : ℕ → X) where
  pub upto-nil : (a b : ℕ) → b ≤ a → upto f a b ≡ []
  unfolding upto segment
  upto-nil a b h = let e : b - a ≡ 0 = omega arith in rw e

  pub upto-cons : (a b : ℕ) → a < b → upto f a b ≡ f a ∷ upto f (a + 1) b
  unfolding upto segment
  upto-cons a b h = let e : b - a ≡ suc (b - (a + 1)) = omega arith in rw e

  segment-snoc : (a n : ℕ) → segment f a (suc n) ≡ segment f a n ++ f (a + n) ∷ []
  unfolding segment
  segment-snoc a zero = let e : a + 0 ≡ a = omega arith in ap (λ i. f i ∷ []) (sym e)
  segment-snoc a (suc n) =
      let e : a + 1 + n ≡ a + suc n = omega arith in
      ap (λ xs. f a ∷ xs) (segment-snoc (a + 1) n ∙ ap (λ i. segment f (a + 1) n ++ f i ∷ []) e)

  pub upto-snoc : (a b : ℕ) → a ≤ b → upto f a (b + 1) ≡ upto f a b ++ f b ∷ []
  unfolding upto
  upto-snoc a b h =
      let e : b + 1 - a ≡ suc (b - a) = omega arith in
      let k : a + (b - a) ≡ b = omega arith in
      ap (λ n. segment f a n) e ∙ segment-snoc a (b - a) ∙ ap (λ i. segment f a (b - a) ++ f i ∷ []) k

  -- what stands first
  segment-head : (a n : ℕ) (x : X) (xs : List X) → segment f a n ≡ x ∷ xs → (0 < n) × (x ≡ f a) × (xs ≡ segment f (a + 1) (n - 1))
  unfolding segment
  segment-head a zero x xs h = absurd cc
  segment-head a (suc n) x xs h =
      let e : suc n - 1 ≡ n = omega arith in
      (omega arith, cc, rw e cc)

  pub upto-head : (a b : ℕ) (x : X) (xs : List X) → upto f a b ≡ x ∷ xs → (a < b) × (x ≡ f a) × (xs ≡ upto f (a + 1) b)
  unfolding upto
  upto-head a b x xs h =
      let k = segment-head a (b - a) x xs h in
      let e : b - a - 1 ≡ b - (a + 1) = omega arith in
      (let l = k.0 in omega arith, k.1, k.2 ∙ ap (λ n. segment f (a + 1) n) e)

  -- an interval ends where it begins, or is the first and the rest
  segment-first : (a n : ℕ) (xs : List X) → segment f a n ≡ xs → xs ≡ [] → n ≡ 0
  unfolding segment
  segment-first a zero xs h e = refl
  segment-first a (suc n) xs h e = absurd cc

  pub upto-empty : (a b : ℕ) → upto f a b ≡ [] → b ≤ a
  unfolding upto
  upto-empty a b h = let e = segment-first a (b - a) [] h refl in omega arith

  segment-join : (a m n : ℕ) → segment f a m ++ segment f (a + m) n ≡ segment f a (m + n)
  unfolding segment
  segment-join a zero n =
      let e : a + 0 ≡ a = omega arith in
      let k : 0 + n ≡ n = omega arith in
      rw (e, k)
  segment-join a (suc m) n =
      let e : a + suc m ≡ a + 1 + m = omega arith in
      let k : suc m + n ≡ suc (m + n) = omega arith in
      rw (e, k) (ap (λ xs. f a ∷ xs) (segment-join (a + 1) m n))

  pub upto-join : (a b c : ℕ) → a ≤ b → b ≤ c → upto f a b ++ upto f b c ≡ upto f a c
  unfolding upto
  upto-join a b c h k =
      let e : a + (b - a) ≡ b = omega arith in
      let l : (b - a) + (c - b) ≡ c - a = omega arith in
      ap (λ i. segment f a (b - a) ++ segment f i (c - b)) (sym e) ∙ segment-join a (b - a) (c - b) ∙ ap (λ n. segment f a n) l

  pub segment-length : (a n : ℕ) → length (segment f a n) ≡ n
  unfolding segment
  segment-length a zero = refl
  segment-length a (suc n) = let e = segment-length (a + 1) n in omega arith

  pub upto-length : (a b : ℕ) → length (upto f a b) ≡ b - a
  unfolding upto
  upto-length a b = segment-length a (b - a)

-- a function of each
segment-map : {X Y : Type 0} (g : X → Y) (f : ℕ → X) (a n : ℕ) → map g (segment f a n) ≡ segment (λ i. g (f i)) a n
unfolding segment
segment-map g f a zero = refl
segment-map g f a (suc n) = ap (λ xs. g (f a) ∷ xs) (segment-map g f (a + 1) n)

pub upto-map : {X Y : Type 0} (g : X → Y) (f : ℕ → X) (a b : ℕ) → map g (upto f a b) ≡ upto (λ i. g (f i)) a b
unfolding upto
upto-map g f a b = segment-map g f a (b - a)

-- what is true from one place on leaves the part from there on
module _ {X : Type 0} (f : ℕ → X) (q : X → Bool) (m : ℕ) (below : (i : ℕ) → i < m → q (f i) ≡ false) where
  segment-filter : (a n : ℕ) → ((i : ℕ) → m ≤ i → i < a + n → q (f i) ≡ true) → filter q (segment f a n) ≡ upto f (max a m) (a + n)
  unfolding segment
  segment-filter a zero above = sym (upto-nil f (max a m) (a + 0) (omega arith))
  segment-filter a (suc n) above = by (segment-filter (a + 1) n (λ i h k. above i h (omega arith))) (nat_lt a m) refl
    where
      by : filter q (segment f (a + 1) n) ≡ upto f (max (a + 1) m) (a + 1 + n) → (t : Bool) → nat_lt a m ≡ t
          → cond (q (f a)) (f a ∷ filter q (segment f (a + 1) n)) (filter q (segment f (a + 1) n)) ≡ upto f (max a m) (a + suc n)
      by rest true h =
          let l : a < m = grind arith in
          let e : max (a + 1) m ≡ max a m = omega arith in
          let k : a + 1 + n ≡ a + suc n = omega arith in
          rw (below a l) (rest ∙ ap (λ i. upto f i (a + 1 + n)) e ∙ ap (λ i. upto f (max a m) i) k)
      by rest false h =
          let l : m ≤ a = grind arith in
          let e : max (a + 1) m ≡ a + 1 = omega arith in
          let k : a + 1 + n ≡ a + suc n = omega arith in
          let o : max a m ≡ a = omega arith in
          rw (above a l (omega arith), o)
          (ap (λ xs. f a ∷ xs) (rest ∙ ap (λ i. upto f i (a + 1 + n)) e ∙ ap (λ i. upto f (a + 1) i) k) ∙ sym
          (upto-cons f a (a + suc n) (omega arith)))

  pub upto-filter : (a b : ℕ) → ((i : ℕ) → m ≤ i → i < b → q (f i) ≡ true) → filter q (upto f a b) ≡ upto f (max a m) b
  unfolding upto segment
  upto-filter a b above = by (nat_lt b a) refl
    where
      by : (t : Bool) → nat_lt b a ≡ t → filter q (segment f a (b - a)) ≡ segment f (max a m) (b - max a m)
      by true h =
          let l : b < a = grind arith in
          let e : b - a ≡ 0 = omega arith in
          let k : b - max a m ≡ 0 = omega arith in
          rw (e, k)
      by false h =
          let l : a ≤ b = grind arith in
          let e : a + (b - a) ≡ b = omega arith in
          segment-filter a (b - a) (λ i o k. above i o (omega arith)) ∙ ap (λ c. upto f (max a m) c) e

-- what is true from the first place on leaves all
module _ {X : Type 0} (f : ℕ → X) (q : X → Bool) where
  segment-kept : (a n : ℕ) → ((i : ℕ) → a ≤ i → q (f i) ≡ true) → filter q (segment f a n) ≡ segment f a n
  unfolding segment
  segment-kept a zero above = refl
  segment-kept a (suc n) above =
      rw (above a (omega arith)) (ap (λ xs. f a ∷ xs) (segment-kept (a + 1) n (λ i l. above i (omega arith))))

  pub upto-kept : (a b : ℕ) → ((i : ℕ) → a ≤ i → q (f i) ≡ true) → filter q (upto f a b) ≡ upto f a b
  unfolding upto
  upto-kept a b above = segment-kept a (b - a) above

-- ---- a property of each

pub all_append : {X : Type 0} (P : X → Type 0) (xs ys : List X) → AllByRecursion P xs → AllByRecursion P ys → AllByRecursion P (xs ++ ys)
all_append P [] ys h k = k
all_append P (x ∷ xs) ys h k = (h.0, all_append P xs ys h.1 k)

pub all_filter : {X : Type 0} (P : X → Type 0) (q : X → Bool) (xs : List X) → AllByRecursion P xs → AllByRecursion P (filter q xs)
all_filter P q [] h = tt
all_filter {X} P q (x ∷ xs) h = by (q x) (all_filter P q xs h.1)
  where
    by : (t : Bool) → AllByRecursion P (filter q xs) → AllByRecursion P (cond t (x ∷ filter q xs) (filter q xs))
    by true k = (h.0, k)
    by false k = k

all_segment : {X : Type 0} (P : X → Type 0) (f : ℕ → X) (a n : ℕ) → ((i : ℕ) → i < a + n → P (f i)) → AllByRecursion P (segment f a n)
unfolding segment
all_segment P f a zero h = tt
all_segment P f a (suc n) h = (h a (omega arith), all_segment P f (a + 1) n (λ i l. h i (omega arith)))

pub all_upto : {X : Type 0} (P : X → Type 0) (f : ℕ → X) (a b : ℕ) → ((i : ℕ) → i < max a b → P (f i)) → AllByRecursion P (upto f a b)
unfolding upto
all_upto P f a b h = all_segment P f a (b - a) (λ i l. h i (omega arith))

-- ---- lists without a gap

module _ {X : Type 0} where
  pub reach-append : (n : ℕ) (xs ys : List (ℕ × X)) → reach n (xs ++ ys) ≡ reach (reach n xs) ys
  unfolding reach
  reach-append n [] ys = refl
  reach-append n (x ∷ xs) ys = reach-append (max n (x.0 + 1)) xs ys

  pub HasNoGap-append : (n : ℕ) (xs ys : List (ℕ × X)) → HasNoGap n xs → HasNoGap (reach n xs) ys → HasNoGap n (xs ++ ys)
  unfolding reach HasNoGap
  HasNoGap-append n [] ys h k = k
  HasNoGap-append n (x ∷ xs) ys h k = (h.0, HasNoGap-append (max n (x.0 + 1)) xs ys h.1 k)

  pub reach-le : (n : ℕ) (xs : List (ℕ × X)) → n ≤ reach n xs
  unfolding reach
  reach-le n [] = omega arith
  reach-le n (x ∷ xs) = let h = reach-le (max n (x.0 + 1)) xs in omega arith

-- an interval of places has no gap from any place on that is not below its first
module _ {X : Type 0} (p : ℕ → X) where
  segment-no_gap : (n a k : ℕ) → a ≤ n → HasNoGap n (segment (λ i. (i, p i)) a k)
  unfolding segment HasNoGap
  segment-no_gap n a zero h = tt
  segment-no_gap n a (suc k) h = (h, segment-no_gap (max n (a + 1)) (a + 1) k (omega arith))

  pub upto-no_gap : (n a b : ℕ) → a ≤ n → HasNoGap n (upto (λ i. (i, p i)) a b)
  unfolding upto
  upto-no_gap n a b h = segment-no_gap n a (b - a) h

  segment-reach : (n a k : ℕ) → a ≤ n → reach n (segment (λ i. (i, p i)) a k) ≡ max n (a + k)
  unfolding segment reach
  segment-reach n a zero h = omega arith
  segment-reach n a (suc k) h = segment-reach (max n (a + 1)) (a + 1) k (omega arith) ∙ omega arith

  pub upto-reach : (n a b : ℕ) → a ≤ n → reach n (upto (λ i. (i, p i)) a b) ≡ max n b
  unfolding upto
  upto-reach n a b h = segment-reach n a (b - a) h ∙ omega arith
