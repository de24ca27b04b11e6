-- Lists of packets that are left, or that have a model.
use Rattle.std.proofs.Common.{◌≡◌, ℕ, suc, zero, ◌+◌, ◌<◌, ◌≤◌, max, Bool, true, false, cond, ◌==◌, ◌||◌, List, [], ◌∷◌, ◌++◌, filter, refl, sym, ap, subst, ◌∙◌, arith}
use Rattle.std.specs.List.{AllByRecursion}
use Rattle.std.proofs.lemmas.List.Folds.{list_any-append}
use Rattle.std.proofs.lemmas.List.Elements.{filter-append}
use Rattle.intervals.specs.Intervals.{segment, HasNoGap, reach}
use Rattle.unit_defs.specs.CuUpBearers.{is_one_of}
use Rattle.law_downlink_order.proofs.chain.Facts.{pairs}

abbrev Packets : Type 0
Packets = List (ℕ × List ℕ)

pub no_gap_later : (n m : ℕ) (xs : Packets) → n ≤ m → HasNoGap n xs → HasNoGap m xs
unfolding HasNoGap
no_gap_later n m [] l h = tt
no_gap_later n m (e ∷ es) l h = (let a = h.0 in omega (arith, a, l), no_gap_later (max n (e.0 + 1)) (max m (e.0 + 1)) es (omega (arith, l)) h.1)

pub reach_later : (n m : ℕ) (xs : Packets) → n ≤ m → reach n xs ≤ reach m xs
unfolding reach
reach_later n m [] l = l
reach_later n m (e ∷ es) l = reach_later (max n (e.0 + 1)) (max m (e.0 + 1)) es (omega (arith, l))

-- of a list without gap the first model has none, and the rest has none from where that reaches
pub no_gap_first : (n : ℕ) (xs ys : Packets) → HasNoGap n (xs ++ ys) → HasNoGap n xs
unfolding HasNoGap
no_gap_first n [] ys h = tt
no_gap_first n (e ∷ es) ys h = (h.0, no_gap_first (max n (e.0 + 1)) es ys h.1)

pub no_gap_rest : (n : ℕ) (xs ys : Packets) → HasNoGap n (xs ++ ys) → HasNoGap (reach n xs) ys
unfolding HasNoGap reach
no_gap_rest n [] ys h = h
no_gap_rest n (e ∷ es) ys h = no_gap_rest (max n (e.0 + 1)) es ys h.1

pub all_first : (P : ℕ × List ℕ → Type 0) (xs ys : Packets) → AllByRecursion P (xs ++ ys) → AllByRecursion P xs
all_first P [] ys h = tt
all_first P (e ∷ es) ys h = (h.0, all_first P es ys h.1)

pub all_rest : (P : ℕ × List ℕ → Type 0) (xs ys : Packets) → AllByRecursion P (xs ++ ys) → AllByRecursion P ys
all_rest P [] ys h = h
all_rest P (e ∷ es) ys h = all_rest P es ys h.1

-- ---- some are left out

module _ (q : ℕ × List ℕ → Bool) where
  pub reach_left : (n : ℕ) (xs : Packets) → reach n (filter q xs) ≤ reach n xs
  unfolding reach
  reach_left n [] = omega arith
  reach_left n (e ∷ es) = by (q e) (reach_left (max n (e.0 + 1)) es) (reach_left n es)
    where
      by : (t : Bool) → reach (max n (e.0 + 1)) (filter q es) ≤ reach (max n (e.0 + 1)) es → reach n (filter q es) ≤ reach n es
          → reach n (cond t (e ∷ filter q es) (filter q es)) ≤ reach (max n (e.0 + 1)) es
      by true h k = h
      by false h k = let l = reach_later n (max n (e.0 + 1)) es (omega arith) in omega (arith, k, l)

  module _ (n : ℕ) (below : (e : ℕ × List ℕ) → q e ≡ false → e.0 < n) where
    -- none that was left out was at this place or past it
    pub no_gap_left : (m : ℕ) (xs : Packets) → n ≤ m → HasNoGap m xs → HasNoGap m (filter q xs)
    unfolding HasNoGap
    no_gap_left m [] l h = tt
    no_gap_left m (e ∷ es) l h = by (q e) refl (no_gap_left (max m (e.0 + 1)) es (omega (arith, l)) h.1)
      where
        by : (t : Bool) → q e ≡ t → HasNoGap (max m (e.0 + 1)) (filter q es) → HasNoGap m (cond t (e ∷ filter q es) (filter q es))
        by true is k = (h.0, k)
        by false is k = let low = below e is in let same : max m (e.0 + 1) ≡ m = omega (arith, low, l) in subst (λ (i : ℕ). HasNoGap i (filter q es)) same k

    pub reach_same : (m : ℕ) (xs : Packets) → n ≤ m → reach m (filter q xs) ≡ reach m xs
    unfolding reach
    reach_same m [] l = refl
    reach_same m (e ∷ es) l = by (q e) refl (reach_same (max m (e.0 + 1)) es (omega (arith, l)))
      where
        by : (t : Bool) → q e ≡ t → reach (max m (e.0 + 1)) (filter q es) ≡ reach (max m (e.0 + 1)) es
            → reach m (cond t (e ∷ filter q es) (filter q es)) ≡ reach (max m (e.0 + 1)) es
        by true is k = k
        by false is k =
            let low = below e is in let same : max m (e.0 + 1) ≡ m = omega (arith, low, l) in
            subst (λ (i : ℕ). reach m (filter q es) ≡ reach i es) (sym same) (subst (λ (i : ℕ). reach i (filter q es) ≡ reach i es) same k)

  pub filters_turn : (r : ℕ × List ℕ → Bool) (xs : Packets) → filter r (filter q xs) ≡ filter q (filter r xs)
  filters_turn r [] = refl
  filters_turn r (e ∷ es) = by (filters_turn r es) (r e) (q e) refl refl
    where
      by : filter r (filter q es) ≡ filter q (filter r es) → (t u : Bool) → r e ≡ t → q e ≡ u
          → filter r (cond u (e ∷ filter q es) (filter q es)) ≡ filter q (cond t (e ∷ filter r es) (filter r es))
      by turn true true i j = (λ k. cond (i k) (e ∷ filter r (filter q es)) (filter r (filter q es)))
          ∙ ap (λ xs. e ∷ xs) turn ∙ sym (λ k. cond (j k) (e ∷ filter q (filter r es)) (filter q (filter r es)))
      by turn true false i j = turn ∙ sym (λ k. cond (j k) (e ∷ filter q (filter r es)) (filter q (filter r es)))
      by turn false true i j = (λ k. cond (i k) (e ∷ filter r (filter q es)) (filter r (filter q es))) ∙ turn
      by turn false false i j = turn

-- ---- the last of an interval

abbrev first_place : ℕ → Packets → ℕ
first_place n [] = n
first_place n (x ∷ xs) = x.0

at_least : (p : ℕ → List ℕ) (a n : ℕ) (us : Packets) (e : ℕ × List ℕ) → segment (pairs p) a n ≡ us ++ e ∷ [] → a ≤ e.0
unfolding segment
at_least p a zero [] e h = absurd cc
at_least p a zero (u ∷ us) e h = absurd cc
at_least p a (suc n) [] e h = let same : a ≡ e.0 = ap (λ (xs : Packets). first_place a xs) h in omega (arith, same)
at_least p a (suc n) (u ∷ us) e h = let l = at_least p (a + 1) n us e cc in omega (arith, l)

pub all_below : (p : ℕ → List ℕ) (a n : ℕ) (us : Packets) (e : ℕ × List ℕ) → segment (pairs p) a n ≡ us ++ e ∷ []
    → AllByRecursion (λ (u : ℕ × List ℕ). u.0 < e.0) us
unfolding segment
all_below p a n [] e h = tt
all_below p a zero (u ∷ us) e h = absurd cc
all_below p a (suc n) (u ∷ us) e h =
    let same : a ≡ u.0 = ap (λ (xs : Packets). first_place a xs) h in
    let l = at_least p (a + 1) n us e cc in
    (omega (arith, same, l), all_below p (a + 1) n us e cc)

-- ---- those that came while frozen, and one more after all

apart : (i c : ℕ) → i < c → (c == i) ≡ false
apart i c l = grind arith

or_false : (t : Bool) → (t || false) ≡ t
or_false true = refl
or_false false = refl

or_true : (t : Bool) → (t || true) ≡ true
or_true true = refl
or_true false = refl

same_number : (c : ℕ) → (c == c) ≡ true
same_number c = grind arith

module _ (taken : List ℕ) (c : ℕ) where
  abbrev more : ℕ × List ℕ → Bool
  more e = is_one_of (taken ++ c ∷ []) e.0

  one : (i : ℕ) → is_one_of (taken ++ c ∷ []) i ≡ (is_one_of taken i || ((c == i) || false))
  one i = list_any-append (λ k. k == i) taken (c ∷ [])

  old_one : (u : ℕ × List ℕ) → u.0 < c → more u ≡ is_one_of taken u.0
  old_one u l = one u.0 ∙ ap (λ (t : Bool). is_one_of taken u.0 || (t || false)) (apart u.0 c l) ∙ or_false (is_one_of taken u.0)

  old : (us : Packets) → AllByRecursion (λ (u : ℕ × List ℕ). u.0 < c) us → filter more us ≡ filter (λ (e : ℕ × List ℕ). is_one_of taken e.0) us
  old [] h = refl
  old (u ∷ us) h = λ i. cond (old_one u h.0 i) (u ∷ old us h.1 i) (old us h.1 i)

  last : (packet : List ℕ) → more (c, packet) ≡ true
  last packet = one c ∙ ap (λ (t : Bool). is_one_of taken c || (t || false)) (same_number c) ∙ or_true (is_one_of taken c)

  pub taken_more : (packet : List ℕ) (us : Packets) → AllByRecursion (λ (u : ℕ × List ℕ). u.0 < c) us
      → filter (λ (e : ℕ × List ℕ). is_one_of (taken ++ c ∷ []) e.0) (us ++ (c, packet) ∷ [])
      ≡ filter (λ (e : ℕ × List ℕ). is_one_of taken e.0) us ++ (c, packet) ∷ []
  taken_more packet us below =
      filter-append more us ((c, packet) ∷ []) ∙ (λ i. old us below i ++ cond (last packet i) ((c, packet) ∷ []) [])

pub none_taken : (xs : Packets) → filter (λ (e : ℕ × List ℕ). is_one_of [] e.0) xs ≡ []
none_taken [] = refl
none_taken (e ∷ es) = none_taken es
