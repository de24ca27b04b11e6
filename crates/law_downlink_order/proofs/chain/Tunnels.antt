-- What stands on the tunnels down: N3 holds packets without a COUNT, a forwarding tunnel those with one first; an End Marker
-- may stand at the end.
use Rattle.std.proofs.Common.{◌≡◌, ℕ, ◌+◌, ◌<◌, ◌≤◌, Bool, true, false, List, [], ◌∷◌, ◌++◌, map, refl, sym, ap, ◌∙◌, append_assoc, nat_lt, arith}
use Rattle.std.proofs.lemmas.List.{append-nil}
use Rattle.bearer_defs.specs.chain_defs.Models.{Item, numbered, fresh, end_marker}
use Rattle.intervals.specs.Intervals.{upto}
use Rattle.intervals.proofs.Intervals.{upto-nil, upto-cons, upto-snoc, upto-map}

unfoldable pub ends : Bool → List Item
ends true = end_marker ∷ []
ends false = []

module _ (p : ℕ → List ℕ) where
  unfoldable pub flow : ℕ → ℕ → Bool → List Item
  flow a b e = upto (λ i. fresh (p i)) a b ++ ends e

  unfoldable pub shape : ℕ → ℕ → ℕ → ℕ → Bool → List Item
  shape h k a b e = upto (λ i. numbered i (p i)) h k ++ flow a b e

  flow-cons : (a b : ℕ) (e : Bool) → a < b → flow a b e ≡ fresh (p a) ∷ flow (a + 1) b e
  unfolding flow
  flow-cons a b e h = ap (λ xs. xs ++ ends e) (upto-cons (λ i. fresh (p i)) a b h)

  flow-nil : (a b : ℕ) (e : Bool) → b ≤ a → flow a b e ≡ ends e
  unfolding flow
  flow-nil a b e h = ap (λ xs. xs ++ ends e) (upto-nil (λ i. fresh (p i)) a b h)

  shape-cons : (h k a b : ℕ) (e : Bool) → h < k → shape h k a b e ≡ numbered h (p h) ∷ shape (h + 1) k a b e
  unfolding shape
  shape-cons h k a b e l = ap (λ xs. xs ++ flow a b e) (upto-cons (λ i. numbered i (p i)) h k l)

  shape-nil : (h k a b : ℕ) (e : Bool) → k ≤ h → shape h k a b e ≡ flow a b e
  unfolding shape
  shape-nil h k a b e l = ap (λ xs. xs ++ flow a b e) (upto-nil (λ i. numbered i (p i)) h k l)

  -- ---- by what stands first

  pub flow-fresh : (a b : ℕ) (e : Bool) (x : List ℕ) (xs : List Item) → flow a b e ≡ fresh x ∷ xs
      → (a < b) × (x ≡ p a) × (xs ≡ flow (a + 1) b e)
  unfolding ends
  flow-fresh a b e x xs h = by (nat_lt a b) refl e h
    where
      by : (t : Bool) → nat_lt a b ≡ t → (u : Bool) → flow a b u ≡ fresh x ∷ xs → (a < b) × (x ≡ p a) × (xs ≡ flow (a + 1) b u)
      by true l u k = let o : a < b = grind arith in let j = sym (flow-cons a b u o) ∙ k in (o, cc, cc)
      by false l true k = let o : b ≤ a = grind arith in let j : end_marker ∷ [] ≡ fresh x ∷ xs = sym (flow-nil a b true o) ∙ k in absurd cc
      by false l false k = let o : b ≤ a = grind arith in let j : [] ≡ fresh x ∷ xs = sym (flow-nil a b false o) ∙ k in absurd cc

  pub flow-end : (a b : ℕ) (e : Bool) (xs : List Item) → flow a b e ≡ end_marker ∷ xs → (b ≤ a) × (e ≡ true) × (xs ≡ [])
  unfolding ends
  flow-end a b e xs h = by (nat_lt a b) refl e h
    where
      by : (t : Bool) → nat_lt a b ≡ t → (u : Bool) → flow a b u ≡ end_marker ∷ xs → (b ≤ a) × (u ≡ true) × (xs ≡ [])
      by true l u k = let o : a < b = grind arith in let j = sym (flow-cons a b u o) ∙ k in absurd cc
      by false l true k = let o : b ≤ a = grind arith in let j : end_marker ∷ [] ≡ end_marker ∷ xs = sym (flow-nil a b true o) ∙ k in
          (o, refl, cc)
      by false l false k = let o : b ≤ a = grind arith in let j : [] ≡ end_marker ∷ xs = sym (flow-nil a b false o) ∙ k in absurd cc

  flow-numbered : (a b : ℕ) (e : Bool) (c : ℕ) (x : List ℕ) (xs : List Item) → flow a b e ≡ numbered c x ∷ xs → ⊥
  unfolding ends
  flow-numbered a b e c x xs h = by (nat_lt a b) refl e h
    where
      by : (t : Bool) → nat_lt a b ≡ t → (u : Bool) → flow a b u ≡ numbered c x ∷ xs → ⊥
      by true l u k = let o : a < b = grind arith in let j = sym (flow-cons a b u o) ∙ k in cc
      by false l true k = let o : b ≤ a = grind arith in let j : end_marker ∷ [] ≡ numbered c x ∷ xs = sym (flow-nil a b true o) ∙ k in cc
      by false l false k = let o : b ≤ a = grind arith in let j : [] ≡ numbered c x ∷ xs = sym (flow-nil a b false o) ∙ k in cc

  pub shape-numbered : (h k a b : ℕ) (e : Bool) (c : ℕ) (x : List ℕ) (xs : List Item) → shape h k a b e ≡ numbered c x ∷ xs
      → (h < k) × (c ≡ h) × (x ≡ p h) × (xs ≡ shape (h + 1) k a b e)
  shape-numbered h k a b e c x xs i = by (nat_lt h k) refl
    where
      by : (t : Bool) → nat_lt h k ≡ t → (h < k) × (c ≡ h) × (x ≡ p h) × (xs ≡ shape (h + 1) k a b e)
      by true l = let o : h < k = grind arith in let j = sym (shape-cons h k a b e o) ∙ i in (o, cc, cc, cc)
      by false l = let o : k ≤ h = grind arith in absurd (flow-numbered a b e c x xs (sym (shape-nil h k a b e o) ∙ i))

  pub shape-fresh : (h k a b : ℕ) (e : Bool) (x : List ℕ) (xs : List Item) → shape h k a b e ≡ fresh x ∷ xs
      → (k ≤ h) × (a < b) × (x ≡ p a) × (xs ≡ shape h k (a + 1) b e)
  shape-fresh h k a b e x xs i = by (nat_lt h k) refl
    where
      by : (t : Bool) → nat_lt h k ≡ t → (k ≤ h) × (a < b) × (x ≡ p a) × (xs ≡ shape h k (a + 1) b e)
      by true l = let o : h < k = grind arith in let j = sym (shape-cons h k a b e o) ∙ i in absurd cc
      by false l =
          let o : k ≤ h = grind arith in
          let j = flow-fresh a b e x xs (sym (shape-nil h k a b e o) ∙ i) in
          (o, j.0, j.1, j.2 ∙ sym (shape-nil h k (a + 1) b e o))

  pub shape-end : (h k a b : ℕ) (e : Bool) (xs : List Item) → shape h k a b e ≡ end_marker ∷ xs
      → (k ≤ h) × (b ≤ a) × (e ≡ true) × (xs ≡ [])
  shape-end h k a b e xs i = by (nat_lt h k) refl
    where
      by : (t : Bool) → nat_lt h k ≡ t → (k ≤ h) × (b ≤ a) × (e ≡ true) × (xs ≡ [])
      by true l = let o : h < k = grind arith in let j = sym (shape-cons h k a b e o) ∙ i in absurd cc
      by false l =
          let o : k ≤ h = grind arith in
          let j = flow-end a b e xs (sym (shape-nil h k a b e o) ∙ i) in
          (o, j.0, j.1, j.2)

  -- with no more COUNTs to come, it doesn't matter which is next
  pub shape-late : (h k a b : ℕ) (e : Bool) → k ≤ h → shape h k a b e ≡ shape (h + 1) k a b e
  shape-late h k a b e l = let o : k ≤ h + 1 = omega arith in shape-nil h k a b e l ∙ sym (shape-nil (h + 1) k a b e o)

  -- ---- what is put at the end

  pub flow-put : (a b : ℕ) → a ≤ b → flow a b false ++ fresh (p b) ∷ [] ≡ flow a (b + 1) false
  unfolding flow ends
  flow-put a b h =
      ap (λ xs. xs ++ fresh (p b) ∷ []) (append-nil (upto (λ i. fresh (p i)) a b)) ∙ sym (upto-snoc (λ i. fresh (p i)) a b h)
      ∙ sym (append-nil (upto (λ i. fresh (p i)) a (b + 1)))

  pub flow-close : (a b : ℕ) → flow a b false ++ end_marker ∷ [] ≡ flow a b true
  unfolding flow ends
  flow-close a b = ap (λ xs. xs ++ end_marker ∷ []) (append-nil (upto (λ i. fresh (p i)) a b))

  pub shape-put : (h k a b : ℕ) → a ≤ b → shape h k a b false ++ fresh (p b) ∷ [] ≡ shape h k a (b + 1) false
  unfolding shape
  shape-put h k a b l =
      append_assoc (upto (λ i. numbered i (p i)) h k) (flow a b false) (fresh (p b) ∷ [])
      ∙ ap (λ xs. upto (λ i. numbered i (p i)) h k ++ xs) (flow-put a b l)

  pub shape-close : (h k a b : ℕ) → shape h k a b false ++ end_marker ∷ [] ≡ shape h k a b true
  unfolding shape
  shape-close h k a b =
      append_assoc (upto (λ i. numbered i (p i)) h k) (flow a b false) (end_marker ∷ [])
      ∙ ap (λ xs. upto (λ i. numbered i (p i)) h k ++ xs) (flow-close a b)

  -- a packet with a COUNT only while there is none without
  pub shape-put_numbered : (h k a b : ℕ) → h ≤ k → b ≤ a → shape h k a b false ++ numbered k (p k) ∷ [] ≡ shape h (k + 1) a b false
  unfolding shape ends
  shape-put_numbered h k a b l o =
      let f : ℕ → Item = λ i. numbered i (p i) in
      ap (λ xs. (upto f h k ++ xs) ++ f k ∷ []) (flow-nil a b false o)
      ∙ ap (λ xs. xs ++ f k ∷ []) (append-nil (upto f h k))
      ∙ sym (upto-snoc f h k l)
      ∙ sym (append-nil (upto f h (k + 1)))
      ∙ ap (λ xs. upto f h (k + 1) ++ xs) (sym (flow-nil a b false o))

  -- what a freeze puts
  pub shape-of : (h k a b : ℕ)
      → map (λ (e : ℕ × List ℕ). numbered e.0 e.1) (upto (λ i. (i, p i)) h k) ++ map (λ x. fresh x) (upto p a b) ≡ shape h k a b false
  unfolding shape flow ends
  shape-of h k a b =
      ap (λ xs. xs ++ map (λ x. fresh x) (upto p a b)) (upto-map (λ (e : ℕ × List ℕ). numbered e.0 e.1) (λ i. (i, p i)) h k)
      ∙ ap (λ xs. upto (λ i. numbered i (p i)) h k ++ xs) (upto-map (λ x. fresh x) p a b ∙ sym (append-nil (upto (λ i. fresh (p i)) a b)))

  pub flow-none : (a b : ℕ) → b ≤ a → flow a b false ≡ []
  unfolding ends
  flow-none a b h = flow-nil a b false h

  pub shape-none : (h k a b : ℕ) → k ≤ h → b ≤ a → shape h k a b false ≡ []
  shape-none h k a b l o = shape-nil h k a b false l ∙ flow-none a b o
