-- A list taken apart at two of its items.
use Rattle.std.proofs.Common.{◌≡◌, List, [], ◌∷◌, ◌++◌, refl, sym, ap, ◌∙◌}

pub data Apart {A : Type 0} (f : List A) (p : A) (r : List A) (g : List A) (q : A) (s : List A) : Type 0 where
  same : f ≡ g → p ≡ q → r ≡ s → Apart f p r g q s
  earlier : (mid : List A) → g ≡ f ++ p ∷ mid → r ≡ mid ++ q ∷ s → Apart f p r g q s
  later : (mid : List A) → f ≡ g ++ q ∷ mid → s ≡ mid ++ p ∷ r → Apart f p r g q s

pub head_same : {A : Type 0} {x y : A} {xs ys : List A} → x ∷ xs ≡ y ∷ ys → x ≡ y
head_same e = cc

pub tail_same : {A : Type 0} {x y : A} {xs ys : List A} → x ∷ xs ≡ y ∷ ys → xs ≡ ys
tail_same e = cc

-- both begin with one more item
behind : {A : Type 0} {f r g s : List A} {p q : A} (x y : A) → x ≡ y → Apart f p r g q s → Apart (x ∷ f) p r (y ∷ g) q s
behind {f = f} {g = g} x y e (same a b c) = same (ap (λ z. z ∷ f) e ∙ ap (λ l. y ∷ l) a) b c
behind {f = f} {p = p} x y e (earlier mid a b) = earlier mid (ap (λ l. y ∷ l) a ∙ ap (λ z. z ∷ f ++ p ∷ mid) (sym e)) b
behind {g = g} {q = q} x y e (later mid a b) = later mid (ap (λ l. x ∷ l) a ∙ ap (λ z. z ∷ g ++ q ∷ mid) e) b

pub compare : {A : Type 0} (f : List A) (p : A) (r : List A) (g : List A) (q : A) (s : List A) → f ++ p ∷ r ≡ g ++ q ∷ s → Apart f p r g q s
compare [] p r [] q s e = same refl (head_same e) (tail_same e)
compare [] p r (y ∷ g) q s e = earlier g (ap (λ z. z ∷ g) (sym (head_same e))) (tail_same e)
compare (x ∷ f) p r [] q s e = later f (ap (λ z. z ∷ f) (head_same e)) (sym (tail_same e))
compare (x ∷ f) p r (y ∷ g) q s e = behind x y (head_same e) (compare f p r g q s (tail_same e))
