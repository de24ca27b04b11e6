-- A text has one longest front of a form.
use Rattle.std.proofs.Common.{◌≡◌, ℕ, ◌-◌, List, [], ◌∷◌, ◌++◌, length, true, ◌||◌, refl, sym, ap, ◌∙◌, subst, inl, inr, arith, length-append}
use Rattle.std.specs.Prelude.{◌⊎◌}
use Rattle.std.proofs.lemmas.List.{take_at}
use Rattle.asn1_tokens.specs.Scan.{is_upper, is_lower, is_digit, before}
use Rattle.asn1_defs.specs.Items.{IsName, IsNumber, IsLongest}

-- the text x a goes on from the front x to the front y of the same text
abbrev Reaches : (x y a b : List ℕ) → Type 0
Reaches x y a b = (more : List ℕ) × (y ≡ x ++ more) × (a ≡ more ++ b)

longer : (c : ℕ) (x y a b : List ℕ) → Reaches x y a b → Reaches (c ∷ x) (c ∷ y) a b
longer c x y a b r = (r.0, ap (λ (xs : List ℕ). c ∷ xs) r.1, r.2)

-- one of two fronts of a text goes on to the other
fronts : (x y a b : List ℕ) → x ++ a ≡ y ++ b → Reaches x y a b ⊎ Reaches y x b a
fronts [] y a b same = inl (y, refl, same)
fronts (c ∷ x) [] a b same = inr (c ∷ x, refl, sym same)
fronts (c ∷ x) (d ∷ y) a b same = go (fronts x y a b tails)
  where
    tails : x ++ a ≡ y ++ b
    tails = cc

    heads : c ≡ d
    heads = cc

    go : Reaches x y a b ⊎ Reaches y x b a → Reaches (c ∷ x) (d ∷ y) a b ⊎ Reaches (d ∷ y) (c ∷ x) b a
    go (inl r) = inl (subst (λ (n : ℕ). Reaches (c ∷ x) (n ∷ y) a b) heads (longer c _ _ _ _ r))
    go (inr r) = inr (subst (λ (n : ℕ). Reaches (n ∷ y) (c ∷ x) b a) heads (longer c _ _ _ _ r))

-- a longest front doesn't go on to another
no_longer : {P : List ℕ → Type 0} {text a b : List ℕ} (x : IsLongest P text a) (y : IsLongest P text b) → Reaches x.front y.front a b → a ≡ b
no_longer {P} {text} {a} {b} x y r = r.2 ∙ ap (λ (xs : List ℕ). xs ++ b) (x.longest r.0 b r.2 (subst P r.1 y.is))

-- two longest fronts have the same rest
pub one_longest : {P : List ℕ → Type 0} {text a b : List ℕ} → IsLongest P text a → IsLongest P text b → a ≡ b
one_longest {P} {text} {a} {b} x y = go (fronts x.front y.front a b (sym x.split ∙ y.split))
  where
    go : Reaches x.front y.front a b ⊎ Reaches y.front x.front b a → a ≡ b
    go (inl r) = no_longer x y r
    go (inr r) = sym (no_longer y x r)

-- the front is what stands before its rest
pub front_before : {P : List ℕ → Type 0} {text rest : List ℕ} (found : IsLongest P text rest) → before text rest ≡ found.front
front_before {P} {text} {rest} found =
    ap (λ (xs : List ℕ). before xs rest) found.split
    ∙ take_at found.front rest (length (found.front ++ rest) - length rest) (omega (arith, length-append found.front rest))

-- a name begins with a letter
pub name_begins : (c : ℕ) (cs : List ℕ) {rest : List ℕ} → IsLongest IsName (c ∷ cs) rest → is_upper c || is_lower c ≡ true
name_begins c cs {rest} found = go found.front found.split found.is
  where
    go : (front : List ℕ) → c ∷ cs ≡ front ++ rest → IsName front → is_upper c || is_lower c ≡ true
    go [] split is = absurd is
    go (d ∷ ds) split is = subst (λ (n : ℕ). is_upper n || is_lower n ≡ true) head_same is.0
      where
        head_same : d ≡ c
        head_same = cc

pub no_name : {rest : List ℕ} → IsLongest IsName [] rest → ⊥
no_name {rest} found = go found.front found.split found.is
  where
    go : (front : List ℕ) → [] ≡ front ++ rest → IsName front → ⊥
    go [] split is = is
    go (d ∷ ds) split is = cc

-- a number begins with a digit
digit_first : (c : ℕ) (cs : List ℕ) → IsNumber (c ∷ cs) → is_digit c ≡ true
digit_first c cs (inl zero_alone) = subst (λ (n : ℕ). is_digit n ≡ true) (sym zero_alone.0) refl
digit_first c cs (inr digits) = digits.1.0

pub number_begins : (c : ℕ) (cs : List ℕ) {rest : List ℕ} → IsLongest IsNumber (c ∷ cs) rest → is_digit c ≡ true
number_begins c cs {rest} found = go found.front found.split found.is
  where
    go : (front : List ℕ) → c ∷ cs ≡ front ++ rest → IsNumber front → is_digit c ≡ true
    go [] split is = absurd is
    go (d ∷ ds) split is = subst (λ (n : ℕ). is_digit n ≡ true) head_same (digit_first d ds is)
      where
        head_same : d ≡ c
        head_same = cc

pub no_number : {rest : List ℕ} → IsLongest IsNumber [] rest → ⊥
no_number {rest} found = go found.front found.split found.is
  where
    go : (front : List ℕ) → [] ≡ front ++ rest → IsNumber front → ⊥
    go [] split is = is
    go (d ∷ ds) split is = cc
