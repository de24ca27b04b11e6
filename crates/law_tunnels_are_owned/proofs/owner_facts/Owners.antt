-- Open TEIDs and who names them, of any node: TEIDs are closed, and new ones are given.
use Rattle.std.proofs.Common.{◌≡◌, ◌≤◌, ◌==◌, ℕ, ◌+◌, Bool, true, false, cond, not, ◌&&◌, ◌||◌, List, [], ◌∷◌, ◌++◌, Option, Some, None, ◌⊎◌, inl, inr, refl, sym, ap, ◌∙◌, arith, eqb-true}
use Rattle.std.specs.Ordering.{nat_cmp, eq_by_cmp}
use Rattle.std.specs.Cmp.{nat_cmp_total}
use Rattle.tables.specs.Tables.{find, put, without}
use Rattle.tables.proofs.TableLaws.{find-put-same, find-put-other, find-without}
use Rattle.unit_defs.specs.Teids.{without_each}
use Rattle.unit_defs.specs.CuUpBearers.{is_one_of}
use Rattle.proof_run_steps.specs.teids.Given.{below, GrowsTo}
use Rattle.proof_run_steps.proofs.teids.Grows.{put_or}
use Rattle.law_tunnels_are_owned.proofs.open_tunnels.Opened.{key_test}
use Rattle.law_tunnels_are_owned.specs.owner_facts.Owned.{AreNamed, WereGiven}

-- ---- truth values

pub and_true : (a : Bool) → a ≡ a && true
and_true true = refl
and_true false = refl

pub first_of : (a b : Bool) → a && b ≡ true → a ≡ true
first_of true b h = refl
first_of false b h = absurd cc

pub second_of : (a b : Bool) → a && b ≡ true → b ≡ true
second_of true b h = h
second_of false b h = absurd cc

pub both_of : (a b : Bool) → a ≡ true → b ≡ true → a && b ≡ true
both_of a b p q = (λ i. p i && q i)

pub and_apart : (a b c : Bool) → a && (b && c) ≡ (a && b) && c
and_apart true b c = refl
and_apart false b c = refl

pub one_or : (a b : Bool) → a || b ≡ true → (a ≡ true) ⊎ (b ≡ true)
one_or true b h = inl refl
one_or false b h = inr h

-- a test that holds of none but these
pub unless : (a b : Bool) → (a ≡ true → b ≡ true → ⊥) → a ≡ a && not b
unless true true none = absurd (none refl refl)
unless true false none = refl
unless false b none = refl

pub holds_not : (a b : Bool) → (a ≡ true → b ≡ true) → false ≡ a && not b
holds_not true b h = ap not (sym (h refl))
holds_not false b h = refl

not_key : (q k : ℕ) → q + 1 ≤ k → eq_by_cmp nat_cmp q k ≡ false
not_key q k low = key_test q k ∙ by (k == q) refl
  where
    by : (t : Bool) → (k == q) ≡ t → t ≡ false
    by true e = let same : k ≡ q = eqb-true k q e in absurd (omega (arith, low, same))
    by false e = refl

same_some : {X : Type 0} (o : Option X) (x y : X) → o ≡ Some x → o ≡ Some y → x ≡ y
same_some None x y p q = absurd cc
same_some (Some z) x y p q = let a : z ≡ x = cc in let b : z ≡ y = cc in sym a ∙ b

module _ {X : Type 0} where
  pub one_owner : (ts : List (ℕ × X)) (names : X → ℕ → Bool) → AreNamed ts names → (q : ℕ) (o p : X) → names o q ≡ true → names p q ≡ true → o ≡ p
  one_owner ts names a q o p h k = same_some (find nat_cmp ts q) o p (a.stands q o h) (a.stands q p k)

  pub same_names : (ts : List (ℕ × X)) (names other : X → ℕ → Bool) → AreNamed ts names → ((o : X) (q : ℕ) → other o q ≡ names o q) → AreNamed ts other
  same_names ts names other a is = record { named = λ q o e. is o q ∙ a.named q o e; stands = λ q o e. a.stands q o (sym (is o q) ∙ e) }

  -- ---- TEIDs are closed

  find_without_each : (cs : List ℕ) (m : List (ℕ × X)) (q : ℕ) → find nat_cmp (without_each m cs) q ≡ cond (is_one_of cs q) None (find nat_cmp m q)
  find_without_each [] m q = refl
  find_without_each (c ∷ cs) m q =
      find_without_each cs (without nat_cmp m c) q
      ∙ ap (cond (is_one_of cs q) None) (find-without nat_cmp_total m c q ∙ ap (λ (t : Bool). cond t None (find nat_cmp m q)) (key_test q c))
      ∙ by (c == q) (is_one_of cs q)
    where
      by : (a b : Bool) → cond b None (cond a None (find nat_cmp m q)) ≡ cond (a || b) None (find nat_cmp m q)
      by true true = refl
      by true false = refl
      by false b = refl

  left_there : (o : Option X) (x : X) (t : Bool) → cond t None o ≡ Some x → (not t ≡ true) × (o ≡ Some x)
  left_there o x true h = absurd cc
  left_there o x false h = (refl, h)

  still_there : (o : Option X) (x : X) (t : Bool) → not t ≡ true → o ≡ Some x → cond t None o ≡ Some x
  still_there o x true h e = absurd cc
  still_there o x false h e = e

  -- what is closed is no longer named
  pub named_without : (ts : List (ℕ × X)) (names other : X → ℕ → Bool) (cs : List ℕ) → AreNamed ts names
      → ((o : X) (q : ℕ) → other o q ≡ names o q && not (is_one_of cs q)) → AreNamed (without_each ts cs) other
  named_without ts names other cs a is = record { named = still; stands = there }
    where
      still : (q : ℕ) (o : X) → find nat_cmp (without_each ts cs) q ≡ Some o → other o q ≡ true
      still q o e =
          let left : (not (is_one_of cs q) ≡ true) × (find nat_cmp ts q ≡ Some o) =
          left_there (find nat_cmp ts q) o (is_one_of cs q) (sym (find_without_each cs ts q) ∙ e) in
          is o q ∙ both_of (names o q) (not (is_one_of cs q)) (a.named q o left.1) left.0

      there : (q : ℕ) (o : X) → other o q ≡ true → find nat_cmp (without_each ts cs) q ≡ Some o
      there q o e =
          let h : names o q && not (is_one_of cs q) ≡ true = sym (is o q) ∙ e in
          find_without_each cs ts q
          ∙ still_there (find nat_cmp ts q) o (is_one_of cs q) (second_of (names o q) _ h) (a.stands q o (first_of _ (not (is_one_of cs q)) h))

  -- ---- TEIDs are given

  abbrev pub put_each : List (ℕ × X) → List (ℕ × X) → List (ℕ × X)
  put_each table [] = table
  put_each table (e ∷ es) = put_each (put nat_cmp table e.0 e.1) es

  -- entries of the TEIDs from this one on
  abbrev pub AreFrom : ℕ → List (ℕ × X) → Type 0
  AreFrom next [] = Unit {0}
  AreFrom next (e ∷ es) = (e.0 ≡ next) × AreFrom (next + 1) es

  -- this TEID with this owner is among them
  abbrev pub IsIn : ℕ → X → List (ℕ × X) → Type 0
  IsIn q o [] = ⊥
  IsIn q o (e ∷ es) = ((e.0 ≡ q) × (e.1 ≡ o)) ⊎ IsIn q o es

  pub in_left : (q : ℕ) (o : X) (xs ys : List (ℕ × X)) → IsIn q o xs → IsIn q o (xs ++ ys)
  in_left q o [] ys h = absurd h
  in_left q o (x ∷ xs) ys (inl h) = inl h
  in_left q o (x ∷ xs) ys (inr h) = inr (in_left q o xs ys h)

  pub in_right : (q : ℕ) (o : X) (xs ys : List (ℕ × X)) → IsIn q o ys → IsIn q o (xs ++ ys)
  in_right q o [] ys h = h
  in_right q o (x ∷ xs) ys h = inr (in_right q o xs ys h)

  pub in_either : (q : ℕ) (o : X) (xs ys : List (ℕ × X)) → IsIn q o (xs ++ ys) → IsIn q o xs ⊎ IsIn q o ys
  in_either q o [] ys h = inr h
  in_either q o (x ∷ xs) ys (inl h) = inl (inl h)
  in_either q o (x ∷ xs) ys (inr h) = by (in_either q o xs ys h)
    where
      by : IsIn q o xs ⊎ IsIn q o ys → IsIn q o (x ∷ xs) ⊎ IsIn q o ys
      by (inl a) = inl (inr a)
      by (inr b) = inr b

  put_old : (n : ℕ) (es m : List (ℕ × X)) (q : ℕ) (o : X) → AreFrom n es → q + 1 ≤ n → find nat_cmp m q ≡ Some o → find nat_cmp (put_each m es) q ≡ Some o
  put_old n [] m q o from low there = there
  put_old n (e ∷ es) m q o from low there =
      let at : e.0 ≡ n = from.0 in
      put_old (n + 1) es (put nat_cmp m e.0 e.1) q o from.1 (omega (arith, low))
      (find-put-other nat_cmp_total m e.0 e.1 q (not_key q e.0 (omega (arith, low, at))) ∙ there)

  put_new : (n : ℕ) (es m : List (ℕ × X)) (q : ℕ) (o : X) → AreFrom n es → IsIn q o es → find nat_cmp (put_each m es) q ≡ Some o
  put_new n [] m q o from h = absurd h
  put_new n (e ∷ es) m q o from (inl h) =
      let at : e.0 ≡ n = from.0 in
      let here : e.0 ≡ q = h.0 in
      put_old (n + 1) es (put nat_cmp m e.0 e.1) q o from.1 (omega (arith, at, here))
      (ap (find nat_cmp (put nat_cmp m e.0 e.1)) (sym h.0) ∙ find-put-same nat_cmp_total m e.0 e.1 ∙ ap (λ (x : X). Some x) h.1)
  put_new n (e ∷ es) m q o from (inr h) = put_new (n + 1) es (put nat_cmp m e.0 e.1) q o from.1 h

  pub put_which : (es m : List (ℕ × X)) (q : ℕ) (o : X) → find nat_cmp (put_each m es) q ≡ Some o → IsIn q o es ⊎ (find nat_cmp m q ≡ Some o)
  put_which [] m q o e = inr e
  put_which (x ∷ xs) m q o e = by (put_which xs (put nat_cmp m x.0 x.1) q o e)
    where
      old : ((q ≡ x.0) × (x.1 ≡ o)) ⊎ (find nat_cmp m q ≡ Some o) → IsIn q o (x ∷ xs) ⊎ (find nat_cmp m q ≡ Some o)
      old (inl h) = inl (inl (sym h.0, h.1))
      old (inr h) = inr h

      by : IsIn q o xs ⊎ (find nat_cmp (put nat_cmp m x.0 x.1) q ≡ Some o) → IsIn q o (x ∷ xs) ⊎ (find nat_cmp m q ≡ Some o)
      by (inl h) = inl (inr h)
      by (inr h) = old (put_or m x.0 x.1 q o h)

  -- those that are given weren't open before, and are named then
  pub named_given : (ts es : List (ℕ × X)) (names other : X → ℕ → Bool) (n : ℕ) → AreNamed ts names
      → ((q : ℕ) (o : X) → find nat_cmp ts q ≡ Some o → q + 1 ≤ n) → AreFrom n es
      → ((o : X) (q : ℕ) → other o q ≡ true → IsIn q o es ⊎ (names o q ≡ true))
      → ((o : X) (q : ℕ) → IsIn q o es → other o q ≡ true) → ((o : X) (q : ℕ) → names o q ≡ true → other o q ≡ true)
      → AreNamed (put_each ts es) other
  named_given ts es names other n a low from split added old = record { named = λ q o e. still q o (put_which es ts q o e); stands = λ q o e. there q o (split o q e) }
    where
      still : (q : ℕ) (o : X) → IsIn q o es ⊎ (find nat_cmp ts q ≡ Some o) → other o q ≡ true
      still q o (inl h) = added o q h
      still q o (inr h) = old o q (a.named q o h)

      there : (q : ℕ) (o : X) → IsIn q o es ⊎ (names o q ≡ true) → find nat_cmp (put_each ts es) q ≡ Some o
      there q o (inl h) = put_new n es ts q o from h
      there q o (inr h) = put_old n es ts q o from (low q o (a.stands q o h)) (a.stands q o h)

-- what is open later was given
pub given_then : {X : Type 0} (next : ℕ) (ts : List (ℕ × X)) (later_next : ℕ) (later : List (ℕ × X)) → WereGiven next ts → GrowsTo next ts later_next later
    → WereGiven later_next later
given_then {X = X} next ts later_next later given grows q o e = by (grows.1 q o e)
  where
    by : (find nat_cmp ts q ≡ Some o) ⊎ ((below next ≤ q) × (q + 1 ≤ below later_next)) → q + 1 ≤ below later_next
    by (inl was) = let low : q + 1 ≤ below next = given q o was in omega (arith, low, grows.0)
    by (inr given_now) = given_now.1
