-- The place of a name among those of the root, then among the additions.
use Rattle.std.proofs.Common.{◌≡◌, ℕ, suc, ◌+◌, List, [], ◌∷◌, ◌++◌, length, Bool, true, false, cond, Option, Some, None, refl, sym, ap, ◌∙◌, arith}
use Rattle.json_defs.specs.Members.{Text, same_text, place_in}
use Rattle.json_defs.specs.Readings.{first_of}
use Rattle.proof_json.proofs.values.Words.{place_after}

abbrev later : ℕ → Option ℕ → Option ℕ
later k None = None
later k (Some i) = Some (k + i)

shifted : (names : List Text) (name : Text) (k j : ℕ) → place_in names name (k + j) ≡ later k (place_in names name j)
shifted [] name k j = refl
shifted (n ∷ names) name k j =
    by_same (same_text n name)
    (ap (place_in names name) (let e : suc (k + j) ≡ k + suc j = omega arith in e) ∙ shifted names name k (suc j))
  where
    by_same : (b : Bool) → place_in names name (suc (k + j)) ≡ later k (place_in names name (suc j))
        → cond b (Some (k + j)) (place_in names name (suc (k + j))) ≡ later k (cond b (Some j) (place_in names name (suc j)))
    by_same true h = refl
    by_same false h = h

module _ (root additions : List Text) (name : Text) where
  pub in_root : (i : ℕ) → place_in root name 0 ≡ Some i → Some i ≡ place_in (root ++ additions) name 0
  in_root i h = sym (place_after root additions name 0 ∙ ap (λ (o : Option ℕ). first_of o (place_in additions name (0 + length root))) h)

  past_root : (n : ℕ) → n ≡ length root → place_in root name 0 ≡ None → place_in (root ++ additions) name 0 ≡ later n (place_in additions name 0)
  past_root n e h =
      place_after root additions name 0
      ∙ ap (λ (o : Option ℕ). first_of o (place_in additions name (0 + length root))) h
      ∙ ap (place_in additions name) (let f : 0 + length root ≡ n + 0 = omega (arith, e) in f)
      ∙ shifted additions name n 0

  pub in_additions : (n i : ℕ) → n ≡ length root → place_in root name 0 ≡ None → place_in additions name 0 ≡ Some i
      → Some (n + i) ≡ place_in (root ++ additions) name 0
  in_additions n i e h g = sym (past_root n e h ∙ ap (later n) g)

  pub in_neither : (n : ℕ) → n ≡ length root → place_in root name 0 ≡ None → place_in additions name 0 ≡ None
      → None ≡ place_in (root ++ additions) name 0
  in_neither n e h g = sym (past_root n e h ∙ ap (later n) g)
