-- Intervals of a function on numbers, as lists: its values from one place up to, and without, another.
use Rattle.std.specs.Prelude.{ℕ, zero, suc, ◌+◌, ◌-◌, ◌≤◌, max, List, [], ◌∷◌, ⊤}

-- f a, f (a + 1), .. : this many
unfoldable pub segment : {X : Type 0} → (ℕ → X) → ℕ → ℕ → List X
segment f a zero = []
segment f a (suc n) = f a ∷ segment f (a + 1) n

-- f a, f (a + 1), .. f (b - 1)
unfoldable pub upto : {X : Type 0} → (ℕ → X) → ℕ → ℕ → List X
upto f a b = segment f a (b - a)

-- The places of a list follow without a gap on those below n, where none is past the first that has not come yet. What was
-- there before may come again.
unfoldable pub HasNoGap : {X : Type 0} → ℕ → List (ℕ × X) → Type 0
HasNoGap n [] = ⊤
HasNoGap n (e ∷ es) = (e.0 ≤ n) × HasNoGap (max n (e.0 + 1)) es

-- the first place that has not come, after these
unfoldable pub reach : {X : Type 0} → ℕ → List (ℕ × X) → ℕ
reach n [] = n
reach n (e ∷ es) = reach (max n (e.0 + 1)) es
