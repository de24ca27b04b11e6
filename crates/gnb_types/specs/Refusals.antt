-- Why something is refused: a table of reasons with their conditions, of which the first that holds is reported.
use Rattle.std.specs.Prelude.{◌≡◌, ◌⊎◌, ◌↔◌, Bool, true, if◌then◌else◌, List, [], ◌∷◌, Option, Some, None}

-- a reason, and when it applies
abbrev pub Condition : Type 0 → Type 1
Condition E = E × Type 0

-- one of them holds, and none before it does
abbrev pub IsFirst : {E : Type 0} → List (Condition E) → E → Type 0
IsFirst [] reason = ⊥
IsFirst (c ∷ cs) reason = (c.1 × (reason ≡ c.0)) ⊎ (¬ c.1 × IsFirst cs reason)

abbrev pub NoneHolds : {E : Type 0} → List (Condition E) → Type 0
NoneHolds [] = Unit {0}
NoneHolds (c ∷ cs) = ¬ c.1 × NoneHolds cs

-- ---- Internal: the same by tests, for proofs

-- the first reason whose test holds
abbrev pub first_reason : {E : Type 0} → List (Bool × E) → Option E
first_reason [] = None
first_reason (t ∷ ts) = if t.0 then Some t.1 else first_reason ts

-- row by row the same reason, and the test holds exactly where the condition does
abbrev pub AreTests : {E : Type 0} → List (Bool × E) → List (Condition E) → Type 0
AreTests [] [] = Unit {0}
AreTests (t ∷ ts) (c ∷ cs) = (t.1 ≡ c.0) × ((t.0 ≡ true) ↔ c.1) × AreTests ts cs
AreTests ts cs = ⊥
