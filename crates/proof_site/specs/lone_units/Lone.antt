-- Outputs by which a unit makes no step: that it holds what it is given, or refuses an event.
use Rattle.std.specs.Prelude.{◌≡◌, List, [], ◌∷◌}
use Rattle.std.specs.List.{AllByRecursion}
use Rattle.unit_defs.specs.Ways.{Output, held, no, Answer, gives, spent}

abbrev pub IsMade : {M P : Type 0} → Output M P → Type 0
IsMade (held reason) = ⊥
IsMade (no reason) = ⊥
IsMade output = Unit {0}

-- a step is made: none of its outputs is one of them
abbrev pub Makes : {M P R : Type 0} → Answer M P R → Type 0
Makes (gives outputs after) = AllByRecursion IsMade outputs
Makes (spent counter) = Unit {0}

-- one that stands alone leaves the record as it was
abbrev pub StaysWhereLone : {M P R : Type 0} → R → Answer M P R → Type 0
StaysWhereLone r (gives (held reason ∷ []) after) = after ≡ r
StaysWhereLone r (gives (no reason ∷ []) after) = after ≡ r
StaysWhereLone r answer = Unit {0}

-- such a step, and what is so of the record then
abbrev pub MakesTo : {M P R : Type 0} → (R → Type 0) → Answer M P R → Type 0
MakesTo Q (gives outputs after) = Q after × AllByRecursion IsMade outputs
MakesTo Q (spent counter) = Unit {0}

-- what is so of the record after a step
abbrev pub EndsIn : {M P R : Type 0} → (R → Type 0) → Answer M P R → Type 0
EndsIn Q (gives outputs after) = Q after
EndsIn Q (spent counter) = Unit {0}

-- a record stays where it was left alone, and something is so of it after each step
abbrev pub StaysIn : {M P R : Type 0} → (R → Type 0) → R → Answer M P R → Type 0
StaysIn Q r answer = StaysWhereLone r answer × EndsIn Q answer
