-- What holds of what a unit keeps after an answer.
use Rattle.unit_defs.specs.Ways.{Answer, gives, spent}

abbrev pub HoldsAfter : {M P R : Type 0} → (R → Type 0) → Answer M P R → Type 0
HoldsAfter Q (gives outputs after) = Q after
HoldsAfter Q (spent counter) = Unit {0}
