-- Types inside other ones.
use Rattle.std.proofs.Common.{ℕ, zero, suc, ◌<◌, List, [], ◌∷◌, length, get_or, arith}
use Rattle.asn1_syntax.specs.declared.types.definition.Component.{Component}
use Rattle.asn1_defs.specs.Links.{AreBelow}

pub placed_below : (n : ℕ) (parts : List Component) (i : ℕ) (x : Component) → AreBelow n parts → i < length parts
    → (get_or parts i x).definition.number < n
placed_below n [] i x h k = absurd (omega (arith, k))
placed_below n (part ∷ parts) zero x h k = h.0
placed_below n (part ∷ parts) (suc i) x h k = placed_below n parts i x h.1 (omega (arith, k))
