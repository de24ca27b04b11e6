-- Four tests, one after another.
use Rattle.std.proofs.Common.{◌≡◌, Bool, true, false, ◌&&◌, refl}

pub second_fails : (a b c d : Bool) → a ≡ true → b ≡ false → false ≡ (a && b && c && d)
second_fails true true c d e f = absurd cc
second_fails true false c d e f = refl
second_fails false b c d e f = absurd cc

pub third_fails : (a b c d : Bool) → a ≡ true → b ≡ true → c ≡ false → false ≡ (a && b && c && d)
third_fails true true true d e f h = absurd cc
third_fails true true false d e f h = refl
third_fails true false c d e f h = absurd cc
third_fails false b c d e f h = absurd cc

pub fourth_decides : (a b c d : Bool) → a ≡ true → b ≡ true → c ≡ true → d ≡ (a && b && c && d)
fourth_decides true true true d e f h = refl
fourth_decides true true false d e f h = absurd cc
fourth_decides true false c d e f h = absurd cc
fourth_decides false b c d e f h = absurd cc
