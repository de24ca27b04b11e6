-- What a bit reader is seen as, and what its calls do.
use Rattle.std.specs.Prelude.{◌≡◌, ℕ, ◌+◌, ◌*◌, ◌/◌, ◌^◌, ◌<◌, ◌≤◌, ◌==◌, Bool, true, false, List, drop, take, length, Result, Ok, Err}
use Rattle.bits_core.specs.declared.reader.BitError.{BitError}
use Rattle.bits_core.specs.declared.reader.BitError.TheVariants.{Short, Padding}
use Rattle.bits_core.specs.Bits.{number_of, octet_bits, pad_of}

-- the octets, and the place in their bits
pub record Reading : Type 0 where
  pub octets : List ℕ
  pub place : ℕ

abbrev pub bits_left : Reading → List Bool
bits_left r = drop r.place (octet_bits r.octets)

-- so many bits further
abbrev pub moved : Reading → ℕ → Reading
moved r count = record { octets = r.octets; place = r.place + count }

-- bits were taken as a number
pub record TakesNumber (old new : Reading) (width n : ℕ) : Type 0 where
  pub enough : width ≤ length (bits_left old)
  pub value : n ≡ number_of (take width (bits_left old))
  pub small : n < 2 ^ width
  pub moves : new ≡ moved old width

abbrev pub TakesBits : Reading → Reading → ℕ → Result ℕ BitError → Type 0
TakesBits old new width (Ok n) = TakesNumber old new width n
TakesBits old new width (Err Short) = (length (bits_left old) < width) × (new ≡ old)
TakesBits old new width (Err Padding) = ⊥

-- the number that the bits up to the next octet spell: 0 where they are zeros
abbrev pub pad_number : Reading → ℕ
pad_number r = number_of (take (pad_of r.place) (bits_left r))

abbrev pub SkipsPad : Reading → Reading → Result (Unit {0}) BitError → Type 0
SkipsPad old new (Ok done) = ((pad_number old == 0) ≡ true) × (new ≡ moved old (pad_of old.place))
SkipsPad old new (Err Short) = ⊥
SkipsPad old new (Err Padding) = ((pad_number old == 0) ≡ false) × (new ≡ old)

-- whole octets from a place at the beginning of one
abbrev pub octets_left : Reading → List ℕ
octets_left r = drop (r.place / 8) r.octets

-- so many octets were taken
pub record TakesRun (old new : Reading) (count : ℕ) (octets : List ℕ) : Type 0 where
  pub enough : count ≤ length (octets_left old)
  pub value : octets ≡ take count (octets_left old)
  pub moves : new ≡ moved old (8 * count)

-- fewer octets are left
abbrev pub LacksOctets : Reading → Reading → ℕ → BitError → Type 0
LacksOctets old new count Short = (length (octets_left old) < count) × (new ≡ old)
LacksOctets old new count Padding = ⊥
