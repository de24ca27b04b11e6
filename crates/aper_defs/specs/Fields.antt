-- The fields of an encoding. A field is a question with its answer: what kind of number stands there, and which; or it is a run of
-- octets, or of bits.
use Rattle.std.specs.Prelude.{ℕ, List, Option, ℤ}
use Rattle.asn1_syntax.specs.declared.types.definition.Size.{Size}
use Rattle.aper_defs.specs.Trees.{Slot}

-- one step of the way from a whole value to a value inside it
pub data Step : Type 0 where
  component : (name : List ℕ) → Step  -- a component, alternative or addition with this name
  member : (index : ℕ) → Step  -- a member of a SEQUENCE OF
  element : (id : ℕ) → Step  -- an information element
  outcome : (index : ℕ) → Step  -- the body of a Protocol-PDU

-- the way to a value, the last step first
abbrev pub Path : Type 0
Path = List Step

-- what a number stands for; a number that is too great is refused for it
pub data Role : Type 0 where
  value : Role
  index : Role
  length : Role

-- The bounds of a length determinant (X.691, 11.9). A whole length is from `least` to `most`. One that may come in parts has so many
-- units before it, and the number of units in the part before it. In both, the whole length isn't in the root of a size.
pub data Extent : Type 0 where
  whole : (least most : ℕ) (outside : Option Size) → Extent
  part : (before previous : ℕ) (outside : Option Size) → Extent

-- what is asked at a place
pub data Ask : Type 0 where
  -- a bit of its own: BOOLEAN (X.691, 12), extension bits, bits of OPTIONAL components (19.2)
  flag : Ask
  -- a constrained whole number of so many bits, at most this (11.5)
  constrained : (role : Role) (width most : ℕ) → Ask
  -- the octets of a constrained whole number of which so many are needed, at most this (11.5.7.4)
  digits : (count most : ℕ) → Ask
  -- so many octets of a whole number outside the range from low to high (11.8)
  signed : (count : ℕ) (low high : ℤ) → Ask
  -- a normally small number below 64 (11.6)
  small : (role : Role) → Ask
  -- a length determinant (11.9)
  extent : (bounds : Extent) → Ask
  -- which additions are there, as a bit for each (19.8)
  addition_bits : (count : ℕ) → Ask
  -- a character (30.5)
  character : Ask
  -- how many information elements come, at least so many
  ie_count : (least : ℕ) → Ask
  -- the id of an information element, with those of its set, those of them that may still come, and how many elements come after it
  ie_id : (known left : List Slot) (after : ℕ) → Ask
  -- zero bits up to the next octet (11.2.1 and others: "octet-aligned")
  pad : Ask
  -- The length of an open type (11.2). Its contents are whole octets: after their last field come zero bits up to the next octet;
  -- the answer is 1 where there was no bit at all, and then a whole octet of zeros stands there (11.1.3). Then comes their end, which
  -- has no bits.
  opening : Ask
  closing : Ask
  end : Ask

-- what a run is made of
pub data RunUnit : Type 0 where
  bit : RunUnit
  octet : RunUnit

pub data Field : Type 0 where
  asked : (path : Path) (question : Ask) (answer : ℕ) → Field
  run : (path : Path) (unit : RunUnit) (units : List ℕ) → Field
