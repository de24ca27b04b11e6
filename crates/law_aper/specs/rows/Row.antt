-- Worked spellings: a type, a value of it, and the octets; and octets that are no spelling.
use Rattle.std.specs.Prelude.{ℕ, List, [], ◌∷◌, Bool, Result, Ok, Err}
use Rattle.bits_core.specs.Bits.{octet_bits}
use Rattle.asn1_syntax.specs.declared.types.definition.Size.{Size}
use Rattle.aper_defs.specs.Trees.{Tree}
use Rattle.aper_defs.specs.Values.{Value}
use Rattle.aper_defs.specs.declared.reason.Reason.{Reason}
use Rattle.aper_defs.specs.Fields.{Path}
use Rattle.aper_defs.specs.Reading.{Fault, decoded}
use Rattle.aper_defs.specs.Bits.{put_all}
use Rattle.aper_defs.specs.Membership.{Has}
use Rattle.aper_defs.specs.Spelling.{whole_layout}

pub record Row : Type 0 where
  pub t : Tree
  pub v : Value
  pub spelling : List ℕ

abbrev pub spells : Tree → Value → List ℕ → Row
spells t v spelling = record { t = t; v = v; spelling = spelling }

abbrev pub size : ℕ → ℕ → Bool → Size
size low high extensible = record { low = low; high = high; extensible = extensible }

-- the bits of a row's octets, and those of its value's layout
abbrev pub told_bits : Row → List Bool
told_bits row = octet_bits row.spelling

abbrev pub laid_bits : Row → List Bool
laid_bits row = put_all [] (whole_layout row.t row.v)

-- each row's value is one of its type
abbrev pub AreValues : List Row → Type 0
AreValues [] = Unit {0}
AreValues (row ∷ rows) = Has [] row.t row.v × AreValues rows

-- what a row's octets are read as
abbrev pub read_value : Row → Result Value Fault
read_value row = decoded row.t row.spelling

abbrev pub told_value : Row → Result Value Fault
told_value row = Ok row.v

-- octets that spell nothing: the number of the first wrong bit, why, and the way to it
pub record Refusal : Type 0 where
  pub t : Tree
  pub octets : List ℕ
  pub fault : Fault

abbrev pub wrong : Tree → List ℕ → ℕ → Reason → Path → Refusal
wrong t octets bit reason path = record { t = t; octets = octets; fault = record { bit = bit; reason = reason; path = path } }

abbrev pub read_refusal : Refusal → Result Value Fault
read_refusal row = decoded row.t row.octets

abbrev pub told_refusal : Refusal → Result Value Fault
told_refusal row = Err row.fault
