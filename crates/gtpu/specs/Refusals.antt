-- Why octets are refused (TS 29.281, 5.1 and 5.2.1): a table of reasons with their conditions, of which the first that
-- holds is reported.
use Rattle.std.specs.Prelude.{◌≡◌, ◌≢◌, ℕ, ◌+◌, ◌*◌, ◌/◌, ◌<◌, true, false, if◌then◌else◌, List, [], ◌∷◌, length, drop, slice_index, ◌⊎◌}
use Rattle.std.specs.Int.{w16, from_be_bytes}
use Rattle.gnb_types.specs.Refusals.{Condition, IsFirst}
use Rattle.gtpu.specs.declared.Kind.{Kind}
use Rattle.gtpu.specs.declared.GtpuError.{GtpuError}
use Rattle.gtpu.specs.declared.GtpuError.TheVariants as errors
use Rattle.gtpu.specs.Headers.{ExtensionHeader, Begins, is_required, may_have}
use Rattle.gtpu.specs.Packets.{kind_code, e_flag, has_flag}

-- Of a header of this type before these octets: its length is one that it may not have, or it passes the end.
abbrev pub HasWrongLength : ℕ → List ℕ → Type 0
HasWrongLength code [] = Unit {0}
HasWrongLength code (units ∷ rest) = (may_have code units ≡ false) ⊎ (1 + length rest < 4 * units)

-- Headers that may be there are followed by one, of a type other than 0, with this fault.
pub record Meets (fault : ℕ → List ℕ → Type 0) (first : ℕ) (octets : List ℕ) : Type 0 where
  pub before : List ExtensionHeader
  pub code : ℕ
  pub rest : List ℕ
  pub begins : Begins first octets before code rest
  pub some : 0 < code
  pub wrong : fault code rest

abbrev pub IsRequired : ℕ → List ℕ → Type 0
IsRequired code rest = is_required code ≡ true

-- of the header at the front
abbrev pub faults_at : ℕ → List ℕ → List (Condition GtpuError)
faults_at code octets = (errors.ExtRequired, IsRequired code octets) ∷ (errors.ExtLength, HasWrongLength code octets) ∷ []

-- of each header in turn
abbrev pub header_refusals : ℕ → List ℕ → List (Condition GtpuError)
header_refusals first octets = (errors.ExtRequired, Meets IsRequired first octets) ∷ (errors.ExtLength, Meets HasWrongLength first octets) ∷ []

-- the number of octets after the first eight, as the length says
abbrev pub length_of : List ℕ → ℕ
length_of bytes = from_be_bytes w16 (slice_index bytes 2 ∷ slice_index bytes 3 ∷ [])

-- Where E is 0 there is no extension header.
abbrev pub first_of : List ℕ → ℕ
first_of bytes = if e_flag (slice_index bytes 0) then slice_index bytes 11 else 0

abbrev pub refusals : List ℕ → List (Condition GtpuError)
refusals bytes =
    (errors.Truncated, length bytes < 8)
    ∷ (errors.Version, slice_index bytes 0 / 16 ≢ 3)
    ∷ (errors.Kind, (kind : Kind) → slice_index bytes 1 ≢ kind_code kind)
    ∷ (errors.Truncated, length bytes < 8 + length_of bytes)
    ∷ (
      errors.Length,
      (8 + length_of bytes < length bytes)
          ⊎ ((has_flag (slice_index bytes 0) ≡ true) × (length_of bytes < 4)),
    )
    ∷ header_refusals (first_of bytes) (drop 12 bytes)

-- the reason for which the octets are refused
unfoldable pub IsRefusal : GtpuError → List ℕ → Type 0
IsRefusal reason bytes = IsFirst (refusals bytes) reason
