-- Extension headers of GTP-U (TS 29.281, 5.2.1): the length of the header in units of 4 octets, its content, and the
-- type of the header after it, 0 where there is none.
use Rattle.std.specs.Prelude.{◌≡◌, ◌==◌, ◌&&◌, ◌||◌, ℕ, ◌+◌, ◌*◌, ◌/◌, ◌<◌, Bool, true, false, not, if◌then◌else◌, nat_lt, nat_le, List, [], ◌∷◌, ◌++◌, length, find, Option}
use Rattle.std.specs.List.{AllByRecursion}
use Rattle.std.specs.Option.{option_map}
use Rattle.gtpu.specs.declared.headers.TheConstants.{NR_RAN_CONTAINER, PDCP_PDU_NUMBER, LONG_PDCP_PDU_NUMBER}

pub record ExtensionHeader : Type 0 where
  pub code : ℕ
  pub content : List ℕ

abbrev pub is_known : ℕ → Bool
is_known code = code == NR_RAN_CONTAINER || code == PDCP_PDU_NUMBER || code == LONG_PDCP_PDU_NUMBER

-- whether a reader that doesn't know the type refuses the packet: its top bit is 1
abbrev pub is_required : ℕ → Bool
is_required code = nat_le 128 code && not (is_known code)

-- the lengths, in units of 4 octets, that a header of the type may have
abbrev pub may_have : ℕ → ℕ → Bool
may_have code units =
    if code == PDCP_PDU_NUMBER then units == 1 else if code == LONG_PDCP_PDU_NUMBER then units == 2 else nat_lt 0 units

-- The octet of length and the type of the next header stand around the content.
abbrev pub units : ExtensionHeader → ℕ
units h = (length h.content + 2) / 4

-- a header that a packet may have
pub record IsHeader (h : ExtensionHeader) : Type 0 where
  pub some : 0 < h.code
  pub passed : is_required h.code ≡ false
  pub whole : length h.content + 2 ≡ 4 * units h
  pub size : may_have h.code (units h) ≡ true

abbrev pub header_octets : ExtensionHeader → ℕ → List ℕ
header_octets h next = units h ∷ h.content ++ next ∷ []

-- the type of the first of these headers, after which one of type `next` stands
abbrev pub first_type : List ExtensionHeader → ℕ → ℕ
first_type [] next = next
first_type (h ∷ hs) next = h.code

-- the octets of these headers, after which one of type `next` stands
abbrev pub chain_octets : List ExtensionHeader → ℕ → List ℕ
chain_octets [] next = []
chain_octets (h ∷ hs) next = header_octets h (first_type hs next) ++ chain_octets hs next

-- These headers stand at the front of the octets, the first of them being of type `first`, and then `rest`, before which
-- the type `next` stands.
pub record Begins (first : ℕ) (octets : List ℕ) (hs : List ExtensionHeader) (next : ℕ) (rest : List ℕ) : Type 0 where
  pub each : AllByRecursion IsHeader hs
  pub first_is : first ≡ first_type hs next
  pub octets_are : octets ≡ chain_octets hs next ++ rest

-- the octets are these headers, and no others come
abbrev pub AreHeaders : List ExtensionHeader → ℕ → List ℕ → Type 0
AreHeaders hs first octets = Begins first octets hs 0 []

-- the octets are extension headers, of which the first has this type: a valid chain
abbrev pub IsChain : ℕ → List ℕ → Type 0
IsChain first octets = (hs : List ExtensionHeader) × AreHeaders hs first octets

-- one header of this type at the front: its content, the type of the next, and what follows it
abbrev pub SplitsOff : ℕ → List ℕ → List ℕ → ℕ → List ℕ → Type 0
SplitsOff code octets content next rest =
    let h : ExtensionHeader = record { code = code; content = content } in
    IsHeader h × (octets ≡ header_octets h next ++ rest)

-- the content of the first header of a type
abbrev pub content_of : ℕ → List ExtensionHeader → Option (List ℕ)
content_of code hs = option_map (λ h. h.content) (find (λ h. h.code == code) hs)
