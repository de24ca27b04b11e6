-- What is written is the layout of the link.
use Rattle.std.proofs.Common.{◌≡◌, ℕ, ◌+◌, ◌/◌, ◌%◌, ◌≤◌, Bool, List, [], ◌∷◌, ◌++◌, length, get_or, bit_and, sym, ap, subst, ◌∙◌, arith}
use Rattle.gnb_types.specs.declared.names.SnBits.TheVariants.{Len18}
use Rattle.std.specs.Int.{w32, to_be_bytes}
use Rattle.std.proofs.lemmas.Nat.{and_mask}
use Rattle.gtpu.specs.declared.headers.TheConstants.{NR_RAN_CONTAINER}
use Rattle.gtpu.specs.Headers.{IsHeader, header_octets}
use Rattle.gtpu.specs.Packets.{gtpu_octets}
use Rattle.nr_user_plane.specs.declared.frames.Frame.{Frame}
use Rattle.nr_user_plane.specs.declared.frames.Frame.TheVariants.{Data, Status}
use Rattle.nr_user_plane.specs.Frames.{nru_octets, FitsFrame}
use Rattle.link_defs.specs.GPdus.{pdu_with}
use Rattle.link_defs.specs.Layouts.{frame_header, number_header}
use Rattle.link_defs.proofs.Written.{frame_header_is, length-status}
use Rattle.link_defs.proofs.Pdus.{length-data_frame}
use Rattle.pdcp.specs.Pdus.{report_octets, bitmap}
use Rattle.link_packets.specs.Parts.{header}

-- the chain of one header, as it is put together
pub chain_is : (a b c d content : List ℕ) (n : ℕ) → a ≡ [] → n ≡ (length content + 2) / 4 → b ≡ a ++ n ∷ [] → c ≡ b ++ content
    → d ≡ c ++ 0 ∷ [] → (code : ℕ) → d ≡ header_octets (header code content) 0
chain_is a b c d content n none count first second third code =
    third ∙ (λ i. (second ∙ (λ j. (first ∙ (λ k. none k ++ count k ∷ [])) j ++ content)) i ++ 0 ∷ [])

pub frame_is_header : (frame : Frame) (octets : List ℕ) → octets ≡ nru_octets frame → IsHeader (header NR_RAN_CONTAINER octets)
frame_is_header frame octets is = subst (λ (xs : List ℕ). IsHeader (header NR_RAN_CONTAINER xs)) (sym is) (frame_header_is frame)

-- no frame is longer
pub length-frame : (frame : Frame) → FitsFrame frame → length (nru_octets frame) ≤ 1000
length-frame (Data poll restart number) fits = omega (arith, length-data_frame poll restart number)
length-frame (Status room lost delivered) fits = length-status room lost delivered fits.0

pub framed_is : (teid : ℕ) (frame : Frame) (content payload octets : List ℕ) → content ≡ nru_octets frame
    → octets ≡ gtpu_octets (pdu_with teid (header NR_RAN_CONTAINER content) payload)
    → octets ≡ gtpu_octets (pdu_with teid (frame_header frame) payload)
framed_is teid frame content payload octets content_is is = is
    ∙ ap (λ (xs : List ℕ). gtpu_octets (pdu_with teid (header NR_RAN_CONTAINER xs) payload)) content_is

-- a number of 18 bits in three octets
pub long_number : (count : ℕ) (bytes : List ℕ) → bytes ≡ to_be_bytes w32 count
    → bit_and (get_or bytes 1 0) 3 ∷ get_or bytes 2 0 ∷ get_or bytes 3 0 ∷ 0 ∷ 0 ∷ 0 ∷ [] ≡ (number_header Len18 count).content
long_number count bytes is =
    let high : bit_and (count / 65536 % 256) 3 ≡ count % 262144 / 65536 % 256 = omega (arith, and_mask (count / 65536 % 256) 2) in
    let middle : count / 256 % 256 ≡ count % 262144 / 256 % 256 = omega arith in
    let low : count % 256 ≡ count % 262144 % 256 = omega arith in
    ap (λ (xs : List ℕ). bit_and (get_or xs 1 0) 3 ∷ get_or xs 2 0 ∷ get_or xs 3 0 ∷ 0 ∷ 0 ∷ 0 ∷ []) is
    ∙ (λ i. high i ∷ middle i ∷ low i ∷ 0 ∷ 0 ∷ 0 ∷ [])

length-bitmap : (bits : List Bool) → length (bitmap bits) ≤ length bits
unfolding bitmap
length-bitmap [] = omega arith
length-bitmap (a ∷ b ∷ c ∷ d ∷ e ∷ f ∷ g ∷ h ∷ bits) = omega (arith, length-bitmap bits)
length-bitmap bits = omega arith

pub length-report_octets : (fmc : ℕ) (bits : List Bool) → length (report_octets fmc bits) ≤ 5 + length bits
length-report_octets fmc bits = omega (arith, length-bitmap bits)
