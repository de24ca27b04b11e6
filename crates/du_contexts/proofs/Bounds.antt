-- Numbers that octets say are small.
use Rattle.std.proofs.Common.{◌≡◌, ℕ, suc, ◌+◌, ◌*◌, ◌%◌, ◌^◌, ◌<◌, ◌≤◌, get_or, Bool, true, false, List, [], ◌∷◌, ◌++◌, length, sym, ◌∙◌, ap, subst, arith}
use Rattle.std.specs.List.{AllByRecursion}
use Rattle.gnb_types.specs.declared.names.SnBits.{SnBits}
use Rattle.gnb_types.specs.declared.names.SnBits.TheVariants.{Len12, Len18}
use Rattle.gtpu.specs.declared.headers.TheConstants.{NR_RAN_CONTAINER}
use Rattle.gtpu.specs.Headers.{ExtensionHeader, units}
use Rattle.gtpu.specs.Packets.{GtpuPacket, Gtpu, IsBody, has_flag}
use Rattle.nr_user_plane.specs.declared.frames.Frame.TheVariants.{Data}
use Rattle.nr_user_plane.specs.Frames.{Nru}
use Rattle.pdcp.specs.Pdus.{Content, data_pdu, status_report, Pdcp}
use Rattle.link_defs.specs.Decoding.{framed, poll, f1u_downlink, DecodesOn, HasHeader, CarriesPdu}

abbrev AreSmall : List ℕ → Type 0
AreSmall xs = AllByRecursion (λ o. o < 256) xs

small_from : (xs : List ℕ) → ((k : ℕ) → get_or xs k 0 < 256) → AreSmall xs
small_from [] h = tt
small_from (x ∷ xs) h = (h 0, small_from xs (λ k. h (suc k)))

small_left : (xs ys : List ℕ) → AreSmall (xs ++ ys) → AreSmall xs
small_left [] ys h = tt
small_left (x ∷ xs) ys h = (h.0, small_left xs ys h.1)

-- ---- the content of the one header of a packet

flagged_small : (p : GtpuPacket) (code : ℕ) (content : List ℕ) (flags : ℕ) (b : Bool) (body : List ℕ) → AreSmall body
    → IsBody p flags b body → HasHeader code content p → AreSmall content
flagged_small p code content flags false body small plain header = absurd (none (sym plain.chain ∙ header.headers.octets_are))
  where
    none : {x : ℕ} {xs : List ℕ} → ◌≡◌ {A = List ℕ} [] (x ∷ xs) → ⊥
    none e = cc
flagged_small p code content flags true (s0 ∷ s1 ∷ number ∷ next ∷ rest) small flagged header =
    let h : ExtensionHeader = record { code = code; content = content } in
    let chain : AreSmall p.chain = small_left p.chain p.payload (subst AreSmall flagged.parts small.1.1.1.1) in
    let front : List ℕ = units h ∷ content in
    (small_left front (0 ∷ [])
    (small_left (front ++ 0 ∷ []) [] (small_left ((front ++ 0 ∷ []) ++ []) [] (subst AreSmall header.headers.octets_are chain)))).1
flagged_small p code content flags true [] small flagged header = absurd flagged
flagged_small p code content flags true (s0 ∷ []) small flagged header = absurd flagged
flagged_small p code content flags true (s0 ∷ s1 ∷ []) small flagged header = absurd flagged
flagged_small p code content flags true (s0 ∷ s1 ∷ number ∷ []) small flagged header = absurd flagged

header_small : (p : GtpuPacket) (code : ℕ) (content octets : List ℕ) → AreSmall octets → Gtpu p octets → HasHeader code content p
    → AreSmall content
unfolding Gtpu
header_small p code content (flags ∷ kind ∷ l0 ∷ l1 ∷ t0 ∷ t1 ∷ t2 ∷ t3 ∷ body) small gtpu header =
    flagged_small p code content flags (has_flag flags) body small.1.1.1.1.1.1.1.1 gtpu.body_is header
header_small p code content [] small gtpu header = absurd gtpu
header_small p code content (a ∷ []) small gtpu header = absurd gtpu
header_small p code content (a ∷ b ∷ []) small gtpu header = absurd gtpu
header_small p code content (a ∷ b ∷ c ∷ []) small gtpu header = absurd gtpu
header_small p code content (a ∷ b ∷ c ∷ d ∷ []) small gtpu header = absurd gtpu
header_small p code content (a ∷ b ∷ c ∷ d ∷ e ∷ []) small gtpu header = absurd gtpu
header_small p code content (a ∷ b ∷ c ∷ d ∷ e ∷ f ∷ []) small gtpu header = absurd gtpu
header_small p code content (a ∷ b ∷ c ∷ d ∷ e ∷ f ∷ g ∷ []) small gtpu header = absurd gtpu

data_small : (polls restart : Bool) (number : ℕ) (content : List ℕ) → AreSmall content → Nru (Data polls restart number) content
    → number < 2 ^ 24
data_small polls restart number (first ∷ second ∷ a ∷ b ∷ c ∷ padding) small frame =
    let is : number ≡ (a * 256 + b) * 256 + c = frame.2 in
    let a_small : a < 256 = small.1.1.0 in
    let b_small : b < 256 = small.1.1.1.0 in
    let c_small : c < 256 = small.1.1.1.1.0 in
    omega arith
data_small polls restart number [] small frame = absurd frame
data_small polls restart number (a ∷ []) small frame = absurd frame
data_small polls restart number (a ∷ b ∷ []) small frame = absurd frame
data_small polls restart number (a ∷ b ∷ c ∷ []) small frame = absurd frame
data_small polls restart number (a ∷ b ∷ c ∷ d ∷ []) small frame = absurd frame

module _ (sn : SnBits) (octets : List ℕ) (bytes : (k : ℕ) → get_or octets k 0 < 256) where
  -- the NR-U number of a frame
  pub frame_number_small : (restart : Bool) (number : ℕ) (content : Content) (pdu : List ℕ)
      → DecodesOn f1u_downlink sn (framed restart number content pdu) octets → number < 2 ^ 24
  frame_number_small restart number content pdu (p, gtpu, says) =
      data_small false restart number says.0 (header_small p NR_RAN_CONTAINER says.0 octets (small_from octets bytes) gtpu says.1) says.2

  pub poll_number_small : (restart : Bool) (number : ℕ) → DecodesOn f1u_downlink sn (poll restart number) octets → number < 2 ^ 24
  poll_number_small restart number (p, gtpu, says) =
      data_small true restart number says.0 (header_small p NR_RAN_CONTAINER says.0 octets (small_from octets bytes) gtpu says.1) says.2

-- ---- PDUs of a radio

data_bounds : (sn : SnBits) (number : ℕ) (packet octets : List ℕ) → AreSmall octets → Pdcp sn (data_pdu number packet) octets
    → (number < 2 ^ 24) × (length octets ≤ length packet + 3)
data_bounds Len12 number packet (high ∷ low ∷ octet ∷ octets) small pdu =
    let is : number ≡ high % 16 * 256 + low = pdu.1 in
    let low_small : low < 256 = small.1.0 in
    let long : length packet ≡ suc (length octets) = ap length pdu.2 in
    (omega arith, omega arith)
data_bounds Len12 number packet [] small pdu = absurd pdu
data_bounds Len12 number packet (a ∷ []) small pdu = absurd pdu
data_bounds Len12 number packet (a ∷ b ∷ []) small pdu = absurd pdu
data_bounds Len18 number packet (high ∷ middle ∷ low ∷ octet ∷ octets) small pdu =
    let is : number ≡ (high % 4 * 256 + middle) * 256 + low = pdu.1 in
    let middle_small : middle < 256 = small.1.0 in
    let low_small : low < 256 = small.1.1.0 in
    let long : length packet ≡ suc (length octets) = ap length pdu.2 in
    (omega arith, omega arith)
data_bounds Len18 number packet [] small pdu = absurd pdu
data_bounds Len18 number packet (a ∷ []) small pdu = absurd pdu
data_bounds Len18 number packet (a ∷ b ∷ []) small pdu = absurd pdu
data_bounds Len18 number packet (a ∷ b ∷ c ∷ []) small pdu = absurd pdu

module _ (sn : SnBits) (octets : List ℕ) (bytes : (k : ℕ) → get_or octets k 0 < 256) where
  pub pdu_number_small : (number : ℕ) (packet : List ℕ) → CarriesPdu sn (data_pdu number packet) octets → number < 2 ^ 24
  pdu_number_small number packet carries = (data_bounds sn number packet octets (small_from octets bytes) carries.0).0

  pub pdu_short : (content : Content) → CarriesPdu sn content octets → length octets ≤ 4096
  pdu_short (data_pdu number packet) carries =
      let long : length octets ≤ length packet + 3 = (data_bounds sn number packet octets (small_from octets bytes) carries.0).1 in
      let sized : length packet ≤ 2048 = carries.1.1 in
      omega arith
  pdu_short (status_report fmc bitmap) carries =
      let sized : length octets ≤ 2048 = carries.1.1 in
      omega arith
