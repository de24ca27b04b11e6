-- Octets say one thing on a link.
use Rattle.std.proofs.Common.{◌≡◌, ℕ, true, false, List, [], ◌∷◌, refl, sym, ap, subst, ◌∙◌, arith, true≢false}
use Rattle.gnb_types.specs.declared.names.SnBits.{SnBits}
use Rattle.gnb_types.specs.declared.names.SnBits.TheVariants.{Len12, Len18}
use Rattle.gtpu.specs.declared.headers.TheConstants.{NR_RAN_CONTAINER}
use Rattle.gtpu.specs.declared.GtpuError.{GtpuError}
use Rattle.gtpu.specs.declared.Kind.TheVariants.{GPdu, EndMarker}
use Rattle.gtpu.specs.Headers.{ExtensionHeader}
use Rattle.gtpu.specs.Packets.{GtpuPacket, Gtpu}
use Rattle.gtpu.specs.Refusals.{IsRefusal}
use Rattle.gtpu.proofs.Chains.{one_chain}
use Rattle.gtpu.proofs.Unique.{one_packet, not_both}
use Rattle.nr_user_plane.specs.declared.frames.Frame.{Frame}
use Rattle.nr_user_plane.specs.declared.frames.Frame.TheVariants.{Data, Status}
use Rattle.nr_user_plane.specs.Frames.{Nru}
use Rattle.nr_user_plane.proofs.FrameLaws.{frame_read}
use Rattle.pdcp.specs.Pdus.{Content, data_pdu, status_report, Pdcp}
use Rattle.link_defs.specs.Decoding.{Link, Item, n3, f1u_downlink, f1u_uplink, forwarding_down, forwarding_up, fresh, numbered, pdu, framed, poll, status, end_of_tunnel, CarriesPdu, IsBare, HasHeader, number_code, number_in, SaysFresh, SaysNumbered, Says, DecodesOn}

-- ---- the packet is the one that a reader finds

pub says_of : (link : Link) (sn : SnBits) (item : Item) (octets : List ℕ) (p : GtpuPacket) → Gtpu p octets → DecodesOn link sn item octets
    → Says link sn item p
says_of link sn item octets p read d = subst (λ (q : GtpuPacket). Says link sn item q) (one_packet octets d.0 p d.1 read) d.2

pub refused_not : (link : Link) (sn : SnBits) (item : Item) (octets : List ℕ) (e : GtpuError) → IsRefusal e octets
    → DecodesOn link sn item octets → ⊥
refused_not link sn item octets e refused d = not_both octets d.0 e d.1 refused

-- ---- parts

one_frame : (octets : List ℕ) (f g : Frame) → Nru f octets → Nru g octets → f ≡ g
one_frame octets f g p q = sym (frame_read f octets p).is ∙ (frame_read g octets q).is

one_data : (sn : SnBits) (octets : List ℕ) (n m : ℕ) (s t : List ℕ) → Pdcp sn (data_pdu n s) octets → Pdcp sn (data_pdu m t) octets
    → data_pdu n s ≡ data_pdu m t
one_data Len12 (x ∷ y ∷ z ∷ octets) n m s t p q = λ i. data_pdu ((p.1 ∙ sym q.1) i) ((p.2 ∙ sym q.2) i)
one_data Len12 octets n m s t p q = absurd p
one_data Len18 (w ∷ x ∷ y ∷ z ∷ octets) n m s t p q = λ i. data_pdu ((p.1 ∙ sym q.1) i) ((p.2 ∙ sym q.2) i)
one_data Len18 octets n m s t p q = absurd p

one_report : (sn : SnBits) (octets : List ℕ) (n m : ℕ) (s t : List ℕ) → Pdcp sn (status_report n s) octets
    → Pdcp sn (status_report m t) octets → status_report n s ≡ status_report m t
one_report Len12 (x ∷ a ∷ b ∷ c ∷ d ∷ octets) n m s t p q = λ i. status_report ((p.1 ∙ sym q.1) i) ((p.2 ∙ sym q.2) i)
one_report Len12 octets n m s t p q = absurd p
one_report Len18 (x ∷ a ∷ b ∷ c ∷ d ∷ octets) n m s t p q = λ i. status_report ((p.1 ∙ sym q.1) i) ((p.2 ∙ sym q.2) i)
one_report Len18 octets n m s t p q = absurd p

not_mixed : (sn : SnBits) (octets : List ℕ) (n m : ℕ) (s t : List ℕ) → Pdcp sn (data_pdu n s) octets → Pdcp sn (status_report m t) octets
    → ⊥
not_mixed Len12 (x ∷ a ∷ b ∷ c ∷ d ∷ octets) n m s t p q = omega (arith, p.0, q.0)
not_mixed Len12 octets n m s t p q = absurd q
not_mixed Len18 (x ∷ a ∷ b ∷ c ∷ d ∷ octets) n m s t p q = omega (arith, p.0, q.0)
not_mixed Len18 octets n m s t p q = absurd q

one_carried : (sn : SnBits) (octets : List ℕ) (a b : Content) → CarriesPdu sn a octets → CarriesPdu sn b octets → a ≡ b
one_carried sn octets (data_pdu n s) (data_pdu m t) p q = one_data sn octets n m s t p.0 q.0
one_carried sn octets (data_pdu n s) (status_report m t) p q = absurd (not_mixed sn octets n m s t p.0 q.0)
one_carried sn octets (status_report n s) (data_pdu m t) p q = absurd (not_mixed sn octets m n t s q.0 p.0)
one_carried sn octets (status_report n s) (status_report m t) p q = one_report sn octets n m s t p.0 q.0

abbrev head_content : List ExtensionHeader → List ℕ
head_content [] = []
head_content (h ∷ hs) = h.content

one_header_content : (code : ℕ) (a b : List ℕ) (p : GtpuPacket) → HasHeader code a p → HasHeader code b p → a ≡ b
one_header_content code a b p x y = ap head_content (one_chain p.first p.chain (record { code = code; content = a } ∷ []) (record { code = code; content = b } ∷ []) x.headers y.headers)

-- a packet without a header has none
bare_or_header : (code : ℕ) (content : List ℕ) (p : GtpuPacket) → IsBare GPdu p → HasHeader code content p → ⊥
bare_or_header code content p x y = omega (arith, x.first, y.headers.first_is, y.headers.each.0.some)

not_both_kinds : (p : GtpuPacket) → p.kind ≡ GPdu → p.kind ≡ EndMarker → ⊥
not_both_kinds p x y = let e : GPdu ≡ EndMarker = sym x ∙ y in cc

one_fresh : (a b : List ℕ) (p : GtpuPacket) → SaysFresh a p → SaysFresh b p → fresh a ≡ fresh b
one_fresh a b p x y = ap fresh (sym x.1 ∙ y.1)

one_numbered : (sn : SnBits) (n m : ℕ) (a b : List ℕ) (p : GtpuPacket) → SaysNumbered sn n a p → SaysNumbered sn m b p
    → numbered n a ≡ numbered m b
one_numbered sn n m a b p x y =
    let content : x.0 ≡ y.0 = one_header_content (number_code sn) x.0 y.0 p x.1 y.1 in
    let number : n ≡ m = x.2 ∙ ap (number_in sn) content ∙ sym y.2 in
    λ i. numbered (number i) ((sym x.3 ∙ y.3) i)

-- ---- one item

-- the frames in one header are one
pub one_frame_in : (f g : Frame) (a b : List ℕ) (p : GtpuPacket) → HasHeader NR_RAN_CONTAINER a p → HasHeader NR_RAN_CONTAINER b p → Nru f a
    → Nru g b → f ≡ g
one_frame_in f g a b p x y u v = one_frame a f g u (subst (λ (o : List ℕ). Nru g o) (sym (one_header_content NR_RAN_CONTAINER a b p x y)) v)

pub one_said : (link : Link) (sn : SnBits) (a b : Item) (p : GtpuPacket) → Says link sn a p → Says link sn b p → a ≡ b
one_said n3 sn (fresh a) (fresh b) p x y = one_fresh a b p x y
one_said n3 sn (fresh a) end_of_tunnel p x y = absurd (not_both_kinds p x.0.kind_is y.0.kind_is)
one_said n3 sn end_of_tunnel (fresh b) p x y = absurd (not_both_kinds p y.0.kind_is x.0.kind_is)
one_said n3 sn end_of_tunnel end_of_tunnel p x y = refl
one_said f1u_downlink sn (framed r n c o) (framed s m d t) p x y =
    let frames : Data false r n ≡ Data false s m = one_frame_in (Data false r n) (Data false s m) x.0 y.0 p x.1 y.1 x.2 y.2 in
    let rs : r ≡ s = cc in
    let ns : n ≡ m = cc in
    let octets : o ≡ t = sym x.3 ∙ y.3 in
    let contents : c ≡ d = one_carried sn o c d x.4 (subst (λ (w : List ℕ). CarriesPdu sn d w) (sym octets) y.4) in
    λ i. framed (rs i) (ns i) (contents i) (octets i)
one_said f1u_downlink sn (framed r n c o) (poll s m) p x y =
    let frames : Data false r n ≡ Data true s m = one_frame_in (Data false r n) (Data true s m) x.0 y.0 p x.1 y.1 x.2 y.2 in
    let same : false ≡ true = cc in
    absurd (true≢false (sym same))
one_said f1u_downlink sn (poll r n) (framed s m d t) p x y =
    let frames : Data true r n ≡ Data false s m = one_frame_in (Data true r n) (Data false s m) x.0 y.0 p x.1 y.1 x.2 y.2 in
    let same : true ≡ false = cc in
    absurd (true≢false same)
one_said f1u_downlink sn (poll r n) (poll s m) p x y =
    let frames : Data true r n ≡ Data true s m = one_frame_in (Data true r n) (Data true s m) x.0 y.0 p x.1 y.1 x.2 y.2 in
    let rs : r ≡ s = cc in
    let ns : n ≡ m = cc in
    λ i. poll (rs i) (ns i)
one_said f1u_uplink sn (pdu c o) (pdu d t) p x y =
    let octets : o ≡ t = sym x.1 ∙ y.1 in
    let contents : c ≡ d = one_carried sn o c d x.2 (subst (λ (w : List ℕ). CarriesPdu sn d w) (sym octets) y.2) in
    λ i. pdu (contents i) (octets i)
one_said f1u_uplink sn (pdu c o) (status r l d) p x y = absurd (bare_or_header NR_RAN_CONTAINER y.0 p x.0 y.1)
one_said f1u_uplink sn (pdu c o) end_of_tunnel p x y = absurd (not_both_kinds p x.0.kind_is y.0.kind_is)
one_said f1u_uplink sn (status r l d) (pdu e t) p x y = absurd (bare_or_header NR_RAN_CONTAINER x.0 p y.0 x.1)
one_said f1u_uplink sn (status r l d) (status s m e) p x y =
    let frames : Status r l d ≡ Status s m e = one_frame_in (Status r l d) (Status s m e) x.0 y.0 p x.1 y.1 x.2 y.2 in
    let rooms : r ≡ s = cc in
    let losts : l ≡ m = cc in
    let delivereds : d ≡ e = cc in
    λ i. status (rooms i) (losts i) (delivereds i)
one_said f1u_uplink sn (status r l d) end_of_tunnel p x y = absurd (not_both_kinds p x.1.kind_is y.0.kind_is)
one_said f1u_uplink sn end_of_tunnel (pdu e t) p x y = absurd (not_both_kinds p y.0.kind_is x.0.kind_is)
one_said f1u_uplink sn end_of_tunnel (status s m e) p x y = absurd (not_both_kinds p y.1.kind_is x.0.kind_is)
one_said f1u_uplink sn end_of_tunnel end_of_tunnel p x y = refl
one_said forwarding_down sn (fresh a) (fresh b) p x y = one_fresh a b p x y
one_said forwarding_down sn (fresh a) (numbered m b) p x y = absurd (bare_or_header (number_code sn) y.0 p x.0 y.1)
one_said forwarding_down sn (fresh a) end_of_tunnel p x y = absurd (not_both_kinds p x.0.kind_is y.0.kind_is)
one_said forwarding_down sn (numbered n a) (fresh b) p x y = absurd (bare_or_header (number_code sn) x.0 p y.0 x.1)
one_said forwarding_down sn (numbered n a) (numbered m b) p x y = one_numbered sn n m a b p x y
one_said forwarding_down sn (numbered n a) end_of_tunnel p x y = absurd (not_both_kinds p x.1.kind_is y.0.kind_is)
one_said forwarding_down sn end_of_tunnel (fresh b) p x y = absurd (not_both_kinds p y.0.kind_is x.0.kind_is)
one_said forwarding_down sn end_of_tunnel (numbered m b) p x y = absurd (not_both_kinds p y.1.kind_is x.0.kind_is)
one_said forwarding_down sn end_of_tunnel end_of_tunnel p x y = refl
one_said forwarding_up sn (numbered n a) (numbered m b) p x y = one_numbered sn n m a b p x y
one_said forwarding_up sn (numbered n a) end_of_tunnel p x y = absurd (not_both_kinds p x.1.kind_is y.0.kind_is)
one_said forwarding_up sn end_of_tunnel (numbered m b) p x y = absurd (not_both_kinds p y.1.kind_is x.0.kind_is)
one_said forwarding_up sn end_of_tunnel end_of_tunnel p x y = refl
one_said link sn a b p x y = absurd assumption

pub one_item : (link : Link) (sn : SnBits) (a b : Item) (octets : List ℕ) → DecodesOn link sn a octets → DecodesOn link sn b octets → a ≡ b
one_item link sn a b octets x y = one_said link sn a b x.0 x.2 (says_of link sn b octets x.0 x.1 y)
