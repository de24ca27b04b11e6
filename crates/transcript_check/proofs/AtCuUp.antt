-- Octets say one thing on a radio, and at a CU-UP one thing in each direction.
use Rattle.std.proofs.Common.{◌≡◌, ◌↔◌, IsTrue, Bool, true, false, ℕ, List, [], None, refl, ap, sym, subst, ◌∙◌, inl, inr, arith}
use Rattle.gnb_types.specs.declared.names.SnBits.{SnBits}
use Rattle.gnb_types.specs.declared.names.Dir.{Dir}
use Rattle.gnb_types.specs.declared.names.Dir.TheVariants.{Dl, Ul}
use Rattle.gtpu.specs.declared.Kind.TheVariants.{GPdu, EndMarker}
use Rattle.gtpu.specs.declared.headers.TheConstants.{NR_RAN_CONTAINER}
use Rattle.gtpu.specs.Packets.{GtpuPacket}
use Rattle.pdcp.specs.Pdus.{Content}
use Rattle.link_defs.specs.Decoding.{Item as Says, f1u_uplink, forwarding_down, fresh, numbered, pdu, status, end_of_tunnel, CarriesPdu, IsBare, HasHeader, number_code, Says as SaysOn, DecodesOn}
use Rattle.link_defs.proofs.OneItem.{says_of, one_said, one_item}
use Rattle.transcript_defs.specs.Packets.{IsOnRadio, FitsDirection, IsAtCuUp}

-- ---- radio

-- a G-PDU without flags around the octets
around : List ℕ → GtpuPacket
around octets = record { kind = GPdu; teid = 0; seq = None; npdu = None; first = 0; chain = []; payload = octets }

pub one_on_radio : (sn : SnBits) (a b : Content) (octets : List ℕ) → CarriesPdu sn a octets → CarriesPdu sn b octets
    → pdu a octets ≡ pdu b octets
unfolding around
one_on_radio sn a b octets x y =
    let bare : IsBare GPdu (around octets) = record { kind_is = refl; seq = refl; npdu = refl; first = refl } in
    one_said f1u_uplink sn (pdu a octets) (pdu b octets) (around octets) (bare, refl, x) (bare, refl, y)

pub only_on_radio : (sn : SnBits) (a : Content) (octets : List ℕ) → CarriesPdu sn a octets → (says : Says) → IsOnRadio sn says octets
    → pdu a octets ≡ says
only_on_radio sn a octets x (pdu b whole) y = one_on_radio sn a b octets x y.1 ∙ ap (pdu b) (sym y.0)
only_on_radio sn a octets x says y = absurd assumption

pub none_on_radio : (sn : SnBits) (octets : List ℕ) → ((a : Content) → CarriesPdu sn a octets → ⊥) → (says : Says) → IsOnRadio sn says octets
    → ⊥
none_on_radio sn octets none (pdu b whole) y = none b y.1
none_on_radio sn octets none says y = assumption

-- ---- CU-UP

bare_or_header : (code : ℕ) (content : List ℕ) (p : GtpuPacket) → IsBare GPdu p → HasHeader code content p → ⊥
bare_or_header code content p x y = omega (arith, x.first, y.headers.first_is, y.headers.each.0.some)

not_both_kinds : (p : GtpuPacket) → p.kind ≡ GPdu → p.kind ≡ EndMarker → ⊥
not_both_kinds p x y = let e : GPdu ≡ EndMarker = sym x ∙ y in cc

not_both_ways : (dir : Dir) → dir ≡ Dl → dir ≡ Ul → ⊥
not_both_ways dir x y = let e : Dl ≡ Ul = sym x ∙ y in cc

not_both_codes : (sn : SnBits) (a b : List ℕ) (p : GtpuPacket) → HasHeader (number_code sn) a p → HasHeader NR_RAN_CONTAINER b p → ⊥
not_both_codes sn a b p x y = differ sn (sym x.headers.first_is ∙ y.headers.first_is)
  where
    differ : (s : SnBits) → number_code s ≡ NR_RAN_CONTAINER → ⊥
    differ s e = grind arith

-- one packet, read as one of forwarding and as one of F1-U uplink
across : (sn : SnBits) (dir : Dir) (a b : Says) (p : GtpuPacket) → FitsDirection a dir → SaysOn forwarding_down sn a p
    → FitsDirection b dir → SaysOn f1u_uplink sn b p → a ≡ b
across sn dir (fresh a) (pdu c o) p f x g y = absurd (not_both_ways dir f g)
across sn dir (fresh a) (status r l d) p f x g y = absurd (bare_or_header NR_RAN_CONTAINER y.0 p x.0 y.1)
across sn dir (fresh a) end_of_tunnel p f x g y = absurd (not_both_kinds p x.0.kind_is y.0.kind_is)
across sn dir (numbered n a) (pdu c o) p f x g y = absurd (bare_or_header (number_code sn) x.0 p y.0 x.1)
across sn dir (numbered n a) (status r l d) p f x g y = absurd (not_both_codes sn x.0 y.0 p x.1 y.1)
across sn dir (numbered n a) end_of_tunnel p f x g y = absurd (not_both_kinds p x.1.kind_is y.0.kind_is)
across sn dir end_of_tunnel (pdu c o) p f x g y = absurd (not_both_kinds p y.0.kind_is x.0.kind_is)
across sn dir end_of_tunnel (status r l d) p f x g y = absurd (not_both_kinds p y.1.kind_is x.0.kind_is)
across sn dir end_of_tunnel end_of_tunnel p f x g y = refl
across sn dir a b p f x g y = absurd assumption

across_octets : (sn : SnBits) (dir : Dir) (a b : Says) (octets : List ℕ) → FitsDirection a dir → DecodesOn forwarding_down sn a octets
    → FitsDirection b dir → DecodesOn f1u_uplink sn b octets → a ≡ b
across_octets sn dir a b octets f x g y = across sn dir a b x.0 f x.2 g (says_of f1u_uplink sn b octets x.0 x.1 y)

-- what is found says all that the octets can say in this direction
pub only_forwarded : (sn : SnBits) (dir : Dir) (a : Says) (octets : List ℕ) → FitsDirection a dir → DecodesOn forwarding_down sn a octets
    → (says : Says) → FitsDirection says dir → IsAtCuUp sn says octets → a ≡ says
only_forwarded sn dir a octets f x says g (inl y) = one_item forwarding_down sn a says octets x y
only_forwarded sn dir a octets f x says g (inr y) = across_octets sn dir a says octets f x g y

pub only_uplink : (sn : SnBits) (dir : Dir) (a : Says) (octets : List ℕ) → FitsDirection a dir → DecodesOn f1u_uplink sn a octets
    → (says : Says) → FitsDirection says dir → IsAtCuUp sn says octets → a ≡ says
only_uplink sn dir a octets f x says g (inl y) = sym (across_octets sn dir says a octets g y f x)
only_uplink sn dir a octets f x says g (inr y) = one_item f1u_uplink sn a says octets x y

-- octets that say one thing, which is not of this direction, say nothing there
pub none_fits : (dir : Dir) (a says : Says) → (FitsDirection a dir → ⊥) → a ≡ says → FitsDirection says dir → ⊥
none_fits dir a says unfit same fits = unfit (subst (λ x. FitsDirection x dir) (sym same) fits)

pub unfit_by : (b : Bool) (P : Type 0) → (IsTrue b ↔ P) → b ≡ false → P → ⊥
unfit_by b P test is_not p = let is : b ≡ true = test.1 p in absurd (cc)
