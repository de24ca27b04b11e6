-- What is read as a PDU of a radio is carried there, and all that is carried is read.
use Rattle.std.proofs.Common.{◌≡◌, ℕ, ◌+◌, ◌*◌, ◌%◌, ◌<◌, ◌≤◌, true, nat_lt, nat_le, ◌&&◌, List, [], ◌∷◌, length, Some, None, refl, sym, subst, ◌∙◌, ltb-true, lt-ltb, leb-true, le-leb, arith}
use Rattle.std.proofs.lemmas.Bool.{and_parts, and_from, cond-true, cond-false, lt-leb}
use Rattle.std.proofs.lemmas.Option.{cond_some, none-some}
use Rattle.gnb_types.specs.declared.names.SnBits.{SnBits}
use Rattle.gnb_types.specs.declared.names.SnBits.TheVariants.{Len12, Len18}
use Rattle.gnb_types.proofs.Choices.{chosen}
use Rattle.pdcp.specs.declared.pdu.TheConstants.{PACKET_LIMIT}
use Rattle.pdcp.specs.Pdus.{Content, data_pdu, status_report}
use Rattle.link_defs.specs.Decoding.{IsSized, CarriesPdu}
use Rattle.link_defs.specs.read_defs.Pdus.{is_sized, data_with, data_in, report_in, pdu_on}

pub sized : (packet : List ℕ) → is_sized packet ≡ true → IsSized packet
sized packet e =
    let both = and_parts (nat_lt 0 (length packet)) (nat_le (length packet) PACKET_LIMIT) e in
    (ltb-true 0 (length packet) both.0, leb-true (length packet) PACKET_LIMIT both.1)

pub size_tested : (packet : List ℕ) → IsSized packet → is_sized packet ≡ true
size_tested packet h =
    and_from (nat_lt 0 (length packet)) (nat_le (length packet) PACKET_LIMIT) (lt-ltb 0 (length packet) h.0)
    (le-leb (length packet) PACKET_LIMIT h.1)

-- ---- what is read is carried

data_carried : (sn : SnBits) (high : ℕ) (octets : List ℕ) (content : Content) → 128 ≤ high → data_in sn high octets ≡ Some content
    → CarriesPdu sn content (high ∷ octets)
data_carried Len12 high [] content first e = absurd (none-some content e)
data_carried Len12 high (low ∷ []) content first e = absurd (none-some content e)
data_carried Len12 high (low ∷ octet ∷ octets) content first e =
    let number : ℕ = high % 16 * 256 + low in
    let packet : List ℕ = octet ∷ octets in
    let read = cond_some (is_sized packet) (data_pdu number packet) content e in
    subst (λ (c : Content). CarriesPdu Len12 c (high ∷ low ∷ packet)) read.1 ((first, refl, refl), sized packet read.0)
data_carried Len18 high [] content first e = absurd (none-some content e)
data_carried Len18 high (middle ∷ []) content first e = absurd (none-some content e)
data_carried Len18 high (middle ∷ low ∷ []) content first e = absurd (none-some content e)
data_carried Len18 high (middle ∷ low ∷ octet ∷ octets) content first e =
    let number : ℕ = (high % 4 * 256 + middle) * 256 + low in
    let packet : List ℕ = octet ∷ octets in
    let read = cond_some (is_sized packet) (data_pdu number packet) content e in
    subst (λ (c : Content). CarriesPdu Len18 c (high ∷ middle ∷ low ∷ packet)) read.1 ((first, refl, refl), sized packet read.0)

report_is : (sn : SnBits) (first a b c d : ℕ) (bitmap : List ℕ) → first < 16 → IsSized (first ∷ a ∷ b ∷ c ∷ d ∷ bitmap)
    → CarriesPdu sn (status_report (((a * 256 + b) * 256 + c) * 256 + d) bitmap) (first ∷ a ∷ b ∷ c ∷ d ∷ bitmap)
report_is Len12 first a b c d bitmap low fits = ((low, refl, refl), fits)
report_is Len18 first a b c d bitmap low fits = ((low, refl, refl), fits)

report_carried : (sn : SnBits) (first : ℕ) (octets : List ℕ) (content : Content) → report_in first octets ≡ Some content
    → CarriesPdu sn content (first ∷ octets)
report_carried sn first [] content e = absurd (none-some content e)
report_carried sn first (a ∷ []) content e = absurd (none-some content e)
report_carried sn first (a ∷ b ∷ []) content e = absurd (none-some content e)
report_carried sn first (a ∷ b ∷ c ∷ []) content e = absurd (none-some content e)
report_carried sn first (a ∷ b ∷ c ∷ d ∷ bitmap) content e =
    let octets : List ℕ = first ∷ a ∷ b ∷ c ∷ d ∷ bitmap in
    let read = cond_some (nat_lt first 16 && is_sized octets) (status_report (((a * 256 + b) * 256 + c) * 256 + d) bitmap) content e in
    let both = and_parts (nat_lt first 16) (is_sized octets) read.0 in
    subst (λ (x : Content). CarriesPdu sn x octets) read.1
    (report_is sn first a b c d bitmap (ltb-true first 16 both.0) (sized octets both.1))

pub pdu_carried : (sn : SnBits) (octets : List ℕ) (content : Content) → pdu_on sn octets ≡ Some content → CarriesPdu sn content octets
unfolding pdu_on
pdu_carried sn [] content e = absurd (none-some content e)
pdu_carried sn (first ∷ octets) content e =
    chosen (nat_le 128 first) (data_in sn first octets) (report_in first octets) (Some content) e (CarriesPdu sn content (first ∷ octets))
    (λ high read. data_carried sn first octets content (leb-true 128 first high) read)
    (λ low read. report_carried sn first octets content read)

-- ---- what is carried is read

data_is : (sn : SnBits) (high number : ℕ) (packet octets : List ℕ) → 128 ≤ high → IsSized packet
    → data_in sn high octets ≡ data_with number packet → pdu_on sn (high ∷ octets) ≡ Some (data_pdu number packet)
unfolding pdu_on
data_is sn high number packet octets first fits e =
    cond-true (nat_le 128 high) (data_in sn high octets) (report_in high octets) (le-leb 128 high first) ∙ e
    ∙ cond-true (is_sized packet) (Some (data_pdu number packet)) None (size_tested packet fits)

report_read : (sn : SnBits) (first a b c d : ℕ) (bitmap : List ℕ) → first < 16 → IsSized (first ∷ a ∷ b ∷ c ∷ d ∷ bitmap)
    → pdu_on sn (first ∷ a ∷ b ∷ c ∷ d ∷ bitmap) ≡ Some (status_report (((a * 256 + b) * 256 + c) * 256 + d) bitmap)
unfolding pdu_on
report_read sn first a b c d bitmap low fits =
    let octets : List ℕ = first ∷ a ∷ b ∷ c ∷ d ∷ bitmap in
    let after : List ℕ = a ∷ b ∷ c ∷ d ∷ bitmap in
    cond-false (nat_le 128 first) (data_in sn first after) (report_in first after) (lt-leb 128 first (omega arith))
    ∙ cond-true (nat_lt first 16 && is_sized octets) (Some (status_report (((a * 256 + b) * 256 + c) * 256 + d) bitmap)) None
    (and_from (nat_lt first 16) (is_sized octets) (lt-ltb first 16 low) (size_tested octets fits))

data_read : (sn : SnBits) (number : ℕ) (packet octets : List ℕ) → CarriesPdu sn (data_pdu number packet) octets
    → pdu_on sn octets ≡ Some (data_pdu number packet)
data_read Len12 number packet (high ∷ low ∷ octet ∷ octets) h =
    data_is Len12 high number packet (low ∷ octet ∷ octets) h.0.0 h.1 (λ i. data_with (sym h.0.1 i) (sym h.0.2 i))
data_read Len12 number packet octets h = absurd h.0
data_read Len18 number packet (high ∷ middle ∷ low ∷ octet ∷ octets) h =
    data_is Len18 high number packet (middle ∷ low ∷ octet ∷ octets) h.0.0 h.1 (λ i. data_with (sym h.0.1 i) (sym h.0.2 i))
data_read Len18 number packet octets h = absurd h.0

report_found : (sn : SnBits) (fmc : ℕ) (bitmap octets : List ℕ) → CarriesPdu sn (status_report fmc bitmap) octets
    → pdu_on sn octets ≡ Some (status_report fmc bitmap)
report_found Len12 fmc bitmap (first ∷ a ∷ b ∷ c ∷ d ∷ octets) h =
    report_read Len12 first a b c d octets h.0.0 h.1 ∙ (λ i. Some (status_report (sym h.0.1 i) (sym h.0.2 i)))
report_found Len12 fmc bitmap octets h = absurd h.0
report_found Len18 fmc bitmap (first ∷ a ∷ b ∷ c ∷ d ∷ octets) h =
    report_read Len18 first a b c d octets h.0.0 h.1 ∙ (λ i. Some (status_report (sym h.0.1 i) (sym h.0.2 i)))
report_found Len18 fmc bitmap octets h = absurd h.0

pub pdu_found : (sn : SnBits) (content : Content) (octets : List ℕ) → CarriesPdu sn content octets → pdu_on sn octets ≡ Some content
pdu_found sn (data_pdu number packet) octets h = data_read sn number packet octets h
pdu_found sn (status_report fmc bitmap) octets h = report_found sn fmc bitmap octets h
