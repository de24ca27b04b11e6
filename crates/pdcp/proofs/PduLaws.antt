-- What has no reason to be refused is a PDU, and what is written is one.
use Rattle.std.proofs.Common.{◌≡◌, ◌≢◌, ◌==◌, ◌↔◌, ℕ, ◌+◌, ◌-◌, ◌*◌, ◌/◌, ◌%◌, ◌^◌, ◌<◌, ◌≤◌, Bool, true, false, not, ◌&&◌, Result, Ok, Err, IfOk, List, [], ◌∷◌, length, slice_index, refl, sym, ◌∙◌, arith, None, inl, inr, lit<, true≢false, eq-eqb, ne_eqb, ltb-true, lt-ltb}
use Rattle.std.proofs.lemmas.Bool.{cases_lt, not-true, not_from_false}
use Rattle.gnb_types.specs.declared.names.SnBits.{SnBits}
use Rattle.gnb_types.specs.declared.names.SnBits.TheVariants.{Len12, Len18}
use Rattle.pdcp.specs.declared.pdu.Pdu.{Pdu}
use Rattle.pdcp.specs.Pdus.{Content, content_of, data_pdu, status_report, Pdcp, refusals, is_data, radio_data, report_octets, bitmap, fewest}
use Rattle.pdcp.specs.Numbers.{space}
use Rattle.pdcp.specs.Tests.{tests}
use Rattle.gnb_types.specs.Refusals.{first_reason, AreTests}

-- each reason applies where its test holds
control_kind : (first : Bool) (n : ℕ) → ((not first && not (n == 0)) ≡ true) ↔ ((first ≡ false) × (n ≢ 0))
control_kind true n = (λ h. absurd (cc), λ h. absurd (cc))
control_kind false n = (λ h. (refl, λ e. true≢false (sym (eq-eqb n 0 e) ∙ not-true (n == 0) h)), λ h. not_from_false (n == 0) (ne_eqb n 0 h.1))

pub are_tests : (sn : SnBits) (octets : List ℕ) → AreTests (tests sn octets) (refusals sn octets)
are_tests sn octets = (
  refl,
  (ltb-true (length octets) (fewest sn (is_data octets)), lt-ltb (length octets) (fewest sn (is_data octets))),
  (refl, control_kind (is_data octets) (slice_index octets 0 / 16 % 8), tt),
)

pub no_test : (sn : SnBits) (octets : List ℕ) (content : Content) → Pdcp sn content octets → first_reason (tests sn octets) ≡ None
no_test sn octets content h = grind (arith, h)

pub none_where_found : {E : Type 0} (sn : SnBits) (octets : List ℕ) (r : Result Pdu E) → IfOk r (λ pdu. Pdcp sn (content_of pdu) octets)
    → IfOk r (λ pdu. first_reason (tests sn octets) ≡ None)
none_where_found sn octets (Ok pdu) h = no_test sn octets (content_of pdu) h
none_where_found sn octets (Err e) h = tt

abbrev pub IsPdu : SnBits → List ℕ → Type 0
IsPdu sn octets = (content : Content) × Pdcp sn content octets

report : (sn : SnBits) (first a b c d : ℕ) (octets : List ℕ) → first < 16 → IsPdu sn (first ∷ a ∷ b ∷ c ∷ d ∷ octets)
report Len12 first a b c d octets low = (status_report (((a * 256 + b) * 256 + c) * 256 + d) octets, (low, refl, refl))
report Len18 first a b c d octets low = (status_report (((a * 256 + b) * 256 + c) * 256 + d) octets, (low, refl, refl))

-- a control PDU
control : (sn : SnBits) (first : ℕ) (octets : List ℕ) → first < 128 → first_reason (tests sn (first ∷ octets)) ≡ None
    → IsPdu sn (first ∷ octets)
control Len12 first [] low h = absurd (grind (arith, h))
control Len12 first (a ∷ []) low h = absurd (grind (arith, h))
control Len12 first (a ∷ b ∷ []) low h = absurd (grind (arith, h))
control Len12 first (a ∷ b ∷ c ∷ []) low h = absurd (grind (arith, h))
control Len12 first (a ∷ b ∷ c ∷ d ∷ octets) low h = report Len12 first a b c d octets (grind (arith, h))
control Len18 first [] low h = absurd (grind (arith, h))
control Len18 first (a ∷ []) low h = absurd (grind (arith, h))
control Len18 first (a ∷ b ∷ []) low h = absurd (grind (arith, h))
control Len18 first (a ∷ b ∷ c ∷ []) low h = absurd (grind (arith, h))
control Len18 first (a ∷ b ∷ c ∷ d ∷ octets) low h = report Len18 first a b c d octets (grind (arith, h))

-- a data PDU
data_of : (sn : SnBits) (first : ℕ) (octets : List ℕ) → 128 ≤ first → first_reason (tests sn (first ∷ octets)) ≡ None
    → IsPdu sn (first ∷ octets)
data_of Len12 first [] high h = absurd (grind (arith, h))
data_of Len12 first (a ∷ []) high h = absurd (grind (arith, h))
data_of Len12 first (a ∷ b ∷ octets) high h = (data_pdu (first % 16 * 256 + a) (b ∷ octets), (high, refl, refl))
data_of Len18 first [] high h = absurd (grind (arith, h))
data_of Len18 first (a ∷ []) high h = absurd (grind (arith, h))
data_of Len18 first (a ∷ b ∷ []) high h = absurd (grind (arith, h))
data_of Len18 first (a ∷ b ∷ c ∷ octets) high h = (data_pdu ((first % 4 * 256 + a) * 256 + b) (c ∷ octets), (high, refl, refl))

pub pdu_without_reason : (sn : SnBits) (octets : List ℕ) → first_reason (tests sn octets) ≡ None → IsPdu sn octets
pdu_without_reason Len12 [] h = absurd (grind (arith, h))
pdu_without_reason Len18 [] h = absurd (grind (arith, h))
pdu_without_reason sn (first ∷ octets) h = elim (cases_lt first 128) [ inl low ↦ control sn first octets low h | inr high ↦ data_of sn first octets high h ]

-- what is written is read again
pub data_written : (sn : SnBits) (count : ℕ) (packet : List ℕ) → 0 < length packet
    → Pdcp sn (data_pdu (count % space sn) packet) (radio_data sn count packet)
unfolding radio_data
data_written Len12 count [] some = absurd (omega arith)
data_written Len12 count (octet ∷ packet) some = (omega arith, omega arith, refl)
data_written Len18 count [] some = absurd (omega arith)
data_written Len18 count (octet ∷ packet) some = (omega arith, omega arith, refl)

pub report_written : (sn : SnBits) (fmc : ℕ) (bits : List Bool) → fmc < 2 ^ 32
    → Pdcp sn (status_report fmc (bitmap bits)) (report_octets fmc bits)
report_written Len12 fmc bits small = (lit< tt, omega arith, refl)
report_written Len18 fmc bits small = (lit< tt, omega arith, refl)

-- how long a written data PDU is
pub length-radio_data : (sn : SnBits) (count : ℕ) (packet : List ℕ)
    → length (radio_data sn count packet) ≡ fewest sn true - 1 + length packet
unfolding radio_data
length-radio_data Len12 count packet = omega arith
length-radio_data Len18 count packet = omega arith

-- octets say one thing
pub content_is : (sn : SnBits) (octets : List ℕ) (content other : Content) → Pdcp sn content octets → Pdcp sn other octets → content ≡ other
content_is sn octets content other h k = grind arith
