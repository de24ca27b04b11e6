-- The octets of a frame have no reason to be refused, and octets without one are those of the frame at their places.
use Rattle.std.proofs.Common.{◌≡◌, ℕ, ◌+◌, ◌*◌, ◌/◌, ◌%◌, ◌<◌, ◌≤◌, ◌≢◌, ◌==◌, ◌⊎◌, inl, inr, Bool, true, false, ◌&&◌, not, if◌then◌else◌, nat_le, nat_lt, zero, suc, Option, Some, None, is_some, List, [], ◌∷◌, length, drop, slice_index, refl, sym, ◌∙◌, ap, arith, drop-drop, length-drop, get_or-drop, Result, Ok, Err, IfOk, IfErr, subst, lit<, eqb-true, eq-eqb, ltb-true, lt-ltb}
use Rattle.std.proofs.lemmas.Bool.{cases_lt, not-true, not_from_false}
use Rattle.nr_user_plane.specs.declared.frames.Frame.{Frame}
use Rattle.nr_user_plane.specs.declared.frames.Frame.TheVariants.{Data, Status}
use Rattle.nr_user_plane.specs.declared.frames.FrameError.{FrameError}
use Rattle.nr_user_plane.specs.declared.frames.FrameError.TheVariants as reasons
use Rattle.nr_user_plane.specs.Frames.{Nru, IsPadding, HasEnd, HasRanges, HasLost, number24, flag, is_lost}
use Rattle.gnb_types.specs.Refusals.{first_reason, AreTests}
use Rattle.gnb_types.proofs.Refusals.{tested_first, first_refused}
use Rattle.nr_user_plane.specs.Reasons.{refusals, IsRefusal, fields_end, has_good_ranges, has_clear_spares, kind, is_clear_data, is_clear_status, number24_at, pairs_at, are_apart, is_padding, frame_at, lost_len, delivered_len, is_good_lost, lost_at, delivered_at}
use Rattle.nr_user_plane.specs.Tests.{tests, status_reason, Answers}
use Rattle.nr_user_plane.proofs.Statuses.{first_reason-status}

-- each reason applies where its test holds
pub are_tests : (octets : List ℕ) → AreTests (tests octets) (refusals octets)
are_tests octets = (
  refl,
  (eqb-true (length octets) 0, eq-eqb (length octets) 0),
  (
    refl,
    (ltb-true 1 (kind octets), lt-ltb 1 (kind octets)),
    (
      refl,
      (ltb-true (length octets) (fields_end octets), lt-ltb (length octets) (fields_end octets)),
      (
        refl,
        (not-true (has_good_ranges octets), not_from_false (has_good_ranges octets)),
        (refl, (not-true (has_clear_spares octets && is_padding (drop (fields_end octets) octets)), not_from_false (has_clear_spares octets && is_padding (drop (fields_end octets) octets))), tt),
      ),
    ),
  ),
)

-- padding, as a fact and as a test
pub tested_padding : (octets : List ℕ) → IsPadding octets → is_padding octets ≡ true
tested_padding [] h = refl
tested_padding (a ∷ []) h = let z : a ≡ 0 = cc in rw z refl
tested_padding (a ∷ b ∷ []) h = let y : a ≡ 0 = cc in let z : b ≡ 0 = cc in rw (y, z) refl
tested_padding (a ∷ b ∷ c ∷ []) h = let x : a ≡ 0 = cc in let y : b ≡ 0 = cc in let z : c ≡ 0 = cc in rw (x, y, z) refl
tested_padding (a ∷ b ∷ c ∷ d ∷ octets) h = absurd (omega (arith, h.0))

pub padding_tested : (octets : List ℕ) → is_padding octets ≡ true → IsPadding octets
padding_tested [] h = (omega arith, refl)
padding_tested (a ∷ []) h = let z : a ≡ 0 = grind (arith, h) in (omega arith, rw z refl)
padding_tested (a ∷ b ∷ []) h = let y : a ≡ 0 = grind (arith, h) in let z : b ≡ 0 = grind (arith, h) in (omega arith, rw (y, z) refl)
padding_tested (a ∷ b ∷ c ∷ []) h =
    let x : a ≡ 0 = grind (arith, h) in let y : b ≡ 0 = grind (arith, h) in let z : c ≡ 0 = grind (arith, h) in (omega arith, rw (x, y, z) refl)
padding_tested (a ∷ b ∷ c ∷ d ∷ octets) h = absurd (grind (arith, h))

-- ranges are the pairs at their places, which are apart, and the end is after them
pub record RangesRead (least : ℕ) (ranges : List (ℕ × ℕ)) (delivered : Option ℕ) (octets : List ℕ) : Type 0 where
  pub pairs : pairs_at (length ranges) octets ≡ ranges
  pub apart : are_apart least ranges ≡ true
  pub ends : HasEnd delivered (drop (6 * length ranges) octets)
  pub whole : 6 * length ranges ≤ length octets

well_placed : (least start end : ℕ) (more : Bool) → least ≤ start → start ≤ end → more ≡ true
    → nat_le least start && (nat_le start end && more) ≡ true
well_placed least start end more low high rest = grind arith

pub ranges_read : (least : ℕ) (ranges : List (ℕ × ℕ)) (delivered : Option ℕ) (octets : List ℕ) → HasRanges least ranges delivered octets
    → RangesRead least ranges delivered octets
ranges_read least [] delivered octets h = record { pairs = refl; apart = refl; ends = h; whole = omega arith }
ranges_read least (range ∷ ranges) delivered [] h = absurd h
ranges_read least (range ∷ ranges) delivered (a ∷ []) h = absurd h
ranges_read least (range ∷ ranges) delivered (a ∷ b ∷ []) h = absurd h
ranges_read least (range ∷ ranges) delivered (a ∷ b ∷ c ∷ []) h = absurd h
ranges_read least (range ∷ ranges) delivered (a ∷ b ∷ c ∷ d ∷ []) h = absurd h
ranges_read least (range ∷ ranges) delivered (a ∷ b ∷ c ∷ d ∷ e ∷ []) h = absurd h
ranges_read least (range ∷ ranges) delivered (a ∷ b ∷ c ∷ d ∷ e ∷ f ∷ octets) h =
    let ih = ranges_read (range.1 + 1) ranges delivered octets h.3 in
    let sum : 6 * length (range ∷ ranges) ≡ suc (suc (suc (suc (suc (suc (6 * length ranges)))))) = omega arith in
    record {
      pairs = ap (λ (x : ℕ × ℕ). x ∷ pairs_at (length ranges) octets) (sym h.0) ∙ ap (λ (xs : List (ℕ × ℕ)). range ∷ xs) ih.pairs;
      apart = well_placed least range.0 range.1 (are_apart (range.1 + 1) ranges) h.1 h.2 ih.apart;
      ends = rw sum ih.ends;
      whole = omega (arith, ih.whole);
    }

-- and the other way round
left_of_and : (a b : Bool) → a && b ≡ true → a ≡ true
left_of_and true b h = refl
left_of_and false b h = absurd (cc)

right_of_and : (a b : Bool) → a && b ≡ true → b ≡ true
right_of_and true b h = h
right_of_and false b h = absurd (cc)

eq_of_test : (m n : ℕ) → (m == n) ≡ true → m ≡ n
eq_of_test m n h = grind arith

true_or_false : (b : Bool) → (b ≡ true) ⊎ (b ≡ false)
true_or_false true = inl refl
true_or_false false = inr refl

le_of_test : (m n : ℕ) → nat_le m n ≡ true → m ≤ n
le_of_test m n h = grind arith

pub has_ranges : (count least : ℕ) (delivered : Option ℕ) (octets : List ℕ) → are_apart least (pairs_at count octets) ≡ true
    → 6 * count ≤ length octets
    → HasEnd delivered (drop (6 * count) octets) → HasRanges least (pairs_at count octets) delivered octets
has_ranges zero least delivered octets apart whole ends = ends
has_ranges (suc count) least delivered [] apart whole ends = absurd (omega arith)
has_ranges (suc count) least delivered (a ∷ []) apart whole ends = absurd (omega arith)
has_ranges (suc count) least delivered (a ∷ b ∷ []) apart whole ends = absurd (omega arith)
has_ranges (suc count) least delivered (a ∷ b ∷ c ∷ []) apart whole ends = absurd (omega arith)
has_ranges (suc count) least delivered (a ∷ b ∷ c ∷ d ∷ []) apart whole ends = absurd (omega arith)
has_ranges (suc count) least delivered (a ∷ b ∷ c ∷ d ∷ e ∷ []) apart whole ends = absurd (omega arith)
has_ranges (suc count) least delivered (a ∷ b ∷ c ∷ d ∷ e ∷ f ∷ octets) apart whole ends =
    let start = number24 a b c in
    let end = number24 d e f in
    let more = are_apart (end + 1) (pairs_at count octets) in
    let rest = right_of_and (nat_le least start) (nat_le start end && more) apart in
    let sum : 6 * suc count ≡ suc (suc (suc (suc (suc (suc (6 * count)))))) = omega arith in
    let enough : 6 * count ≤ length octets = omega arith in
    let ends' : HasEnd delivered (drop (6 * count) octets) = rw sum at ends in (
      refl,
      le_of_test least start (left_of_and (nat_le least start) (nat_le start end && more) apart),
      le_of_test start end (left_of_and (nat_le start end) more rest),
      has_ranges count (end + 1) delivered octets (right_of_and (nat_le start end) more rest) enough ends',
    )

-- the end of a status, by its places
pub record EndRead (delivered : Option ℕ) (octets : List ℕ) : Type 0 where
  pub whole : (if is_some delivered then 3 else 0) ≤ length octets
  pub number : (if is_some delivered then Some (number24_at octets 0) else None) ≡ delivered
  pub padding : is_padding (drop (if is_some delivered then 3 else 0) octets) ≡ true

pub end_read : (delivered : Option ℕ) (octets : List ℕ) → HasEnd delivered octets → EndRead delivered octets
end_read None octets h = record { whole = omega arith; number = refl; padding = tested_padding octets h }
end_read (Some number) [] h = absurd h
end_read (Some number) (a ∷ []) h = absurd h
end_read (Some number) (a ∷ b ∷ []) h = absurd h
end_read (Some number) (a ∷ b ∷ c ∷ octets) h = record { whole = omega arith; number = ap Some (sym h.0); padding = tested_padding octets h.1 }

pub has_end : (is_there : Bool) (octets : List ℕ) → (if is_there then 3 else 0) ≤ length octets
    → is_padding (drop (if is_there then 3 else 0) octets) ≡ true → HasEnd (if is_there then Some (number24_at octets 0) else None) octets
has_end false octets whole padding = padding_tested octets padding
has_end true [] whole padding = absurd (omega arith)
has_end true (a ∷ []) whole padding = absurd (omega arith)
has_end true (a ∷ b ∷ []) whole padding = absurd (omega arith)
has_end true (a ∷ b ∷ c ∷ octets) whole padding = (refl, padding_tested octets padding)

-- a first octet of a status says by its bits whether there are lost ranges, and whether there is a delivered number
first_octet : (delivered lost : Bool) (first : ℕ) → first ≡ 16 + 4 * flag delivered + flag lost
    → (first / 16 ≡ 1) × ((first % 2 == 1) ≡ lost) × ((first / 4 % 2 == 1) ≡ delivered) × (is_clear_status first 0 ≡ true)
first_octet false false first is = rw is (refl, refl, refl, refl)
first_octet false true first is = rw is (refl, refl, refl, refl)
first_octet true false first is = rw is (refl, refl, refl, refl)
first_octet true true first is = rw is (refl, refl, refl, refl)

octet_of_bits : (first : ℕ) (delivered lost : Bool) → first / 16 ≡ 1 → (first % 2 == 1) ≡ lost → (first / 4 % 2 == 1) ≡ delivered
    → first / 2 % 2 ≡ 0 → first / 8 % 2 ≡ 0 → first ≡ 16 + 4 * flag delivered + flag lost
octet_of_bits first false false kind l d s t = let l' : first % 2 ≢ 1 = grind arith in let d' : first / 4 % 2 ≢ 1 = grind arith in omega arith
octet_of_bits first false true kind l d s t = let l' : first % 2 ≡ 1 = grind arith in let d' : first / 4 % 2 ≢ 1 = grind arith in omega arith
octet_of_bits first true false kind l d s t = let l' : first % 2 ≢ 1 = grind arith in let d' : first / 4 % 2 ≡ 1 = grind arith in omega arith
octet_of_bits first true true kind l d s t = let l' : first % 2 ≡ 1 = grind arith in let d' : first / 4 % 2 ≡ 1 = grind arith in omega arith

-- each test that a status passes
pub record Passes (first second : ℕ) (fields : List ℕ) : Type 0 where
  pub enough : lost_len first fields + delivered_len first ≤ length fields
  pub good : is_good_lost first fields ≡ true
  pub clear : is_clear_status first second ≡ true
  pub padding : is_padding (drop (lost_len first fields + delivered_len first) fields) ≡ true

no_less : (m n : ℕ) → n ≤ m → nat_lt m n ≡ false
no_less m n h = grind arith

pub passes_none : (first second : ℕ) (fields : List ℕ) → Passes first second fields → status_reason first second fields ≡ None
passes_none first second fields p =
    rw (no_less (length fields) (lost_len first fields + delivered_len first) p.enough, p.good, p.clear, p.padding) refl

first_test : {E : Type 0} (test : Bool) (reason : E) (more : Option E) → (if test then Some reason else more) ≡ None → (test ≡ false)
    × (more ≡ None)
first_test true reason more h = absurd (cc)
first_test false reason more h = (refl, h)

not_not : (b : Bool) → not b ≡ false → b ≡ true
not_not true h = refl
not_not false h = absurd (cc)

no_less_back : (m n : ℕ) → nat_lt m n ≡ false → n ≤ m
no_less_back m n h = grind arith

pub none_passes : (first second : ℕ) (fields : List ℕ) → status_reason first second fields ≡ None → Passes first second fields
none_passes first second fields h =
    let n = lost_len first fields + delivered_len first in
    let long = first_test (nat_lt (length fields) n) reasons.Truncated _ h in
    let apart = first_test (not (is_good_lost first fields)) reasons.Ranges _ long.1 in
    let spare = first_test (not (is_clear_status first second && is_padding (drop n fields))) reasons.Spare _ apart.1 in
    let both = not_not (is_clear_status first second && is_padding (drop n fields)) spare.0 in
    record {
      enough = no_less_back (length fields) n long.0;
      good = not_not (is_good_lost first fields) apart.0;
      clear = left_of_and (is_clear_status first second) (is_padding (drop n fields)) both;
      padding = right_of_and (is_clear_status first second) (is_padding (drop n fields)) both;
    }

-- a number after others
after_one : (octet : ℕ) (octets : List ℕ) (n : ℕ) → number24_at (octet ∷ octets) (suc n) ≡ number24_at octets n
after_one octet octets n =
    let one : suc n + 1 ≡ suc (n + 1) = omega arith in
    let two : suc n + 2 ≡ suc (n + 2) = omega arith in
    rw (one, two) refl

pub after_some : (n : ℕ) (octets : List ℕ) → number24_at (drop n octets) 0 ≡ number24_at octets n
after_some n octets = grind (arith, get_or-drop)

-- the fields of a status that it is
pub record StatusRead (lost : List (ℕ × ℕ)) (delivered : Option ℕ) (first second : ℕ) (fields : List ℕ) : Type 0 where
  pub passes : Passes first second fields
  pub lost_is : lost_at first fields ≡ lost
  pub delivered_is : delivered_at first fields ≡ delivered

small_count : (count : ℕ) (ranges : List (ℕ × ℕ)) (range : ℕ × ℕ) (apart : Bool) → count ≡ length (range ∷ ranges) → count ≤ 7
    → apart ≡ true
    → (nat_le 1 count && nat_le count 7) && apart ≡ true
small_count count ranges range apart is small good =
    let some : nat_le 1 count ≡ true = grind arith in let few : nat_le count 7 ≡ true = grind arith in rw (some, few, good) refl

pub status_read : (lost : List (ℕ × ℕ)) (delivered : Option ℕ) (first second : ℕ) (fields : List ℕ)
    → first ≡ 16 + 4 * flag (is_some delivered) + flag (is_lost lost)
    → second ≡ 0 → HasLost lost delivered fields → StatusRead lost delivered first second fields
status_read [] delivered first second fields first_is second_is h =
    let bits = first_octet (is_some delivered) false first first_is in
    let end = end_read delivered fields h in
    let skip : 0 + (if is_some delivered then 3 else 0) ≡ (if is_some delivered then 3 else 0) = omega arith in
    record {
      passes = record {
        enough = rw (bits.1, bits.2, skip) end.whole;
        good = rw bits.1 refl;
        clear = rw second_is bits.3;
        padding = rw (bits.1, bits.2, skip) end.padding;
      };
      lost_is = rw bits.1 refl;
      delivered_is = rw (bits.1, bits.2) end.number;
    }
status_read (range ∷ ranges) delivered first second [] first_is second_is h = absurd h
status_read (range ∷ ranges) delivered first second (count ∷ octets) first_is second_is h =
    let bits = first_octet (is_some delivered) true first first_is in
    let read = ranges_read 0 (range ∷ ranges) delivered octets h.2 in
    let end = end_read delivered (drop (6 * length (range ∷ ranges)) octets) read.ends in
    let three : ℕ = if is_some delivered then 3 else 0 in
    let skip : 1 + 6 * count + three ≡ suc (6 * length (range ∷ ranges) + three) = omega (arith, h.0) in
    let skip' : 1 + 6 * count ≡ suc (6 * length (range ∷ ranges)) = omega (arith, h.0) in
    let pairs : pairs_at count octets ≡ range ∷ ranges = ap (λ n. pairs_at n octets) h.0 ∙ read.pairs in
    let whole = end.whole in
    record {
      passes = record {
        enough = rw (bits.1, bits.2, skip) (omega (arith, read.whole, length-drop (6 * length (range ∷ ranges)) octets));
        good = rw (bits.1, pairs) (small_count count ranges range (are_apart 0 (range ∷ ranges)) h.0 h.1 read.apart);
        clear = rw second_is bits.3;
        padding = rw (bits.1, bits.2, skip, ← drop-drop three (6 * length (range ∷ ranges)) octets) end.padding;
      };
      lost_is = rw bits.1 pairs;
      delivered_is = rw (bits.1, bits.2, skip', after_one count octets (6 * length (range ∷ ranges)), ← after_some (6 * length (range ∷ ranges)) octets) end.number;
    }

-- A frame's octets: no reason applies, and the frame is the one at their places.
pub record IsRead (frame : Frame) (octets : List ℕ) : Type 0 where
  pub none : first_reason (tests octets) ≡ None
  pub is : frame_at octets ≡ frame

flag_data : (poll restart : Bool) (first second : ℕ) → first ≡ flag poll → second ≡ flag restart
    → (first / 16 ≡ 0) × ((first % 2 == 1) ≡ poll) × ((second % 2 == 1) ≡ restart) × (is_clear_data first second ≡ true)
flag_data false false first second f s = rw (f, s) (refl, refl, refl, refl)
flag_data false true first second f s = rw (f, s) (refl, refl, refl, refl)
flag_data true false first second f s = rw (f, s) (refl, refl, refl, refl)
flag_data true true first second f s = rw (f, s) (refl, refl, refl, refl)

long_enough : (n : ℕ) → ((5 + n == 0) ≡ false) × (nat_lt (5 + n) 5 ≡ false)
long_enough n = (grind arith, grind arith)

pub frame_read : (frame : Frame) (octets : List ℕ) → Nru frame octets → IsRead frame octets
frame_read (Data poll restart sn) [] h = absurd h
frame_read (Data poll restart sn) (first ∷ []) h = absurd h
frame_read (Data poll restart sn) (first ∷ second ∷ []) h = absurd h
frame_read (Data poll restart sn) (first ∷ second ∷ a ∷ []) h = absurd h
frame_read (Data poll restart sn) (first ∷ second ∷ a ∷ b ∷ []) h = absurd h
frame_read (Data poll restart sn) (first ∷ second ∷ a ∷ b ∷ c ∷ padding) h =
    let bits = flag_data poll restart first second h.0 h.1 in
    let len : length (first ∷ second ∷ a ∷ b ∷ c ∷ padding) ≡ 5 + length padding = omega arith in
    let long = long_enough (length padding) in
    record {
      none = rw (bits.0, len, long.0, long.1, bits.3, tested_padding padding h.3) refl;
      is = rw (bits.0, bits.1, bits.2, ← h.2) refl;
    }
frame_read (Status room lost delivered) [] h = absurd h
frame_read (Status room lost delivered) (first ∷ []) h = absurd h
frame_read (Status room lost delivered) (first ∷ second ∷ []) h = absurd h
frame_read (Status room lost delivered) (first ∷ second ∷ a ∷ []) h = absurd h
frame_read (Status room lost delivered) (first ∷ second ∷ a ∷ b ∷ []) h = absurd h
frame_read (Status room lost delivered) (first ∷ second ∷ a ∷ b ∷ c ∷ []) h = absurd h
frame_read (Status room lost delivered) (first ∷ second ∷ a ∷ b ∷ c ∷ d ∷ fields) h =
    let octets : List ℕ = first ∷ second ∷ a ∷ b ∷ c ∷ d ∷ fields in
    let bits = first_octet (is_some delivered) (is_lost lost) first h.0 in
    let read = status_read lost delivered first second fields h.0 h.1 h.3 in
    let long : 6 ≤ length octets = omega arith in
    record {
      none = first_reason-status octets bits.0 long ∙ passes_none first second fields read.passes;
      is = rw (bits.0, read.lost_is, read.delivered_is, ← h.2) refl;
    }

-- The other way round, by the flags of a status.
length-pairs_at : (count : ℕ) (octets : List ℕ) → length (pairs_at count octets) ≡ count
length-pairs_at zero octets = refl
length-pairs_at (suc count) octets = ap suc (length-pairs_at count (drop 6 octets))

-- what the fields of a status are, where it passes each test
pub record StatusIs (first : ℕ) (fields : List ℕ) (lost : List (ℕ × ℕ)) (delivered : Option ℕ) : Type 0 where
  pub first_is : first ≡ 16 + 4 * flag (is_some delivered) + flag (is_lost lost)
  pub fields_are : HasLost lost delivered fields

is_some-if : (b : Bool) (n : ℕ) → is_some (if b then Some n else None) ≡ b
is_some-if true n = refl
is_some-if false n = refl

no_lost : (first second : ℕ) (fields : List ℕ) (d : Bool) → first / 16 ≡ 1 → (first % 2 == 1) ≡ false → (first / 4 % 2 == 1) ≡ d
    → first / 2 % 2 ≡ 0 → first / 8 % 2 ≡ 0
    → Passes first second fields → StatusIs first fields (lost_at first fields) (delivered_at first fields)
no_lost first second fields d kind lost_bit delivered_bit s t p =
    let skip : 0 + (if d then 3 else 0) ≡ (if d then 3 else 0) = omega arith in
    let enough : (if d then 3 else 0) ≤ length fields = rw (lost_bit, delivered_bit, skip) at p.enough in
    let padding : is_padding (drop (if d then 3 else 0) fields) ≡ true = rw (lost_bit, delivered_bit, skip) at p.padding in
    rw (lost_bit, delivered_bit) (record {
      first_is = rw (is_some-if d (number24_at fields 0)) (octet_of_bits first d false kind lost_bit delivered_bit s t);
      fields_are = has_end d fields enough padding;
    })

some_lost : (first second : ℕ) (fields : List ℕ) (d : Bool) → first / 16 ≡ 1 → (first % 2 == 1) ≡ true → (first / 4 % 2 == 1) ≡ d
    → first / 2 % 2 ≡ 0 → first / 8 % 2 ≡ 0
    → Passes first second fields → StatusIs first fields (lost_at first fields) (delivered_at first fields)
some_lost first second [] d kind lost_bit delivered_bit s t p = let enough = rw lost_bit at p.enough in absurd (omega arith)
some_lost first second (zero ∷ octets) d kind lost_bit delivered_bit s t p = let good = rw lost_bit at p.good in absurd (cc)
some_lost first second (suc k ∷ octets) d kind lost_bit delivered_bit s t p =
    let three : ℕ = if d then 3 else 0 in
    let skip : 1 + 6 * suc k + three ≡ suc (6 * suc k + three) = omega arith in
    let skip' : 1 + 6 * suc k ≡ suc (6 * suc k) = omega arith in
    let good = rw lost_bit at p.good in
    let few = left_of_and (nat_le 1 (suc k) && nat_le (suc k) 7) (are_apart 0 (pairs_at (suc k) octets)) good in
    let apart = right_of_and (nat_le 1 (suc k) && nat_le (suc k) 7) (are_apart 0 (pairs_at (suc k) octets)) good in
    let enough : suc (6 * suc k + three) ≤ suc (length octets) = rw (lost_bit, delivered_bit, skip) at p.enough in
    let whole : 6 * suc k ≤ length octets = omega arith in
    let padding : is_padding (drop (6 * suc k + three) octets) ≡ true = rw (lost_bit, delivered_bit, skip) at p.padding in
    let padding' : is_padding (drop three (drop (6 * suc k) octets)) ≡ true = rw (drop-drop three (6 * suc k) octets) padding in
    let enough' : three ≤ length (drop (6 * suc k) octets) = rw (length-drop (6 * suc k) octets) (omega arith) in
    let ends = has_end d (drop (6 * suc k) octets) enough' padding' in
    rw (lost_bit, delivered_bit, skip', after_one (suc k) octets (6 * suc k), ← after_some (6 * suc k) octets) (record {
      first_is = rw (is_some-if d (number24_at (drop (6 * suc k) octets) 0)) (octet_of_bits first d true kind lost_bit delivered_bit s t);
      fields_are = (
        sym (length-pairs_at (suc k) octets),
        le_of_test (suc k) 7 (right_of_and (nat_le 1 (suc k)) (nat_le (suc k) 7) few),
        has_ranges (suc k) 0 _ octets apart whole ends,
      );
    })

status_is : (first second : ℕ) (fields : List ℕ) → first / 16 ≡ 1 → Passes first second fields
    → StatusIs first fields (lost_at first fields) (delivered_at first fields)
status_is first second fields kind p =
    let s : first / 2 % 2 ≡ 0 = eq_of_test (first / 2 % 2) 0 (left_of_and _ _ (left_of_and _ _ p.clear)) in
    let t : first / 8 % 2 ≡ 0 = eq_of_test (first / 8 % 2) 0 (right_of_and _ _ (left_of_and _ _ p.clear)) in
    elim (true_or_false (first % 2 == 1)) [
      | inl set ↦ some_lost first second fields (first / 4 % 2 == 1) kind set refl s t p
      | inr clear ↦ no_lost first second fields (first / 4 % 2 == 1) kind clear refl s t p
    ]

second_clear : (first second : ℕ) → is_clear_status first second ≡ true → second ≡ 0
second_clear first second clear = eq_of_test second 0 (right_of_and ((first / 2 % 2 == 0) && (first / 8 % 2 == 0)) (second == 0) clear)

below_six : (m n : ℕ) → m < 6 → nat_lt m (6 + n) ≡ true
below_six m n h = grind arith

short_status : (octets : List ℕ) → kind octets ≡ 1 → length octets < 6 → first_reason (tests octets) ≡ None → ⊥
short_status octets kind_is short h =
    let end : nat_lt (length octets) (6 + (lost_len (slice_index octets 0) (drop 6 octets) + delivered_len (slice_index octets 0))) ≡ true = below_six (length octets) _ short in
    elim (true_or_false (length octets == 0)) [
      | inl none ↦ (let h' = rw none at h in cc)
      | inr some ↦ (let h' = rw (some, kind_is, end) at h in cc)
    ]

status_frame : (octets : List ℕ) → kind octets ≡ 1 → first_reason (tests octets) ≡ None → Nru (frame_at octets) octets
status_frame [] kind_is h = absurd (short_status [] kind_is (lit< tt) h)
status_frame (first ∷ []) kind_is h = absurd (short_status (first ∷ []) kind_is (omega arith) h)
status_frame (first ∷ second ∷ []) kind_is h = absurd (short_status (first ∷ second ∷ []) kind_is (omega arith) h)
status_frame (first ∷ second ∷ a ∷ []) kind_is h = absurd (short_status (first ∷ second ∷ a ∷ []) kind_is (omega arith) h)
status_frame (first ∷ second ∷ a ∷ b ∷ []) kind_is h = absurd (short_status (first ∷ second ∷ a ∷ b ∷ []) kind_is (omega arith) h)
status_frame (first ∷ second ∷ a ∷ b ∷ c ∷ []) kind_is h = absurd (short_status (first ∷ second ∷ a ∷ b ∷ c ∷ []) kind_is (omega arith) h)
status_frame (first ∷ second ∷ a ∷ b ∷ c ∷ d ∷ fields) kind_is h =
    let octets : List ℕ = first ∷ second ∷ a ∷ b ∷ c ∷ d ∷ fields in
    let long : 6 ≤ length octets = omega arith in
    let passes = none_passes first second fields (sym (first_reason-status octets kind_is long) ∙ h) in
    let is = status_is first second fields kind_is passes in
    rw kind_is (is.first_is, second_clear first second passes.clear, refl, is.fields_are)

flag_of : (n : ℕ) → n / 2 ≡ 0 → n ≡ flag (n % 2 == 1)
flag_of zero h = refl
flag_of (suc zero) h = refl
flag_of (suc (suc n)) h = absurd (omega arith)

data_frame : (octets : List ℕ) → kind octets ≡ 0 → first_reason (tests octets) ≡ None → Nru (frame_at octets) octets
data_frame [] kind_is h = absurd (cc)
data_frame (first ∷ []) kind_is h = let h' = rw kind_is at h in absurd (cc)
data_frame (first ∷ second ∷ []) kind_is h = let h' = rw kind_is at h in absurd (cc)
data_frame (first ∷ second ∷ a ∷ []) kind_is h = let h' = rw kind_is at h in absurd (cc)
data_frame (first ∷ second ∷ a ∷ b ∷ []) kind_is h = let h' = rw kind_is at h in absurd (cc)
data_frame (first ∷ second ∷ a ∷ b ∷ c ∷ padding) kind_is h =
    let len : length (first ∷ second ∷ a ∷ b ∷ c ∷ padding) ≡ 5 + length padding = omega arith in
    let long = long_enough (length padding) in
    let h' = rw (kind_is, len, long.0, long.1) at h in
    let both = not_not (is_clear_data first second && is_padding padding) (first_test (not (is_clear_data first second && is_padding padding)) reasons.Spare None h').0 in
    let clear = left_of_and (is_clear_data first second) (is_padding padding) both in
    let f : first / 2 % 8 ≡ 0 = eq_of_test (first / 2 % 8) 0 (left_of_and (first / 2 % 8 == 0) (second / 2 == 0) clear) in
    let s : second / 2 ≡ 0 = eq_of_test (second / 2) 0 (right_of_and (first / 2 % 8 == 0) (second / 2 == 0) clear) in
    rw kind_is (
      flag_of first (omega arith),
      flag_of second s,
      refl,
      padding_tested padding (right_of_and (is_clear_data first second) (is_padding padding) both),
    )

other_kind : (octets : List ℕ) → 1 < kind octets → first_reason (tests octets) ≡ None → ⊥
other_kind [] other h = cc
other_kind (first ∷ octets) other h =
    let other' : nat_lt 1 (kind (first ∷ octets)) ≡ true = grind arith in
    let some : (length (first ∷ octets) == 0) ≡ false = grind arith in
    let h' = rw (some, other') at h in cc

pub frame_without_reason : (octets : List ℕ) → first_reason (tests octets) ≡ None → Nru (frame_at octets) octets
frame_without_reason octets h = elim (cases_lt 1 (kind octets)) [
  | inl other ↦ absurd (other_kind octets other h)
  | inr known ↦ elim (cases_lt (kind octets) 1) [ inl data_kind ↦ data_frame octets (omega arith) h | inr status ↦ status_frame octets (omega arith) h ]
]

-- what a caller of the reader learns
pub answers_found : (octets : List ℕ) (result : Result Frame FrameError) → Answers octets result → IfOk result (λ frame. Nru frame octets)
answers_found octets (Ok frame) h = let N : Frame → Type 0 = λ f. Nru f octets in subst N (sym h.1) (frame_without_reason octets h.0)
answers_found octets (Err reason) h = tt

pub answers_only : (octets : List ℕ) (result : Result Frame FrameError) → Answers octets result → (frame : Frame) → Nru frame octets
    → result ≡ Ok frame
answers_only octets (Ok found) h frame is = ap Ok (h.1 ∙ (frame_read frame octets is).is)
answers_only octets (Err reason) h frame is = let none = (frame_read frame octets is).none in absurd (cc)

pub answers_refused : (octets : List ℕ) (result : Result Frame FrameError) → Answers octets result
    → IfErr result (λ reason. IsRefusal reason octets)
answers_refused octets (Ok found) h = tt
answers_refused octets (Err reason) h = tested_first (tests octets) (refusals octets) reason (are_tests octets) h

pub answers_all : (octets : List ℕ) (result : Result Frame FrameError) → Answers octets result → (reason : FrameError)
    → IsRefusal reason octets → result ≡ Err reason
answers_all octets (Ok found) h reason k = first_refused (tests octets) (refusals octets) (are_tests octets) (Ok found) h.0 tt reason k
answers_all octets (Err first) h reason k = first_refused {X = Frame} (tests octets) (refusals octets) (are_tests octets) (Err first) tt h reason k
