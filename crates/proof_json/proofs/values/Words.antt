-- Texts, numbers, octets of what isn't known, and objects with one member.
use Rattle.std.proofs.Common.{◌≡◌, ℕ, suc, ◌+◌, ◌<◌, ◌≤◌, true, false, cond, ◌&&◌, ◌==◌, nat_lt, List, [], ◌∷◌, ◌++◌, length, Option, Some, None, is_some, refl, sym, ap, subst, ◌∙◌, arith, Ordering, Less, Equal, Greater, inl, inr}
use Rattle.std.specs.Prelude.{ℤ, pos, negsuc, nat_le}
use Rattle.std.specs.Ordering.{nat_cmp, is_eq, match_ordering}
use Rattle.std.specs.Cmp.Lexicographic.{slice_cmp}
use Rattle.std.proofs.lemmas.Bool.Decides.{nat_tests}
use Rattle.std.proofs.lemmas.Map.Lookups.{exact_bytes}
use Rattle.gnb_types.specs.Hex.{IsDigitOf, IsHexOf}
use Rattle.gnb_types.proofs.HexLemmas.{read_is_hex}
use Rattle.serde_json.specs.Data.{Data, array, no_items, item, Members, no_members, member}
use Rattle.serde_json.specs.Find.{get_member, as_str}
use Rattle.aper_defs.specs.Fields.{Path}
use Rattle.aper_defs.specs.Values.{Value, raw}
use Rattle.aper_defs.specs.Membership.{are_octets, IsRaw}
use Rattle.json_defs.specs.Members.{Text, natural_of, natural_in, octets_of, octets_in, same_text, place_in, member_count}
use Rattle.json_defs.specs.Shown.{ShowsRaw, ShowsPast}
use Rattle.json_defs.specs.Readings.{or_else, raw_in, past_in, past_raw_in, first_of}
use Rattle.json_defs.specs.Demands.{is_below, raw_demands, past_demands, is_within}
use Rattle.proof_json.proofs.values.Holding.{Holds, apart, by_cases, both_true, first_true, second_true, is_there}

-- ---- numbers
pub below : (a b : ℕ) → nat_lt a b ≡ true → a < b
below a b h = grind (arith, nat_tests)

pub not_below : (a b : ℕ) → nat_lt a b ≡ false → b ≤ a
not_below a b h = grind (arith, nat_tests)

pub is_less : (a b : ℕ) → a < b → nat_lt a b ≡ true
is_less a b h = grind (arith, nat_tests)

pub is_not_less : (a b : ℕ) → b ≤ a → nat_lt a b ≡ false
is_not_less a b h = grind (arith, nat_tests)

pub at_most : (a b : ℕ) → nat_le a b ≡ true → a ≤ b
at_most a b h = grind (arith, nat_tests)

pub is_at_most : (a b : ℕ) → a ≤ b → nat_le a b ≡ true
is_at_most a b h = grind (arith, nat_tests)

pub same : (a b : ℕ) → (a == b) ≡ true → a ≡ b
same a b h = grind (arith, nat_tests)

pub is_same : (a b : ℕ) → a ≡ b → (a == b) ≡ true
is_same a b h = grind (arith, nat_tests)

-- so far past the last name
pub below_room : (room : ℕ) (o : Option ℕ) → is_below room o ≡ true → (o ≡ Some (or_else 0 o)) × (or_else 0 o < room)
below_room room None h = cc
below_room room (Some n) h = (refl, below n room h)

-- a whole number from 0 to this one
pub within : (most : ℕ) (o : Option ℤ) → is_within most o ≡ true
    → (natural_of o ≡ Some (or_else 0 (natural_of o))) × (or_else 0 (natural_of o) ≤ most)
within most None h = cc
within most (Some (pos n)) h = (refl, at_most n most (second_true (nat_le 0 n) (nat_le n most) h))
within most (Some (negsuc n)) h = cc

pub is_within_of : (most n : ℕ) (o : Option ℤ) → natural_of o ≡ Some n → n ≤ most → is_within most o ≡ true
is_within_of most n None h g = cc
is_within_of most n (Some (pos m)) h g =
    let e : m ≡ n = cc in both_true (nat_le 0 m) (nat_le m most) (is_at_most 0 m (omega arith)) (is_at_most m most (omega arith))
is_within_of most n (Some (negsuc m)) h g = cc

-- ---- octets
digit_small : (c n : ℕ) → IsDigitOf c n → n < 16
digit_small c n (inl h) = omega (arith, h)
digit_small c n (inr h) = omega (arith, h)

hex_octets : (s os : List ℕ) → IsHexOf s os → are_octets os ≡ true
hex_octets [] [] h = refl
hex_octets [] (o ∷ os) h = absurd h
hex_octets (a ∷ []) os h = absurd h
hex_octets (a ∷ b ∷ s) [] h = absurd h
hex_octets (a ∷ b ∷ s) (o ∷ os) (high, low, first, second, e, others) =
    both_true (nat_lt o 256) (are_octets os) (is_less o 256 (omega (arith, e, digit_small a high first, digit_small b low second)))
    (hex_octets s os others)

octets_of_text : (o : Option Text) (os : List ℕ) → octets_of o ≡ Some os → are_octets os ≡ true
octets_of_text None os h = cc
octets_of_text (Some s) os h = hex_octets s os (read_is_hex s os h)

pub octets_are : (d : Data) (os : List ℕ) → octets_in d ≡ Some os → are_octets os ≡ true
octets_are d os h = octets_of_text (as_str d) os h

-- ---- octets of what isn't known
pub raw_one : (d : Data) (v : Value) → ShowsRaw d v → v ≡ raw_in d
raw_one d (raw os) h = ap (λ (o : Option (List ℕ)). raw (or_else [] o)) (sym h)
raw_one d v h = absurd h

pub raw_forth : (p : Path) (d : Data) → Holds (raw_demands p d) → ShowsRaw d (raw_in d) × IsRaw (raw_in d)
raw_forth p d h =
    let count = length (or_else [] (octets_in d)) in
    let e = is_there [] (octets_in d) h.0 in (
      e,
      (
        at_most 1 count (first_true (nat_le 1 count) (nat_le count 16383) h.1.0),
        at_most count 16383 (second_true (nat_le 1 count) (nat_le count 16383) h.1.0),
        octets_are d (or_else [] (octets_in d)) e,
      ),
    )

pub raw_back : (p : Path) (d : Data) (v : Value) → ShowsRaw d v → IsRaw v → Holds (raw_demands p d)
raw_back p d (raw os) h g =
    subst (λ (o : Option (List ℕ)). (is_some o ≡ true)
    × (((nat_le 1 (length (or_else [] o)) && nat_le (length (or_else [] o)) 16383) ≡ true) × Unit {0})) (sym h) (
      refl,
      (both_true (nat_le 1 (length os)) (nat_le (length os) 16383) (is_at_most 1 (length os) g.0) (is_at_most (length os) 16383 g.1), tt),
    )
raw_back p d v h g = absurd h

-- ---- what comes after the last that has a name
pub past_one : (d : Data) (past : ℕ) (v : Value) → ShowsPast d past v → (past ≡ past_in d) × (v ≡ past_raw_in d)
past_one (array (item n (item d no_items))) past v h = (ap (or_else 0) (sym h.0), raw_one d v h.1)
past_one d past v h = absurd h

pub past_forth : (p : Path) (room : ℕ) (d : Data) → Holds (past_demands p room d)
    → ShowsPast d (past_in d) (past_raw_in d) × (past_in d < room) × IsRaw (past_raw_in d)
past_forth p room (array (item n (item d no_items))) h =
    let index = below_room room (natural_in n) h.0 in
    let octets = raw_forth p d h.1 in
    ((index.0, octets.0), index.1, octets.1)
past_forth p room d h = absurd (apart h.0)

pub past_back : (p : Path) (room : ℕ) (d : Data) (past : ℕ) (v : Value) → ShowsPast d past v → past < room → IsRaw v
    → Holds (past_demands p room d)
past_back p room (array (item n (item d no_items))) past v h lt g =
    (subst (λ (o : Option ℕ). is_below room o ≡ true) (sym h.0) (is_less past room lt), raw_back p d v h.1 g)
past_back p room d past v h lt g = absurd h

-- ---- texts, and objects with one member
pub texts_same : (a b : Text) → same_text a b ≡ true → a ≡ b
texts_same a b h = exact_bytes a b (by_order (slice_cmp nat_cmp a b) h)
  where
    by_order : (o : Ordering) → is_eq o ≡ true → o ≡ Equal
    by_order Less e = cc
    by_order Equal e = refl
    by_order Greater e = cc

found_by : (o : Ordering) (d : Data) → is_eq o ≡ true → match_ordering o None (Some d) None ≡ Some d
found_by Less d h = cc
found_by Equal d h = refl
found_by Greater d h = cc

missed_by : (o : Ordering) (d : Data) → is_eq o ≡ false → match_ordering o None (Some d) None ≡ None
missed_by Less d h = refl
missed_by Equal d h = cc
missed_by Greater d h = refl

pub found : (name key : Text) (d : Data) → same_text name key ≡ true → get_member name (member key d no_members) ≡ Some d
found name key d h = found_by (slice_cmp nat_cmp name key) d h

pub missed : (name key : Text) (d : Data) → same_text name key ≡ false → get_member name (member key d no_members) ≡ None
missed name key d h = missed_by (slice_cmp nat_cmp name key) d h

-- the only member of an object
pub record IsOne (ms : Members) : Type 0 where
  pub key : Text
  pub data_of : Data
  pub is : ms ≡ member key data_of no_members

pub only_one : (ms : Members) → (member_count ms == 1) ≡ true → IsOne ms
only_one no_members h = cc
only_one (member k d no_members) h = record { key = k; data_of = d; is = refl }
only_one (member k d (member l e ms)) h = absurd (omega (arith, same (suc (suc (member_count ms))) 1 h))

-- ---- places among names
pub place_bounds : (names : List Text) (name : Text) (first i : ℕ) → place_in names name first ≡ Some i
    → (first ≤ i) × (i < first + length names)
place_bounds [] name first i h = cc
place_bounds (n ∷ names) name first i h =
    by_cases (same_text n name) (λ b. cond b (Some first) (place_in names name (suc first)) ≡ Some i
    → (first ≤ i) × (i < first + suc (length names)))
    (λ _ e. let same_place : first ≡ i = cc in (omega arith, omega arith))
    (λ _ e. let inner = place_bounds names name (suc first) i e in (omega (arith, inner.0), omega (arith, inner.1))) h

pub place_after : (a b : List Text) (name : Text) (first : ℕ)
    → place_in (a ++ b) name first ≡ first_of (place_in a name first) (place_in b name (first + length a))
place_after [] b name first = ap (place_in b name) (let e : first ≡ first + 0 = omega arith in e)
place_after (n ∷ a) b name first =
    by_cases (same_text n name) (λ c. cond c (Some first) (place_in (a ++ b) name (suc first))
    ≡ first_of (cond c (Some first) (place_in a name (suc first))) (place_in b name (first + suc (length a))))
    (λ _. refl)
    (λ _. place_after a b name (suc first)
    ∙ ap (λ (i : ℕ). first_of (place_in a name (suc first)) (place_in b name i))
    (let e : suc first + length a ≡ first + suc (length a) = omega arith in e))
