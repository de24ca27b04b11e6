-- Names and their places, texts, and types without types inside.
use Rattle.std.proofs.Common.{◌≡◌, ℕ, zero, suc, ◌+◌, ◌-◌, ◌<◌, ◌≤◌, Bool, true, false, cond, ◌&&◌, ◌||◌, nat_lt, List, [], ◌∷◌, ◌++◌, length, Option, Some, None, is_some, refl, sym, ap, ◌∙◌, arith, length-append}
use Rattle.std.specs.Prelude.{ℤ, pos, negsuc, All}
use Rattle.std.specs.Ordering.{is_eq}
use Rattle.std.specs.List.{AllByRecursion, IsDistinct}
use Rattle.std.proofs.lemmas.Cmp.{nat_list_cmp_total, tied_itself}
use Rattle.std.proofs.lemmas.List.Elements.{All-nil, All-cons}
use Rattle.gnb_types.specs.Hex.{hex_of, read_hex}
use Rattle.gnb_types.proofs.HexLemmas.{hex_of_is_hex, hex_is_read}
use Rattle.asn1_syntax.specs.declared.types.definition.Size.{Size}
use Rattle.serde_json.specs.Data.{string}
use Rattle.aper_defs.specs.Fields.{Path}
use Rattle.aper_defs.specs.Values.{Value, truth, number, enumeral, bits, octets, text, raw}
use Rattle.aper_defs.specs.Membership.{are_octets, is_index_of, IsRaw, Has}
use Rattle.json_defs.specs.Named.{Name, Named, boolean, integer, enumerated, bit_string, octet_string, printable_string, tree_of}
use Rattle.json_defs.specs.Members.{Text, integer_in, bits_in, bit_before, same_text, place_in, is_among, unknown_key}
use Rattle.json_defs.specs.Shown.{ShowsRaw, ShowsName, Shows}
use Rattle.proof_json.proofs.values.Holding.{apart, by_cases, taken, passed, first_true, second_true}
use Rattle.proof_json.proofs.values.Words.{below, not_below, is_at_most, texts_same}
use Rattle.json_defs.specs.shown_defs.Printed.{integer_shown, natural_shown, one_member, bits_text, raw_shown, name_at, shown_as}

-- what is to be shown of a type: what is printed shows the value
abbrev pub IsSound : Named → Type 0
IsSound t = (p : Path) (v : Value) → Has p (tree_of t) v → Shows t (shown_as t v) v

-- ---- names that differ
pub same_itself : (a : Text) → same_text a a ≡ true
same_itself a = ap is_eq (tied_itself nat_list_cmp_total a)

pub unlike : (a b : Text) → same_text a b ≡ false → a ≡ b → ⊥
unlike a b h e = apart (sym h ∙ sym (ap (same_text a) e) ∙ same_itself a)

pub turned : (a b : Text) → same_text a b ≡ false → same_text b a ≡ false
turned a b h = by_cases (same_text b a) (λ c. c ≡ false) (λ e. absurd (unlike a b h (sym (texts_same b a e)))) (λ e. refl)

abbrev pub IsOther : Text → List Text → Type 0
IsOther key names = AllByRecursion (λ y. same_text key y ≡ false) names

pub other_here : (n : Text) (names : List Text) → IsDistinct same_text (n ∷ names) → IsOther n names
unfolding IsDistinct
other_here n names d = d.0

pub others_differ : (n : Text) (names : List Text) → IsDistinct same_text (n ∷ names) → IsDistinct same_text names
unfolding IsDistinct
others_differ n names d = d.1

other_at : (key : Text) (names : List Text) (i : ℕ) → IsOther key names → i < length names → same_text key (name_at names i) ≡ false
other_at key [] i h lt = absurd (omega (arith, lt))
other_at key (n ∷ names) zero h lt = h.0
other_at key (n ∷ names) (suc i) h lt = other_at key names i h.1 (omega (arith, lt))

pub not_placed : (key : Text) (names : List Text) (first : ℕ) → IsOther key names → place_in names key first ≡ None
not_placed key [] first h = refl
not_placed key (n ∷ names) first h = passed (same_text n key) _ _ (turned key n h.0) ∙ not_placed key names (suc first) h.1

place_from : (names : List Text) (first i : ℕ) → IsDistinct same_text names → i < length names
    → place_in names (name_at names i) first ≡ Some (first + i)
place_from [] first i d lt = absurd (omega (arith, lt))
place_from (n ∷ names) first zero d lt =
    taken (same_text n n) _ _ (same_itself n) ∙ ap Some (let e : first ≡ first + 0 = omega arith in e)
place_from (n ∷ names) first (suc i) d lt =
    passed (same_text n (name_at names i)) _ _ (other_at n names i (other_here n names d) (omega (arith, lt)))
    ∙ place_from names (suc first) i (others_differ n names d) (omega (arith, lt))
    ∙ ap Some (let e : suc first + i ≡ first + suc i = omega arith in e)

pub place_of : (names : List Text) (i : ℕ) → IsDistinct same_text names → i < length names
    → place_in names (name_at names i) 0 ≡ Some i
place_of names i d lt = place_from names 0 i d lt ∙ ap Some (let e : 0 + i ≡ i = omega arith in e)

-- ---- names among names
pub some_place : (names : List Text) (key : Text) (a b : ℕ) → is_some (place_in names key a) ≡ is_some (place_in names key b)
some_place [] key a b = refl
some_place (n ∷ names) key a b =
    by_cases (same_text n key)
    (λ c. is_some (cond c (Some a) (place_in names key (suc a))) ≡ is_some (cond c (Some b) (place_in names key (suc b))))
    (λ e. refl) (λ e. some_place names key (suc a) (suc b))

pub among_more : (n : Text) (names : List Text) (key : Text) → is_among names key ≡ true → is_among (n ∷ names) key ≡ true
among_more n names key h =
    by_cases (same_text n key) (λ c. is_some (cond c (Some 0) (place_in names key 1)) ≡ true) (λ e. refl)
    (λ e. some_place names key 1 0 ∙ h)

abbrev pub AreAmong : List Text → List Text → Type 0
AreAmong names keys = AllByRecursion (λ y. is_among names y ≡ true) keys

pub all_among_more : (n : Text) (names keys : List Text) → AreAmong names keys → AreAmong (n ∷ names) keys
all_among_more n names [] h = tt
all_among_more n names (k ∷ keys) h = (among_more n names k h.0, all_among_more n names keys h.1)

pub among_first : (n : Text) (names : List Text) → is_among (n ∷ names) n ≡ true
among_first n names = ap is_some (taken (same_text n n) (Some 0) (place_in names n 1) (same_itself n))

pub each_among : (names : List Text) → AreAmong names names
each_among [] = tt
each_among (n ∷ names) = (among_first n names, all_among_more n names names (each_among names))

-- ---- texts
pub bits_read : (bs : List Bool) → bits_in (string (bits_text bs)) ≡ Some bs
bits_read [] = refl
bits_read (true ∷ bs) = ap (bit_before (Some true)) (bits_read bs)
bits_read (false ∷ bs) = ap (bit_before (Some false)) (bits_read bs)

octets_below : (os : List ℕ) → are_octets os ≡ true → All (λ o. o < 256) os
octets_below [] h = All-nil (λ o. o < 256)
octets_below (o ∷ os) h =
    All-cons (λ x. x < 256) o os (below o 256 (first_true (nat_lt o 256) (are_octets os) h))
    (octets_below os (second_true (nat_lt o 256) (are_octets os) h))

pub octets_read : (os : List ℕ) → are_octets os ≡ true → read_hex (hex_of os) ≡ Some os
octets_read os h = hex_is_read (hex_of os) os (hex_of_is_hex os (octets_below os h))

pub raw_read : (v : Value) → IsRaw v → ShowsRaw (raw_shown v) v
raw_read (raw os) h = octets_read os h.2
raw_read v h = absurd h

-- ---- types without types inside
pub boolean_read : IsSound boolean
unfolding Has Shows shown_as tree_of
boolean_read p (truth b) h = refl
boolean_read p v h = absurd h

pub integer_is : (z : ℤ) → integer_in (integer_shown z) ≡ Some z
integer_is (pos n) = refl
integer_is (negsuc n) = refl

pub integer_read : (low high : ℤ) (extensible : Bool) → IsSound (integer low high extensible)
unfolding Has Shows shown_as tree_of
integer_read low high extensible p (number z) h = integer_is z
integer_read low high extensible p v h = absurd h

pub past_root : (extensible : Bool) (count i : ℕ) → is_index_of count extensible i ≡ true → count ≤ i → extensible ≡ true
past_root extensible count i h past =
    by_cases (nat_lt i count) (λ b. (b || (extensible && nat_lt i (count + 64))) ≡ true → extensible ≡ true)
    (λ e g. absurd (omega (arith, below i count e, past))) (λ e g. first_true extensible (nat_lt i (count + 64)) g) h

pub enumerated_read : (root additions : List Name) (extensible : Bool) → IsDistinct same_text (root ++ additions)
    → IsSound (enumerated root additions extensible)
unfolding Has Shows shown_as tree_of
enumerated_read root additions extensible d p (enumeral i) h =
    let names : List Name = root ++ additions in
    by_cases (nat_lt i (length names))
    (λ b. ShowsName names extensible (cond b (string (name_at names i)) (one_member unknown_key (natural_shown (i - length names)))) i)
    (λ e. place_of names i d (below i (length names) e))
    (λ e. (
      refl,
      past_root extensible (length root) i h (omega (arith, not_below i (length names) e, length-append root additions)),
      is_at_most (length names) i (not_below i (length names) e),
      refl,
    ))
enumerated_read root additions extensible d p v h = absurd h

pub bits_shown : (size : Option Size) → IsSound (bit_string size)
unfolding Has Shows shown_as tree_of
bits_shown size p (bits bs) h = bits_read bs
bits_shown size p v h = absurd h

pub octets_shown : (size : Option Size) → IsSound (octet_string size)
unfolding Has Shows shown_as tree_of
octets_shown size p (octets os) h = octets_read os h.1
octets_shown size p v h = absurd h

pub text_shown : (size : Option Size) → IsSound (printable_string size)
unfolding Has Shows shown_as tree_of
text_shown size p (text cs) h = refl
text_shown size p v h = absurd h
