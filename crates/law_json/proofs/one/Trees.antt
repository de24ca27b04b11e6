-- Each tree in order that shows a value is alike to the one that is printed.
use Rattle.std.proofs.Common.{◌≡◌, ℕ, suc, ◌-◌, Bool, true, false, cond, ◌==◌, List, [], ◌∷◌, ◌++◌, length, Option, Some, None, refl, sym, ap, subst, ◌∙◌, inl, inr, arith}
use Rattle.std.specs.Prelude.{ℤ, pos, negsuc}
use Rattle.asn1_syntax.specs.declared.types.definition.Size.{Size}
use Rattle.gnb_types.specs.Hex.{hex_of}
use Rattle.serde_json.specs.Data.{Data, boolean as truth_value, number as number_value, string, array, object, no_items, item, no_members, member}
use Rattle.aper_defs.specs.Values.{Value, truth, number, enumeral, bits, octets, text, raw}
use Rattle.json_defs.specs.Named.{Name, Named, boolean, integer, enumerated, bit_string, octet_string, printable_string}
use Rattle.json_defs.specs.Members.{Text, integer_in, natural_of, natural_in, octets_in, bit_of, bit_before, read_bits, bits_in, same_text, place_in, unknown_key}
use Rattle.json_defs.specs.Shown.{ShowsRaw, ShowsPast, ShowsName, Shows}
use Rattle.proof_json.proofs.values.Holding.{by_cases}
use Rattle.proof_json.proofs.values.Words.{is_less, is_not_less, at_most, same, octets_are, texts_same, place_bounds}
use Rattle.json_defs.specs.shown_defs.Order.{IsOrdered}
use Rattle.json_defs.specs.shown_defs.Alike.{Alike}
use Rattle.json_defs.specs.shown_defs.Printed.{integer_shown, natural_shown, bit_digit, bits_text, raw_shown, one_member, name_at, name_shown, shown_as}
use Rattle.proof_json.proofs.shown.Words.{integer_is, octets_read}

abbrev pub IsOne : Named → Type 0
IsOne t = (d : Data) (v : Value) → Shows t d v → IsOrdered d → Alike d (shown_as t v)

-- ---- numbers and texts
integer_alike : (d : Data) (z : ℤ) → integer_in d ≡ Some z → Alike d (integer_shown z)
integer_alike (number_value n) z h = h ∙ sym (integer_is z)
integer_alike d z h = cc

natural_back : (o : Option ℤ) (n : ℕ) → natural_of o ≡ Some n → o ≡ Some (pos n)
natural_back None n h = cc
natural_back (Some (pos m)) n h = cc
natural_back (Some (negsuc m)) n h = cc

pub natural_alike : (d : Data) (n : ℕ) → natural_in d ≡ Some n → Alike d (natural_shown n)
natural_alike d n h = integer_alike d (pos n) (natural_back (integer_in d) n h)

octets_alike : (d : Data) (os : List ℕ) → octets_in d ≡ Some os → Alike d (string (hex_of os))
octets_alike (string s) os h = inr (os, h, octets_read os (octets_are (string s) os h))
octets_alike d os h = cc

pub raw_alike : (d : Data) (v : Value) → ShowsRaw d v → Alike d (raw_shown v)
raw_alike d (raw os) h = octets_alike d os h
raw_alike d v h = absurd h

bit_is : (c : ℕ) (x : Bool) → bit_of c ≡ Some x → c ≡ bit_digit x
bit_is c x =
    by_cases (c == 48) (λ b. cond b (Some false) (cond (c == 49) (Some true) None) ≡ Some x → c ≡ bit_digit x)
    (λ e h. let is : false ≡ x = cc in subst (λ (y : Bool). c ≡ bit_digit y) is (same c 48 e))
    (λ _. by_cases (c == 49) (λ b. cond b (Some true) None ≡ Some x → c ≡ bit_digit x)
    (λ e h. let is : true ≡ x = cc in subst (λ (y : Bool). c ≡ bit_digit y) is (same c 49 e)) (λ e h. cc))

bit_parts : (b : Option Bool) (r : Option (List Bool)) (bs : List Bool) → bit_before b r ≡ Some bs
    → (x : Bool) × (rest : List Bool) × (b ≡ Some x) × (r ≡ Some rest) × (bs ≡ x ∷ rest)
bit_parts (Some b) (Some r) bs h = (b, r, refl, refl, cc)
bit_parts (Some b) None bs h = cc
bit_parts None r bs h = cc

bits_one : (s : Text) (bs : List Bool) → read_bits s ≡ Some bs → s ≡ bits_text bs
bits_one [] bs h = let e : [] ≡ bs = cc in ap bits_text e
bits_one (c ∷ s) bs h = from (bit_parts (bit_of c) (read_bits s) bs h) (λ rest. bits_one s rest)
  where
    from : (x : Bool) × (rest : List Bool) × (bit_of c ≡ Some x) × (read_bits s ≡ Some rest) × (bs ≡ x ∷ rest)
        → ((rest : List Bool) → read_bits s ≡ Some rest → s ≡ bits_text rest) → c ∷ s ≡ bits_text bs
    from (x, rest, first, others, is) again =
        ap (λ (d : ℕ). d ∷ s) (bit_is c x first) ∙ ap (λ (t : Text). bit_digit x ∷ t) (again rest others) ∙ ap bits_text (sym is)

place_name : (names : List Text) (s : Text) (first i : ℕ) → place_in names s first ≡ Some i → s ≡ name_at names (i - first)
place_name [] s first i h = cc
place_name (n ∷ names) s first i placed =
    by_cases (same_text n s) (λ b. cond b (Some first) (place_in names s (suc first)) ≡ Some i → s ≡ name_at (n ∷ names) (i - first))
    (λ e h. let is : first ≡ i = cc in
    sym (texts_same n s e) ∙ ap (name_at (n ∷ names)) (let none : 0 ≡ i - first = omega (arith, is) in none))
    (λ e h. let after = place_bounds names s (suc first) i h in
    place_name names s (suc first) i h
    ∙ ap (name_at (n ∷ names)) (let next : suc (i - suc first) ≡ i - first = omega (arith, after.0) in next)) placed

pub named_at : (names : List Text) (s : Text) (i : ℕ) → place_in names s 0 ≡ Some i → s ≡ name_at names i
named_at names s i h = place_name names s 0 i h ∙ ap (name_at names) (let none : i - 0 ≡ i = omega arith in none)

pub past_alike : (d : Data) (past : ℕ) (v : Value) → ShowsPast d past v
    → Alike d (array (item (natural_shown past) (item (raw_shown v) no_items)))
past_alike (array (item n (item d no_items))) past v h = (natural_alike n past h.0, (raw_alike d v h.1, tt))
past_alike d past v h = absurd h

-- ---- types without types inside
pub boolean_one : IsOne boolean
unfolding Shows shown_as
boolean_one (truth_value b) (truth c) h o = h
boolean_one d v h o = absurd h

pub integer_one : (low high : ℤ) (extensible : Bool) → IsOne (integer low high extensible)
unfolding Shows shown_as
integer_one low high extensible d (number z) h o = integer_alike d z h
integer_one low high extensible d v h o = absurd h

name_one : (names : List Name) (extensible : Bool) (d : Data) (i : ℕ) → ShowsName names extensible d i → Alike d (name_shown names i)
name_one names extensible (string s) i h =
    let lt = place_bounds names s 0 i h in
    subst (λ (b : Bool). Alike (string s) (cond b (string (name_at names i)) (one_member unknown_key (natural_shown (i - length names)))))
    (sym (is_less i (length names) (omega (arith, lt.1)))) (inl (named_at names s i h))
name_one names extensible (object (member k d no_members)) i h =
    subst (λ (b : Bool). Alike (object (member k d no_members))
    (cond b (string (name_at names i)) (one_member unknown_key (natural_shown (i - length names)))))
    (sym (is_not_less i (length names) (at_most (length names) i h.2))) (h.0, natural_alike d (i - length names) h.3, tt)
name_one names extensible d i h = absurd h

pub enumerated_one : (root additions : List Name) (extensible : Bool) → IsOne (enumerated root additions extensible)
unfolding Shows shown_as
enumerated_one root additions extensible d (enumeral i) h o = name_one (root ++ additions) extensible d i h
enumerated_one root additions extensible d v h o = absurd h

bits_alike : (d : Data) (bs : List Bool) → bits_in d ≡ Some bs → Alike d (string (bits_text bs))
bits_alike (string s) bs h = inl (bits_one s bs h)
bits_alike d bs h = cc

pub bits_are_one : (size : Option Size) → IsOne (bit_string size)
unfolding Shows shown_as
bits_are_one size d (bits bs) h o = bits_alike d bs h
bits_are_one size d v h o = absurd h

pub octets_are_one : (size : Option Size) → IsOne (octet_string size)
unfolding Shows shown_as
octets_are_one size d (octets os) h o = octets_alike d os h
octets_are_one size d v h o = absurd h

pub text_is_one : (size : Option Size) → IsOne (printable_string size)
unfolding Shows shown_as
text_is_one size (string s) (text cs) h o = inl h
text_is_one size d v h o = absurd h
