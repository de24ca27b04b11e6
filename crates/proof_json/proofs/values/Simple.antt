-- Types without types inside: BOOLEAN, INTEGER, ENUMERATED and strings.
use Rattle.std.proofs.Common.{◌≡◌, ℕ, suc, ◌+◌, ◌-◌, ◌<◌, Bool, true, false, ◌&&◌, ◌||◌, ◌==◌, nat_lt, List, [], ◌∷◌, ◌++◌, length, Option, Some, None, is_some, refl, sym, ap, subst, ◌∙◌, arith, length-append}
use Rattle.std.specs.Prelude.{ℤ, pos}
use Rattle.std.specs.List.{list_all}
use Rattle.asn1_syntax.specs.declared.types.definition.Size.{Size}
use Rattle.serde_json.specs.Data.{Data, boolean as truth_value, string, object, no_members, member}
use Rattle.aper_defs.specs.Fields.{Path}
use Rattle.aper_defs.specs.Values.{Value, truth, number, enumeral, bits, octets, text}
use Rattle.aper_defs.specs.Membership.{is_number_of, is_index_of, is_count_of, is_printable, Has}
use Rattle.json_defs.specs.Named.{Name, boolean, integer, enumerated, bit_string, octet_string, printable_string, tree_of}
use Rattle.json_defs.specs.Bounds.{MayAdd}
use Rattle.json_defs.specs.Members.{Text, integer_in, natural_in, octets_in, bits_in, same_text, place_in, member_count, or_null, member_of, unknown_key}
use Rattle.json_defs.specs.Shown.{ShowsName, Shows}
use Rattle.json_defs.specs.Readings.{or_else, index_in, value_of}
use Rattle.json_defs.specs.Demands.{shape, range, is_name, is_below, demands}
use Rattle.proof_json.proofs.values.Holding.{Holds, Lawful, apart, by_cases, both_true, first_true, second_true, is_there}
use Rattle.proof_json.proofs.values.Words.{below, is_less, at_most, is_at_most, same, below_room, octets_are, texts_same, found, missed, place_bounds}

-- ---- BOOLEAN
boolean_one : (d : Data) (v : Value) → Shows boolean d v → v ≡ value_of boolean d
unfolding Shows value_of
boolean_one (truth_value b) (truth c) h = ap truth (sym h)
boolean_one d v h = absurd h

boolean_forth : (p : Path) (d : Data) → Holds (demands p boolean d)
    → Shows boolean d (value_of boolean d) × Has p (tree_of boolean) (value_of boolean d)
unfolding Shows value_of demands Has tree_of
boolean_forth p (truth_value b) h = (refl, tt)
boolean_forth p d h = absurd (apart h.0)

boolean_back : (p : Path) (d : Data) (v : Value) → Shows boolean d v → Has p (tree_of boolean) v → Holds (demands p boolean d)
unfolding Shows demands
boolean_back p (truth_value b) (truth c) h g = (refl, tt)
boolean_back p d v h g = absurd h

pub boolean_lawful : Lawful boolean
boolean_lawful = record { one = boolean_one; forth = boolean_forth; back = boolean_back }

-- ---- INTEGER
module _ (low high : ℤ) (extensible : Bool) where
  integer_one : (d : Data) (v : Value) → Shows (integer low high extensible) d v → v ≡ value_of (integer low high extensible) d
  unfolding Shows value_of
  integer_one d (number z) h = ap (λ (o : Option ℤ). number (or_else (pos 0) o)) (sym h)
  integer_one d v h = absurd h

  integer_forth : (p : Path) (d : Data) → Holds (demands p (integer low high extensible) d)
      → Shows (integer low high extensible) d (value_of (integer low high extensible) d)
      × Has p (tree_of (integer low high extensible)) (value_of (integer low high extensible) d)
  unfolding Shows value_of demands Has tree_of
  integer_forth p d h = (is_there (pos 0) (integer_in d) h.0, h.1.0)

  integer_back : (p : Path) (d : Data) (v : Value) → Shows (integer low high extensible) d v
      → Has p (tree_of (integer low high extensible)) v → Holds (demands p (integer low high extensible) d)
  unfolding Shows demands Has tree_of
  integer_back p d (number z) h g =
      subst (λ (o : Option ℤ). (is_some o ≡ true) × ((is_number_of low high extensible (or_else (pos 0) o) ≡ true) × Unit {0})) (sym h)
      (refl, (g, tt))
  integer_back p d v h g = absurd h

  pub integer_lawful : Lawful (integer low high extensible)
  integer_lawful = record { one = integer_one; forth = integer_forth; back = integer_back }

-- ---- strings
module _ (size : Option Size) where
  bits_one : (d : Data) (v : Value) → Shows (bit_string size) d v → v ≡ value_of (bit_string size) d
  unfolding Shows value_of
  bits_one d (bits bs) h = ap (λ (o : Option (List Bool)). bits (or_else [] o)) (sym h)
  bits_one d v h = absurd h

  bits_forth : (p : Path) (d : Data) → Holds (demands p (bit_string size) d)
      → Shows (bit_string size) d (value_of (bit_string size) d) × Has p (tree_of (bit_string size)) (value_of (bit_string size) d)
  unfolding Shows value_of demands Has tree_of
  bits_forth p d h = (is_there [] (bits_in d) h.0, h.1.0)

  bits_back : (p : Path) (d : Data) (v : Value) → Shows (bit_string size) d v → Has p (tree_of (bit_string size)) v
      → Holds (demands p (bit_string size) d)
  unfolding Shows demands Has tree_of
  bits_back p d (bits bs) h g =
      subst (λ (o : Option (List Bool)). (is_some o ≡ true) × ((is_count_of None size (length (or_else [] o)) ≡ true) × Unit {0})) (sym h)
      (refl, (g, tt))
  bits_back p d v h g = absurd h

  pub bits_lawful : Lawful (bit_string size)
  bits_lawful = record { one = bits_one; forth = bits_forth; back = bits_back }

  octets_one : (d : Data) (v : Value) → Shows (octet_string size) d v → v ≡ value_of (octet_string size) d
  unfolding Shows value_of
  octets_one d (octets os) h = ap (λ (o : Option (List ℕ)). octets (or_else [] o)) (sym h)
  octets_one d v h = absurd h

  octets_forth : (p : Path) (d : Data) → Holds (demands p (octet_string size) d)
      → Shows (octet_string size) d (value_of (octet_string size) d)
      × Has p (tree_of (octet_string size)) (value_of (octet_string size) d)
  unfolding Shows value_of demands Has tree_of
  octets_forth p d h =
      let e = is_there [] (octets_in d) h.0 in (e, (h.1.0, octets_are d (or_else [] (octets_in d)) e))

  octets_back : (p : Path) (d : Data) (v : Value) → Shows (octet_string size) d v → Has p (tree_of (octet_string size)) v
      → Holds (demands p (octet_string size) d)
  unfolding Shows demands Has tree_of
  octets_back p d (octets os) h g =
      subst (λ (o : Option (List ℕ)). (is_some o ≡ true) × ((is_count_of None size (length (or_else [] o)) ≡ true) × Unit {0})) (sym h)
      (refl, (g.0, tt))
  octets_back p d v h g = absurd h

  pub octets_lawful : Lawful (octet_string size)
  octets_lawful = record { one = octets_one; forth = octets_forth; back = octets_back }

  text_one : (d : Data) (v : Value) → Shows (printable_string size) d v → v ≡ value_of (printable_string size) d
  unfolding Shows value_of
  text_one (string s) (text cs) h = ap text (sym h)
  text_one d v h = absurd h

  text_forth : (p : Path) (d : Data) → Holds (demands p (printable_string size) d)
      → Shows (printable_string size) d (value_of (printable_string size) d)
      × Has p (tree_of (printable_string size)) (value_of (printable_string size) d)
  unfolding Shows value_of demands Has tree_of
  text_forth p (string s) h =
      let counted = is_count_of None size (length s) in
      let printable = list_all is_printable s in
      (refl, (first_true counted printable h.1.0, second_true counted printable h.1.0))
  text_forth p d h = absurd (apart h.0)

  text_back : (p : Path) (d : Data) (v : Value) → Shows (printable_string size) d v → Has p (tree_of (printable_string size)) v
      → Holds (demands p (printable_string size) d)
  unfolding Shows demands Has tree_of
  text_back p (string s) (text cs) h g =
      subst (λ (t : List ℕ). Holds (shape p true ∷ range p (is_count_of None size (length t) && list_all is_printable t) ∷ [])) (sym h)
      (refl, (both_true (is_count_of None size (length cs)) (list_all is_printable cs) g.0 g.1, tt))
  text_back p d v h g = absurd h

  pub text_lawful : Lawful (printable_string size)
  text_lawful = record { one = text_one; forth = text_forth; back = text_back }

-- ---- ENUMERATED
unknown_member : (k : Text) (d : Data) → k ≡ unknown_key → member_of unknown_key (member k d no_members) ≡ d
unknown_member k d h =
    let e : same_text unknown_key k ≡ true = ap (same_text unknown_key) h in ap or_null (found unknown_key k d e)

unknown_is : (k : Text) (d : Data) (room : ℕ) → is_below room (natural_in (member_of unknown_key (member k d no_members))) ≡ true
    → k ≡ unknown_key
unknown_is k d room h = by_cases (same_text unknown_key k) (λ _. k ≡ unknown_key)
    (λ e. sym (texts_same unknown_key k e))
    (λ e. let none : is_below room (natural_in (member_of unknown_key (member k d no_members))) ≡ false =
    ap (λ (o : Option Data). is_below room (natural_in (or_null o))) (missed unknown_key k d e) in
    absurd (apart (sym none ∙ h)))

-- an index of the root, or past it where there may be more
in_root : (extensible : Bool) (count i : ℕ) → i < count → is_index_of count extensible i ≡ true
in_root extensible count i h = ap (λ (b : Bool). b || (extensible && nat_lt i (count + 64))) (is_less i count h)

in_additions : (count i : ℕ) → i < count + 64 → is_index_of count true i ≡ true
in_additions count i h = either_true (nat_lt i count) (nat_lt i (count + 64)) (is_less i (count + 64) h)
  where
    either_true : (a b : Bool) → b ≡ true → (a || (true && b)) ≡ true
    either_true true b e = refl
    either_true false b e = e

pub index_is : (extensible : Bool) (count added i : ℕ) → MayAdd extensible added → i < count + added → is_index_of count extensible i ≡ true
index_is true count added i h lt = in_additions count i (omega arith)
index_is false count added i h lt = in_root false count i (omega arith)

pub past_index_is : (extensible : Bool) (count i : ℕ) → extensible ≡ true → i < count + 64 → is_index_of count extensible i ≡ true
past_index_is true count i h lt = in_additions count i lt
past_index_is false count i h lt = cc

pub index_most : (extensible : Bool) (count i : ℕ) → is_index_of count extensible i ≡ true → i < count + 64
index_most extensible count i h = by_cases (nat_lt i count) (λ b. (b || (extensible && nat_lt i (count + 64))) ≡ true → i < count + 64)
    (λ e g. omega (arith, below i count e)) (λ e g. below i (count + 64) (second_true extensible (nat_lt i (count + 64)) g)) h

module _ (root additions : List Name) (extensible : Bool) where
  abbrev names : List Name
  names = root ++ additions

  name_one : (d : Data) (i : ℕ) → ShowsName names extensible d i → i ≡ index_in names d
  name_one (string s) i h = ap (or_else 0) (sym h)
  name_one (object (member k d no_members)) i (key, more, past, told) =
      let index : or_else 0 (natural_in (member_of unknown_key (member k d no_members))) ≡ i - length names =
      ap (λ (e : Data). or_else 0 (natural_in e)) (unknown_member k d key) ∙ ap (or_else 0) told in
      omega (arith, index, at_most (length names) i past)
  name_one d i h = absurd h

  name_forth : (d : Data) → MayAdd extensible (length additions) → is_name names extensible (64 - length additions) d ≡ true
      → ShowsName names extensible d (index_in names d) × (is_index_of (length root) extensible (index_in names d) ≡ true)
  name_forth (string s) may h =
      let e = is_there 0 (place_in names s 0) h in
      let bounds = place_bounds names s 0 (or_else 0 (place_in names s 0)) e in (
        e,
        index_is extensible (length root) (length additions) (or_else 0 (place_in names s 0)) may
            (omega (arith, bounds.1, length-append root additions)),
      )
  name_forth (object (member k d no_members)) may h =
      let n = or_else 0 (natural_in (member_of unknown_key (member k d no_members))) in
      let below_it = is_below (64 - length additions) (natural_in (member_of unknown_key (member k d no_members))) in
      let more = first_true extensible true (first_true (extensible && true) below_it h) in
      let room = second_true (extensible && true) below_it h in
      let key = unknown_is k d (64 - length additions) room in
      let told = below_room (64 - length additions) (natural_in (member_of unknown_key (member k d no_members))) room in
      let back : length names + n - length names ≡ n = omega arith in
      let is : natural_in d ≡ Some (length names + n - length names) =
      ap natural_in (sym (unknown_member k d key)) ∙ told.0 ∙ ap Some (sym back) in (
        (key, more, is_at_most (length names) (length names + n) (omega arith), is),
        past_index_is extensible (length root) (length names + n) more (omega (arith, told.1, length-append root additions)),
      )
  name_forth (object no_members) may h = absurd (apart (second_true (extensible && false) false h))
  name_forth (object (member k d (member l e ms))) may h =
      absurd (omega (
        arith,
        same (suc (suc (member_count ms))) 1
            (second_true extensible (suc (suc (member_count ms)) == 1) (first_true (extensible && suc (suc (member_count ms)) == 1)
            (is_below (64 - length additions) (natural_in (member_of unknown_key (member k d (member l e ms))))) h)),
      ))
  name_forth d may h = absurd (apart h)

  name_back : (d : Data) (i : ℕ) → ShowsName names extensible d i → is_index_of (length root) extensible i ≡ true
      → is_name names extensible (64 - length additions) d ≡ true
  name_back (string s) i h g = ap is_some h
  name_back (object (member k d no_members)) i (key, more, past, told) g =
      let n = i - length names in
      let small : is_below (64 - length additions) (Some n) ≡ true = is_less n (64 - length additions)
      (omega (arith, index_most extensible (length root) i g, at_most (length names) i past, length-append root additions)) in
      both_true (extensible && true) (is_below (64 - length additions) (natural_in (member_of unknown_key (member k d no_members))))
      (both_true extensible true more refl)
      (ap (λ (e : Data). is_below (64 - length additions) (natural_in e)) (unknown_member k d key)
      ∙ ap (is_below (64 - length additions)) told ∙ small)
  name_back d i h g = absurd h

  enumerated_one : (d : Data) (v : Value) → Shows (enumerated root additions extensible) d v
      → v ≡ value_of (enumerated root additions extensible) d
  unfolding Shows value_of
  enumerated_one d (enumeral i) h = ap enumeral (name_one d i h)
  enumerated_one d v h = absurd h

  enumerated_back : (p : Path) (d : Data) (v : Value) → Shows (enumerated root additions extensible) d v
      → Has p (tree_of (enumerated root additions extensible)) v → Holds (demands p (enumerated root additions extensible) d)
  unfolding Shows demands Has tree_of
  enumerated_back p d (enumeral i) h g = (name_back d i h g, tt)
  enumerated_back p d v h g = absurd h

  module _ (may : MayAdd extensible (length additions)) where
    enumerated_forth : (p : Path) (d : Data) → Holds (demands p (enumerated root additions extensible) d)
        → Shows (enumerated root additions extensible) d (value_of (enumerated root additions extensible) d)
        × Has p (tree_of (enumerated root additions extensible)) (value_of (enumerated root additions extensible) d)
    unfolding Shows value_of demands Has tree_of
    enumerated_forth p d h = name_forth d may h.0

    pub enumerated_lawful : Lawful (enumerated root additions extensible)
    enumerated_lawful = record { one = enumerated_one; forth = enumerated_forth; back = enumerated_back }
