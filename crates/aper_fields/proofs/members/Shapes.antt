-- What a value of a type is, by the form of the type.
use Rattle.std.proofs.Common.{◌≡◌, ℕ, suc, ◌<◌, ◌≤◌, Bool, true, false, List, ◌∷◌, length, Option, Some, None, refl, subst, arith}
use Rattle.std.specs.Prelude.{ℤ, nat_lt, nat_le, ◌&&◌, ◌||◌}
use Rattle.asn1_syntax.specs.declared.types.definition.Size.{Size}
use Rattle.aper_defs.specs.Trees.{Tree, Parts, Rows, Procedures, Slot, part_count, slots_left, integer, enumerated, sequence, choice, sequence_of, container, pdu}
use Rattle.aper_defs.specs.Values.{Value, Values, Options, Ies, value_count, ie_count, presence, number, enumeral, components, chosen, list, elements, message, no_values, value, no_ies, ie, no_options, absent, present}
use Rattle.aper_defs.specs.Fields.{Path}
use Rattle.aper_defs.specs.Fields as fields
use Rattle.aper_defs.specs.Parts.{in_size}
use Rattle.aper_defs.specs.Membership.{Has, Either, EachFrom, AreElements, AreAdditions, HasRow, IsRaw, is_number_of, is_index_of, is_count_of}
use Rattle.aper_defs.specs.Bounds.{IsSizeBounded}
use Rattle.proof_aper.proofs.answers.NumberFacts.{at_most, is_below, is_not_below, second_of_both}
use Rattle.aper_fields.specs.members.Membership.{IsValue, AreComponents, AreNamed, AreMembers, AreBodies, IsMessage}

pub as_of : (t u : Tree) (v w : Value) → t ≡ u → v ≡ w → IsValue t v → IsValue u w
as_of t u v w e f h = subst (λ x. IsValue x w) e (subst (λ x. IsValue t x) f h)

pub number_in : (low high : ℤ) (e : Bool) (z : ℤ) → IsValue (integer low high e) (number z) → is_number_of low high e z ≡ true
unfolding Has
number_in low high e z h = h.has

pub index_in : (names : ℕ) (e : Bool) (i : ℕ) → IsValue (enumerated names e) (enumeral i) → is_index_of names e i ≡ true
unfolding Has
index_in names e i h = h.has

-- ---- lists
each_member : (p : Path) (t : Tree) (i : ℕ) (vs : Values) → EachFrom (λ k v. Has (fields.member k ∷ p) t v) i vs → AreMembers t vs
each_member p t i no_values h = tt
each_member p t i (value v others) h = (record { path = fields.member i ∷ p; has = h.0 }, each_member p t (suc i) others h.1)

pub list_members : (size : Option Size) (t : Tree) (vs : Values) → IsValue (sequence_of size t) (list vs) → AreMembers t vs
unfolding Has
list_members size t vs h = each_member h.path t 0 vs h.has.1

either : (a b : Bool) (n : ℕ) → (a ≡ true → n < 65536) → (b ≡ true → n < 65536) → (a || b) ≡ true → n < 65536
either true b n f g h = f refl
either false b n f g h = g h

count_small : (size : Option Size) (n : ℕ) → IsSizeBounded size → is_count_of (Some 16383) size n ≡ true → n < 65536
count_small None n b h = let k : n ≤ 16383 = at_most n 16383 h in omega (arith, k)
count_small (Some size) n b h =
    either (in_size size n) (size.extensible && nat_le n 16383) n
    (λ g. let k : n ≤ size.high = at_most n size.high (second_of_both (nat_le size.low n) (nat_le n size.high) g) in omega (arith, k, b.1))
    (λ g. let k : n ≤ 16383 = at_most n 16383 (second_of_both size.extensible (nat_le n 16383) g) in omega (arith, k)) h

pub list_count : (size : Option Size) (t : Tree) (vs : Values) → IsSizeBounded size → IsValue (sequence_of size t) (list vs)
    → value_count vs < 65536
unfolding Has
list_count size t vs b h = count_small size (value_count vs) b h.has.0

-- ---- containers
each_body : (p : Path) (rows : Rows) (known left : List Slot) (ies : Ies) → AreElements known (λ id v. HasRow p rows id v) left ies
    → AreBodies rows ies
each_body p rows known left no_ies h = tt
each_body p rows known left (ie id criticality v others) h =
    (h.1, record { path = p; has = h.2 }, each_body p rows known (slots_left known id left) others h.4)

pub element_bodies : (rows : Rows) (ies : Ies) → IsValue (container rows) (elements ies) → AreBodies rows ies
unfolding Has
element_bodies rows ies h = each_body h.path rows _ _ ies h.has.1

pub element_count : (rows : Rows) (ies : Ies) → IsValue (container rows) (elements ies) → ie_count ies < 65536
unfolding Has
element_count rows ies h = h.has.0

-- ---- messages
pub where_true : (b : Bool) (A B : Type 0) → b ≡ true → Either b A B → A
where_true true A B e h = h
where_true false A B e h = let k : ⊥ = cc in absurd k

pub where_false : (b : Bool) (A B : Type 0) → b ≡ false → Either b A B → B
where_false true A B e h = let k : ⊥ = cc in absurd k
where_false false A B e h = h

pub message_known : (procedures : Procedures) (index code criticality : ℕ) (body : Value) → index < 3
    → IsValue (pdu procedures) (message index code criticality body) → (criticality ≤ 2) × IsMessage procedures index code body
unfolding Has
message_known procedures index code criticality body few h =
    let both = where_true (nat_lt index 3) _ _ (is_below index 3 few) h.has in
    (both.1, record { path = h.path; has = both.2 })

pub message_past : (procedures : Procedures) (index code criticality : ℕ) (body : Value) → 3 ≤ index
    → IsValue (pdu procedures) (message index code criticality body) → (index < 67) × IsRaw body
unfolding Has
message_past procedures index code criticality body many h =
    let all = where_false (nat_lt index 3) _ _ (is_not_below index 3 many) h.has in (all.0, all.3)

-- ---- sequences
pub sequence_root : (e : Bool) (root additions : Parts) (vs more : Options) → IsValue (sequence e root additions) (components vs more)
    → AreComponents root vs
unfolding Has
sequence_root e root additions vs more h = record { path = h.path; has = h.has.0 }

pub sequence_named : (e : Bool) (root additions : Parts) (vs more : Options) → IsValue (sequence e root additions) (components vs more)
    → AreNamed additions more
unfolding Has
sequence_named e root additions vs more h = record { path = h.path; has = h.has.2 }

few_additions : (e : Bool) (more : Options) → AreAdditions e more → length (presence more) ≤ 64
few_additions e no_options h = omega arith
few_additions e (absent more) h = h.1
few_additions e (present v more) h = h.1

pub sequence_few : (e : Bool) (root additions : Parts) (vs more : Options) → IsValue (sequence e root additions) (components vs more)
    → length (presence more) ≤ 64
unfolding Has
sequence_few e root additions vs more h = few_additions e more h.has.1

-- ---- choices
pub choice_index : (e : Bool) (root additions : Parts) (i : ℕ) (v : Value) → IsValue (choice e root additions) (chosen i v)
    → is_index_of (part_count root) e i ≡ true
unfolding Has
choice_index e root additions i v h = h.has.0
