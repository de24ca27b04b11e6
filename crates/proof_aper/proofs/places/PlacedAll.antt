-- The layout of each value of a type within the bounds stands where its bits are.
use Rattle.std.proofs.Common.{◌≡◌, ℕ, zero, suc, ◌+◌, ◌-◌, ◌^◌, ◌<◌, ◌≤◌, ◌==◌, nat_lt, cond, ◌&&◌, Bool, true, false, List, [], ◌∷◌, ◌++◌, length, map, None, Some, refl, ap, ◌∙◌, arith}
use Rattle.std.specs.Prelude.{nat_le}
use Rattle.std.proofs.lemmas.Nat.{pow_pos}
use Rattle.bits_core.specs.Bits.{bit_value, number_of}
use Rattle.bits_core.proofs.BitLemmas.{number_small}
use Rattle.aper_defs.specs.declared.reason.Reason.TheVariants as reasons
use Rattle.aper_defs.specs.Trees.{Tree, Parts, Rows, Procedures, Outcome, Slot, slots, slots_left, slots_before, slots_after, has_slot, mandatory_count, part_count, boolean, integer, enumerated, bit_string, octet_string, printable_string, sequence, choice, sequence_of, container, pdu, no_parts, part, no_rows, row, no_procedures, procedure, no_outcome, outcome}
use Rattle.aper_defs.specs.Values.{Value, Values, Options, Ies, value_count, ie_count, presence, has_options, each_from, truth, number, enumeral, bits, octets, text, components, chosen, list, elements, message, raw, no_values, value, no_options, absent, present, no_ies, ie}
use Rattle.aper_defs.specs.Fields.{Path, Ask, Field, flag, constrained, small, extent, addition_bits, ie_id, pad, whole, octet, asked, run as run_field}
use Rattle.aper_defs.specs.Fields as fields
use Rattle.aper_defs.specs.Bits.{open_fields}
use Rattle.aper_defs.specs.Parts.{of_bits, of_octets, of_characters, extension_fields, index_fields, count_fields}
use Rattle.aper_defs.specs.Layouts.{raw_fields, flag_fields, mark_fields, raw_additions, ie_fields, message_head, layout, component_fields, addition_fields, alternative_fields, added_fields, row_fields, body_fields, outcome_fields}
use Rattle.aper_defs.specs.Membership.{Either, are_octets, IsRaw, EachFrom, AreRaw, AreAdditions, AreElements, IsInOrder, some_present, Has, HasComponents, HasAdditions, HasAlternative, HasAdded, HasRow, HasBody, HasOutcome}
use Rattle.aper_defs.specs.Bounds.{IsBounded, ArePartsBounded, AreRowsBounded, AreProceduresBounded, IsOutcomeBounded}
use Rattle.aper_defs.specs.Reading.{unless}
use Rattle.proof_aper.proofs.answers.NumberFacts.{by_cases, below, is_below, is_at_most, is_same, first_of_both, second_of_both}
use Rattle.proof_aper.proofs.places.Placed.{Allowed, Placed, placed_none, placed_asked, placed_run, placed_both, AreBelow}
use Rattle.proof_aper.proofs.places.Extents.{unless_true, allowed_whole}
use Rattle.proof_aper.proofs.places.Opened.{placed_open}
use Rattle.proof_aper.proofs.places.PlacedNumbers.{allowed_flag, allowed_constrained, allowed_small, padded, placed_extension}
use Rattle.proof_aper.proofs.places.PlacedStrings.{placed_integer, placed_index, placed_string, placed_count}

-- ---- units of values
bits_below : (bs : List Bool) → AreBelow 2 (map bit_value bs)
bits_below [] = tt
bits_below (true ∷ bs) = (omega arith, bits_below bs)
bits_below (false ∷ bs) = (omega arith, bits_below bs)

octets_below : (os : List ℕ) → are_octets os ≡ true → AreBelow 256 os
octets_below [] h = tt
octets_below (o ∷ os) h = (
  below o 256 (first_of_both (nat_lt o 256) (are_octets os) h),
  octets_below os
      (second_of_both (nat_lt o 256) (are_octets os) h),
)

placed_raw : (p inside : Path) (v : Value) → IsRaw v → Placed (raw_fields p inside v)
placed_raw p inside (raw os) h =
    padded p (extent (whole 1 16383 None)) (length os) (run_field inside octet os ∷ [])
    (placed_asked p (extent (whole 1 16383 None)) (length os) (run_field inside octet os ∷ [])
    (allowed_whole 1 16383 None (length os) (record { low = h.0; high = h.1; limit = omega arith; past = refl })) (λ place opens. refl)
    (placed_run inside octet os [] (octets_below os h.2) placed_none))
placed_raw p inside v h = absurd h

-- ---- SEQUENCE
placed_flag : (p : Path) (n : ℕ) (fs : List Field) → n < 2 → Placed fs → Placed (asked p flag n ∷ fs)
placed_flag p n fs h rest = placed_asked p flag n fs (allowed_flag n h) (λ place opens. refl) rest

placed_flags : (p : Path) (parts : Parts) (vs : Options) → Placed (flag_fields p parts vs)
placed_flags p no_parts vs = placed_none
placed_flags p (part name optional t others) no_options = placed_none
placed_flags p (part name true t others) (absent vs) = placed_flag p 0 (flag_fields p others vs) (omega arith) (placed_flags p others vs)
placed_flags p (part name false t others) (absent vs) = placed_flags p others vs
placed_flags p (part name true t others) (present v vs) = placed_flag p 1 (flag_fields p others vs) (omega arith) (placed_flags p others vs)
placed_flags p (part name false t others) (present v vs) = placed_flags p others vs

presence_positive : (more : Options) → some_present more ≡ true → 1 ≤ number_of (presence more)
presence_positive no_options h = cc
presence_positive (absent more) h = omega (arith, presence_positive more h)
presence_positive (present v more) h = omega (arith, pow_pos (length (presence more)))

allowed_marks : (count n : ℕ) → n < 2 ^ count → 1 ≤ n → Allowed (addition_bits count) n
allowed_marks count n h some = record {
  wide = λ c rest e. refl;
  small = λ place. h;
  right = λ c. unless_true (nat_lt 0 n) (is_below 0 n (omega arith)) reasons.EmptyAdditions;
  same = λ c. refl;
}

marks_placed : (p : Path) (more : Options) → length (presence more) ≤ 64 → some_present more ≡ true
    → Placed (asked p (small fields.length) (length (presence more) - 1) ∷ asked p (addition_bits (length (presence more)))
    (number_of (presence more)) ∷ [])
marks_placed p more few some =
    let size = length (presence more) in
    let marks = number_of (presence more) in
    placed_asked p (small fields.length) (size - 1) (asked p (addition_bits size) marks ∷ [])
    (allowed_small fields.length (size - 1) (omega (arith, few))) (λ place opens. refl)
    (placed_asked p (addition_bits size) marks [] (allowed_marks size marks (number_small (presence more)) (presence_positive more some))
    (λ place opens. refl) placed_none)

placed_marks : (p : Path) (extensible : Bool) (more : Options) → AreAdditions extensible more → Placed (mark_fields p more)
placed_marks p extensible no_options h = placed_none
placed_marks p extensible (absent more) h = marks_placed p (absent more) h.1 h.2
placed_marks p extensible (present v more) h = marks_placed p (present v more) h.1 h.2

placed_raw_additions : (p : Path) (more : Options) → AreRaw more → Placed (raw_additions p more)
placed_raw_additions p no_options h = placed_none
placed_raw_additions p (absent more) h = placed_raw_additions p more h
placed_raw_additions p (present v more) h = placed_both (raw_fields p p v) (raw_additions p more) (placed_raw p p v h.0)
    (placed_raw_additions p more h.1)

-- ---- lists
placed_members : (f : ℕ → Value → List Field) (P : ℕ → Value → Type 0) → ((i : ℕ) (v : Value) → P i v → Placed (f i v))
    → (i : ℕ) (vs : Values) → EachFrom P i vs → Placed (each_from f i vs)
placed_members f P one i no_values h = placed_none
placed_members f P one i (value v others) h =
    placed_both (f i v) (each_from f (suc i) others) (one i v h.0) (placed_members f P one (suc i) others h.1)

-- ---- information elements
mandatory_split : (id : ℕ) (left : List Slot) → has_slot id left ≡ true
    → mandatory_count left ≤ mandatory_count (slots_before id left) + 1 + mandatory_count (slots_after id left)
mandatory_split id [] h = cc
mandatory_split id (slot ∷ others) h =
    by_cases (slot.id == id)
    (λ b. cond b true (has_slot id others) ≡ true
    → cond slot.mandatory (suc (mandatory_count others)) (mandatory_count others) ≤ mandatory_count
    (cond b [] (slot ∷ slots_before id others)) + 1 + mandatory_count (cond b others (slots_after id others)))
    (λ e g. one_more slot.mandatory (mandatory_count others))
    (λ e g. further slot.mandatory (mandatory_count others) (mandatory_count (slots_before id others))
    (mandatory_count (slots_after id others)) (mandatory_split id others g)) h
  where
    one_more : (b : Bool) (n : ℕ) → cond b (suc n) n ≤ 0 + 1 + n
    one_more true n = omega arith
    one_more false n = omega arith

    further : (b : Bool) (n x y : ℕ) → n ≤ x + 1 + y → cond b (suc n) n ≤ cond b (suc x) x + 1 + y
    further true n x y h = omega arith
    further false n x y h = omega arith

-- one element more is enough for what it takes away
taken_one : (known left : List Slot) (id : ℕ) → IsInOrder known left id
    → mandatory_count left ≤ 1 + mandatory_count (slots_left known id left)
taken_one known left id h = go (has_slot id known) h
  where
    go : (b : Bool) → Either b ((has_slot id left ≡ true) × (mandatory_count (slots_before id left) ≡ 0)) (Unit {0})
        → mandatory_count left ≤ 1 + mandatory_count (cond b (slots_after id left) left)
    go true g = omega (arith, mandatory_split id left g.0, g.1)
    go false g = omega arith

mandatory_few : (known : List Slot) (P : ℕ → Value → Type 0) (left : List Slot) (ies : Ies) → AreElements known P left ies
    → mandatory_count left ≤ ie_count ies
mandatory_few known P left no_ies h = omega (arith, h)
mandatory_few known P left (ie id criticality v others) h =
    omega (arith, taken_one known left id h.3, mandatory_few known P (slots_left known id left) others h.4)

allowed_id : (known left : List Slot) (after id : ℕ) → id < 65536 → IsInOrder known left id
    → mandatory_count (slots_left known id left) ≤ after
    → Allowed (ie_id known left after) id
allowed_id known left after id h order enough = record {
  wide = λ c rest e. refl;
  small = λ place. h;
  right = λ c. go (has_slot id known) (nat_le (mandatory_count (slots_left known id left)) after) order
      (is_at_most (mandatory_count (slots_left known id left)) after enough);
  same = λ c. refl;
}
  where
    go : (b fits : Bool) → Either b ((has_slot id left ≡ true) × (mandatory_count (slots_before id left) ≡ 0)) (Unit {0}) → fits ≡ true
        → cond (b && cond (has_slot id left) false true) (Some reasons.Order)
        (unless (cond b (mandatory_count (slots_before id left) == 0) true && fits) reasons.Required) ≡ None
    go true fits g e =
        ap (λ x. cond (cond x false true) (Some reasons.Order)
        (unless ((mandatory_count (slots_before id left) == 0) && fits) reasons.Required)) g.0
        ∙ ap (λ x. unless (x && fits) reasons.Required) (is_same (mandatory_count (slots_before id left)) 0 g.1)
        ∙ unless_true fits e reasons.Required
    go false fits g e = unless_true fits e reasons.Required

placed_ies : (p : Path) (known : List Slot) (f : ℕ → Value → List Field) (P : ℕ → Value → Type 0)
    → ((id : ℕ) (v : Value) → P id v → Placed (f id v))
    → (left : List Slot) (ies : Ies) → AreElements known P left ies → Placed (ie_fields p known f left ies)
placed_ies p known f P one left no_ies h = placed_none
placed_ies p known f P one left (ie id criticality v others) h =
    let after = slots_left known id left in
    let rest = f id v ++ ie_fields p known f after others in
    let head = asked p (constrained fields.index 2 2) criticality ∷ rest in
    padded p (ie_id known left (ie_count others)) id head
    (placed_asked p (ie_id known left (ie_count others)) id head
    (allowed_id known left (ie_count others) id h.0 h.3 (mandatory_few known P after others h.4)) (λ place opens. refl)
    (placed_asked p (constrained fields.index 2 2) criticality rest
    (allowed_constrained fields.index 2 2 criticality h.1 (omega (arith, h.1))) (λ place opens. refl)
    (placed_both (f id v) (ie_fields p known f after others) (one id v h.2) (placed_ies p known f P one after others h.4))))

allowed_count : (least n : ℕ) → least ≤ n → n < 65536 → Allowed (fields.ie_count least) n
allowed_count least n h k = record {
  wide = λ c rest e. refl;
  small = λ place. k;
  right = λ c. unless_true (nat_le least n) (is_at_most least n h) reasons.Required;
  same = λ c. refl;
}

-- ---- each form of type
by_either : (b : Bool) (A B : Type 0) (x y : List Field) → (b ≡ true → A → Placed x) → (b ≡ false → B → Placed y) → Either b A B
    → Placed (cond b x y)
by_either true A B x y first second h = first refl h
by_either false A B x y first second h = second refl h

placed_head : (p : Path) (index code criticality : ℕ) (fs : List Field) → index < 3 → code < 256 → criticality ≤ 2 → Placed fs
    → Placed (message_head p index code criticality ++ fs)
placed_head p index code criticality fs h k l rest =
    let last = asked p (constrained fields.index 2 2) criticality ∷ fs in
    let after = asked p pad 0 ∷ asked p (constrained fields.index 8 255) code ∷ last in
    placed_flag p 0 (asked p (constrained fields.index 2 2) index ∷ after) (omega arith)
    (placed_asked p (constrained fields.index 2 2) index after (allowed_constrained fields.index 2 2 index (omega arith) (omega arith))
    (λ place opens. refl)
    (padded p (constrained fields.index 8 255) code last
    (placed_asked p (constrained fields.index 8 255) code last (allowed_constrained fields.index 8 255 code (omega arith) (omega arith))
    (λ place opens. refl)
    (placed_asked p (constrained fields.index 2 2) criticality fs (allowed_constrained fields.index 2 2 criticality l (omega arith))
    (λ place opens. refl) rest))))

mutual
  unfolding Has layout IsBounded

  pub placed : (p : Path) (t : Tree) (v : Value) → IsBounded t → Has p t v → Placed (layout p t v)
  placed p boolean (truth true) b h = placed_flag p 1 [] (omega arith) placed_none
  placed p boolean (truth false) b h = placed_flag p 0 [] (omega arith) placed_none
  placed p (integer low high extensible) (number z) b h = placed_integer p low high extensible z h b.1
  placed p (enumerated names extensible) (enumeral i) b h = placed_index p names extensible i h b.1
  placed p (bit_string size) (bits bs) b h = placed_string p of_bits size (map bit_value bs) b (bits_below bs)
  placed p (octet_string size) (octets os) b h = placed_string p of_octets size os b (octets_below os h.1)
  placed p (printable_string size) (text cs) b h = placed_string p of_characters size cs b h.1
  placed p (sequence extensible root additions) (components vs more) b h =
      placed_both (extension_fields p extensible (has_options more))
      (flag_fields p root vs ++ (component_fields p root vs ++ (mark_fields p more ++ addition_fields p additions more)))
      (placed_extension p extensible (has_options more))
      (placed_both (flag_fields p root vs) (component_fields p root vs ++ (mark_fields p more ++ addition_fields p additions more))
      (placed_flags p root vs)
      (placed_both (component_fields p root vs) (mark_fields p more ++ addition_fields p additions more)
      (placed_components p root vs b.0 h.0)
      (placed_both (mark_fields p more) (addition_fields p additions more) (placed_marks p extensible more h.1)
      (placed_additions p additions more b.1 h.2))))
  placed p (choice extensible root additions) (chosen i v) b h =
      placed_both (index_fields p (part_count root) extensible i) _ (placed_index p (part_count root) extensible i h.0 b.1)
      (by_either (nat_lt i (part_count root)) _ _ _ _
      (λ e g. placed_alternative p root i v b.2 g) (λ e g. placed_added p additions (i - part_count root) v b.3 g) h.1)
  placed p (sequence_of size t) (list vs) b h =
      placed_both (count_fields p size (value_count vs)) (each_from (λ i w. layout (fields.member i ∷ p) t w) 0 vs)
      (placed_count p size (value_count vs) h.0 b.0)
      (placed_members (λ i w. layout (fields.member i ∷ p) t w) (λ i w. Has (fields.member i ∷ p) t w)
      (λ i w g. placed (fields.member i ∷ p) t w b.1 g) 0 vs h.1)
  placed p (container rows) (elements ies) b h =
      let known = slots rows in
      let rest = ie_fields p known (λ id w. row_fields p rows id w) known ies in
      padded p (fields.ie_count (mandatory_count known)) (ie_count ies) rest
      (placed_asked p (fields.ie_count (mandatory_count known)) (ie_count ies) rest
      (allowed_count (mandatory_count known) (ie_count ies) (mandatory_few known (λ id w. HasRow p rows id w) known ies h.1) h.0)
      (λ place opens. refl)
      (placed_ies p known (λ id w. row_fields p rows id w) (λ id w. HasRow p rows id w)
      (λ id w g. placed_row p rows id w b g) known ies h.1))
  placed p (pdu procedures) (message index code criticality body) b h =
      by_either (nat_lt index 3) _ _ _ _
      (λ e g. placed_head p index code criticality (body_fields p procedures index code body) (below index 3 e) g.0 g.1
      (placed_body p procedures index code body b g.2))
      (λ e g. placed_flag p 1 (asked p (small fields.index) (index - 3) ∷ raw_fields p p body) (omega arith)
      (placed_asked p (small fields.index) (index - 3) (raw_fields p p body) (allowed_small fields.index (index - 3) (omega (arith, g.0)))
      (λ place opens. refl) (placed_raw p p body g.3))) h
  placed p t v b h = absurd h

  placed_components : (p : Path) (parts : Parts) (vs : Options) → ArePartsBounded parts → HasComponents p parts vs
      → Placed (component_fields p parts vs)
  placed_components p no_parts no_options b h = placed_none
  placed_components p (part name optional t others) (absent vs) b h = placed_components p others vs b.1 h.1
  placed_components p (part name optional t others) (present v vs) b h =
      placed_both (layout (fields.component name ∷ p) t v) (component_fields p others vs) (placed (fields.component name ∷ p) t v b.0 h.0)
      (placed_components p others vs b.1 h.1)
  placed_components p parts vs b h = absurd h

  placed_additions : (p : Path) (parts : Parts) (more : Options) → ArePartsBounded parts → HasAdditions p parts more
      → Placed (addition_fields p parts more)
  placed_additions p no_parts more b h = placed_raw_additions p more h
  placed_additions p (part name optional t others) no_options b h = placed_none
  placed_additions p (part name optional t others) (absent more) b h = placed_additions p others more b.1 h
  placed_additions p (part name optional t others) (present v more) b h =
      placed_both (open_fields p (fields.component name ∷ p) (layout (fields.component name ∷ p) t v)) (addition_fields p others more)
      (placed_open p (fields.component name ∷ p) (layout (fields.component name ∷ p) t v) h.1
      (placed (fields.component name ∷ p) t v b.0 h.0))
      (placed_additions p others more b.1 h.2)

  placed_alternative : (p : Path) (parts : Parts) (i : ℕ) (v : Value) → ArePartsBounded parts → HasAlternative p parts i v
      → Placed (alternative_fields p parts i v)
  placed_alternative p no_parts i v b h = absurd h
  placed_alternative p (part name optional t others) zero v b h = placed (fields.component name ∷ p) t v b.0 h
  placed_alternative p (part name optional t others) (suc i) v b h = placed_alternative p others i v b.1 h

  placed_added : (p : Path) (parts : Parts) (i : ℕ) (v : Value) → ArePartsBounded parts → HasAdded p parts i v
      → Placed (added_fields p parts i v)
  placed_added p no_parts i v b h = placed_raw p p v h
  placed_added p (part name optional t others) zero v b h =
      placed_open p (fields.component name ∷ p) (layout (fields.component name ∷ p) t v) h.1
      (placed (fields.component name ∷ p) t v b.0 h.0)
  placed_added p (part name optional t others) (suc i) v b h = placed_added p others i v b.1 h

  placed_row : (p : Path) (rows : Rows) (id : ℕ) (v : Value) → AreRowsBounded rows → HasRow p rows id v → Placed (row_fields p rows id v)
  placed_row p no_rows id v b h = placed_raw p (fields.element id ∷ p) v h
  placed_row p (row other mandatory t others) id v b h =
      by_either (other == id) _ _ _ _
      (λ e g. placed_open p (fields.element id ∷ p) (layout (fields.element id ∷ p) t v) g.1 (placed (fields.element id ∷ p) t v b.0 g.0))
      (λ e g. placed_row p others id v b.1 g) h

  placed_body : (p : Path) (procedures : Procedures) (index code : ℕ) (v : Value) → AreProceduresBounded procedures
      → HasBody p procedures index code v
      → Placed (body_fields p procedures index code v)
  placed_body p no_procedures index code v b h = placed_raw p (fields.outcome index ∷ p) v h
  placed_body p (procedure other initiating successful unsuccessful others) index code v b h =
      by_either (other == code) _ _ _ _
      (λ e g. by_either (index == 0) _ _ _ _ (λ e2 g2. placed_outcome p index initiating v b.0 g2)
      (λ e2 g2. by_either (index == 1) _ _ _ _ (λ e3 g3. placed_outcome p index successful v b.1 g3)
      (λ e3 g3. placed_outcome p index unsuccessful v b.2 g3) g2) g)
      (λ e g. placed_body p others index code v b.3 g) h

  placed_outcome : (p : Path) (index : ℕ) (o : Outcome) (v : Value) → IsOutcomeBounded o → HasOutcome p index o v
      → Placed (outcome_fields p index o v)
  placed_outcome p index no_outcome v b h = placed_raw p (fields.outcome index ∷ p) v h
  placed_outcome p index (outcome t) v b h =
      placed_open p (fields.outcome index ∷ p) (layout (fields.outcome index ∷ p) t v) h.1 (placed (fields.outcome index ∷ p) t v b h.0)
