-- The layout of a value is a loose one.
use Rattle.std.proofs.Common.{◌≡◌, ℕ, zero, suc, ◌-◌, ◌<◌, ◌≤◌, Bool, true, false, cond, ◌&&◌, ◌||◌, ◌==◌, nat_lt, List, [], ◌∷◌, ◌++◌, length, map, None, Some, Option, refl, sym, ap, ◌∙◌, arith, append_assoc}
use Rattle.std.specs.Prelude.{ℤ, nat_le}
use Rattle.bits_core.specs.Bits.{bit_value}
use Rattle.asn1_syntax.specs.declared.types.definition.Size.{Size}
use Rattle.aper_defs.specs.Trees.{Tree, Parts, Rows, Procedures, Outcome, Slot, slots, slots_left, part_count, boolean, integer, enumerated, bit_string, octet_string, printable_string, sequence, choice, sequence_of, container, pdu, no_parts, part, no_rows, row, no_procedures, procedure, no_outcome, outcome}
use Rattle.aper_defs.specs.Values.{Value, Values, Options, Ies, value_count, has_options, each_from, truth, number, enumeral, bits, octets, text, components, chosen, list, elements, message, no_values, value, no_options, absent, present, no_ies, ie}
use Rattle.aper_defs.specs.Numbers.{in_range, above, signed_octets_for, twos_complement}
use Rattle.aper_defs.specs.Fields.{Path, Field, flag, small, signed, extent, pad, closing, end, whole, asked}
use Rattle.aper_defs.specs.Fields as fields
use Rattle.aper_defs.specs.Bits.{put_all, closed, octet_count, open_fields}
use Rattle.aper_defs.specs.Parts.{Content, of_bits, of_octets, of_characters, integer_fields, number_fields, extension_fields, string_fields, sized_fields, all_part_fields, count_fields, in_size}
use Rattle.aper_defs.specs.Layouts.{raw_fields, flag_fields, mark_fields, raw_additions, ie_fields, message_head, layout, component_fields, addition_fields, alternative_fields, added_fields, row_fields, body_fields, outcome_fields}
use Rattle.aper_defs.specs.Membership.{Either, is_number_of, is_count_of, EachFrom, AreRaw, AreElements, FitsOpen, Has, HasComponents, HasAdditions, HasAlternative, HasAdded, HasRow, HasBody, HasOutcome}
use Rattle.proof_aper.proofs.answers.NumberFacts.{by_cases, at_most}
use Rattle.proof_aper.proofs.answers.ForthNumbers.{in_or_signed}
use Rattle.proof_aper.proofs.answers.ForthStrings.{past_size, either_extensible}
use Rattle.proof_aper.proofs.answers.Forth.{length_of_bits}
use Rattle.proof_aper.proofs.places.Opened.{octets_some}
use Rattle.aper_defs.specs.loose_defs.Forms.{integer_form, HasIntegerForm, string_form, HasStringForm, count_form, HasCountForm}
use Rattle.aper_defs.specs.loose_defs.Loose.{After, Joined, LooseOpen, LooseString, LooseRaw, LooseRawAdditions, LooseEach, LooseElements, Loose, LooseComponents, LooseAdditions, LooseAlternative, LooseAdded, LooseRow, LooseBody, LooseOutcome}

-- ---- numbers, strings and counts
loose_integer : (p : Path) (low high : ℤ) (extensible : Bool) (z : ℤ) → is_number_of low high extensible z ≡ true
    → (outside : Bool) × HasIntegerForm low high extensible outside z
    × (integer_fields p low high extensible z ≡ integer_form p low high extensible outside z)
unfolding integer_fields
loose_integer p low high extensible z h =
    by_cases (in_range low high z) (λ b. (outside : Bool) × HasIntegerForm low high extensible outside z
    × (extension_fields p extensible (cond b false true) ++ cond b (number_fields p fields.value (above low high) (above low z))
    (asked p pad 0 ∷ asked p (extent (whole 1 8 None)) (signed_octets_for z) ∷ asked p (signed (signed_octets_for z) low high)
    (twos_complement (signed_octets_for z) z) ∷ [])
    ≡ integer_form p low high extensible outside z))
    (λ root. (false, root, refl))
    (λ out. (true, in_or_signed low high extensible z h out, refl))

loose_string : (p : Path) (content : Content) (size : Option Size) (units : List ℕ) → is_count_of None size (length units) ≡ true
    → LooseString p content size units (string_fields p content size units)
unfolding string_fields
loose_string p content None units h = (false, tt, refl)
loose_string p content (Some size) units h =
    by_cases (in_size size (length units)) (λ b. (outside : Bool) × HasStringForm (Some size) outside (length units)
    × (extension_fields p size.extensible (cond b false true) ++ cond b (sized_fields p content size units)
    (all_part_fields p content (Some size) units)
    ≡ string_form p content (Some size) outside units))
    (λ root. (false, root, refl))
    (λ out. (true, either_extensible (in_size size (length units)) size.extensible h out, refl))

most_of : (a b c : Bool) → (a || (b && c)) ≡ true → a ≡ false → c ≡ true
most_of true b c h out = cc
most_of false true c h out = h
most_of false false c h out = cc

loose_count : (p : Path) (size : Option Size) (n : ℕ) → is_count_of (Some 16383) size n ≡ true
    → (outside : Bool) × HasCountForm size outside n × (count_fields p size n ≡ count_form p size outside n)
unfolding count_fields
loose_count p None n h = (false, at_most n 16383 h, refl)
loose_count p (Some size) n h =
    by_cases (in_size size n) (λ b. (outside : Bool) × HasCountForm (Some size) outside n
    × (extension_fields p size.extensible (cond b false true) ++ cond b (number_fields p fields.length (size.high - size.low) (n - size.low))
    (asked p pad 0 ∷ asked p (extent (whole 0 16383 (Some size))) n ∷ [])
    ≡ count_form p (Some size) outside n))
    (λ root. (false, root, refl))
    (λ out. (
      true,
      (
        past_size (in_size size n) size.extensible (nat_le n 16383) h out,
        at_most n 16383 (most_of (in_size size n) size.extensible (nat_le n 16383) h out),
      ),
      refl,
    ))

-- ---- pieces
joined : (First Second : List Field → Type 0) (a b : List Field) → First a → Second b → Joined First Second (a ++ b)
joined First Second a b x y = record { front = a; others = b; first = x; second = y; is = refl }

after : (front : List Field) (Others : List Field → Type 0) (b : List Field) → Others b → After front Others (front ++ b)
after front Others b x = record { others = b; loose = x; is = refl }

loose_open : (p inside : Path) (Contents : List Field → Type 0) (fs : List Field) → Contents fs → FitsOpen inside fs
    → LooseOpen p inside Contents (open_fields p inside fs)
loose_open p inside Contents fs loose fits = record {
  told = octet_count (closed inside fs);
  mark = cond (length (put_all [] fs) == 0) 1 0;
  contents = fs;
  low = octets_some inside fs;
  high = fits;
  mark_most = by_cases (length (put_all [] fs) == 0) (λ b. cond b 1 0 ≤ 1) (λ e. omega arith) (λ e. omega arith);
  loose = loose;
  is = ap (λ (xs : List Field). asked p pad 0 ∷ asked p fields.opening (octet_count (closed inside fs)) ∷ xs)
      (append_assoc fs (asked inside closing (cond (length (put_all [] fs) == 0) 1 0) ∷ []) (asked inside end 0 ∷ []));
}

loose_raw_additions : (p : Path) (more : Options) → AreRaw more → LooseRawAdditions p more (raw_additions p more)
loose_raw_additions p no_options h = refl
loose_raw_additions p (absent more) h = loose_raw_additions p more h
loose_raw_additions p (present v more) h =
    joined (LooseRaw p p v) (LooseRawAdditions p more) (raw_fields p p v) (raw_additions p more) (h.0, refl)
    (loose_raw_additions p more h.1)

loose_each : (One : ℕ → Value → List Field → Type 0) (f : ℕ → Value → List Field) (P : ℕ → Value → Type 0)
    → ((i : ℕ) (v : Value) → P i v → One i v (f i v)) → (i : ℕ) (vs : Values) → EachFrom P i vs → LooseEach One i vs (each_from f i vs)
loose_each One f P one i no_values h = refl
loose_each One f P one i (value v others) h =
    joined (One i v) (LooseEach One (suc i) others) (f i v) (each_from f (suc i) others) (one i v h.0)
    (loose_each One f P one (suc i) others h.1)

loose_elements : (p : Path) (known : List Slot) (Body : ℕ → Value → List Field → Type 0) (f : ℕ → Value → List Field)
    (P : ℕ → Value → Type 0)
    → ((id : ℕ) (v : Value) → P id v → Body id v (f id v)) → (left : List Slot) (ies : Ies) → AreElements known P left ies
    → LooseElements p known Body left ies (ie_fields p known f left ies)
loose_elements p known Body f P one left no_ies h = (h, refl)
loose_elements p known Body f P one left (ie id criticality v others) h =
    let rest = slots_left known id left in (
      h.0,
      h.1,
      h.3,
      after _ (Joined (Body id v) (LooseElements p known Body rest others)) (f id v ++ ie_fields p known f rest others)
          (joined (Body id v) (LooseElements p known Body rest others) (f id v) (ie_fields p known f rest others) (one id v h.2)
          (loose_elements p known Body f P one rest others h.4)),
    )

-- the fields of the branch that a test takes
by_test : (b : Bool) (A B : Type 0) (C D : List Field → Type 0) (x y : List Field) → (A → C x) → (B → D y) → Either b A B
    → Either b (C (cond b x y)) (D (cond b x y))
by_test true A B C D x y f g h = f h
by_test false A B C D x y f g h = g h

-- ---- each form of type
mutual
  unfolding Has layout Loose

  pub loose_layout : (p : Path) (t : Tree) (v : Value) → Has p t v → Loose p t v (layout p t v)
  loose_layout p boolean (truth b) h = refl
  loose_layout p (integer low high extensible) (number z) h = loose_integer p low high extensible z h
  loose_layout p (enumerated names extensible) (enumeral i) h = (h, refl)
  loose_layout p (bit_string size) (bits bs) h =
      loose_string p of_bits size (map bit_value bs) (ap (is_count_of None size) (length_of_bits bs) ∙ h)
  loose_layout p (octet_string size) (octets os) h = (h.1, loose_string p of_octets size os h.0)
  loose_layout p (printable_string size) (text cs) h = (h.1, loose_string p of_characters size cs h.0)
  loose_layout p (sequence extensible root additions) (components vs more) h =
      let f1 = extension_fields p extensible (has_options more) in
      let f2 = flag_fields p root vs in
      let f3 = component_fields p root vs in
      let f4 = mark_fields p more in
      let f5 = addition_fields p additions more in (
        h.1,
        record {
          others = f3 ++ (f4 ++ f5);
          loose = joined (LooseComponents p root vs) (After f4 (LooseAdditions p additions more)) f3 (f4 ++ f5)
              (loose_components p root vs h.0) (after f4 (LooseAdditions p additions more) f5 (loose_additions p additions more h.2));
          is = sym (append_assoc f1 f2 (f3 ++ (f4 ++ f5)));
        },
      )
  loose_layout p (choice extensible root additions) (chosen i v) h = (
    h.0,
    after _ _ (cond (nat_lt i (part_count root)) (alternative_fields p root i v) (added_fields p additions (i - part_count root) v))
        (by_test (nat_lt i (part_count root)) _ _ (λ others. LooseAlternative p root i v others)
        (λ others. LooseAdded p additions (i - part_count root) v others) _ _
        (λ g. loose_alternative p root i v g) (λ g. loose_added p additions (i - part_count root) v g) h.1),
  )
  loose_layout p (sequence_of size t) (list vs) h =
      let c = loose_count p size (value_count vs) h.0 in
      let f = λ (i : ℕ) (w : Value). layout (fields.member i ∷ p) t w in
      let One = λ (i : ℕ) (w : Value). Loose (fields.member i ∷ p) t w in (
        c.0,
        c.1,
        record {
          others = each_from f 0 vs;
          loose = loose_each One f (λ i w. Has (fields.member i ∷ p) t w) (λ i w g. loose_layout (fields.member i ∷ p) t w g) 0 vs h.1;
          is = ap (λ (xs : List Field). xs ++ each_from f 0 vs) c.2;
        },
      )
  loose_layout p (container rows) (elements ies) h = (
    h.0,
    after _ _ (ie_fields p (slots rows) (λ id w. row_fields p rows id w) (slots rows) ies)
        (loose_elements p (slots rows) (λ id w. LooseRow p rows id w) (λ id w. row_fields p rows id w) (λ id w. HasRow p rows id w)
        (λ id w g. loose_row p rows id w g) (slots rows) ies h.1),
  )
  loose_layout p (pdu procedures) (message index code criticality body) h =
      by_test (nat_lt index 3) _ _
      (λ fs. (code < 256) × (criticality ≤ 2)
      × After (message_head p index code criticality) (LooseBody p procedures index code body) fs)
      (λ fs. (index < 67) × (code ≡ 0) × (criticality ≡ 0)
      × After (asked p flag 1 ∷ asked p (small fields.index) (index - 3) ∷ []) (LooseRaw p p body) fs) _ _
      (λ g. (
        g.0,
        g.1,
        after (message_head p index code criticality) (LooseBody p procedures index code body)
            (body_fields p procedures index code body) (loose_body p procedures index code body g.2),
      ))
      (λ g. (
        g.0,
        g.1,
        g.2,
        after (asked p flag 1 ∷ asked p (small fields.index) (index - 3) ∷ []) (LooseRaw p p body) (raw_fields p p body) (g.3, refl),
      )) h
  loose_layout p t v h = absurd h

  loose_components : (p : Path) (parts : Parts) (vs : Options) → HasComponents p parts vs
      → LooseComponents p parts vs (component_fields p parts vs)
  loose_components p no_parts no_options h = refl
  loose_components p (part name optional t others) (absent vs) h = (h.0, loose_components p others vs h.1)
  loose_components p (part name optional t others) (present v vs) h =
      let q = fields.component name ∷ p in
      joined (Loose q t v) (LooseComponents p others vs) (layout q t v) (component_fields p others vs) (loose_layout q t v h.0)
      (loose_components p others vs h.1)
  loose_components p parts vs h = absurd h

  loose_additions : (p : Path) (parts : Parts) (more : Options) → HasAdditions p parts more
      → LooseAdditions p parts more (addition_fields p parts more)
  loose_additions p no_parts more h = loose_raw_additions p more h
  loose_additions p (part name optional t others) no_options h = refl
  loose_additions p (part name optional t others) (absent more) h = loose_additions p others more h
  loose_additions p (part name optional t others) (present v more) h =
      let q = fields.component name ∷ p in
      joined (LooseOpen p q (Loose q t v)) (LooseAdditions p others more) (open_fields p q (layout q t v))
      (addition_fields p others more) (loose_open p q (Loose q t v) (layout q t v) (loose_layout q t v h.0) h.1)
      (loose_additions p others more h.2)

  loose_alternative : (p : Path) (parts : Parts) (i : ℕ) (v : Value) → HasAlternative p parts i v
      → LooseAlternative p parts i v (alternative_fields p parts i v)
  loose_alternative p no_parts i v h = absurd h
  loose_alternative p (part name optional t others) zero v h = loose_layout (fields.component name ∷ p) t v h
  loose_alternative p (part name optional t others) (suc i) v h = loose_alternative p others i v h

  loose_added : (p : Path) (parts : Parts) (i : ℕ) (v : Value) → HasAdded p parts i v → LooseAdded p parts i v (added_fields p parts i v)
  loose_added p no_parts i v h = (h, refl)
  loose_added p (part name optional t others) zero v h =
      let q = fields.component name ∷ p in loose_open p q (Loose q t v) (layout q t v) (loose_layout q t v h.0) h.1
  loose_added p (part name optional t others) (suc i) v h = loose_added p others i v h

  loose_row : (p : Path) (rows : Rows) (id : ℕ) (v : Value) → HasRow p rows id v → LooseRow p rows id v (row_fields p rows id v)
  loose_row p no_rows id v h = (h, refl)
  loose_row p (row other mandatory t others) id v h =
      let q = fields.element id ∷ p in
      by_test (other == id) _ _ (λ fs. LooseOpen p q (Loose q t v) fs) (λ fs. LooseRow p others id v fs) _ _
      (λ g. loose_open p q (Loose q t v) (layout q t v) (loose_layout q t v g.0) g.1) (λ g. loose_row p others id v g) h

  loose_body : (p : Path) (procedures : Procedures) (index code : ℕ) (v : Value) → HasBody p procedures index code v
      → LooseBody p procedures index code v (body_fields p procedures index code v)
  loose_body p no_procedures index code v h = (h, refl)
  loose_body p (procedure other initiating successful unsuccessful others) index code v h =
      by_test (other == code) _ _
      (λ fs. Either (index == 0) (LooseOutcome p index initiating v fs)
      (Either (index == 1) (LooseOutcome p index successful v fs) (LooseOutcome p index unsuccessful v fs)))
      (λ fs. LooseBody p others index code v fs) _ _
      (λ g. by_test (index == 0) _ _ (λ fs. LooseOutcome p index initiating v fs)
      (λ fs. Either (index == 1) (LooseOutcome p index successful v fs) (LooseOutcome p index unsuccessful v fs)) _ _
      (λ g2. loose_outcome p index initiating v g2)
      (λ g2. by_test (index == 1) _ _ (λ fs. LooseOutcome p index successful v fs) (λ fs. LooseOutcome p index unsuccessful v fs) _ _
      (λ g3. loose_outcome p index successful v g3) (λ g3. loose_outcome p index unsuccessful v g3) g2) g)
      (λ g. loose_body p others index code v g) h

  loose_outcome : (p : Path) (index : ℕ) (o : Outcome) (v : Value) → HasOutcome p index o v
      → LooseOutcome p index o v (outcome_fields p index o v)
  loose_outcome p index no_outcome v h = (h, refl)
  loose_outcome p index (outcome t) v h =
      let q = fields.outcome index ∷ p in loose_open p q (Loose q t v) (layout q t v) (loose_layout q t v h.0) h.1
