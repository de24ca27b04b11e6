-- CHOICE, lists, information elements and messages.
use Rattle.std.proofs.Common.{◌≡◌, ℕ, zero, suc, ◌+◌, ◌-◌, ◌<◌, ◌≤◌, Bool, true, false, cond, ◌==◌, nat_lt, List, ◌∷◌, ◌++◌, length, Option, Some, None, refl, sym, subst, ◌∙◌, arith, length-append}
use Rattle.asn1_syntax.specs.declared.types.definition.Size.{Size}
use Rattle.serde_json.specs.Data.{Data, array, item, no_items, Members, member}
use Rattle.aper_defs.specs.Trees.{part_count, Slot, slots, slots_left}
use Rattle.aper_defs.specs.Fields.{Path}
use Rattle.aper_defs.specs.Fields as ways
use Rattle.aper_defs.specs.Values.{Value, Values, Ies, chosen, list, elements, message, no_values, value, no_ies, ie}
use Rattle.aper_defs.specs.Membership.{Either, IsRaw, EachFrom, AreElements, Has, HasAlternative, HasAdded, HasRow, HasBody, HasOutcome}
use Rattle.json_defs.specs.Named.{Named, NamedParts, NamedRows, NamedProcedures, NamedOutcome, choice, sequence_of, container, pdu, no_parts, part, no_rows, row, no_procedures, procedure, no_outcome, outcome, tree_of, parts_of, rows_of, procedures_of, outcome_of}
use Rattle.json_defs.specs.Members.{Text, place_in, dots, id_key, criticality_key, code_key, criticality_in, outcomes}
use Rattle.json_defs.specs.Shown.{count_of, names_of, ShowsPast, IsPlaced, EachShown, EachElement, IsObject, HasNatural, HasCriticality, element_keys, Shows, ShowsPart, ShowsRow, ShowsBody, ShowsOutcome}
use Rattle.proof_json.proofs.values.Holding.{apart, by_cases, either_is}
use Rattle.proof_json.proofs.values.Words.{below, not_below, is_at_most}
use Rattle.proof_json.proofs.choices.Places.{names_count, parts_count}
use Rattle.proof_json.proofs.choices.Bodies.{HasKnown, HasFitting}
use Rattle.json_defs.specs.shown_defs.Names.{AreKeys}
use Rattle.json_defs.specs.shown_defs.Printed.{natural_shown, raw_shown, name_at, one_member, past_shown, criticality_shown, body_shown, known_shown, items_shown, elements_shown, shown_as, part_shown, row_shown, contents_shown, outcome_shown}
use Rattle.proof_json.proofs.shown.Words.{IsSound, other_here, others_differ, not_placed, place_of, past_root, raw_read}
use Rattle.proof_json.proofs.shown.Sequences.{AreSound}

-- ---- CHOICE
alternative_read : (p : Path) (parts : NamedParts) → AreSound parts → (i : ℕ) (v : Value) → HasAlternative p (parts_of parts) i v
    → ShowsPart parts (part_shown parts i v) i v
unfolding HasAlternative parts_of ShowsPart part_shown
alternative_read p no_parts s i v h = absurd h
alternative_read p (part name optional t others) s zero v h = s.0 (ways.component name ∷ p) v h
alternative_read p (part name optional t others) s (suc i) v h = alternative_read p others s.1 i v h

addition_read : (p : Path) (parts : NamedParts) → AreSound parts → (i : ℕ) (v : Value) → i < count_of parts
    → HasAdded p (parts_of parts) i v → ShowsPart parts (part_shown parts i v) i v
unfolding HasAdded parts_of ShowsPart part_shown
addition_read p no_parts s i v lt h = absurd (omega (arith, lt))
addition_read p (part name optional t others) s zero v lt h = s.0 (ways.component name ∷ p) v h.0
addition_read p (part name optional t others) s (suc i) v lt h = addition_read p others s.1 i v (omega (arith, lt)) h

-- past those with names
past_is_raw : (p : Path) (parts : NamedParts) (i : ℕ) (v : Value) → count_of parts ≤ i → HasAdded p (parts_of parts) i v → IsRaw v
unfolding HasAdded parts_of
past_is_raw p no_parts i v past h = h
past_is_raw p (part name optional t others) zero v past h = absurd (omega (arith, past))
past_is_raw p (part name optional t others) (suc i) v past h = past_is_raw p others i v (omega (arith, past)) h

placed : (o : Option ℕ) (i : ℕ) (Known Past : Type 0) → o ≡ Some i → Known → IsPlaced o i Known Past
placed o i Known Past e k = subst (λ (x : Option ℕ). IsPlaced x i Known Past) (sym e) (refl, k)

past_all : (o : Option ℕ) (i : ℕ) (Known Past : Type 0) → o ≡ None → Past → IsPlaced o i Known Past
past_all o i Known Past e k = subst (λ (x : Option ℕ). IsPlaced x i Known Past) (sym e) k

module _ (root additions : NamedParts) (r : AreSound root) (a : AreSound additions)
    (k : AreKeys (names_of root ++ names_of additions)) where
  abbrev names : List Text
  names = names_of root ++ names_of additions

  abbrev known : ℕ
  known = count_of root + count_of additions

  names_known : length names ≡ known
  names_known = omega (arith, length-append (names_of root) (names_of additions), names_count root, names_count additions)

  module _ (p : Path) (i : ℕ) (v : Value) where
    abbrev HasOne : ℕ → Type 0
    HasOne count = Either (nat_lt i count) (HasAlternative p (parts_of root) i v) (HasAdded p (parts_of additions) (i - count) v)

    abbrev ShowsOne : Data → Type 0
    ShowsOne d = Either (nat_lt i (count_of root)) (ShowsPart root d i v) (ShowsPart additions d (i - count_of root) v)

    one_read : i < known → HasOne (count_of root)
        → ShowsOne (cond (nat_lt i (count_of root)) (part_shown root i v) (part_shown additions (i - count_of root) v))
    one_read lt =
        by_cases (nat_lt i (count_of root))
        (λ b. Either b (HasAlternative p (parts_of root) i v) (HasAdded p (parts_of additions) (i - count_of root) v)
        → Either b (ShowsPart root (cond b (part_shown root i v) (part_shown additions (i - count_of root) v)) i v)
        (ShowsPart additions (cond b (part_shown root i v) (part_shown additions (i - count_of root) v)) (i - count_of root) v))
        (λ e h. alternative_read p root r i v h)
        (λ e h. let past = not_below i (count_of root) e in
        addition_read p additions a (i - count_of root) v (omega (arith, past, lt)) h)

    rest_is_raw : known ≤ i → HasOne (count_of root) → IsRaw v
    rest_is_raw past =
        by_cases (nat_lt i (count_of root))
        (λ b. Either b (HasAlternative p (parts_of root) i v) (HasAdded p (parts_of additions) (i - count_of root) v) → IsRaw v)
        (λ e h. absurd (omega (arith, below i (count_of root) e, past)))
        (λ e h. past_is_raw p additions (i - count_of root) v (omega (arith, past)) h)

  pub choice_read : (extensible : Bool) → IsSound (choice extensible root additions)
  unfolding Has Shows shown_as tree_of
  choice_read extensible p (chosen i v) h =
      let has : HasOne p i v (count_of root) = subst (λ (n : ℕ). HasOne p i v n) (parts_count root) h.1 in
      let one : Data = cond (nat_lt i (count_of root)) (part_shown root i v) (part_shown additions (i - count_of root) v) in
      by_cases (nat_lt i known)
      (λ b. Shows (choice extensible root additions) (cond b (one_member (name_at names i) one) (past_shown (i - known) v)) (chosen i v))
      (λ e. let lt : i < known = below i known e in
      placed (place_in names (name_at names i) 0) i _ _
      (place_of names i (others_differ dots names k) (omega (arith, lt, names_known))) (one_read p i v lt has))
      (λ e. let past : known ≤ i = not_below i known e in
      past_all (place_in names dots 0) i _ _ (not_placed dots names 0 (other_here dots names k)) (
        (
          past_root extensible (part_count (parts_of root)) i h.0 (omega (arith, past, parts_count root)),
          refl,
          is_at_most known i past,
        ),
        (refl, raw_read v (rest_is_raw p i v past has)),
      ))
  choice_read extensible p v h = absurd h

-- ---- SEQUENCE OF
module _ (t : Named) (s : IsSound t) (p : Path) where
  each_read : (i : ℕ) (vs : Values) → EachFrom (λ j v. Has (ways.member j ∷ p) (tree_of t) v) i vs
      → EachShown (λ d v. Shows t d v) (items_shown (λ v. shown_as t v) vs) vs
  each_read i no_values h = tt
  each_read i (value v vs) h = (s (ways.member i ∷ p) v h.0, each_read (suc i) vs h.1)

pub list_read : (size : Option Size) (t : Named) → IsSound t → IsSound (sequence_of size t)
unfolding Has Shows shown_as tree_of
list_read size t s p (list vs) h = each_read t s p 0 vs h.1
list_read size t s p v h = absurd h

-- ---- what an information element and a message have beside their contents
criticality_is : (criticality : ℕ) → criticality ≤ 2 → criticality_in (criticality_shown criticality) ≡ Some criticality
criticality_is zero h = refl
criticality_is (suc zero) h = refl
criticality_is (suc (suc zero)) h = refl
criticality_is (suc (suc (suc n))) h = absurd (omega (arith, h))

-- information elements
abbrev pub AreRowsSound : NamedRows → Type 0
AreRowsSound no_rows = Unit {0}
AreRowsSound (row id mandatory t others) = IsSound t × AreRowsSound others

abbrev element_members : Data → Data → Members → Members
element_members c n contents = member criticality_key c (member id_key n contents)

row_read : (p : Path) (c n : Data) (rows : NamedRows) → AreRowsSound rows → (id : ℕ) (v : Value) → HasRow p (rows_of rows) id v
    → ShowsRow rows id (element_members c n (row_shown rows id v)) v
unfolding HasRow rows_of ShowsRow row_shown
row_read p c n no_rows s id v h = (raw_read v h, refl)
row_read p c n (row other mandatory t others) s id v h =
    by_cases (other == id)
    (λ b. Either b (HasFitting (ways.element id ∷ p) t v) (HasRow p (rows_of others) id v)
    → Either b (HasKnown element_keys (element_members c n (cond b (known_shown (shown_as t v)) (row_shown others id v))) t v)
    (ShowsRow others id (element_members c n (cond b (known_shown (shown_as t v)) (row_shown others id v))) v))
    (λ e g. (s.0 (ways.element id ∷ p) v g.0, refl)) (λ e g. row_read p c n others s.1 id v g) h

module _ (rows : NamedRows) (s : AreRowsSound rows) (p : Path) (known : List Slot) where
  elements_read : (left : List Slot) (ies : Ies) → AreElements known (λ id v. HasRow p (rows_of rows) id v) left ies
      → EachElement (λ id ms v. ShowsRow rows id ms v) (elements_shown (λ id v. row_shown rows id v) ies) ies
  elements_read left no_ies h = tt
  elements_read left (ie id criticality v others) h = (
    refl,
    criticality_is criticality h.1,
    row_read p (criticality_shown criticality) (natural_shown id) rows s id v h.2,
    elements_read (slots_left known id left) others h.4,
  )

pub container_read : (rows : NamedRows) → AreRowsSound rows → IsSound (container rows)
unfolding Has Shows shown_as tree_of
container_read rows s p (elements ies) h = elements_read rows s p (slots (rows_of rows)) (slots (rows_of rows)) ies h.1
container_read rows s p v h = absurd h

-- ---- messages
abbrev pub IsOutcomeSound : NamedOutcome → Type 0
IsOutcomeSound no_outcome = Unit {0}
IsOutcomeSound (outcome t) = IsSound t

abbrev pub AreProceduresSound : NamedProcedures → Type 0
AreProceduresSound no_procedures = Unit {0}
AreProceduresSound (procedure code initiating successful unsuccessful others) =
    IsOutcomeSound initiating × IsOutcomeSound successful × IsOutcomeSound unsuccessful × AreProceduresSound others

abbrev body_members : Data → Data → Members → Members
body_members c n contents = member criticality_key c (member code_key n contents)

module _ (p : Path) (c n : Data) (index : ℕ) where
  outcome_read : (o : NamedOutcome) → IsOutcomeSound o → (v : Value) → HasOutcome p index (outcome_of o) v
      → ShowsOutcome o (body_members c n (outcome_shown o v)) v
  unfolding HasOutcome outcome_of ShowsOutcome outcome_shown
  outcome_read no_outcome s v h = (raw_read v h, refl)
  outcome_read (outcome t) s v h = (s (ways.outcome index ∷ p) v h.0, refl)

  abbrev body : Members → Members
  body contents = body_members c n contents

  -- of two sorts of contents, the ones of a test
  either_read : (b : Bool) (x y : Members) (HasX HasY : Type 0) (ShowsX ShowsY : Members → Type 0)
      → (HasX → ShowsX (body x)) → (HasY → ShowsY (body y)) → Either b HasX HasY
      → Either b (ShowsX (body (cond b x y))) (ShowsY (body (cond b x y)))
  either_read true x y HasX HasY ShowsX ShowsY f g h = f h
  either_read false x y HasX HasY ShowsX ShowsY f g h = g h

  body_read : (rows : NamedProcedures) → AreProceduresSound rows → (code : ℕ) (v : Value) → HasBody p (procedures_of rows) index code v
      → ShowsBody rows (body (contents_shown rows index code v)) index code v
  unfolding HasBody procedures_of ShowsBody contents_shown
  body_read no_procedures s code v h = (raw_read v h, refl)
  body_read (procedure other initiating successful unsuccessful others) s code v h =
      let HasO = λ (o : NamedOutcome). HasOutcome p index (outcome_of o) v in
      let ShowsO = λ (o : NamedOutcome) (ms : Members). ShowsOutcome o ms v in
      let later : Members = cond (index == 1) (outcome_shown successful v) (outcome_shown unsuccessful v) in
      either_read (other == code) (cond (index == 0) (outcome_shown initiating v) later) (contents_shown others index code v)
      (Either (index == 0) (HasO initiating) (Either (index == 1) (HasO successful) (HasO unsuccessful)))
      (HasBody p (procedures_of others) index code v)
      (λ ms. Either (index == 0) (ShowsO initiating ms) (Either (index == 1) (ShowsO successful ms) (ShowsO unsuccessful ms)))
      (λ ms. ShowsBody others ms index code v)
      (either_read (index == 0) (outcome_shown initiating v) later
      (HasO initiating) (Either (index == 1) (HasO successful) (HasO unsuccessful))
      (λ ms. ShowsO initiating ms) (λ ms. Either (index == 1) (ShowsO successful ms) (ShowsO unsuccessful ms))
      (outcome_read initiating s.0 v)
      (either_read (index == 1) (outcome_shown successful v) (outcome_shown unsuccessful v) (HasO successful) (HasO unsuccessful)
      (λ ms. ShowsO successful ms) (λ ms. ShowsO unsuccessful ms)
      (outcome_read successful s.1 v) (outcome_read unsuccessful s.2 v)))
      (body_read others s.3 code v) h

outcome_place : (index : ℕ) → index < 3 → place_in outcomes (name_at outcomes index) 0 ≡ Some index
outcome_place zero h = refl
outcome_place (suc zero) h = refl
outcome_place (suc (suc zero)) h = refl
outcome_place (suc (suc (suc n))) h = absurd (omega (arith, h))

module _ (rows : NamedProcedures) (s : AreProceduresSound rows) (p : Path) (index code criticality : ℕ) (v : Value) where
  abbrev IsKnownMessage : Type 0
  IsKnownMessage = (code < 256) × (criticality ≤ 2) × HasBody p (procedures_of rows) index code v

  abbrev IsPastMessage : Type 0
  IsPastMessage = (index < 67) × (code ≡ 0) × (criticality ≡ 0) × IsRaw v

  abbrev known_body : Data
  known_body = body_shown code_key code criticality (contents_shown rows index code v)

  abbrev Inside : Data → Type 0
  Inside d = IsObject d (λ ms. HasNatural code_key ms code × HasCriticality ms criticality × ShowsBody rows ms index code v)

  known_read : nat_lt index 3 ≡ true → IsKnownMessage
      → (place_in outcomes (name_at outcomes index) 0 ≡ Some index) × Inside known_body
  known_read e h = (
    outcome_place index (below index 3 e),
    (
      refl,
      criticality_is criticality h.1,
      body_read p (criticality_shown criticality) (natural_shown code) index rows s code v h.2,
    ),
  )

  abbrev past_list : Data
  past_list = array (item (natural_shown (index - 3)) (item (raw_shown v) no_items))

  past_read : IsPastMessage → (dots ≡ dots) × ShowsPast past_list (index - 3) v × (code ≡ 0) × (criticality ≡ 0)
  past_read h = (refl, (refl, raw_read v h.3), h.1, h.2)

  message_read : Has p (tree_of (pdu rows)) (message index code criticality v)
      → Shows (pdu rows) (shown_as (pdu rows) (message index code criticality v)) (message index code criticality v)
  unfolding Has Shows shown_as tree_of
  message_read =
      by_cases (nat_lt index 3)
      (λ b. Either b IsKnownMessage IsPastMessage → Shows (pdu rows)
      (cond b (one_member (name_at outcomes index) known_body) (past_shown (index - 3) v)) (message index code criticality v))
      (λ e h. either_is (nat_lt index 3) (λ f. known_read e h) (λ f. absurd (apart (sym f ∙ e))))
      (λ e h. either_is (nat_lt index 3) (λ f. absurd (apart (sym e ∙ f))) (λ f. past_read h))

pub pdu_read : (rows : NamedProcedures) → AreProceduresSound rows → IsSound (pdu rows)
unfolding Has tree_of
pdu_read rows s p (message index code criticality body) h = message_read rows s p index code criticality body h
pdu_read rows s p v h = absurd h
