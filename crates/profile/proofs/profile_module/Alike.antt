-- A module that agrees with a form of the profile's, and another module: the other one agrees with that form exactly where both write the
-- type alike.
use Rattle.std.proofs.Common.{◌≡◌, ℕ, ◌==◌, List, [], ◌∷◌, Bool, true, false, ◌&&◌, refl, sym, ap, ◌∙◌, arith}
use Rattle.std.specs.Prelude.{Option, Some, None, not, ℤ}
use Rattle.std.proofs.lemmas.Int.{ints}
use Rattle.std.proofs.lemmas.Slice.Eq.{bytes_eq-Decides}
use Rattle.gnb_types.proofs.Choices.{both}
use Rattle.asn1_tokens.specs.Words.{is_text}
use Rattle.asn1_syntax.specs.declared.types.definition.Size.{Size}
use Rattle.asn1_syntax.specs.declared.types.definition.TypeId.{TypeId}
use Rattle.asn1_syntax.specs.declared.types.definition.Component.{Component}
use Rattle.asn1_syntax.specs.declared.types.definition.Definition.{Definition}
use Rattle.asn1_syntax.specs.declared.types.definition.Definition.TheVariants as types
use Rattle.asn1_syntax.specs.declared.assignments.assignment.IeRow.{IeRow}
use Rattle.asn1_syntax.specs.declared.assignments.assignment.ProcedureRow.{ProcedureRow}
use Rattle.asn1_syntax.specs.declared.assignments.assignment.Syntax.{Syntax}
use Rattle.asn1_defs.specs.Targets.{find_type, ie_rows, procedure_rows}
use Rattle.message_defs.specs.profile_defs.Forms.{Form, Components, ElementRows, ProcedureRows, OutcomeForm, name_of, meaning_of, boolean, integer, enumerated, bit_string, octet_string, printable_string, sequence, choice, sequence_of, container, pdu, named, no_components, component, no_elements, element, no_procedures, procedure, no_form, some_form}
use Rattle.message_defs.specs.profile_defs.Agreement.{is_same_bool, is_same_number, is_same_size, are_names, is_extended_bare, is_reject, is_mandatory, definition_at, is_form, are_components, are_additions, are_elements, are_procedures, is_outcome, is_found, has_type}
use Rattle.profile.specs.profile_module.inside.Same.{is_bare_alike, same_plain, same_elements, same_outcome, same_procedures, same_element_sets, same_procedure_sets, same_inner, same_parts, same_added, same_additions, same_type, same_found, has_same}

-- ---- what is the same is one

ap2 : {A B C : Type 0} (f : A → B → C) {a a' : A} {b b' : B} → a ≡ a' → b ≡ b' → f a b ≡ f a' b'
ap2 f {a = a} {a' = a'} {b = b} {b' = b'} p q = ap (λ x. f x b) p ∙ ap (f a') q

ap3 : {A B C D : Type 0} (f : A → B → C → D) {a a' : A} {b b' : B} {c c' : C} → a ≡ a' → b ≡ b' → c ≡ c' → f a b c ≡ f a' b' c'
ap3 f {a = a} {a' = a'} {b = b} {b' = b'} {c = c} {c' = c'} p q r = ap2 (λ x y. f x y c) p q ∙ ap (f a' b') r

ap4 : {A B C D E : Type 0} (f : A → B → C → D → E) {a a' : A} {b b' : B} {c c' : C} {d d' : D} → a ≡ a' → b ≡ b' → c ≡ c' → d ≡ d'
    → f a b c d ≡ f a' b' c' d'
ap4 f {a = a} {a' = a'} {b = b} {b' = b'} {c = c} {c' = c'} {d = d} {d' = d'} p q r s = ap3 (λ x y z. f x y z d) p q r ∙ ap (f a' b' c') s

text_same : (a b : List ℕ) → is_text a b ≡ true → a ≡ b
unfolding is_text
text_same a b h = (bytes_eq-Decides a b).0 h

bool_same : (a b : Bool) → is_same_bool a b ≡ true → a ≡ b
bool_same true true h = refl
bool_same true false h = cc
bool_same false true h = cc
bool_same false false h = refl

nat_same : (a b : ℕ) → (a == b) ≡ true → a ≡ b
nat_same a b h = grind arith

number_same : (a b : ℤ) → is_same_number a b ≡ true → a ≡ b
number_same a b h = grind (arith, ints)

size_same : (a b : Option Size) → is_same_size a b ≡ true → a ≡ b
size_same None None h = refl
size_same None (Some b) h = cc
size_same (Some a) None h = cc
size_same (Some a) (Some b) h =
    let most = both _ _ h in
    let least = both _ _ most.0 in
    ap3 (λ l u e. Some (record { low = l; high = u; extensible = e })) (nat_same a.low b.low least.0) (nat_same a.high b.high least.1) (bool_same a.extensible b.extensible most.1)

names_same : (a b : List (List ℕ)) → are_names a b ≡ true → a ≡ b
names_same [] [] h = refl
names_same [] (y ∷ b) h = cc
names_same (x ∷ a) [] h = cc
names_same (x ∷ a) (y ∷ b) h = let p = both _ _ h in ap2 (λ (n : List ℕ) (ns : List (List ℕ)). n ∷ ns) (sym (text_same y x p.0)) (names_same a b p.1)

no_end : (b : Bool) → (b && false) ≡ true → ⊥
no_end true h = cc
no_end false h = cc

bare : {T : Type 0} (extensible : Bool) (a b : Option (List T)) → is_extended_bare extensible a ≡ true → is_extended_bare extensible b ≡ is_bare_alike a b
bare true (Some []) None h = refl
bare true (Some []) (Some []) h = refl
bare true (Some []) (Some (y ∷ b)) h = refl
bare true (Some (x ∷ a)) b h = cc
bare true None b h = cc
bare false None None h = refl
bare false None (Some []) h = refl
bare false None (Some (y ∷ b)) h = refl
bare false (Some []) b h = cc
bare false (Some (x ∷ a)) b h = cc

-- ---- which forms the comparison knows: at most three stand one inside another

abbrev pub is_plain : Form → Bool
is_plain boolean = true
is_plain (integer low high) = true
is_plain (enumerated names extensible) = true
is_plain (bit_string size) = true
is_plain (octet_string size) = true
is_plain (printable_string size) = true
is_plain (named name form) = true
is_plain (sequence root additions) = false
is_plain (choice alternatives) = false
is_plain (sequence_of size form) = false
is_plain (container es) = false
is_plain (pdu ps) = false

abbrev pub are_plain_elements : ElementRows → Bool
are_plain_elements no_elements = true
are_plain_elements (element id mandatory form others) = is_plain form && are_plain_elements others

abbrev pub is_plain_outcome : OutcomeForm → Bool
is_plain_outcome no_form = true
is_plain_outcome (some_form form) = is_plain form

abbrev pub are_plain_procedures : ProcedureRows → Bool
are_plain_procedures no_procedures = true
are_plain_procedures (procedure code initiating successful unsuccessful others) =
    is_plain initiating && is_plain_outcome successful && is_plain_outcome unsuccessful && are_plain_procedures others

abbrev pub is_inner : Form → Bool
is_inner (container es) = are_plain_elements es
is_inner (pdu ps) = are_plain_procedures ps
is_inner form = is_plain form

abbrev pub are_inner : Components → Bool
are_inner no_components = true
are_inner (component name optional form others) = is_inner form && are_inner others

abbrev pub is_shallow : Form → Bool
is_shallow (sequence root additions) = are_inner root && are_inner additions
is_shallow (choice alternatives) = are_inner alternatives
is_shallow (sequence_of size form) = is_inner form
is_shallow form = is_inner form

-- ---- types with none inside

module _ (p m : Syntax) where
  boolean_alike : (a b : Option Definition) → is_form p boolean a ≡ true → is_form m boolean b ≡ same_plain a b
  unfolding is_form same_plain
  boolean_alike (Some types.Boolean) (Some types.Boolean) h = refl
  boolean_alike (Some types.Boolean) _ h = refl
  boolean_alike _ b h = cc

  integer_alike : (low high : ℤ) (a b : Option Definition) → is_form p (integer low high) a ≡ true → is_form m (integer low high) b ≡ same_plain a b
  unfolding is_form same_plain
  integer_alike low high (Some (types.Integer l u true)) b h = absurd (no_end _ h)
  integer_alike low high (Some (types.Integer l u false)) (Some (types.Integer l' u' more)) h =
      let ends = both _ _ (both _ _ h).0 in
      ap2 (λ (x y : ℤ). is_same_number x l' && is_same_number y u' && not more) (number_same low l ends.0) (number_same high u ends.1)
  integer_alike low high (Some (types.Integer l u false)) _ h = refl
  integer_alike low high _ b h = cc

  enumerated_alike : (names : List (List ℕ)) (extensible : Bool) (a b : Option Definition) → is_form p (enumerated names extensible) a ≡ true
      → is_form m (enumerated names extensible) b ≡ same_plain a b
  unfolding is_form same_plain
  enumerated_alike names extensible (Some (types.Enumerated found)) (Some (types.Enumerated other)) h =
      let parts = both _ _ h in
      ap2 (λ (x : List (List ℕ)) (y : Bool). are_names x other.root && y) (names_same names found.root parts.0) (bare extensible found.additions other.additions parts.1)
  enumerated_alike names extensible (Some (types.Enumerated found)) _ h = refl
  enumerated_alike names extensible _ b h = cc

  bits_alike : (size : Option Size) (a b : Option Definition) → is_form p (bit_string size) a ≡ true → is_form m (bit_string size) b ≡ same_plain a b
  unfolding is_form same_plain
  bits_alike size (Some (types.BitString found)) (Some (types.BitString other)) h = ap (λ (x : Option Size). is_same_size x other) (size_same size found h)
  bits_alike size (Some (types.BitString found)) _ h = refl
  bits_alike size _ b h = cc

  octets_alike : (size : Option Size) (a b : Option Definition) → is_form p (octet_string size) a ≡ true → is_form m (octet_string size) b ≡ same_plain a b
  unfolding is_form same_plain
  octets_alike size (Some (types.OctetString found)) (Some (types.OctetString other)) h = ap (λ (x : Option Size). is_same_size x other) (size_same size found h)
  octets_alike size (Some (types.OctetString found)) _ h = refl
  octets_alike size _ b h = cc

  characters_alike : (size : Option Size) (a b : Option Definition) → is_form p (printable_string size) a ≡ true
      → is_form m (printable_string size) b ≡ same_plain a b
  unfolding is_form same_plain
  characters_alike size (Some (types.PrintableString found)) (Some (types.PrintableString other)) h =
      ap (λ (x : Option Size). is_same_size x other) (size_same size found h)
  characters_alike size (Some (types.PrintableString found)) _ h = refl
  characters_alike size _ b h = cc

  named_alike : (name : List ℕ) (form : Form) (a b : Option Definition) → is_form p (named name form) a ≡ true → is_form m (named name form) b ≡ same_plain a b
  unfolding is_form same_plain
  named_alike name form (Some (types.Reference found)) (Some (types.Reference other)) h = ap (λ (x : List ℕ). is_text other x) (sym (text_same found name h))
  named_alike name form (Some (types.Reference found)) _ h = refl
  named_alike name form _ b h = cc

  plain_alike : (f : Form) (a b : Option Definition) → is_plain f ≡ true → is_form p f a ≡ true → is_form m f b ≡ same_plain a b
  plain_alike boolean a b s h = boolean_alike a b h
  plain_alike (integer low high) a b s h = integer_alike low high a b h
  plain_alike (enumerated names extensible) a b s h = enumerated_alike names extensible a b h
  plain_alike (bit_string size) a b s h = bits_alike size a b h
  plain_alike (octet_string size) a b s h = octets_alike size a b h
  plain_alike (printable_string size) a b s h = characters_alike size a b h
  plain_alike (named name form) a b s h = named_alike name form a b h
  plain_alike (sequence root additions) a b s h = cc
  plain_alike (choice alternatives) a b s h = cc
  plain_alike (sequence_of size form) a b s h = cc
  plain_alike (container es) a b s h = cc
  plain_alike (pdu ps) a b s h = cc

  -- ---- sets

  elements_alike : (es : ElementRows) (as' bs : List IeRow) → are_plain_elements es ≡ true → are_elements p es (Some as') ≡ true
      → are_elements m es (Some bs) ≡ same_elements p m as' bs
  unfolding are_elements same_elements
  elements_alike no_elements [] [] s h = refl
  elements_alike no_elements [] (b ∷ bs) s h = refl
  elements_alike no_elements (a ∷ as') bs s h = cc
  elements_alike (element id mandatory form others) [] bs s h = cc
  elements_alike (element id mandatory form others) (a ∷ as') [] s h = refl
  elements_alike (element id mandatory form others) (a ∷ as') (b ∷ bs) s h =
      let simple = both (is_plain form) (are_plain_elements others) s in
      let last = both _ (are_elements p others (Some as')) h in
      let presence = both _ (is_same_bool mandatory (is_mandatory a.presence)) last.0 in
      let type = both _ (is_form p form (definition_at p a.definition)) presence.0 in
      let first = both (a.id == id) (is_reject a.criticality) type.0 in
      ap4 (λ (i : ℕ) (x y z : Bool). b.id == i && is_reject b.criticality && x && is_same_bool y (is_mandatory b.presence) && z)
      (sym (nat_same a.id id first.0))
      (plain_alike form (definition_at p a.definition) (definition_at m b.definition) simple.0 type.1)
      (bool_same mandatory (is_mandatory a.presence) presence.1)
      (elements_alike others as' bs simple.1 last.1)

  outcome_alike : (f : OutcomeForm) (a b : Option TypeId) → is_plain_outcome f ≡ true → is_outcome p f a ≡ true → is_outcome m f b ≡ same_outcome p m a b
  unfolding is_outcome
  outcome_alike no_form None None s h = refl
  outcome_alike no_form None (Some b) s h = refl
  outcome_alike no_form (Some a) b s h = cc
  outcome_alike (some_form form) None b s h = cc
  outcome_alike (some_form form) (Some a) None s h = refl
  outcome_alike (some_form form) (Some a) (Some b) s h = plain_alike form (definition_at p a) (definition_at m b) s h

  procedures_alike : (ps : ProcedureRows) (as' bs : List ProcedureRow) → are_plain_procedures ps ≡ true → are_procedures p ps (Some as') ≡ true
      → are_procedures m ps (Some bs) ≡ same_procedures p m as' bs
  unfolding are_procedures same_procedures
  procedures_alike no_procedures [] [] s h = refl
  procedures_alike no_procedures [] (b ∷ bs) s h = refl
  procedures_alike no_procedures (a ∷ as') bs s h = cc
  procedures_alike (procedure code initiating successful unsuccessful others) [] bs s h = cc
  procedures_alike (procedure code initiating successful unsuccessful others) (a ∷ as') [] s h = refl
  procedures_alike (procedure code initiating successful unsuccessful others) (a ∷ as') (b ∷ bs) s h =
      let simple = both _ (are_plain_procedures others) s in
      let outcomes = both _ (is_plain_outcome unsuccessful) simple.0 in
      let types = both (is_plain initiating) (is_plain_outcome successful) outcomes.0 in
      let last = both _ (are_procedures p others (Some as')) h in
      let third = both _ (is_outcome p unsuccessful a.unsuccessful) last.0 in
      let second = both _ (is_outcome p successful a.successful) third.0 in
      let type = both _ (is_form p initiating (definition_at p a.initiating)) second.0 in
      let first = both (a.code == code) (is_reject a.criticality) type.0 in
      let heads = ap3 (λ (i : ℕ) (x y : Bool). b.code == i && is_reject b.criticality && x && y)
      (sym (nat_same a.code code first.0))
      (plain_alike initiating (definition_at p a.initiating) (definition_at m b.initiating) types.0 type.1)
      (outcome_alike successful a.successful b.successful types.1 second.1) in
      ap3 (λ (x y z : Bool). x && y && z) heads (outcome_alike unsuccessful a.unsuccessful b.unsuccessful outcomes.1 third.1)
      (procedures_alike others as' bs simple.1 last.1)

  element_sets_alike : (es : ElementRows) (a b : Option (List IeRow)) → are_plain_elements es ≡ true → are_elements p es a ≡ true
      → are_elements m es b ≡ same_element_sets p m a b
  unfolding are_elements
  element_sets_alike es (Some a) (Some b) s h = elements_alike es a b s h
  element_sets_alike no_elements (Some a) None s h = refl
  element_sets_alike (element id mandatory form others) (Some a) None s h = refl
  element_sets_alike no_elements None b s h = cc
  element_sets_alike (element id mandatory form others) None b s h = cc

  procedure_sets_alike : (ps : ProcedureRows) (a b : Option (List ProcedureRow)) → are_plain_procedures ps ≡ true → are_procedures p ps a ≡ true
      → are_procedures m ps b ≡ same_procedure_sets p m a b
  unfolding are_procedures
  procedure_sets_alike ps (Some a) (Some b) s h = procedures_alike ps a b s h
  procedure_sets_alike no_procedures (Some a) None s h = refl
  procedure_sets_alike (procedure code initiating successful unsuccessful others) (Some a) None s h = refl
  procedure_sets_alike no_procedures None b s h = cc
  procedure_sets_alike (procedure code initiating successful unsuccessful others) None b s h = cc

  container_alike : (es : ElementRows) (a b : Option Definition) → are_plain_elements es ≡ true → is_form p (container es) a ≡ true
      → is_form m (container es) b ≡ same_inner p m a b
  unfolding is_form same_plain same_inner
  container_alike es (Some (types.IeContainer a)) (Some (types.IeContainer b)) s h =
      element_sets_alike es (ie_rows a p.assignments) (ie_rows b m.assignments) s h
  container_alike es (Some (types.IeContainer a)) _ s h = refl
  container_alike es _ b s h = cc

  pdu_alike : (ps : ProcedureRows) (a b : Option Definition) → are_plain_procedures ps ≡ true → is_form p (pdu ps) a ≡ true
      → is_form m (pdu ps) b ≡ same_inner p m a b
  unfolding is_form same_plain same_inner
  pdu_alike ps (Some (types.Pdu a)) (Some (types.Pdu b)) s h =
      procedure_sets_alike ps (procedure_rows a p.assignments) (procedure_rows b m.assignments) s h
  pdu_alike ps (Some (types.Pdu a)) _ s h = refl
  pdu_alike ps _ b s h = cc

  -- a form with no set is that of a type with none
  plain_as_inner : (f : Form) (a b : Option Definition) → is_plain f ≡ true → is_form p f a ≡ true → same_plain a b ≡ same_inner p m a b
  unfolding is_form same_inner
  plain_as_inner boolean (Some types.Boolean) b s h = refl
  plain_as_inner boolean _ b s h = cc
  plain_as_inner (integer low high) (Some (types.Integer l u more)) b s h = refl
  plain_as_inner (integer low high) _ b s h = cc
  plain_as_inner (enumerated names extensible) (Some (types.Enumerated found)) b s h = refl
  plain_as_inner (enumerated names extensible) _ b s h = cc
  plain_as_inner (bit_string size) (Some (types.BitString found)) b s h = refl
  plain_as_inner (bit_string size) _ b s h = cc
  plain_as_inner (octet_string size) (Some (types.OctetString found)) b s h = refl
  plain_as_inner (octet_string size) _ b s h = cc
  plain_as_inner (printable_string size) (Some (types.PrintableString found)) b s h = refl
  plain_as_inner (printable_string size) _ b s h = cc
  plain_as_inner (named name form) (Some (types.Reference found)) b s h = refl
  plain_as_inner (named name form) _ b s h = cc
  plain_as_inner (sequence root additions) a b s h = cc
  plain_as_inner (choice alternatives) a b s h = cc
  plain_as_inner (sequence_of size form) a b s h = cc
  plain_as_inner (container es) a b s h = cc
  plain_as_inner (pdu ps) a b s h = cc

  plainly : (f : Form) (a b : Option Definition) → is_plain f ≡ true → is_form p f a ≡ true → is_form m f b ≡ same_inner p m a b
  plainly f a b s h = plain_alike f a b s h ∙ plain_as_inner f a b s h

  inner_alike : (f : Form) (a b : Option Definition) → is_inner f ≡ true → is_form p f a ≡ true → is_form m f b ≡ same_inner p m a b
  inner_alike (container es) a b s h = container_alike es a b s h
  inner_alike (pdu ps) a b s h = pdu_alike ps a b s h
  inner_alike boolean a b s h = plainly boolean a b s h
  inner_alike (integer low high) a b s h = plainly (integer low high) a b s h
  inner_alike (enumerated names extensible) a b s h = plainly (enumerated names extensible) a b s h
  inner_alike (bit_string size) a b s h = plainly (bit_string size) a b s h
  inner_alike (octet_string size) a b s h = plainly (octet_string size) a b s h
  inner_alike (printable_string size) a b s h = plainly (printable_string size) a b s h
  inner_alike (named name form) a b s h = plainly (named name form) a b s h
  inner_alike (sequence root additions) a b s h = cc
  inner_alike (choice alternatives) a b s h = cc
  inner_alike (sequence_of size form) a b s h = cc

  -- ---- members

  parts_alike : (cs : Components) (as' bs : List Component) → are_inner cs ≡ true → are_components p cs as' ≡ true
      → are_components m cs bs ≡ same_parts p m as' bs
  unfolding are_components same_parts
  parts_alike no_components [] [] s h = refl
  parts_alike no_components [] (b ∷ bs) s h = refl
  parts_alike no_components (a ∷ as') bs s h = cc
  parts_alike (component name optional form others) [] bs s h = cc
  parts_alike (component name optional form others) (a ∷ as') [] s h = refl
  parts_alike (component name optional form others) (a ∷ as') (b ∷ bs) s h =
      let inner = both (is_inner form) (are_inner others) s in
      let last = both _ (are_components p others as') h in
      let type = both _ (is_form p form (definition_at p a.definition)) last.0 in
      let first = both (is_text a.name name) (is_same_bool optional a.optional) type.0 in
      ap4 (λ (n : List ℕ) (y x z : Bool). is_text b.name n && is_same_bool y b.optional && x && z)
      (sym (text_same a.name name first.0))
      (bool_same optional a.optional first.1)
      (inner_alike form (definition_at p a.definition) (definition_at m b.definition) inner.0 type.1)
      (parts_alike others as' bs inner.1 last.1)

  added_alike : (cs : Components) (as' bs : List Component) → are_inner cs ≡ true → are_additions p cs (Some as') ≡ true
      → are_additions m cs (Some bs) ≡ same_added p m as' bs
  unfolding are_additions same_added
  added_alike no_components [] [] s h = refl
  added_alike no_components [] (b ∷ bs) s h = refl
  added_alike no_components (a ∷ as') bs s h = cc
  added_alike (component name optional form others) [] bs s h = cc
  added_alike (component name optional form others) (a ∷ as') [] s h = refl
  added_alike (component name optional form others) (a ∷ as') (b ∷ bs) s h =
      let inner = both (is_inner form) (are_inner others) s in
      let last = both _ (are_additions p others (Some as')) h in
      let first = both (is_text a.name name) (is_form p form (definition_at p a.definition)) last.0 in
      ap3 (λ (n : List ℕ) (x z : Bool). is_text b.name n && x && z)
      (sym (text_same a.name name first.0))
      (inner_alike form (definition_at p a.definition) (definition_at m b.definition) inner.0 first.1)
      (added_alike others as' bs inner.1 last.1)

  additions_alike : (cs : Components) (a b : Option (List Component)) → are_inner cs ≡ true → are_additions p cs a ≡ true
      → are_additions m cs b ≡ same_additions p m a b
  unfolding are_additions
  additions_alike cs (Some a) (Some b) s h = added_alike cs a b s h
  additions_alike no_components (Some a) None s h = refl
  additions_alike (component name optional form others) (Some a) None s h = refl
  additions_alike no_components None b s h = cc
  additions_alike (component name optional form others) None b s h = cc

  sequence_alike : (root additions : Components) (a b : Option Definition) → are_inner root ≡ true → are_inner additions ≡ true
      → is_form p (sequence root additions) a ≡ true → is_form m (sequence root additions) b ≡ same_type p m a b
  unfolding is_form same_plain same_inner same_type
  sequence_alike root additions (Some (types.Sequence a)) (Some (types.Sequence b)) r s h =
      let parts = both _ _ h in
      ap2 (λ (x y : Bool). x && y) (parts_alike root a.root b.root r parts.0) (additions_alike additions a.additions b.additions s parts.1)
  sequence_alike root additions (Some (types.Sequence a)) _ r s h = refl
  sequence_alike root additions _ b r s h = cc

  choice_alike : (alternatives : Components) (a b : Option Definition) → are_inner alternatives ≡ true
      → is_form p (choice alternatives) a ≡ true → is_form m (choice alternatives) b ≡ same_type p m a b
  unfolding is_form same_plain same_inner same_type
  choice_alike alternatives (Some (types.Choice a)) (Some (types.Choice b)) s h =
      let parts = both _ _ h in
      ap2 (λ (x y : Bool). x && y) (parts_alike alternatives a.root b.root s parts.0) (bare true a.additions b.additions parts.1)
  choice_alike alternatives (Some (types.Choice a)) _ s h = refl
  choice_alike alternatives _ b s h = cc

  list_alike : (size : Option Size) (form : Form) (a b : Option Definition) → is_inner form ≡ true
      → is_form p (sequence_of size form) a ≡ true → is_form m (sequence_of size form) b ≡ same_type p m a b
  unfolding is_form same_plain same_inner same_type
  list_alike size form (Some (types.SequenceOf found a)) (Some (types.SequenceOf other b)) s h =
      let parts = both _ _ h in
      ap2 (λ (x : Option Size) (y : Bool). is_same_size x other && y) (size_same size found parts.0)
      (inner_alike form (definition_at p a) (definition_at m b) s parts.1)
  list_alike size form (Some (types.SequenceOf found a)) _ s h = refl
  list_alike size form _ b s h = cc

  -- a form without members is that of a type with none
  inner_as_type : (f : Form) (a b : Option Definition) → is_inner f ≡ true → is_form p f a ≡ true → same_inner p m a b ≡ same_type p m a b
  unfolding is_form same_type
  inner_as_type boolean (Some types.Boolean) b s h = refl
  inner_as_type boolean _ b s h = cc
  inner_as_type (integer low high) (Some (types.Integer l u more)) b s h = refl
  inner_as_type (integer low high) _ b s h = cc
  inner_as_type (enumerated names extensible) (Some (types.Enumerated found)) b s h = refl
  inner_as_type (enumerated names extensible) _ b s h = cc
  inner_as_type (bit_string size) (Some (types.BitString found)) b s h = refl
  inner_as_type (bit_string size) _ b s h = cc
  inner_as_type (octet_string size) (Some (types.OctetString found)) b s h = refl
  inner_as_type (octet_string size) _ b s h = cc
  inner_as_type (printable_string size) (Some (types.PrintableString found)) b s h = refl
  inner_as_type (printable_string size) _ b s h = cc
  inner_as_type (named name form) (Some (types.Reference found)) b s h = refl
  inner_as_type (named name form) _ b s h = cc
  inner_as_type (container es) (Some (types.IeContainer set)) b s h = refl
  inner_as_type (container es) _ b s h = cc
  inner_as_type (pdu ps) (Some (types.Pdu set)) b s h = refl
  inner_as_type (pdu ps) _ b s h = cc
  inner_as_type (sequence root additions) a b s h = cc
  inner_as_type (choice alternatives) a b s h = cc
  inner_as_type (sequence_of size form) a b s h = cc

  type_alike : (f : Form) (a b : Option Definition) → is_shallow f ≡ true → is_form p f a ≡ true → is_form m f b ≡ same_type p m a b
  type_alike (sequence root additions) a b s h = let inner = both _ _ s in sequence_alike root additions a b inner.0 inner.1 h
  type_alike (choice alternatives) a b s h = choice_alike alternatives a b s h
  type_alike (sequence_of size form) a b s h = list_alike size form a b s h
  type_alike boolean a b s h = inner_alike boolean a b s h ∙ inner_as_type boolean a b s h
  type_alike (integer low high) a b s h = inner_alike (integer low high) a b s h ∙ inner_as_type (integer low high) a b s h
  type_alike (enumerated names extensible) a b s h =
      inner_alike (enumerated names extensible) a b s h ∙ inner_as_type (enumerated names extensible) a b s h
  type_alike (bit_string size) a b s h = inner_alike (bit_string size) a b s h ∙ inner_as_type (bit_string size) a b s h
  type_alike (octet_string size) a b s h = inner_alike (octet_string size) a b s h ∙ inner_as_type (octet_string size) a b s h
  type_alike (printable_string size) a b s h = inner_alike (printable_string size) a b s h ∙ inner_as_type (printable_string size) a b s h
  type_alike (named name form) a b s h = inner_alike (named name form) a b s h ∙ inner_as_type (named name form) a b s h
  type_alike (container es) a b s h = inner_alike (container es) a b s h ∙ inner_as_type (container es) a b s h
  type_alike (pdu ps) a b s h = inner_alike (pdu ps) a b s h ∙ inner_as_type (pdu ps) a b s h

  -- ---- named types

  found_alike : (f : Form) (a b : Option TypeId) → is_shallow f ≡ true → is_found p f a ≡ true → is_found m f b ≡ same_found p m a b
  found_alike f None b s h = cc
  found_alike f (Some a) None s h = refl
  found_alike f (Some a) (Some b) s h = type_alike f (definition_at p a) (definition_at m b) s h

  pub has_alike : (t : Form) → is_shallow (meaning_of t) ≡ true → has_type p t ≡ true → has_type m t ≡ has_same p m (name_of t)
  has_alike t s h = found_alike (meaning_of t) (find_type (name_of t) p.assignments) (find_type (name_of t) m.assignments) s h
