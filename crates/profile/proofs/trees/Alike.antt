-- A type of a module that is written as a form of the profile has the form's tree, where each name in the form is that of a type which is
-- written as the form has it.
use Rattle.std.proofs.Common.{◌≡◌, ℕ, zero, suc, ◌<◌, ◌==◌, List, [], ◌∷◌, length, Bool, true, false, refl, sym, ap, ◌∙◌, subst, arith}
use Rattle.std.specs.Prelude.{Option, Some, None, not, option_map, slice_get, is_some, IfSome, ℤ}
use Rattle.std.proofs.lemmas.Int.{ints}
use Rattle.std.proofs.lemmas.Slice.Eq.{bytes_eq-Decides}
use Rattle.gnb_types.proofs.Choices.{both}
use Rattle.asn1_tokens.specs.Words.{is_text}
use Rattle.asn1_syntax.specs.declared.types.definition.Size.{Size}
use Rattle.asn1_syntax.specs.declared.types.definition.TypeId.{TypeId}
use Rattle.asn1_syntax.specs.declared.types.definition.Component.{Component}
use Rattle.asn1_syntax.specs.declared.types.definition.Definition.{Definition}
use Rattle.asn1_syntax.specs.declared.types.definition.Definition.TheVariants as types
use Rattle.asn1_syntax.specs.declared.types.definition.Node.{Node}
use Rattle.asn1_syntax.specs.types.Members.{additions_of}
use Rattle.asn1_syntax.specs.declared.assignments.assignment.Presence.{Presence}
use Rattle.asn1_syntax.specs.declared.assignments.assignment.Presence.TheVariants.{Mandatory, Optional}
use Rattle.asn1_syntax.specs.declared.assignments.assignment.IeRow.{IeRow}
use Rattle.asn1_syntax.specs.declared.assignments.assignment.ProcedureRow.{ProcedureRow}
use Rattle.asn1_syntax.specs.declared.assignments.assignment.Syntax.{Syntax}
use Rattle.asn1_defs.specs.Targets.{find_type, ie_rows, procedure_rows, definition_of, all_of}
use Rattle.asn1_defs.specs.Modules.{IsModule}
use Rattle.asn1_module.proofs.Facts.{type_below}
use Rattle.proof_asn1_modules.specs.ranks.Leading.{EachPart, OfOption, EachIe, EachProcedure, EachOf, Lesser}
use Rattle.proof_asn1_modules.proofs.ranks.Ranks.{rank}
use Rattle.proof_asn1_modules.proofs.ranks.Inside.{each_more, ranks_fall}
use Rattle.aper_defs.specs.Trees as trees
use Rattle.aper_values.specs.types.Types as modules
use Rattle.aper_values.specs.types.Types.{parts_of, rows_of, outcome_of, procedures_of, named_tree, definition_tree}
use Rattle.aper_values.proofs.types.TreeLaws.{tree_is}
use Rattle.message_defs.specs.profile_defs.Forms.{Form, Components, ElementRows, ProcedureRows, OutcomeForm, tree, parts, rows, procedures, outcome_tree, boolean, integer, enumerated, bit_string, octet_string, printable_string, sequence, choice, sequence_of, container, pdu, named, no_components, component, no_elements, element, no_procedures, procedure, no_form, some_form}
use Rattle.message_defs.specs.profile_defs.Agreement.{is_same_bool, is_same_number, is_same_size, are_names, is_extended_bare, is_mandatory, definition_at, is_form, are_components, are_additions, are_elements, are_procedures, is_outcome, is_found, has_type}
use Rattle.profile.specs.trees.Trees.{HasTree}

-- ---- what is the same is one
ap2 : {A B C : Type 0} (f : A → B → C) {a a' : A} {b b' : B} → a ≡ a' → b ≡ b' → f a b ≡ f a' b'
ap2 f {a = a} {a' = a'} {b = b} {b' = b'} p q = ap (λ x. f x b) p ∙ ap (f a') q

ap3 : {A B C D : Type 0} (f : A → B → C → D) {a a' : A} {b b' : B} {c c' : C} → a ≡ a' → b ≡ b' → c ≡ c' → f a b c ≡ f a' b' c'
ap3 f {a = a} {a' = a'} {b = b} {b' = b'} {c = c} {c' = c'} p q r = ap2 (λ x y. f x y c) p q ∙ ap (f a' b') r

ap4 : {A B C D E : Type 0} (f : A → B → C → D → E) {a a' : A} {b b' : B} {c c' : C} {d d' : D} → a ≡ a' → b ≡ b' → c ≡ c' → d ≡ d'
    → f a b c d ≡ f a' b' c' d'
ap4 f {a = a} {a' = a'} {b = b} {b' = b'} {c = c} {c' = c'} {d = d} {d' = d'} p q r s = ap3 (λ x y z. f x y z d) p q r ∙ ap (f a' b' c') s

ap5 : {A B C D E F : Type 0} (f : A → B → C → D → E → F) {a a' : A} {b b' : B} {c c' : C} {d d' : D} {e e' : E} → a ≡ a' → b ≡ b' → c ≡ c'
    → d ≡ d' → e ≡ e' → f a b c d e ≡ f a' b' c' d' e'
ap5 f {a = a} {a' = a'} {b = b} {b' = b'} {c = c} {c' = c'} {d = d} {d' = d'} {e = e} {e' = e'} p q r s t =
    ap4 (λ x y z w. f x y z w e) p q r s ∙ ap (f a' b' c' d') t

text_same : (a b : List ℕ) → is_text a b ≡ true → a ≡ b
unfolding is_text
text_same a b h = (bytes_eq-Decides a b).0 h

bool_same : (a b : Bool) → is_same_bool a b ≡ true → a ≡ b
bool_same true true h = refl
bool_same true false h = cc
bool_same false true h = cc
bool_same false false h = refl

not_so : (a : Bool) → not a ≡ true → a ≡ false
not_so true h = cc
not_so false h = refl

nat_same : (a b : ℕ) → (a == b) ≡ true → a ≡ b
nat_same a b h = grind arith

number_same : (a b : ℤ) → is_same_number a b ≡ true → a ≡ b
number_same a b h = grind (arith, ints)

size_same : (a b : Option Size) → is_same_size a b ≡ true → a ≡ b
size_same None None h = refl
size_same None (Some b) h = cc
size_same (Some a) None h = cc
size_same (Some a) (Some b) h =
    let most = both _ _ h in
    let least = both _ _ most.0 in
    ap3 (λ l u e. Some (record { low = l; high = u; extensible = e })) (nat_same a.low b.low least.0) (nat_same a.high b.high least.1) (bool_same a.extensible b.extensible most.1)

names_count : (a b : List (List ℕ)) → are_names a b ≡ true → length b ≡ length a
names_count [] [] h = refl
names_count [] (y ∷ b) h = cc
names_count (x ∷ a) [] h = cc
names_count (x ∷ a) (y ∷ b) h = ap (λ (n : ℕ). suc n) (names_count a b (both _ _ h).1)

extended : {T : Type 0} (extensible : Bool) (a : Option (List T)) → is_extended_bare extensible a ≡ true → is_some a ≡ extensible
extended true (Some []) h = refl
extended true (Some (x ∷ a)) h = cc
extended true None h = cc
extended false None h = refl
extended false (Some []) h = cc
extended false (Some (x ∷ a)) h = cc

bare : {T : Type 0} (a : Option (List T)) → is_extended_bare true a ≡ true → a ≡ Some []
bare (Some []) h = refl
bare (Some (x ∷ a)) h = cc
bare None h = cc

no_additions : (m : Syntax) (a : Option (List Component)) → are_additions m no_components a ≡ true → a ≡ Some []
unfolding are_additions
no_additions m (Some []) h = refl
no_additions m (Some (c ∷ cs)) h = cc
no_additions m None h = cc

mandatory_same : (p : Presence) → modules.is_mandatory p ≡ is_mandatory p
mandatory_same Mandatory = refl
mandatory_same Optional = refl

differ : (let b : Bool = false in b) ≡ true → ⊥
differ h = cc

-- ---- each name in a form is that of a type which is written as the form has it, and no SEQUENCE has additions
unfoldable mutual
  pub Known : Syntax → Form → Type 0
  Known m (named name form) = (has_type m (named name form) ≡ true) × Known m form
  Known m (sequence root no_components) = KnownParts m root
  Known m (sequence root additions) = ⊥
  Known m (choice alternatives) = KnownParts m alternatives
  Known m (sequence_of size form) = Known m form
  Known m (container elements) = KnownElements m elements
  Known m (pdu all) = KnownProcedures m all
  Known m form = Unit {0}

  pub KnownParts : Syntax → Components → Type 0
  KnownParts m no_components = Unit {0}
  KnownParts m (component name optional form others) = Known m form × KnownParts m others

  pub KnownElements : Syntax → ElementRows → Type 0
  KnownElements m no_elements = Unit {0}
  KnownElements m (element id mandatory form others) = Known m form × KnownElements m others

  pub KnownProcedures : Syntax → ProcedureRows → Type 0
  KnownProcedures m no_procedures = Unit {0}
  KnownProcedures m (procedure code initiating successful unsuccessful others) =
      (Known m initiating × (KnownOutcome m successful × KnownOutcome m unsuccessful)) × KnownProcedures m others

  pub KnownOutcome : Syntax → OutcomeForm → Type 0
  KnownOutcome m no_form = Unit {0}
  KnownOutcome m (some_form form) = Known m form

-- ---- the tree of a type, by what stands there
abbrev Below : Syntax → ℕ → Type 0
Below m n = n < length m.nodes

abbrev Steps : Syntax → Form → Type 0
Steps m form = (d : Definition) → EachOf (Below m) m.assignments d → is_form m form (Some d) ≡ true
    → definition_tree m.assignments (modules.tree m) d ≡ tree form

there : (nodes : List Node) (i : ℕ) → i < length nodes
    → option_map (λ (node : Node). node.definition) (slice_get nodes i) ≡ Some (definition_of (slice_get nodes i))
there [] i lt = absurd (omega arith)
there (node ∷ nodes) zero lt = refl
there (node ∷ nodes) (suc i) lt = there nodes i (omega arith)

at : (m : Syntax) → IsModule m → (form : Form) → Steps m form → (id : TypeId) → id.number < length m.nodes
    → is_form m form (definition_at m id) ≡ true → modules.tree m id.number ≡ tree form
at m is form step id lt h =
    tree_is m id.number is lt
    ∙ step (definition_of (slice_get m.nodes id.number))
    (each_more (Lesser m (rank m) id.number) (Below m) (λ n less. less.0) m.assignments (definition_of (slice_get m.nodes id.number))
    (ranks_fall m is id.number lt))
    (subst (λ d. is_form m form d ≡ true) (there m.nodes id.number lt) h)

named_step : (m : Syntax) → IsModule m → (form : Form) → Steps m form → (found : Option TypeId) → OfOption (Below m) found
    → is_found m form found ≡ true → named_tree (modules.tree m) found ≡ tree form
named_step m is form step None e h = absurd (differ h)
named_step m is form step (Some id) e h = at m is form step id e h

outcome_step : (m : Syntax) → IsModule m → (form : Form) → Steps m form → (found : Option TypeId) → OfOption (Below m) found
    → is_outcome m (some_form form) found ≡ true → outcome_of (modules.tree m) found ≡ outcome_tree (some_form form)
unfolding is_outcome outcome_tree
outcome_step m is form step None e h = absurd (differ h)
outcome_step m is form step (Some id) e h = ap trees.outcome (at m is form step id e h)

mutual
  unfolding Known KnownParts KnownElements KnownProcedures KnownOutcome is_form are_components are_elements are_procedures is_outcome tree parts rows procedures outcome_tree

  pub form_step : (m : Syntax) → IsModule m → (form : Form) → Known m form → (d : Definition) → EachOf (Below m) m.assignments d
      → is_form m form (Some d) ≡ true → definition_tree m.assignments (modules.tree m) d ≡ tree form
  form_step m is boolean k types.Boolean e h = refl
  form_step m is (integer low high) k (types.Integer l u extensible) e h =
      let most = both _ _ h in
      let ends = both _ _ most.0 in
      ap3 trees.integer (sym (number_same low l ends.0)) (sym (number_same high u ends.1)) (not_so extensible most.1)
  form_step m is (enumerated names extensible) k (types.Enumerated found) e h =
      let all = both _ _ h in
      ap2 trees.enumerated (names_count names found.root all.0) (extended extensible found.additions all.1)
  form_step m is (bit_string size) k (types.BitString found) e h = ap trees.bit_string (sym (size_same size found h))
  form_step m is (octet_string size) k (types.OctetString found) e h = ap trees.octet_string (sym (size_same size found h))
  form_step m is (printable_string size) k (types.PrintableString found) e h = ap trees.printable_string (sym (size_same size found h))
  form_step m is (sequence root no_components) k (types.Sequence found) e h =
      let all = both _ _ h in
      let none : found.additions ≡ Some [] = no_additions m found.additions all.1 in
      ap3 trees.sequence (ap (λ (a : Option (List Component)). is_some a) none) (parts_step m is root k found.root e.0 all.0)
      (ap (λ (a : Option (List Component)). parts_of (modules.tree m) (additions_of a)) none)
  form_step m is (sequence root (component name optional form others)) k d e h = absurd k
  form_step m is (choice alternatives) k (types.Choice found) e h =
      let all = both _ _ h in
      let none : found.additions ≡ Some [] = bare found.additions all.1 in
      ap3 trees.choice (ap (λ (a : Option (List Component)). is_some a) none) (parts_step m is alternatives k found.root e.0 all.0)
      (ap (λ (a : Option (List Component)). parts_of (modules.tree m) (additions_of a)) none)
  form_step m is (sequence_of size form) k (types.SequenceOf found member) e h =
      let all = both _ _ h in
      ap2 trees.sequence_of (sym (size_same size found all.0)) (at m is form (form_step m is form k) member e all.1)
  form_step m is (container elements) k (types.IeContainer set) e h =
      ap trees.container (elements_step m is elements k (ie_rows set m.assignments) e h)
  form_step m is (pdu all) k (types.Pdu set) e h =
      ap trees.pdu (procedures_step m is all k (procedure_rows set m.assignments) e h)
  form_step m is (named name form) k (types.Reference found) e h =
      let same : found ≡ name = text_same found name h in
      ap (λ (n : List ℕ). named_tree (modules.tree m) (find_type n m.assignments)) same
      ∙ named_step m is form (form_step m is form k.1) (find_type name m.assignments)
      (subst (λ (n : List ℕ). OfOption (Below m) (find_type n m.assignments)) same e) k.0
  form_step m is form k d e h = absurd (differ h)

  pub parts_step : (m : Syntax) → IsModule m → (cs : Components) → KnownParts m cs → (found : List Component) → EachPart (Below m) found
      → are_components m cs found ≡ true → parts_of (modules.tree m) found ≡ parts cs
  parts_step m is no_components k [] e h = refl
  parts_step m is (component name optional form others) k (c ∷ found) e h =
      let all = both _ _ h in
      let most = both _ _ all.0 in
      let two = both _ _ most.0 in
      ap4 trees.part (text_same c.name name two.0) (sym (bool_same optional c.optional two.1))
      (at m is form (form_step m is form k.0) c.definition e.0 most.1) (parts_step m is others k.1 found e.1 all.1)
  parts_step m is cs k found e h = absurd (differ h)

  pub elements_step : (m : Syntax) → IsModule m → (es : ElementRows) → KnownElements m es → (found : Option (List IeRow))
      → EachIe (Below m) (all_of found) → are_elements m es found ≡ true → rows_of (modules.tree m) (all_of found) ≡ rows es
  elements_step m is no_elements k (Some []) e h = refl
  elements_step m is (element id mandatory form others) k (Some (row ∷ found)) e h =
      let all = both _ _ h in
      let most = both _ _ all.0 in
      let three = both _ _ most.0 in
      let two = both _ _ three.0 in
      ap4 trees.row (nat_same row.id id two.0) (mandatory_same row.presence ∙ sym (bool_same mandatory (is_mandatory row.presence) most.1))
      (at m is form (form_step m is form k.0) row.definition e.0 three.1) (elements_step m is others k.1 (Some found) e.1 all.1)
  elements_step m is es k found e h = absurd (differ h)

  pub procedures_step : (m : Syntax) → IsModule m → (ps : ProcedureRows) → KnownProcedures m ps → (found : Option (List ProcedureRow))
      → EachProcedure (Below m) (all_of found) → are_procedures m ps found ≡ true
      → procedures_of (modules.tree m) (all_of found) ≡ procedures ps
  procedures_step m is no_procedures k (Some []) e h = refl
  procedures_step m is (procedure code initiating successful unsuccessful others) k (Some (row ∷ found)) e h =
      let all = both _ _ h in
      let five = both _ _ all.0 in
      let four = both _ _ five.0 in
      let three = both _ _ four.0 in
      let two = both _ _ three.0 in
      ap5 trees.procedure (nat_same row.code code two.0)
      (ap trees.outcome (at m is initiating (form_step m is initiating k.0.0) row.initiating e.0.0 three.1))
      (outcomes_step m is successful k.0.1.0 row.successful e.0.1 four.1)
      (outcomes_step m is unsuccessful k.0.1.1 row.unsuccessful e.0.2 five.1)
      (procedures_step m is others k.1 (Some found) e.1 all.1)
  procedures_step m is ps k found e h = absurd (differ h)

  pub outcomes_step : (m : Syntax) → IsModule m → (o : OutcomeForm) → KnownOutcome m o → (found : Option TypeId) → OfOption (Below m) found
      → is_outcome m o found ≡ true → outcome_of (modules.tree m) found ≡ outcome_tree o
  outcomes_step m is no_form k None e h = refl
  outcomes_step m is (some_form form) k found e h = outcome_step m is form (form_step m is form k) found e h
  outcomes_step m is o k found e h = absurd (differ h)

-- ---- so a name has the tree of its form
pub has_tree : (m : Syntax) → IsModule m → (name : List ℕ) (form : Form) → Known m (named name form) → HasTree m (named name form)
unfolding Known tree
has_tree m is name form k = by (find_type name m.assignments) refl k.0
  where
    by : (found : Option TypeId) → find_type name m.assignments ≡ found → is_found m form found ≡ true → HasTree m (named name form)
    by None e h = absurd (differ h)
    by (Some id) e h =
        let lt : id.number < length m.nodes = subst (λ (o : Option TypeId). IfSome o (λ i. i.number < length m.nodes)) e
        (type_below (length m.nodes) name m.assignments is.linked.assignments) in
        record { id = id; named = e; inside = lt; is = at m is form (form_step m is form k.1) id lt h }
