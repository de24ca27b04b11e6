-- Components, additions and alternatives by their places.
use Rattle.std.proofs.Common.{◌≡◌, ℕ, zero, suc, ◌+◌, ◌-◌, ◌<◌, ◌≤◌, Bool, true, false, List, [], ◌∷◌, length, drop, get_or, Option, Some, None, sym, subst, arith}
use Rattle.std.proofs.lemmas.List.{drop_all}
use Rattle.asn1_syntax.specs.declared.types.definition.Component.{Component}
use Rattle.aper_defs.specs.Trees.{Tree, choice}
use Rattle.aper_defs.specs.Values.{Value, chosen}
use Rattle.aper_defs.specs.Fields.{Path}
use Rattle.aper_defs.specs.Fields as fields
use Rattle.aper_defs.specs.Parts.{index_fields}
use Rattle.aper_defs.specs.Layouts.{added_fields}
use Rattle.aper_defs.specs.Membership.{HasAdded, is_index_of}
use Rattle.aper_values.specs.types.Types.{parts_of}
use Rattle.aper_values.specs.declared.value.Value.{Value as CodeValue}
use Rattle.aper_values.specs.Views.{view}
use Rattle.aper_fields.specs.widths.Ends.{Ends}
use Rattle.aper_fields.proofs.members.Turns.{item_at}
use Rattle.aper.specs.measuring.Measured.{Measured, ValueMeasured, InsideMeasured, ComponentsMeasured, AdditionsMeasured}
use Rattle.aper.proofs.measures.Turns.{open_at, raw_at, component_absent, component_missing, component_present, component_wrong, components_none, components_count, addition_present, addition_wrong, unknown_present, unknown_wrong, addition_absent, unknown_absent, additions_none}
use Rattle.aper.proofs.measures.Bodies.{added_chosen}
use Rattle.aper_fields.specs.members.Rows.{part_type}
use Rattle.aper_fields.proofs.members.Members.{further}

module _ (of : ℕ → Tree) (parts : List Component) where
  -- ---- components
  pub counts_differ : (vs : List (Option CodeValue)) (old : ℕ) → (length parts ≡ length vs → ⊥) → ComponentsMeasured of parts vs old None
  counts_differ vs old differ p h = differ (components_count of p parts vs h)

  module _ (i : ℕ) (c : Component) (less : i < length parts) (is : c ≡ get_or parts i c) where
    at_place : (x : Option CodeValue) (vs : List (Option CodeValue)) (old : ℕ) (r : Option ℕ)
        → ComponentsMeasured of (c ∷ drop (i + 1) parts) (x ∷ vs) old r → ComponentsMeasured of (drop i parts) (x ∷ vs) old r
    at_place x vs old r h = subst (λ (cs : List Component). ComponentsMeasured of cs (x ∷ vs) old r) (sym (item_at parts i c less is)) h

    pub components_absent : (vs : List (Option CodeValue)) (old : ℕ) (r : Option ℕ) → c.optional ≡ true
        → ComponentsMeasured of (drop (i + 1) parts) vs old r → ComponentsMeasured of (drop i parts) (None ∷ vs) old r
    components_absent vs old r e more = at_place None vs old r (component_absent of c (drop (i + 1) parts) vs old r e more)

    pub components_missing : (vs : List (Option CodeValue)) (old : ℕ) → c.optional ≡ false
        → ComponentsMeasured of (drop i parts) (None ∷ vs) old None
    components_missing vs old e = at_place None vs old None (component_missing of c (drop (i + 1) parts) vs old e)

    pub component_turn : (v : CodeValue) (vs : List (Option CodeValue)) (old mid : ℕ) (r : Option ℕ)
        → ValueMeasured (of c.definition.number) (view v) old (Some mid) → ComponentsMeasured of (drop (i + 1) parts) vs mid r
        → ComponentsMeasured of (drop i parts) (Some v ∷ vs) old r
    component_turn v vs old mid r here more =
        at_place (Some v) vs old r (component_present of c (drop (i + 1) parts) v vs old mid r here more)

    pub component_refused : (v : CodeValue) (vs : List (Option CodeValue)) (old : ℕ) → ValueMeasured (of c.definition.number) (view v) old None
        → ComponentsMeasured of (drop i parts) (Some v ∷ vs) old None
    component_refused v vs old here = at_place (Some v) vs old None (component_wrong of c (drop (i + 1) parts) v vs old here)

  pub components_end : (vs : List (Option CodeValue)) (i : ℕ) (old : ℕ) → length parts ≡ length vs → length vs ≤ i
      → ComponentsMeasured of (drop i parts) (drop i vs) old (Some old)
  components_end vs i old same end =
      let none : drop i parts ≡ [] = drop_all i parts (omega (arith, same, end)) in
      subst (λ (cs : List Component). ComponentsMeasured of cs (drop i vs) old (Some old)) (sym none)
      (subst (λ (ws : List (Option CodeValue)). ComponentsMeasured of [] ws old (Some old)) (sym (drop_all i vs end)) (components_none of old))

module _ (of : ℕ → Tree) where
  abbrev no_components : List Component
  no_components = []

  none_left : (i : ℕ) → drop i no_components ≡ no_components
  none_left i = drop_all i no_components (omega arith)

  -- ---- additions
  pub additions_absent : (parts : List Component) (i : ℕ) (vs : List (Option CodeValue)) (old : ℕ) (r : Option ℕ)
      → AdditionsMeasured of (drop (i + 1) parts) vs old r → AdditionsMeasured of (drop i parts) (None ∷ vs) old r
  additions_absent [] i vs old r more =
      subst (λ (cs : List Component). AdditionsMeasured of cs (None ∷ vs) old r) (sym (none_left i))
      (unknown_absent of vs old r (subst (λ (cs : List Component). AdditionsMeasured of cs vs old r) (none_left (i + 1)) more))
  additions_absent (c ∷ parts) zero vs old r more = addition_absent of c parts vs old r more
  additions_absent (c ∷ parts) (suc i) vs old r more =
      additions_absent parts i vs old r (subst (λ (cs : List Component). AdditionsMeasured of cs vs old r) (further i c parts) more)

  pub addition_turn : (parts : List Component) (i : ℕ) (v : CodeValue) (vs : List (Option CodeValue)) (old mid : ℕ) (r : Option ℕ)
      → InsideMeasured of (part_type i parts) (view v) old (Some mid) → AdditionsMeasured of (drop (i + 1) parts) vs mid r
      → AdditionsMeasured of (drop i parts) (Some v ∷ vs) old r
  addition_turn [] i v vs old mid r here more =
      subst (λ (cs : List Component). AdditionsMeasured of cs (Some v ∷ vs) old r) (sym (none_left i))
      (unknown_present of v vs old mid r here (subst (λ (cs : List Component). AdditionsMeasured of cs vs mid r) (none_left (i + 1)) more))
  addition_turn (c ∷ parts) zero v vs old mid r here more = addition_present of c parts v vs old mid r here more
  addition_turn (c ∷ parts) (suc i) v vs old mid r here more =
      addition_turn parts i v vs old mid r here (subst (λ (cs : List Component). AdditionsMeasured of cs vs mid r) (further i c parts) more)

  pub addition_refused : (parts : List Component) (i : ℕ) (v : CodeValue) (vs : List (Option CodeValue)) (old : ℕ)
      → InsideMeasured of (part_type i parts) (view v) old None → AdditionsMeasured of (drop i parts) (Some v ∷ vs) old None
  addition_refused [] i v vs old here =
      subst (λ (cs : List Component). AdditionsMeasured of cs (Some v ∷ vs) old None) (sym (none_left i)) (unknown_wrong of v vs old here)
  addition_refused (c ∷ parts) zero v vs old here = addition_wrong of c parts v vs old here
  addition_refused (c ∷ parts) (suc i) v vs old here = addition_refused parts i v vs old here

  pub additions_end : (parts : List Component) (i : ℕ) (vs : List (Option CodeValue)) (old : ℕ) → length vs ≤ i
      → AdditionsMeasured of (drop i parts) (drop i vs) old (Some old)
  additions_end parts i vs old end =
      subst (λ (ws : List (Option CodeValue)). AdditionsMeasured of (drop i parts) ws old (Some old)) (sym (drop_all i vs end))
      (additions_none of (drop i parts) old)

  -- ---- an alternative past the root
  added_measured : (parts : List Component) (i : ℕ) (v : Value) (old : ℕ) (r : Option ℕ) → InsideMeasured of (part_type i parts) v old r
      → Measured (λ p. HasAdded p (parts_of of parts) i v) (λ p. added_fields p (parts_of of parts) i v) old r
  unfolding HasAdded added_fields
  added_measured [] i v old r h = raw_at (λ p. p) v old r h
  added_measured (c ∷ parts) zero v old r h = open_at (λ p. fields.component c.name ∷ p) (of c.definition.number) v old r h
  added_measured (c ∷ parts) (suc i) v old r h = added_measured parts i v old r h

  pub addition_chosen : (e : Bool) (root additions : List Component) (i : ℕ) (v : Value) (old mid : ℕ) (r : Option ℕ) → length root ≤ i
      → is_index_of (length root) e i ≡ true → Ends old mid (λ p. index_fields p (length root) e i)
      → InsideMeasured of (part_type (i - length root) additions) v mid r
      → ValueMeasured (choice e (parts_of of root) (parts_of of additions)) (chosen i v) old r
  addition_chosen e root additions i v old mid r past is_one ends body =
      added_chosen of e root additions i v old mid r past is_one ends (added_measured additions (i - length root) v mid r body)
