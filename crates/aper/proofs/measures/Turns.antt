-- One more part of a value that was measured.
use Rattle.std.proofs.Common.{◌≡◌, ℕ, suc, Bool, true, false, List, [], ◌∷◌, ◌++◌, length, Option, Some, None, refl, ap}
use Rattle.asn1_syntax.specs.declared.types.definition.Size.{Size}
use Rattle.asn1_syntax.specs.declared.types.definition.Component.{Component}
use Rattle.aper_defs.specs.Trees.{Tree, sequence, sequence_of}
use Rattle.aper_defs.specs.Values.{Value, components, list, value_count, each_from, has_options}
use Rattle.aper_defs.specs.Fields.{Path, Field}
use Rattle.aper_defs.specs.Fields as fields
use Rattle.aper_defs.specs.Bits.{open_fields}
use Rattle.aper_defs.specs.Parts.{extension_fields, count_fields}
use Rattle.aper_defs.specs.Layouts.{layout, raw_fields, raw_additions, flag_fields, mark_fields, component_fields, addition_fields}
use Rattle.aper_defs.specs.Membership.{Has, HasComponents, HasAdditions, AreAdditions, FitsOpen, IsRaw, AreRaw, EachFrom, is_count_of}
use Rattle.aper_values.specs.types.Types.{parts_of}
use Rattle.aper_values.specs.declared.value.Value.{Value as CodeValue}
use Rattle.aper_values.specs.Views.{view, values_view, options_view}
use Rattle.aper_fields.specs.widths.Ends.{end_of, passed, Ends}
use Rattle.aper_fields.proofs.widths.EndLemmas.{ends_both, ends_at}
use Rattle.aper.specs.measuring.Heads.{optional_count}
use Rattle.aper.specs.measuring.Measured.{Measured, ValueMeasured, Fitted, OpenMeasured, RawMeasured, ComponentsMeasured, AdditionsMeasured, MembersMeasured}
use Rattle.aper.proofs.measuring.HeadLemmas.{flags_end}

-- a part, and what comes after it
pub both_measured : (A B : Path → Type 0) (F G : Path → List Field) (old mid : ℕ) (r : Option ℕ) → Measured A F old (Some mid)
    → Measured B G mid r → Measured (λ p. A p × B p) (λ p. F p ++ G p) old r
both_measured A B F G old mid None a b = λ p h. b p h.1
both_measured A B F G old mid (Some new) a b = (λ p. (a.0 p, b.0 p), ends_both old mid new F G a.1 b.1)

-- ---- on the way to a value inside
pub value_at : (step : Path → Path) (t : Tree) (v : Value) (old : ℕ) (r : Option ℕ) → ValueMeasured t v old r
    → Measured (λ p. Has (step p) t v) (λ p. layout (step p) t v) old r
value_at step t v old None h = λ p k. h (step p) k
value_at step t v old (Some new) h = (λ p. h.0 (step p), λ p rest. h.1 (step p) rest)

pub open_at : (step : Path → Path) (t : Tree) (v : Value) (old : ℕ) (r : Option ℕ) → OpenMeasured t v old r
    → Measured (λ p. Has (step p) t v × FitsOpen (step p) (layout (step p) t v)) (λ p. open_fields p (step p) (layout (step p) t v)) old r
open_at step t v old None h = λ p k. h (step p) k.0 k.1
open_at step t v old (Some new) h = (λ p. h.0 (step p), λ p rest. h.1 p (step p) rest)

pub raw_at : (step : Path → Path) (v : Value) (old : ℕ) (r : Option ℕ) → RawMeasured v old r
    → Measured (λ p. IsRaw v) (λ p. raw_fields p (step p) v) old r
raw_at step v old None h = λ p k. h k
raw_at step v old (Some new) h = (λ p. h.0, λ p rest. h.1 p (step p) rest)

-- ---- open types
pub open_wrong : (t : Tree) (v : Value) (old : ℕ) → ValueMeasured t v 0 None → OpenMeasured t v old None
open_wrong t v old h = λ inside k fits. h inside k

pub open_measured : (t : Tree) (v : Value) (contents old : ℕ) (r : Option ℕ) → ValueMeasured t v 0 (Some contents)
    → ((inside : Path) (fs : List Field) → end_of 0 fs ≡ contents → Fitted inside fs old r) → OpenMeasured t v old r
open_measured t v contents old None h f = λ inside k fits.
    f inside (layout inside t v) (ends_at 0 contents (λ p. layout p t v) inside h.1) fits
open_measured t v contents old (Some new) h f =
    let there = λ (inside : Path). f inside (layout inside t v) (ends_at 0 contents (λ p. layout p t v) inside h.1) in
    (λ inside. (h.0 inside, (there inside).0), λ p inside rest. (there inside).1 p rest)

module _ (of : ℕ → Tree) where
  -- ---- components
  pub component_absent : (c : Component) (parts : List Component) (vs : List (Option CodeValue)) (old : ℕ) (r : Option ℕ) → c.optional ≡ true
      → ComponentsMeasured of parts vs old r → ComponentsMeasured of (c ∷ parts) (None ∷ vs) old r
  unfolding HasComponents component_fields
  component_absent c parts vs old None e more = λ p h. more p h.1
  component_absent c parts vs old (Some new) e more = (λ p. (e, more.0 p), more.1)

  pub component_missing : (c : Component) (parts : List Component) (vs : List (Option CodeValue)) (old : ℕ) → c.optional ≡ false
      → ComponentsMeasured of (c ∷ parts) (None ∷ vs) old None
  unfolding HasComponents
  component_missing c parts vs old e p h = let k : c.optional ≡ true = h.0 in let both : ⊥ = cc in both

  pub component_present : (c : Component) (parts : List Component) (v : CodeValue) (vs : List (Option CodeValue)) (old mid : ℕ) (r : Option ℕ)
      → ValueMeasured (of c.definition.number) (view v) old (Some mid) → ComponentsMeasured of parts vs mid r
      → ComponentsMeasured of (c ∷ parts) (Some v ∷ vs) old r
  unfolding HasComponents component_fields
  component_present c parts v vs old mid r here more =
      both_measured (λ p. Has (fields.component c.name ∷ p) (of c.definition.number) (view v))
      (λ p. HasComponents p (parts_of of parts) (options_view vs))
      (λ p. layout (fields.component c.name ∷ p) (of c.definition.number) (view v))
      (λ p. component_fields p (parts_of of parts) (options_view vs)) old mid r
      (value_at (λ p. fields.component c.name ∷ p) (of c.definition.number) (view v) old (Some mid) here) more

  pub component_wrong : (c : Component) (parts : List Component) (v : CodeValue) (vs : List (Option CodeValue)) (old : ℕ)
      → ValueMeasured (of c.definition.number) (view v) old None → ComponentsMeasured of (c ∷ parts) (Some v ∷ vs) old None
  unfolding HasComponents
  component_wrong c parts v vs old here p h = here (fields.component c.name ∷ p) h.0

  pub components_none : (old : ℕ) → ComponentsMeasured of [] [] old (Some old)
  unfolding HasComponents component_fields
  components_none old = (λ p. tt, λ p rest. refl)

  -- as many places as components
  pub components_count : (p : Path) (parts : List Component) (vs : List (Option CodeValue))
      → HasComponents p (parts_of of parts) (options_view vs) → length parts ≡ length vs
  unfolding HasComponents
  components_count p [] [] h = refl
  components_count p [] (None ∷ vs) h = absurd h
  components_count p [] (Some v ∷ vs) h = absurd h
  components_count p (c ∷ parts) [] h = absurd h
  components_count p (c ∷ parts) (None ∷ vs) h = ap suc (components_count p parts vs h.1)
  components_count p (c ∷ parts) (Some v ∷ vs) h = ap suc (components_count p parts vs h.1)

  -- ---- additions: named ones, and those past them
  pub addition_present : (c : Component) (parts : List Component) (v : CodeValue) (vs : List (Option CodeValue)) (old mid : ℕ) (r : Option ℕ)
      → OpenMeasured (of c.definition.number) (view v) old (Some mid) → AdditionsMeasured of parts vs mid r
      → AdditionsMeasured of (c ∷ parts) (Some v ∷ vs) old r
  unfolding HasAdditions addition_fields
  addition_present c parts v vs old mid None here more = λ p h. more p h.2
  addition_present c parts v vs old mid (Some new) here more = (
    λ p. ((here.0 (fields.component c.name ∷ p)).0, (here.0 (fields.component c.name ∷ p)).1, more.0 p),
    ends_both old mid new
        (λ p. open_fields p (fields.component c.name ∷ p) (layout (fields.component c.name ∷ p) (of c.definition.number) (view v)))
        (λ p. addition_fields p (parts_of of parts) (options_view vs)) (λ p. here.1 p (fields.component c.name ∷ p)) more.1,
  )

  pub addition_wrong : (c : Component) (parts : List Component) (v : CodeValue) (vs : List (Option CodeValue)) (old : ℕ)
      → OpenMeasured (of c.definition.number) (view v) old None → AdditionsMeasured of (c ∷ parts) (Some v ∷ vs) old None
  unfolding HasAdditions
  addition_wrong c parts v vs old here p h = here (fields.component c.name ∷ p) h.0 h.1

  pub unknown_present : (v : CodeValue) (vs : List (Option CodeValue)) (old mid : ℕ) (r : Option ℕ) → RawMeasured (view v) old (Some mid)
      → AdditionsMeasured of [] vs mid r → AdditionsMeasured of [] (Some v ∷ vs) old r
  unfolding HasAdditions addition_fields
  unknown_present v vs old mid r here more =
      both_measured (λ p. IsRaw (view v)) (λ p. AreRaw (options_view vs)) (λ p. raw_fields p p (view v)) (λ p. raw_additions p (options_view vs))
      old mid r (raw_at (λ p. p) (view v) old (Some mid) here) more

  pub unknown_wrong : (v : CodeValue) (vs : List (Option CodeValue)) (old : ℕ) → RawMeasured (view v) old None
      → AdditionsMeasured of [] (Some v ∷ vs) old None
  unfolding HasAdditions
  unknown_wrong v vs old here p h = here h.0

  pub addition_absent : (c : Component) (parts : List Component) (vs : List (Option CodeValue)) (old : ℕ) (r : Option ℕ)
      → AdditionsMeasured of parts vs old r → AdditionsMeasured of (c ∷ parts) (None ∷ vs) old r
  unfolding HasAdditions addition_fields
  addition_absent c parts vs old r more = more

  pub unknown_absent : (vs : List (Option CodeValue)) (old : ℕ) (r : Option ℕ) → AdditionsMeasured of [] vs old r
      → AdditionsMeasured of [] (None ∷ vs) old r
  unfolding HasAdditions addition_fields
  unknown_absent vs old r more = more

  pub additions_none : (parts : List Component) (old : ℕ) → AdditionsMeasured of parts [] old (Some old)
  unfolding HasAdditions addition_fields
  additions_none [] old = (λ p. tt, λ p rest. refl)
  additions_none (c ∷ parts) old = (λ p. tt, λ p rest. refl)

  -- ---- a SEQUENCE
  module _ (e : Bool) (parts additions : List Component) (vs more : List (Option CodeValue)) where
    abbrev type : Tree
    type = sequence e (parts_of of parts) (parts_of of additions)

    abbrev whole : Value
    whole = components (options_view vs) (options_view more)

    pub additions_wrong : (old : ℕ) → (AreAdditions e (options_view more) → ⊥) → ValueMeasured type whole old None
    unfolding Has
    additions_wrong old h p k = h k.1

    pub components_wrong : (old place : ℕ) → ComponentsMeasured of parts vs place None → ValueMeasured type whole old None
    unfolding Has
    components_wrong old place h p k = h p k.0

    pub sequence_measured : (a b c d f : ℕ) (r : Option ℕ) → Ends a b (λ p. extension_fields p e (has_options (options_view more)))
        → c ≡ passed b (optional_count parts) → ComponentsMeasured of parts vs c (Some d) → Ends d f (λ p. mark_fields p (options_view more))
        → AreAdditions e (options_view more) → AdditionsMeasured of additions more f r → ValueMeasured type whole a r
    unfolding Has layout
    sequence_measured a b c d f None one two three four few last = λ p k. last p k.2
    sequence_measured a b c d f (Some g) one two three four few last = (
      λ p. (three.0 p, few, last.0 p),
      ends_both a b g (λ q. extension_fields q e (has_options (options_view more)))
          (λ q. flag_fields q (parts_of of parts) (options_view vs) ++ (component_fields q (parts_of of parts) (options_view vs)
          ++ (mark_fields q (options_view more) ++ addition_fields q (parts_of of additions) (options_view more)))) one
          (ends_both b c g (λ q. flag_fields q (parts_of of parts) (options_view vs))
          (λ q. component_fields q (parts_of of parts) (options_view vs) ++ (mark_fields q (options_view more)
          ++ addition_fields q (parts_of of additions) (options_view more))) (flags_end of parts vs b c three.0 two)
          (ends_both c d g (λ q. component_fields q (parts_of of parts) (options_view vs))
          (λ q. mark_fields q (options_view more) ++ addition_fields q (parts_of of additions) (options_view more)) three.1
          (ends_both d f g (λ q. mark_fields q (options_view more)) (λ q. addition_fields q (parts_of of additions) (options_view more)) four last.1))),
    )

-- ---- members
module _ (t : Tree) where
  pub member_next : (v : CodeValue) (vs : List CodeValue) (old mid : ℕ) (r : Option ℕ) → ValueMeasured t (view v) old (Some mid)
      → MembersMeasured t vs mid r → MembersMeasured t (v ∷ vs) old r
  member_next v vs old mid r here more first =
      both_measured (λ p. Has (fields.member first ∷ p) t (view v))
      (λ p. EachFrom (λ i w. Has (fields.member i ∷ p) t w) (suc first) (values_view vs))
      (λ p. layout (fields.member first ∷ p) t (view v))
      (λ p. each_from (λ i w. layout (fields.member i ∷ p) t w) (suc first) (values_view vs)) old mid r
      (value_at (λ p. fields.member first ∷ p) t (view v) old (Some mid) here) (more (suc first))

  pub member_wrong : (v : CodeValue) (vs : List CodeValue) (old : ℕ) → ValueMeasured t (view v) old None
      → MembersMeasured t (v ∷ vs) old None
  member_wrong v vs old here first p h = here (fields.member first ∷ p) h.0

  pub members_none : (old : ℕ) → MembersMeasured t [] old (Some old)
  members_none old first = (λ p. tt, λ p rest. refl)

  pub list_measured : (size : Option Size) (vs : List CodeValue) (old mid : ℕ) (r : Option ℕ)
      → is_count_of (Some 16383) size (value_count (values_view vs)) ≡ true
      → Ends old mid (λ p. count_fields p size (value_count (values_view vs))) → MembersMeasured t vs mid r
      → ValueMeasured (sequence_of size t) (list (values_view vs)) old r
  unfolding Has layout
  list_measured size vs old mid r counted ends members =
      both_measured (λ p. is_count_of (Some 16383) size (value_count (values_view vs)) ≡ true)
      (λ p. EachFrom (λ i w. Has (fields.member i ∷ p) t w) 0 (values_view vs))
      (λ p. count_fields p size (value_count (values_view vs)))
      (λ p. each_from (λ i w. layout (fields.member i ∷ p) t w) 0 (values_view vs)) old mid r (λ p. counted, ends) (members 0)

  pub list_wrong : (size : Option Size) (vs : List CodeValue) (old : ℕ) → is_count_of (Some 16383) size (value_count (values_view vs)) ≡ false
      → ValueMeasured (sequence_of size t) (list (values_view vs)) old None
  unfolding Has
  list_wrong size vs old e p h = let k : is_count_of (Some 16383) size (value_count (values_view vs)) ≡ true = h.0 in let both : ⊥ = cc in both
