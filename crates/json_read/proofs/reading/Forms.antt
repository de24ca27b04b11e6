-- Forms of types: their bounds, and what JSON shows of a type by its form.
use Rattle.std.proofs.Common.{◌≡◌, ℕ, suc, ◌≤◌, List, [], ◌∷◌, length, Bool, true, false, cond, Option, Some, None, Result, Ok, Err, refl, sym, ap, subst, arith}
use Rattle.serde_json.specs.Data.{Data, Items}
use Rattle.asn1_syntax.specs.declared.types.definition.Component.{Component}
use Rattle.asn1_syntax.specs.types.Members.{additions_of}
use Rattle.asn1_syntax.specs.declared.assignments.assignment.Syntax.{Syntax}
use Rattle.asn1_defs.specs.Modules.{IsModule}
use Rattle.aper_defs.specs.Trees.{part_count}
use Rattle.aper_defs.specs.Bounds as trees
use Rattle.aper_defs.specs.Values.{Options, no_options}
use Rattle.aper_values.specs.types.Types.{tree, is_extensible}
use Rattle.aper_values.proofs.types.Bounded.{tree_bounded}
use Rattle.aper_values.specs.declared.value.Value.{Value}
use Rattle.aper_values.specs.Views.{view}
use Rattle.json_defs.specs.Named.{Named, tree_of, parts_of}
use Rattle.json_defs.specs.Shown.{count_of}
use Rattle.json_defs.specs.Bounds.{MayAdd, IsBounded}
use Rattle.json_defs.specs.Readings.{additions_in, value_of}
use Rattle.json_defs.specs.Demands.{demands}
use Rattle.json_defs.specs.type_defs.Types.{named, parts_with}
use Rattle.json_fields.specs.declared.types.form.NamedForm.{NamedForm}
use Rattle.json_fields.specs.declared.types.form.NamedForm.TheVariants as forms
use Rattle.json_fields.specs.types.Forms.{form_named}
use Rattle.proof_json.proofs.modules.Bounded.{bounded}
use Rattle.proof_json.proofs.modules.Forgotten.{forgotten}
use Rattle.proof_json.proofs.modules.Members.{read_has}
use Rattle.json_fields.specs.declared.simple.refusal.Refusal.{Refusal}
use Rattle.json_read.specs.wholes.Reads.{ReadsAs, HasAsked}
use Rattle.json_read.specs.reading.Inside.{IsFormSmall}

few : (extensible : Bool) (n : ℕ) → MayAdd extensible n → n ≤ 64
few true n h = h
few false n h = omega (arith, h)

module _ (of : ℕ → Named) where
  parts_count : (cs : List Component) → count_of (parts_with of cs) ≡ length cs
  parts_count [] = refl
  parts_count (c ∷ cs) = ap suc (parts_count cs)

  tree_count : (cs : List Component) → part_count (parts_of (parts_with of cs)) ≡ length cs
  unfolding parts_of
  tree_count [] = refl
  tree_count (c ∷ cs) = ap suc (tree_count cs)

  small : (form : NamedForm) → trees.IsBounded (tree_of (form_named of form)) → IsBounded (form_named of form) → IsFormSmall form
  unfolding tree_of trees.IsBounded IsBounded
  small (forms.Enumerated names) h g = (h.1, few (is_extensible names.now) (length (additions_of names.now.additions)) g)
  small (forms.Choice members) h g = (
    subst (λ (n : ℕ). n ≤ 256) (tree_count members.now.root) h.1,
    subst (λ (n : ℕ). n ≤ 64) (parts_count (additions_of members.now.additions))
        (few (is_extensible members.now) (count_of (parts_with of (additions_of members.now.additions))) g.0),
  )
  small (forms.Sequence members) h g = tt
  small (forms.SequenceOf size element) h g = tt
  small (forms.Container rows) h g = tt
  small (forms.Pdu rows) h g = tt
  small forms.Boolean h g = tt
  small (forms.Integer low high extensible) h g = tt
  small (forms.BitString size) h g = tt
  small (forms.OctetString size) h g = tt
  small (forms.PrintableString size) h g = tt

pub form_small : (m : Syntax) (id : ℕ) (form : NamedForm) → IsModule m → named m id ≡ form_named (named m) form → IsFormSmall form
form_small m id form is e =
    small (named m) form
    (subst (λ (t : Named). trees.IsBounded (tree_of t)) e (subst trees.IsBounded (sym (forgotten m id)) (tree_bounded m id is)))
    (subst IsBounded e (bounded m id is))

pub by_form : (t u : Named) (d : Data) (answer : Result Value Refusal) → t ≡ u → ReadsAs (λ p. demands p u d) (value_of u d) answer
    → ReadsAs (λ p. demands p t d) (value_of t d) answer
by_form t u d answer e h = subst (λ (s : Named). ReadsAs (λ p. demands p s d) (value_of s d) answer) (sym e) h

-- a value that was read is one of the type
pub has_asked : (m : Syntax) (id : ℕ) (d : Data) (answer : Result Value Refusal) → IsModule m
    → ReadsAs (λ p. demands p (named m id) d) (value_of (named m id) d) answer → HasAsked (tree m id) answer
has_asked m id d (Ok v) is h = read_has m id d is (h.0 []) (view v) h.1
has_asked m id d (Err refusal) is h = tt

-- the additions of a SEQUENCE that has none, or may have none
module _ (read : Items → Options) where
  pub no_additions : (e : Bool) (o : Option Data) → None ≡ cond e o None → cond e (additions_in read o) no_options ≡ no_options
  no_additions false o h = refl
  no_additions true None h = refl
  no_additions true (Some d) h = cc

  pub some_additions : (e : Bool) (o : Option Data) (d : Data) → Some d ≡ cond e o None
      → cond e (additions_in read o) no_options ≡ additions_in read (Some d)
  some_additions false o d h = cc
  some_additions true o d h = ap (additions_in read) (sym h)
