-- How much a value of a type of a module has to be read.
use Rattle.std.proofs.Common.{◌≡◌, ℕ, ◌+◌, ◌*◌, ◌<◌, ◌≤◌, cond, List, [], ◌∷◌, length, Bool, true, false, Option, Some, None, refl, sym, ap, ◌∙◌, arith}
use Rattle.std.specs.Prelude.{nat_lt}
use Rattle.asn1_syntax.specs.declared.types.definition.TypeId.{TypeId}
use Rattle.asn1_syntax.specs.declared.types.definition.Component.{Component}
use Rattle.asn1_syntax.specs.types.Members.{additions_of}
use Rattle.asn1_syntax.specs.declared.assignments.assignment.IeRow.{IeRow}
use Rattle.asn1_syntax.specs.declared.assignments.assignment.ProcedureRow.{ProcedureRow}
use Rattle.asn1_syntax.specs.declared.assignments.assignment.Syntax.{Syntax}
use Rattle.asn1_defs.specs.Links.{AreBelow, OptionBelow, IesBelow, ProceduresBelow}
use Rattle.aper_defs.specs.Trees.{Tree}
use Rattle.proof_aper.proofs.answers.NumberFacts.{below, is_below}
use Rattle.aper_values.specs.declared.types.form.Form.{Form}
use Rattle.aper_values.specs.declared.types.form.Form.TheVariants as forms
use Rattle.aper_values.specs.types.Types.{parts_of, rows_of, outcome_of, procedures_of, tree}
use Rattle.aper_values.specs.types.Forms.{form_tree, IsFormInside}
use Rattle.aper_frames.specs.Weights.{parts_weight, rows_weight, outcome_weight, procedures_weight}
use Rattle.aper_decode.specs.Forms.{form_weight}
use Rattle.aper_decode.specs.Heavy.{heavy, parts_heavy, rows_heavy, procedures_heavy, outcome_heavy, weighed}

-- ---- the tree of a form is as heavy as what is left of it at first
module _ (of : ℕ → Tree) where
  parts_same : (cs : List Component) → parts_heavy (parts_of of cs) ≡ parts_weight (λ id. heavy (of id)) cs
  unfolding parts_heavy
  parts_same [] = refl
  parts_same (c ∷ cs) = ap (λ n. 3 + heavy (of c.definition.number) + n) (parts_same cs)

  rows_same : (rows : List IeRow) → rows_heavy (rows_of of rows) ≡ rows_weight (λ id. heavy (of id)) rows
  unfolding rows_heavy
  rows_same [] = refl
  rows_same (r ∷ rows) = ap (λ n. heavy (of r.definition.number) + n) (rows_same rows)

  outcome_same : (o : Option TypeId) → outcome_heavy (outcome_of of o) ≡ outcome_weight (λ id. heavy (of id)) o
  unfolding outcome_heavy
  outcome_same None = refl
  outcome_same (Some id) = refl

  procedures_same : (rows : List ProcedureRow) → procedures_heavy (procedures_of of rows) ≡ procedures_weight (λ id. heavy (of id)) rows
  unfolding procedures_heavy outcome_heavy
  procedures_same [] = refl
  procedures_same (r ∷ rows) =
      omega (arith, outcome_same r.successful, outcome_same r.unsuccessful, procedures_same rows)

  pub form_heavy : (form : Form) → heavy (form_tree of form) ≡ form_weight (λ id. heavy (of id)) form
  unfolding heavy
  form_heavy forms.Boolean = refl
  form_heavy (forms.Integer low high extensible) = refl
  form_heavy (forms.Enumerated names extensible) = refl
  form_heavy (forms.BitString size) = refl
  form_heavy (forms.OctetString size) = refl
  form_heavy (forms.PrintableString size) = refl
  form_heavy (forms.Sequence members) =
      omega (arith, parts_same members.now.root, parts_same (additions_of members.now.additions))
  form_heavy (forms.Choice members) =
      omega (arith, parts_same members.now.root, parts_same (additions_of members.now.additions))
  form_heavy (forms.SequenceOf size element) = refl
  form_heavy (forms.Container rows) = ap (λ n. 65535 * (4 + n) + 1) (rows_same rows.now)
  form_heavy (forms.Pdu rows) = ap (λ n. n + 3) (procedures_same rows.now)

-- ---- what a form holds that is inside a module weighs what the module's types weigh
module _ (n : ℕ) (w v : ℕ → ℕ) (same : (id : ℕ) → id < n → w id ≡ v id) where
  parts_inside : (cs : List Component) → AreBelow n cs → parts_weight w cs ≡ parts_weight v cs
  parts_inside [] h = refl
  parts_inside (c ∷ cs) h = omega (arith, same c.definition.number h.0, parts_inside cs h.1)

  rows_inside : (rows : List IeRow) → IesBelow n rows → rows_weight w rows ≡ rows_weight v rows
  rows_inside [] h = refl
  rows_inside (r ∷ rows) h = omega (arith, same r.definition.number h.0, rows_inside rows h.1)

  outcome_inside : (o : Option TypeId) → OptionBelow n o → outcome_weight w o ≡ outcome_weight v o
  outcome_inside None h = refl
  outcome_inside (Some id) h = same id.number h

  procedures_inside : (rows : List ProcedureRow) → ProceduresBelow n rows → procedures_weight w rows ≡ procedures_weight v rows
  procedures_inside [] h = refl
  procedures_inside (r ∷ rows) h = omega (
    arith,
    same r.initiating.number h.0.0,
    outcome_inside r.successful h.0.1.0,
    outcome_inside r.unsuccessful h.0.1.1,
    procedures_inside rows h.1,
  )

  pub form_inside : (form : Form) → IsFormInside n form → form_weight w form ≡ form_weight v form
  form_inside forms.Boolean h = refl
  form_inside (forms.Integer low high extensible) h = refl
  form_inside (forms.Enumerated names extensible) h = refl
  form_inside (forms.BitString size) h = refl
  form_inside (forms.OctetString size) h = refl
  form_inside (forms.PrintableString size) h = refl
  form_inside (forms.Sequence members) h =
      omega (arith, parts_inside members.now.root h.0, parts_inside (additions_of members.now.additions) h.1)
  form_inside (forms.Choice members) h =
      omega (arith, parts_inside members.now.root h.0, parts_inside (additions_of members.now.additions) h.1)
  form_inside (forms.SequenceOf size element) h = ap (λ k. 65535 * (2 + k) + 1) (same element.number h)
  form_inside (forms.Container rows) h = ap (λ k. 65535 * (4 + k) + 1) (rows_inside rows.now h)
  form_inside (forms.Pdu rows) h = ap (λ k. k + 3) (procedures_inside rows.now h)

-- ---- the types of a module
pub weighed_inside : (m : Syntax) (other id : ℕ) → id < length m.nodes → weighed m other id ≡ heavy (tree m id)
unfolding weighed
weighed_inside m other id h = ap (λ (b : Bool). cond b (heavy (tree m id)) other) (is_below id (length m.nodes) h)

-- the form of a type of a module
pub form_weighed : (m : Syntax) (other id : ℕ) (form : Form) → id < length m.nodes → tree m id ≡ form_tree (tree m) form
    → IsFormInside (length m.nodes) form → form_weight (weighed m other) form ≡ weighed m other id
form_weighed m other id form within is inside =
    form_inside (length m.nodes) (weighed m other) (λ i. heavy (tree m i)) (weighed_inside m other) form inside
    ∙ sym (form_heavy (tree m) form) ∙ ap heavy (sym is) ∙ sym (weighed_inside m other id within)

-- A type is inside, if it weighs no more than a number whatever others weigh.
pub is_inside : (m : Syntax) (id most : ℕ) → ((other : ℕ) → weighed m other id ≤ most) → id < length m.nodes
unfolding weighed
is_inside m id most h = by_test (nat_lt id (length m.nodes)) refl
  where
    by_test : (b : Bool) → nat_lt id (length m.nodes) ≡ b → id < length m.nodes
    by_test true e = below id (length m.nodes) e
    by_test false e =
        let weighs : weighed m (most + 1) id ≡ most + 1 = ap (λ (x : Bool). cond x (heavy (tree m id)) (most + 1)) e in
        absurd (omega (arith, h (most + 1), weighs))
