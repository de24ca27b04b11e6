-- A form whose tree is within the bounds of encodings is within them.
use Rattle.std.proofs.Common.{ℕ, arith}
use Rattle.aper_defs.specs.Trees.{Tree}
use Rattle.aper_defs.specs.Bounds.{IsBounded}
use Rattle.aper_values.specs.declared.types.form.Form.{Form}
use Rattle.aper_values.specs.declared.types.form.Form.TheVariants as forms
use Rattle.aper_values.specs.types.Forms.{form_tree}
use Rattle.aper_values.proofs.types.Members.{part_count_is}
use Rattle.aper_decode.specs.Forms.{IsFormBounded}

pub form_bounded : (of : ℕ → Tree) (form : Form) → IsBounded (form_tree of form) → IsFormBounded form
unfolding IsBounded
form_bounded of forms.Boolean h = tt
form_bounded of (forms.Integer low high extensible) h = h
form_bounded of (forms.Enumerated names extensible) h = h
form_bounded of (forms.BitString size) h = h
form_bounded of (forms.OctetString size) h = h
form_bounded of (forms.PrintableString size) h = h
form_bounded of (forms.Sequence members) h = tt
form_bounded of (forms.Choice members) h =
    (omega (arith, h.0, part_count_is of members.now.root), omega (arith, h.1, part_count_is of members.now.root))
form_bounded of (forms.SequenceOf size element) h = h.0
form_bounded of (forms.Container rows) h = tt
form_bounded of (forms.Pdu rows) h = tt
