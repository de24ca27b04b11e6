-- Members of a SEQUENCE OF, one at a time, and lists whose members hold no other values.
use Rattle.std.proofs.Common.{◌≡◌, ℕ, suc, List, [], ◌∷◌, ◌++◌, length, sym, ap, ◌∙◌, arith, length-append, Option, false, refl}
use Rattle.asn1_syntax.specs.declared.types.definition.Size.{Size}
use Rattle.asn1_syntax.specs.declared.types.definition.TypeId.{TypeId}
use Rattle.aper_defs.specs.Trees.{Tree}
use Rattle.aper_defs.specs.Values as seen
use Rattle.aper_defs.specs.Fields.{Path}
use Rattle.aper_defs.specs.Questions.{Prog, ask_members}
use Rattle.aper_values.specs.declared.value.Value.{Value}
use Rattle.aper_values.specs.Views.{view, values_view}
use Rattle.aper_values.specs.declared.types.form.Form.{Form}
use Rattle.aper_values.specs.declared.types.form.Form.TheVariants as forms
use Rattle.aper_values.specs.types.Forms.{form_tree}
use Rattle.aper_frames.specs.declared.frame.Members.{Members}
use Rattle.aper_frames.specs.Frames.{values_before, ask_member, members_left}
use Rattle.aper_frames.proofs.Before.{values_more, values_end}
use Rattle.aper_decode.specs.Forms.{is_simple}
use Rattle.aper_decode.specs.Lists.{is_simple_tree, is_simple_list}

-- a member more
pub member_put : (one : ℕ → (seen.Value → Prog) → Prog) (n : ℕ) (made more : List Value) (v : Value) (K : seen.Values → Prog)
    → more ≡ made ++ v ∷ []
    → ask_members one (suc (length made)) n (λ vs. values_before made K (seen.value (view v) vs))
    ≡ ask_members one (length more) n (values_before more K)
member_put one n made more v K e =
    let count : suc (length made) ≡ length (made ++ v ∷ []) = omega (arith, length-append made (v ∷ [])) in
    ap (λ (J : seen.Values → Prog). ask_members one (suc (length made)) n J) (sym (values_more made v K))
    ∙ ap (λ (i : ℕ). ask_members one i n (values_before (made ++ v ∷ []) K)) count
    ∙ ap (λ (ms : List Value). ask_members one (length ms) n (values_before ms K)) (sym e)

-- none is left
pub members_last : (of : ℕ → Tree) (m : Members) (p : Path) (K : seen.Value → Prog) (v : Value)
    → m.left ≡ 0 → view v ≡ seen.list (values_view m.made.items) → members_left of m p K ≡ K (view v)
members_last of m p K v none e =
    ap (λ (n : ℕ). ask_members (ask_member of m p) (length m.made.items) n (values_before m.made.items (λ vs. K (seen.list vs)))) none
    ∙ values_end m.made.items (λ vs. K (seen.list vs)) ∙ ap K (sym e)

-- ---- lists whose members hold no others
simple_as : (of : ℕ → Tree) (form : Form) → is_simple_tree (form_tree of form) ≡ is_simple form
simple_as of forms.Boolean = refl
simple_as of (forms.Integer low high extensible) = refl
simple_as of (forms.Enumerated names extensible) = refl
simple_as of (forms.BitString size) = refl
simple_as of (forms.OctetString size) = refl
simple_as of (forms.PrintableString size) = refl
simple_as of (forms.Sequence members) = refl
simple_as of (forms.Choice members) = refl
simple_as of (forms.SequenceOf size element) = refl
simple_as of (forms.Container rows) = refl
simple_as of (forms.Pdu rows) = refl

pub members_hold : (of : ℕ → Tree) (form inner : Form) (size : Option Size) (element : TypeId) → form ≡ forms.SequenceOf size element
    → of element.number ≡ form_tree of inner → is_simple inner ≡ false → is_simple_list (form_tree of form) ≡ false
members_hold of form inner size element is member holds =
    ap (λ f. is_simple_list (form_tree of f)) is ∙ ap is_simple_tree member ∙ simple_as of inner ∙ holds

pub no_list : (of : ℕ → Tree) (form : Form) → ((size : Option Size) (element : TypeId) → form ≡ forms.SequenceOf size element → ⊥)
    → is_simple_list (form_tree of form) ≡ false
no_list of forms.Boolean h = refl
no_list of (forms.Integer low high extensible) h = refl
no_list of (forms.Enumerated names extensible) h = refl
no_list of (forms.BitString size) h = refl
no_list of (forms.OctetString size) h = refl
no_list of (forms.PrintableString size) h = refl
no_list of (forms.Sequence members) h = refl
no_list of (forms.Choice members) h = refl
no_list of (forms.SequenceOf size element) h = absurd (h size element refl)
no_list of (forms.Container rows) h = refl
no_list of (forms.Pdu rows) h = refl
