-- Where a string begins.
use Rattle.std.proofs.Common.{◌≡◌, ℕ, ◌+◌, ◌*◌, ◌≤◌, List, length, Option, None, Some, refl, sym, ap, subst, ◌∙◌, arith}
use Rattle.asn1_syntax.specs.declared.assignments.assignment.Syntax.{Syntax}
use Rattle.asn1_syntax.specs.declared.types.definition.TypeId.{TypeId}
use Rattle.asn1_syntax.specs.declared.types.definition.Size.{Size}
use Rattle.aper_defs.specs.Trees.{Tree}
use Rattle.aper_defs.specs.Bounds.{IsSizeBounded}
use Rattle.aper_defs.specs.Fields.{Path}
use Rattle.aper_defs.specs.Questions.{Prog, ask_string}
use Rattle.aper_defs.specs.Asking.{asks}
use Rattle.aper_cursor.specs.declared.strings.units.Content.{Content}
use Rattle.aper_cursor.specs.declared.strings.units.Content.TheVariants as contents
use Rattle.aper_cursor.specs.strings.Contents.{content_of}
use Rattle.aper_values.specs.declared.types.form.Form.{Form}
use Rattle.aper_values.specs.declared.types.form.Form.TheVariants as forms
use Rattle.aper_values.specs.types.Forms.{form_tree}
use Rattle.aper_values.specs.types.Types.{tree}
use Rattle.aper_frames.specs.declared.frame.Frame.{Frame}
use Rattle.aper_frames.specs.Frames.{path_of, next_of}
use Rattle.aper_decode.specs.Forms.{IsFormBounded}
use Rattle.aper_decode.specs.Heavy.{weighed}
use Rattle.aper_decode.proofs.HeavyLemmas.{is_inside}
use Rattle.aper_stream.specs.declared.resuming.pending.Pending.{Pending}
use Rattle.aper_stream.specs.declared.resuming.pending.Pending.TheVariants as pendings
use Rattle.aper_stream.specs.resuming.Turns.{left, IsPendingInside}
use Rattle.aper_stream.specs.resuming.Weights.{weight_left}
use Rattle.aper_stream.specs.declared.string_turns.string.StringLeft.{StringLeft}
use Rattle.aper_stream.specs.string_turns.Strings.{string_left}
use Rattle.aper_stream.specs.declared.steps.step.Next.TheVariants as comes
use Rattle.aper_stream.specs.steps.Steps.{string_value, next_left, IsPendingLight, IsNextLight, IsStringForm, IsStringOf}

-- ---- forms
module _ (form : Form) (size : Option Size) (bounded : IsFormBounded form) where
  pub bits_form : form ≡ forms.BitString size → IsStringForm form (Some (contents.Bits, size))
  unfolding asks
  bits_form is = (subst IsFormBounded is bounded, λ of p K. ap (λ (f : Form). asks p (form_tree of f) K) is)

  pub octets_form : form ≡ forms.OctetString size → IsStringForm form (Some (contents.Octets, size))
  unfolding asks
  octets_form is = (subst IsFormBounded is bounded, λ of p K. ap (λ (f : Form). asks p (form_tree of f) K) is)

  pub characters_form : form ≡ forms.PrintableString size → IsStringForm form (Some (contents.Characters, size))
  unfolding asks
  characters_form is = (subst IsFormBounded is bounded, λ of p K. ap (λ (f : Form). asks p (form_tree of f) K) is)

pub string_read : (m : Syntax) (pending : Pending) (id : TypeId) (form : Form) (r : Option (Content × Option Size))
    → pending ≡ pendings.Read id → tree m id.number ≡ form_tree (tree m) form → IsStringForm form r → IsStringOf (tree m) pending r
string_read m pending id form None is e h = tt
string_read m pending id form (Some string) is e h = (
  h.0,
  λ fs. ap (λ (x : Pending). left (tree m) x fs) is
      ∙ ap (λ (t : Tree). asks (path_of fs) t (next_of (tree m) fs)) e
      ∙ h.1 (tree m) (path_of fs) (next_of (tree m) fs),
  λ w fs. omega (arith, ap (λ (x : Pending). weight_left w x fs) is),
)

-- ---- what comes next
module _ (m : Syntax) (pending : Pending) (r : Option (Content × Option Size)) (string : Content × Option Size) (s : StringLeft)
    (is : r ≡ Some string) (found : IsStringOf (tree m) pending r) where
  told : IsStringOf (tree m) pending (Some string)
  told = subst (IsStringOf (tree m) pending) is found

  pub sized : IsSizeBounded string.1
  sized = told.0

  pub begun_same : ((p : Path) (K : List ℕ → Prog) → string_left s p K ≡ ask_string p (content_of string.0) string.1 K) → s.content ≡ string.0
      → (fs : List Frame) → next_left (tree m) (comes.String s) fs ≡ left (tree m) pending fs
  begun_same asked same fs =
      asked (path_of fs) (λ units. next_of (tree m) fs (string_value (content_of s.content) units))
      ∙ ap (λ (c : Content). ask_string (path_of fs) (content_of string.0) string.1
      (λ units. next_of (tree m) fs (string_value (content_of c) units))) same
      ∙ sym (told.1 fs)

  pub begun_light : (fs : List Frame) → IsPendingLight m pending fs → IsNextLight m (comes.String s) fs
  begun_light fs light = (light.0 + 1, λ other. omega (arith, told.2 (weighed m other) fs, light.1 other))

-- a turn reads only types of the module
pub reads_inside : (m : Syntax) (pending : Pending) (fs : List Frame) → IsPendingLight m pending fs → IsPendingInside (length m.nodes) pending
reads_inside m (pendings.Read t) fs light = is_inside m t.number light.0 (λ other. omega (arith, light.1 other))
reads_inside m (pendings.Made v) fs light = tt
reads_inside m (pendings.Marks x) fs light = tt
reads_inside m (pendings.Head e) fs light = tt
reads_inside m (pendings.Inside f t) fs light = tt
reads_inside m (pendings.Unknown f) fs light = tt
reads_inside m (pendings.Octets count) fs light = tt
reads_inside m (pendings.Closing v) fs light = tt
reads_inside m (pendings.Ending v) fs light = tt
