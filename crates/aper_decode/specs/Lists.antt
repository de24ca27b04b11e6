-- Internal: lists that are read at once, and where they are refused.
use Rattle.std.specs.Prelude.{◌≡◌, ℕ, true, List, ◌∷◌, length, Option, Some, None, Result, Ok, Err, Bool, false}
use Rattle.asn1_syntax.specs.declared.types.definition.Size.{Size}
use Rattle.asn1_syntax.specs.declared.types.definition.TypeId.{TypeId}
use Rattle.aper_defs.specs.Bounds.{IsSizeBounded}
use Rattle.aper_defs.specs.Trees.{Tree, boolean, integer, enumerated, bit_string, octet_string, printable_string, sequence_of}
use Rattle.aper_defs.specs.Values as seen
use Rattle.aper_defs.specs.Fields.{Path}
use Rattle.aper_defs.specs.Fields as fields
use Rattle.aper_defs.specs.Questions.{Prog}
use Rattle.aper_defs.specs.Asking.{asks}
use Rattle.aper_defs.specs.Reading.{Cursor, run}
use Rattle.aper_cursor.specs.declared.error.Unanswered.{Unanswered}
use Rattle.aper_cursor.specs.declared.error.Unanswered.TheVariants.{Wrong, Memory}
use Rattle.aper_cursor.specs.asking.Going.{fault_at}
use Rattle.aper_values.specs.declared.value.Value.{Value}
use Rattle.aper_values.specs.Views.{view}
use Rattle.aper_values.specs.declared.types.form.Form.{Form}
use Rattle.aper_values.specs.declared.types.form.Form.TheVariants as forms
use Rattle.aper_values.specs.types.Forms.{form_tree}
use Rattle.aper_frames.specs.declared.frame.Members.{Members}
use Rattle.aper_frames.specs.declared.frame.Frame.{Frame}
use Rattle.aper_frames.specs.Frames.{members_left, path_of}
use Rattle.aper_decode.specs.declared.list.SimpleList.{SimpleList}
use Rattle.aper_decode.specs.declared.list.ListRefusal.{ListRefusal}
use Rattle.aper_decode.specs.Forms.{IsFormBounded, is_simple}

-- types of which no value holds others, and of lists of such values
abbrev pub is_simple_tree : Tree → Bool
is_simple_tree boolean = true
is_simple_tree (integer low high extensible) = true
is_simple_tree (enumerated names extensible) = true
is_simple_tree (bit_string size) = true
is_simple_tree (octet_string size) = true
is_simple_tree (printable_string size) = true
is_simple_tree t = false

abbrev pub is_simple_list : Tree → Bool
is_simple_list (sequence_of size t) = is_simple_tree t
is_simple_list t = false

-- Lists of a form: their members are of a form of which no value holds others.
pub record IsListOf (of : ℕ → Tree) (form : Form) (list : SimpleList) : Type 0 where
  pub is : form ≡ forms.SequenceOf list.size list.element
  pub size : IsSizeBounded list.size
  pub member : of list.element.number ≡ form_tree of list.form
  pub bounded : IsFormBounded list.form
  pub simple : is_simple list.form ≡ true

-- The way to what is refused, where this is a member: those before it are made.
abbrev pub refused_path : Option Members → Path → Path
refused_path None p = p
refused_path (Some m) p = fields.member (length m.made.items) ∷ p

-- What is asked goes on with the list from the place after it, or is refused at the place that is reached.
abbrev pub IsListRefused : (Path → (seen.Value → Prog) → Prog) → Cursor → Cursor → Option Members → Unanswered → Type 0
IsListRefused question old new member (Wrong reason) =
    (p : Path) (K : seen.Value → Prog) → run (question p K) old ≡ Err (fault_at new reason (refused_path member p))
IsListRefused question old new member Memory = Unit {0}

abbrev pub ReadsList : (Path → (seen.Value → Prog) → Prog) → Cursor → Cursor → Result Value ListRefusal → Type 0
ReadsList question old new (Ok v) = (p : Path) (K : seen.Value → Prog) → run (question p K) old ≡ run (K (view v)) new
ReadsList question old new (Err r) = IsListRefused question old new r.member r.error

-- How many members come was read, and none of them yet.
abbrev pub StartsList : (ℕ → Tree) → Option Size → TypeId → Cursor → Cursor → Result Members Unanswered → Type 0
StartsList of size element old new (Ok m) =
    (p : Path) (K : seen.Value → Prog) → run (asks p (sequence_of size (of element.number)) K) old ≡ run (members_left of m p K) new
StartsList of size element old new (Err (Wrong reason)) =
    (p : Path) (K : seen.Value → Prog) → run (asks p (sequence_of size (of element.number)) K) old ≡ Err (fault_at new reason p)
StartsList of size element old new (Err Memory) = Unit {0}

-- The error of a step, with the frames on the way to what is refused.
abbrev pub IsRefused : ListRefusal → List Frame → List Frame → Unanswered → Type 0
IsRefused r old new (Wrong reason) = (r.error ≡ Wrong reason) × (path_of new ≡ refused_path r.member (path_of old))
IsRefused r old new Memory = Unit {0}
