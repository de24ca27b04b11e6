-- Internal: bodies of information elements that are read at once, and where they are refused.
use Rattle.std.specs.Prelude.{◌≡◌, ℕ, ◌+◌, ◌≤◌, true, List, [], ◌∷◌, ◌++◌, Option, Some, None, Result, Ok, Err}
use Rattle.asn1_syntax.specs.declared.types.definition.TypeId.{TypeId}
use Rattle.aper_defs.specs.Trees.{Tree}
use Rattle.aper_defs.specs.Values as seen
use Rattle.aper_defs.specs.Fields.{Path}
use Rattle.aper_defs.specs.Fields as fields
use Rattle.aper_defs.specs.Questions.{Prog, ask_open}
use Rattle.aper_defs.specs.Asking.{asks}
use Rattle.aper_defs.specs.Reading.{Cursor, run}
use Rattle.aper_cursor.specs.declared.error.Unanswered.TheVariants.{Wrong, Memory}
use Rattle.aper_cursor.specs.asking.Going.{fault_at}
use Rattle.aper_frames.specs.declared.heads.elements.ElementHead.{ElementHead}
use Rattle.aper_frames.specs.declared.heads.raw.RawError.{RawError}
use Rattle.aper_frames.specs.declared.heads.raw.RawError.TheVariants as errors
use Rattle.aper_frames.specs.heads.Raw.{GoesOnRaw}
use Rattle.aper_values.specs.declared.value.Value.{Value}
use Rattle.aper_values.specs.declared.value.Element.{Element}
use Rattle.aper_values.specs.Views.{view}
use Rattle.aper_values.specs.declared.types.form.Form.{Form}
use Rattle.aper_values.specs.types.Forms.{form_tree}
use Rattle.aper_frames.specs.declared.frame.ElementFrame.{ElementFrame}
use Rattle.aper_frames.specs.Frames.{element_after}
use Rattle.aper_frames.specs.Weights.{elements_weight}
use Rattle.aper_decode.specs.declared.container.Body.{Body}
use Rattle.aper_decode.specs.declared.container.Body.TheVariants.{Whole, Inside}
use Rattle.aper_decode.specs.declared.container.Halt.{Halt}
use Rattle.aper_decode.specs.declared.container.Halt.TheVariants as halts
use Rattle.aper_decode.specs.Forms.{IsFormBounded, is_simple}

-- ---- how the body of an element is read
-- a known type, of this form
pub record IsOfForm (of : ℕ → Tree) (known : Option TypeId) (form : Form) : Type 0 where
  pub id : TypeId
  pub is : known ≡ Some id
  pub same : of id.number ≡ form_tree of form

abbrev pub IsBodyOf : (ℕ → Tree) → Option TypeId → Body → Type 0
IsBodyOf of known (Whole None) = known ≡ None
IsBodyOf of known (Whole (Some form)) = IsOfForm of known form
IsBodyOf of known (Inside id) = known ≡ Some id

-- no value of the form, where it is known, holds others
abbrev pub IsWhole : Option Form → Type 0
IsWhole None = Unit {0}
IsWhole (Some form) = IsFormBounded form × (is_simple form ≡ true)

abbrev pub IsReadable : Body → Type 0
IsReadable (Whole form) = IsWhole form
IsReadable (Inside id) = Unit {0}

-- ---- open types
-- What is asked in an open type goes on with its value from the place after it; or its length is wrong, on the way to the value around
-- it, or its contents are, on the way to the value that they are.
abbrev pub ReadsOpen : (Path → (seen.Value → Prog) → Prog) → Cursor → Cursor → Result Value RawError → Type 0
ReadsOpen contents old new (Ok v) =
    (p inside : Path) (K : seen.Value → Prog) → run (ask_open p inside (contents inside) K) old ≡ run (K (view v)) new
ReadsOpen contents old new (Err (errors.Length reason)) =
    (p inside : Path) (K : seen.Value → Prog) → run (ask_open p inside (contents inside) K) old ≡ Err (fault_at new reason p)
ReadsOpen contents old new (Err (errors.Octets reason)) =
    (p inside : Path) (K : seen.Value → Prog) → run (ask_open p inside (contents inside) K) old ≡ Err (fault_at new reason inside)
ReadsOpen contents old new (Err errors.Memory) = Unit {0}

-- the body of an element, by the form of its type, where that is known
abbrev pub ReadsBody : (ℕ → Tree) → Option Form → Cursor → Cursor → Result Value RawError → Type 0
ReadsBody of None old new result = GoesOnRaw old new result
ReadsBody of (Some form) old new result = ReadsOpen (λ p. asks p (form_tree of form)) old new result

-- An element whose body was read was put after those before it.
pub record IsElementPut (reads : Value → Type 0) (head : ElementHead) (before after : List (Element Value)) : Type 0 where
  pub value : Value
  pub read : reads value
  pub put : after ≡ before ++ (record { id = head.id; criticality = head.criticality; body = value }) ∷ []

-- A body was read and its element put, or is refused as it is where it is only read.
abbrev pub PutsElement : {E : Type 0} → (Result Value E → Type 0) → ElementHead → (before after : List (Element Value)) → Result (Unit {0}) E → Type 0
PutsElement reads head before after (Ok done) = IsElementPut (λ v. reads (Ok v)) head before after
PutsElement reads head before after (Err error) = reads (Err error)

-- ---- containers
-- What is asked goes on after the whole container, or with the open type of an element; or the body of an element is refused at the
-- place that is reached, or what is around it.
abbrev pub ReadsContainer : (Path → (seen.Value → Prog) → Prog) → (ℕ → Tree) → Cursor → Cursor → Result Value Halt → Type 0
ReadsContainer question of old new (Ok v) = (p : Path) (K : seen.Value → Prog) → run (question p K) old ≡ run (K (view v)) new
ReadsContainer question of old new (Err (halts.Element f id)) =
    (p : Path) (K : seen.Value → Prog) → run (question p K) old
    ≡ run (ask_open p (fields.element f.head.id ∷ p) (asks (fields.element f.head.id ∷ p) (of id.number))
    (element_after of f.others f.head.id f.head.criticality p K)) new
ReadsContainer question of old new (Err (halts.Wrong f reason)) =
    (p : Path) (K : seen.Value → Prog) → run (question p K) old ≡ Err (fault_at new reason (fields.element f.head.id ∷ p))
ReadsContainer question of old new (Err (halts.Error (Wrong reason))) =
    (p : Path) (K : seen.Value → Prog) → run (question p K) old ≡ Err (fault_at new reason p)
ReadsContainer question of old new (Err (halts.Error Memory)) = Unit {0}

-- What is left to be read of it weighs no more than this.
abbrev pub LeavesLess : ((ℕ → ℕ) → ℕ) → Result Value Halt → Type 0
LeavesLess weight (Ok v) = Unit {0}
LeavesLess weight (Err (halts.Element f id)) = (w : ℕ → ℕ) → 2 + w id.number + elements_weight w f.others ≤ weight w
LeavesLess weight (Err (halts.Wrong f reason)) = Unit {0}
LeavesLess weight (Err (halts.Error error)) = Unit {0}

-- why a container isn't read where the body of an element is refused
abbrev pub refusal : ElementFrame → RawError → Halt
refusal f (errors.Length reason) = halts.Error (Wrong reason)
refusal f (errors.Octets reason) = halts.Wrong f reason
refusal f errors.Memory = halts.Error Memory
