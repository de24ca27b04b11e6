-- A container: its information elements, of which those that hold no other values are read in place.
use Rattle.std.proofs.Common.{Bor, ◌≡◌, ℕ, suc, ◌+◌, ◌*◌, ◌≤◌, List, [], ◌∷◌, ◌++◌, length, Option, Some, None, Result, Ok, Err, sym, ap, ◌∙◌, arith}
use Rattle.std.proofs.Math.Nat.{suc-mul}
use Rattle.asn1_syntax.specs.declared.types.definition.TypeId.{TypeId}
use Rattle.asn1_syntax.specs.declared.assignments.assignment.IeRow.{IeRow}
use Rattle.asn1_syntax.specs.declared.assignments.assignment.Syntax.{Syntax}
use Rattle.aper_defs.specs.declared.reason.Reason.{Reason}
use Rattle.aper_defs.specs.Trees.{Tree, container, slots_left, mandatory_count}
use Rattle.aper_defs.specs.Values as seen
use Rattle.aper_defs.specs.Fields.{Path, ie_count, opening, closing, end}
use Rattle.aper_defs.specs.Fields as fields
use Rattle.aper_defs.specs.Questions.{Prog, ask, ask_aligned, ask_open, ask_raw, ask_ies}
use Rattle.aper_defs.specs.Asking.{asks, ask_row}
use Rattle.aper_defs.specs.Reading.{Cursor, run}
use Rattle.aper_cursor.specs.Questions.{slots_of}
use Rattle.aper_cursor.specs.declared.error.Unanswered.{Unanswered}
use Rattle.aper_cursor.specs.declared.error.Unanswered.TheVariants.{Wrong, Memory}
use Rattle.aper_cursor.specs.asking.Going.{GoesOn, fault_at}
use Rattle.aper_frames.specs.declared.heads.elements.ElementHead.{ElementHead}
use Rattle.aper_frames.specs.declared.heads.raw.RawError.{RawError}
use Rattle.aper_frames.specs.declared.heads.raw.RawError.TheVariants as errors
use Rattle.aper_frames.specs.heads.Heads.{ask_element_head}
use Rattle.aper_frames.specs.heads.Raw.{octets_error}
use Rattle.aper_frames.specs.simple.Reads.{Reads}
use Rattle.aper_values.specs.declared.value.Value.{Value}
use Rattle.aper_values.specs.declared.value.Element.{Element}
use Rattle.aper_values.specs.Views.{view, ies_view}
use Rattle.asn1_defs.specs.Links.{OptionBelow}
use Rattle.aper_fields.specs.members.Rows.{row_type}
use Rattle.aper_values.specs.types.Types.{rows_of}
use Rattle.aper_values.specs.declared.types.form.Form.{Form}
use Rattle.aper_values.specs.types.Forms.{form_tree}
use Rattle.aper_frames.specs.declared.frame.Elements.{Elements}
use Rattle.aper_frames.specs.declared.frame.Frame.{Frame}
use Rattle.aper_frames.specs.Frames.{ies_before, elements_by, elements_left, element_after, path_of, next_of}
use Rattle.aper_frames.specs.Weights.{outcome_weight, rows_weight, container_weight, elements_weight}
use Rattle.aper_frames.proofs.aper_elements.ContainerLemmas.{container_as, asked_row, elements_none, elements_some, after_element_head, element_body, element_put}
use Rattle.aper_frames.proofs.aper_elements.Weighing.{row_weighs}
use Rattle.aper_decode.specs.declared.container.Body.TheVariants.{Whole}
use Rattle.aper_decode.specs.declared.container.Halt.{Halt}
use Rattle.aper_decode.specs.declared.container.Halt.TheVariants as halts
use Rattle.aper_decode.specs.InModule.{StepsIn, IsOfModule}
use Rattle.aper_decode.specs.Puts.{Puts}
use Rattle.aper_decode.specs.Elements.{IsBodyOf, ReadsOpen, ReadsBody, ReadsContainer, LeavesLess, refusal}
use Rattle.aper_decode.proofs.InPlace.{type_inside}

-- ---- what is asked of the elements that are left
module _ (of : ℕ → Tree) (e : Elements) (p : Path) (K : seen.Value → Prog) where
  pub elements_last : (c : Cursor) (v : Value) → e.left ≡ 0 → view v ≡ seen.elements (ies_view e.made.items)
      → run (elements_left of e p K) c ≡ run (K (view v)) c
  elements_last c v none is =
      ap (λ (X : Prog). run X c) (elements_none of p K e none) ∙ ap (λ (x : seen.Value). run (K x) c) (sym is)

  -- the next one, before so many others
  module _ (k : ℕ) (some : e.left ≡ suc k) (old mid : Cursor) where
    pub head_wrong : (reason : Reason) → GoesOn (λ p. ask_element_head p (slots_of e.rows.now) (slots_of e.possible.now) k) old mid (Err reason)
        → run (elements_left of e p K) old ≡ Err (fault_at mid reason p)
    head_wrong reason wrong =
        ap (λ (X : Prog). run X old) (elements_some of p K e k some) ∙ wrong p (after_element_head of p K e k)

    pub head_taken : (head : ElementHead) (known : Option TypeId) (possible : Bor (List IeRow))
        → slots_of possible.now ≡ slots_left (slots_of e.rows.now) head.id (slots_of e.possible.now) → known ≡ row_type head.id e.rows.now
        → GoesOn (λ p. ask_element_head p (slots_of e.rows.now) (slots_of e.possible.now) k) old mid (Ok head)
        → run (elements_left of e p K) old
        ≡ run (asked_row of p head.id (element_after of (record e { left = k; possible = possible }) head.id head.criticality p K) known) mid
    head_taken head known possible slots is asked =
        ap (λ (X : Prog). run X old) (elements_some of p K e k some) ∙ asked p (after_element_head of p K e k)
        ∙ ap (λ (X : Prog). run X mid) (element_body of p K e k head (slots_of possible.now) known slots is)

-- ---- open types around values that hold no others
abbrev with_end : Tree → Path → (seen.Value → Prog) → Prog
with_end t p K = asks p t (λ v. ask p closing (λ m. ask p end (λ z. K v)))

pub contents_refused : {A : Type 0} (keeps : Value → A → Type 0) (t : Tree) (error : Unanswered) (old new : Cursor) (before after : List A)
    → Puts keeps (λ p. asks p t) old new before after (Err error) → Reads (with_end t) old new (Err error)
contents_refused keeps t (Wrong reason) old new before after put = λ p K. put.0 p (λ v. ask p closing (λ m. ask p end (λ z. K v)))
contents_refused keeps t Memory old new before after put = tt

pub open_refused : (t : Tree) (error : Unanswered) (old mid new : Cursor) (n : ℕ)
    → ((p : Path) (K : ℕ → Prog) → run (ask_aligned p opening K) old ≡ run (K n) mid) → Reads (with_end t) mid new (Err error)
    → ReadsOpen (λ p. asks p t) old new (Err (octets_error error))
open_refused t (Wrong reason) old mid new n opens reads = λ p inside K. opens p (λ m. with_end t inside K) ∙ reads inside K
open_refused t Memory old mid new n opens reads = tt

-- ---- the body of an element that is read at once
module _ (of : ℕ → Tree) (p : Path) (id : ℕ) (J : seen.Value → Prog) (known : Option TypeId) (mid new : Cursor) where
  abbrev asked_form : Option Form → Prog
  asked_form None = ask_raw p (fields.element id ∷ p) J
  asked_form (Some form) = ask_open p (fields.element id ∷ p) (asks (fields.element id ∷ p) (form_tree of form)) J

  body_as : (form : Option Form) → IsBodyOf of known (Whole form) → run (asked_row of p id J known) mid ≡ run (asked_form form) mid
  body_as None is = ap (λ (x : Option TypeId). run (asked_row of p id J x) mid) is
  body_as (Some form) is =
      ap (λ (x : Option TypeId). run (asked_row of p id J x) mid) is.is
      ∙ ap (λ (t : Tree). run (ask_open p (fields.element id ∷ p) (asks (fields.element id ∷ p) t) J) mid) is.same

  pub body_read : (form : Option Form) (v : Value) → IsBodyOf of known (Whole form) → ReadsBody of form mid new (Ok v)
      → run (asked_row of p id J known) mid ≡ run (J (view v)) new
  body_read None v is reads = body_as None is ∙ reads p (fields.element id ∷ p) J
  body_read (Some form) v is reads = body_as (Some form) is ∙ reads p (fields.element id ∷ p) J

  length_wrong : (form : Option Form) (reason : Reason) → IsBodyOf of known (Whole form) → ReadsBody of form mid new (Err (errors.Length reason))
      → run (asked_row of p id J known) mid ≡ Err (fault_at new reason p)
  length_wrong None reason is wrong = body_as None is ∙ wrong p (fields.element id ∷ p) J
  length_wrong (Some form) reason is wrong = body_as (Some form) is ∙ wrong p (fields.element id ∷ p) J

  contents_wrong : (form : Option Form) (reason : Reason) → IsBodyOf of known (Whole form) → ReadsBody of form mid new (Err (errors.Octets reason))
      → run (asked_row of p id J known) mid ≡ Err (fault_at new reason (fields.element id ∷ p))
  contents_wrong None reason is wrong = body_as None is ∙ wrong p (fields.element id ∷ p) J
  contents_wrong (Some form) reason is wrong = body_as (Some form) is ∙ wrong p (fields.element id ∷ p) J

-- one that is refused
pub body_refused : (of : ℕ → Tree) (question : Path → (seen.Value → Prog) → Prog) (head : ElementHead) (others left : Elements)
    (known : Option TypeId) (form : Option Form) (start mid new : Cursor)
    → ((p : Path) (K : seen.Value → Prog) → run (question p K) start
    ≡ run (asked_row of p head.id (element_after of others head.id head.criticality p K) known) mid)
    → IsBodyOf of known (Whole form) → (error : RawError) → ReadsBody of form mid new (Err error)
    → ReadsContainer question of start new (Err (refusal (record { head = head; others = left }) error))
body_refused of question head others left known form start mid new asked is (errors.Length reason) wrong = λ p K.
    asked p K
    ∙ length_wrong of p head.id (element_after of others head.id head.criticality p K) known mid new form reason is wrong
body_refused of question head others left known form start mid new asked is (errors.Octets reason) wrong = λ p K.
    asked p K
    ∙ contents_wrong of p head.id (element_after of others head.id head.criticality p K) known mid new form reason is wrong
body_refused of question head others left known form start mid new asked is errors.Memory wrong = tt

-- ---- an element more
pub element_kept : (of : ℕ → Tree) (others : Elements) (made : List (Element Value)) (ie : Element Value) (p : Path) (K : seen.Value → Prog) (c : Cursor)
    → made ≡ others.made.items ++ ie ∷ []
    → run (element_after of others ie.id ie.criticality p K (view ie.body)) c
    ≡ run (elements_by of others p (ies_before made (λ ies. K (seen.elements ies)))) c
element_kept of others made ie p K c e =
    ap (λ (X : Prog). run X c)
    (element_put (λ J. elements_by of others p J) others.made.items made ie (λ ies. K (seen.elements ies)) e)

-- ---- how much an element weighs, and those after it
pub element_weighs : (w : ℕ → ℕ) (e : Elements) (k id : ℕ) (known : Option TypeId) → e.left ≡ suc k → known ≡ row_type id e.rows.now
    → 4 + outcome_weight w known + container_weight w k e.rows.now ≤ elements_weight w e
element_weighs w e k id known some is =
    let row : outcome_weight w known ≤ rows_weight w e.rows.now = omega (arith, ap (outcome_weight w) is, row_weighs w id e.rows.now) in
    let whole : e.left * (4 + rows_weight w e.rows.now) ≡ suc k * (4 + rows_weight w e.rows.now) =
    ap (λ (n : ℕ). n * (4 + rows_weight w e.rows.now)) some in
    omega (arith, row, whole, suc-mul k (4 + rows_weight w e.rows.now))

-- its type is one of the module
pub known_inside : (m : Syntax) (weight : (ℕ → ℕ) → ℕ) (known : Option TypeId) → IsOfModule m weight
    → ((w : ℕ → ℕ) → outcome_weight w known ≤ weight w) → OptionBelow (length m.nodes) known
known_inside m weight None h less = tt
known_inside m weight (Some id) h less = type_inside m weight id.number h less

-- ---- at first
module _ (of : ℕ → Tree) (rows : List IeRow) (old mid : Cursor) where
  abbrev pub asked_container : Path → (seen.Value → Prog) → Prog
  asked_container p = asks p (container (rows_of of rows))

  abbrev after_count : Path → (seen.Value → Prog) → ℕ → Prog
  after_count p K n = ask_ies p (slots_of rows) (λ id. ask_row p (rows_of of rows) id) n (slots_of rows) (λ ies. K (seen.elements ies))

  pub count_wrong : (reason : Reason) → GoesOn (λ p. ask_aligned p (ie_count (mandatory_count (slots_of rows)))) old mid (Err reason)
      → ReadsContainer asked_container of old mid (Err (halts.Error (Wrong reason)))
  count_wrong reason wrong = λ p K. ap (λ (X : Prog). run X old) (container_as of p rows K) ∙ wrong p (after_count p K)

  pub elements_begun : (e : Elements) (p : Path) (K : seen.Value → Prog) → e.rows.now ≡ rows → e.possible.now ≡ rows → e.made.items ≡ []
      → GoesOn (λ p. ask_aligned p (ie_count (mandatory_count (slots_of rows)))) old mid (Ok e.left)
      → run (asked_container p K) old ≡ run (elements_left of e p K) mid
  elements_begun e p K known possible none asked =
      ap (λ (X : Prog). run X old) (container_as of p rows K)
      ∙ asked p (after_count p K)
      ∙ ap (λ (rs : List IeRow). run (ask_ies p (slots_of rs) (λ id. ask_row p (rows_of of rs) id) e.left (slots_of rows)
      (λ ies. K (seen.elements ies))) mid) (sym known)
      ∙ ap (λ (rs : List IeRow). run (ask_ies p (slots_of e.rows.now) (λ id. ask_row p (rows_of of e.rows.now) id) e.left (slots_of rs)
      (λ ies. K (seen.elements ies))) mid) (sym possible)
      ∙ ap (λ (es : List (Element Value)). run (elements_by of e p (ies_before es (λ ies. K (seen.elements ies)))) mid) (sym none)

-- ---- a container that is read after what leads to it
pub reads_after : (of : ℕ → Tree) (question first : Path → (seen.Value → Prog) → Prog) (old mid new : Cursor) (r : Result Value Halt)
    → ((p : Path) (K : seen.Value → Prog) → run (question p K) old ≡ run (first p K) mid)
    → ReadsContainer first of mid new r → ReadsContainer question of old new r
reads_after of question first old mid new (Ok v) e h = λ p K. e p K ∙ h p K
reads_after of question first old mid new (Err (halts.Element f id)) e h = λ p K. e p K ∙ h p K
reads_after of question first old mid new (Err (halts.Wrong f reason)) e h = λ p K. e p K ∙ h p K
reads_after of question first old mid new (Err (halts.Error (Wrong reason))) e h = λ p K. e p K ∙ h p K
reads_after of question first old mid new (Err (halts.Error Memory)) e h = tt

-- one that is refused around its elements' bodies, as a step
pub container_refused : (of : ℕ → Tree) (question : Path → (seen.Value → Prog) → Prog) (error : Unanswered) (fs : List Frame) (old new : Cursor)
    → ReadsContainer question of old new (Err (halts.Error error)) → StepsIn of (question (path_of fs) (next_of of fs)) old new fs (Err error)
container_refused of question (Wrong reason) fs old new h = h (path_of fs) (next_of of fs)
container_refused of question Memory fs old new h = tt

-- no more is left than may be
pub leaves_less : (some more : (ℕ → ℕ) → ℕ) (r : Result Value Halt) → ((w : ℕ → ℕ) → some w ≤ more w) → LeavesLess some r → LeavesLess more r
leaves_less some more (Ok v) less h = tt
leaves_less some more (Err (halts.Element f id)) less h = λ w. omega (arith, less w, h w)
leaves_less some more (Err (halts.Wrong f reason)) less h = tt
leaves_less some more (Err (halts.Error error)) less h = tt
