-- What is asked of a container: how many information elements it has, then each of them.
use Rattle.std.proofs.Common.{◌≡◌, ℕ, suc, ◌==◌, cond, Bool, true, false, List, [], ◌∷◌, ◌++◌, Option, Some, None, Err, refl, sym, ap, ◌∙◌}
use Rattle.asn1_syntax.specs.declared.types.definition.TypeId.{TypeId}
use Rattle.asn1_syntax.specs.declared.assignments.assignment.IeRow.{IeRow}
use Rattle.asn1_syntax.specs.declared.assignments.assignment.Presence.{Presence}
use Rattle.asn1_syntax.specs.declared.assignments.assignment.Presence.TheVariants as presences
use Rattle.aper_defs.specs.declared.reason.Reason.{Reason}
use Rattle.aper_defs.specs.Trees.{Tree, Slot, container, slots, slots_left, mandatory_count}
use Rattle.aper_defs.specs.Values as seen
use Rattle.aper_defs.specs.Fields.{Path, ie_count}
use Rattle.aper_defs.specs.Fields as fields
use Rattle.aper_defs.specs.Questions.{Prog, ask_aligned, ask_open, ask_raw, ask_ies}
use Rattle.aper_defs.specs.Asking.{asks, ask_row}
use Rattle.aper_defs.specs.Reading.{Cursor}
use Rattle.aper_cursor.specs.declared.error.Unanswered.TheVariants.{Wrong}
use Rattle.aper_cursor.specs.Questions.{slots_of, slot_of, is_mandatory}
use Rattle.aper_cursor.specs.asking.Going.{GoesOn}
use Rattle.aper_values.specs.types.Types.{rows_of}
use Rattle.aper_values.specs.types.Types as types
use Rattle.aper_values.specs.declared.value.Value.{Value}
use Rattle.aper_values.specs.declared.value.Element.{Element}
use Rattle.aper_values.specs.Views.{view, ies_view}
use Rattle.aper_frames.specs.declared.heads.elements.ElementHead.{ElementHead}
use Rattle.aper_frames.specs.heads.Heads.{ask_element_head}
use Rattle.aper_fields.specs.members.Rows.{row_type}
use Rattle.aper_frames.specs.declared.frame.Elements.{Elements}
use Rattle.aper_frames.specs.declared.frame.Frame.{Frame}
use Rattle.aper_frames.specs.declared.frame.Frame.TheVariants as frames
use Rattle.aper_frames.specs.Frames.{ies_before, elements_left, element_after, path_of, next_of, asked_contents}
use Rattle.aper_frames.specs.Steps.{Steps}
use Rattle.aper_frames.proofs.Before.{ies_more, ies_end}
use Rattle.aper_frames.proofs.Onward.{first_wrong}

presence_same : (x : Presence) → types.is_mandatory x ≡ is_mandatory x
presence_same presences.Mandatory = refl
presence_same presences.Optional = refl

module _ (of : ℕ → Tree) where
  pub slots_same : (rows : List IeRow) → slots (rows_of of rows) ≡ slots_of rows
  slots_same [] = refl
  slots_same (r ∷ rows) =
      ap (λ (b : Bool). (let s : Slot = record { id = r.id; mandatory = b } in s ∷ slots (rows_of of rows))) (presence_same r.presence)
      ∙ ap (λ (ss : List Slot). slot_of r ∷ ss) (slots_same rows)

  module _ (p : Path) where
    -- the body of an element of a type, or of none
    abbrev pub asked_row : ℕ → (seen.Value → Prog) → Option TypeId → Prog
    asked_row id J None = ask_raw p (fields.element id ∷ p) J
    asked_row id J (Some t) = ask_open p (fields.element id ∷ p) (asks (fields.element id ∷ p) (of t.number)) J

    either_row : (id : ℕ) (J : seen.Value → Prog) (b : Bool) (x y : Option TypeId) (P Q : Prog)
        → P ≡ asked_row id J x → Q ≡ asked_row id J y → cond b P Q ≡ asked_row id J (cond b x y)
    either_row id J true x y P Q e f = e
    either_row id J false x y P Q e f = f

    pub row_as : (id : ℕ) (J : seen.Value → Prog) (rows : List IeRow) → ask_row p (rows_of of rows) id J ≡ asked_row id J (row_type id rows)
    unfolding ask_row row_type
    row_as id J [] = refl
    row_as id J (r ∷ rows) = either_row id J (r.id == id) (Some r.definition) (row_type id rows) _ _ refl (row_as id J rows)

    pub container_as : (rows : List IeRow) (K : seen.Value → Prog)
        → asks p (container (rows_of of rows)) K
        ≡ ask_aligned p (ie_count (mandatory_count (slots_of rows)))
        (λ n. ask_ies p (slots_of rows) (λ id. ask_row p (rows_of of rows) id) n (slots_of rows) (λ ies. K (seen.elements ies)))
    unfolding asks
    container_as rows K =
        ap (λ (ss : List Slot). ask_aligned p (ie_count (mandatory_count ss))
        (λ n. ask_ies p ss (λ id. ask_row p (rows_of of rows) id) n ss (λ ies. K (seen.elements ies)))) (slots_same rows)

    -- ---- the next element
    module _ (K : seen.Value → Prog) (e : Elements) where
      abbrev pub all_elements : seen.Ies → Prog
      all_elements = ies_before e.made.items (λ ies. K (seen.elements ies))

      abbrev pub after_body : ℕ → ElementHead → List Slot → seen.Value → Prog
      after_body k head left v = ask_ies p (slots_of e.rows.now) (λ id. ask_row p (rows_of of e.rows.now) id) k left
          (λ others. all_elements (seen.ie head.id head.criticality v others))

      abbrev pub after_element_head : ℕ → ElementHead → Prog
      after_element_head k head = ask_row p (rows_of of e.rows.now) head.id
          (after_body k head (slots_left (slots_of e.rows.now) head.id (slots_of e.possible.now)))

      pub elements_none : e.left ≡ 0 → elements_left of e p K ≡ K (seen.elements (ies_view e.made.items))
      elements_none none =
          ap (λ (n : ℕ). ask_ies p (slots_of e.rows.now) (λ id. ask_row p (rows_of of e.rows.now) id) n (slots_of e.possible.now) all_elements) none
          ∙ ies_end e.made.items (λ ies. K (seen.elements ies))

      pub elements_some : (k : ℕ) → e.left ≡ suc k
          → elements_left of e p K ≡ ask_element_head p (slots_of e.rows.now) (slots_of e.possible.now) k (after_element_head k)
      elements_some k some =
          ap (λ (n : ℕ). ask_ies p (slots_of e.rows.now) (λ id. ask_row p (rows_of of e.rows.now) id) n (slots_of e.possible.now) all_elements) some

      pub element_body : (k : ℕ) (head : ElementHead) (left : List Slot) (x : Option TypeId)
          → left ≡ slots_left (slots_of e.rows.now) head.id (slots_of e.possible.now) → x ≡ row_type head.id e.rows.now
          → after_element_head k head ≡ asked_row head.id (after_body k head left) x
      element_body k head left x slots known =
          ap (λ (ss : List Slot). ask_row p (rows_of of e.rows.now) head.id (after_body k head ss)) (sym slots)
          ∙ row_as head.id (after_body k head left) e.rows.now
          ∙ ap (asked_row head.id (after_body k head left)) (sym known)

-- an element more
pub element_put : (others : (seen.Ies → Prog) → Prog) (made more : List (Element Value)) (e : Element Value) (J : seen.Ies → Prog)
    → more ≡ made ++ e ∷ []
    → others (λ ies. ies_before made J (seen.ie e.id e.criticality (view e.body) ies)) ≡ others (ies_before more J)
element_put others made more e J is =
    ap others (sym (ies_more made e J)) ∙ ap (λ (ms : List (Element Value)). others (ies_before ms J)) (sym is)

-- the body of the next element
pub element_next : (of : ℕ → Tree) (e more : Elements) (head : ElementHead) (x : Option TypeId) (fs : List Frame)
    → more.rows.now ≡ e.rows.now → more.made.items ≡ e.made.items
    → slots_of more.possible.now ≡ slots_left (slots_of e.rows.now) head.id (slots_of e.possible.now) → x ≡ row_type head.id e.rows.now
    → after_element_head of (path_of fs) (next_of of fs) e more.left head
    ≡ asked_contents of (frames.Element (record { head = head; others = more })) x fs
element_next of e more head x fs rows made slots known =
    element_body of (path_of fs) (next_of of fs) e more.left head (slots_of more.possible.now) x slots known
    ∙ ap (λ (J : seen.Value → Prog). asked_row of (path_of fs) head.id J x)
    (ap (λ (rs : List IeRow). (λ v. ask_ies (path_of fs) (slots_of rs) (λ id. ask_row (path_of fs) (rows_of of rs) id) more.left (slots_of more.possible.now)
    (λ others. ies_before e.made.items (λ ies. next_of of fs (seen.elements ies)) (seen.ie head.id head.criticality v others)))) (sym rows)
    ∙ ap (λ (es : List (Element Value)). (λ v. ask_ies (path_of fs) (slots_of more.rows.now) (λ id. ask_row (path_of fs) (rows_of of more.rows.now) id) more.left
    (slots_of more.possible.now) (λ others. ies_before es (λ ies. next_of of fs (seen.elements ies)) (seen.ie head.id head.criticality v others)))) (sym made))
    ∙ same x
  where
    same : (y : Option TypeId) → asked_row of (path_of fs) head.id (element_after of more head.id head.criticality (path_of fs) (next_of of fs)) y
        ≡ asked_contents of (frames.Element (record { head = head; others = more })) y fs
    same None = refl
    same (Some id) = refl

-- how many there are is wrong
pub count_wrong : (rows : List IeRow) (fs : List Frame) (old mid : Cursor) (reason : Reason)
    → GoesOn (λ p. ask_aligned p (ie_count (mandatory_count (slots_of rows)))) old mid (Err reason)
    → Steps (λ of. asks (path_of fs) (container (rows_of of rows)) (next_of of fs)) old mid fs (Err (Wrong reason))
count_wrong rows fs old mid reason asked =
    first_wrong (λ of. asks (path_of fs) (container (rows_of of rows)) (next_of of fs)) (λ p. ask_aligned p (ie_count (mandatory_count (slots_of rows))))
    (λ of n. ask_ies (path_of fs) (slots_of rows) (λ id. ask_row (path_of fs) (rows_of of rows) id) n (slots_of rows) (λ ies. next_of of fs (seen.elements ies)))
    old mid fs reason (λ of. container_as of (path_of fs) rows (next_of of fs)) asked
