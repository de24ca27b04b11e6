-- Members of a SEQUENCE OF, one at a time.
use Rattle.std.proofs.Common.{◌≡◌, ℕ, List, [], ◌∷◌, ◌++◌, length, Result, Ok, Err, refl, sym, ap, ◌∙◌}
use Rattle.std.specs.Prelude.{IfOk, Option}
use Rattle.asn1_syntax.specs.declared.types.definition.Size.{Size}
use Rattle.asn1_syntax.specs.declared.types.definition.TypeId.{TypeId}
use Rattle.aper_defs.specs.declared.reason.Reason.{Reason}
use Rattle.aper_defs.specs.Trees.{Tree, sequence_of}
use Rattle.aper_defs.specs.Values as seen
use Rattle.aper_defs.specs.Fields as fields
use Rattle.aper_defs.specs.Questions.{Prog, ask_members, ask_count}
use Rattle.aper_defs.specs.Asking.{asks}
use Rattle.aper_defs.specs.Reading.{Cursor, run}
use Rattle.proof_aper.specs.pieces.Onto.{onto}
use Rattle.proof_aper.proofs.followed.Told.{told_count}
use Rattle.aper_cursor.specs.declared.error.Unanswered.TheVariants.{Wrong}
use Rattle.aper_cursor.specs.asking.Going.{GoesOn}
use Rattle.aper_values.specs.declared.value.Value.{Value}
use Rattle.aper_values.specs.Views.{view, values_view}
use Rattle.aper_frames.specs.declared.frame.Members.{Members}
use Rattle.aper_frames.specs.declared.frame.Frame.{Frame}
use Rattle.aper_frames.specs.Frames.{values_before, ask_member, members_left, member_after, path_of, next_of}
use Rattle.aper_frames.proofs.Before.{values_end}
use Rattle.aper_decode.proofs.ListLemmas.{member_put}
use Rattle.aper_stream.specs.declared.resuming.pending.Pending.{Pending}
use Rattle.aper_stream.specs.declared.resuming.pending.Pending.TheVariants as pendings
use Rattle.aper_stream.specs.resuming.Turns.{left, Resumes}
use Rattle.aper_stream.proofs.resuming.Leading.{leads_as, answered_on, wrong_on}

pub members_last : (of : ℕ → Tree) (m : Members) (fs : List Frame) (v : Value) → m.left ≡ 0 → view v ≡ seen.list (values_view m.made.items)
    → members_left of m (path_of fs) (next_of of fs) ≡ left of (pendings.Made v) fs
members_last of m fs v none e =
    ap (λ (n : ℕ). ask_members (ask_member of m (path_of fs)) (length m.made.items) n
    (values_before m.made.items (λ vs. next_of of fs (seen.list vs)))) none
    ∙ values_end m.made.items (λ vs. next_of of fs (seen.list vs)) ∙ ap (next_of of fs) (sym e)

-- a member more; the list's values before and after it are those of two records that are otherwise the same
pub put_leads : {E : Type 0} (r : Result Pending E) (m n : Members) (v : Value) (fs more : List Frame) → n.element ≡ m.element
    → n.left ≡ m.left
    → n.made.items ≡ m.made.items ++ v ∷ []
    → IfOk r (λ next. (of : ℕ → Tree) → members_left of n (path_of fs) (next_of of fs) ≡ left of next more)
    → IfOk r (λ next. (of : ℕ → Tree) → member_after of m (path_of fs) (next_of of fs) (view v) ≡ left of next more)
put_leads r m n v fs more element count put h =
    leads_as r (λ of. member_after of m (path_of fs) (next_of of fs) (view v)) (λ of. members_left of n (path_of fs) (next_of of fs)) more
    (λ of. member_put (ask_member of m (path_of fs)) m.left m.made.items n.made.items v (λ vs. next_of of fs (seen.list vs)) put
    ∙ ap (λ (e : TypeId). ask_members (λ i. asks (fields.member i ∷ path_of fs) (of e.number)) (length n.made.items) m.left
    (values_before n.made.items (λ vs. next_of of fs (seen.list vs)))) (sym element)
    ∙ ap (λ (k : ℕ). ask_members (ask_member of n (path_of fs)) (length n.made.items) k
    (values_before n.made.items (λ vs. next_of of fs (seen.list vs)))) (sym count))
    h

-- ---- the first member
module _ (size : Option Size) (element : TypeId) (fs : List Frame) where
  abbrev pub whole_list : (ℕ → Tree) → Prog
  whole_list of = asks (path_of fs) (sequence_of size (of element.number)) (next_of of fs)

  abbrev pub after_count : (ℕ → Tree) → ℕ → Prog
  after_count of n = ask_members (λ i. asks (fields.member i ∷ path_of fs) (of element.number)) 0 n (λ vs. next_of of fs (seen.list vs))

  list_as : (of : ℕ → Tree) → whole_list of ≡ ask_count (path_of fs) size (after_count of)
  unfolding asks
  list_as of = refl

  pub list_wrong : (old new : Cursor) (reason : Reason) → GoesOn (λ p. ask_count p size) old new (Err reason)
      → Resumes whole_list old new fs (Err (Wrong reason))
  list_wrong old new reason asked = wrong_on (λ p. ask_count p size) whole_list after_count fs list_as old new reason asked

  pub list_begun : (old new : Cursor) (m : Members) (next : Pending) (more : List Frame) → m.element ≡ element → m.made.items ≡ []
      → GoesOn (λ p. ask_count p size) old new (Ok m.left)
      → ((of : ℕ → Tree) → members_left of m (path_of fs) (next_of of fs) ≡ left of next more)
      → Resumes whole_list old new more (Ok next)
  list_begun old new m next more is none asked on =
      answered_on (λ p. ask_count p size) whole_list after_count fs list_as old new (told_count size) m.left next more asked
      (λ of. ap (λ (e : TypeId). ask_members (λ i. asks (fields.member i ∷ path_of fs) (of e.number)) 0 m.left
      (λ vs. next_of of fs (seen.list vs))) (sym is)
      ∙ ap (λ (vs : List Value). ask_members (ask_member of m (path_of fs)) (length vs) m.left
      (values_before vs (λ vs. next_of of fs (seen.list vs)))) (sym none)
      ∙ on of)
