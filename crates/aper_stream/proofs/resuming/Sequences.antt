-- A SEQUENCE: its beginning, and its additions.
use Rattle.std.proofs.Common.{◌≡◌, ℕ, List, [], Bool, Ok, Err, refl, sym, ap, ◌∙◌}
use Rattle.asn1_syntax.specs.declared.types.definition.Component.{Component}
use Rattle.aper_defs.specs.declared.reason.Reason.{Reason}
use Rattle.aper_defs.specs.Trees.{Tree, sequence, boolean}
use Rattle.aper_defs.specs.Values as seen
use Rattle.aper_defs.specs.Fields.{Path}
use Rattle.aper_defs.specs.Questions.{Prog, ask_extension, ask_flags}
use Rattle.aper_defs.specs.Asking.{asks, ask_components, ask_marks, ask_additions}
use Rattle.aper_defs.specs.Reading.{Cursor, run}
use Rattle.proof_aper.specs.pieces.Onto.{onto}
use Rattle.proof_aper.proofs.followed.Stays.{stays}
use Rattle.proof_aper.proofs.followed.Shut.{keeps}
use Rattle.proof_aper.proofs.followed.Told.{told_extension, told_flags, told_marks}
use Rattle.aper_cursor.specs.declared.error.Unanswered.{Unanswered}
use Rattle.aper_cursor.specs.declared.error.Unanswered.TheVariants.{Wrong, Memory}
use Rattle.aper_cursor.specs.asking.Going.{GoesOn, GoesOnOrMemory}
use Rattle.aper_values.specs.types.Types.{parts_of}
use Rattle.aper_values.specs.Views.{options_view}
use Rattle.aper_frames.specs.declared.frame.Components.{Components}
use Rattle.aper_frames.specs.declared.frame.Additions.{Additions}
use Rattle.aper_frames.specs.declared.frame.Frame.{Frame}
use Rattle.aper_frames.specs.Frames.{options_before, after_components, components_left, after_additions, additions_left, path_of, next_of}
use Rattle.aper_frames.proofs.Before.{options_end}
use Rattle.aper_decode.proofs.SequenceSteps.{after_flags, after_extension, after_marks}
use Rattle.aper_stream.specs.declared.resuming.pending.Pending.{Pending}
use Rattle.aper_stream.specs.declared.resuming.pending.Pending.TheVariants as pendings
use Rattle.aper_stream.specs.resuming.Turns.{left, IsLeft, Resumes, Turns, handed_back}
use Rattle.aper_stream.proofs.resuming.Leading.{wrong_on, turn_on, turn_refused}

sequence_as : (of : ℕ → Tree) (root adds : List Component) (p : Path) (K : seen.Value → Prog) (e : Bool)
    → asks p (sequence e (parts_of of root) (parts_of of adds)) K ≡ ask_extension p e (after_extension of root adds p K)
unfolding asks
sequence_as of root adds p K e = refl

module _ (e : Bool) (root adds : List Component) (fs : List Frame) (old mid : Cursor) where
  abbrev pub whole_sequence : (ℕ → Tree) → Prog
  whole_sequence of = asks (path_of fs) (sequence e (parts_of of root) (parts_of of adds)) (next_of of fs)

  pub extension_wrong : (reason : Reason) → GoesOn (λ p. ask_extension p e) old mid (Err reason)
      → Resumes whole_sequence old mid fs (Err (Wrong reason))
  extension_wrong reason asked =
      wrong_on (λ p. ask_extension p e) whole_sequence (λ of. after_extension of root adds (path_of fs) (next_of of fs)) fs
      (λ of. sequence_as of root adds (path_of fs) (next_of of fs) e) old mid reason asked

  module _ (x : Bool) (extension : (p : Path) (J : Bool → Prog) → run (ask_extension p e J) old ≡ run (J x) mid) (late : Cursor) where
    pub flags_refused : (error : Unanswered) → ((of : ℕ → Tree) → GoesOnOrMemory (λ p. ask_flags p (parts_of of root)) mid late (Err error))
        → Resumes whole_sequence old late fs (Err error)
    flags_refused (Wrong reason) h = λ of.
        ap (λ (P : Prog). run P old) (sequence_as of root adds (path_of fs) (next_of of fs) e)
        ∙ extension (path_of fs) (after_extension of root adds (path_of fs) (next_of of fs))
        ∙ h of (path_of fs) (after_flags of root adds (path_of fs) (next_of of fs) x)
    flags_refused Memory h = tt

    pub sequence_begun : (there : List Bool) (c : Components) (gs : List Frame) (next : Pending)
        → c.left.now ≡ root → c.additions.now ≡ adds → c.extended ≡ x → c.there ≡ there → c.made.items ≡ []
        → ((of : ℕ → Tree) (p : Path) (J : List Bool → Prog) → run (ask_flags p (parts_of of root) J) mid ≡ run (J there) late)
        → ((of : ℕ → Tree) → components_left of c (path_of fs) (next_of of fs) ≡ left of next gs)
        → Resumes whole_sequence old late gs (Ok next)
    sequence_begun there c gs next is_root added ext marks made flags on = (
      keeps (λ p. ask_flags p (parts_of (λ n. boolean) root)) (told_flags (parts_of (λ n. boolean) root)) mid late there (flags (λ n. boolean))
          ∙ keeps (λ p. ask_extension p e) (told_extension e) old mid x extension,
      λ of more.
          ap (λ (P : Prog). run P (onto more old)) (sequence_as of root adds (path_of fs) (next_of of fs) e)
          ∙ stays (λ p. ask_extension p e) (told_extension e) old mid x extension more (path_of fs)
          (after_extension of root adds (path_of fs) (next_of of fs))
          ∙ stays (λ p. ask_flags p (parts_of of root)) (told_flags (parts_of of root)) mid late there (flags of) more (path_of fs)
          (after_flags of root adds (path_of fs) (next_of of fs) x)
          ∙ ap (λ (P : Prog). run P (onto more late)) (same of ∙ on of),
    )
      where
        same : (of : ℕ → Tree)
            → after_flags of root adds (path_of fs) (next_of of fs) x there ≡ components_left of c (path_of fs) (next_of of fs)
        same of =
            ap (λ cs. after_flags of cs adds (path_of fs) (next_of of fs) x there) (sym is_root)
            ∙ ap (λ cs. after_flags of c.left.now cs (path_of fs) (next_of of fs) x there) (sym added)
            ∙ ap (λ b. after_flags of c.left.now c.additions.now (path_of fs) (next_of of fs) b there) (sym ext)
            ∙ ap (λ bs. after_flags of c.left.now c.additions.now (path_of fs) (next_of of fs) c.extended bs) (sym marks)
            ∙ ap (λ vs. ask_components (path_of fs) (parts_of of c.left.now) c.there
            (options_before vs (after_components of c (path_of fs) (next_of of fs)))) (sym made)

-- ---- the marks of additions
module _ (c : Components) (fs : List Frame) (old mid : Cursor) where
  marks_as : (of : ℕ → Tree) → left of (pendings.Marks c) fs ≡ ask_marks (path_of fs) c.extended (after_marks c fs old mid of)
  marks_as of = options_end c.made.items (after_components of c (path_of fs) (next_of of fs))

  pub marks_refused : (error : Unanswered) → GoesOnOrMemory (λ p. ask_marks p c.extended) old mid (Err error)
      → Turns (pendings.Marks c) old mid fs fs (Err (handed_back error (pendings.Marks c)))
  marks_refused error asked =
      turn_refused (λ p. ask_marks p c.extended) (pendings.Marks c) (after_marks c fs old mid) fs marks_as old mid error asked

  pub marks_taken : (there : List Bool) (a : Additions) (next : Pending)
      → a.left.now ≡ c.additions.now → a.root.items ≡ c.made.items → a.there ≡ there → a.made.items ≡ []
      → ((p : Path) (J : List Bool → Prog) → run (ask_marks p c.extended J) old ≡ run (J there) mid)
      → IsLeft (λ gs of. additions_left of a (path_of gs) (next_of of gs)) next
      → Turns (pendings.Marks c) old mid fs fs (Ok next)
  marks_taken there a next is_left root marks made asked on =
      turn_on (λ p. ask_marks p c.extended) (pendings.Marks c) (after_marks c fs old mid) fs marks_as old mid
      (told_marks c.extended) there next fs asked (λ of. same of ∙ on fs of)
    where
      same : (of : ℕ → Tree) → after_marks c fs old mid of there ≡ additions_left of a (path_of fs) (next_of of fs)
      same of =
          ap (λ cs. ask_additions (path_of fs) (parts_of of cs) there
          (λ more. next_of of fs (seen.components (options_view c.made.items) more))) (sym is_left)
          ∙ ap (λ vs. ask_additions (path_of fs) (parts_of of a.left.now) there
          (λ more. next_of of fs (seen.components (options_view vs) more))) (sym root)
          ∙ ap (λ bs. ask_additions (path_of fs) (parts_of of a.left.now) bs (after_additions a (next_of of fs))) (sym marks)
          ∙ ap (λ vs. ask_additions (path_of fs) (parts_of of a.left.now) a.there
          (options_before vs (after_additions a (next_of of fs)))) (sym made)
