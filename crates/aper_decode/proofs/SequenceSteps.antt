-- Steps of a SEQUENCE: its flags and components, and the marks of its additions.
use Rattle.std.proofs.Common.{◌≡◌, ℕ, List, [], ◌∷◌, ◌++◌, Option, Some, Bool, false, Result, Err, refl, sym, ap, ◌∙◌}
use Rattle.asn1_syntax.specs.declared.types.definition.Component.{Component}
use Rattle.aper_defs.specs.declared.reason.Reason.{Reason}
use Rattle.aper_defs.specs.Trees.{Tree, Parts, part, no_parts, sequence}
use Rattle.aper_defs.specs.Values as seen
use Rattle.aper_defs.specs.Fields.{Path}
use Rattle.aper_defs.specs.Questions.{Prog, ask_extension, ask_flags}
use Rattle.aper_defs.specs.Asking.{asks, ask_components, ask_marks, ask_additions}
use Rattle.aper_defs.specs.Reading.{Cursor, run}
use Rattle.aper_cursor.specs.declared.error.Unanswered.{Unanswered}
use Rattle.aper_cursor.specs.declared.error.Unanswered.TheVariants.{Wrong, Memory}
use Rattle.aper_cursor.specs.asking.Going.{GoesOn, GoesOnOrMemory}
use Rattle.aper_values.specs.types.Types.{parts_of}
use Rattle.aper_values.specs.declared.value.Value.{Value}
use Rattle.aper_values.specs.Views.{view, options_view}
use Rattle.aper_frames.specs.declared.frame.Components.{Components}
use Rattle.aper_frames.specs.declared.frame.Additions.{Additions}
use Rattle.aper_frames.specs.declared.frame.Frame.{Frame}
use Rattle.aper_frames.specs.declared.frame.Turn.{Turn}
use Rattle.aper_frames.specs.declared.parts.Addition.{Addition}
use Rattle.aper_frames.specs.declared.parts.Addition.TheVariants as additions
use Rattle.aper_frames.specs.Frames.{options_before, after_components, components_left, after_additions, additions_left, additions_next, path_of, next_of}
use Rattle.aper_frames.specs.Steps.{Steps}
use Rattle.aper_frames.proofs.Before.{options_end, options_present}
use Rattle.aper_frames.proofs.Onward.{steps_after, first_wrong}

-- what is asked after others is refused
refused_after : {A : Type 0} (P : (ℕ → Tree) → Prog) (inner : (ℕ → Tree) → Path → (A → Prog) → Prog) (rest : (ℕ → Tree) → A → Prog)
    (old mid new : Cursor) (fs : List Frame) (error : Unanswered)
    → ((of : ℕ → Tree) → run (P of) old ≡ run (inner of (path_of fs) (rest of)) mid)
    → ((of : ℕ → Tree) → GoesOnOrMemory (inner of) mid new (Err error)) → Steps P old new fs (Err error)
refused_after P inner rest old mid new fs (Wrong reason) e h = λ of. e of ∙ h of (path_of fs) (rest of)
refused_after P inner rest old mid new fs Memory e h = tt

module _ (of : ℕ → Tree) (root adds : List Component) (p : Path) (K : seen.Value → Prog) where
  -- what is asked after the flags, and after the extension bit
  abbrev pub after_flags : Bool → List Bool → Prog
  after_flags extended there = ask_components p (parts_of of root) there (λ vs.
      ask_marks p extended (λ added. ask_additions p (parts_of of adds) added (λ more. K (seen.components vs more))))

  abbrev pub after_extension : Bool → Prog
  after_extension extended = ask_flags p (parts_of of root) (after_flags extended)

  sequence_as : (e : Bool) → asks p (sequence e (parts_of of root) (parts_of of adds)) K ≡ ask_extension p e after_extension
  unfolding asks
  sequence_as e = refl

-- ---- the beginning of a SEQUENCE
module _ (e : Bool) (root adds : List Component) (fs : List Frame) (old mid : Cursor) where
  abbrev pub asked_sequence : (ℕ → Tree) → Prog
  asked_sequence of = asks (path_of fs) (sequence e (parts_of of root) (parts_of of adds)) (next_of of fs)

  pub extension_wrong : (reason : Reason) → GoesOn (λ p. ask_extension p e) old mid (Err reason)
      → Steps asked_sequence old mid fs (Err (Wrong reason))
  extension_wrong reason h =
      first_wrong asked_sequence (λ p. ask_extension p e) (λ of. after_extension of root adds (path_of fs) (next_of of fs)) old mid fs reason
      (λ of. sequence_as of root adds (path_of fs) (next_of of fs) e) h

  module _ (x : Bool) (extension : (p : Path) (J : Bool → Prog) → run (ask_extension p e J) old ≡ run (J x) mid) (late : Cursor) where
    extended : (of : ℕ → Tree) → run (asked_sequence of) old ≡ run (after_extension of root adds (path_of fs) (next_of of fs) x) mid
    extended of =
        ap (λ P. run P old) (sequence_as of root adds (path_of fs) (next_of of fs) e)
        ∙ extension (path_of fs) (after_extension of root adds (path_of fs) (next_of of fs))

    pub flags_refused : (error : Unanswered) → ((of : ℕ → Tree) → GoesOnOrMemory (λ p. ask_flags p (parts_of of root)) mid late (Err error))
        → Steps asked_sequence old late fs (Err error)
    flags_refused error h =
        refused_after asked_sequence (λ of p. ask_flags p (parts_of of root)) (λ of. after_flags of root adds (path_of fs) (next_of of fs) x)
        old mid late fs error extended h

    pub sequence_begun : (of : ℕ → Tree) (there : List Bool) (c : Components)
        → c.left.now ≡ root → c.additions.now ≡ adds → c.extended ≡ x → c.there ≡ there → c.made.items ≡ []
        → ((p : Path) (J : List Bool → Prog) → run (ask_flags p (parts_of of root) J) mid ≡ run (J there) late)
        → run (asked_sequence of) old ≡ run (components_left of c (path_of fs) (next_of of fs)) late
    sequence_begun of there c left added ext marks made flags =
        extended of ∙ flags (path_of fs) (after_flags of root adds (path_of fs) (next_of of fs) x) ∙ ap (λ P. run P late) same
      where
        same : after_flags of root adds (path_of fs) (next_of of fs) x there ≡ components_left of c (path_of fs) (next_of of fs)
        same =
            ap (λ cs. after_flags of cs adds (path_of fs) (next_of of fs) x there) (sym left)
            ∙ ap (λ cs. after_flags of c.left.now cs (path_of fs) (next_of of fs) x there) (sym added)
            ∙ ap (λ b. after_flags of c.left.now c.additions.now (path_of fs) (next_of of fs) b there) (sym ext)
            ∙ ap (λ bs. after_flags of c.left.now c.additions.now (path_of fs) (next_of of fs) c.extended bs) (sym marks)
            ∙ ap (λ vs. ask_components (path_of fs) (parts_of of c.left.now) c.there
            (options_before vs (after_components of c (path_of fs) (next_of of fs)))) (sym made)

-- ---- the additions after the components
without_marks : (p : Path) (parts : Parts) (K : seen.Options → Prog) → ask_additions p parts [] K ≡ K seen.no_options
unfolding asks
without_marks p no_parts K = refl
without_marks p (part name optional t others) K = refl

module _ (c : Components) (fs : List Frame) (old mid : Cursor) where
  abbrev pub asked_additions : (ℕ → Tree) → Prog
  asked_additions of = options_before c.made.items (after_components of c (path_of fs) (next_of of fs)) seen.no_options

  abbrev pub after_marks : (ℕ → Tree) → List Bool → Prog
  after_marks of added = ask_additions (path_of fs) (parts_of of c.additions.now) added
      (λ more. next_of of fs (seen.components (options_view c.made.items) more))

  additions_as : (of : ℕ → Tree) → run (asked_additions of) old ≡ run (ask_marks (path_of fs) c.extended (after_marks of)) old
  additions_as of = ap (λ P. run P old) (options_end c.made.items (after_components of c (path_of fs) (next_of of fs)))

  -- where no extension bit is 1, none is there
  pub additions_none : (v : Value) (empty : List (Option Value)) → c.extended ≡ false → empty ≡ []
      → view v ≡ seen.components (options_view c.made.items) (options_view empty)
      → (of : ℕ → Tree) → run (asked_additions of) old ≡ run (next_of of fs (view v)) old
  additions_none v empty none is e of =
      additions_as of ∙ ap (λ b. run (ask_marks (path_of fs) b (after_marks of)) old) none
      ∙ ap (λ P. run P old) (without_marks (path_of fs) (parts_of of c.additions.now) (λ more. next_of of fs (seen.components (options_view c.made.items) more)))
      ∙ ap (λ (vs : List (Option Value)). run (next_of of fs (seen.components (options_view c.made.items) (options_view vs))) old) (sym is)
      ∙ ap (λ (x : seen.Value). run (next_of of fs x) old) (sym e)

  pub marks_refused : (error : Unanswered) → GoesOnOrMemory (λ p. ask_marks p c.extended) old mid (Err error)
      → Steps asked_additions old mid fs (Err error)
  marks_refused error h =
      refused_after asked_additions (λ of p. ask_marks p c.extended) after_marks old old mid fs error additions_as (λ of. h)

  pub additions_begun : (there : List Bool) (a : Additions) (new : Cursor) (gs : List Frame) (r : Result Turn Unanswered)
      → a.left.now ≡ c.additions.now → a.root.items ≡ c.made.items → a.there ≡ there → a.made.items ≡ []
      → ((p : Path) (J : List Bool → Prog) → run (ask_marks p c.extended J) old ≡ run (J there) mid)
      → Steps (λ of. additions_left of a (path_of fs) (next_of of fs)) mid new gs r → Steps asked_additions old new gs r
  additions_begun there a new gs r left root marks made asked h =
      steps_after r asked_additions (λ of. additions_left of a (path_of fs) (next_of of fs)) old mid new gs (λ of.
      additions_as of ∙ asked (path_of fs) (after_marks of) ∙ ap (λ P. run P mid) (same of)) h
    where
      same : (of : ℕ → Tree) → after_marks of there ≡ additions_left of a (path_of fs) (next_of of fs)
      same of =
          ap (λ cs. ask_additions (path_of fs) (parts_of of cs) there
          (λ more. next_of of fs (seen.components (options_view c.made.items) more))) (sym left)
          ∙ ap (λ vs. ask_additions (path_of fs) (parts_of of a.left.now) there
          (λ more. next_of of fs (seen.components (options_view vs) more))) (sym root)
          ∙ ap (λ bs. ask_additions (path_of fs) (parts_of of a.left.now) bs (after_additions a (next_of of fs))) (sym marks)
          ∙ ap (λ vs. ask_additions (path_of fs) (parts_of of a.left.now) a.there
          (options_before vs (after_additions a (next_of of fs)))) (sym made)

-- no addition is left
pub additions_end : (of : ℕ → Tree) (a n : Additions) (x : Addition) (fs : List Frame) (v : Value)
    → additions_left of a (path_of fs) (next_of of fs) ≡ additions_next of n (path_of fs) (next_of of fs) x → x ≡ additions.End
    → view v ≡ seen.components (options_view n.root.items) (options_view n.made.items)
    → additions_left of a (path_of fs) (next_of of fs) ≡ next_of of fs (view v)
additions_end of a n x fs v asked is e =
    asked ∙ ap (additions_next of n (path_of fs) (next_of of fs)) is
    ∙ options_end n.made.items (after_additions n (next_of of fs)) ∙ ap (next_of of fs) (sym e)

-- a component or addition more, whatever is asked then
pub option_put : (others : (seen.Options → Prog) → Prog) (made more : List (Option Value)) (v : Value) (J : seen.Options → Prog)
    → more ≡ made ++ Some v ∷ []
    → others (λ vs. options_before made J (seen.present (view v) vs)) ≡ others (options_before more J)
option_put others made more v J e =
    ap others (sym (options_present made v J)) ∙ ap (λ (ms : List (Option Value)). others (options_before ms J)) (sym e)
