-- Alternatives of a CHOICE by their place.
use Rattle.std.proofs.Common.{◌≡◌, ℕ, zero, suc, ◌-◌, ◌<◌, ◌≤◌, cond, Bool, List, [], ◌∷◌, length, get_or, Result, Ok, Err, refl, sym, ap, ◌∙◌, arith}
use Rattle.std.specs.Prelude.{nat_lt, is_some, slice_get, option_copied, Option, Some, None, IfSome}
use Rattle.std.specs.Borrow.{Bor}
use Rattle.std.proofs.lemmas.Bool.{ltb-true, ltb-false}
use Rattle.std.proofs.lemmas.Option.{slice_get-get_or, slice_get_past}
use Rattle.asn1_syntax.specs.declared.types.definition.Component.{Component}
use Rattle.aper_defs.specs.declared.reason.Reason.{Reason}
use Rattle.aper_defs.specs.Trees.{Tree, choice, part_count}
use Rattle.aper_defs.specs.Values as seen
use Rattle.aper_defs.specs.Fields.{Path}
use Rattle.aper_defs.specs.Fields as fields
use Rattle.aper_defs.specs.Questions.{Prog, ask_index, ask_open}
use Rattle.aper_defs.specs.Asking.{asks, ask_alternative, ask_added}
use Rattle.proof_aper.proofs.answers.NumberFacts.{is_below, is_not_below}
use Rattle.aper_defs.specs.Reading.{Cursor, run}
use Rattle.aper_cursor.specs.declared.error.Unanswered.{Unanswered}
use Rattle.aper_cursor.specs.declared.error.Unanswered.TheVariants.{Wrong}
use Rattle.aper_cursor.specs.asking.Going.{GoesOn}
use Rattle.aper_values.specs.types.Types.{parts_of}
use Rattle.aper_frames.specs.declared.frame.Frame.{Frame}
use Rattle.aper_frames.specs.declared.frame.Turn.{Turn}
use Rattle.aper_frames.specs.Frames.{path_of, next_of}
use Rattle.aper_frames.specs.Steps.{Steps}
use Rattle.aper_frames.proofs.Onward.{steps_after, first_wrong}
use Rattle.aper_frames.specs.aper_elements.Added.{asked_added}

-- what is got at a place
pub got : (parts : List Component) (i : ℕ) (r : Option (Bor Component)) → is_some r ≡ nat_lt i (length parts) → IfSome r (λ x. x.now ≡ get_or parts i x.now)
    → option_copied r ≡ slice_get parts i
got parts i None is at = sym (slice_get_past parts i (ltb-false i (length parts) (sym is)))
got parts i (Some x) is at = ap (λ (c : Component). Some c) at ∙ sym (slice_get-get_or parts i x.now (ltb-true i (length parts) (sym is)))

module _ (of : ℕ → Tree) where
  pub parts_count : (parts : List Component) → part_count (parts_of of parts) ≡ length parts
  parts_count [] = refl
  parts_count (c ∷ parts) = ap suc (parts_count parts)

  pub alternative_at : (p : Path) (parts : List Component) (i : ℕ) (c : Component) (J : seen.Value → Prog) → i < length parts → c ≡ get_or parts i c
      → ask_alternative p (parts_of of parts) i J ≡ asks (fields.component c.name ∷ p) (of c.definition.number) J
  unfolding ask_alternative
  alternative_at p [] i c J h e = absurd (omega arith)
  alternative_at p (x ∷ parts) zero c J h e =
      ap (λ (y : Component). asks (fields.component y.name ∷ p) (of y.definition.number) J) (sym e)
  alternative_at p (x ∷ parts) (suc i) c J h e = alternative_at p parts i c J (omega arith) e

  -- what is asked after the index
  abbrev pub after_index : (root adds : List Component) → Path → (seen.Value → Prog) → ℕ → Prog
  after_index root adds p K i = cond (nat_lt i (length root)) (ask_alternative p (parts_of of root) i (λ v. K (seen.chosen i v)))
      (ask_added p (parts_of of adds) (i - length root) (λ v. K (seen.chosen i v)))

  pub choice_as : (e : Bool) (root adds : List Component) (p : Path) (K : seen.Value → Prog)
      → asks p (choice e (parts_of of root) (parts_of of adds)) K ≡ ask_index p (length root) e (after_index root adds p K)
  unfolding asks
  choice_as e root adds p K =
      ap (λ (n : ℕ). ask_index p n e (λ i. cond (nat_lt i n) (ask_alternative p (parts_of of root) i (λ v. K (seen.chosen i v)))
      (ask_added p (parts_of of adds) (i - n) (λ v. K (seen.chosen i v))))) (parts_count root)

  pub root_next : (root adds : List Component) (p : Path) (K : seen.Value → Prog) (i : ℕ) (c : Component) → i < length root → c ≡ get_or root i c
      → after_index root adds p K i ≡ asks (fields.component c.name ∷ p) (of c.definition.number) (λ v. K (seen.chosen i v))
  root_next root adds p K i c h e =
      ap (λ (b : Bool). cond b (ask_alternative p (parts_of of root) i (λ v. K (seen.chosen i v)))
      (ask_added p (parts_of of adds) (i - length root) (λ v. K (seen.chosen i v)))) (is_below i (length root) h)
      ∙ alternative_at p root i c (λ v. K (seen.chosen i v)) h e

  pub added_next : (root adds : List Component) (p : Path) (K : seen.Value → Prog) (i : ℕ) → length root ≤ i
      → after_index root adds p K i ≡ ask_added p (parts_of of adds) (i - length root) (λ v. K (seen.chosen i v))
  added_next root adds p K i h =
      ap (λ (b : Bool). cond b (ask_alternative p (parts_of of root) i (λ v. K (seen.chosen i v)))
      (ask_added p (parts_of of adds) (i - length root) (λ v. K (seen.chosen i v)))) (is_not_below i (length root) h)

  -- what the additions have at a place
  pub added_as : (p : Path) (parts : List Component) (i : ℕ) (x : Option Component) (J : seen.Value → Prog) → x ≡ slice_get parts i
      → ask_added p (parts_of of parts) i J ≡ asked_added of p J x
  unfolding ask_added
  added_as p [] i None J e = refl
  added_as p [] i (Some c) J e = absurd cc
  added_as p (q ∷ parts) zero None J e = absurd cc
  added_as p (q ∷ parts) zero (Some c) J e =
      let same : q ≡ c = cc in
      ap (λ (y : Component). ask_open p (fields.component y.name ∷ p) (asks (fields.component y.name ∷ p) (of y.definition.number)) J) same
  added_as p (q ∷ parts) (suc i) x J e = added_as p parts i x J e

-- ---- steps of a CHOICE
module _ (e : Bool) (root adds : List Component) (fs : List Frame) where
  abbrev pub whole_choice : (ℕ → Tree) → Prog
  whole_choice of = asks (path_of fs) (choice e (parts_of of root) (parts_of of adds)) (next_of of fs)

  pub choice_wrong : (old mid : Cursor) (reason : Reason) → GoesOn (λ p. ask_index p (length root) e) old mid (Err reason)
      → Steps whole_choice old mid fs (Err (Wrong reason))
  choice_wrong old mid reason asked =
      first_wrong whole_choice (λ p. ask_index p (length root) e) (λ of. after_index of root adds (path_of fs) (next_of of fs)) old mid fs reason
      (λ of. choice_as of e root adds (path_of fs) (next_of of fs)) asked

  module _ (old mid new : Cursor) (more : List Frame) (r : Result Turn Unanswered) (i : ℕ)
      (asked : GoesOn (λ p. ask_index p (length root) e) old mid (Ok i)) where
    on_index : (of : ℕ → Tree) → run (whole_choice of) old ≡ run (after_index of root adds (path_of fs) (next_of of fs) i) mid
    on_index of =
        ap (λ (X : Prog). run X old) (choice_as of e root adds (path_of fs) (next_of of fs))
        ∙ asked (path_of fs) (after_index of root adds (path_of fs) (next_of of fs))

    pub choice_root : (c : Component) → i < length root → c ≡ get_or root i c
        → Steps (λ of. asks (fields.component c.name ∷ path_of fs) (of c.definition.number) (λ v. next_of of fs (seen.chosen i v))) mid new more r
        → Steps whole_choice old new more r
    choice_root c less is h =
        steps_after r whole_choice (λ of. asks (fields.component c.name ∷ path_of fs) (of c.definition.number) (λ v. next_of of fs (seen.chosen i v)))
        old mid new more
        (λ of. on_index of ∙ ap (λ (X : Prog). run X mid) (root_next of root adds (path_of fs) (next_of of fs) i c less is)) h

    pub choice_added : (x : Option Component) → length root ≤ i → x ≡ slice_get adds (i - length root)
        → Steps (λ of. asked_added of (path_of fs) (λ v. next_of of fs (seen.chosen i v)) x) mid new more r
        → Steps whole_choice old new more r
    choice_added x least is h =
        steps_after r whole_choice (λ of. asked_added of (path_of fs) (λ v. next_of of fs (seen.chosen i v)) x) old mid new more
        (λ of. on_index of ∙ ap (λ (X : Prog). run X mid) (added_next of root adds (path_of fs) (next_of of fs) i least
        ∙ added_as of (path_of fs) adds (i - length root) x (λ v. next_of of fs (seen.chosen i v)) is)) h
