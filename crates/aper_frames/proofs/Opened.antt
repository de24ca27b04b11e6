-- Open types inside values.
use Rattle.std.proofs.Common.{◌≡◌, ℕ, List, ◌∷◌, Ok, Err, sym, ap, ◌∙◌}
use Rattle.asn1_syntax.specs.declared.types.definition.TypeId.{TypeId}
use Rattle.aper_defs.specs.declared.reason.Reason.{Reason}
use Rattle.aper_defs.specs.Fields.{Path, opening, closing, end}
use Rattle.aper_defs.specs.Questions.{Prog, ask, ask_aligned}
use Rattle.aper_defs.specs.Asking.{asks}
use Rattle.aper_defs.specs.Reading.{Cursor, run}
use Rattle.aper_cursor.specs.declared.error.Unanswered.{Unanswered}
use Rattle.aper_cursor.specs.declared.error.Unanswered.TheVariants.{Wrong, Memory}
use Rattle.aper_cursor.specs.asking.Going.{fault_at, GoesOnOrMemory}
use Rattle.aper_frames.specs.declared.heads.raw.RawError.TheVariants as errors
use Rattle.aper_frames.specs.heads.Raw.{GoesOnRaw}
use Rattle.aper_values.specs.declared.value.Value.{Value}
use Rattle.aper_frames.specs.declared.frame.Frame.{Frame}
use Rattle.aper_frames.specs.declared.frame.Frame.TheVariants as frames
use Rattle.aper_frames.specs.declared.frame.Turn.TheVariants as turns
use Rattle.aper_frames.specs.Frames.{inside_of, after, path_of, next_of, asked_inside, asked_unknown}
use Rattle.aper_frames.specs.Steps.{left, Steps}

module _ (f : Frame) (fs : List Frame) (old new : Cursor) where
  pub inside_on : (id : TypeId) (n : ℕ) (some more : List Frame) → ((p : Path) (J : ℕ → Prog) → run (ask_aligned p opening J) old ≡ run (J n) new)
      → some ≡ f ∷ fs → more ≡ frames.Open ∷ some
      → Steps (λ of. asked_inside of f id fs) old new more (Ok (turns.Read id))
  inside_on id n some more asked one two = λ of.
      asked (path_of fs) (λ m. asks (inside_of f (path_of fs)) (of id.number)
      (λ v. ask (inside_of f (path_of fs)) closing (λ k. ask (inside_of f (path_of fs)) end (λ z. after of f (path_of fs) (next_of of fs) v))))
      ∙ ap (λ gs. run (left of (turns.Read id) gs) new) (sym (two ∙ ap (λ gs. frames.Open ∷ gs) one))

  pub inside_refused : (id : TypeId) (e : Unanswered) → GoesOnOrMemory (λ p. ask_aligned p opening) old new (Err e)
      → Steps (λ of. asked_inside of f id fs) old new fs (Err e)
  inside_refused id (Wrong reason) h = λ of. h (path_of fs) (λ m. asks (inside_of f (path_of fs)) (of id.number)
      (λ v. ask (inside_of f (path_of fs)) closing (λ k. ask (inside_of f (path_of fs)) end (λ z. after of f (path_of fs) (next_of of fs) v))))
  inside_refused id Memory h = tt

  pub unknown_on : (v : Value) (some : List Frame) → GoesOnRaw old new (Ok v) → some ≡ f ∷ fs
      → Steps (λ of. asked_unknown of f fs) old new some (Ok (turns.Made v))
  unknown_on v some h e = λ of.
      h (path_of fs) (inside_of f (path_of fs)) (after of f (path_of fs) (next_of of fs)) ∙ ap (λ gs. run (left of (turns.Made v) gs) new) (sym e)

  pub unknown_refused : (reason : Reason) (some : List Frame) → GoesOnRaw old new (Err (errors.Octets reason)) → some ≡ f ∷ fs
      → Steps (λ of. asked_unknown of f fs) old new some (Err (Wrong reason))
  unknown_refused reason some h e = λ of.
      h (path_of fs) (inside_of f (path_of fs)) (after of f (path_of fs) (next_of of fs)) ∙ ap (λ gs. Err (fault_at new reason (path_of gs))) (sym e)

  pub unknown_length : (reason : Reason) → GoesOnRaw old new (Err (errors.Length reason))
      → Steps (λ of. asked_unknown of f fs) old new fs (Err (Wrong reason))
  unknown_length reason h = λ of. h (path_of fs) (inside_of f (path_of fs)) (after of f (path_of fs) (next_of of fs))
