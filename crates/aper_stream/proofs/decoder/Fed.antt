-- What is answered to a piece, and what a decoder is at then.
use Rattle.std.proofs.Common.{◌≡◌, ℕ, ◌<◌, List, ◌++◌, length, Result, Ok, Err, sym, ap, subst, ◌∙◌}
use Rattle.aper_defs.specs.declared.reason.Reason.{Reason}
use Rattle.aper_defs.specs.Trees.{Tree}
use Rattle.aper_defs.specs.Reading.{Fault}
use Rattle.aper_defs.specs.feeding_defs.Feeding.{stage, wrong}
use Rattle.aper_values.specs.types.Types.{tree}
use Rattle.aper_values.specs.declared.value.Value.{Value}
use Rattle.aper_frames.specs.Frames.{path_of}
use Rattle.aper_decode.specs.declared.error.DecodeError.{DecodeError}
use Rattle.aper_decode.specs.declared.error.DecodeError.TheVariants as errors
use Rattle.aper_stream.specs.declared.steps.step.Next.{Next}
use Rattle.aper_stream.specs.declared.decoder.decoder.Decoder.TheInside.{Inside}
use Rattle.aper_stream.specs.declared.decoder.decoder.Reader.{Reader}
use Rattle.aper_stream.specs.declared.decoder.decoder.State.{State}
use Rattle.aper_stream.specs.declared.decoder.decoder.State.TheVariants as states
use Rattle.aper_stream.specs.declared.decoder.decoder.Step.{Step}
use Rattle.aper_stream.specs.declared.decoder.decoder.Step.TheVariants as steps
use Rattle.aper_stream.specs.decoder.Feeding.{Feeding, reading, there, refused, failed, Decoding, tree_of, Reads, StaysRefused, Feeds}
use Rattle.aper_stream.proofs.decoder.Refusals.{same_fault}
use Rattle.aper_stream.specs.decoder.inside.States.{state_view, decoding_of, type_of, IsStateSound, IsSound, IsSameType, Advances, Answers, AnswersRefusal, UnlessFailed}

module _ (new : Reader) (answer : Result Step DecodeError) (after : State) where
  abbrev seen_after : Feeding
  seen_after = state_view after new.kept.items new.frames

  more_then : (n : Next) → answer ≡ Ok steps.More → UnlessFailed (states.Reading n) answer after → seen_after ≡ reading new.kept.items
  more_then n e h =
      ap (λ (s : State). state_view s new.kept.items new.frames)
      (subst (λ (a : Result Step DecodeError). UnlessFailed (states.Reading n) a after) e h)

  done_then : (v : Value) (used : ℕ) → answer ≡ Ok (steps.Done used) → UnlessFailed (states.Done v used) answer after
      → seen_after ≡ there v
  done_then v used e h =
      ap (λ (s : State). state_view s new.kept.items new.frames)
      (subst (λ (a : Result Step DecodeError). UnlessFailed (states.Done v used) a after) e h)

  failed_then : (s : State) → answer ≡ Err errors.Memory → UnlessFailed s answer after → seen_after ≡ failed
  failed_then s e h =
      ap (λ (x : State). state_view x new.kept.items new.frames)
      (subst (λ (a : Result Step DecodeError). UnlessFailed s a after) e h)

refused_then : (new : Reader) (answer : Result Step DecodeError) (after : State) (bit : ℕ) (reason : Reason)
    → AnswersRefusal bit (record { bit = bit; reason = reason; path = path_of new.frames }) answer
    → UnlessFailed (states.Refused bit reason) answer after
    → StaysRefused (record { bit = bit; reason = reason; path = path_of new.frames }) (state_view after new.kept.items new.frames) answer
refused_then new (Ok step) after bit reason a h = absurd a
refused_then new (Err (errors.Refused place why path)) after bit reason a h = (
  same_fault bit reason (path_of new.frames) place why path.items a.0 a.1 a.2,
  ap (λ (s : State). state_view s new.kept.items new.frames) h,
)
refused_then new (Err errors.Memory) after bit reason a h = ap (λ (s : State). state_view s new.kept.items new.frames) h

reads_refused : (t : Tree) (kept piece : List ℕ) (fault : Fault) (after : Feeding) (answer : Result Step DecodeError)
    → stage t (kept ++ piece) ≡ wrong fault → StaysRefused fault after answer → Reads t kept piece after answer
reads_refused t kept piece fault after (Ok step) s h = absurd h
reads_refused t kept piece fault after (Err (errors.Refused bit reason path)) s h = (s ∙ ap wrong h.0, h.1 ∙ ap refused h.0)
reads_refused t kept piece fault after (Err errors.Memory) s h = h

pub feeds : (old new : Reader) (before state after : State) (piece : List ℕ) (answer : Result Step DecodeError)
    → Advances old before piece new state → Answers new state answer → UnlessFailed state answer after
    → Feeds (type_of old) (state_view before old.kept.items old.frames) piece (state_view after new.kept.items new.frames) answer
feeds old new (states.Reading next) (states.Reading n) after piece answer h a u =
    subst (Reads (type_of old) old.kept.items piece (state_view after new.kept.items new.frames)) (sym a)
    (record { fault = h.1.fault; is = h.1.is; at = more_then new answer after n a u ∙ ap reading h.1.kept })
feeds old new (states.Reading next) (states.Done v used) after piece answer h a u =
    subst (Reads (type_of old) old.kept.items piece (state_view after new.kept.items new.frames)) (sym a)
    (record { value = v; size = h.1.size; is = h.1.is; used_is = h.1.used_is; within = h.1.within; at = done_then new answer after v used a u })
feeds old new (states.Reading next) (states.Refused bit reason) after piece answer h a u =
    reads_refused (type_of old) old.kept.items piece (record { bit = bit; reason = reason; path = path_of new.frames })
    (state_view after new.kept.items new.frames) answer h.1 (refused_then new answer after bit reason a u)
feeds old new (states.Reading next) states.Failed after piece answer h a u =
    subst (Reads (type_of old) old.kept.items piece (state_view after new.kept.items new.frames)) (sym a)
    (failed_then new answer after states.Failed a u)
feeds old new (states.Done v used) state after piece answer h a u =
    let told : answer ≡ Ok (steps.Done 0) = subst (λ (s : State). Answers new s answer) h.1 a in
    (told, done_then new answer after v 0 told (subst (λ (s : State). UnlessFailed s answer after) h.1 u))
feeds old new (states.Refused bit reason) state after piece answer h a u =
    subst (λ (r : Reader). StaysRefused (record { bit = bit; reason = reason; path = path_of r.frames })
    (state_view after new.kept.items new.frames) answer) h.0
    (refused_then new answer after bit reason (subst (λ (s : State). Answers new s answer) h.1 a)
    (subst (λ (s : State). UnlessFailed s answer after) h.1 u))
feeds old new states.Failed state after piece answer h a u =
    let told : answer ≡ Err errors.Memory = subst (λ (s : State). Answers new s answer) h.1 a in
    (told, failed_then new answer after state told u)

-- ---- what holds then
pub same_reader : (old new : Reader) (before state : State) (piece : List ℕ) → Advances old before piece new state → IsSameType old new
same_reader old new (states.Reading next) state piece h = h.0
same_reader old new (states.Done v used) state piece h = (ap (λ (r : Reader). r.module.now) h.0, ap (λ (r : Reader). r.id) h.0)
same_reader old new (states.Refused bit reason) state piece h = (ap (λ (r : Reader). r.module.now) h.0, ap (λ (r : Reader). r.id) h.0)
same_reader old new states.Failed state piece h = (ap (λ (r : Reader). r.module.now) h.0, ap (λ (r : Reader). r.id) h.0)

pub same_tree : (old new : Reader) → IsSameType old new → type_of new ≡ type_of old
same_tree old new h = ap (λ m. tree m new.id.number) h.0 ∙ ap (λ id. tree old.module.now id.number) h.1

pub still_inside : (old new : Reader) → IsSameType old new → old.id.number < length old.module.now.nodes
    → new.id.number < length new.module.now.nodes
still_inside old new h inside =
    subst (λ id. id.number < length new.module.now.nodes) (sym h.1) (subst (λ m. old.id.number < length m.nodes) (sym h.0) inside)

advanced_sound : (old new : Reader) (before state : State) (piece : List ℕ) → Advances old before piece new state → IsStateSound new state
advanced_sound old new (states.Reading next) (states.Reading n) piece h = h.1.fed
advanced_sound old new (states.Reading next) (states.Done v used) piece h = tt
advanced_sound old new (states.Reading next) (states.Refused bit reason) piece h = tt
advanced_sound old new (states.Reading next) states.Failed piece h = tt
advanced_sound old new (states.Done v used) state piece h = subst (IsStateSound new) (sym h.1) tt
advanced_sound old new (states.Refused bit reason) state piece h = subst (IsStateSound new) (sym h.1) tt
advanced_sound old new states.Failed state piece h = subst (IsStateSound new) (sym h.1) tt

pub sound_then : (old new : Reader) (before state after : State) (piece : List ℕ) (answer : Result Step DecodeError)
    → Advances old before piece new state → UnlessFailed state answer after → IsStateSound new after
sound_then old new before state after piece (Ok step) h u = subst (IsStateSound new) (sym u) (advanced_sound old new before state piece h)
sound_then old new before state after piece (Err (errors.Refused bit reason path)) h u =
    subst (IsStateSound new) (sym u) (advanced_sound old new before state piece h)
sound_then old new before state after piece (Err errors.Memory) h u = subst (IsStateSound new) (sym u) tt

-- as it is seen from outside
module _ (inside : Inside) (seen : Decoding) (is : decoding_of inside ≡ seen) (new : Reader) (before state after : State) (piece : List ℕ)
    (answer : Result Step DecodeError) (was : before ≡ inside.state) (advances : Advances inside.reader before piece new state) where
  same_inside : IsSameType inside.reader new
  same_inside = same_reader inside.reader new before state piece advances

  pub types_kept : new.module.now ≡ seen.types
  types_kept = same_inside.0 ∙ ap (λ (d : Decoding). d.types) is

  pub id_kept : new.id ≡ seen.id
  id_kept = same_inside.1 ∙ ap (λ (d : Decoding). d.id) is

  pub fed_on : Answers new state answer → UnlessFailed state answer after
      → Feeds (tree_of seen) seen.now piece (state_view after new.kept.items new.frames) answer
  fed_on a u =
      subst (λ (d : Decoding). Feeds (tree_of d) d.now piece (state_view after new.kept.items new.frames) answer) is
      (feeds inside.reader new inside.state state after piece answer
      (subst (λ (s : State). Advances inside.reader s piece new state) was advances) a u)

  pub sound_on : IsSound inside → UnlessFailed state answer after → IsSound (record { reader = new; state = after })
  sound_on sound u = record {
    inside = still_inside inside.reader new same_inside sound.inside;
    state = sound_then inside.reader new before state after piece answer advances u;
  }
