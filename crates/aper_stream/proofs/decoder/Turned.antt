-- One turn.
use Rattle.std.proofs.Common.{◌≡◌, ℕ, ◌*◌, ◌≤◌, List, [], length, Result, Ok, Err, sym, ap, subst, ◌∙◌, append-nil}
use Rattle.std.specs.Prelude.{IfOk}
use Rattle.asn1_syntax.specs.declared.assignments.assignment.Syntax.{Syntax}
use Rattle.gnb_types.specs.declared.items.Memory.{Memory}
use Rattle.aper_defs.specs.Trees.{Tree}
use Rattle.aper_defs.specs.Reading.{Cursor}
use Rattle.proof_aper.proofs.followed.Shut.{octets_kept}
use Rattle.aper_values.specs.types.Types.{tree}
use Rattle.aper_values.specs.declared.value.Value.{Value}
use Rattle.aper_values.specs.Views.{view}
use Rattle.aper_frames.specs.declared.frame.Frame.{Frame}
use Rattle.aper_frames.specs.Frames.{path_of}
use Rattle.proof_aper.specs.pieces.Onto.{onto}
use Rattle.aper_stream.specs.aper_resuming.Reading.{IsReading}
use Rattle.aper_stream.proofs.aper_resuming.Turned.{turned, ended, stopped}
use Rattle.aper_stream.specs.declared.steps.step.Next.{Next}
use Rattle.aper_stream.specs.declared.steps.step.Onward.{Onward}
use Rattle.aper_stream.specs.declared.steps.step.Onward.TheVariants as onwards
use Rattle.aper_stream.specs.declared.steps.step.Halted.{Halted}
use Rattle.aper_stream.specs.declared.steps.step.Halted.TheVariants as halts
use Rattle.aper_stream.specs.steps.Steps.{next_left, IsNextLight, IsNextBounded, TakesStep, OnNext}
use Rattle.aper_stream.specs.declared.decoder.spot.Spot.{Spot}
use Rattle.aper_stream.specs.declared.decoder.turns.End.TheVariants as ends
use Rattle.aper_stream.specs.declared.decoder.turns.Turned.{Turned}
use Rattle.aper_stream.specs.declared.decoder.turns.Turned.TheVariants as turneds
use Rattle.aper_stream.specs.decoder.inside.Reading.{cursor_at, IsSpotInside, Stands, IsReadingAt, IsTurned, TurnedStands, IsKept, HaltsTurns}

module _ (m : Syntax) (old new : Cursor) (before after : Spot) (fs gs : List Frame) (next : Next) where
  -- the octets stay the same up to the value
  same_octets : (v : Value) → TakesStep (tree m) next old new fs gs (Ok (onwards.Whole v)) → new.octets ≡ old.octets
  same_octets v h =
      sym (append-nil new.octets)
      ∙ octets_kept (next_left (tree m) next fs) (onto [] old) (view v) (onto [] new) (h [])
      ∙ append-nil old.octets

  kept_turned : (t : Tree) (done : Onward) (result : Turned) → IsReading t old.octets old (next_left (tree m) next fs)
      → TakesStep (tree m) next old new fs gs (Ok done) → IsKept new after done result
      → IsTurned m t old.octets after gs result
  kept_turned t (onwards.Next n) (turneds.Next k) r h o =
      let on : IsReading t old.octets new (next_left (tree m) n gs) =
      turned t old.octets old (next_left (tree m) next fs) r (next_left (tree m) n gs) new h.0 h.1 in
      subst (λ (c : Cursor). IsReading t old.octets c (next_left (tree m) k gs))
      (o.1 ∙ ap (cursor_at after) h.0)
      (subst (λ (x : Next). IsReading t old.octets new (next_left (tree m) x gs)) (sym o.0) on)
  kept_turned t (onwards.Next n) (turneds.End end) r h o = absurd o
  kept_turned t (onwards.Whole v) (turneds.Next k) r h o = absurd o
  kept_turned t (onwards.Whole v) (turneds.End end) r h o =
      subst (λ x. IsTurned m t old.octets after gs (turneds.End x)) (sym o.0)
      (record { opens = new.opens; is = ended t old.octets old (next_left (tree m) next fs) r (view v) new (same_octets v h) h })

  kept_stands : (done : Onward) (result : Turned) → TakesStep (tree m) next old new fs gs (Ok done)
      → OnNext (Ok done) (λ n. IsNextLight m n gs) → OnNext (Ok done) (IsNextBounded new.place) → IsKept new after done result
      → TurnedStands m old.octets new after gs result
  kept_stands (onwards.Next n) (turneds.Next k) h light bounded o = (
    o.1 ∙ ap (cursor_at after) h.0,
    record {
      inside = subst (λ (os : List ℕ). IsSpotInside (length os) after) h.0 o.2;
      light = subst (λ (x : Next). IsNextLight m x gs) (sym o.0) light;
      bounded = subst (λ (p : ℕ). IsNextBounded p k) (ap (λ (c : Cursor). c.place) o.1)
          (subst (λ (x : Next). IsNextBounded new.place x) (sym o.0) bounded);
    },
  )
  kept_stands (onwards.Next n) (turneds.End end) h light bounded o = absurd o
  kept_stands (onwards.Whole v) (turneds.Next k) h light bounded o = absurd o
  kept_stands (onwards.Whole v) (turneds.End end) h light bounded o =
      subst (λ x. TurnedStands m old.octets new after gs (turneds.End x)) (sym o.0)
      (subst (λ (os : List ℕ). new.place ≤ 8 * length os) (same_octets v h) o.1)

  pub turn_kept : (done : Onward) (result : Result Turned Memory) → old ≡ cursor_at before old.octets
      → TakesStep (tree m) next old new fs gs (Ok done) → IfOk result (IsKept new after done)
      → IfOk result (λ r. (t : Tree) → IsReadingAt m t old.octets before next fs → IsTurned m t old.octets after gs r)
  turn_kept done (Ok result) at h o = λ t r.
      kept_turned t done result (subst (λ (c : Cursor). IsReading t old.octets c (next_left (tree m) next fs)) (sym at) r) h o
  turn_kept done (Err e) at h o = tt

  pub turn_stands : (done : Onward) (result : Result Turned Memory) → TakesStep (tree m) next old new fs gs (Ok done)
      → OnNext (Ok done) (λ n. IsNextLight m n gs) → OnNext (Ok done) (IsNextBounded new.place) → IfOk result (IsKept new after done)
      → IfOk result (TurnedStands m old.octets new after gs)
  turn_stands done (Ok result) h light bounded o = kept_stands done result h light bounded o
  turn_stands done (Err e) h light bounded o = tt

  -- a step that isn't taken
  pub turn_halted : (e : Halted) (result : Result Turned Memory) → old ≡ cursor_at before old.octets
      → TakesStep (tree m) next old new fs gs (Err e) → HaltsTurns new.place e result
      → IfOk result (λ r. (t : Tree) → IsReadingAt m t old.octets before next fs → IsTurned m t old.octets before gs r)
  turn_halted (halts.Wrong reason back) (Ok result) at h o = λ t r.
      let c : IsReading t old.octets old (next_left (tree m) next fs) =
      subst (λ (c : Cursor). IsReading t old.octets c (next_left (tree m) next fs)) (sym at) r in
      subst (λ x. IsTurned m t old.octets before gs x) (sym o)
      (subst (λ (hs : List Frame). IsTurned m t old.octets before hs (turneds.End (ends.Wrong new.place reason back))) (sym h.1) (
        stopped t old.octets old (next_left (tree m) next fs) c reason (path_of fs) new h.0,
        subst (λ (x : Next). IsReadingAt m t old.octets before x fs) (sym h.2) r,
      ))
  turn_halted (halts.Wrong reason back) (Err e) at h o = tt
  turn_halted halts.Memory (Ok result) at h o = absurd o
  turn_halted halts.Memory (Err e) at h o = tt

  pub halted_stands : (e : Halted) (result : Result Turned Memory) → Stands m (length old.octets) before next fs
      → TakesStep (tree m) next old new fs gs (Err e) → HaltsTurns new.place e result
      → IfOk result (TurnedStands m old.octets new before gs)
  halted_stands (halts.Wrong reason back) (Ok result) s h o =
      subst (λ x. TurnedStands m old.octets new before gs x) (sym o)
      (subst (λ (hs : List Frame). Stands m (length old.octets) before back hs) (sym h.1)
      (subst (λ (x : Next). Stands m (length old.octets) before x fs) (sym h.2) s))
  halted_stands (halts.Wrong reason back) (Err e) s h o = tt
  halted_stands halts.Memory (Ok result) s h o = absurd o
  halted_stands halts.Memory (Err e) s h o = tt

-- ---- turns after the first one
module _ (m : Syntax) (os octets : List ℕ) (same : os ≡ octets) (after : Spot) (gs : List Frame) (result : Result Turned Memory) (done : Turned)
    (is : result ≡ Ok done) where
  pub turned_reads : (before : Spot) (next : Next) (fs : List Frame)
      → IfOk result (λ r. (t : Tree) → IsReadingAt m t os before next fs → IsTurned m t os after gs r)
      → (t : Tree) → IsReadingAt m t octets before next fs → IsTurned m t octets after gs done
  turned_reads before next fs h =
      let P : List ℕ → Turned → Type 0 = λ x r. (t : Tree) → IsReadingAt m t x before next fs → IsTurned m t x after gs r in
      subst (λ (x : List ℕ). P x done) same (subst (λ (x : Result Turned Memory). IfOk x (P os)) is h)

  pub turned_stands : (c : Cursor) → IfOk result (TurnedStands m os c after gs) → TurnedStands m octets c after gs done
  turned_stands c h =
      subst (λ (x : List ℕ). TurnedStands m x c after gs done) same
      (subst (λ (x : Result Turned Memory). IfOk x (TurnedStands m os c after gs)) is h)
