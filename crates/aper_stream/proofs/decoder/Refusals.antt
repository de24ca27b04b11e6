-- Refusals.
use Rattle.std.proofs.Common.{◌≡◌, ℕ, List, Result, Err, sym, ap, ◌∙◌}
use Rattle.aper_defs.specs.declared.reason.Reason.{Reason}
use Rattle.aper_defs.specs.Values as seen
use Rattle.aper_defs.specs.Fields.{Path}
use Rattle.aper_defs.specs.Reading.{Fault}
use Rattle.aper_frames.specs.declared.path.Step.{Step}
use Rattle.aper_frames.specs.Paths.{path_view}
use Rattle.aper_decode.specs.declared.error.DecodeError.{DecodeError}
use Rattle.aper_decode.specs.declared.error.DecodeError.TheVariants as errors
use Rattle.aper_decode.specs.Turns.{IsRefusal}
use Rattle.aper_stream.specs.decoder.Feeding.{RefusesStill}
use Rattle.aper_stream.specs.decoder.inside.States.{Gives}

module _ (bit : ℕ) (reason : Reason) (way : Path) where
  abbrev pub fault_of : Fault
  fault_of = record { bit = bit; reason = reason; path = way }

  pub same_fault : (place : ℕ) (why : Reason) (path : List Step) → place ≡ bit → why ≡ reason → path_view path ≡ way
      → fault_of ≡ record { bit = place; reason = why; path = path_view path }
  same_fault place why path a b c =
      sym (ap (λ (n : ℕ). (let f : Fault = record { bit = n; reason = why; path = path_view path } in f)) a
      ∙ ap (λ (r : Reason). (let f : Fault = record { bit = bit; reason = r; path = path_view path } in f)) b
      ∙ ap (λ (p : Path). (let f : Fault = record { bit = bit; reason = reason; path = p } in f)) c)

  pub still_refused : (e : DecodeError) → IsRefusal bit reason way e → RefusesStill fault_of (Err e)
  still_refused (errors.Refused place why path) h = same_fault place why path.items h.0 h.1 h.2
  still_refused errors.Memory h = tt

  pub gives_refusal : (e : DecodeError) → IsRefusal bit reason way e → Gives (Err fault_of) (Err e)
  gives_refusal (errors.Refused place why path) h =
      ap (λ (f : Fault). (let r : Result seen.Value Fault = Err f in r)) (same_fault place why path.items h.0 h.1 h.2)
  gives_refusal errors.Memory h = tt
