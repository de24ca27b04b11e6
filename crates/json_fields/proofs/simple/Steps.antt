-- A way that is one step longer.
use Rattle.std.proofs.Common.{◌≡◌, List, [], ◌∷◌, ◌++◌, map, refl, ap}
use Rattle.aper_defs.specs.Fields.{Path}
use Rattle.aper_frames.specs.Paths.{step_view}
use Rattle.aper_frames.specs.declared.path.Step.{Step}

pub steps_more : (steps : List Step) (step : Step) (p : Path)
    → map step_view (steps ++ step ∷ []) ++ p ≡ map step_view steps ++ step_view step ∷ p
steps_more [] step p = refl
steps_more (first ∷ steps) step p = ap (λ (q : Path). step_view first ∷ q) (steps_more steps step p)
