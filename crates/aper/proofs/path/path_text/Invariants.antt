use Rattle.std.proofs.Common.{◌≡◌, drop, map}
use Rattle.aper_frames.specs.Paths.{step_view}
use Rattle.aper.specs.PathText.{steps_after}
use Rattle.aper.proofs.path.path_text.Given as goal

-- the steps that are left, after the text of those before them
abbrev pub invariant-loop-step : goal.invariant-loop-step
invariant-loop-step l =
    steps_after l.text (map step_view (drop l.step-index l.others)) ≡ steps_after l.initial.text (map step_view l.others)
