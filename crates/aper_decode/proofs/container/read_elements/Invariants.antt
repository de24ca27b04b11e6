use Rattle.std.proofs.Common.{◌≡◌, ℕ, ◌≤◌}
use Rattle.aper_defs.specs.Fields.{Path}
use Rattle.aper_defs.specs.Questions.{Prog}
use Rattle.aper_defs.specs.Reading.{run}
use Rattle.aper_defs.specs.Values as seen
use Rattle.aper_values.specs.types.Types.{tree}
use Rattle.aper_frames.specs.Frames.{elements_left}
use Rattle.aper_frames.specs.Weights.{elements_weight}
use Rattle.aper_decode.proofs.container.read_elements.Given as goal

-- what is left is asked as it was at first, and is no more than that
abbrev pub invariant-loop-others : goal.invariant-loop-others
invariant-loop-others l = record {
  same : (p : Path) (K : seen.Value → Prog)
      → run (elements_left (tree l.m) l.fn.elements p K) l.fn.cursor ≡ run (elements_left (tree l.m) l.others p K) l.cursor;
  lighter : (w : ℕ → ℕ) → elements_weight w l.others ≤ elements_weight w l.fn.elements;
}

abbrev pub decreases-loop-others : goal.decreases-loop-others
decreases-loop-others l = l.others.left
