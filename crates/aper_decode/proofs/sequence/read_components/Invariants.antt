use Rattle.std.proofs.Common.{◌≡◌, ℕ, ◌≤◌}
use Rattle.aper_defs.specs.Reading.{run}
use Rattle.aper_values.specs.types.Types.{tree}
use Rattle.aper_frames.specs.Frames.{components_left, path_of, next_of}
use Rattle.aper_frames.specs.Weights.{components_weight}
use Rattle.aper_decode.proofs.sequence.read_components.Given as goal

-- what is left is asked as it was at first, and is no more than that
abbrev pub invariant-loop-others : goal.invariant-loop-others
invariant-loop-others l = record {
  same : run (components_left (tree l.m) l.fn.components (path_of l.fn.frames) (next_of (tree l.m) l.fn.frames)) l.fn.cursor
      ≡ run (components_left (tree l.m) l.others (path_of l.fn.frames) (next_of (tree l.m) l.fn.frames)) l.cursor;
  frames : l.frames ≡ l.fn.frames;
  lighter : (w : ℕ → ℕ) → components_weight w l.others ≤ components_weight w l.fn.components;
}

abbrev pub decreases-loop-others : goal.decreases-loop-others
decreases-loop-others l = components_weight (λ id. 0) l.others
