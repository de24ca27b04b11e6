use Rattle.std.proofs.Common.{◌≡◌, ℕ, ◌≤◌, length}
use Rattle.aper_defs.specs.Trees.{Tree}
use Rattle.aper_defs.specs.Values as seen
use Rattle.aper_defs.specs.Fields.{Path}
use Rattle.aper_defs.specs.Questions.{Prog}
use Rattle.aper_frames.specs.Frames.{components_left}
use Rattle.aper_frames.specs.Weights.{components_weight}
use Rattle.aper_frames.proofs.frame.Components.next.Given as goal

abbrev pub invariant-loop-is_there : goal.invariant-loop-is_there
invariant-loop-is_there l = record {
  same : (of : ℕ → Tree) (p : Path) (K : seen.Value → Prog) → components_left of l.fn.self p K ≡ components_left of l.self p K;
  lighter : (w : ℕ → ℕ) → components_weight w l.self ≤ components_weight w l.fn.self;
}

abbrev pub decreases-loop-is_there : goal.decreases-loop-is_there
decreases-loop-is_there l = length l.self.there
