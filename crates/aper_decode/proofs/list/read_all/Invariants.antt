use Rattle.std.proofs.Common.{◌≡◌, ℕ}
use Rattle.aper_defs.specs.Trees.{Tree}
use Rattle.aper_defs.specs.Values as seen
use Rattle.aper_defs.specs.Fields.{Path}
use Rattle.aper_defs.specs.Questions.{Prog}
use Rattle.aper_defs.specs.Reading.{run}
use Rattle.aper_values.specs.types.Forms.{form_tree}
use Rattle.aper_frames.specs.Frames.{members_left}
use Rattle.aper_decode.proofs.list.read_all.Given as goal

-- what is left is asked as it was at first
abbrev pub invariant-loop-others : goal.invariant-loop-others
invariant-loop-others l = record {
  same : (of : ℕ → Tree) (p : Path) (K : seen.Value → Prog) → of l.fn.members.element.number ≡ form_tree of l.fn.form
      → run (members_left of l.fn.members p K) l.fn.cursor ≡ run (members_left of l.others p K) l.cursor;
  element : l.others.element ≡ l.fn.members.element;
}

abbrev pub decreases-loop-others : goal.decreases-loop-others
decreases-loop-others l = l.others.left
