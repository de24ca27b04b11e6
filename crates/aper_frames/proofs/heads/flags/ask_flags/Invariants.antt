use Rattle.std.proofs.Common.{◌≡◌, ℕ, Bool, List, ◌++◌, length, drop}
use Rattle.aper_defs.specs.Fields.{Path}
use Rattle.aper_defs.specs.Trees.{Tree}
use Rattle.aper_defs.specs.Questions.{Prog, ask_flags}
use Rattle.aper_defs.specs.Reading.{run}
use Rattle.aper_values.specs.types.Types.{parts_of}
use Rattle.aper_frames.proofs.heads.flags.ask_flags.Given as goal

-- the components that are still to come, after those before them
abbrev pub invariant-loop-part : goal.invariant-loop-part
invariant-loop-part l = record {
  asked : (of : ℕ → Tree) (p : Path) (K : List Bool → Prog) → run (ask_flags p (parts_of of l.parts) K) l.fn.cursor
      ≡ run (ask_flags p (parts_of of (drop l.part-index l.parts)) (λ bs. K (l.there.items ++ bs))) l.cursor;
  size : length l.there.items ≡ l.part-index;
}
