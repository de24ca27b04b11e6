use Rattle.std.proofs.Common.{◌≡◌, ℕ, ◌+◌, ◌-◌, ◌<◌, ◌≤◌, List, ◌++◌, length}
use Rattle.aper_defs.specs.Fields.{Path}
use Rattle.aper_defs.specs.Questions.{Prog, ask_characters}
use Rattle.aper_defs.specs.Reading.{run}
use Rattle.aper_cursor.proofs.strings.units.ask_characters.Given as goal

-- the characters that are still to come, put after those that are there
abbrev pub invariant-loop-done : goal.invariant-loop-done
invariant-loop-done l = record {
  asked : (p : Path) (K : List ℕ → Prog) → run (ask_characters p l.count (λ us. K (l.fn.out.items ++ us))) l.fn.cursor
      ≡ run (ask_characters p (l.count - l.done) (λ us. K (l.out.items ++ us))) l.cursor;
  size : length l.out.items ≡ length l.fn.out.items + l.done;
  on : l.fn.cursor.place + l.done ≤ l.cursor.place;
  limit : 0 < l.done → l.cursor.place ≤ 1048576;
}
