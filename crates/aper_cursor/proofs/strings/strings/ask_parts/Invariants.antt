use Rattle.std.proofs.Common.{◌≡◌, ℕ, ◌-◌, ◌*◌, ◌<◌, ◌≤◌, List, ◌++◌, length}
use Rattle.aper_defs.specs.Fields.{Path}
use Rattle.aper_defs.specs.Questions.{Prog, ask_all_parts, ask_parts}
use Rattle.aper_defs.specs.Reading.{run}
use Rattle.aper_cursor.specs.strings.Contents.{content_of}
use Rattle.aper_cursor.proofs.strings.strings.ask_parts.Given as goal

-- The parts that are still to come, put after those that are there. Each of these has 16,384 bits at least.
abbrev pub invariant-loop-turn : goal.invariant-loop-turn
invariant-loop-turn l = record {
  asked : (p : Path) (K : List ℕ → Prog)
      → run (ask_all_parts p (content_of l.content) l.outside (λ us. K (l.fn.out.items ++ us))) l.fn.cursor
      ≡ run (ask_parts p (content_of l.content) l.outside (65 - l.turn) (length l.out.items) l.previous (λ us. K (l.out.items ++ us))) l.cursor;
  few : length l.out.items ≤ 65536 * l.turn;
  on : 16384 * l.turn ≤ l.cursor.place;
  limit : 0 < l.turn → l.cursor.place ≤ 1048576;
}
