use Rattle.std.proofs.Common.{◌≡◌, ◌++◌, take}
use Rattle.dup.specs.text.Print.{print, happens_text}
use Rattle.dup.proofs.text.print.print_happening.Given as goal

-- the text so far: the event, and the lines that were printed
abbrev pub invariant-loop-line : goal.invariant-loop-line
invariant-loop-line l = l.text ≡ happens_text l.fn.event ++ print (take l.line-index l.lines)
