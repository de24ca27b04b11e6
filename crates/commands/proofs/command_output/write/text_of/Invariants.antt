use Rattle.std.proofs.Common.{◌≡◌, take}
use Rattle.scenario_text.specs.Print.{print}
use Rattle.commands.proofs.command_output.write.text_of.Given as goal

-- the text so far, and that of the lines that are left
abbrev pub invariant-loop-line : goal.invariant-loop-line
invariant-loop-line l = l.text ≡ print (take l.line-index l.lines)
