use Rattle.std.proofs.Common.{◌≡◌, length}
use Rattle.json_read.proofs.guess.values.absent.Given as goal

abbrev pub invariant-loop : goal.invariant-loop
invariant-loop l = length l.values.items ≡ l.counter
