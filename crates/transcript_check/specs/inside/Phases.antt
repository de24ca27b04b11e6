-- Internal: how far a check has come, as its contract has it.
use Rattle.std.specs.Prelude.{Result, Ok, Err, reverse}
use Rattle.transcript_check.specs.declared.checker.Phase.{Phase}
use Rattle.transcript_check.specs.declared.checker.Phase.TheVariants as phases
use Rattle.transcript_check.specs.declared.checker.CheckError.{CheckError}
use Rattle.transcript_check.specs.declared.checker.CheckError.TheVariants.{Unsound, Memory}
use Rattle.transcript_check.specs.Steps.{Progress, going, refused, spent}

abbrev pub progress : Phase → Progress
progress (phases.Going past) = going past
progress (phases.Refused lines rule) = refused (reverse lines) rule
progress phases.Spent = spent

-- what a call answers there
abbrev pub answer : Progress → Result (Unit {0}) CheckError
answer (going past) = Ok tt
answer (refused past rule) = Err (Unsound rule)
answer spent = Err Memory
