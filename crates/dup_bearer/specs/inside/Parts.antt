-- Internal: parts of an event, with lines after earlier ones.
use Rattle.std.specs.Prelude.{◌≡◌, List, map, Result, Ok, Err}
use Rattle.dup_defs.specs.declared.types.error.DupError.{DupError}
use Rattle.dup_defs.specs.declared.types.error.DupError.TheVariants as errors
use Rattle.dup_defs.specs.declared.types.line.DupLine.{DupLine}
use Rattle.dup_defs.specs.declared.types.put.Put.{Put}
use Rattle.dup_defs.specs.dup_run_defs.Run.{DupOutcome, goes_on, lines_first, put_line, with_puts}
use Rattle.dup_bearer.specs.dup_pdcp.Entity.{puts_of_code}
use Rattle.dup_bearer.specs.Bearers.{BearerState, with_run}
use Rattle.dup_bearer.specs.declared.fault.DupFault.{DupFault}
use Rattle.dup_bearer.specs.declared.fault.DupFault.TheVariants as faults

-- the lines of an outcome stand after earlier lines, and the run is the one after it
pub record IsPart (outcome : DupOutcome) (old new : BearerState) (before after : List DupLine) : Type 0 where
  pub lines : lines_first before outcome ≡ goes_on after new.run
  pub same : new ≡ with_run old new.run

-- what the transmitting entity put stands on its legs; or it put nothing
abbrev pub IsAnswered : Result (List Put) DupError → BearerState → BearerState → List DupLine → List DupLine → Result (Unit {0}) DupFault → Type 0
IsAnswered (Ok puts) old new before after (Ok done) =
    IsPart (goes_on (map (put_line old.sn) (puts_of_code old.sn puts)) (with_puts (puts_of_code old.sn puts) old.run)) old new before after
IsAnswered (Ok puts) old new before after (Err faults.Memory) = Unit {0}
IsAnswered (Ok puts) old new before after (Err faults.CountsSpent) = ⊥
IsAnswered (Err error) old new before after (Ok done) = ⊥
IsAnswered (Err errors.Memory) old new before after (Err fault) = fault ≡ faults.Memory
IsAnswered (Err error) old new before after (Err fault) = fault ≡ faults.CountsSpent
