-- A bearer with duplication as contracts of code see it, and what its events come to.
use Rattle.std.specs.Prelude.{◌≡◌, ℕ, List, Option, None, Result, Ok, Err}
use Rattle.gnb_types.specs.declared.names.SnBits.{SnBits}
use Rattle.dup_bearer.specs.declared.dup_pdcp.ending.DupEnding.{DupEnding}
use Rattle.dup_defs.specs.declared.types.line.DupLine.{DupLine}
use Rattle.dup_defs.specs.declared.types.line.DupLine.TheVariants as lines
use Rattle.dup_defs.specs.dup_run_defs.Run.{DupRun, DupOutcome, new_run, goes_on, counts_spent}
use Rattle.dup_bearer.specs.declared.fault.DupFault.{DupFault}
use Rattle.dup_bearer.specs.declared.fault.DupFault.TheVariants as faults

pub record BearerState : Type 0 where
  pub sn : SnBits
  pub quota : ℕ
  pub run : DupRun
  -- why the transmitting entity is of no use any more, if it isn't
  pub gone : Option DupEnding

abbrev pub new_bearer : SnBits → ℕ → BearerState
new_bearer sn quota = record { sn = sn; quota = quota; run = new_run; gone = None }

abbrev pub with_run : BearerState → DupRun → BearerState
with_run b run = record b { run = run }

-- The code gave this outcome: the lines, and the run after them; or the last COUNT was given. Out of memory nothing is said.
abbrev pub IsOutcome : DupOutcome → DupRun → Result (List DupLine) DupFault → Type 0
IsOutcome outcome after (Ok printed) = outcome ≡ goes_on printed after
IsOutcome outcome after (Err faults.CountsSpent) = outcome ≡ counts_spent
IsOutcome outcome after (Err faults.Memory) = Unit {0}

-- the line of a packet that is handed up
abbrev pub deliver_line : ℕ × List ℕ → DupLine
deliver_line e = lines.Deliver e.0 e.1
