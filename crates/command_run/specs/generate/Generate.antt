-- What the word `generate` does, for units of any meaning, every list of failing calls, and every end of the run.
use Rattle.std.specs.Prelude.{◌≡◌, ◌⊎◌, ℕ, List, None}
use Rattle.gnb_base.specs.Outside.{SinkAt}
use Rattle.run_defs.specs.Runs.{Transcript}
use Rattle.command_defs.specs.declared.CommonEnd.TheVariants.{WriteFault, Memory}
use Rattle.command_defs.specs.declared.Status.{Status}
use Rattle.command_defs.specs.Outside.{OutsideAt, NoWriteFailed, LastWriteFailed, NoneFailed}
use Rattle.command_defs.specs.Output.{Prints, PrintsFront}
use Rattle.command_defs.specs.Statuses.{done_status, common_status}
use Rattle.command_run.specs.declared.generate.end.GenerateEnd.{GenerateEnd}
use Rattle.command_run.specs.generate.Ends.{generate_status, EndMeets, summary, end_text}

-- What is written of this run's end was written; or a front of it, where a write failed; or nothing, out of memory.
pub data PrintsEnd (run : Transcript (List ℕ)) (packets : ℕ) (before after : SinkAt) (status : Status) : Type 0 where
  Written : (end : GenerateEnd) → EndMeets run packets end → status ≡ generate_status end → Prints before after (end_text end)
      → NoWriteFailed before after
      → PrintsEnd run packets before after status
  Cut : (end : GenerateEnd) → EndMeets run packets end → status ≡ common_status WriteFault → PrintsFront before after (end_text end)
      → LastWriteFailed before after
      → PrintsEnd run packets before after status
  Unwritten : status ≡ common_status Memory → after ≡ before → PrintsEnd run packets before after status

-- Nothing is read.
pub record GenerateMeets (run : Transcript (List ℕ)) (packets : ℕ) (before after : OutsideAt) (status : Status) : Type 0 where
  pub unread : after.source ≡ before.source
  pub prints : PrintsEnd run packets before.sink after.sink status

-- Where no write fails and the run goes on to its end, the line that sums it up is written; or memory ran out.
abbrev pub GeneratesWholly : Transcript (List ℕ) → ℕ → OutsideAt → OutsideAt → Status → Type 0
GeneratesWholly run packets before after status =
    NoneFailed before after → run.stop ≡ None
    → ((status ≡ done_status) × Prints before.sink after.sink (summary packets)) ⊎ (status.code ≡ 9)
