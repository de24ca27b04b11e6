-- What a call of the program sees of its outside, and how its calls there may fail.
use Rattle.std.specs.Prelude.{◌≡◌, ◌≢◌, ◌⊎◌, ℕ, true}
use Rattle.gnb_base.specs.Outside.{SourceAt, SinkAt, Rose}
use Rattle.command_defs.specs.input_defs.Faults.{NoReadFailed, LastReadFailed}

-- its source and its sink
pub record OutsideAt : Type 0 where
  pub source : SourceAt
  pub sink : SinkAt

abbrev pub outside : SourceAt → SinkAt → OutsideAt
outside source sink = record { source = source; sink = sink }

pub record NoWriteFailed (before after : SinkAt) : Type 0 where
  pub faults : after.faults ≡ before.faults
  pub failed : after.failed ≡ true → before.failed ≡ true

-- one failed, and none was made after it
pub record LastWriteFailed (before after : SinkAt) : Type 0 where
  pub faults : Rose before.faults after.faults
  pub failed : after.failed ≡ true

-- No read failed; or the last one alone did, and the status is that of a read fault, unless the
-- `stop` line was not written, for a write that failed or out of memory.
pub data ReadsTo (before after : SourceAt) (code : ℕ) : Type 0 where
  AllRead : NoReadFailed before after → code ≢ 6 → ReadsTo before after code
  ReadStopped : LastReadFailed before after → (code ≡ 6) ⊎ ((code ≡ 7) ⊎ (code ≡ 9))
      → ReadsTo before after code

-- No write failed; or the last one alone did, and the status is that of a write fault.
pub data WritesTo (before after : SinkAt) (code : ℕ) : Type 0 where
  AllWritten : NoWriteFailed before after → code ≢ 7 → WritesTo before after code
  WriteStopped : LastWriteFailed before after → code ≡ 7 → WritesTo before after code

-- the calls of a word that ended with this status: none is made after one that failed
pub record CallsTo (before after : OutsideAt) (code : ℕ) : Type 0 where
  pub reads : ReadsTo before.source after.source code
  pub writes : WritesTo before.sink after.sink code

-- no call failed
pub record NoneFailed (before after : OutsideAt) : Type 0 where
  pub reads : Rose before.source.faults after.source.faults → ⊥
  pub writes : Rose before.sink.faults after.sink.faults → ⊥
