-- Where no call failed, no status reports one.
use Rattle.std.specs.Prelude.{◌≡◌, ℕ}
use Rattle.gnb_base.specs.Outside.{SourceAt, SinkAt, Rose}
use Rattle.command_defs.specs.Outside.{ReadsTo, AllRead, ReadStopped, WritesTo, AllWritten, WriteStopped}

pub no_read_fault : {before after : SourceAt} {code : ℕ} → code ≡ 6 → (Rose before.faults after.faults → ⊥) → ReadsTo before after code → ⊥
no_read_fault e none (AllRead h other) = other e
no_read_fault e none (ReadStopped h is) = none h.faults

pub no_write_fault : {before after : SinkAt} {code : ℕ} → code ≡ 7 → (Rose before.faults after.faults → ⊥) → WritesTo before after code → ⊥
no_write_fault e none (AllWritten h other) = other e
no_write_fault e none (WriteStopped h is) = none h.faults
