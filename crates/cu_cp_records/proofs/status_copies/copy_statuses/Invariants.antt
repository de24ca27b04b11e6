use Rattle.std.proofs.Common.{◌≡◌, take}
use Rattle.cu_cp_records.proofs.status_copies.copy_statuses.Given as goal

abbrev pub invariant-loop-status : goal.invariant-loop-status
invariant-loop-status l = record { copied : l.copy ≡ take l.status-index l.statuses }
