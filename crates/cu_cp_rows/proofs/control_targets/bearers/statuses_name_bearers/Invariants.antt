use Rattle.std.proofs.Common.{◌≡◌, take}
use Rattle.unit_defs.specs.Messages.{statuses_of}
use Rattle.cu_cp_rows.proofs.control_targets.bearers.statuses_name_bearers.Given as goal

abbrev pub invariant-loop-status : goal.invariant-loop-status
invariant-loop-status l = record { named : l.bearers ≡ statuses_of (take l.status-index l.statuses) }
