use Rattle.std.proofs.Common.{◌≡◌, ◌++◌, map}
use Rattle.cu_cp_records.proofs.control_records.record.ControlRecord.ues.Given as goal

-- the terminals so far, and those to come, are all
abbrev pub invariant-loop-ue : goal.invariant-loop-ue
invariant-loop-ue l = l.ues ++ map (λ e. e.0) l.ue-iterator ≡ map (λ e. e.0) l.initial.ue-iterator
