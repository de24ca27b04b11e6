use Rattle.std.proofs.Common.{◌≡◌, ◌+◌}
use Rattle.unit_defs.specs.Messages.{are_bearers}
use Rattle.unit_defs.specs.CuCpRecords.{bearers_in}
use Rattle.cu_cp_rows.proofs.control_targets.Naming.{rest_agrees}
use Rattle.cu_cp_rows.proofs.control_targets.bearers.are_bearers.Given as goal

abbrev pub invariant-loop-bearer : goal.invariant-loop-bearer
invariant-loop-bearer l = record {
  number : l.next ≡ l.bearer-index + 1;
  rest : are_bearers (bearers_in l.context) l.bearers ≡ rest_agrees l.bearer-index l.context.bearers l.bearers;
}
