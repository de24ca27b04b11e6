use Rattle.std.proofs.Common.{◌≡◌, ◌+◌, ◌-◌, drop, length}
use Rattle.unit_defs.specs.Messages.{statuses_of, are_bearers}
use Rattle.unit_defs.specs.CuUp.{bearers_from}
use Rattle.cu_up_contexts.proofs.bearer_context.context.Context.is_named_by_statuses.Given as goal

abbrev pub invariant-loop-status : goal.invariant-loop-status
invariant-loop-status l = record {
  number : l.number ≡ l.status-index + 1;
  all :
      are_bearers (bearers_from l.number (length l.statuses - l.status-index)) (statuses_of (drop l.status-index l.statuses))
      ≡ are_bearers (bearers_from 1 (length l.statuses)) (statuses_of l.statuses);
}
