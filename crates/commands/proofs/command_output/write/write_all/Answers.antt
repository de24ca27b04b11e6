use Rattle.std.proofs.Common.{[], refl}
use Rattle.commands.proofs.command_output.Written.{one_more_piece, none_failed, none_failed_at, none_then_none, prints_none}
use Rattle.commands.proofs.command_output.write.write_all.Goals as goal

pub loop-rest-init : goal.loop-rest-init
loop-rest-init g c = record { part = ([], refl, prints_none _); none = none_failed _ }

pub loop-rest-preserved : goal.loop-rest-preserved
loop-rest-preserved g c = record {
  part = one_more_piece c.in_ok-count.count _ c.loop-rest.invariant.part c.in_ok-count.ensures.bytes c.split_at.ensures.back;
  none = none_then_none c.loop-rest.invariant.none (none_failed_at _ _ c.in_ok-count.ensures.faults.ok c.in_ok-count.ensures.failed);
}
