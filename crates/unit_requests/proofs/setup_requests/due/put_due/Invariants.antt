use Rattle.std.proofs.Common.{◌≡◌, ◌++◌, drop}
use Rattle.std.specs.List.{flat_map}
use Rattle.unit_requests.specs.setup_requests.Dues.{put_again}
use Rattle.unit_requests.proofs.setup_requests.due.put_due.Given as goal

abbrev pub invariant-loop-item : goal.invariant-loop-item
invariant-loop-item l = l.outputs ++ flat_map put_again (drop l.item-index l.due) ≡ l.fn.outputs ++ flat_map put_again l.due
