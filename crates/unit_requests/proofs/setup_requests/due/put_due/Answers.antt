use Rattle.std.proofs.Common.{◌++◌, ap, ◌∙◌}
use Rattle.transactions.specs.declared.caller.Due.{Due}
use Rattle.unit_requests.specs.setup_requests.Dues.{put_again}
use Rattle.unit_requests.proofs.setup_requests.DueSteps.{one_is_put}
use Rattle.unit_requests.proofs.setup_requests.due.put_due.Goals as goal

pub loop-item-preserved : goal.loop-item-preserved
loop-item-preserved c =
    one_is_put c.loop-item.item-index c.args.due.now c.item-item.result c.loop-item.outputs c.put_one.new.outputs _ c.loop-item-test.true
    (c.in_ok-put_one.ensures ∙ ap (λ (d : Due). c.loop-item.outputs ++ put_again d) c.item-item.is)
    c.loop-item.invariant
