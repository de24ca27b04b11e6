use Rattle.std.proofs.Common.{sym}
use Rattle.du_contexts.proofs.TunnelSteps.{released_step}
use Rattle.du_contexts.proofs.contexts.DuContexts.release.Goals as goal

pub returns : goal.returns
returns c = λ codec r.
    released_step codec r c.args.ue c.in-Some.context c.args.outputs.now c.end_uplinks.new.outputs c.close.new.outputs
    c.self.inside.next_teid c.self.inside.tunnels c.close.new.tunnels c.self.inside.contexts c.take.new.self c.args.self.now
    c.self.view_is (sym c.in-Some.ensures.value) (c.in_ok-end_uplinks.ensures codec) (c.in_ok-close.ensures.outputs codec)
    c.in_ok-close.ensures.tunnels c.take.ensures.rest
