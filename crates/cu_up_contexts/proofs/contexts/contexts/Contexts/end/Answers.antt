use Rattle.std.proofs.Common.{sym, ◌∙◌}
use Rattle.cu_up_contexts.proofs.contexts.Endings.{ended_step}
use Rattle.cu_up_contexts.proofs.contexts.contexts.Contexts.end.Goals as goal

pub returns : goal.returns
returns c = λ codec r.
    ended_step codec r c.args.ue c.args.out.now c.close_each.new.out
    c.self.inside.next_teid c.self.inside.tunnels c.close_each.new.tunnels c.self.inside.contexts c.take.new.self c.args.self.now c.in-Some.context
    c.as_slice.result.now c.self.view_is (sym c.in-Some.ensures.value) (c.as_slice.ensures ∙ c.in_ok-teids.ensures)
    c.in_ok-close_each.ensures.tunnels c.in_ok-close_each.ensures.out c.take.ensures.rest
