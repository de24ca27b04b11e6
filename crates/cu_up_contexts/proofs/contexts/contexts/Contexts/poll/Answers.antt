use Rattle.std.proofs.Common.{sym, ap, ◌∙◌}
use Rattle.gnb_types.specs.Orders.{ue_cmp}
use Rattle.tables.specs.Tables.{find}
use Rattle.unit_messages.specs.steps.Steps.{stepped}
use Rattle.cu_up_contexts.specs.contexts.Tables.{CuUpTables, with_tables}
use Rattle.cu_up_contexts.proofs.contexts.Polls.{polled_nowhere, polled_step}
use Rattle.cu_up_contexts.proofs.contexts.contexts.Contexts.poll.Goals as goal

pub returns-in_default : goal.returns-in_default
returns-in_default c = λ codec r.
    polled_nowhere codec c.args.out.now r c.args.ue c.args.bearer c.args.self.now
    (sym (c.in_default.ensures.value ∙ ap (λ (t : CuUpTables). find ue_cmp t.contexts c.args.ue) c.self.view_is))
    ∙ (λ k. stepped (sym c.in_ok-push.ensures.ok k) (with_tables r (sym c.self.view_is k)))

pub returns : goal.returns
returns c = λ codec r.
    polled_step codec c.args.out.now r c.args.ue c.args.bearer c.self.inside.next_teid c.self.inside.tunnels c.self.inside.contexts c.args.self.now
    c.in-Some.context.now c.poll.new.self c.poll.new.out c.poll.result c.self.view_is (sym c.in-Some.ensures.value) c.in-Some.ensures.same
    (c.poll.ensures codec)
