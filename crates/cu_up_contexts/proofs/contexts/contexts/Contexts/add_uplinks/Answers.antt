use Rattle.std.proofs.Common.{rules, sym, ◌∙◌}
use Rattle.gnb_types.specs.Orders.{ue_cmp}
use Rattle.tables.specs.Tables.{put}
use Rattle.cu_up_contexts.specs.contexts.Tables.{with_tables}
use Rattle.cu_up_contexts.proofs.contexts.Makings.{added_step, added_stops, uplinks_are}
use Rattle.cu_up_contexts.proofs.contexts.contexts.Contexts.add_uplinks.Goals as goal

pub returns-in_err-add_uplinks-clause-step : goal.returns-in_err-add_uplinks-clause-step
returns-in_err-add_uplinks-clause-step c = λ codec r.
    let i = c.self.inside in
    added_stops codec r c.args.ue c.args.out.now c.add_uplinks.new.out i.next_teid c.from-count.result i.tunnels i.contexts c.args.self.now c.in-Some.context.now
    c.self.view_is (sym c.in-Some.ensures.value) (c.from-count.ensures ∙ c.count.ensures) (search rules) c.add_uplinks.new.self
    c.in_err-add_uplinks.field-0.0 c.add_uplinks.new.out
    (with_tables r (record { next_teid = i.next_teid; tunnels = i.tunnels; contexts = put ue_cmp i.contexts c.args.ue c.add_uplinks.new.self }))
    c.from_residual-in_err-add_uplinks.result c.from_residual-in_err-add_uplinks.ensures.1 (c.in_err-add_uplinks.ensures codec)

pub returns-clause-step : goal.returns-clause-step
returns-clause-step c = λ codec r.
    let i = c.self.inside in
    added_step codec r c.args.ue c.args.out.now c.add_uplinks.new.out i.next_teid c.from-count.result i.tunnels i.contexts c.args.self.now c.in-Some.context.now
    c.self.view_is (sym c.in-Some.ensures.value) (c.from-count.ensures ∙ c.count.ensures) (search rules) c.add_uplinks.new.self
    c.teid_after-self-inside.result c.instance-instance.result c.open_uplinks.new.tunnels c.as_slice.result.now (c.as_slice.ensures ∙ c.in_ok-uplinks.ensures codec)
    c.instance-instance.ensures c.in_ok-open_uplinks.ensures c.teid_after-self-inside.ensures (c.in_ok-add_uplinks.ensures codec)

pub returns-clause-tunnels : goal.returns-clause-tunnels
returns-clause-tunnels c = λ codec.
    let i = c.self.inside in
    uplinks_are codec c.args.ue i.next_teid i.tunnels i.contexts c.args.self.now c.in-Some.context.now _
    c.self.view_is (sym c.in-Some.ensures.value) (c.in_ok-uplinks.ensures codec)
