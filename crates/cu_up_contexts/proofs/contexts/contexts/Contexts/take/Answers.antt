use Rattle.std.proofs.Common.{List, sym, ap, ◌∙◌}
use Rattle.std.specs.Ordering.{nat_cmp}
use Rattle.gnb_types.specs.declared.outputs.Output.{Output}
use Rattle.tables.specs.Tables.{find}
use Rattle.unit_messages.specs.steps.Steps.{stepped}
use Rattle.cu_up_contexts.proofs.bearer_context.Steps.{error_as}
use Rattle.cu_up_contexts.specs.contexts.Tables.{with_tables}
use Rattle.cu_up_contexts.proofs.contexts.Comings.{no_tunnel, nowhere, somewhere, stays_step, stops_step, goes_step, shown_closes}
use Rattle.cu_up_contexts.proofs.contexts.contexts.Contexts.take.Goals as goal

pub returns-in_default : goal.returns-in_default
returns-in_default c = λ codec r lawful.
    no_tunnel codec c.args.out.now (with_tables r c.args.self.now) c.args.teid c.args.octets.now
    (nowhere (find nat_cmp c.args.self.now.tunnels c.args.teid) c.in_default.ensures)
    ∙ ap (λ (os : List Output). stepped os (with_tables r c.args.self.now)) (sym c.in_ok-push.ensures.ok)

pub returns-then-not-is_taken : goal.returns-then-not-is_taken
returns-then-not-is_taken c = λ codec r lawful.
    let at = somewhere (find nat_cmp c.args.self.now.tunnels c.args.teid) c.in-Some.place c.in-Some.ensures in
    stays_step codec c.args.out.now c.come.new.out r c.in-Some.place c.args.teid at.0 c.args.octets.now c.args.self.now c.come.new.self at.1
    c.in_ok-is_taken.is_taken c.if-not-is_taken.true (c.in_ok-is_taken.ensures codec lawful)

pub returns-in_err-is_taken : goal.returns-in_err-is_taken
returns-in_err-is_taken c = λ codec r lawful.
    let at = somewhere (find nat_cmp c.args.self.now.tunnels c.args.teid) c.in-Some.place c.in-Some.ensures in
    let out = c.come.new.out in
    let after = with_tables r c.come.new.self in
    error_as (Unit {0}) (Unit {0}) _ out out after after c.in_err-is_taken.field-0.0 c.from_residual-in_err-is_taken.result c.from_residual-in_err-is_taken.ensures.1
    (stops_step codec c.args.out.now out r c.in-Some.place c.args.teid at.0 c.args.octets.now c.args.self.now c.come.new.self at.1
    c.in_err-is_taken.field-0.0 out after (c.in_err-is_taken.ensures codec lawful))

pub returns : goal.returns
returns c = λ codec r lawful.
    let at = somewhere (find nat_cmp c.args.self.now.tunnels c.args.teid) c.in-Some.place c.in-Some.ensures in
    let i = c.self.inside in
    goes_step codec c.args.out.now c.come.new.out r c.in-Some.place c.args.teid at.0 c.args.octets.now c.args.self.now c.come.new.self at.1
    (record { next_teid = i.next_teid; tunnels = c.close_shown.new.tunnels; contexts = i.contexts })
    c.end_where_over.new.out (with_tables r c.end_where_over.new.self) c.end_where_over.result
    c.in_ok-is_taken.is_taken c.if-not-is_taken.false (c.in_ok-is_taken.ensures codec lawful)
    (shown_closes i.next_teid i.tunnels c.close_shown.new.tunnels i.contexts c.come.new.self c.args.out.now c.come.new.out c.shown_after.result.now
    c.as_slice.result.now c.len-before.result c.self.view_is c.close_shown.ensures c.shown_after.ensures c.len-before.ensures c.as_slice.ensures)
    (c.end_where_over.ensures codec r)
