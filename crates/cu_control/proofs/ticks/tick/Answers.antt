use Rattle.std.proofs.Common.{ap, ◌∙◌, subst}
use Rattle.std.specs.Prelude.{Err}
use Rattle.std.proofs.lemmas.Result.{err_from_is_err_and}
use Rattle.unit_defs.specs.CuCp.{tick}
use Rattle.unit_defs.specs.octet_defs.Codec.{octet_way}
use Rattle.unit_messages.specs.steps.Steps.{step_after, IsStep}
use Rattle.unit_requests.specs.Requests.{Kept as Transactions}
use Rattle.cu_control.proofs.TickSteps.{Kept, tick_goes, tick_stops}
use Rattle.cu_control.proofs.ticks.tick.Goals as goal

pub returns-in_err-due_each : goal.returns-in_err-due_each
returns-in_err-due_each g c =
    let inside = c.record.inside in
    let seen : Transactions → Kept = λ t. record { gnb = inside.gnb; units = inside.units.items; terminals = inside.terminals; transactions = t } in
    let p = err_from_is_err_and c.from_residual-in_err-due_each.result c.from_residual-in_err-due_each.ensures.1 in
    rw (p.1, p.2)
    (subst
    (λ (k : Kept). IsStep {X = Unit {0}} (step_after c.args.outputs.now (tick (octet_way g.C.MessageCodec.codec) k)) c.due_each.new.outputs c.due_each.new.record
    (Err c.in_err-due_each.field-0.0))
    c.record.view_is
    (tick_stops g.C.MessageCodec.codec c.args.outputs.now c.due_each.new.outputs c.due_each.new.outputs (seen inside.requests) (seen c.tick.new.self) c.due_each.new.record
    c.due_each.new.record c.as_slice.result.now (ap seen c.in_ok-due.ensures.ok) (c.as_slice.ensures ∙ c.in_ok-due.ensures.due) (Unit {0}) (Unit {0})
    c.in_err-due_each.field-0.0 c.in_err-due_each.ensures))

pub returns : goal.returns
returns g c =
    let inside = c.record.inside in
    let seen : Transactions → Kept = λ t. record { gnb = inside.gnb; units = inside.units.items; terminals = inside.terminals; transactions = t } in
    subst
    (λ (k : Kept). IsStep (step_after c.args.outputs.now (tick (octet_way g.C.MessageCodec.codec) k)) c.command_each.new.outputs c.command_each.new.record
    c.command_each.result)
    c.record.view_is
    (tick_goes g.C.MessageCodec.codec c.args.outputs.now c.due_each.new.outputs c.command_each.new.outputs (seen inside.requests) (seen c.tick.new.self) c.due_each.new.record
    c.command_each.new.record c.as_slice.result.now (ap seen c.in_ok-due.ensures.ok) (c.as_slice.ensures ∙ c.in_ok-due.ensures.due) c.as_slice-2.result.now
    c.command_each.result c.in_ok-due_each.ensures (c.as_slice-2.ensures ∙ c.in_ok-ues.ensures) c.command_each.ensures)
