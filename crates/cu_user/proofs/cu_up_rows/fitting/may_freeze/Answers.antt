use Rattle.std.proofs.Common.{false, not, ◌&&◌, sym, ap, ◌∙◌}
use Rattle.unit_defs.specs.CuUpRecords.{CuUpFlags}
use Rattle.cu_user.specs.cu_up_rows.Modes.{is_named}
use Rattle.cu_user.proofs.cu_up_rows.FitSteps.{is_not, is_so, goes_on_to, ends_at, is_off, is_on}
use Rattle.cu_user.proofs.cu_up_rows.fitting.may_freeze.Goals as goal

pub returns-then-flags : goal.returns-then-flags
returns-then-flags c = λ codec.
    is_not c.args.context.now.flags.frozen (not c.args.context.now.flags.released && (c.args.context.now.flags.arrived && (is_named codec c.args.context.now c.args.down.now && is_named codec c.args.context.now c.args.up.now))) (sym (ap (λ (f : CuUpFlags). f.frozen) c.flags-flags.ensures) ∙ c.if-flags.true)

pub returns-then-flags-2 : goal.returns-then-flags-2
returns-then-flags-2 c = λ codec.
    is_so c.args.context.now.flags.frozen (not c.args.context.now.flags.released && (c.args.context.now.flags.arrived && (is_named codec c.args.context.now c.args.down.now && is_named codec c.args.context.now c.args.up.now))) false (sym (ap (λ (f : CuUpFlags). f.frozen) c.flags-flags.ensures) ∙ c.if-flags.false)
    (is_not c.args.context.now.flags.released (c.args.context.now.flags.arrived && (is_named codec c.args.context.now c.args.down.now && is_named codec c.args.context.now c.args.up.now)) (sym (ap (λ (f : CuUpFlags). f.released) c.flags-flags.ensures) ∙ c.if-flags-2.true))

pub returns-then-not-flags : goal.returns-then-not-flags
returns-then-not-flags c = λ codec.
    is_so c.args.context.now.flags.frozen (not c.args.context.now.flags.released && (c.args.context.now.flags.arrived && (is_named codec c.args.context.now c.args.down.now && is_named codec c.args.context.now c.args.up.now))) false (sym (ap (λ (f : CuUpFlags). f.frozen) c.flags-flags.ensures) ∙ c.if-flags.false)
    (is_so c.args.context.now.flags.released (c.args.context.now.flags.arrived && (is_named codec c.args.context.now c.args.down.now && is_named codec c.args.context.now c.args.up.now)) false (sym (ap (λ (f : CuUpFlags). f.released) c.flags-flags.ensures) ∙ c.if-flags-2.false)
    (ends_at c.args.context.now.flags.arrived (is_named codec c.args.context.now c.args.down.now && is_named codec c.args.context.now c.args.up.now) (sym (ap (λ (f : CuUpFlags). f.arrived) c.flags-flags.ensures) ∙ is_off c.flags-flags.result.arrived c.if-not-flags.true)))

pub returns-then-not-is_named_by : goal.returns-then-not-is_named_by
returns-then-not-is_named_by c = λ codec.
    is_so c.args.context.now.flags.frozen (not c.args.context.now.flags.released && (c.args.context.now.flags.arrived && (is_named codec c.args.context.now c.args.down.now && is_named codec c.args.context.now c.args.up.now))) false (sym (ap (λ (f : CuUpFlags). f.frozen) c.flags-flags.ensures) ∙ c.if-flags.false)
    (is_so c.args.context.now.flags.released (c.args.context.now.flags.arrived && (is_named codec c.args.context.now c.args.down.now && is_named codec c.args.context.now c.args.up.now)) false (sym (ap (λ (f : CuUpFlags). f.released) c.flags-flags.ensures) ∙ c.if-flags-2.false)
    (goes_on_to c.args.context.now.flags.arrived (is_named codec c.args.context.now c.args.down.now && is_named codec c.args.context.now c.args.up.now) false (sym (ap (λ (f : CuUpFlags). f.arrived) c.flags-flags.ensures) ∙ is_on c.flags-flags.result.arrived c.if-not-flags.false)
    (ends_at (is_named codec c.args.context.now c.args.down.now) (is_named codec c.args.context.now c.args.up.now) (sym (c.if-not-is_named_by.ensures codec)))))

pub returns : goal.returns
returns c = λ codec.
    is_so c.args.context.now.flags.frozen (not c.args.context.now.flags.released && (c.args.context.now.flags.arrived && (is_named codec c.args.context.now c.args.down.now && is_named codec c.args.context.now c.args.up.now))) c.is_named_by-2.result (sym (ap (λ (f : CuUpFlags). f.frozen) c.flags-flags.ensures) ∙ c.if-flags.false)
    (is_so c.args.context.now.flags.released (c.args.context.now.flags.arrived && (is_named codec c.args.context.now c.args.down.now && is_named codec c.args.context.now c.args.up.now)) c.is_named_by-2.result (sym (ap (λ (f : CuUpFlags). f.released) c.flags-flags.ensures) ∙ c.if-flags-2.false)
    (goes_on_to c.args.context.now.flags.arrived (is_named codec c.args.context.now c.args.down.now && is_named codec c.args.context.now c.args.up.now) c.is_named_by-2.result (sym (ap (λ (f : CuUpFlags). f.arrived) c.flags-flags.ensures) ∙ is_on c.flags-flags.result.arrived c.if-not-flags.false)
    (goes_on_to (is_named codec c.args.context.now c.args.down.now) (is_named codec c.args.context.now c.args.up.now) c.is_named_by-2.result (sym (c.if-not-is_named_by.ensures codec)) (c.is_named_by-2.ensures codec))))
