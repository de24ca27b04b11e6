use Rattle.std.proofs.Common.{sym, ap, ◌∙◌}
use Rattle.unit_defs.specs.CuUpRecords.{CuUpFlags}
use Rattle.cu_user.specs.cu_up_rows.Modes.{is_named}
use Rattle.cu_user.proofs.cu_up_rows.FitSteps.{is_not, is_so}
use Rattle.cu_user.proofs.cu_up_rows.fitting.may_switch.Goals as goal

pub returns-then-flags : goal.returns-then-flags
returns-then-flags c = λ codec.
    is_not c.args.context.now.flags.released (is_named codec c.args.context.now c.args.downlinks.now) (sym (ap (λ (f : CuUpFlags). f.released) c.flags-flags.ensures) ∙ c.if-flags.true)

pub returns : goal.returns
returns c = λ codec.
    is_so c.args.context.now.flags.released (is_named codec c.args.context.now c.args.downlinks.now) c.is_named_by.result (sym (ap (λ (f : CuUpFlags). f.released) c.flags-flags.ensures) ∙ c.if-flags.false) (c.is_named_by.ensures codec)
