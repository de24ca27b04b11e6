use Rattle.std.proofs.Common.{sym, ap, ◌∙◌}
use Rattle.unit_defs.specs.CuUpRecords.{CuUpFlags}
use Rattle.unit_defs.specs.Messages.{statuses_of, are_bearers}
use Rattle.unit_defs.specs.CuUp.{names}
use Rattle.unit_defs.specs.octet_defs.Codec.{octet_way}
use Rattle.cu_user.proofs.cu_up_rows.FitSteps.{is_not, is_so}
use Rattle.cu_user.proofs.cu_up_rows.fitting.may_know.Goals as goal

pub returns-then-flags : goal.returns-then-flags
returns-then-flags c = λ codec.
    is_not c.args.context.now.flags.may_serve (are_bearers (names (octet_way codec) c.args.context.now) (statuses_of c.args.statuses.now)) (sym (ap (λ (f : CuUpFlags). f.may_serve) c.flags-flags.ensures) ∙ c.if-flags.true)

pub returns : goal.returns
returns c = λ codec.
    is_so c.args.context.now.flags.may_serve (are_bearers (names (octet_way codec) c.args.context.now) (statuses_of c.args.statuses.now)) c.is_named_by_statuses.result
    (sym (ap (λ (f : CuUpFlags). f.may_serve) c.flags-flags.ensures) ∙ c.if-flags.false) (c.is_named_by_statuses.ensures codec)
