use Rattle.std.proofs.Common.{Err, ap, ◌∙◌}
use Rattle.std.proofs.lemmas.Result.{err_from_is_err_and}
use Rattle.commands.proofs.command_check.Checked.{no_reader, not_given, end_stops, no_summary, end_done}
use Rattle.commands.proofs.command_check.module.check_module.Goals as goal

pub returns-in_err-reader : goal.returns-in_err-reader
returns-in_err-reader g c =
    let p = err_from_is_err_and c.from_residual.result c.from_residual.ensures.1 in
    no_reader _ _ _ p.1 p.2

pub returns-in_err-given : goal.returns-in_err-given
returns-in_err-given g c =
    let p = err_from_is_err_and c.from_residual-in_err-given.result c.from_residual-in_err-given.ensures.1 in
    not_given _ _ _ _ (p.1 ∙ ap (λ e. Err e) p.2) c.in_err-given.ensures

pub returns-in_err-take_end : goal.returns-in_err-take_end
returns-in_err-take_end g c =
    let p = err_from_is_err_and c.from_residual-in_err-take_end.result c.from_residual-in_err-take_end.ensures.1 in
    end_stops _ _ c.in_ok-given.ensures _ _ _ p.1 p.2 c.in_err-take_end.ensures

pub returns-in_err-summary_given : goal.returns-in_err-summary_given
returns-in_err-summary_given g c =
    let p = err_from_is_err_and c.from_residual-in_err-summary_given.result c.from_residual-in_err-summary_given.ensures.1 in
    no_summary _ _ c.in_ok-given.ensures c.in_ok-take_end.ensures _ _ p.1 p.2

pub returns : goal.returns
returns g c = end_done _ _ c.in_ok-given.ensures c.in_ok-take_end.ensures _ c.in_ok-summary_given.ensures
