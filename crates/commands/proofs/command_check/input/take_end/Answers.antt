use Rattle.std.proofs.lemmas.Result.{err_from_is_err_and}
use Rattle.commands.proofs.command_check.Steps.{end_unread, one_more}
use Rattle.commands.proofs.command_check.input.take_end.Goals as goal

pub returns-in_err-next_line : goal.returns-in_err-next_line
returns-in_err-next_line g c =
    let p = err_from_is_err_and c.from_residual.result c.from_residual.ensures.1 in
    end_unread _ _ _ _ _ _ _ c.in_err-next_line.ensures p.1 p.2

pub returns-in-Some : goal.returns-in-Some
returns-in-Some g c = one_more _ _ _ _ _ c.in-Some.line c.in-Some.is c.in_ok-next_line.ensures
