use Rattle.std.proofs.lemmas.Result.{err_from_is_err_and}
use Rattle.commands.proofs.input_module.Steps.{no_room, turn_unread}
use Rattle.commands.proofs.input_module.text.take_line.Goals as goal

pub returns-in_err-line : goal.returns-in_err-line
returns-in_err-line g c =
    let p = err_from_is_err_and c.from_residual.result c.from_residual.ensures.1 in
    turn_unread _ _ _ _ _ c.in_err-line.ensures p.1 p.2

pub returns-in_err-append_line : goal.returns-in_err-append_line
returns-in_err-append_line g c =
    let p = err_from_is_err_and c.from_residual-in_err-append_line.result c.from_residual-in_err-append_line.ensures.1 in
    no_room _ _ _ c.in-Some.line _ _ c.in-Some.is c.in_ok-line.ensures p.1 p.2
