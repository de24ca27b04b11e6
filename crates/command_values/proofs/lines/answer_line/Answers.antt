use Rattle.std.proofs.Common.{refl}
use Rattle.std.proofs.lemmas.Result.{err_from_is_err_and}
use Rattle.command_values.proofs.Written.{turn_unread, turn_unwritten}
use Rattle.command_values.proofs.lines.answer_line.Goals as goal

pub returns-in_err-line : goal.returns-in_err-line
returns-in_err-line g c sink =
    let p = err_from_is_err_and c.from_residual.result c.from_residual.ensures.1 in
    turn_unread _ _ _ _ _ _ c.in_err-line.ensures p.1 p.2 refl

pub returns-in_err-put_answer : goal.returns-in_err-put_answer
returns-in_err-put_answer g c sink =
    let p = err_from_is_err_and c.from_residual-in_err-put_answer.result c.from_residual-in_err-put_answer.ensures.1 in
    turn_unwritten _ _ _ _ c.in-Some.line _ _ _ c.in-Some.is c.in_ok-line.ensures (c.in_err-put_answer.ensures sink) p.1 p.2
