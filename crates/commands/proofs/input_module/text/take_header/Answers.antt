use Rattle.std.proofs.lemmas.Result.{err_from_is_err_and}
use Rattle.commands.proofs.input_module.Steps.{header_unread, wrong_header}
use Rattle.commands.proofs.input_module.text.take_header.Goals as goal

pub returns-in_err-line : goal.returns-in_err-line
returns-in_err-line g c =
    let p = err_from_is_err_and c.from_residual.result c.from_residual.ensures.1 in
    header_unread _ _ _ _ _ _ _ _ c.in_err-line.ensures p.1 p.2

pub returns : goal.returns
returns g c = wrong_header _ _ _ _ _ _ c.in-Some.line _ _ c.in-Some.is c.in_ok-line.ensures c.as_slice.ensures c.in-Err.ensures
