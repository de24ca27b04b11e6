use Rattle.std.proofs.lemmas.Result.{err_from_is_err_and}
use Rattle.command_verify.proofs.Judged.{no_turn, turn_falls, turn_unread, turn_done, turn_judged, turn_refused}
use Rattle.command_verify.proofs.judging.take_line.Goals as goal

pub returns-in_err-line-clause-meets : goal.returns-in_err-line-clause-meets
returns-in_err-line-clause-meets g c = λ first count s.
    let p = err_from_is_err_and c.from_residual.result c.from_residual.ensures.1 in
    turn_unread s _ _ _ _ _ _ c.in_err-line.ensures p.1 p.2

pub returns-in_err-line-clause-falls : goal.returns-in_err-line-clause-falls
returns-in_err-line-clause-falls g c =
    let p = err_from_is_err_and c.from_residual.result c.from_residual.ensures.1 in
    no_turn _ _ _ p.1

pub returns-in_default-clause-meets : goal.returns-in_default-clause-meets
returns-in_default-clause-meets g c = λ first count s. turn_done s _ _ c.in_ok-line.field-0 c.in_ok-line.ensures c.in_default.is

pub returns-in-Ok-clause-meets : goal.returns-in-Ok-clause-meets
returns-in-Ok-clause-meets g c = λ first count s.
    turn_judged s _ _ c.in_ok-line.field-0 c.in_ok-line.ensures c.in-Some.line c.in-Some.is _ c.as_slice.ensures _ c.in-Ok.ensures

pub returns-in-Ok-clause-falls : goal.returns-in-Ok-clause-falls
returns-in-Ok-clause-falls g c = turn_falls c.in_ok-line.field-0 c.in_ok-line.ensures c.in-Some.line c.in-Some.is

pub returns-clause-meets : goal.returns-clause-meets
returns-clause-meets g c = λ first count s.
    turn_refused s _ _ c.in_ok-line.field-0 c.in_ok-line.ensures c.in-Some.line c.in-Some.is _ c.as_slice.ensures _ _ _ c.in-Err.ensures c.end_of.ensures
