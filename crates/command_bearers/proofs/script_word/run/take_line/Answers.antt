use Rattle.std.proofs.lemmas.Result.{err_from_is_err_and}
use Rattle.command_bearers.proofs.script_word.Scripts.{means_skipped, means_event}
use Rattle.command_bearers.proofs.script_word.Turned.{no_turn, turn_falls, turn_unread, turn_done, turn_skips, turn_refused, turn_no_memory, turn_applied, turn_stopped, turn_cut}
use Rattle.command_bearers.proofs.script_word.run.take_line.Goals as goal

pub returns-in_err-line-clause-meets : goal.returns-in_err-line-clause-meets
returns-in_err-line-clause-meets g c = λ first count s.
    let p = err_from_is_err_and c.from_residual.result c.from_residual.ensures.1 in
    turn_unread s _ _ (g.W.ScriptWord.ran c.args.word.now c.args.run.now) _ _ _ c.in_err-line.ensures p.1 p.2

pub returns-in_err-line-clause-falls : goal.returns-in_err-line-clause-falls
returns-in_err-line-clause-falls g c =
    let p = err_from_is_err_and c.from_residual.result c.from_residual.ensures.1 in
    no_turn _ _ _ p.1

pub returns-in_default-clause-meets : goal.returns-in_default-clause-meets
returns-in_default-clause-meets g c = λ first count s. turn_done s _ _ c.in_ok-line.field-0 c.in_ok-line.ensures c.in_default.is

pub returns-in_err-event-clause-meets : goal.returns-in_err-event-clause-meets
returns-in_err-event-clause-meets g c = λ first count s.
    let p = err_from_is_err_and c.from_residual-in_err-event.result c.from_residual-in_err-event.ensures.1 in
    turn_refused s _ _ c.in_ok-line.field-0 c.in_ok-line.ensures c.in-Some.line c.in-Some.is (g.W.ScriptWord.ran c.args.word.now c.args.run.now)
    _ _ _ c.in_err-event.ensures p.1 p.2

pub returns-in_err-event-clause-falls : goal.returns-in_err-event-clause-falls
returns-in_err-event-clause-falls g c =
    let p = err_from_is_err_and c.from_residual-in_err-event.result c.from_residual-in_err-event.ensures.1 in
    no_turn _ _ _ p.1

pub returns-in_default-2-clause-meets : goal.returns-in_default-2-clause-meets
returns-in_default-2-clause-meets g c = λ first count s.
    turn_skips s _ _ c.in_ok-line.field-0 c.in_ok-line.ensures c.in-Some.line c.in-Some.is
    (means_skipped (g.W.ScriptWord.meaning c.args.word.now) g.W.ScriptWord.in_range c.in-Some.line c.in_ok-event.field-0 c.in_ok-event.ensures c.in_default-2.is)

pub returns-in_default-2-clause-falls : goal.returns-in_default-2-clause-falls
returns-in_default-2-clause-falls g c = turn_falls c.in_ok-line.field-0 c.in_ok-line.ensures c.in-Some.line c.in-Some.is

pub apply-requires : goal.apply-requires
apply-requires g c =
    (means_event (g.W.ScriptWord.meaning c.args.word.now) g.W.ScriptWord.in_range c.in-Some.line c.in_ok-event.field-0 c.in_ok-event.ensures c.in-Some-2.event c.in-Some-2.is).range

pub returns-in_default-apply-clause-meets : goal.returns-in_default-apply-clause-meets
returns-in_default-apply-clause-meets g c = λ first count s.
    turn_no_memory s _ _ c.in_ok-line.field-0 c.in_ok-line.ensures c.in-Some.line c.in-Some.is

pub returns-in_default-write_all-clause-meets : goal.returns-in_default-write_all-clause-meets
returns-in_default-write_all-clause-meets g c = λ first count s.
    turn_cut s _ _ c.in_ok-line.field-0 c.in_ok-line.ensures c.in-Some.line c.in-Some.is c.in-Some-2.event c.in-Ok.field-0
    (means_event (g.W.ScriptWord.meaning c.args.word.now) g.W.ScriptWord.in_range c.in-Some.line c.in_ok-event.field-0 c.in_ok-event.ensures c.in-Some-2.event c.in-Some-2.is)
    (c.in-Ok.ensures s.events s.ran) _ _ c.as_slice.ensures c.in_default-write_all.ensures

pub returns-in-None-clause-meets : goal.returns-in-None-clause-meets
returns-in-None-clause-meets g c = λ first count s.
    turn_applied s _ _ c.in_ok-line.field-0 c.in_ok-line.ensures c.in-Some.line c.in-Some.is c.in-Some-2.event c.in-Ok.field-0
    (means_event (g.W.ScriptWord.meaning c.args.word.now) g.W.ScriptWord.in_range c.in-Some.line c.in_ok-event.field-0 c.in_ok-event.ensures c.in-Some-2.event c.in-Some-2.is)
    (c.in-Ok.ensures s.events s.ran) _ _ c.as_slice.ensures c.in-None.is c.in-Ok-write_all.ensures

pub returns-in-None-clause-falls : goal.returns-in-None-clause-falls
returns-in-None-clause-falls g c = turn_falls c.in_ok-line.field-0 c.in_ok-line.ensures c.in-Some.line c.in-Some.is

pub returns-clause-meets : goal.returns-clause-meets
returns-clause-meets g c = λ first count s.
    turn_stopped s _ _ c.in_ok-line.field-0 c.in_ok-line.ensures c.in-Some.line c.in-Some.is c.in-Some-2.event c.in-Ok.field-0
    (means_event (g.W.ScriptWord.meaning c.args.word.now) g.W.ScriptWord.in_range c.in-Some.line c.in_ok-event.field-0 c.in_ok-event.ensures c.in-Some-2.event c.in-Some-2.is)
    (c.in-Ok.ensures s.events s.ran) _ _ c.as_slice.ensures c.in-Some-cause.cause c.in-Some-cause.is c.in-Ok-write_all.ensures
