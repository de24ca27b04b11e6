use Rattle.std.proofs.Common.{sym}
use Rattle.command_bearers.proofs.script_word.Scripts.{is_refused}
use Rattle.command_bearers.proofs.script_word.run.event_of_line.Goals as goal

pub returns-in-Err-Refused : goal.returns-in-Err-Refused
returns-in-Err-Refused g c =
    is_refused (g.W.ScriptWord.meaning c.args.word.now) c.args.line.now _ _ _ c.in-Err-Refused.field-0-is c.as_slice-text.ensures
    (sym c.if-is_skipped.ensures) c.in-Err-Refused.ensures.exact
