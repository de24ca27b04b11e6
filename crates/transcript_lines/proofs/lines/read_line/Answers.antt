use Rattle.transcript_lines.proofs.LineLaws.{is_line, not_refused, same_line, not_inexact}
use Rattle.transcript_lines.proofs.lines.read_line.Goals as goal

pub returns-in-Err-Refused-clause-only : goal.returns-in-Err-Refused-clause-only
returns-in-Err-Refused-clause-only c =
    λ line h. not_refused c.args.text.now line c.in-Err-Refused.field-0-0 h (rw c.in-Err-Refused.field-0-is at c.in-Err-Refused.ensures)

pub returns-then-not-exact-clause-only : goal.returns-then-not-exact-clause-only
returns-then-not-exact-clause-only c =
    λ line h. not_inexact c.args.text.now c.in-Ok.line line c.in_ok-exact.exact c.in-Ok.ensures c.in_ok-exact.ensures c.if-not-exact.true h

pub returns-clause-found : goal.returns-clause-found
returns-clause-found c =
    is_line c.args.text.now c.in-Ok.line c.in_ok-exact.exact c.in-Ok.ensures c.in_ok-exact.ensures c.if-not-exact.false

pub returns-clause-only : goal.returns-clause-only
returns-clause-only c = λ line h. same_line c.args.text.now c.in-Ok.line line c.in-Ok.ensures h
