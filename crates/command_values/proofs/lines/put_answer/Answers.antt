use Rattle.command_values.specs.inside.Turns.{once_written}
use Rattle.command_values.proofs.Written.{refused_line}
use Rattle.command_values.proofs.lines.put_answer.Goals as goal

pub returns-in-Err-Wrong : goal.returns-in-Err-Wrong
returns-in-Err-Wrong c sink =
    refused_line c.args.task c.args.line.now _ c.as_slice.ensures (once_written sink c.args.waiting.now) c.in-Err-Wrong.field-0 c.in-Err-Wrong.wrong
    c.in-Err-Wrong.field-0-is c.in-Err-Wrong.ensures
