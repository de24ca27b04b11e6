use Rattle.command_values.proofs.Answered.{decoded_bytes}
use Rattle.command_values.proofs.answer.decoded.Goals as goal

pub returns-in-Ok : goal.returns-in-Ok
returns-in-Ok c =
    decoded_bytes c.args.m.now c.args.id.number c.args.line.now _ c.in-Ok.octets _ c.as_slice.ensures c.in-Ok.ensures.exact c.shown.ensures
