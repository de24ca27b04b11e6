use Rattle.std.proofs.Common.{option_copied}
use Rattle.message_values.proofs.Shapes.{option_is, option_none, some_at, none_at}
use Rattle.message_values.proofs.fields.option_at.Goals as goal

pub returns-in-Some : goal.returns-in-Some
returns-in-Some c =
    option_is c.args.number c.args.parts.now c.in-Some.part.now (option_copied c.as_ref.result)
    (some_at c.args.parts.now c.args.number c.in-Some.part.now c.in-Some.ensures.lookup.0 c.in-Some.ensures.lookup.1) c.as_ref.ensures.value

pub returns-in-None : goal.returns-in-None
returns-in-None c =
    option_none c.args.number c.args.parts.now (none_at c.args.parts.now c.args.number c.in-None.ensures.lookup.0)
