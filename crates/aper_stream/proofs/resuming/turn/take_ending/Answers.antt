use Rattle.std.proofs.Common.{subst}
use Rattle.aper_defs.specs.Fields.{closing}
use Rattle.aper_cursor.specs.Answers.{Answers}
use Rattle.aper_stream.proofs.resuming.Endings.{ends, ends_wrong}
use Rattle.aper_stream.proofs.resuming.turn.take_ending.Goals as goal

pub returns-in-Err-clause-asked : goal.returns-in-Err-clause-asked
returns-in-Err-clause-asked c = λ of.
    ends_wrong c.args.value c.args.frames.now c.args.cursor.now c.closing.new.self c.in-Err.reason
    (subst (Answers closing c.args.cursor.now c.closing.new.self) c.in-Err.is c.closing.ensures) of

pub returns-in-Ok-clause-asked : goal.returns-in-Ok-clause-asked
returns-in-Ok-clause-asked c = λ of.
    ends c.args.value c.args.frames.now c.args.cursor.now c.closing.new.self c.in-Ok.field-0
    (subst (Answers closing c.args.cursor.now c.closing.new.self) c.in-Ok.is c.closing.ensures) of
