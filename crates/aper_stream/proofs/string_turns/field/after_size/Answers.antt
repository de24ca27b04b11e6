use Rattle.aper_cursor.specs.strings.Contents.{content_of}
use Rattle.aper_stream.proofs.string_turns.Turns.{size_on}
use Rattle.aper_stream.proofs.string_turns.field.after_size.Goals as goal

pub returns-then-size-clause-bounded : goal.returns-then-size-clause-bounded
returns-then-size-clause-bounded c = c.after_fixed.ensures.bounded c.args.cursor.now.place

pub returns-clause-asked : goal.returns-clause-asked
returns-clause-asked c =
    size_on (content_of c.args.content) c.args.size c.args.cursor.now c.ask_number.new.cursor c.from.result c.from.ensures c.if-size.false
    c.in_ok-further.further c.units_of.result (c.in_ok-further.ensures {u = tt}).asked c.units_of.ensures
