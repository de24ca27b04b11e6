use Rattle.aper_cursor.specs.strings.Contents.{content_of}
use Rattle.aper_stream.proofs.string_turns.Turns.{pad_on}
use Rattle.aper_stream.proofs.string_turns.field.after_pad.Goals as goal

pub returns-clause-asked : goal.returns-clause-asked
returns-clause-asked c =
    pad_on (content_of c.args.content) c.args.count c.args.cursor.now c.ask_one.new.cursor c.in_ok-ask_one.field-0
    (c.in_ok-ask_one.ensures {u = tt}).asked
