use Rattle.std.proofs.Common.{refl}
use Rattle.aper_cursor.specs.strings.Contents.{content_of}
use Rattle.aper_stream.specs.declared.string_turns.field.StringField.TheVariants as next
use Rattle.aper_stream.proofs.string_turns.Turns.{none_on}
use Rattle.aper_stream.proofs.string_turns.field.after_beginning.Goals as goal

pub returns-in-None-clause-asked : goal.returns-in-None-clause-asked
returns-in-None-clause-asked c =
    none_on (content_of c.args.content) (next.All c.args.size) c.args.size c.all_parts.result c.args.cursor.now refl c.in-None.is
    c.all_parts.ensures
