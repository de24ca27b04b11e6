use Rattle.std.proofs.Common.{◌+◌, refl}
use Rattle.std.proofs.lemmas.Result.{err_from_is_err_and}
use Rattle.aper_cursor.specs.strings.Contents.{content_of}
use Rattle.aper_stream.specs.declared.string_turns.field.Parts.{Parts}
use Rattle.aper_stream.proofs.string_turns.Turns.{last_on, further_on, length_wrong}
use Rattle.aper_stream.proofs.string_turns.field.after_length.Goals as goal

pub returns-in_err-count-clause-asked : goal.returns-in_err-count-clause-asked
returns-in_err-count-clause-asked c =
    let p = err_from_is_err_and c.from_residual.result c.from_residual.ensures.1 in
    rw (p.1, p.2) (length_wrong (content_of c.args.content) c.args.parts c.turns_after-turns.result c.turns_after-turns.ensures
    c.args.cursor.now c.ask_aligned.new.cursor c.in_err-count.field-0.0 (c.in_err-count.ensures {u = tt}).asked)

pub returns-then-count-lt-PART_UNITS-clause-asked : goal.returns-then-count-lt-PART_UNITS-clause-asked
returns-then-count-lt-PART_UNITS-clause-asked c =
    last_on (content_of c.args.content) c.args.parts c.turns_after-turns.result c.turns_after-turns.ensures
    c.args.cursor.now c.ask_aligned.new.cursor c.in_ok-count.count (c.in_ok-count.ensures {u = tt}).asked c.if-count-lt-PART_UNITS.true

pub returns-clause-asked : goal.returns-clause-asked
returns-clause-asked c =
    let others : Parts = record {
      outside = c.args.parts.outside;
      turns = c.turns_after-turns.result;
      before = c.args.parts.before + c.in_ok-count.count;
      previous = c.in_ok-count.count;
    } in
    further_on (content_of c.args.content) c.args.parts c.turns_after-turns.result c.turns_after-turns.ensures
    c.args.cursor.now c.ask_aligned.new.cursor c.in_ok-count.count others (c.in_ok-count.ensures {u = tt}).asked
    c.if-count-lt-PART_UNITS.false refl
