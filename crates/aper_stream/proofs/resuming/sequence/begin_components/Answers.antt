use Rattle.std.proofs.Common.{refl}
use Rattle.std.proofs.lemmas.Result.{err_from_is_err_and}
use Rattle.aper_stream.proofs.resuming.Sequences.{extension_wrong, flags_refused, sequence_begun}
use Rattle.aper_stream.proofs.resuming.sequence.begin_components.Goals as goal

pub returns-in_err-extended-clause-asked : goal.returns-in_err-extended-clause-asked
returns-in_err-extended-clause-asked c =
    let p = err_from_is_err_and c.from_residual.result c.from_residual.ensures.1 in
    rw (p.1, p.2) (
    extension_wrong c.args.extensible c.args.root.now c.args.additions.now c.args.frames.now c.args.cursor.now c.ask_extension.new.cursor
    c.in_err-extended.field-0.0 (c.in_err-extended.ensures {u = tt}))

pub returns-in_err-there-clause-asked : goal.returns-in_err-there-clause-asked
returns-in_err-there-clause-asked c =
    let p = err_from_is_err_and c.from_residual-in_err-there.result c.from_residual-in_err-there.ensures.1 in
    rw (p.1, p.2) (
    flags_refused c.args.extensible c.args.root.now c.args.additions.now c.args.frames.now c.args.cursor.now c.ask_extension.new.cursor
    c.in_ok-extended.extended (c.in_ok-extended.ensures {u = tt}) c.ask_flags.new.cursor
    c.in_err-there.field-0.0 (c.in_err-there.ensures {u = tt}).asked)

pub returns-clause-asked : goal.returns-clause-asked
returns-clause-asked c =
    sequence_begun c.args.extensible c.args.root.now c.args.additions.now c.args.frames.now c.args.cursor.now c.ask_extension.new.cursor
    c.in_ok-extended.extended (c.in_ok-extended.ensures {u = tt}) c.ask_flags.new.cursor c.in_ok-there.there
    (record {
      left = c.args.root;
      there = c.new.result;
      made = c.new-2.result;
      additions = c.args.additions;
      extended =
          c.in_ok-extended.extended;
    })
    c.next_component.new.frames c.in_ok-next_component.field-0 refl refl refl c.new.ensures c.new-2.ensures.items
    (c.in_ok-there.ensures {u = tt}).asked (c.in_ok-next_component.ensures {u = tt}).asked
