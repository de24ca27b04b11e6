use Rattle.std.proofs.Common.{refl}
use Rattle.std.proofs.lemmas.Result.{err_from_is_err_and}
use Rattle.aper_stream.proofs.resuming.Members.{list_wrong, list_begun}
use Rattle.aper_stream.proofs.resuming.list.begin_list.Goals as goal

pub returns-in_err-left-clause-asked : goal.returns-in_err-left-clause-asked
returns-in_err-left-clause-asked c =
    let p = err_from_is_err_and c.from_residual.result c.from_residual.ensures.1 in
    rw (p.1, p.2) (
    list_wrong c.args.size c.args.element c.args.frames.now c.args.cursor.now c.ask_count.new.cursor c.in_err-left.field-0.0
    (c.in_err-left.ensures {u = tt}).asked)

pub returns-clause-asked : goal.returns-clause-asked
returns-clause-asked c =
    list_begun c.args.size c.args.element c.args.frames.now c.args.cursor.now c.ask_count.new.cursor
    (record { element = c.args.element; left = c.in_ok-left.left; made = c.new.result }) c.in_ok-next_member.field-0
    c.next_member.new.frames
    refl c.new.ensures.items (c.in_ok-left.ensures {u = tt}).asked (c.in_ok-next_member.ensures {u = tt}).asked
