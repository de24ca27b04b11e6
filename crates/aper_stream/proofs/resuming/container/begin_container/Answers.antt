use Rattle.std.proofs.Common.{refl}
use Rattle.std.proofs.lemmas.Result.{err_from_is_err_and}
use Rattle.aper_frames.proofs.aper_elements.ContainerLemmas.{count_wrong}
use Rattle.aper_stream.proofs.resuming.Containers.{container_begun}
use Rattle.aper_stream.proofs.resuming.container.begin_container.Goals as goal

pub returns-in_err-left-clause-asked : goal.returns-in_err-left-clause-asked
returns-in_err-left-clause-asked c =
    let p = err_from_is_err_and c.from_residual.result c.from_residual.ensures.1 in
    rw (p.1, p.2) (
    count_wrong c.args.rows.now c.args.frames.now c.args.cursor.now c.ask_element_count.new.cursor c.in_err-left.field-0.0
    (c.in_err-left.ensures {u = tt}).asked)

pub returns-clause-asked : goal.returns-clause-asked
returns-clause-asked c =
    container_begun (record { rows = c.args.rows; possible = c.args.rows; left = c.in_ok-left.left; made = c.new.result }) c.args.frames.now
    c.args.cursor.now c.ask_element_count.new.cursor c.next_element.result refl c.new.ensures.items
    (c.in_ok-left.ensures {u = tt}).asked c.next_element.ensures.asked
