use Rattle.std.proofs.lemmas.Result.{err_from_is_err_and}
use Rattle.cu_cp_records.specs.control_actions.Rows.{row_as}
use Rattle.cu_control.proofs.ReplySteps.{row_goes_on, row_ends}
use Rattle.cu_control.proofs.replies.awaited.Goals as goal

pub returns-in_err-carry_out : goal.returns-in_err-carry_out
returns-in_err-carry_out g c = λ message.
    let codec = g.C.MessageCodec.codec in
    let p = err_from_is_err_and c.from_residual.result c.from_residual.ensures.1 in
    rw (p.1, p.2)
    (row_ends codec (record { 0 = c.args.channel.ue }) c.args.channel message c.args.record.now c.carry_out.new.record c.args.outputs.now
    c.carry_out.new.outputs (row_as c.args.row) c.carry_out.new.outputs c.carry_out.new.record c.close.new.record c.close.ensures
    c.in_err-carry_out.field-0.0 c.in_err-carry_out.ensures)

pub returns : goal.returns
returns g c = λ message.
    row_goes_on g.C.MessageCodec.codec (record { 0 = c.args.channel.ue }) c.args.channel message c.args.record.now c.put_next.new.record
    c.args.outputs.now c.put_next.new.outputs (row_as c.args.row) c.carry_out.new.outputs c.carry_out.new.record c.close.new.record c.close.ensures
    c.put_next.result c.in_ok-carry_out.ensures c.put_next.ensures
