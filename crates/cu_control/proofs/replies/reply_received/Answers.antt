use Rattle.std.proofs.lemmas.Result.{err_from_is_err_and}
use Rattle.unit_defs.specs.CuCp.{answer, reply_received}
use Rattle.unit_defs.specs.octet_defs.Codec.{octet_way}
use Rattle.unit_messages.specs.Messages.{message_as}
use Rattle.cu_control.proofs.ReplySteps.{answer_stops, answer_is, row_found}
use Rattle.cu_control.proofs.replies.reply_received.Goals as goal

pub returns-in_err-answered : goal.returns-in_err-answered
unfolding reply_received
returns-in_err-answered g c =
    let codec = g.C.MessageCodec.codec in
    let p = err_from_is_err_and c.from_residual-in_err-answered.result c.from_residual-in_err-answered.ensures.1 in
    rw (p.1, p.2)
    (answer_stops codec (record { 0 = c.args.channel.ue }) c.args.channel (message_as c.args.message.now) c.args.record.now c.args.record.now
    c.args.outputs.now c.args.outputs.now _ _ c.in_err-answered.field-0.0
    (λ i. answer (octet_way codec) (c.at_of-at.ensures i) c.args.channel.peer c.args.instance (message_as c.args.message.now) (c.in_ok-terminal.ensures i))
    c.in_err-answered.ensures)

pub returns-in-Awaited-Some : goal.returns-in-Awaited-Some
unfolding reply_received
returns-in-Awaited-Some g c =
    let codec = g.C.MessageCodec.codec in
    answer_is codec (record { 0 = c.args.channel.ue }) c.args.channel (message_as c.args.message.now) c.args.record.now c.awaited.new.record
    c.args.outputs.now c.awaited.new.outputs c.awaited.result _ _ _
    (λ i. answer (octet_way codec) (c.at_of-at.ensures i) c.args.channel.peer c.args.instance (message_as c.args.message.now) (c.in_ok-terminal.ensures i))
    (row_found codec _ c.in_ok-answered.field-0 c.in-Awaited-Some.field-0 c.in-Awaited-Some.row c.in_ok-answered.ensures c.in-Awaited-Some.is
    c.in-Awaited-Some.field-0-is)
    (c.awaited.ensures (message_as c.args.message.now))
