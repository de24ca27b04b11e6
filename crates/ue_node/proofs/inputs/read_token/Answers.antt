use Rattle.std.proofs.Common.{sym, ap, ◌∙◌}
use Rattle.unit_messages.specs.Messages.{answer_as}
use Rattle.ue_node.specs.rows.Records.{record_of}
use Rattle.ue_node.proofs.Reading.{token_heard, other_heard, nothing_heard}
use Rattle.ue_node.proofs.inputs.read_token.Goals as goal

pub returns-in-Err : goal.returns-in-Err
returns-in-Err g c =
    nothing_heard g.C.MessageCodec.codec (record_of c.args.record.now) c.args.octets.now c.in-Du.field-0 c.in-Du.field-1 c.args.from c.in-Du.is c.in-Err.reason
    (ap answer_as (sym c.in-Err.is) ∙ c.in_ok-message.ensures)

pub returns-in-Some : goal.returns-in-Some
returns-in-Some g c =
    token_heard g.C.MessageCodec.codec (record_of c.args.record.now) c.args.octets.now c.in-Du.field-0 c.in-Du.field-1 c.args.from c.in-Du.is c.in-Ok.message
    c.in-Some.token (ap answer_as (sym c.in-Ok.is) ∙ c.in_ok-message.ensures) (sym c.in-Some.ensures)

pub returns-in-None : goal.returns-in-None
returns-in-None g c =
    other_heard g.C.MessageCodec.codec (record_of c.args.record.now) c.args.octets.now c.in-Du.field-0 c.in-Du.field-1 c.args.from c.in-Du.is c.in-Ok.message
    (ap answer_as (sym c.in-Ok.is) ∙ c.in_ok-message.ensures) (sym c.in-None.ensures)
