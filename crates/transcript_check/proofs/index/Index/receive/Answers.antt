use Rattle.scenario_text.specs.declared.line.OutLine.TheVariants as lines
use Rattle.transcript_defs.specs.declared.line.TextLine.TheVariants.{Printed}
use Rattle.transcript_defs.specs.Past.{accepted}
use Rattle.transcript_check.proofs.ReceiptLemmas.{received_more, received_none}
use Rattle.transcript_check.proofs.index.Index.receive.Goals as goal

pub returns-in_ok-receive-in-Some-clause-received : goal.returns-in_ok-receive-in-Some-clause-received
returns-in_ok-receive-in-Some-clause-received c = λ past are received.
    received_more past c.args.link c.args.item.now c.args.self.now.receipts.received received c.receive.new.self.received c.in-Some.count
    c.in_ok-receive-in-Some.ensures.received (c.in-Some.ensures (accepted (Printed (lines.Got c.args.link c.args.item.now)) past) are)

pub returns-in-None-clause-received : goal.returns-in-None-clause-received
returns-in-None-clause-received c = λ past are received.
    received_none past c.args.link c.args.item.now c.args.self.now.receipts.received received
    (c.in-None.ensures (accepted (Printed (lines.Got c.args.link c.args.item.now)) past) are)
