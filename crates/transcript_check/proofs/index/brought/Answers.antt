use Rattle.transcript_check.specs.Readings.{says_of}
use Rattle.transcript_check.proofs.ItemLemmas.{brings_so, brings_none}
use Rattle.transcript_check.proofs.index.brought.Goals as goal

pub returns-in_default-read : goal.returns-in_default-read
returns-in_default-read c = λ happened are count packet brings. c.in_default-read.ensures.only happened are brings.reading

pub returns-in-Some-packet : goal.returns-in-Some-packet
returns-in-Some-packet c = λ happened are. (
  c.in-Some-packet.field-0.now,
  brings_so happened c.args.link c.args.item.now c.in-Some.count c.in-Some-packet.field-0.now c.in-Some-read.reading.sn (says_of c.in-Some-read.reading.says)
      (c.is_receiver.ensures.0 c.if-not-is_receiver.false) c.in-Some.is (c.in-Some-read.ensures.found happened are) c.in-Some-packet.ensures,
)

pub returns-in-None : goal.returns-in-None
returns-in-None c = λ happened are.
    brings_none happened c.args.link c.args.item.now c.in-Some-read.reading.sn (says_of c.in-Some-read.reading.says)
    (λ reading. c.in-Some-read.ensures.only happened are reading) c.in-None.ensures
