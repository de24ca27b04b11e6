use Rattle.std.proofs.Common.{arith}
use Rattle.pdcp.specs.Pdus.{content_of}
use Rattle.link_defs.specs.Decoding.{framed, poll}
use Rattle.du_contexts.proofs.Bounds.{frame_number_small, poll_number_small}
use Rattle.du_contexts.proofs.Reading.{item_taken, nothing_read}
use Rattle.du_contexts.proofs.contexts.DuContexts.read_frame.Goals as goal

pub returns-in-Some-Pdu-clause-ok : goal.returns-in-Some-Pdu-clause-ok
returns-in-Some-Pdu-clause-ok c = λ codec r lawful.
    item_taken codec r _ _ _ _ _ c.in-Ok.ensures.ok
    (framed c.in-Some-Pdu.restart c.in-Some-Pdu.number (content_of c.in-Some-Pdu.field-0-2) c.in-Some-Pdu.pdu.now) lawful
    (rw c.in-Some-Pdu.field-0-is at c.in-Some-Pdu.ensures.found)

pub returns-in-Some-Pdu-clause-number : goal.returns-in-Some-Pdu-clause-number
returns-in-Some-Pdu-clause-number c =
    frame_number_small c.in-Ok.found.1 c.args.octets.now (λ k. omega (arith, c.type_inv.octets k))
    c.in-Some-Pdu.restart c.in-Some-Pdu.number (content_of c.in-Some-Pdu.field-0-2) c.in-Some-Pdu.pdu.now
    (rw c.in-Some-Pdu.field-0-is at c.in-Some-Pdu.ensures.found)

pub returns-in-Some-Poll-clause-ok : goal.returns-in-Some-Poll-clause-ok
returns-in-Some-Poll-clause-ok c = λ codec r lawful.
    item_taken codec r _ _ _ _ _ c.in-Ok.ensures.ok (poll c.in-Some-Poll.restart c.in-Some-Poll.number) lawful
    (rw c.in-Some-Poll.field-0-is at c.in-Some-Poll.ensures.found)

pub returns-in-Some-Poll-clause-number : goal.returns-in-Some-Poll-clause-number
returns-in-Some-Poll-clause-number c =
    poll_number_small c.in-Ok.found.1 c.args.octets.now (λ k. omega (arith, c.type_inv.octets k))
    c.in-Some-Poll.restart c.in-Some-Poll.number (rw c.in-Some-Poll.field-0-is at c.in-Some-Poll.ensures.found)

pub returns-in-None-clause-err : goal.returns-in-None-clause-err
returns-in-None-clause-err c = λ codec r lawful.
    nothing_read codec r _ _ _ _ _ c.in-Ok.ensures.ok lawful (λ item decodes. c.in-None.ensures.only item decodes)
