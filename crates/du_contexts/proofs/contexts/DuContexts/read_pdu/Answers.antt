use Rattle.std.proofs.Common.{arith, rules}
use Rattle.du_contexts.proofs.Bounds.{pdu_number_small}
use Rattle.du_contexts.proofs.Steps.{says_nothing}
use Rattle.du_contexts.proofs.contexts.DuContexts.read_pdu.Goals as goal

pub returns-in-Some-Packet-clause-small : goal.returns-in-Some-Packet-clause-small
returns-in-Some-Packet-clause-small c =
    pdu_number_small c.context.inside.sn c.args.octets.now (λ k. omega (arith, c.type_inv.octets k))
    c.in-Some-Packet.sn c.in-Some-Packet.field-0-1.now (rw c.in-Some-Packet.field-0-is at c.in-Some-Packet.ensures.found)

pub returns-in-None-clause-err : goal.returns-in-None-clause-err
returns-in-None-clause-err c =
    says_nothing c.args.self.now c.args.ue c.args.octets.now c.in-Some.context.now c.context.inside.sn
    (search rules) (search rules) (λ content carries. c.in-None.ensures.none content carries)
