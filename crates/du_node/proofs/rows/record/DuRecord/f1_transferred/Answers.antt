use Rattle.std.proofs.Common.{ℕ, List, subst}
use Rattle.unit_defs.specs.Du.{relay_down}
use Rattle.unit_defs.specs.octet_defs.Codec.{octet_way}
use Rattle.unit_messages.specs.steps.Steps.{IsStep, step_after}
use Rattle.du_node.proofs.rows.record.DuRecord.f1_transferred.Goals as goal

pub returns-in-DlRrcMessageTransfer : goal.returns-in-DlRrcMessageTransfer
returns-in-DlRrcMessageTransfer g c =
    let codec = g.C.MessageCodec.codec in
    rw c.in-DlRrcMessageTransfer.is
    (subst (λ (o : List ℕ). IsStep (step_after c.args.outputs.now (relay_down (octet_way codec) c.in-DlRrcMessageTransfer.ue o c.args.self.now))
    c.relay_down.new.outputs c.args.self.now c.relay_down.result) c.as_slice.ensures (c.relay_down.ensures codec))
