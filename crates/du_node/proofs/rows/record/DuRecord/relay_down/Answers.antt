use Rattle.std.proofs.Common.{subst}
use Rattle.unit_defs.specs.Du.{relay_down}
use Rattle.unit_defs.specs.octet_defs.Codec.{octet_way}
use Rattle.unit_messages.specs.steps.Steps.{IsStep, step_after}
use Rattle.du_contexts.specs.Tables.{OctetDu}
use Rattle.du_node.specs.rows.Records.{du_record}
use Rattle.du_node.proofs.rows.record.DuRecord.relay_down.Goals as goal

pub returns : goal.returns
returns c = λ codec.
    let r : OctetDu = du_record c.self.inside.gnb c.self.inside.number c.self.inside.is_set_up c.self.inside.contexts c.self.inside.requests in
    subst (λ (s : OctetDu). IsStep (step_after c.args.outputs.now (relay_down (octet_way codec) c.args.ue c.args.container.now s))
    c.relay_down.new.outputs s c.relay_down.result) c.self.view_is (c.relay_down.ensures codec r)
