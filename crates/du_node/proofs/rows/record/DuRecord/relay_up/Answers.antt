use Rattle.std.proofs.Common.{ℕ, List, refl, ap, ◌∙◌, subst}
use Rattle.message_types.specs.declared.f1.F1.TheVariants as f1s
use Rattle.unit_defs.specs.Ways.{f1}
use Rattle.unit_defs.specs.Du.{relay_up}
use Rattle.unit_defs.specs.octet_defs.Codec.{octet_way}
use Rattle.unit_messages.specs.steps.Steps.{IsStep, step_after}
use Rattle.du_contexts.specs.Tables.{OctetDu}
use Rattle.du_node.specs.rows.Records.{du_record}
use Rattle.du_node.proofs.rows.record.DuRecord.relay_up.Goals as goal

pub returns : goal.returns
returns g c =
    let r : OctetDu = du_record c.self.inside.gnb c.self.inside.number c.self.inside.is_set_up c.self.inside.contexts c.self.inside.requests in
    let codec = g.C.MessageCodec.codec in
    subst (λ (s : OctetDu). IsStep (step_after c.args.outputs.now (relay_up (octet_way codec) c.args.ue c.args.token s))
    c.relay_up.new.outputs s c.relay_up.result) c.self.view_is
    (c.relay_up.ensures codec r c.args.token refl
    (c.in_ok-message.ensures ∙ ap (λ (o : List ℕ). codec.encode (f1 (f1s.UlRrcMessageTransfer c.args.ue o))) c.in_ok-container.ensures))
