use Rattle.std.proofs.Common.{refl, subst}
use Rattle.du_contexts.specs.Placing.{IsPlaced}
use Rattle.du_node.proofs.rows.AnyCodec.{any_codec}
use Rattle.du_contexts.specs.Tables.{OctetDu}
use Rattle.du_node.specs.rows.Records.{du_record}
use Rattle.du_node.proofs.rows.record.DuRecord.place_static.Goals as goal

pub returns : goal.returns
returns c =
    let r : OctetDu = du_record c.self.inside.gnb c.self.inside.number c.self.inside.is_set_up c.self.inside.contexts c.self.inside.requests in
    subst (λ (s : OctetDu). IsPlaced s c.args.plan c.args.uplink
    (du_record c.self.inside.gnb c.self.inside.number c.self.inside.is_set_up c.place_static.new.self c.self.inside.requests) c.place_static.result)
    c.self.view_is (c.place_static.ensures any_codec r refl)
