use Rattle.std.proofs.Common.{refl, subst}
use Rattle.cu_up_contexts.specs.contexts.Placing.{IsPlaced}
use Rattle.cu_up_contexts.specs.contexts.Tables.{OctetUp}
use Rattle.cu_user.specs.cu_up_rows.Records.{cu_up_record}
use Rattle.cu_user.proofs.cu_up_rows.record.CuUpRecord.place_static.Goals as goal

pub returns : goal.returns
returns c =
    let r : OctetUp = cu_up_record c.self.inside.gnb c.self.inside.number c.self.inside.is_set_up c.self.inside.contexts c.self.inside.requests in
    subst (λ (s : OctetUp). IsPlaced s c.args.plan c.args.downlink
    (cu_up_record c.self.inside.gnb c.self.inside.number c.self.inside.is_set_up c.place_static.new.self c.self.inside.requests) c.place_static.result)
    c.self.view_is (c.place_static.ensures r refl)
