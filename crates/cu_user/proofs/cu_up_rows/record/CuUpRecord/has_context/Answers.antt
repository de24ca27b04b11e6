use Rattle.std.proofs.Common.{◌≡◌, subst}
use Rattle.unit_defs.specs.Accessors.{cu_up_has_context}
use Rattle.cu_up_contexts.specs.contexts.Tables.{OctetUp}
use Rattle.cu_user.specs.cu_up_rows.Records.{cu_up_record}
use Rattle.cu_user.proofs.cu_up_rows.record.CuUpRecord.has_context.Goals as goal

pub returns : goal.returns
returns c =
    let r : OctetUp = cu_up_record c.self.inside.gnb c.self.inside.number c.self.inside.is_set_up c.self.inside.contexts c.self.inside.requests in
    subst (λ (s : OctetUp). c.has.result ≡ cu_up_has_context s c.args.ue) c.self.view_is (c.has.ensures r)
