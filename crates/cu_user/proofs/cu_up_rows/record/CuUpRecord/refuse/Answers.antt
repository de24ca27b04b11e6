use Rattle.std.proofs.Common.{◌≡◌, rules, true, false, subst}
use Rattle.unit_defs.specs.Accessors.{cu_up_has_context}
use Rattle.cu_up_contexts.specs.contexts.Tables.{OctetUp}
use Rattle.cu_user.specs.cu_up_rows.Records.{cu_up_record}
use Rattle.cu_user.proofs.cu_up_rows.ModeSteps.{refused_there, refused_without}
use Rattle.cu_user.proofs.cu_up_rows.record.CuUpRecord.refuse.Goals as goal

pub returns-then-has : goal.returns-then-has
returns-then-has c =
    let r : OctetUp = cu_up_record c.self.inside.gnb c.self.inside.number c.self.inside.is_set_up c.self.inside.contexts c.self.inside.requests in
    let has = subst (λ (s : OctetUp). true ≡ cu_up_has_context s c.args.ue) c.self.view_is (c.if-has.ensures r) in
    rw (refused_there c.args.self.now c.args.ue has) (search rules)

pub returns : goal.returns
returns c =
    let r : OctetUp = cu_up_record c.self.inside.gnb c.self.inside.number c.self.inside.is_set_up c.self.inside.contexts c.self.inside.requests in
    let has = subst (λ (s : OctetUp). false ≡ cu_up_has_context s c.args.ue) c.self.view_is (c.if-has.ensures r) in
    rw (refused_without c.args.self.now c.args.ue has) (search rules)
