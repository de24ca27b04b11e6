use Rattle.std.proofs.Common.{◌≡◌, is_some, subst}
use Rattle.std.specs.Option.{option_and_then}
use Rattle.unit_defs.specs.octet_defs.Reading.{up_link}
use Rattle.cu_up_contexts.specs.contexts.Tables.{OctetUp}
use Rattle.cu_user.specs.cu_up_rows.Records.{cu_up_record}
use Rattle.cu_user.proofs.cu_up_rows.record.CuUpRecord.decodes.Goals as goal

pub returns : goal.returns
returns c = λ codec lawful.
    let r : OctetUp = cu_up_record c.self.inside.gnb c.self.inside.number c.self.inside.is_set_up c.self.inside.contexts c.self.inside.requests in
    subst (λ (s : OctetUp). c.decodes.result ≡ is_some (option_and_then (λ on. codec.read_item on.0 on.1 c.args.octets.now) (up_link s c.args.teid)))
    c.self.view_is (c.decodes.ensures codec r lawful)
