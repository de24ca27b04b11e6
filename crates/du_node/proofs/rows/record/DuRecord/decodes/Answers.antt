use Rattle.std.proofs.Common.{◌≡◌, subst}
use Rattle.unit_defs.specs.octet_defs.Reading.{du_link}
use Rattle.du_contexts.specs.Tables.{is_item, OctetDu}
use Rattle.du_node.specs.rows.Records.{du_record}
use Rattle.du_node.proofs.rows.record.DuRecord.decodes.Goals as goal

pub returns : goal.returns
returns c = λ codec lawful.
    let r : OctetDu = du_record c.self.inside.gnb c.self.inside.number c.self.inside.is_set_up c.self.inside.contexts c.self.inside.requests in
    subst (λ (s : OctetDu). c.decodes.result ≡ is_item codec c.args.octets.now (du_link s c.args.teid)) c.self.view_is (c.decodes.ensures codec r lawful)
