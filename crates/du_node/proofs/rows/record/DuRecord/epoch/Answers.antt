use Rattle.std.proofs.Common.{◌≡◌, subst}
use Rattle.unit_defs.specs.Accessors.{du_epoch}
use Rattle.du_contexts.specs.Tables.{OctetDu}
use Rattle.du_node.specs.rows.Records.{du_record}
use Rattle.du_node.proofs.rows.record.DuRecord.epoch.Goals as goal

pub returns : goal.returns
returns c =
    let r : OctetDu = du_record c.self.inside.gnb c.self.inside.number c.self.inside.is_set_up c.self.inside.contexts c.self.inside.requests in
    subst (λ (s : OctetDu). c.epoch.result ≡ du_epoch s c.args.ue) c.self.view_is (c.epoch.ensures r)
