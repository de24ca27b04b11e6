use Rattle.std.proofs.Common.{◌∙◌, Bool, sym, ap}
use Rattle.std.specs.Prelude.{Result}
use Rattle.gnb_types.specs.declared.reasons.RefuseReason.{RefuseReason}
use Rattle.gnb_types.specs.Orders.{tunnel_cmp}
use Rattle.tables.specs.Tables.{find}
use Rattle.run_defs.specs.Events.{is_lossy}
use Rattle.run_links.specs.Told.{lost_by}
use Rattle.run_links.proofs.Standing.{loses_by}
use Rattle.run_links.proofs.network.Network.may_lose.Goals as goal

pub returns : goal.returns
returns c =
    λ world.
    c.lost_by.ensures ∙ ap (λ (b : Bool). lost_by b c.stands_on.result) (c.is_lossy.ensures world)
    ∙ ap (λ (r : Result (Unit {0}) RefuseReason). lost_by (is_lossy world c.args.end.node) r) c.stands_on.ensures
    ∙ sym (loses_by world c.args.end (find tunnel_cmp c.args.self.now.tunnels.tunnels c.args.end))
