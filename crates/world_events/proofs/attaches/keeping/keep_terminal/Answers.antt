use Rattle.std.proofs.Common.{◌∙◌, ap}
use Rattle.gnb_types.specs.Orders.{ue_cmp}
use Rattle.tables.specs.Tables.{put}
use Rattle.links.specs.Radios.{RadioLinks}
use Rattle.run_links.specs.Networks.{Octets}
use Rattle.run_links.proofs.Results.{ok_then}
use Rattle.world_events.proofs.attaches.Kept.{keeps_so}
use Rattle.world_events.proofs.attaches.keeping.keep_terminal.Goals as goal

pub returns : goal.returns
returns c =
    let second = c.open_from-2.new.network in
    ok_then c.seat.result c.seat.ensures
    (λ told lines.
    keeps_so c.args.plan c.args.up c.args.du c.args.network.now c.open_from.new.network second c.seat.new.self lines (c.in_ok-open_from.ensures lines)
    (c.in_ok-open_from-2.ensures lines)
    (told ∙ ap (λ (r : RadioLinks Octets). record second { radios = r; plans = put ue_cmp second.plans c.args.plan.ue c.args.plan }) c.connect.ensures))
