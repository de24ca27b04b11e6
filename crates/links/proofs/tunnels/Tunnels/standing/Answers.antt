use Rattle.std.proofs.Common.{◌∙◌, ap, length, ℕ, List}
use Rattle.transport_defs.specs.Links.{tunnel_items, tunnel_counts, least_of}
use Rattle.transport_defs.specs.declared.Item.{Item}
use Rattle.links.proofs.link_tallies.Standing.{number_is, least_is_of}
use Rattle.links.specs.Tunnels.{OpenTunnels, entity}
use Rattle.links.proofs.tunnels.Tunnels.standing.Goals as goal

pub returns-clause-number : goal.returns-clause-number
returns-clause-number c =
    c.number.ensures
    ∙ number_is (λ (items : List (Item (List ℕ))). items) c.self.inside.tallies c.self.inside.queues (entity c.args.ue c.args.bearer c.args.dir) c.self.invariant.tied
    ∙ ap (λ (s : OpenTunnels (List ℕ)). length (tunnel_items (entity c.args.ue c.args.bearer c.args.dir) s.tunnels)) c.self.view_is

pub returns-clause-least : goal.returns-clause-least
returns-clause-least c =
    least_is_of (λ (items : List (Item (List ℕ))). items) c.self.inside.tallies c.self.inside.queues (entity c.args.ue c.args.bearer c.args.dir)
    c.least_shown.result c.self.invariant.tied c.least_shown.ensures.least
    ∙ ap (λ (s : OpenTunnels (List ℕ)). least_of (tunnel_counts (entity c.args.ue c.args.bearer c.args.dir) s.tunnels)) c.self.view_is
