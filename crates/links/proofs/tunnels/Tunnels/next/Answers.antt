use Rattle.std.proofs.Common.{◌∙◌, ap, sym, ℕ, List}
use Rattle.gnb_types.specs.Orders.{tunnel_cmp}
use Rattle.tables.specs.Tables.{first_entry, entry_after}
use Rattle.links.specs.Tunnels.{OpenTunnels, place_in}
use Rattle.links.proofs.KeptLemmas.{same_next}
use Rattle.links.proofs.tunnels.Tunnels.next.Goals as goal

pub returns-in-Some : goal.returns-in-Some
returns-in-Some c =
    ap place_in c.in-Some.ensures
    ∙ same_next c.self.inside.queues c.self.inside.lossy c.args.place c.self.invariant.same_keys
    ∙ ap (λ (s : OpenTunnels (List ℕ)). place_in (entry_after tunnel_cmp s.tunnels c.args.place)) c.self.view_is

pub returns-in-None : goal.returns-in-None
returns-in-None c =
    ap place_in c.in-None.ensures
    ∙ same_next c.self.inside.queues c.self.inside.lossy c.args.place c.self.invariant.same_keys
    ∙ ap (λ (s : OpenTunnels (List ℕ)). place_in (entry_after tunnel_cmp s.tunnels c.args.place)) c.self.view_is
