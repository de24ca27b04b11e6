use Rattle.std.proofs.Common.{◌∙◌, ap, sym, ℕ, List}
use Rattle.gnb_types.specs.Orders.{tunnel_cmp}
use Rattle.tables.specs.Tables.{first_entry, entry_after}
use Rattle.links.specs.Tunnels.{OpenTunnels, place_in}
use Rattle.links.proofs.KeptLemmas.{same_first}
use Rattle.links.proofs.tunnels.Tunnels.first.Goals as goal

pub returns-in-Some : goal.returns-in-Some
returns-in-Some c =
    ap place_in c.in-Some.ensures
    ∙ same_first c.self.inside.queues c.self.inside.lossy c.self.invariant.same_keys
    ∙ ap (λ (s : OpenTunnels (List ℕ)). place_in (first_entry s.tunnels)) c.self.view_is

pub returns-in-None : goal.returns-in-None
returns-in-None c =
    ap place_in c.in-None.ensures
    ∙ same_first c.self.inside.queues c.self.inside.lossy c.self.invariant.same_keys
    ∙ ap (λ (s : OpenTunnels (List ℕ)). place_in (first_entry s.tunnels)) c.self.view_is
