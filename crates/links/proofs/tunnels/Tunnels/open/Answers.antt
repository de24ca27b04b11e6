use Rattle.std.proofs.Common.{◌∙◌, sym, ap, List, ℕ}
use Rattle.links.specs.Tunnels.{OpenTunnels, opened, tunnel_end}
use Rattle.links.proofs.KeptLemmas.{open-again}
use Rattle.links.proofs.tunnels.Tunnels.open.Goals as goal

pub returns-then-has-clause-ok : goal.returns-then-has-clause-ok
returns-then-has-clause-ok c =
    sym c.self.view_is ∙ open-again c.self.invariant (tunnel_end c.args.end c.args.teid) c.args.lossy (sym c.has.ensures ∙ c.if-has.true)
    ∙ ap (λ (t : OpenTunnels (List ℕ)). opened t (tunnel_end c.args.end c.args.teid) c.args.lossy) c.self.view_is
