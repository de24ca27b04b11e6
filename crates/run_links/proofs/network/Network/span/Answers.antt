use Rattle.std.proofs.Common.{◌≤◌, ◌++◌, ℕ, sym, subst, arith}
use Rattle.transport_defs.specs.Links.{tunnel_counts, radio_counts}
use Rattle.run_links.proofs.Least.{least-le}
use Rattle.run_links.proofs.network.Network.span.Goals as goal

pub overflow_sub-result : goal.overflow_sub-result
overflow_sub-result c =
    let most = c.min-most.result in
    let le : c.least_standing.result ≤ most =
    subst (λ (n : ℕ). n ≤ most) (sym c.least_standing.ensures)
    (least-le most (tunnel_counts c.args.key c.args.self.now.tunnels.tunnels ++ radio_counts c.args.key c.args.self.now.radios.radios)) in
    omega arith
