use Rattle.std.proofs.Common.{◌∙◌, ℕ, Option, sym, ap}
use Rattle.transport_defs.specs.Links.{least, tunnel_counts, radio_counts}
use Rattle.run_links.specs.Spans.{lowered}
use Rattle.run_links.proofs.Least.{least-append, lowered_least}
use Rattle.run_links.proofs.network.Network.least_standing.Goals as goal

pub returns : goal.returns
returns c =
    let on_tunnels = tunnel_counts c.args.key c.args.self.now.tunnels.tunnels in
    let on_radios = radio_counts c.args.key c.args.self.now.radios.radios in
    c.lowered-2.ensures ∙ ap (λ (o : Option ℕ). lowered c.lowered.result o) c.standing-on_radios.ensures.least
    ∙ lowered_least c.lowered.result on_radios
    ∙ ap (λ (n : ℕ). least n on_radios)
    (c.lowered.ensures ∙ ap (λ (o : Option ℕ). lowered c.args.most o) c.standing-on_tunnels.ensures.least ∙ lowered_least c.args.most on_tunnels)
    ∙ sym (least-append c.args.most on_tunnels on_radios)
