use Rattle.std.proofs.Common.{◌∙◌, [], ◌∷◌, ◌++◌, ap}
use Rattle.scenario_text.specs.declared.line.Link.{Link}
use Rattle.scenario_text.specs.declared.line.OutLine.TheVariants as outs
use Rattle.links.specs.Tunnels.{OpenTunnels}
use Rattle.run_links.specs.Networks.{Octets}
use Rattle.run_links.proofs.Results.{ok_then}
use Rattle.run_links.proofs.OnTunnels.{closes_empty, closes_full}
use Rattle.run_links.proofs.network.Network.close.Goals as goal

pub returns-then-items-gt0-clause-told : goal.returns-then-items-gt0-clause-told
returns-then-items-gt0-clause-told c =
    ok_then c.push.result c.push.ensures.ok
    (λ told. closes_full c.args.end c.args.self.now _ c.close-items.result c.args.lines.now c.push.new.self c.close-items.ensures.discarded
    c.if-items-gt0.true (ap (λ (t : OpenTunnels Octets). record c.args.self.now { tunnels = t }) c.close-items.ensures.closed)
    (told ∙ ap (λ (l : Link). c.args.lines.now ++ outs.Lost l c.close-items.result ∷ []) c.tunnel_link-link.ensures))

pub returns-clause-told : goal.returns-clause-told
returns-clause-told c =
    closes_empty c.args.end c.args.self.now _ c.close-items.result c.args.lines.now c.close-items.ensures.discarded c.if-items-gt0.false
    (ap (λ (t : OpenTunnels Octets). record c.args.self.now { tunnels = t }) c.close-items.ensures.closed)
