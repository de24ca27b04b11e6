use Rattle.std.proofs.Common.{◌∙◌, [], ◌∷◌, ◌++◌, refl, ap}
use Rattle.scenario_text.specs.declared.line.Link.{Link}
use Rattle.scenario_text.specs.declared.line.OutLine.TheVariants as outs
use Rattle.run_links.proofs.Results.{ok_then}
use Rattle.run_links.proofs.OnTunnels.{lose_refuses, lose_loses}
use Rattle.run_links.proofs.network.Network.lose_item.Goals as goal

pub returns-in-Err : goal.returns-in-Err
returns-in-Err c =
    ok_then c.push.result c.push.ensures.ok
    (λ told. lose_refuses c.args.end c.args.self.now c.in-Err.reason c.args.lines.now c.push.new.self c.in-Err.ensures told)

pub returns : goal.returns
returns c =
    ok_then c.push-2.result c.push-2.ensures.ok
    (λ told. lose_loses c.args.end c.args.self.now _ c.args.lines.now c.push-2.new.self c.get.result c.in_default.ensures c.get.ensures refl
    (told ∙ ap (λ (l : Link). c.args.lines.now ++ outs.Lost l 1 ∷ []) c.tunnel_link-link.ensures))
