use Rattle.std.proofs.Common.{◌∙◌, [], ◌∷◌, ◌++◌, refl, ap}
use Rattle.scenario_text.specs.declared.line.Link.{Link}
use Rattle.scenario_text.specs.declared.line.Item.{Item as ShownItem}
use Rattle.scenario_text.specs.declared.line.OutLine.TheVariants as outs
use Rattle.run_defs.specs.Lines.{tunnel_link}
use Rattle.run_links.proofs.Results.{ok_then}
use Rattle.run_links.proofs.OnTunnels.{take_makes}
use Rattle.run_links.proofs.network.Network.take_off.Goals as goal

pub returns-clause-told : goal.returns-clause-told
returns-clause-told c =
    ok_then c.push.result c.push.ensures.ok
    (λ told item rest there.
    take_makes c.args.end c.args.self.now _ item c.in-Ok.item rest c.args.lines.now c.push.new.self c.in-Ok.ensures refl there
    (told ∙ ap (λ (l : Link). c.args.lines.now ++ outs.Got l c.show_taken.result ∷ []) c.tunnel_link-link.ensures
    ∙ ap (λ (i : ShownItem). c.args.lines.now ++ outs.Got (tunnel_link c.args.end) i ∷ []) c.show_taken.ensures))
