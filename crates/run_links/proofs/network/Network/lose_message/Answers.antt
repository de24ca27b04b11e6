use Rattle.std.proofs.Common.{◌∙◌, [], ◌∷◌, ◌++◌, refl, ap}
use Rattle.scenario_text.specs.declared.line.OutLine.{OutLine}
use Rattle.run_links.proofs.Results.{ok_then}
use Rattle.run_links.proofs.OnControlMessages.{lose_makes}
use Rattle.run_links.proofs.network.Network.lose_message.Goals as goal

pub returns : goal.returns
returns c =
    ok_then c.push.result c.push.ensures.ok
    (λ told. lose_makes c.args.self.now _ c.args.number c.args.lines.now c.push.new.self c.lose-lost.result c.lose-lost.ensures.answers refl
    (told ∙ ap (λ (l : OutLine). c.args.lines.now ++ l ∷ []) c.lost_line.ensures))
