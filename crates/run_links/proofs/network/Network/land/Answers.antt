use Rattle.std.proofs.Common.{◌∙◌, [], ◌∷◌, ◌++◌, refl, ap}
use Rattle.scenario_text.specs.declared.line.Message.{Message as ShownMessage}
use Rattle.scenario_text.specs.declared.line.OutLine.TheVariants as outs
use Rattle.run_links.proofs.Results.{ok_then}
use Rattle.run_links.proofs.OnControlMessages.{land_makes}
use Rattle.run_links.proofs.network.Network.land.Goals as goal

pub returns-in-Ok : goal.returns-in-Ok
returns-in-Ok c =
    ok_then c.push.result c.push.ensures.ok
    (λ told l there.
    land_makes c.args.self.now _ l c.in-Ok.control_message c.args.number c.args.lines.now c.push.new.self c.in-Ok.ensures.answers refl there
    (told ∙ ap (λ (m : ShownMessage). c.args.lines.now ++ outs.GotMessage m ∷ []) c.shown_control_message.ensures))
