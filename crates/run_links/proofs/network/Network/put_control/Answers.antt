use Rattle.std.proofs.Common.{◌∙◌, List, ℕ, [], ◌∷◌, ◌++◌, refl, ap}
use Rattle.links.specs.links_bag.Bags.{message}
use Rattle.scenario_text.specs.declared.line.Message.{Message as ShownMessage}
use Rattle.scenario_text.specs.declared.line.OutLine.TheVariants as outs
use Rattle.run_defs.specs.Printing.{shown_message}
use Rattle.run_links.proofs.Results.{ok_then}
use Rattle.run_links.proofs.OnControlMessages.{put_makes, put_longer}
use Rattle.run_links.proofs.network.Network.put_control.Goals as goal

pub returns-in-Ok-clause-told : goal.returns-in-Ok-clause-told
returns-in-Ok-clause-told c =
    ok_then c.push.result c.push.ensures.ok
    (λ told.
    put_makes c.args.self.now _ c.args.control_message c.in-Ok.number c.args.lines.now c.push.new.self c.in-Ok.ensures c.requires refl
    (told
    ∙ ap (λ (m : ShownMessage). c.args.lines.now ++ outs.PutMessage m ∷ [])
    (c.shown_message.ensures
    ∙ ap (λ (o : List ℕ). shown_message (λ octets. octets) c.in-Ok.number (message c.args.control_message.from c.args.control_message.to c.args.control_message.ue o))
    c.in_ok-bytes.ensures)))

pub returns-in-Ok-clause-control_messages : goal.returns-in-Ok-clause-control_messages
returns-in-Ok-clause-control_messages c =
    ok_then c.push.result c.push.ensures.ok
    (λ told. put_longer c.args.self.now.bag c.put.new.self c.args.control_message c.in-Ok.number c.in-Ok.ensures c.requires)
