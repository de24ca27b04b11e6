use Rattle.std.proofs.Common.{◌∙◌, [], ◌∷◌, ◌++◌, refl, ap}
use Rattle.scenario_text.specs.declared.line.Link.{Link}
use Rattle.scenario_text.specs.declared.line.Item.{Item as ShownItem}
use Rattle.scenario_text.specs.declared.line.OutLine.TheVariants as outs
use Rattle.run_defs.specs.Lines.{radio_link}
use Rattle.run_links.proofs.Results.{ok_then}
use Rattle.run_links.proofs.Carrying.{carry_makes}
use Rattle.run_links.proofs.network.Network.carry_off.Goals as goal

pub returns-in-Ok-clause-told : goal.returns-in-Ok-clause-told
returns-in-Ok-clause-told c =
    ok_then c.push.result c.push.ensures.ok
    (λ told item is.
    carry_makes c.args.key c.args.self.now _ item c.in-Ok.item c.shown_epoch.result c.args.lines.now c.push.new.self c.in-Ok.ensures refl is
    c.shown_epoch.ensures
    (told ∙ ap (λ (l : Link). c.args.lines.now ++ outs.Got l c.show_taken.result ∷ []) c.radio_link-link.ensures
    ∙ ap (λ (i : ShownItem). c.args.lines.now ++ outs.Got (radio_link c.args.key c.shown_epoch.result) i ∷ []) c.show_taken.ensures))
