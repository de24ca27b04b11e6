use Rattle.std.proofs.Common.{◌∙◌, [], ◌∷◌, ◌++◌, refl, sym, ap}
use Rattle.scenario_text.specs.declared.line.Link.{Link}
use Rattle.scenario_text.specs.declared.line.Item.{Item as ShownItem}
use Rattle.scenario_text.specs.declared.line.OutLine.TheVariants as outs
use Rattle.run_defs.specs.Lines.{radio_link}
use Rattle.run_links.proofs.Results.{ok_then}
use Rattle.run_links.proofs.OnRadios.{puts_connected, puts_disconnected}
use Rattle.run_links.proofs.network.Network.put_on_radio.Goals as goal

pub returns-then-branch-clause-told : goal.returns-then-branch-clause-told
returns-then-branch-clause-told c =
    puts_connected c.args.epoch c.args.item c.args.self.now _ c.args.lines.now c.push.new.self
    (sym c.if-branch.true ∙ c.in_ok-put.ensures.connected) c.in_ok-put.ensures.ok refl
    (c.in_ok-push.ensures.ok ∙ ap (λ (l : Link). c.args.lines.now ++ outs.Put l c.in_ok-show.field-0 ∷ []) c.radio_link-link.ensures
    ∙ ap (λ (i : ShownItem). c.args.lines.now ++ outs.Put (radio_link c.args.item.key c.args.epoch) i ∷ []) c.in_ok-show.ensures)

pub returns-clause-told : goal.returns-clause-told
returns-clause-told c =
    ok_then c.push-2.result c.push-2.ensures.ok
    (λ told.
    puts_disconnected c.args.epoch c.args.item c.args.self.now _ c.args.lines.now c.push.new.self c.push-2.new.self
    (sym c.if-branch.false ∙ c.in_ok-put.ensures.connected) c.in_ok-put.ensures.ok refl
    (c.in_ok-push.ensures.ok ∙ ap (λ (l : Link). c.args.lines.now ++ outs.Put l c.in_ok-show.field-0 ∷ []) c.radio_link-link.ensures
    ∙ ap (λ (i : ShownItem). c.args.lines.now ++ outs.Put (radio_link c.args.item.key c.args.epoch) i ∷ []) c.in_ok-show.ensures)
    (told ∙ ap (λ (l : Link). c.push.new.self ++ outs.Lost l 1 ∷ []) c.radio_link-link.ensures))
