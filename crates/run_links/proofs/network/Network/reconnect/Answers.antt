use Rattle.std.proofs.Common.{◌∙◌, ℕ, Option, sym, ap}
use Rattle.links.specs.Radios.{RadioLinks}
use Rattle.run_defs.specs.Steps.{same_epoch}
use Rattle.run_defs.specs.UnitRuns.{unit_world}
use Rattle.run_links.specs.Networks.{Octets}
use Rattle.run_links.proofs.OnRadios.{follows_same, follows_other}
use Rattle.run_links.proofs.network.Network.reconnect.Goals as goal

pub returns-then-same_epoch-clause-told : goal.returns-then-same_epoch-clause-told
returns-then-same_epoch-clause-told c =
    λ codec answer units core is.
    follows_same c.args.ue c.args.now c.args.self.now c.args.lines.now codec answer units core
    (sym c.if-same_epoch.true ∙ c.same_epoch.ensures (unit_world codec answer)
    ∙ ap (λ (e : Option ℕ). same_epoch (unit_world codec answer) e c.args.now) c.epoch.ensures) is

pub returns-clause-told : goal.returns-clause-told
returns-clause-told c =
    λ codec answer units core is.
    follows_other c.args.ue c.args.now c.args.self.now c.lose_radios.new.self _ c.args.lines.now c.lose_radios.new.lines codec answer units core
    (sym c.if-same_epoch.false ∙ c.same_epoch.ensures (unit_world codec answer)
    ∙ ap (λ (e : Option ℕ). same_epoch (unit_world codec answer) e c.args.now) c.epoch.ensures) is c.in_ok-lose_radios.ensures.told
    (ap (λ (r : RadioLinks Octets). record c.lose_radios.new.self { radios = r }) c.connect.ensures)
