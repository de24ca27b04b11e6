use Rattle.std.proofs.Common.{◌==◌, ◌&&◌, Bool, length, sym, ap, ◌∙◌}
use Rattle.gnb_types.specs.declared.names.Dir.TheVariants.{Ul}
use Rattle.transport_defs.specs.Links.{tunnel_items, radio_items}
use Rattle.run_defs.specs.States.{entity}
use Rattle.world_events.proofs.bearers.Standing.{both_empty}
use Rattle.world_events.proofs.bearers.quiet.links_are_empty.Goals as goal

pub returns-then-stands_nowhere : goal.returns-then-stands_nowhere
returns-then-stands_nowhere c = λ units core.
    let tunnels = c.args.network.now.tunnels.tunnels in
    let radios = c.args.network.now.radios.radios in
    let up = entity c.args.ue c.args.bearer Ul in
    c.stands_nowhere-then-stands_nowhere.ensures
    ∙ ap (λ (b : Bool). b && (length (tunnel_items up tunnels) == 0 && length (radio_items up radios) == 0))
    (sym (sym c.stands_nowhere.ensures ∙ c.if-stands_nowhere.true))
    ∙ sym (both_empty c.args.ue c.args.bearer tunnels radios)

pub returns-else-stands_nowhere : goal.returns-else-stands_nowhere
returns-else-stands_nowhere c = λ units core.
    let tunnels = c.args.network.now.tunnels.tunnels in
    let radios = c.args.network.now.radios.radios in
    let up = entity c.args.ue c.args.bearer Ul in
    c.if-stands_nowhere.false
    ∙ ap (λ (b : Bool). b && (length (tunnel_items up tunnels) == 0 && length (radio_items up radios) == 0))
    (sym (sym c.stands_nowhere.ensures ∙ c.if-stands_nowhere.false))
    ∙ sym (both_empty c.args.ue c.args.bearer tunnels radios)
