use Rattle.std.proofs.Common.{◌∙◌, ap, length, ℕ, List}
use Rattle.transport_defs.specs.Links.{Radio, radio_items, radio_counts, least_of}
use Rattle.links.proofs.link_tallies.Standing.{number_is, least_is_of}
use Rattle.links.specs.Radios.{RadioLinks}
use Rattle.links.specs.Tunnels.{entity}
use Rattle.links.proofs.radios.Radios.standing.Goals as goal

pub returns-clause-number : goal.returns-clause-number
returns-clause-number c =
    c.number.ensures
    ∙ number_is (λ (radio : Radio (List ℕ)). radio.items) c.self.inside.tallies c.self.inside.radios (entity c.args.ue c.args.bearer c.args.dir) c.self.invariant.tied
    ∙ ap (λ (s : RadioLinks (List ℕ)). length (radio_items (entity c.args.ue c.args.bearer c.args.dir) s.radios)) c.self.view_is

pub returns-clause-least : goal.returns-clause-least
returns-clause-least c =
    least_is_of (λ (radio : Radio (List ℕ)). radio.items) c.self.inside.tallies c.self.inside.radios (entity c.args.ue c.args.bearer c.args.dir)
    c.least_shown.result c.self.invariant.tied c.least_shown.ensures.least
    ∙ ap (λ (s : RadioLinks (List ℕ)). least_of (radio_counts (entity c.args.ue c.args.bearer c.args.dir) s.radios)) c.self.view_is
