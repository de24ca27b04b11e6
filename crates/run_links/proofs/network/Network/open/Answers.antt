use Rattle.std.proofs.Common.{◌∙◌, List, sym, ap}
use Rattle.std.proofs.lemmas.List.{append-nil}
use Rattle.gnb_types.specs.declared.keys.TunnelEnd.{TunnelEnd}
use Rattle.transport_defs.specs.declared.Item.{Item}
use Rattle.run_defs.specs.Steps.{opens}
use Rattle.run_links.specs.declared.network.Network.{Network}
use Rattle.run_links.specs.Networks.{Octets, state_of}
use Rattle.run_links.proofs.Results.{ok_then}
use Rattle.run_links.proofs.network.Network.open.Goals as goal

pub returns-clause-told : goal.returns-clause-told
unfolding opens
returns-clause-told c =
    ok_then c.open_end.result c.open_end.ensures
    (λ is lines codec answer units core. (
      sym (append-nil lines),
      ap (λ (t : List (TunnelEnd × List (Item Octets))). record (state_of units core c.args.self.now) { tunnels = t }) (sym is.0)
          ∙ ap (λ (g : Network). state_of units core g) (sym is.1),
    ))
