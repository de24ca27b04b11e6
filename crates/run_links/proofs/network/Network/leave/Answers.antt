use Rattle.std.proofs.Common.{◌∙◌, List, None, ap}
use Rattle.gnb_types.specs.declared.names.UeId.{UeId}
use Rattle.links.specs.Radios.{RadioLinks, connected_in}
use Rattle.run_links.specs.Networks.{Octets}
use Rattle.run_links.proofs.Results.{ok_then}
use Rattle.run_links.proofs.OnRadios.{leaves_makes}
use Rattle.run_links.proofs.network.Network.leave.Goals as goal

pub returns-clause-told : goal.returns-clause-told
returns-clause-told c =
    let middle = c.lose_radios.new.self in
    ok_then c.push.result c.push.ensures.ok
    (λ told.
    leaves_makes c.args.ue c.args.self.now middle _ c.args.lines.now c.lose_radios.new.lines c.in_ok-lose_radios.ensures.told
    (ap (λ (r : RadioLinks Octets). record middle { radios = r; gone = c.push.new.self }) c.connect.ensures
    ∙ ap (λ (l : List UeId). record middle { radios = connected_in middle.radios c.args.ue None; gone = l }) told))
