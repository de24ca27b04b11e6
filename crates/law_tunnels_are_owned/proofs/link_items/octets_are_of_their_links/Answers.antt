use Rattle.law_tunnels_are_owned.proofs.link_items.Links.{octets_in_run}
use Rattle.law_tunnels_are_owned.proofs.link_items.octets_are_of_their_links.Goals as goal

pub returns : goal.returns
returns c = λ reading events t is. octets_in_run reading events t is
