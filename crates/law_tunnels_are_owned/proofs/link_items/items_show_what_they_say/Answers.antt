use Rattle.law_tunnels_are_owned.proofs.link_items.Links.{items_in_run}
use Rattle.law_tunnels_are_owned.proofs.link_items.items_show_what_they_say.Goals as goal

pub returns : goal.returns
returns c = λ reading events t is. items_in_run reading events t is
