use Rattle.link_defs.proofs.OneItem.{one_item, refused_not}
use Rattle.law_links.proofs.octets_say_one_thing.Goals as goal

pub returns : goal.returns
returns c = record { one = one_item; refused = refused_not }
