use Rattle.std.proofs.Common.{◌∙◌}
use Rattle.std.specs.Map.{keys_of}
use Rattle.links.proofs.links_bag.BagLemmas.{room_left}
use Rattle.links.proofs.links_bag.bag.Bag.has_room.Goals as goal

pub returns : goal.returns
returns c =
    room_left c.self.inside.control_messages.items (keys_of c.self.inside.flight) c.args.self.now c.len.result c.args.more c.saturating_sub.result
    c.self.view_is (c.len.ensures ∙ c.self.inside.control_messages.ok.0) c.self.invariant.few c.saturating_sub.ensures
