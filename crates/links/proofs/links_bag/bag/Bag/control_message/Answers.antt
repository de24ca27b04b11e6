use Rattle.std.proofs.Common.{◌≡◌, ◌+◌, arith}
use Rattle.std.specs.Map.{keys_of}
use Rattle.links.proofs.links_bag.BagLemmas.{control_message_found, control_message_zero}
use Rattle.links.proofs.links_bag.bag.Bag.control_message.Goals as goal

pub returns-in-Some : goal.returns-in-Some
returns-in-Some c =
    let next : c.args.number ≡ c.in-Some.index + 1 = omega arith in
    control_message_found c.self.inside.control_messages.items (keys_of c.self.inside.flight) c.args.self.now c.in-Some.index c.args.number _ c.self.view_is next
    c.message_at.ensures

pub returns-in-None : goal.returns-in-None
returns-in-None c =
    let zero : c.args.number ≡ 0 = omega arith in
    control_message_zero c.self.inside.control_messages.items (keys_of c.self.inside.flight) c.args.self.now c.args.number c.self.view_is zero
