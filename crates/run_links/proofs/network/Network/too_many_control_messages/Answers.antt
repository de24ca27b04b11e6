use Rattle.std.proofs.Common.{◌∙◌, ◌+◌, ℕ, not, nat_lt, length, sym, ap}
use Rattle.transport_defs.specs.Links.{most_control_messages}
use Rattle.run_links.proofs.Counting.{control_messages_put, not_not}
use Rattle.run_links.proofs.network.Network.too_many_control_messages.Goals as goal

pub returns : goal.returns
returns c =
    λ world units core.
    ap not c.has_room.ensures ∙ not_not (nat_lt most_control_messages (length c.args.self.now.bag.control_messages + c.control_messages_in.result))
    ∙ ap (λ (n : ℕ). nat_lt most_control_messages (length c.args.self.now.bag.control_messages + n)) (c.control_messages_in.ensures ∙ sym (control_messages_put world c.args.outputs.now))
