use Rattle.std.proofs.Common.{sym}
use Rattle.links.specs.Tunnels.{tunnel_end}
use Rattle.links.proofs.KeptLemmas.{kept-take}
use Rattle.links.proofs.tunnels.Tunnels.get.Goals as goal

pub invariant_of-self-2 : goal.invariant_of-self-2
invariant_of-self-2 c =
    kept-take (tunnel_end c.args.end c.args.teid) c.self.invariant c.in-Some.queue.now c.take.new.self c.in-Some-take.item c.leave.new.self
    (sym c.in-Some.ensures.value) c.in-Some-take.ensures c.leave.ensures
