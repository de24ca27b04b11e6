use Rattle.std.proofs.Common.{sym}
use Rattle.links.specs.Tunnels.{tunnel_end}
use Rattle.links.proofs.KeptLemmas.{kept-put, kept-undone}
use Rattle.links.proofs.tunnels.Tunnels.put.Goals as goal

pub invariant_of-self-in-Ok : goal.invariant_of-self-in-Ok
invariant_of-self-in-Ok c =
    kept-put (tunnel_end c.args.end c.args.teid) c.self.invariant c.in-Some.queue.now c.push.new.self c.args.item c.enter.new.self
    (sym c.in-Some.ensures.value) c.in-Ok.ensures.ok c.in_ok-enter.ensures.ok

pub invariant_of-self-in-Err : goal.invariant_of-self-in-Err
invariant_of-self-in-Err c =
    kept-undone (tunnel_end c.args.end c.args.teid) c.self.invariant c.in-Some.queue.now c.push.new.self c.args.item c.enter.new.self c.leave.new.self
    (sym c.in-Some.ensures.value) c.in-Err.ensures.err c.in_ok-enter.ensures.ok c.leave.ensures
