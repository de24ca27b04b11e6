use Rattle.std.proofs.Common.{sym}
use Rattle.links.specs.Tunnels.{tunnel_end}
use Rattle.links.proofs.KeptLemmas.{kept-closed, kept-absent}
use Rattle.links.proofs.tunnels.Tunnels.close.Goals as goal

pub invariant_of-self : goal.invariant_of-self
invariant_of-self c =
    kept-absent (tunnel_end c.args.end c.args.teid) c.self.invariant c.take-2.new.self c.take.new.self c.take-2.ensures.rest c.take.ensures.rest
    (sym c.in_default.ensures.value)

pub invariant_of-self-2 : goal.invariant_of-self-2
invariant_of-self-2 c =
    kept-closed (tunnel_end c.args.end c.args.teid) c.self.invariant c.take-2.new.self c.take.new.self c.in-Some.items c.leave_all.new.self
    c.take-2.ensures.rest c.take.ensures.rest (sym c.in-Some.ensures.value) c.leave_all.ensures
