use Rattle.std.proofs.Common.{sym}
use Rattle.links.proofs.link_tallies.SoundLemmas.{left_are_sound}
use Rattle.links.proofs.link_tallies.tallies.Tallies.leave.Goals as goal

pub invariant_of-self-2 : goal.invariant_of-self-2
invariant_of-self-2 c =
    left_are_sound c.self.inside.tallies c.args.key c.in-Some.tally.now c.leave.new.self c.args.count c.self.invariant
    (c.self.invariant c.args.key c.in-Some.tally.now (sym c.in-Some.ensures.value)) c.leave.ensures
