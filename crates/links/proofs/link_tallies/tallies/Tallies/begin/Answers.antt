use Rattle.std.proofs.Common.{subst, sym}
use Rattle.links.specs.link_tallies.inside.Sound.{AreSound}
use Rattle.links.proofs.link_tallies.SoundLemmas.{begun_are_sound}
use Rattle.links.proofs.link_tallies.tallies.Tallies.begin.Goals as goal

pub invariant_of-self : goal.invariant_of-self
invariant_of-self c = subst AreSound (sym c.in_err-put.ensures.err) c.self.invariant

pub invariant_of-self-2 : goal.invariant_of-self-2
invariant_of-self-2 c =
    subst AreSound (sym c.in_ok-put.ensures.ok)
    (begun_are_sound c.self.inside.tallies c.args.key c.new-tally.result c.enter.new.self c.args.count c.self.invariant c.new-tally.ensures c.in_ok-enter.ensures.ok)
