use Rattle.std.proofs.Common.{sym}
use Rattle.links.proofs.link_tallies.SoundLemmas.{tried_are_sound}
use Rattle.links.proofs.link_tallies.tallies.Tallies.enter.Goals as goal

pub invariant_of-self-2 : goal.invariant_of-self-2
invariant_of-self-2 c =
    tried_are_sound c.self.inside.tallies c.args.key c.in-Some.tally.now c.enter.new.self c.args.count c.enter.result c.self.invariant
    (c.self.invariant c.args.key c.in-Some.tally.now (sym c.in-Some.ensures.value)) c.enter.ensures.ok c.enter.ensures.err
