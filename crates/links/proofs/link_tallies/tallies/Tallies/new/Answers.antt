use Rattle.links.proofs.link_tallies.SoundLemmas.{none_are_sound}
use Rattle.links.proofs.link_tallies.tallies.Tallies.new.Goals as goal

pub invariant_of-result : goal.invariant_of-result
invariant_of-result c = none_are_sound _ c.new.ensures
