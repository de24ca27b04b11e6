use Rattle.nr_user_plane.specs.declared.frames.Frame.TheVariants.{Status}
use Rattle.link_packets.proofs.layers.status_of.Goals as goal

pub returns-in-None-clause-none : goal.returns-in-None-clause-none
returns-in-None-clause-none c = λ room lost delivered says empty. c.in-None.ensures.none (Status room lost delivered) says
