use Rattle.nr_user_plane.specs.declared.frames.Frame.TheVariants.{Data}
use Rattle.link_packets.proofs.layers.data_of.Goals as goal

pub returns-in-None-clause-none : goal.returns-in-None-clause-none
returns-in-None-clause-none c = λ poll restart number says. c.in-None.ensures.none (Data poll restart number) says
