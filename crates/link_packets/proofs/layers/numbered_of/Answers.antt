use Rattle.link_packets.proofs.layers.numbered_of.Goals as goal

pub returns-in_default-clause-none : goal.returns-in_default-clause-none
returns-in_default-clause-none c = λ number packet says. c.in_default.ensures.none number (says.0, says.1, says.2)
