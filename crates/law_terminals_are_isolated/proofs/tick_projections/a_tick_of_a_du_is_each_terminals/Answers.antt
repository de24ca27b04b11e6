use Rattle.law_terminals_are_isolated.proofs.tick_projections.Dus.{du_shows, du_depends}
use Rattle.law_terminals_are_isolated.proofs.tick_projections.a_tick_of_a_du_is_each_terminals.Goals as goal

pub returns-clause-shows : goal.returns-clause-shows
returns-clause-shows g c = λ way ue r. du_shows way ue r

pub returns-clause-depends : goal.returns-clause-depends
returns-clause-depends g c = λ way ue r q e dues sr sq. du_depends way ue r q e dues sr sq
