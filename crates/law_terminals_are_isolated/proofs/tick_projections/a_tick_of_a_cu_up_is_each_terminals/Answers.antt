use Rattle.law_terminals_are_isolated.proofs.tick_projections.Dus.{up_shows, up_depends}
use Rattle.law_terminals_are_isolated.proofs.tick_projections.a_tick_of_a_cu_up_is_each_terminals.Goals as goal

pub returns-clause-shows : goal.returns-clause-shows
returns-clause-shows g c = λ way ue r. up_shows way ue r

pub returns-clause-depends : goal.returns-clause-depends
returns-clause-depends g c = λ way ue r q e dues sr sq. up_depends way ue r q e dues sr sq
