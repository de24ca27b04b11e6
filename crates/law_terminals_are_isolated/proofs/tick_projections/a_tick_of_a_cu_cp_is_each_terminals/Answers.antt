use Rattle.law_terminals_are_isolated.proofs.tick_projections.CuCps.{cp_shows, cp_depends}
use Rattle.law_terminals_are_isolated.proofs.tick_projections.a_tick_of_a_cu_cp_is_each_terminals.Goals as goal

pub returns-clause-shows : goal.returns-clause-shows
returns-clause-shows g c = λ way ue r sorted. cp_shows way ue r sorted

pub returns-clause-depends : goal.returns-clause-depends
returns-clause-depends g c = λ way ue r q e dues sr sq. cp_depends way ue r q e dues sr sq
