use Rattle.law_terminals_are_isolated.proofs.equal_projections.Ticks.{units_tick}
use Rattle.law_terminals_are_isolated.proofs.equal_projections.a_tick_keeps_a_projection_the_same.Goals as goal

pub returns : goal.returns
returns c = λ reading ue node s x t y p q h lengths a b shared. units_tick reading ue node s x t y p q h lengths a b shared
