use Rattle.run_defs.specs.Units.{cu_cp_of}
use Rattle.run_defs.specs.Runs.{plain_way}
use Rattle.law_terminals_are_isolated.proofs.tick_projections.CuCps.{cp_shows}
use Rattle.law_terminals_are_isolated.proofs.run_ticks.Runs.{terminals_on}
use Rattle.law_terminals_are_isolated.proofs.run_ticks.a_tick_in_a_run_is_each_terminals.Goals as goal

pub returns : goal.returns
returns c = λ reading t ue gnb after. cp_shows plain_way ue (cu_cp_of t.units gnb) (terminals_on reading t after gnb)
