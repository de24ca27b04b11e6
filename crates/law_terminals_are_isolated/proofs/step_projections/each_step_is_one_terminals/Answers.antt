use Rattle.law_terminals_are_isolated.proofs.step_projections.Runs.{one_terminals}
use Rattle.law_terminals_are_isolated.proofs.step_projections.each_step_is_one_terminals.Goals as goal

pub returns : goal.returns
returns c = λ reading events t lengths node given ue there is. one_terminals reading events t there lengths node given ue is
