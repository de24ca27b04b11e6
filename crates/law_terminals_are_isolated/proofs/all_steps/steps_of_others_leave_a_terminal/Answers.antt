use Rattle.std.proofs.Common.{subst}
use Rattle.law_terminals_are_isolated.proofs.all_steps.Others.{SharesAt, made_shares}
use Rattle.law_terminals_are_isolated.proofs.all_steps.steps_of_others_leave_a_terminal.Goals as goal

pub returns : goal.returns
returns c = λ reading event ue s t e told made after none goes_so. subst (SharesAt reading ue s) goes_so (made_shares reading ue event s e made after none)
