use Rattle.run_defs.specs.States.{sn_of}
use Rattle.law_terminals_are_isolated.proofs.own_steps.Runs.{sound_in_run}
use Rattle.law_terminals_are_isolated.proofs.step_consistency.Units.{together}
use Rattle.law_terminals_are_isolated.proofs.step_consistency.units_answer_a_terminal_the_same.Goals as goal

pub returns : goal.returns
returns c = λ reading first second s t ue node given xs ys a b there also agree lengths is too shared one two.
    together ue reading s t (sound_in_run reading first s there) (sound_in_run reading second t also) agree (sn_of s) (sn_of t) lengths node given xs ys a b
    is too shared one two
