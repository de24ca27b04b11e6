use Rattle.law_um.proofs.run.Gaps.{passes}
use Rattle.law_um.proofs.run.a_gap_is_passed_after_all_ticks.Goals as goal

pub returns : goal.returns
returns c = λ sn ticks all event before printed after reached goes count from none less.
    passes sn ticks all event before printed after reached goes count from none less
