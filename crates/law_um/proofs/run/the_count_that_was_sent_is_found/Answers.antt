use Rattle.law_um.proofs.run.Kept.{always_kept, found}
use Rattle.law_um.proofs.run.the_count_that_was_sent_is_found.Goals as goal

pub returns : goal.returns
returns c = λ sn ticks all s reached number packet here. found sn ticks all s (always_kept sn ticks all s reached) number packet here
