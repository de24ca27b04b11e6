use Rattle.transcript_check.proofs.ItemLemmas.{not_true}
use Rattle.transcript_check.proofs.index.accepted.Accepted.reads.Goals as goal

pub returns-in-None : goal.returns-in-None
returns-in-None c = λ happened are. not_true (λ reading. c.in-None.ensures.only happened are reading)
