use Rattle.proof_bearer_refinement.proofs.other_contexts.Later.{sends_later, all_lost}
use Rattle.proof_bearer_refinement.proofs.other_contexts.what_is_sent_stays_so_later.Goals as goal

pub returns : goal.returns
returns c = record { later = sends_later; lost = all_lost }
