use Rattle.proof_bearer_refinement.proofs.carried_was_received.Steps.{known_then, known_put}
use Rattle.proof_bearer_refinement.proofs.carried_was_received.a_step_keeps_what_is_known.Goals as goal

pub returns : goal.returns
returns c = record {
  acts = λ reading event s t key deliv cause outputs units lines stands receives is h.
      known_then deliv key reading event s t cause outputs units lines stands receives is h;
  puts = λ reading s t key deliv node taken outputs lines is h. known_put deliv key reading s t node taken outputs lines is h;
}
