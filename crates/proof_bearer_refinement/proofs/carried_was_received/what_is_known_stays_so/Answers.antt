use Rattle.proof_bearer_refinement.proofs.carried_was_received.Steps.{silent_known, known_later, acked_known}
use Rattle.run_defs.specs.States.{radio_of}
use Rattle.proof_bearer_refinement.proofs.carried_was_received.what_is_known_stays_so.Goals as goal

pub returns : goal.returns
returns c = record {
  silent = λ deliv. silent_known deliv;
  later = λ r deliv later more h. known_later r deliv later more h;
  less = λ a d h. record { known = h.known; waits = h.waits; radio = h.radio; received = h.received };
  confirmed = λ event s key deliv h home item rest stands. (acked_known deliv (radio_of s key) h item rest stands.1 stands.2).1;
}
