use Rattle.proof_bearer_refinement.proofs.du_radios.Puts.{puts_frames, frame_changes}
use Rattle.proof_bearer_refinement.proofs.du_radios.a_du_puts_frames_on_the_radio.Goals as goal

pub returns : goal.returns
returns c = record {
  puts = λ ue bearer r left input outputs lengths at in_order answers. puts_frames ue bearer r left input outputs lengths at in_order answers;
  frame = λ ue bearer r teid poll restart number pdu found. frame_changes ue bearer r teid poll restart number pdu found;
}
