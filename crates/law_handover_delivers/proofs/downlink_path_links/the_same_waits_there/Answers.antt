use Rattle.proof_bearer_refinement.proofs.runs.Fair.{puts_fit}
use Rattle.law_handover_delivers.proofs.downlink_path_links.Airs.{waits_far, one_radio}
use Rattle.law_handover_delivers.proofs.downlink_path_links.the_same_waits_there.Goals as goal

pub returns : goal.returns
returns c = record {
  waits = λ reading event s t ue bearer d cause outputs units fair acted stays beside far h.
      waits_far reading event s t ue bearer d cause outputs units acted.stands stays beside far (puts_fit reading s event cause outputs units fair acted) h;
  one = one_radio;
}
