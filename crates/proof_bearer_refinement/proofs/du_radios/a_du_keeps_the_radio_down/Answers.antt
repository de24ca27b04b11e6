use Rattle.proof_bearer_refinement.proofs.du_radios.Keeps.{takes_a_frame, keeps_quiet}
use Rattle.proof_bearer_refinement.proofs.du_radios.a_du_keeps_the_radio_down.Goals as goal

pub returns : goal.returns
returns c = record {
  takes = λ reading event s t ue bearer d gnb number cause input outputs left part f rest next needed in_order stands step beside there change at down.
      takes_a_frame reading event s t ue bearer d gnb number cause input outputs left in_order stands step beside part f rest next needed there change at down;
  quiet = λ reading event s t ue bearer d gnb number cause input outputs left b frames next needed in_order stands step beside none down.
      keeps_quiet reading event s t ue bearer d gnb number cause input outputs left in_order stands step beside b frames next needed none down;
}
