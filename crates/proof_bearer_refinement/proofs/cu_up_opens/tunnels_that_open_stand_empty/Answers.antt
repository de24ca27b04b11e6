use Rattle.std.proofs.Common.{◌≡◌, ℕ, List, []}
use Rattle.proof_bearer_refinement.specs.refinement_facts.Refinements.{Owned, RunItem}
use Rattle.proof_bearer_refinement.proofs.cu_up_opens.Opened.{owners_stay, opened_at, nothing_stands, result}
use Rattle.proof_bearer_refinement.proofs.cu_up_opens.tunnels_that_open_stand_empty.Goals as goal

pub returns : goal.returns
returns c = record {
  stay = λ reading n ue bearer s t gnb number cause input outputs v step sound end o w was is.
      owners_stay reading n ue bearer s t gnb number cause input outputs v step sound end o w was is;
  opened = λ reading n ue bearer s t gnb number cause input outputs v step sound end o items none is there.
      opened_at reading n ue bearer s t gnb number cause input outputs v step sound (λ (teid : ℕ) (w : Owned) (zs : List RunItem). zs ≡ [])
      (λ teid w zs opens stands.
      nothing_stands reading n ue bearer s t gnb number cause input outputs v step sound teid w opens
      (result reading n ue bearer s t gnb number cause input outputs v step sound teid w opens).0 zs stands)
      end o items none is there;
}
