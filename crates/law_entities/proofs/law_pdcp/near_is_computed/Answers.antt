use Rattle.pdcp_entities.proofs.NearLemmas.{near_found, near_is}
use Rattle.law_entities.proofs.law_pdcp.near_is_computed.Goals as goal

pub returns : goal.returns
returns c = λ sn deliv number count. (near_found sn deliv number count, near_is sn deliv number count)
