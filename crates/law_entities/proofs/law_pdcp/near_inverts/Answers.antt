use Rattle.pdcp.specs.Numbers.{space}
use Rattle.pdcp.proofs.NearLaws.{near_inverts}
use Rattle.pdcp_entities.proofs.NearLemmas.{near_is}
use Rattle.law_entities.proofs.law_pdcp.near_inverts.Goals as goal
use Rattle.std.proofs.Common.{◌%◌}

pub returns : goal.returns
returns c = λ sn low deliv count a b d e given. near_is sn deliv (count % space sn) count (near_inverts sn low deliv count a b d e given)
