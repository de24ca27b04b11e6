use Rattle.pdcp.proofs.NearLaws.{near_is_one}
use Rattle.pdcp.proofs.laws.near_is_one.Goals as goal

pub returns : goal.returns
returns c = near_is_one
