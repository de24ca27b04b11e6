use Rattle.pdcp.proofs.NearLaws.{near_inverts}
use Rattle.pdcp.proofs.laws.near_inverts.Goals as goal

pub returns : goal.returns
returns c = near_inverts
