use Rattle.std.proofs.Common.{◌%◌, ◌+◌, ◌<◌, ◌≤◌, arith}
use Rattle.pdcp.specs.Numbers.{space}
use Rattle.pdcp_defs.specs.Counts.{count_below}
use Rattle.pdcp_entities.proofs.NearLemmas.{found_from, same_remainder}
use Rattle.law_entities.proofs.law_pdcp.below_inverts.Goals as goal

pub returns : goal.returns
unfolding count_below
returns c = λ sn next count below from given. found_from sn next (count % space sn) count from (omega arith) (same_remainder sn count) given
