use Rattle.proof_asn1_modules.proofs.ranks.Ranks.{rank}
use Rattle.proof_asn1_modules.proofs.ranks.Inside.{is_rank}
use Rattle.proof_asn1_modules.proofs.ranks.types_have_ranks.Goals as goal

pub returns : goal.returns
returns c m is = (rank m, is_rank m is)
