use Rattle.law_aper.proofs.feeding.Stages.{cut_decoded, decoded_cut, wrong_decoded}
use Rattle.law_aper.proofs.feeding.more_is_awaited_where_octets_are_cut_off.Goals as goal

pub returns-clause-cut_off : goal.returns-clause-cut_off
returns-clause-cut_off c = cut_decoded

pub returns-clause-awaited : goal.returns-clause-awaited
returns-clause-awaited c = decoded_cut

pub returns-clause-refused : goal.returns-clause-refused
returns-clause-refused c = wrong_decoded
