use Rattle.law_aper.proofs.pieces.Fronts.{begun, begun_again}
use Rattle.law_aper.proofs.pieces.what_is_found_begins_the_octets.Goals as goal

pub returns-clause-spelled : goal.returns-clause-spelled
returns-clause-spelled c = begun

pub returns-clause-found : goal.returns-clause-found
returns-clause-found c = begun_again
