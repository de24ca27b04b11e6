use Rattle.law_handover.proofs.Leaving.{leaves}
use Rattle.law_handover.proofs.no_return.only_a_return_brings_it_back_to_its_du.Goals as goal

pub returns : goal.returns
returns g c way at from t context a token h = leaves way at from t context a token h
