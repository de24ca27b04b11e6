use Rattle.law_um.proofs.Histories.{kept_always}
use Rattle.law_um.proofs.an_entity_stays_sound.Goals as goal

pub returns : goal.returns
returns p c = λ ticks steps. (kept_always ticks steps).sound
