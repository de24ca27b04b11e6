use Rattle.law_um.proofs.run.Kept.{always_kept}
use Rattle.law_um.proofs.run.the_entity_is_sound.Goals as goal

pub returns : goal.returns
returns c = λ sn ticks all s reached. (always_kept sn ticks all s reached).sound
