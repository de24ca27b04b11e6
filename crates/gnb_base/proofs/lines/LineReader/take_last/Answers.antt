use Rattle.std.proofs.Common.{arith, refl, ◌∙◌}
use Rattle.std.proofs.lemmas.Grind.{common_steps}
use Rattle.gnb_base.proofs.LineReaderLemmas.{last_taken, nothing_left}
use Rattle.gnb_base.proofs.lines.LineReader.take_last.Goals as goal

pub returns : goal.returns
returns c =
    last_taken c.self.inside _ _ _ c.self.view_is c.self.invariant c.requires.going (grind (arith, common_steps)) (grind (arith, common_steps)) refl refl
    (nothing_left _ _ c.self.inside.stop ∙ grind (arith, common_steps)) refl refl
