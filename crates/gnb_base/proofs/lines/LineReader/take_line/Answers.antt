use Rattle.std.proofs.Common.{refl, ap, arith}
use Rattle.std.proofs.lemmas.Grind.{common_steps}
use Rattle.gnb_base.specs.Reading.{Reading}
use Rattle.gnb_base.proofs.LineReaderLemmas.{line_taken, kept_without_lf, kept_few, going_within, same_first, phase_is, after_nothing}
use Rattle.gnb_base.proofs.lines.LineReader.take_line.Goals as goal

pub returns-in_default : goal.returns-in_default
returns-in_default c = (kept_without_lf c.self.inside _ _ c.self.view_is c.self.invariant c.deref.ensures.value c.in_default.ensures, refl)

pub returns : goal.returns
returns c =
    line_taken c.self.inside _ _ _ c.in-Some.length c.self.view_is c.self.invariant c.requires
    (same_first c.self.inside _ _ c.deref.ensures.value c.in-Some.ensures)
    (grind (arith, common_steps)) refl refl (after_nothing _ _ (grind (arith, common_steps))) refl (phase_is c.self.inside _ c.self.view_is c.requires)

pub returns-in-Err : goal.returns-in-Err
returns-in-Err c = (
  refl,
  ap (λ (o : Reading). o.taken) c.self.view_is,
  going_within c.self.inside _ c.self.view_is c.self.invariant c.requires,
  kept_few c.self.inside _ c.self.view_is c.self.invariant,
)
