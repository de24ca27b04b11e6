use Rattle.std.proofs.Common.{◌≡◌, [], ◌∷◌, Option, sym, ap, ◌∙◌}
use Rattle.aper_frames.specs.declared.path.Step.{Step}
use Rattle.aper_frames.specs.Paths.{step_view}
use Rattle.json_defs.specs.declared.fault.JsonFault.TheVariants.{Range}
use Rattle.json_defs.specs.Readings.{first_of}
use Rattle.json_defs.specs.Demands.{range, first_fault}
use Rattle.json_read.specs.wholes.Reads.{unfit_at}
use Rattle.json_read.proofs.wholes.Demanded.{one_none, one_some}
use Rattle.json_read.proofs.wholes.contents.first_unfit.Goals as goal

pub returns-in-Some : goal.returns-in-Some
returns-in-Some c =
    λ p. ap (λ (u : Option Step). first_of (unfit_at p u) (first_fault (range (step_view c.args.step ∷ p) c.args.fits ∷ []))) (sym c.in-Some.is)

pub returns-in-None : goal.returns-in-None
returns-in-None c =
    λ p. sym (ap (λ (u : Option Step). first_of (unfit_at p u) (first_fault (range (step_view c.args.step ∷ p) c.args.fits ∷ []))) c.in-None.is
    ∙ one_none (step_view c.args.step ∷ p) Range c.args.fits c.if-fits.true)

pub returns-in-None-2 : goal.returns-in-None-2
returns-in-None-2 c =
    λ p. sym (ap (λ (u : Option Step). first_of (unfit_at p u) (first_fault (range (step_view c.args.step ∷ p) c.args.fits ∷ []))) c.in-None-2.is
    ∙ one_some (step_view c.args.step ∷ p) Range c.args.fits c.if-fits.false)
