use Rattle.std.proofs.Common.{[], ◌∷◌, false, Option, refl, sym, subst}
use Rattle.aper_frames.specs.declared.path.Step.{Step}
use Rattle.aper_frames.specs.Paths.{step_put}
use Rattle.json_defs.specs.declared.fault.JsonFault.TheVariants.{Range}
use Rattle.json_defs.specs.Demands.{range}
use Rattle.json_fields.specs.simple.Answers.{Tells}
use Rattle.json_read.proofs.wholes.Passed.{here_told}
use Rattle.json_read.proofs.wholes.contents.range_at.Goals as goal

pub returns-in-Some : goal.returns-in-Some
returns-in-Some c =
    subst (λ (s : Option Step). Tells (λ p. range (step_put s p) false ∷ []) c.under.result) (sym c.in-Some.is)
    (c.under.ensures (λ p. range p false ∷ []) (here_told Range c.range.result (λ p. false) c.range.ensures (λ p. refl)))

pub returns-in-None : goal.returns-in-None
returns-in-None c =
    subst (λ (s : Option Step). Tells (λ p. range (step_put s p) false ∷ []) c.range-in-None.result) (sym c.in-None.is)
    (here_told Range c.range-in-None.result (λ p. false) c.range-in-None.ensures (λ p. refl))
