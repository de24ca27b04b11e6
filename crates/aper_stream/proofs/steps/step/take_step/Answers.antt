use Rattle.std.proofs.Common.{sym, subst}
use Rattle.aper_values.specs.types.Types.{tree}
use Rattle.aper_stream.specs.declared.steps.step.Next.{Next}
use Rattle.aper_stream.specs.steps.Steps.{TakesStep}
use Rattle.aper_stream.proofs.steps.step.take_step.Goals as goal

pub returns-in-String-clause-asked : goal.returns-in-String-clause-asked
returns-in-String-clause-asked c =
    let fs = c.args.frames.now in
    subst (λ (next : Next). TakesStep (tree c.args.m.now) next c.args.cursor.now c.more_of_string.new.cursor fs fs c.more_of_string.result)
    (sym c.in-String.is) (c.more_of_string.ensures.asked (tree c.args.m.now) fs)
