use Rattle.std.proofs.Common.{◌≡◌, List, ◌∷◌, ◌++◌, map, Some, sym, ap, subst, ◌∙◌}
use Rattle.aper_defs.specs.Fields.{Path}
use Rattle.aper_frames.specs.Paths.{step_view}
use Rattle.aper_frames.specs.declared.path.Step.{Step}
use Rattle.json_fields.specs.simple.Answers.{Tells}
use Rattle.json_fields.specs.declared.simple.refusal.Refusal.TheVariants.{Fault}
use Rattle.json_fields.proofs.simple.Steps.{steps_more}
use Rattle.json_fields.proofs.simple.refusal.under.Goals as goal

pub returns-in-Ok : goal.returns-in-Ok
returns-in-Ok c =
    λ of h p. let told : Tells of (Fault c.in-Fault.fault c.in-Fault.path) = subst (Tells of) c.in-Fault.is h in
    let more : map step_view c.push.new.self.items ++ p ≡ map step_view c.in-Fault.path.items ++ step_view c.args.step ∷ p =
    ap (λ (steps : List Step). map step_view steps ++ p) c.in-Ok.ensures.items ∙ steps_more c.in-Fault.path.items c.args.step p in
    told (step_view c.args.step ∷ p) ∙ ap (λ (q : Path). Some (c.in-Fault.fault, q)) (sym more)
