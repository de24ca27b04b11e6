use Rattle.std.proofs.Common.{List, ap, ◌∙◌}
use Rattle.aper_frames.specs.declared.path.Step.{Step}
use Rattle.aper_frames.specs.Paths.{path_view}
use Rattle.aper.specs.PathText.{path_text}
use Rattle.values_json.proofs.Answered.{first_told}
use Rattle.values_json.proofs.reading.refused.Goals as goal

pub returns-in-Shape : goal.returns-in-Shape
returns-in-Shape c =
    λ of tells. first_told of c.args.refusal c.in-Fault.fault _ c.in-Fault.path c.in-Ok.path c.in-Fault.is c.in-Shape.is
    (c.in-Ok.ensures ∙ ap (λ (steps : List Step). path_text (path_view steps)) (c.as_slice.ensures.value ∙ c.reverse.ensures.items)) tells

pub returns : goal.returns
returns c =
    λ of tells. first_told of c.args.refusal c.in-Fault.fault _ c.in-Fault.path c.in-Ok.path c.in-Fault.is c.in-Range.is
    (c.in-Ok.ensures ∙ ap (λ (steps : List Step). path_text (path_view steps)) (c.as_slice.ensures.value ∙ c.reverse.ensures.items)) tells
