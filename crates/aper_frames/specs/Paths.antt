-- Ways to values, as the definitions have them.
use Rattle.std.specs.Prelude.{List, ◌∷◌, map, reverse, Option, Some, None}
use Rattle.aper_defs.specs.Fields.{Path}
use Rattle.aper_defs.specs.Fields as fields
use Rattle.aper_frames.specs.declared.path.Step.{Step}
use Rattle.aper_frames.specs.declared.path.Step.TheVariants as steps

abbrev pub step_view : Step → fields.Step
step_view (steps.Component name) = fields.component name.now
step_view (steps.Member index) = fields.member index
step_view (steps.Element id) = fields.element id
step_view (steps.Outcome index) = fields.outcome index

-- the definitions have the last step first
abbrev pub path_view : List Step → Path
path_view path = map step_view (reverse path)

-- one step more, where there is one
abbrev pub step_put : Option Step → Path → Path
step_put None p = p
step_put (Some step) p = step_view step ∷ p
