use Rattle.aper_defs.specs.Asking.{asks}
use Rattle.aper_defs.specs.Fields.{Path}
use Rattle.aper_defs.specs.Questions.{Prog}
use Rattle.aper_defs.specs.Values as seen
use Rattle.aper_defs.specs.Trees.{container}
use Rattle.aper_values.specs.types.Types.{tree, rows_of}
use Rattle.aper_frames.specs.Frames.{path_of, next_of}
use Rattle.aper_frames.specs.Weights.{container_weight}
use Rattle.aper_decode.proofs.container.begin_container.Goals as goal

pub returns-in-Ok-clause-asked : goal.returns-in-Ok-clause-asked
returns-in-Ok-clause-asked c =
    let fs = c.args.frames.now in
    c.in-Ok.ensures.asked (path_of fs) (next_of (tree c.args.m.now) fs)

pub returns-in-Err-clause-asked : goal.returns-in-Err-clause-asked
returns-in-Err-clause-asked c =
    let of = tree c.args.m.now in
    let question : Path → (seen.Value → Prog) → Prog = λ p. asks p (container (rows_of of c.args.rows.now)) in
    c.go_inside.ensures.asked question of c.args.cursor.now c.in-Err.ensures.asked

pub returns-in-Err-clause-lighter : goal.returns-in-Err-clause-lighter
returns-in-Err-clause-lighter c = c.go_inside.ensures.lighter (λ w. container_weight w 65535 c.args.rows.now) c.in-Err.ensures.lighter
