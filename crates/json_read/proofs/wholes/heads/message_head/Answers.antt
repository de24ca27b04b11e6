use Rattle.std.proofs.Common.{◌∷◌}
use Rattle.aper_defs.specs.Fields as ways
use Rattle.serde_json.specs.View.{view as json}
use Rattle.json_read.specs.wholes.Heads.{body_head_demands}
use Rattle.json_read.proofs.wholes.heads.message_head.Goals as goal

pub returns-in-Ok : goal.returns-in-Ok
returns-in-Ok c = ((λ p. c.in-Ok.ensures.0 (ways.outcome c.args.outcome ∷ p)), c.in-Ok.ensures.1)

pub returns-in-Err : goal.returns-in-Err
returns-in-Err c = c.under.ensures (λ p. body_head_demands p (json c.args.d.now)) c.in-Err.ensures
