use Rattle.aper_values.specs.Views.{view}
use Rattle.json_read.proofs.wholes.Passed.{holds_is}
use Rattle.json_read.proofs.wholes.contents.is_held.Goals as goal

pub returns : goal.returns
returns c =
    λ d p e. holds_is c.args.m.now c.args.id.number (view c.args.value.now) d p c.fits_open.result (c.fits_open.ensures p) e
