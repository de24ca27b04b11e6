use Rattle.std.proofs.Common.{ap, ◌∙◌}
use Rattle.aper_fields.specs.Strings.{content_of, units_of}
use Rattle.aper_fields.specs.widths.Ends.{passed}
use Rattle.aper_fields.proofs.widths.PartLemmas.{units_end}
use Rattle.aper_fields.proofs.widths.strings.after_units.Goals as goal

pub returns : goal.returns
returns c =
    units_end c.args.place c.passed.result (content_of c.args.units) (units_of c.args.units)
    (c.passed.ensures ∙ ap (passed c.args.place) c.units_width.ensures.value)
