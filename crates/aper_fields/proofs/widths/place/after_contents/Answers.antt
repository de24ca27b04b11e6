use Rattle.std.proofs.Common.{ap, ◌∙◌}
use Rattle.aper_fields.specs.widths.Ends.{passed}
use Rattle.aper_fields.proofs.widths.EndLemmas.{open_ends, raw_ends}
use Rattle.aper_fields.proofs.widths.place.after_contents.Goals as goal

pub returns-clause-raw : goal.returns-clause-raw
returns-clause-raw c p inside octets rest counted =
    raw_ends c.args.place c.padded.result c.passed-begin.result c.passed.result c.args.count p inside octets rest counted c.padded.ensures
    (c.passed-begin.ensures ∙ ap (passed c.padded.result) (c.from.ensures ∙ c.extent_width.ensures))
    (c.passed.ensures ∙ ap (passed c.passed-begin.result) c.from-2.ensures)

pub returns-clause-opened : goal.returns-clause-opened
returns-clause-opened c p inside fields rest counted =
    open_ends c.args.place c.padded.result c.passed-begin.result c.passed.result c.args.count p inside fields rest counted c.padded.ensures
    (c.passed-begin.ensures ∙ ap (passed c.padded.result) (c.from.ensures ∙ c.extent_width.ensures))
    (c.passed.ensures ∙ ap (passed c.passed-begin.result) c.from-2.ensures)
