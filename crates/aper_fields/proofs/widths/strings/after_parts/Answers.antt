use Rattle.std.proofs.Common.{ℕ, ◌+◌, length, ap, ◌∙◌}
use Rattle.aper_fields.specs.Strings.{content_of, units_of}
use Rattle.aper_fields.specs.widths.Ends.{passed}
use Rattle.aper_fields.specs.widths.Widths.{lengths_width}
use Rattle.aper_fields.proofs.widths.PartLemmas.{parts_end}
use Rattle.aper_fields.proofs.widths.strings.after_parts.Goals as goal

pub returns : goal.returns
returns c outside =
    let begin = c.padded.result in
    parts_end c.args.place begin c.passed.result (content_of c.args.units) outside (units_of c.args.units) c.padded.ensures
    (c.passed.ensures
    ∙ ap (λ (n : ℕ). passed begin (n + c.units_width.result)) (c.lengths_width.ensures.value ∙ ap lengths_width c.len.ensures)
    ∙ ap (λ (n : ℕ). passed begin (lengths_width (length (units_of c.args.units)) + n)) c.units_width.ensures.value)
