use Rattle.aper_fields.proofs.widths.NumberLemmas.{large_ends}
use Rattle.aper_fields.proofs.widths.numbers.after_number.Goals as goal

pub returns : goal.returns
returns c = large_ends c.args.place c.after_large.result c.args.span c.args.number c.if-span-lt65536.false c.after_large.ensures
