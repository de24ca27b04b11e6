use Rattle.std.proofs.Common.{◌∙◌, arith}
use Rattle.aper_fields.proofs.widths.EndLemmas.{one_octet, some_octets}
use Rattle.aper_fields.proofs.widths.place.octet_count.Goals as goal

pub returns-then-end-eq0 : goal.returns-then-end-eq0
returns-then-end-eq0 c p fields is = omega (arith, one_octet p fields (is ∙ c.if-end-eq0.true))

pub returns-else-end-eq0 : goal.returns-else-end-eq0
returns-else-end-eq0 c p fields is =
    omega (arith, c.div_ceil.ensures, some_octets c.args.end p fields is (omega (arith, c.if-end-eq0.false)))
