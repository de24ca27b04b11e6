use Rattle.std.proofs.Common.{◌≡◌}
use Rattle.aper_defs.specs.Numbers.{octets_for}
use Rattle.aper_fields.proofs.CountLemmas.{octets_from}
use Rattle.aper_fields.proofs.counts.octets_for.Given as goal

abbrev pub invariant-loop-count : goal.invariant-loop-count
invariant-loop-count l = octets_from l.count l.number ≡ octets_for l.number
