use Rattle.std.proofs.Common.{◌≡◌}
use Rattle.aper_defs.specs.Numbers.{bits_for}
use Rattle.aper_fields.proofs.CountLemmas.{bits_from}
use Rattle.aper_fields.proofs.counts.bits_for.Given as goal

abbrev pub invariant-loop-count : goal.invariant-loop-count
invariant-loop-count l = bits_from l.count l.number ≡ bits_for l.number
