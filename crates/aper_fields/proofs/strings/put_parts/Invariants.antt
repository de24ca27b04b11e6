use Rattle.std.proofs.Common.{◌≡◌, ℕ, length}
use Rattle.bits_core.specs.Writing.{Written}
use Rattle.aper_fields.specs.Strings.{content_of, units_of}
use Rattle.aper_fields.proofs.PartLemmas.{PartsFollow}
use Rattle.aper_fields.proofs.strings.put_parts.Given as goal

-- whatever puts what is left puts all
abbrev pub invariant-loop-left : goal.invariant-loop-left
invariant-loop-left l = (new : Written) → PartsFollow l.out new (content_of l.left) (units_of l.left)
    → PartsFollow l.fn.out new (content_of l.units) (units_of l.units)

abbrev pub decreases-loop-left : goal.decreases-loop-left
decreases-loop-left l = length (units_of l.left)
