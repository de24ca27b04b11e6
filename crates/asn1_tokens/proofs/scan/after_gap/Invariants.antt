use Rattle.std.proofs.Common.{◌≡◌, ◌≤◌, length}
use Rattle.asn1_tokens.specs.Scan.{after_gap}
use Rattle.asn1_tokens.specs.declared.scan.Gap.TheVariants.{Between}
use Rattle.asn1_tokens.proofs.scan.after_gap.Given as goal

abbrev pub invariant-loop-rest : goal.invariant-loop-rest
invariant-loop-rest l = record { rest : after_gap l.gap l.rest ≡ after_gap Between l.fn.text; shorter : length l.rest ≤ length l.fn.text }

abbrev pub decreases-loop-rest : goal.decreases-loop-rest
decreases-loop-rest l = length l.rest
