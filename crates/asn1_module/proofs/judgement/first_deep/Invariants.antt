use Rattle.std.proofs.Common.{ℕ, ◌<◌}
use Rattle.asn1_defs.specs.Judgement.{IsTooDeep}
use Rattle.asn1_module.proofs.judgement.first_deep.Given as goal

abbrev pub invariant-loop-number : goal.invariant-loop-number
invariant-loop-number l = (k : ℕ) → k < l.number → IsTooDeep l.syntax k → ⊥
