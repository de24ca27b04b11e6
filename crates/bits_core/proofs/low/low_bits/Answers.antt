use Rattle.std.proofs.Common.{ℕ, ◌-◌, ap, ◌∙◌, arith, bit_and}
use Rattle.std.proofs.lemmas.Nat.{one_shl, and_mask}
use Rattle.bits_core.proofs.low.low_bits.Goals as goal

pub returns : goal.returns
returns c =
    ap (λ (m : ℕ). bit_and c.args.number (m - 1)) (one_shl c.args.count 64 (omega arith)) ∙ and_mask c.args.number c.args.count
