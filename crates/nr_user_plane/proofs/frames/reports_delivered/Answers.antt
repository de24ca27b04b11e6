use Rattle.std.proofs.Common.{◌≡◌, ℕ, ◌*◌, ◌/◌, ◌%◌, ◌<◌, ◌==◌, ◌∙◌, not, zero, suc, refl, ap, arith}
use Rattle.std.proofs.lemmas.Nat.Bits.{and_pow}
use Rattle.nr_user_plane.proofs.frames.reports_delivered.Goals as goal

-- a bit in its place is 0 or not as the bit is
in_place : (bit : ℕ) → bit < 2 → not (bit * 4 == 0) ≡ (bit == 1)
in_place zero small = refl
in_place (suc zero) small = refl
in_place (suc (suc bit)) small = absurd (omega arith)

pub returns : goal.returns
returns c = ap (λ n. not (n == 0)) (and_pow c.args.first 2) ∙ in_place (c.args.first / 4 % 2) (omega arith)
