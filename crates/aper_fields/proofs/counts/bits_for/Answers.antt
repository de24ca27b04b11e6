use Rattle.std.proofs.Common.{◌≡◌, ℕ, sym, ap, ◌∙◌, arith}
use Rattle.aper_fields.proofs.CountLemmas.{bits_from, bits_last}
use Rattle.aper_fields.proofs.counts.bits_for.Goals as goal

pub returns-clause-count : goal.returns-clause-count
returns-clause-count c =
    let all : 8 ≡ c.loop-count.count = omega arith in
    sym (bits_last c.args.number) ∙ ap (λ (k : ℕ). bits_from k c.args.number) all ∙ c.loop-count.invariant
