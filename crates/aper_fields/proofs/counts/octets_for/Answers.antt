use Rattle.std.proofs.Common.{◌≡◌, ℕ, sym, ap, ◌∙◌, arith}
use Rattle.aper_fields.proofs.CountLemmas.{octets_from, octets_last}
use Rattle.aper_fields.proofs.counts.octets_for.Goals as goal

pub returns-clause-count : goal.returns-clause-count
returns-clause-count c =
    let all : 8 ≡ c.loop-count.count = omega arith in
    sym (octets_last c.args.number) ∙ ap (λ (k : ℕ). octets_from k c.args.number) all ∙ c.loop-count.invariant
