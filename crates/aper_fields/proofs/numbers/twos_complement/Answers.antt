use Rattle.std.proofs.Common.{◌≡◌, ◌-◌, ◌*◌, ◌^◌, ◌<◌, ℕ, true, ap, sym, subst, ◌∙◌, rules}
use Rattle.std.specs.Prelude.{pos}
use Rattle.std.specs.Int.Signed.{lt_z}
use Rattle.aper_defs.specs.Numbers.{unsigned_part}
use Rattle.aper_fields.proofs.Signed.{ones_are, part_within, negative}
use Rattle.aper_fields.proofs.numbers.twos_complement.Goals as goal

pub overflow_sub-result-then-number-lt0 : goal.overflow_sub-result-then-number-lt0
overflow_sub-result-then-number-lt0 c =
    let part : c.unsigned_part-part.result ≡ unsigned_part c.args.number = search rules in
    part_within c.args.count c.unsigned_part-part.result c.requires.count.0 c.requires.count.1
    (subst (λ (n : ℕ). n < 2 ^ (8 * c.args.count - 1)) (sym part) c.requires.fits)

pub returns-then-number-lt0 : goal.returns-then-number-lt0
returns-then-number-lt0 c =
    let part : c.unsigned_part-part.result ≡ unsigned_part c.args.number = search rules in
    let below : lt_z c.args.number (pos 0) ≡ true = search rules in
    ap (λ (n : ℕ). n - c.unsigned_part-part.result) (ones_are c.args.count c.requires.count.0 c.requires.count.1)
    ∙ ap (λ (n : ℕ). 2 ^ (8 * c.args.count) - 1 - n) part
    ∙ sym (negative c.args.count c.args.number below)
