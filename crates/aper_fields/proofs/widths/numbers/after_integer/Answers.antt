use Rattle.std.proofs.Common.{◌≡◌, ℕ, true, false, subst, rules}
use Rattle.std.specs.Prelude.{ℤ}
use Rattle.std.specs.Int.{cast_signed, cast_unsigned, w128}
use Rattle.aper_defs.specs.Numbers.{in_range, above}
use Rattle.aper_defs.specs.Fields as roles
use Rattle.aper_defs.specs.Parts.{number_fields}
use Rattle.aper_fields.specs.Outside.{outside_fields}
use Rattle.aper_fields.specs.widths.Ends.{Ends}
use Rattle.aper_fields.proofs.widths.NumberLemmas.{integer_inside, integer_outside}
use Rattle.aper_fields.proofs.widths.numbers.after_integer.Goals as goal

pub returns-then-in_range : goal.returns-then-in_range
returns-then-in_range c =
    let begin = c.after_extension-begin.result in
    let new = c.after_number.result in
    let inside : in_range c.args.low c.args.high c.args.number ≡ true = search rules in
    let span : c.above.result ≡ above c.args.low c.args.high = search rules in
    let number : c.above-then-in_range.result ≡ above c.args.low c.args.number = search rules in
    integer_inside c.args.low c.args.high c.args.number c.args.extensible c.args.place begin new inside (c.after_extension-begin.ensures false)
    (subst (λ (m : ℕ). Ends begin new (λ p. number_fields p roles.value m (above c.args.low c.args.number))) span
    (subst (λ (m : ℕ). Ends begin new (λ p. number_fields p roles.value c.above.result m)) number (c.after_number.ensures roles.value)))

pub returns : goal.returns
returns c =
    let begin = c.after_extension-begin.result in
    let new = c.after_outside.result in
    let outside : in_range c.args.low c.args.high c.args.number ≡ false = search rules in
    let same : cast_signed w128 (cast_unsigned w128 c.args.number) ≡ c.args.number = search rules in
    integer_outside c.args.low c.args.high c.args.number c.args.extensible c.args.place begin new outside (c.after_extension-begin.ensures true)
    (subst (λ (z : ℤ). Ends begin new (λ p. outside_fields p c.args.low c.args.high z)) same (c.after_outside.ensures c.args.low c.args.high))
