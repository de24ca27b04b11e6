use Rattle.std.proofs.Common.{◌≡◌, ℕ, Bool, true, false, not, ap, subst, rules}
use Rattle.std.specs.Prelude.{ℤ}
use Rattle.std.specs.Int.{cast_signed, cast_unsigned, w128}
use Rattle.aper_defs.specs.Numbers.{in_range, above}
use Rattle.aper_defs.specs.Fields as roles
use Rattle.aper_defs.specs.Parts.{extension_fields, number_fields}
use Rattle.aper_fields.specs.Following.{Follows}
use Rattle.aper_fields.specs.Outside.{outside_fields}
use Rattle.aper_fields.proofs.IntegerLemmas.{integer_inside, integer_outside}
use Rattle.aper_fields.proofs.numbers.put_integer.Goals as goal

pub returns-then-is_inside-clause-follows : goal.returns-then-is_inside-clause-follows
returns-then-is_inside-clause-follows c =
    let inside : in_range c.args.low c.args.high c.args.number ≡ true = search rules in
    let span : c.above.result ≡ above c.args.low c.args.high = search rules in
    let number : c.above-then-is_inside.result ≡ above c.args.low c.args.number = search rules in
    integer_inside c.args.low c.args.high c.args.number c.args.extensible c.args.out.now c.put_extension.new.out c.put_number.new.out inside
    (subst (λ (b : Bool). Follows c.args.out.now c.put_extension.new.out (λ p. extension_fields p c.args.extensible b))
    (ap not c.if-is_inside.true) c.in_ok-put_extension.ensures.follows)
    (subst (λ (m : ℕ). Follows c.put_extension.new.out c.put_number.new.out (λ p. number_fields p roles.value m (above c.args.low c.args.number)))
    span
    (subst (λ (m : ℕ). Follows c.put_extension.new.out c.put_number.new.out (λ p. number_fields p roles.value c.above.result m)) number
    (c.in_ok-put_number.ensures.follows roles.value)))

pub returns-clause-follows : goal.returns-clause-follows
returns-clause-follows c =
    let outside : in_range c.args.low c.args.high c.args.number ≡ false = search rules in
    let same : cast_signed w128 (cast_unsigned w128 c.args.number) ≡ c.args.number = search rules in
    integer_outside c.args.low c.args.high c.args.number c.args.extensible c.args.out.now c.put_extension.new.out c.put_outside.new.out outside
    (subst (λ (b : Bool). Follows c.args.out.now c.put_extension.new.out (λ p. extension_fields p c.args.extensible b))
    (ap not c.if-is_inside.false) c.in_ok-put_extension.ensures.follows)
    (subst (λ (z : ℤ). Follows c.put_extension.new.out c.put_outside.new.out (λ p. outside_fields p c.args.low c.args.high z)) same
    (c.in_ok-put_outside.ensures.follows c.args.low c.args.high))
