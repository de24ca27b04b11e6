use Rattle.std.proofs.Common.{◌≡◌, ap, ◌∙◌, rules}
use Rattle.std.specs.Int.{cast_signed, cast_unsigned, w128}
use Rattle.aper_defs.specs.Values.{number}
use Rattle.aper_values.specs.Views.{view}
use Rattle.aper_values.specs.declared.value.Value.{the_lemmas}
use Rattle.aper.proofs.writing.IntegerLayouts.{integer_follows}
use Rattle.aper.proofs.writing.simple.put_whole_number.Goals as goal

pub returns-clause-follows : goal.returns-clause-follows
returns-clause-follows c =
    let low : cast_signed w128 (cast_unsigned w128 c.args.low) ≡ c.args.low = search rules in
    let high : cast_signed w128 (cast_unsigned w128 c.args.high) ≡ c.args.high = search rules in
    let same : cast_signed w128 (cast_unsigned w128 c.in-Int.number) ≡ c.in-Int.number = search rules in
    let seen : view c.args.value.now ≡ number c.in-Int.number = rw c.in-Int.is (search (rules, the_lemmas)) in
    integer_follows c.args.low c.args.high c.in-Int.number _ _ _ c.args.extensible c.args.out.now c.put_integer.new.out (view c.args.value.now)
    low high same seen c.in_ok-put_integer-in-Int.ensures.follows
