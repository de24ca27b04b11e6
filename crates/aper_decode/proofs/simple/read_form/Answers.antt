use Rattle.std.proofs.Common.{◌≡◌, rules}
use Rattle.std.specs.Int.{cast_signed, cast_unsigned, w128}
use Rattle.aper_decode.proofs.PutLemmas.{integer_reads}
use Rattle.aper_decode.proofs.simple.read_form.Goals as goal

pub returns-in-Integer : goal.returns-in-Integer
returns-in-Integer c = λ of.
    let i = c.in-Integer in
    let low : cast_signed w128 (cast_unsigned w128 i.low) ≡ i.low = search rules in
    let high : cast_signed w128 (cast_unsigned w128 i.high) ≡ i.high = search rules in
    integer_reads of c.args.form i.low i.high _ _ i.extensible c.args.cursor.now c.read_integer.new.cursor c.read_integer.result i.is low high
    c.read_integer.ensures
