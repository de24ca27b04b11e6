use Rattle.std.proofs.Common.{◌≡◌, rules}
use Rattle.std.specs.Int.{cast_signed, cast_unsigned, w128}
use Rattle.aper_defs.specs.Asking.{asks}
use Rattle.aper_values.specs.types.Forms.{form_tree}
use Rattle.aper_decode.proofs.PutLemmas.{puts, integer_reads}
use Rattle.aper_decode.proofs.simple.put_part.Goals as goal

pub returns-in-Integer : goal.returns-in-Integer
returns-in-Integer g c = λ of.
    let i = c.in-Integer in
    let low : cast_signed w128 (cast_unsigned w128 i.low) ≡ i.low = search rules in
    let high : cast_signed w128 (cast_unsigned w128 i.high) ≡ i.high = search rules in
    puts (g.K.Keep.keeps c.args.how.now) (λ p. asks p (form_tree of c.args.form)) c.args.cursor.now c.read_integer.new.cursor c.args.made.now.items
    c.put-in-Integer.new.made.items c.read_integer.result c.put-in-Integer.result
    (integer_reads of c.args.form i.low i.high _ _ i.extensible c.args.cursor.now c.read_integer.new.cursor c.read_integer.result i.is low high
    c.read_integer.ensures)
    c.put-in-Integer.ensures
