use Rattle.std.proofs.Common.{◌≡◌, Ok, Err, ap, subst, rules}
use Rattle.std.specs.Prelude.{ℤ}
use Rattle.std.specs.Int.{cast_signed, cast_unsigned, w128}
use Rattle.std.proofs.lemmas.Result.{err_from_is_err_and}
use Rattle.aper_cursor.specs.declared.error.Unanswered.{Unanswered}
use Rattle.aper_defs.specs.Trees.{boolean, integer, enumerated, bit_string, octet_string, printable_string}
use Rattle.aper_defs.specs.Asking.{asks}
use Rattle.aper_values.specs.types.Forms.{form_tree}
use Rattle.aper_frames.specs.simple.Reads.{Reads}
use Rattle.proof_aper.proofs.followed.Plain.{plain_boolean, plain_whole_number, plain_enumerated, plain_bit_string, plain_octet_string, plain_printable_string}
use Rattle.aper_stream.proofs.resuming.Simple.{read_made, read_refused}
use Rattle.aper_stream.proofs.resuming.begin.begin.Goals as goal

pub returns-in_err-read_integer-in-Integer-clause-asked : goal.returns-in_err-read_integer-in-Integer-clause-asked
returns-in_err-read_integer-in-Integer-clause-asked c =
    let from = c.from_residual-in_err-read_integer-in-Integer in
    let p = err_from_is_err_and from.result from.ensures.1 in
    let i = c.in-Integer in
    let old = c.args.cursor.now in
    let new = c.read_integer.new.cursor in
    let e : Unanswered = c.in_err-read_integer-in-Integer.field-0.0 in
    let low : cast_signed w128 (cast_unsigned w128 i.low) ≡ i.low = search rules in
    let high : cast_signed w128 (cast_unsigned w128 i.high) ≡ i.high = search rules in
    rw (p.1, p.2) (
    read_refused (λ of. form_tree of c.args.form) (integer i.low i.high i.extensible) (λ of. ap (form_tree of) i.is)
    c.args.frames.now old new e
    (subst (λ (z : ℤ). Reads (λ way. asks way (integer i.low z i.extensible)) old new (Err e)) high
    (subst (λ (z : ℤ). Reads (λ way. asks way (integer z (cast_signed w128 (cast_unsigned w128 i.high)) i.extensible)) old new (Err e)) low
    (c.in_err-read_integer-in-Integer.ensures {u = tt}))))

pub returns-in_ok-read_integer-in-Integer-clause-asked : goal.returns-in_ok-read_integer-in-Integer-clause-asked
returns-in_ok-read_integer-in-Integer-clause-asked c =
    let i = c.in-Integer in
    let old = c.args.cursor.now in
    let new = c.read_integer.new.cursor in
    let v = c.in_ok-read_integer-in-Integer.field-0 in
    let low : cast_signed w128 (cast_unsigned w128 i.low) ≡ i.low = search rules in
    let high : cast_signed w128 (cast_unsigned w128 i.high) ≡ i.high = search rules in
    read_made (λ of. form_tree of c.args.form) (integer i.low i.high i.extensible) (λ of. ap (form_tree of) i.is) c.args.frames.now old new
    (plain_whole_number i.low i.high i.extensible) v
    (subst (λ (z : ℤ). Reads (λ way. asks way (integer i.low z i.extensible)) old new (Ok v)) high
    (subst (λ (z : ℤ). Reads (λ way. asks way (integer z (cast_signed w128 (cast_unsigned w128 i.high)) i.extensible)) old new (Ok v)) low
    (c.in_ok-read_integer-in-Integer.ensures {u = tt})))

pub returns-in_ok-read_boolean-in-Boolean-clause-asked : goal.returns-in_ok-read_boolean-in-Boolean-clause-asked
returns-in_ok-read_boolean-in-Boolean-clause-asked c =
    let i = c.in-Boolean in
    let made = c.in_ok-read_boolean-in-Boolean in
    read_made (λ of. form_tree of c.args.form) boolean (λ of. ap (form_tree of) i.is) c.args.frames.now c.args.cursor.now
    c.read_boolean.new.cursor plain_boolean made.field-0 (made.ensures {u = tt})

pub returns-in_ok-read_enumerated-in-Enumerated-clause-asked : goal.returns-in_ok-read_enumerated-in-Enumerated-clause-asked
returns-in_ok-read_enumerated-in-Enumerated-clause-asked c =
    let i = c.in-Enumerated in
    let made = c.in_ok-read_enumerated-in-Enumerated in
    read_made (λ of. form_tree of c.args.form) (enumerated i.names i.extensible) (λ of. ap (form_tree of) i.is) c.args.frames.now
    c.args.cursor.now
    c.read_enumerated.new.cursor (plain_enumerated i.names i.extensible) made.field-0 (made.ensures {u = tt})

pub returns-in_ok-read_bit_string-in-BitString-clause-asked : goal.returns-in_ok-read_bit_string-in-BitString-clause-asked
returns-in_ok-read_bit_string-in-BitString-clause-asked c =
    let i = c.in-BitString in
    let made = c.in_ok-read_bit_string-in-BitString in
    read_made (λ of. form_tree of c.args.form) (bit_string i.size) (λ of. ap (form_tree of) i.is) c.args.frames.now c.args.cursor.now
    c.read_bit_string.new.cursor (plain_bit_string i.size) made.field-0 (made.ensures {u = tt})

pub returns-in_ok-read_octet_string-in-OctetString-clause-asked : goal.returns-in_ok-read_octet_string-in-OctetString-clause-asked
returns-in_ok-read_octet_string-in-OctetString-clause-asked c =
    let i = c.in-OctetString in
    let made = c.in_ok-read_octet_string-in-OctetString in
    read_made (λ of. form_tree of c.args.form) (octet_string i.size) (λ of. ap (form_tree of) i.is) c.args.frames.now c.args.cursor.now
    c.read_octet_string.new.cursor (plain_octet_string i.size) made.field-0 (made.ensures {u = tt})

pub returns-in_ok-read_printable_string-in-PrintableString-clause-asked : goal.returns-in_ok-read_printable_string-in-PrintableString-clause-asked
returns-in_ok-read_printable_string-in-PrintableString-clause-asked c =
    let i = c.in-PrintableString in
    let made = c.in_ok-read_printable_string-in-PrintableString in
    read_made (λ of. form_tree of c.args.form) (printable_string i.size) (λ of. ap (form_tree of) i.is) c.args.frames.now c.args.cursor.now
    c.read_printable_string.new.cursor (plain_printable_string i.size) made.field-0 (made.ensures {u = tt})
