use Rattle.std.proofs.Common.{◌/◌, ◌%◌, Some, ap, sym, ◌∙◌}
use Rattle.std.proofs.lemmas.Option.{slice_get-get_or, slice_get_past, slice_get_read}
use Rattle.pdcp_entities.proofs.BitLemmas.{bit_in, bit_at}
use Rattle.pdcp_entities.proofs.bits.is_set.Goals as goal

pub returns-in-Some : goal.returns-in-Some
returns-in-Some c =
    let facts = c.in-Some.ensures.lookup.3 in
    let found = slice_get-get_or c.args.bits.now (c.args.i / 8) c.in-Some.octet.now facts.0 in
    ap (λ o. bit_in o (c.args.i % 8)) (ap (λ o. Some o) (facts.1 c.in-Some.octet.now) ∙ sym found) ∙ sym (bit_at c.args.bits.now c.args.i)

pub returns-in-None : goal.returns-in-None
returns-in-None c =
    ap (λ o. bit_in o (c.args.i % 8)) (sym (slice_get_past c.args.bits.now (c.args.i / 8) c.in-None.ensures.lookup.3)) ∙ sym (bit_at c.args.bits.now c.args.i)
