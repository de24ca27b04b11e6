use Rattle.std.proofs.Common.{◌≡◌, ◌+◌, ◌∙◌, length, inl, inr, sym, arith, drop}
use Rattle.std.proofs.lemmas.Result.{err_from_is_err_and}
use Rattle.std.proofs.lemmas.Slice.{between_to_end}
use Rattle.gnb_types.specs.Refusals.{IsFirst}
use Rattle.gtpu.specs.Refusals.{IsRefusal, header_refusals, length_of, first_of}
use Rattle.gtpu.proofs.Reading.{Opens, past_twice, seq_read, npdu_read, first_read, first_none, refused_short, refused_version, refused_kind, refused_truncated, refused_longer, refused_flagged, refused_headers, found_plain, found_flagged}
use Rattle.gtpu.proofs.Flags.{no_flag, some_flag}
use Rattle.gtpu.proofs.read.Goals as goal
use Rattle.gtpu.proofs.read.Goals.{then-flags-ne0, else-flags-ne0}

pub returns-in_default-clause-refused : goal.returns-in_default-clause-refused
returns-in_default-clause-refused c = refused_short c.args.bytes.now c.in_default.len_below

pub returns-then-flags-ne-VERSION-clause-refused : goal.returns-then-flags-ne-VERSION-clause-refused
returns-then-flags-ne-VERSION-clause-refused c = refused_version c.args.bytes.now c.in-len8-up.len_at_least c.if-flags-ne-VERSION.true

pub returns-in_default-kind_of-clause-refused : goal.returns-in_default-kind_of-clause-refused
returns-in_default-kind_of-clause-refused c = refused_kind c.args.bytes.now c.in-len8-up.len_at_least c.if-flags-ne-VERSION.false c.in_default-kind_of.ensures.none

pub returns-in_err-check_length-clause-refused : goal.returns-in_err-check_length-clause-refused
returns-in_err-check_length-clause-refused c =
    let bytes = c.args.bytes.now in
    let o : Opens bytes c.in-Some.kind = record { long = c.in-len8-up.len_at_least; version = c.if-flags-ne-VERSION.false; code = c.in-Some.ensures.found } in
    let p = err_from_is_err_and c.from_residual.result c.from_residual.ensures.1 in
    let e = c.in_err-check_length.field-0.0 in
    let refused : IsRefusal e bytes =
    elim c.in_err-check_length.ensures.err [
      | inl few ↦ rw few.1 (refused_truncated bytes c.in-Some.kind o (omega (arith, c.from_be_bytes.ensures, c.from-stated.ensures, few.0)))
      | inr more ↦ rw more.1 (refused_longer bytes c.in-Some.kind o (omega (arith, c.from_be_bytes.ensures, c.from-stated.ensures, more.0)))
    ] in
    rw (p.1, p.2) refused

pub returns-then-flags-eq0-clause-found : goal.returns-then-flags-eq0-clause-found
returns-then-flags-eq0-clause-found c =
    let o : Opens c.args.bytes.now c.in-Some.kind = record { long = c.in-len8-up.len_at_least; version = c.if-flags-ne-VERSION.false; code = c.in-Some.ensures.found } in
    let whole : length c.args.bytes.now ≡ 8 + length_of c.args.bytes.now = omega (arith, c.from_be_bytes.ensures, c.from-stated.ensures, c.in_ok-check_length.ensures.ok) in
    rw c.from_be_bytes-teid.ensures (found_plain c.args.bytes.now _ c.in-Some.kind (between_to_end c.args.bytes.now 8 (length c.args.bytes.now) (omega arith)) o whole (no_flag _ c.if-flags-eq0.true))

pub returns-in_default-body-clause-refused : goal.returns-in_default-body-clause-refused
returns-in_default-body-clause-refused c =
    let o : Opens c.args.bytes.now c.in-Some.kind = record { long = c.in-len8-up.len_at_least; version = c.if-flags-ne-VERSION.false; code = c.in-Some.ensures.found } in
    let whole : length c.args.bytes.now ≡ 8 + length_of c.args.bytes.now = omega (arith, c.from_be_bytes.ensures, c.from-stated.ensures, c.in_ok-check_length.ensures.ok) in
    refused_flagged c.args.bytes.now c.in-Some.kind o whole (some_flag _ c.if-flags-eq0.false) (omega (arith, whole, c.in_default-body.len_below))

pub returns-in_err-chain-clause-refused : goal.returns-in_err-chain-clause-refused
returns-in_err-chain-clause-refused c =
    let bytes = c.args.bytes.now in
    let o : Opens bytes c.in-Some.kind = record { long = c.in-len8-up.len_at_least; version = c.if-flags-ne-VERSION.false; code = c.in-Some.ensures.found } in
    let whole : length bytes ≡ 8 + length_of bytes = omega (arith, c.from_be_bytes.ensures, c.from-stated.ensures, c.in_ok-check_length.ensures.ok) in
    let first : c.if-flags-ne0.first ≡ first_of bytes =
    elim c.if-flags-ne0.branch [ then-flags-ne0 w ↦ w.first-is ∙ first_read bytes w.if-flags-ne0.true | else-flags-ne0 w ↦ w.first-is ∙ first_none bytes w.if-flags-ne0.false ] in
    let p = err_from_is_err_and c.from_residual-in_err-chain.result c.from_residual-in_err-chain.ensures.1 in
    let at : IsFirst (header_refusals (first_of bytes) (drop 12 bytes)) c.in_err-chain.field-0.0 = rw (first, past_twice bytes) at c.in_err-chain.ensures.refused in
    rw (p.1, p.2) (refused_headers bytes c.in-Some.kind c.in_err-chain.field-0.0 o whole (omega (arith, whole, c.in-len4-up.len_at_least)) at)

pub returns-clause-found : goal.returns-clause-found
returns-clause-found c =
    let bytes = c.args.bytes.now in
    let o : Opens bytes c.in-Some.kind = record { long = c.in-len8-up.len_at_least; version = c.if-flags-ne-VERSION.false; code = c.in-Some.ensures.found } in
    let whole : length bytes ≡ 8 + length_of bytes = omega (arith, c.from_be_bytes.ensures, c.from-stated.ensures, c.in_ok-check_length.ensures.ok) in
    let first : c.if-flags-ne0.first ≡ first_of bytes =
    elim c.if-flags-ne0.branch [ then-flags-ne0 w ↦ w.first-is ∙ first_read bytes w.if-flags-ne0.true | else-flags-ne0 w ↦ w.first-is ∙ first_none bytes w.if-flags-ne0.false ] in
    found_flagged bytes _ o c.from_be_bytes-teid.ensures whole (some_flag _ c.if-flags-eq0.false) (omega (arith, whole, c.in-len4-up.len_at_least))
    (seq_read bytes c.from_be_bytes-2.result c.then_some.result c.from_be_bytes-2.ensures c.then_some.ensures)
    (npdu_read bytes c.then_some-2.result c.then_some-2.ensures)
    first
    c.in_ok-chain.ensures.found.0
    (sym (past_twice bytes) ∙ c.in_ok-chain.ensures.found.1)
