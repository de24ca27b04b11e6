use Rattle.std.proofs.Common.{◌≡◌, ◌+◌, ◌++◌, ◌∙◌, ap, List, ℕ, length, Bor}
use Rattle.gtpu.specs.Packets.{view, optional_of}
use Rattle.gtpu.proofs.Writing.{no_fields, all_fields, length-body, in_pieces}
use Rattle.gtpu.proofs.encode.Goals as goal
use Rattle.gtpu.proofs.encode.Goals.{then-flags-eq0, else-flags-eq0}

pub returns : goal.returns
returns c =
    let p = view c.args.p.now in
    let flags = c.first_octet-flags.ensures in
    let is : c.if-flags-eq0.optional.now ≡ optional_of p =
    elim c.if-flags-eq0.branch [
      | then-flags-eq0 w ↦ ap (λ (x : Bor (List ℕ)). x.now) w.optional-is ∙ no_fields p c.first_octet-flags.result flags w.if-flags-eq0.true
      | else-flags-eq0 w ↦ ap (λ (x : Bor (List ℕ)). x.now) w.optional-is ∙ c.optional_fields-fields.ensures
          ∙ all_fields p c.first_octet-flags.result flags w.if-flags-eq0.false
    ] in
    in_pieces p c.new-octets.result c.append.new.self c.append-2.new.self c.append-3.new.self c.append-4.new.self c.append-5.new.self c.append-6.new.self
    c.first_octet-flags.result c.code_of.result (length c.if-flags-eq0.optional.now + length p.chain + length p.payload) c.if-flags-eq0.optional.now
    flags c.code_of.ensures (length-body p c.if-flags-eq0.optional.now is) is
    c.new-octets.ensures c.in_ok-append.ensures.ok
    (c.in_ok-append-2.ensures.ok ∙ ap (λ (x : List ℕ). c.append.new.self ++ x) c.to_be_bytes.ensures)
    (c.in_ok-append-3.ensures.ok ∙ ap (λ (x : List ℕ). c.append-2.new.self ++ x) c.to_be_bytes-2.ensures)
    c.in_ok-append-4.ensures.ok c.in_ok-append-5.ensures.ok c.in_ok-append-6.ensures.ok
