use Rattle.std.proofs.Common.{◌≡◌, ◌==◌, false, length, refl, sym, ◌∙◌, arith}
use Rattle.aper.proofs.measuring.OctetLemmas.{raw_measured}
use Rattle.aper.proofs.measuring.contents.octets_end.Goals as goal

pub returns : goal.returns
returns c =
    let os = c.args.contents.now in
    let some : (length os == 0) ≡ false = sym c.is_empty.ensures ∙ c.if-is_empty.false in
    raw_measured os c.args.place c.after_contents.result some c.if-contents-gt-CONTENTS_LIMIT.false
    (λ k. omega (arith, c.type_inv.contents k))
    (λ p inside rest. c.after_contents.ensures.raw p inside os rest refl)
