use Rattle.std.proofs.Common.{◌≡◌, true, length, None, refl, rules, arith}
use Rattle.aper_defs.specs.Values.{octets}
use Rattle.aper_defs.specs.Membership.{is_count_of}
use Rattle.aper.proofs.measuring.OctetLemmas.{octets_measured}
use Rattle.aper.proofs.measuring.simple.octets_end.Goals as goal

pub returns : goal.returns
returns c =
    let counted : is_count_of None c.args.size (length c.args.contents.now) ≡ true = search rules in
    octets_measured c.args.size c.args.contents.now (octets c.args.contents.now) c.args.place c.after_string.result refl counted
    (λ k. omega (arith, c.type_inv.contents k)) c.after_string.ensures
