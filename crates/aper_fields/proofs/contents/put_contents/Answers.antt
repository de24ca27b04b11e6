use Rattle.std.proofs.Common.{◌≡◌, ℕ, ◌%◌, length, rules}
use Rattle.std.proofs.lemmas.Result.{on_ok_weaker}
use Rattle.aper_fields.proofs.Opened.{opened_put, told_whole}
use Rattle.aper_fields.proofs.contents.put_contents.Goals as goal

pub returns-clause-opened : goal.returns-clause-opened
returns-clause-opened c =
    let n : ℕ = length c.args.octets.now in
    let whole : length c.put_extent.new.out.bits % 8 ≡ 0 =
    told_whole (length c.put_pad.new.out.bits) n (length c.put_extent.new.out.bits) c.in_ok-put_pad.ensures.aligned
    (search rules) in
    on_ok_weaker c.put_octets.result (λ follows p inside fs rest e.
    opened_put c.args.out.now c.put_pad.new.out c.put_extent.new.out c.put_octets.new.out p inside c.args.octets.now fs rest e
    c.in_ok-put_pad.ensures.follows n (search rules) c.in_ok-put_extent.ensures.opens whole follows) c.put_octets.ensures.follows
