use Rattle.std.proofs.Common.{◌≤◌, length, sym, arith}
use Rattle.std.proofs.lemmas.List.{length-take-le}
use Rattle.aper_decode.proofs.Front.{front_decoded}
use Rattle.aper_decode.proofs.decoder.front.Goals as goal

pub slice_bounds-result-end : goal.slice_bounds-result-end
slice_bounds-result-end c =
    let within : 131073 ≤ length c.args.octets.now = omega arith in
    sym (length-take-le 131073 c.args.octets.now within)

pub returns-then-octets-gt-FRONT-clause-short : goal.returns-then-octets-gt-FRONT-clause-short
returns-then-octets-gt-FRONT-clause-short c =
    let within : 131073 ≤ length c.args.octets.now = omega arith in
    omega (arith, length-take-le 131073 c.args.octets.now within)

pub returns-then-octets-gt-FRONT-clause-same : goal.returns-then-octets-gt-FRONT-clause-same
returns-then-octets-gt-FRONT-clause-same c = λ t.
    let within : 131073 ≤ length c.args.octets.now = omega arith in
    front_decoded t c.args.octets.now 131073 (omega arith) within
